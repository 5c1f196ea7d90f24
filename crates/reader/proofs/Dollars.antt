-- The end of a comment by its bytes is its end by its tokens; what is visible in it are the tokens that may not stand there.
-- Assumes nothing.
use mathlib.Core.Path.{◌≡◌, refl, sym, ap, ◌∙◌}
use mathlib.Core.Logic.{◌≢◌}
use mathlib.Core.Bool.{Bool, true, false}
use mathlib.Core.List.{List, [], ◌∷◌, ◌++◌, append-nil}
use mathlib.Core.Option.{Option, none, some}
use Prim.Native.Nat.{ℕ, zero, suc, ◌+◌, ◌-◌, ◌<◌, ◌≤◌}
use native.Mathlib.Nat.{add-zero}
use native.Mathlib.Numerals.{add-one}
use native.Mathlib.Omega.{arith}
use lib.Dec.{eqb}
use lib.ListN.{length, get_or, take, drop, drop_of_length-le}
use lib.Seq.{drop-cons, drop-drop}
use borrow.Author.Tests.{eq-eqb, ne_eqb, eqb-true}
use Rattle.paper.specs.Base.{and, sameb, all, keep}
use Rattle.paper.specs.Bytes.{white}
use Rattle.paper.specs.Tokens.{Token, run, toks, key}
use Rattle.paper.specs.Comments.{outside, inside, after, bracketed, marked, visible}
use Rattle.paper.proofs.Comments.{after_append}
use Rattle.paper.proofs.Tests.{split, clash, eqb_ne}
use Rattle.token.specs.Words.{tokens_from}
use Rattle.token.proofs.Classes.{white_low}
use Rattle.token.proofs.Words.{tokens_end}
use Rattle.reader.proofs.After.{tokens_after, all_kept_from}
use Rattle.reader.specs.Dollar.{gap_first, shuts, closes_first, close_from, opens_at, seek, Dollar}
use Rattle.reader.specs.Passed.{Commented}
use Rattle.reader.specs.declared.comment.Comment.TheVariants as comment

-- ---- by the list
pub white_plain : (b : ℕ) → white b ≡ true → eqb b 36 ≡ false
white_plain b e = ne_eqb b 36 (λ q. omega (arith, q, white_low b e))

pub and_none : (w : Bool) → and w false ≡ false
and_none true = refl
and_none false = refl

pub and_both : (a b : Bool) → and a b ≡ true → (a ≡ true) × (b ≡ true)
and_both true b e = (refl, e)
and_both false b e = absurd (clash (sym e))

-- `)` and white space or the end: the token's bytes go on with just `)`, and the tokens after it follow
shuts_run : (l : List ℕ) (o : ℕ) → shuts l ≡ true → ((run l o).head ≡ 41 ∷ []) × ((run l o).rest ≡ toks (drop 1 l) (suc o))
unfolding run toks white
shuts_run [] o e = absurd (clash (sym e))
shuts_run (b ∷ []) o e =
    split (eqb b 41)
    (λ q. let z : b ≡ 41 = eqb-true b 41 q in rw z (refl, refl))
    (λ q. absurd (clash (sym (rw q at e))))
shuts_run (b ∷ c ∷ l) o e =
    split (eqb b 41)
    (λ q. let z : b ≡ 41 = eqb-true b 41 q in let w : white c ≡ true = rw q at e in after_white c l z w)
    (λ q. absurd (clash (sym (rw q at e))))
  where
    after_white : (c : ℕ) (l : List ℕ) → b ≡ 41 → white c ≡ true → ((run (b ∷ c ∷ l) o).head ≡ 41 ∷ []) × ((run (b ∷ c ∷ l) o).rest ≡ toks (c ∷ l) (suc o))
    after_white c l z w = rw (z, w) (refl, refl)

-- anything else after `$`: the token is not `$)`
not_shuts : (l : List ℕ) (o : ℕ) → shuts l ≡ false → sameb (run l o).head (41 ∷ []) ≡ false
unfolding run sameb
not_shuts [] o e = refl
not_shuts (b ∷ []) o e =
    split (white b)
    (λ w. rw w)
    (λ w. split (eqb b 41) (λ q. absurd (clash (rw q at e))) (λ q. rw (w, q)))
not_shuts (b ∷ c ∷ l) o e =
    split (white b)
    (λ w. rw w)
    (λ w. split (eqb b 41) (λ q. let v : white c ≡ false = rw q at e in rw (w, q, v)) (λ q. rw (w, q)))

-- what some tokens of a comment do, where their bytes l start at offset o and close at an offset, or not at all
pub record Shut (ts : List Token) (l : List ℕ) (o e : ℕ) : Type 0 where
  pub pre : List Token
  pub split_at : ts ≡ pre ++ toks (drop (e - o) l) e
  pub hides : (p : ℕ) → visible pre (inside p) ≡ keep marked pre
  pub leaves : (p : ℕ) → after pre (inside p) ≡ outside
  pub from : o < e

abbrev Closes : List Token → List ℕ → ℕ → Option ℕ → Type 0
Closes ts l o none = (p : ℕ) → (visible ts (inside p) ≡ keep marked ts) × (after ts (inside p) ≡ inside p)
Closes ts l o (some e) = Shut ts l o e

closes_shift : (ts : List Token) (b : ℕ) (l : List ℕ) (o : ℕ) (x : Option ℕ) → Closes ts l (suc o) x → Closes ts (b ∷ l) o x
closes_shift ts b l o none h = h
closes_shift ts b l o (some e) h =
    let f = h.from in
    let q : e - o ≡ suc (e - suc o) = omega arith in
    record { pre = h.pre; split_at = rw q h.split_at; hides = h.hides; leaves = h.leaves; from = omega arith }

visible_cons : (x : Token) (l : List Token) (p : ℕ) → key 41 x ≡ false → visible l (inside p) ≡ keep marked l → visible (x ∷ l) (inside p) ≡ keep marked (x ∷ l)
unfolding visible keep
visible_cons x l p k h = split (bracketed x.bytes) (λ b. rw (k, b, h)) (λ b. rw (k, b, h))

closes_cons : (x : Token) (ts : List Token) (l : List ℕ) (o : ℕ) (y : Option ℕ) → key 41 x ≡ false → Closes ts l o y → Closes (x ∷ ts) l o y
unfolding visible after
closes_cons x ts l o none k h = λ p. (visible_cons x ts p k (h p).0, rw k (h p).1)
closes_cons x ts l o (some e) k h =
    record {
      pre = x ∷ h.pre;
      split_at = ap (λ r. x ∷ r) h.split_at;
      hides = λ p. visible_cons x h.pre p k (h.hides p);
      leaves = λ p. rw k (h.leaves p);
      from = h.from;
    }

-- the token `$)` itself
closes_here : (l : List ℕ) (o : ℕ) → shuts l ≡ true
    → Shut (record { at = o; bytes = 36 ∷ (run l (suc o)).head } ∷ (run l (suc o)).rest) (36 ∷ l) o (o + 2)
unfolding visible after key sameb keep bracketed
closes_here l o e =
    let r = shuts_run l (suc o) e in
    let q : o + 2 - o ≡ 2 = omega arith in
    let k : suc (suc o) ≡ o + 2 = omega arith in
    record {
      pre = record { at = o; bytes = 36 ∷ (run l (suc o)).head } ∷ [];
      split_at = rw (q, r.1, k);
      hides = λ p. rw r.0;
      leaves = λ p. rw r.0;
      from = omega arith;
    }

key_first : (b : ℕ) (h : List ℕ) (o : ℕ) → eqb b 36 ≡ false → key 41 (record { at = o; bytes = b ∷ h }) ≡ false
unfolding key sameb
key_first b h o e = rw e

key_later : (b : ℕ) (h : List ℕ) (o : ℕ) → eqb b 36 ≡ true → sameb h (41 ∷ []) ≡ false → key 41 (record { at = o; bytes = b ∷ h }) ≡ false
unfolding key sameb
key_later b h o e f = rw e f

closes : (l : List ℕ) (o : ℕ) → Closes (toks l o) l o (close_from l o true) × Closes (run l o).rest l o (close_from l o false)
unfolding run toks close_from visible after keep
closes [] o = (λ p. (refl, refl), λ p. (refl, refl))
closes (b ∷ l) o =
    let h = closes l (suc o) in
    split (white b)
    (λ w. rw (w, white_plain b w) (closes_shift (toks l (suc o)) b l o (close_from l (suc o) true) h.0, closes_shift (toks l (suc o)) b l o (close_from l (suc o) true) h.0))
    (λ w.
    let rest = (run l (suc o)).rest in
    let late = closes_shift rest b l o (close_from l (suc o) false) h.1 in
    rw w (
      split (eqb b 36)
          (λ d. split (shuts l)
          (λ s. let z : b ≡ 36 = eqb-true b 36 d in rw (z, s) (closes_here l o s))
          (λ s. rw (d, s) (closes_cons _ rest (b ∷ l) o (close_from l (suc o) false) (no_key b l o d s) late)))
          (λ d. rw d (closes_cons _ rest (b ∷ l) o (close_from l (suc o) false) (no_dollar b l o d) late)),
      late,
    ))
  where
    no_key : (b : ℕ) (l : List ℕ) (o : ℕ) → eqb b 36 ≡ true → shuts l ≡ false → key 41 (record { at = o; bytes = b ∷ (run l (suc o)).head }) ≡ false
    no_key b l o d s = key_later b (run l (suc o)).head o d (not_shuts l (suc o) s)

    no_dollar : (b : ℕ) (l : List ℕ) (o : ℕ) → eqb b 36 ≡ false → key 41 (record { at = o; bytes = b ∷ (run l (suc o)).head }) ≡ false
    no_dollar b l o d = key_first b (run l (suc o)).head o d

-- ---- by the offset
opens_later : (t : List ℕ) (at i : ℕ) → at ≤ i → opens_at t at (i + 1) ≡ white (get_or t i 0)
unfolding opens_at
opens_later t at i l =
    let q : (i + 1) - 1 ≡ i = omega arith in
    rw (ne_eqb (i + 1) at (λ e. omega (arith, e)), q)

module _ (t : List ℕ) (at i : ℕ) where
  pub seek_end : length t ≤ i → seek t at i ≡ none
  unfolding seek close_from
  seek_end h = rw drop_of_length-le

  -- no `$)` starts here
  pub seek_step : at ≤ i → i < length t → and (opens_at t at i) (closes_first (drop i t)) ≡ false
      → seek t at (i + 1) ≡ seek t at i
  unfolding seek close_from
  seek_step l h e =
      let o : opens_at t at (i + 1) ≡ white (get_or t i 0) = opens_later t at i l in
      let q : and (opens_at t at i) (closes_first (get_or t i 0 ∷ drop (suc i) t)) ≡ false = rw (drop-cons t i 0 h) at e in
      rw (o, drop-cons t i 0 h, q, add-one)

  pub seek_here : i < length t → and (opens_at t at i) (closes_first (drop i t)) ≡ true → seek t at i ≡ some (i + 2)
  unfolding seek close_from
  seek_here h e =
      let q : and (opens_at t at i) (closes_first (get_or t i 0 ∷ drop (suc i) t)) ≡ true = rw (drop-cons t i 0 h) at e in
      rw (drop-cons t i 0 h, q)

-- over places where no `$)` starts
pub seek_over : (t : List ℕ) (at i m : ℕ) → at ≤ i → i + m ≤ length t → ((j : ℕ) → i ≤ j → j < i + m → closes_first (drop j t) ≡ false) → seek t at (i + m) ≡ seek t at i
seek_over t at i zero l h f = rw add-zero
seek_over t at i (suc m) l h f =
    let q : i + suc m ≡ (i + m) + 1 = omega arith in
    let n : and (opens_at t at (i + m)) (closes_first (drop (i + m) t)) ≡ false =
    rw (f (i + m) (omega arith) (omega arith)) (and_none (opens_at t at (i + m))) in
    rw q
    (seek_step t at (i + m) (omega arith) (omega arith) n
    ∙ seek_over t at i m l (omega arith) (λ j a b. f j a (omega arith)))

pub seek_dollar : {t : List ℕ} {i k : ℕ} (at : ℕ) → at ≤ i → Dollar t i k → seek t at k ≡ seek t at i
seek_dollar {t} {i} {k} at l d =
    let f = d.from in
    let q : i + (k - i) ≡ k = omega arith in
    rw q at (seek_over t at i (k - i) l (omega (arith, d.within)) (λ j a b.
    rw (drop-cons t j 0 (omega (arith, d.within)), ne_eqb (get_or t j 0) 36 (d.plain j a (omega arith)))))

pub seek_start : (t : List ℕ) (at : ℕ) → seek t at at ≡ close_from (drop at t) at true
unfolding seek opens_at
seek_start t at = rw (eq-eqb at at refl)

-- ---- the end of a comment, or none
kept_bad : (l : List Token) → all (λ y. bracketed y.bytes) (keep marked l) ≡ true
unfolding keep all
kept_bad [] = refl
kept_bad (x ∷ l) =
    split (bracketed x.bytes)
    (λ b. split (key 41 x) (λ k. rw (b, k) (kept_bad l)) (λ k. rw (b, k) (rw b (kept_bad l))))
    (λ b. rw b (kept_bad l))

pub comment_none : (t : List ℕ) (at : ℕ) → seek t at at ≡ none → Commented t at comment.Never
unfolding tokens_from
comment_none t at e =
    let h : Closes (toks (drop at t) at) (drop at t) at none = rw (sym (seek_start t at) ∙ e) at (closes (drop at t) at).0 in
    λ p. record {
      ms = keep marked (tokens_from t at);
      passed = record {
        pre = tokens_from t at;
        split = sym (ap (λ l. tokens_from t at ++ l) (tokens_end t) ∙ append-nil (tokens_from t at));
        shows = (h p).0;
        place = (h p).1;
      };
      bad = kept_bad (tokens_from t at);
      later = all_kept_from at (tokens_from t at) (tokens_after t at);
    }

-- the place after all tokens is that after those behind its `$)`
pub closes_last : (t : List ℕ) (at e p : ℕ) → seek t at at ≡ some e → after (tokens_from t at) (inside p) ≡ after (tokens_from t e) outside
unfolding tokens_from
closes_last t at e p q =
    let h : Shut (toks (drop at t) at) (drop at t) at e = rw (sym (seek_start t at) ∙ q) at (closes (drop at t) at).0 in
    let f = h.from in
    let g : at + (e - at) ≡ e = omega arith in
    let s : tokens_from t at ≡ h.pre ++ tokens_from t e = h.split_at ∙ rw (drop-drop (e - at) at t, g) in
    ap (λ (l : List Token). after l (inside p)) s ∙ after_append h.pre (tokens_from t e) (inside p) ∙ rw (h.leaves p)

-- ---- what the code looks at, by the offset
module _ (t : List ℕ) (i : ℕ) where
  pub gap_none : length t ≤ i → gap_first (drop i t) ≡ true
  gap_none h = rw drop_of_length-le

  pub gap_some : i < length t → gap_first (drop i t) ≡ white (get_or t i 0)
  gap_some h = rw (drop-cons t i 0 h)

  pub closes_none : i < length t → length t < i + 2 → closes_first (drop i t) ≡ false
  closes_none h l =
      let z : drop (suc i) t ≡ [] = drop_of_length-le t {i = suc i} (omega arith) in
      rw (drop-cons t i 0 h, z) (and_none (eqb (get_or t i 0) 36))

  pub closes_some : i + 2 ≤ length t → closes_first (drop i t) ≡ and (sameb (take (i + 2 - i) (drop i t)) (36 ∷ 41 ∷ [])) (gap_first (drop (i + 2) t))
  unfolding sameb
  closes_some h =
      let q : i + 2 - i ≡ 2 = omega arith in
      let s : i + 2 ≡ suc (suc i) = omega arith in
      rw (q, s, drop-cons t i 0 (omega arith), drop-cons t (suc i) 0 (omega arith))
      (split (eqb (get_or t i 0) 36)
      (λ e. rw e (split (eqb (get_or t (suc i) 0) 41) (λ f. rw f) (λ f. rw f)))
      (λ e. rw e))

  pub opens_same : (at : ℕ) → i ≡ at → opens_at t at i ≡ true
  unfolding opens_at
  opens_same at e = rw (eq-eqb i at e)

  pub opens_other : (at : ℕ) → (i ≡ at → ⊥) → opens_at t at i ≡ white (get_or t (i - 1) 0)
  unfolding opens_at
  opens_other at n = rw (ne_eqb i at n)

-- no `$` in one byte more
pub plain_more : (t : List ℕ) (at i : ℕ) → ((j : ℕ) → at ≤ j → j < i → get_or t j 0 ≢ 36) → get_or t i 0 ≢ 36 → (j : ℕ) → at ≤ j → j < i + 1 → get_or t j 0 ≢ 36
plain_more t at i f n j a b =
    split (eqb j i)
    (λ e. let q : j ≡ i = eqb-true j i e in rw q n)
    (λ e. let q : j ≢ i = eqb_ne e in f j a (omega (arith, q)))

-- the loop over the `$`: at the end of the text, at a `$)`, at another `$`
module _ (t : List ℕ) (at : ℕ) {i k : ℕ} (l : at ≤ i) (d : Dollar t i k) where
  pub loop_none : length t ≤ k → seek t at i ≡ none
  loop_none h = sym (seek_dollar at l d) ∙ seek_end t at k h

  module _ (h : k < length t) where
    pub loop_some : and (opens_at t at k) (closes_first (drop k t)) ≡ true → seek t at i ≡ some (k + 2)
    loop_some e = sym (seek_dollar at l d) ∙ seek_here t at k h e

    pub loop_on : and (opens_at t at k) (closes_first (drop k t)) ≡ false → seek t at (k + 1) ≡ seek t at i
    loop_on e = seek_step t at k (omega (arith, l, d.from)) h e ∙ seek_dollar at l d
