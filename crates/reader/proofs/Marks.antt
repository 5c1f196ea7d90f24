-- The first `$(` or `$)` in a comment: the tokens before it have none, and the token in which it stands is the comment's `$)` or one
-- that may not stand there. What the code looks at, by the offset.
use mathlib.Core.Path.{◌≡◌, refl, sym, ap, ◌∙◌}
use mathlib.Core.Bool.{Bool, true, false}
use mathlib.Core.List.{List, [], ◌∷◌, ◌++◌}
use mathlib.Core.Option.{Option, none, some}
use Prim.Native.Nat.{ℕ, zero, suc, ◌+◌, ◌-◌, ◌<◌, ◌≤◌, suc-le-suc}
use native.Mathlib.Nat.{not-suc-le-zero, le_of_suc-le-suc}
use native.Mathlib.Omega.{arith}
use lib.Dec.{eqb, ltb}
use lib.ListN.{length, get_or, take, drop, length-drop, drop_of_length-le}
use lib.Seq.{drop-cons, drop-drop, get_or-drop}
use borrow.Author.Tests.{ne_eqb, eqb-true, ltb-true, ltb-false}
use Rattle.paper.specs.Base.{or, and, not, sameb, all}
use Rattle.paper.specs.Bytes.{white}
use Rattle.paper.specs.Tokens.{Token, put, run, toks, key}
use Rattle.paper.specs.Comments.{outside, inside, after, bracket_first, bracketed, visible}
use Rattle.paper.proofs.Tests.{split, by_option, clash, eqb_ne, same_eq}
use Rattle.paper.proofs.Comments.{after_append}
use Rattle.token.specs.Words.{word, tokens_from, Lined}
use Rattle.token.specs.declared.cursor.Cursor.{Cursor}
use Rattle.token.proofs.Classes.{white_low}
use Rattle.token.proofs.Words.{stop_of, token_first}
use Rattle.token.proofs.Parts.{part_tokens}
use Rattle.reader.specs.Dollar.{gap_first, shuts, closes_first, mark_first, close_from, opens_at, seek, found, Dollar, Mark, Begins}
use Rattle.reader.specs.Passed.{Passed, Spoilt, Commented}
use Rattle.reader.specs.declared.comment.Comment.TheVariants as comment
use Rattle.reader.proofs.Passes.{tokens_white, passed_none, passed_then}
use Rattle.reader.proofs.Dollars.{and_both, and_none, white_plain, opens_same, opens_other, seek_end, seek_step, seek_over, comment_none, closes_last}

-- ---- bytes without a mark, by the list
abbrev clean : Token → Bool
clean x = not (bracketed x.bytes)

head_bracket : (l : List ℕ) (o : ℕ) → bracket_first l ≡ false → bracket_first (run l o).head ≡ false
unfolding run
head_bracket [] o e = refl
head_bracket (c ∷ l) o e = split (white c) (λ w. rw w) (λ w. rw w e)

put_clean : (o : ℕ) (h : List ℕ) (l : List Token) → bracketed h ≡ false → all clean l ≡ true → all clean (put o h l) ≡ true
unfolding all
put_clean o [] l p q = q
put_clean o (b ∷ h) l p q = rw p q

run_clean : (l : List ℕ) (o : ℕ) → ((j : ℕ) → j < length l → mark_first (drop j l) ≡ false)
    → (bracketed (run l o).head ≡ false) × (all clean (run l o).rest ≡ true)
unfolding run all bracketed
run_clean [] o f = (refl, refl)
run_clean (b ∷ l) o f =
    let r = run_clean l (suc o) (λ j h. f (suc j) (suc-le-suc h)) in
    let m : and (eqb b 36) (bracket_first l) ≡ false = f 0 (omega arith) in
    split (white b)
    (λ w. rw w (refl, put_clean (suc o) (run l (suc o)).head (run l (suc o)).rest r.0 r.1))
    (λ w. rw w (
      split (eqb b 36)
          (λ q. let z : bracket_first l ≡ false = rw q at m in rw (q, head_bracket l (suc o) z) r.0)
          (λ q. rw q r.0),
      r.1,
    ))

toks_clean : (l : List ℕ) (o : ℕ) → ((j : ℕ) → j < length l → mark_first (drop j l) ≡ false) → all clean (toks l o) ≡ true
unfolding toks
toks_clean l o f =
    let r = run_clean l o f in put_clean o (run l o).head (run l o).rest r.0 r.1

-- of the first n bytes
cut_bracket : (l : List ℕ) (n : ℕ) → bracket_first l ≡ false → bracket_first (take n l) ≡ false
cut_bracket l zero e = refl
cut_bracket [] (suc n) e = refl
cut_bracket (c ∷ l) (suc n) e = e

take_clean : (l : List ℕ) (n : ℕ) → ((j : ℕ) → j < n → mark_first (drop j l) ≡ false) → (j : ℕ) → j < length (take n l) → mark_first (drop j (take n l)) ≡ false
take_clean l zero f j h = absurd (not-suc-le-zero h)
take_clean [] (suc n) f j h = absurd (not-suc-le-zero h)
take_clean (b ∷ l) (suc n) f zero h =
    let m : and (eqb b 36) (bracket_first l) ≡ false = f 0 (omega arith) in
    split (eqb b 36)
    (λ q. let z : bracket_first l ≡ false = rw q at m in rw q (cut_bracket l n z))
    (λ q. rw q)
take_clean (b ∷ l) (suc n) f (suc j) h = take_clean l n (λ i g. f (suc i) (suc-le-suc g)) j (le_of_suc-le-suc h)

-- tokens without a mark are hidden in a comment
clean_key : (x : Token) → bracketed x.bytes ≡ false → key 41 x ≡ false
unfolding key bracketed
clean_key x e =
    split (sameb x.bytes (36 ∷ 41 ∷ []))
    (λ q. absurd (clash (sym (ap bracketed (same_eq x.bytes (36 ∷ 41 ∷ []) q)) ∙ e)))
    (λ q. q)

clean_hidden : (l : List Token) (p : ℕ) → all clean l ≡ true → (visible l (inside p) ≡ []) × (after l (inside p) ≡ inside p)
unfolding all visible after
clean_hidden [] p e = (refl, refl)
clean_hidden (x ∷ l) p e =
    split (bracketed x.bytes)
    (λ b. absurd (clash (sym (rw b at e))))
    (λ b. let h = clean_hidden l p (rw b at e) in rw (clean_key x b, b) h)

-- ---- the token of a mark, by the list
bracket_word : (l : List ℕ) → bracket_first l ≡ true → bracket_first (word l) ≡ true
unfolding word white
bracket_word [] e = e
bracket_word (c ∷ l) e =
    split (eqb c 40)
    (λ q. let z : c ≡ 40 = eqb-true c 40 q in rw z)
    (λ q. let z : c ≡ 41 = eqb-true c 41 (rw q at e) in rw z)

or_right : (a : Bool) → or a true ≡ true
or_right true = refl
or_right false = refl

word_mark : (l : List ℕ) (m : ℕ) → ((j : ℕ) → j < m → white (get_or l j 0) ≡ false) → mark_first (drop m l) ≡ true → bracketed (word l) ≡ true
unfolding word bracketed white
word_mark [] zero f e = e
word_mark [] (suc m) f e = e
word_mark (b ∷ l) zero f e =
    let z : b ≡ 36 = eqb-true b 36 (and_both (eqb b 36) (bracket_first l) e).0 in
    rw (z, bracket_word l (and_both (eqb b 36) (bracket_first l) e).1)
word_mark (b ∷ l) (suc m) f e =
    let h = word_mark l m (λ j g. f (suc j) (suc-le-suc g)) e in
    rw (f 0 (omega arith), h) (or_right (and (eqb b 36) (bracket_first (word l))))

-- it is `$)` just where that stands
word_gap : (l : List ℕ) → sameb (word l) [] ≡ gap_first l
unfolding word sameb
word_gap [] = refl
word_gap (c ∷ l) = split (white c) (λ w. rw w) (λ w. rw w)

word_shuts : (l : List ℕ) → sameb (word l) (41 ∷ []) ≡ shuts l
unfolding word sameb
word_shuts [] = refl
word_shuts (b ∷ l) =
    split (white b)
    (λ w. rw (w, ne_eqb b 41 (λ q. omega (arith, q, white_low b w))))
    (λ w. split (eqb b 41) (λ q. rw (w, q) (word_gap l)) (λ q. rw (w, q)))

word_closes : (l : List ℕ) → sameb (word l) (36 ∷ 41 ∷ []) ≡ closes_first l
unfolding word sameb
word_closes [] = refl
word_closes (b ∷ l) =
    split (white b)
    (λ w. rw (w, white_plain b w))
    (λ w. split (eqb b 36) (λ q. rw (w, q) (word_shuts l)) (λ q. rw (w, q)))

closes_mark : (l : List ℕ) → mark_first l ≡ false → closes_first l ≡ false
closes_mark [] e = refl
closes_mark (b ∷ l) e = split (eqb b 36) (λ q. rw q (no_shuts l (rw q at e))) (λ q. rw q)
  where
    no_shuts : (l : List ℕ) → bracket_first l ≡ false → shuts l ≡ false
    no_shuts [] e = refl
    no_shuts (c ∷ l) e = split (eqb c 41) (λ q. absurd (clash (sym (or_right (eqb c 40)) ∙ rw q at e))) (λ q. rw q)

mark_dollar : (t : List ℕ) (k : ℕ) → k < length t → mark_first (drop k t) ≡ true → get_or t k 0 ≡ 36
mark_dollar t k h e =
    let m : and (eqb (get_or t k 0) 36) (bracket_first (drop (suc k) t)) ≡ true = rw (drop-cons t k 0 h) at e in
    eqb-true (get_or t k 0) 36 (and_both (eqb (get_or t k 0) 36) (bracket_first (drop (suc k) t)) m).0

-- ---- by the offset
abbrev the : List ℕ → ℕ → Token
the t s = record { at = s; bytes = word (drop s t) }

-- k is the first mark from `at` on, in the token that starts at s
module _ {t : List ℕ} {at k s : ℕ} (m : Mark t at k) (b : Begins t at k s) where
  pub passed_clean : (p : ℕ) → Passed t at s (inside p) [] (inside p)
  passed_clean p =
      split (ltb at s)
      (λ z. far (ltb-true at s z))
      (λ z. let q : s ≡ at = omega (arith, ltb-false at s z, b.from) in rw q (passed_none t at (inside p)))
    where
      far : at < s → Passed t at s (inside p) [] (inside p)
      far h =
          let n = s - 1 - at in
          let f : (j : ℕ) → j < n → mark_first (drop j (drop at t)) ≡ false =
          λ j g. let q : j + at ≡ at + j = omega arith in rw (drop-drop j at t) (m.plain (at + j) (omega arith) (omega (arith, b.upto))) in
          let a = toks_clean (take n (drop at t)) at (take_clean (drop at t) n f) in
          let v = clean_hidden (toks (take n (drop at t)) at) p a in
          record {
            pre = toks (take n (drop at t)) at;
            split = part_tokens t at (s - 1) (omega arith) (omega (arith, b.upto, m.within)) (λ g. b.opens h)
                ∙ ap (λ (r : List Token). toks (take n (drop at t)) at ++ r) (tokens_white t s (omega arith) (omega (arith, b.upto, m.within)) (b.opens h));
            shows = v.0;
            place = v.1;
          }

  module _ (l : k < length t) where
    starts : white (get_or t s 0) ≡ false
    unfolding white
    starts =
        split (ltb s k)
        (λ z. b.inside s (omega arith) (ltb-true s k z))
        (λ z. let q : s ≡ k = omega (arith, ltb-false s k z, b.upto) in rw (q, mark_dollar t k l (m.here l)))

    inside_text : s < length t
    inside_text = omega (arith, b.upto, l)

    the_stands : tokens_from t s ≡ the t s ∷ tokens_from t (stop_of t s)
    the_stands = token_first t s inside_text starts

    the_bad : bracketed (word (drop s t)) ≡ true
    the_bad =
        let q : s + (k - s) ≡ k = omega (arith, b.upto) in
        word_mark (drop s t) (k - s)
        (λ j h. rw get_or-drop (b.inside (s + j) (omega arith) (omega (arith, b.upto))))
        (rw (drop-drop (k - s) s t, q) (m.here l))

    opens_here : s ≡ k → opens_at t at k ≡ true
    opens_here q =
        split (eqb k at)
        (λ e. opens_same t k at (eqb-true k at e))
        (λ e.
        let n : k ≡ at → ⊥ = eqb_ne e in
        opens_other t k at n ∙ rw q at (b.opens (omega (arith, b.from, q, n))))

    the_key : key 41 (the t s) ≡ and (opens_at t at k) (closes_first (drop k t))
    unfolding key
    the_key =
        word_closes (drop s t)
        ∙ split (ltb s k)
        (λ z.
        let g : s < k = ltb-true s k z in
        let o : opens_at t at k ≡ false = opens_other t k at (λ e. omega (arith, e, b.from)) ∙ b.inside (k - 1) (omega arith) (omega arith) in
        rw o (closes_mark (drop s t) (m.plain s b.from g)))
        (λ z.
        let q : s ≡ k = omega (arith, ltb-false s k z, b.upto) in
        rw (opens_here q) (ap (λ (j : ℕ). closes_first (drop j t)) q))

    -- not the comment's `$)`: it is visible
    passed_bad : and (opens_at t at k) (closes_first (drop k t)) ≡ false → (p : ℕ) → Passed t at (stop_of t s) (inside p) (the t s ∷ []) (inside p)
    unfolding visible after
    passed_bad e p =
        let q : key 41 (the t s) ≡ false = the_key ∙ e in
        passed_then (passed_clean p) (record { pre = the t s ∷ []; split = the_stands; shows = rw (q, the_bad); place = rw q })

    -- the comment's `$)`
    passed_shut : and (opens_at t at k) (closes_first (drop k t)) ≡ true → (p : ℕ) → Passed t at (stop_of t s) (inside p) [] outside
    unfolding visible after
    passed_shut e p =
        let q : key 41 (the t s) ≡ true = the_key ∙ e in
        passed_then (passed_clean p)
        (record { pre = the t s ∷ []; split = the_stands; shows = rw (q, and_none (bracketed (word (drop s t)))); place = rw q })

-- ---- what the comment is, by its first mark
close_later : (l : List ℕ) (o : ℕ) (w : Bool) (e : ℕ) → close_from l o w ≡ some e → o < e
unfolding close_from
close_later [] o w e h = absurd (no h)
  where
    no : none ≡ some e → ⊥
    no h = let z : ◌≡◌ {A = ℕ} 0 1 = cc in omega (arith, z)
close_later (b ∷ l) o w e h =
    split (and w (closes_first (b ∷ l)))
    (λ q. let z : some (o + 2) ≡ some e = rw q at h in let n : o + 2 ≡ e = cc in omega (arith, n))
    (λ q. omega (arith, close_later l (suc o) (white b) e (rw q at h)))

seek_later : (t : List ℕ) (at i e : ℕ) → seek t at i ≡ some e → i < e
unfolding seek
seek_later t at i e h = close_later (drop i t) i (opens_at t at i) e h

-- the two bytes of `$)` lie in the text
closes_long : (l : List ℕ) → closes_first l ≡ true → 2 ≤ length l
closes_long [] e = absurd (clash (sym e))
closes_long (b ∷ []) e = absurd (clash (sym (and_both (eqb b 36) false e).1))
closes_long (b ∷ c ∷ l) e = omega arith

pub closes_within : (t : List ℕ) (at k : ℕ) → and (opens_at t at k) (closes_first (drop k t)) ≡ true → k + 2 ≤ length t
closes_within t at k e =
    omega (arith, closes_long (drop k t) (and_both (opens_at t at k) (closes_first (drop k t)) e).1, length-drop k t)

module _ {t : List ℕ} {at k : ℕ} (m : Mark t at k) where
  mark_seek : seek t at k ≡ seek t at at
  mark_seek =
      let f = m.from in
      let q : at + (k - at) ≡ k = omega arith in
      rw q at (seek_over t at at (k - at) (omega arith) (omega (arith, m.within)) (λ j a b. closes_mark (drop j t) (m.plain j a (omega arith))))

  pub comment_unmarked : length t ≤ k → Commented t at comment.Never
  comment_unmarked h = comment_none t at (sym mark_seek ∙ seek_end t at k h)

  module _ (l : k < length t) where
    pub comment_closed : {c : Cursor} → and (opens_at t at k) (closes_first (drop k t)) ≡ true → c.at ≡ k + 2 → Lined t c → Commented t at (comment.Closed c)
    unfolding key
    comment_closed e q z =
        let o = (and_both (opens_at t at k) (closes_first (drop k t)) e).0 in
        let b : Begins t at k k = record {
          from = m.from;
          upto = omega arith;
          opens = λ h. sym (opens_other t k at (λ z. omega (arith, z, h))) ∙ o;
          inside = λ j f g. absurd (omega arith);
        } in
        let w : word (drop k t) ≡ 36 ∷ 41 ∷ [] = same_eq (word (drop k t)) (36 ∷ 41 ∷ []) (the_key m b l ∙ e) in
        let n : stop_of t k ≡ k + 2 = ap (λ (x : List ℕ). k + length x) w in
        (λ p. rw (q, ← n) (passed_shut m b l e p), omega (arith, q, m.from), z)

    module _ (e : and (opens_at t at k) (closes_first (drop k t)) ≡ false) where
      seek_on : seek t at at ≡ seek t at (k + 1)
      seek_on = sym (seek_step t at k m.from l e ∙ mark_seek)

      pub comment_never : found (seek t at (k + 1)) ≡ false → Commented t at comment.Never
      comment_never z = comment_none t at (seek_on ∙ none_of (seek t at (k + 1)) z)
        where
          none_of : (o : Option ℕ) → found o ≡ false → o ≡ none
          none_of none z = refl
          none_of (some x) z = absurd (clash z)

      pub comment_bad : {s : ℕ} {c : Cursor} → found (seek t at (k + 1)) ≡ true → Begins t at k s → c.at ≡ s → Lined t c → Commented t at (comment.Bad c)
      comment_bad {s} z b o y =
          (rw o (by_option (seek t at (k + 1)) found_at (λ q. absurd (clash (sym z ∙ ap found q)))), y)
        where
          found_at : (x : ℕ) → seek t at (k + 1) ≡ some x → (p : ℕ) → Spoilt t at s p
          found_at x q = λ p.
              let r = passed_bad m b l e p in
              record {
                token = the t s;
                stop = stop_of t s;
                passed = r;
                bad = the_bad m b l;
                at = refl;
                shut = x;
                closes =
                    sym (ap (λ (y : List Token). after y (inside p)) r.split ∙ after_append r.pre (tokens_from t (stop_of t s)) (inside p) ∙ rw r.place)
                    ∙ closes_last t at x p (seek_on ∙ q);
                before = omega (arith, seek_later t at (k + 1) x q, b.upto);
              }

-- ---- what the code looks at, by the offset
module _ (t : List ℕ) (i : ℕ) where
  pub mark_none : i < length t → length t < i + 2 → mark_first (drop i t) ≡ false
  mark_none h l =
      let z : drop (suc i) t ≡ [] = drop_of_length-le t {i = suc i} (omega arith) in
      rw (drop-cons t i 0 h, z) (and_none (eqb (get_or t i 0) 36))

  pub mark_some : i + 2 ≤ length t
      → mark_first (drop i t) ≡ or (sameb (take (i + 2 - i) (drop i t)) (36 ∷ 40 ∷ [])) (sameb (take (i + 2 - i) (drop i t)) (36 ∷ 41 ∷ []))
  unfolding sameb
  mark_some h =
      let q : i + 2 - i ≡ 2 = omega arith in
      rw (q, drop-cons t i 0 (omega arith), drop-cons t (suc i) 0 (omega arith))
      (split (eqb (get_or t i 0) 36)
      (λ e. rw e (split (eqb (get_or t (suc i) 0) 40) (λ f. rw f) (λ f. rw f (split (eqb (get_or t (suc i) 0) 41) (λ g. rw g) (λ g. rw g)))))
      (λ e. rw e))

-- from `$` to `$`
dollar_mark : (t : List ℕ) (j : ℕ) → j < length t → (get_or t j 0 ≡ 36 → ⊥) → mark_first (drop j t) ≡ false
dollar_mark t j h n = rw (drop-cons t j 0 h, ne_eqb (get_or t j 0) 36 n)

module _ {t : List ℕ} {at i k : ℕ} (l : at ≤ i) (f : (j : ℕ) → at ≤ j → j < i → mark_first (drop j t) ≡ false) (d : Dollar t i k) where
  mark_upto : (j : ℕ) → at ≤ j → j < k → mark_first (drop j t) ≡ false
  mark_upto j a b =
      split (ltb j i)
      (λ z. f j a (ltb-true j i z))
      (λ z. dollar_mark t j (omega (arith, d.within)) (d.plain j (omega (arith, ltb-false j i z)) b))

  pub mark_end : length t ≤ k → Mark t at k
  mark_end h = record { from = omega (arith, d.from); within = d.within; plain = mark_upto; here = λ g. absurd (omega arith) }

  pub mark_here : mark_first (drop k t) ≡ true → Mark t at k
  mark_here e = record { from = omega (arith, d.from); within = d.within; plain = mark_upto; here = λ g. e }

  pub mark_next : mark_first (drop k t) ≡ false → (j : ℕ) → at ≤ j → j < k + 1 → mark_first (drop j t) ≡ false
  mark_next e j a b =
      split (eqb j k)
      (λ z. let q : j ≡ k = eqb-true j k z in rw q e)
      (λ z. let q : j ≡ k → ⊥ = eqb_ne z in mark_upto j a (omega (arith, q)))
