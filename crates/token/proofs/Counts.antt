-- Where tokens start is how many there are; no bad byte counted is none found; the pass that counts, byte by byte.
-- Assumes nothing.
use mathlib.Core.Path.{◌≡◌, refl, sym, ap, ◌∙◌}
use mathlib.Core.Bool.{Bool, true, false}
use mathlib.Core.List.{List, [], ◌∷◌}
use mathlib.Core.Option.{none}
use Prim.Native.Nat.{ℕ, suc, ◌+◌, ◌-◌, ◌<◌, ◌≤◌, zero-le}
use native.Mathlib.Nat.{add-zero}
use native.Mathlib.Numerals.{add-one}
use native.Mathlib.Omega.{arith}
use lib.Dec.{eqb, ltb}
use lib.ListN.{length, get_or, drop, drop_of_length-le, length-drop}
use lib.Seq.{drop-cons}
use Rattle.paper.specs.Base.{or}
use Rattle.paper.specs.Bytes.{white, printable}
use Rattle.paper.specs.Tokens.{run, toks, tokens, bad_from}
use Rattle.std.specs.Int.{from_bool}
use Rattle.paper.proofs.Tests.{split}
use Rattle.token.specs.Class.{class}
use Rattle.token.specs.Words.{tokens_from}
use Rattle.token.specs.Count.{starts, bads, tally_of, bad_of, count_of}
use Rattle.std.specs.Prelude.{Option, None}
use Rattle.std.specs.List.{position_from}
use Rattle.token.specs.declared.count.Tally.{Tally}
use Rattle.token.proofs.Classes.{class_white, class_bad}

pub bit_le : (b : Bool) → from_bool b ≤ 1
bit_le true = omega arith
bit_le false = omega arith

starts_toks : (l : List ℕ) (o : ℕ) → (length (toks l o) ≡ starts l 1) × (length (run l o).rest ≡ starts l 0)
unfolding run toks starts
starts_toks [] o = (refl, refl)
starts_toks (b ∷ l) o =
    let h = starts_toks l (suc o) in
    rw (class_white b)
    (split (white b)
    (λ e. rw e (omega (arith, h.0), omega (arith, h.0)))
    (λ e. rw e (omega (arith, h.1), omega (arith, h.1))))

starts_le : (l : List ℕ) (w : ℕ) → starts l w ≤ length l
unfolding starts
starts_le [] w = zero-le
starts_le (b ∷ l) w = omega (arith, starts_le l (from_bool (eqb (class b) 1)), bit_le (ltb (from_bool (eqb (class b) 1)) w))

-- there are no more tokens than bytes
pub tokens_few : (t : List ℕ) (i : ℕ) → length (tokens_from t i) ≤ length t - i
unfolding tokens_from
tokens_few t i = omega (arith, (starts_toks (drop i t) i).0, starts_le (drop i t) 1, length-drop i t)

pub few_tokens : (t : List ℕ) → length (tokens t) ≤ length t
unfolding tokens tokens_from
few_tokens t = omega (arith, tokens_few t 0)

pub starts_tokens : (t : List ℕ) → starts t 1 ≡ length (tokens t)
unfolding tokens
starts_tokens t = sym (starts_toks t 0).0

pub none_bad : (l : List ℕ) (o : ℕ) → bads l ≡ 0 → bad_from l o ≡ none
unfolding bads bad_from
none_bad [] o h = refl
none_bad (b ∷ l) o h =
    split (or (white b) (printable b))
    (λ e. rw e (none_bad l (suc o) (omega (arith, h))))
    (λ e. let z : 1 + bads l ≡ 0 = rw (class_bad b, e) at h in absurd (omega arith))

-- the first byte of the bad class is the first bad byte
pub bad_position : (l : List ℕ) (o : ℕ) → position_from (λ (b : ℕ). eqb (class b) 0) o l ≡ bad_of (bad_from l o)
unfolding bad_from
bad_position [] o = refl
bad_position (b ∷ l) o =
    rw (class_bad b, add-one)
    (split (or (white b) (printable b)) (λ e. rw e (bad_position l (suc o))) (λ e. rw e))

-- the pass at byte i: n tokens and k bad bytes before it, and w for the byte before it
pub record Tallied (t : List ℕ) (n k w i : ℕ) : Type 0 where
  pub count : n + starts (drop i t) w ≡ starts t 1
  pub bad : k + bads (drop i t) ≡ bads t
  pub few : n ≤ i
  pub rare : k ≤ i

pub tally_step : {t : List ℕ} {n k w i c v p q : ℕ} → Tallied t n k w i → i < length t → c ≡ class (get_or t i 0)
    → v ≡ from_bool (eqb c 1) → p ≡ from_bool (ltb v w) → q ≡ from_bool (eqb c 0) → Tallied t (n + p) (k + q) v (i + 1)
unfolding starts bads
tally_step {t} {n} {k} {w} {i} {c} {v} {p} {q} h l ec ev ep eq =
    let a : n + (p + starts (drop (suc i) t) v) ≡ starts t 1 = rw (ep, ev, ec) (rw (drop-cons t i 0) at h.count) in
    let b : k + (q + bads (drop (suc i) t)) ≡ bads t = rw (eq, ec) (rw (drop-cons t i 0) at h.bad) in
    record {
      count = rw add-one (omega (arith, a));
      bad = rw add-one (omega (arith, b));
      few = omega (arith, h.few, ep, bit_le (ltb v w));
      rare = omega (arith, h.rare, eq, bit_le (eqb c 0));
    }

pub tally_end : {t : List ℕ} {n k w i : ℕ} → Tallied t n k w i → length t ≤ i → record { tokens = n; bads = k } ≡ tally_of t
unfolding starts bads
tally_end {t} {n} {k} {w} {i} h l =
    let a : n ≡ starts t 1 = sym (add-zero n) ∙ rw (drop_of_length-le t l) at h.count in
    let b : k ≡ bads t = sym (add-zero k) ∙ rw (drop_of_length-le t l) at h.bad in
    rw (a, b)

-- the answer, by whether a bad byte was met
module _ (t : List ℕ) (x : Tally) (p : x ≡ tally_of t) where
  pub all_good : x.bads ≡ 0 → record { tokens = x.tokens; bad = None } ≡ count_of t
  all_good z =
      let q : bads t ≡ 0 = sym (ap (λ (y : Tally). y.bads) p) ∙ z in
      rw (p, none_bad t 0 q, starts_tokens t)

  pub one_bad : (b : Option ℕ) → b ≡ bad_of (bad_from t 0) → record { tokens = x.tokens; bad = b } ≡ count_of t
  one_bad b e = rw (p, e, starts_tokens t)
