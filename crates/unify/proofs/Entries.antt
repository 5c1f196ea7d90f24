-- The words of an entry: the last flag below a place, what is left of an entry from a place on, and whether it stops there.
-- Assumes nothing.
use mathlib.Core.Path.{◌≡◌, refl, sym, ap, ◌∙◌}
use mathlib.Core.Logic.{◌≢◌}
use mathlib.Core.Bool.{Bool, true}
use mathlib.Core.List.{List, [], ◌∷◌}
use Prim.Native.Nat.{ℕ, zero, suc, ◌<◌, ◌≤◌}
use native.Mathlib.Nat.{not-suc-le-zero}
use native.Mathlib.Omega.{arith}
use lib.Dec.{eqb, leb, ltb}
use lib.ListN.{length, get_or, take, drop, drop_of_length-le}
use lib.Seq.{length-take-le, drop-cons, get_or-take}
use borrow.Author.Tests.{lt-ltb, le-ltb, eqb-true, ltb-true, ltb-false}
use Rattle.std.specs.Prelude.{Option, Some, None, IfSome, IfNone, unwrap_or}
use Rattle.paper.proofs.Tests.{split, eqb_ne}
use Rattle.unify.specs.Entries.{flag, plain, agrees, last_flag}

-- ---- the last flag below a place, where there is none, or one is found
no_flag : (l : List ℕ) (top : ℕ) → ((j : ℕ) → j < top → get_or l j 0 < flag) → last_flag l top ≡ 0
unfolding last_flag
no_flag l zero h = refl
no_flag l (suc k) h = rw (lt-ltb (get_or l k 0) flag (h k (omega arith))) (no_flag l k (λ j i. h j (omega arith)))

flag_at : (l : List ℕ) (top i : ℕ) → i < top → flag ≤ get_or l i 0 → ((j : ℕ) → i < j → j < top → get_or l j 0 < flag) → last_flag l top ≡ i
unfolding last_flag
flag_at l zero i b f h = absurd (not-suc-le-zero b)
flag_at l (suc k) i b f h =
    split (eqb i k)
    (λ q. let e : i ≡ k = eqb-true i k q in rw (le-ltb (get_or l k 0) flag (rw e at f)) (sym e))
    (λ q.
    let d : i ≢ k = eqb_ne q in
    rw (lt-ltb (get_or l k 0) flag (h k (omega (arith, d)) (omega arith)))
    (flag_at l k i (omega (arith, d)) f (λ j x y. h j x (omega arith))))

flag_found :
    (l : List ℕ) (top : ℕ) (r : Option ℕ) → IfNone r ((j : ℕ) → j < top → get_or l j 0 < flag)
    → IfSome r (λ i. (i < top) × (flag ≤ get_or l i 0)) → IfSome r (λ i. (j : ℕ) → i < j → j < top → get_or l j 0 < flag)
    → unwrap_or r 0 ≡ last_flag l top
flag_found l top None a b c = sym (no_flag l top a)
flag_found l top (Some i) a b c = sym (flag_at l top i b.0 b.1 c)

-- only the words below are looked at
last_below : (l : List ℕ) (top k : ℕ) → k ≤ top → last_flag (take top l) k ≡ last_flag l k
unfolding last_flag
last_below l top zero h = refl
last_below l top (suc k) h = rw (get_or-take top l k 0 (omega arith), last_below l top k (omega arith))

pub last_found :
    (l : List ℕ) (top : ℕ) (r : Option ℕ) → top ≤ length l
    → IfNone r ((j : ℕ) → j < length (take top l) → get_or (take top l) j 0 < flag)
    → IfSome r (λ i. (i < length (take top l)) × (flag ≤ get_or (take top l) i 0))
    → IfSome r (λ i. (j : ℕ) → i < j → j < length (take top l) → get_or (take top l) j 0 < flag)
    → unwrap_or r 0 ≡ last_flag l top
last_found l top r h a b c =
    flag_found (take top l) (length (take top l)) r a b c
    ∙ ap (last_flag (take top l)) (length-take-le top l h)
    ∙ last_below l top top (omega arith)

-- ---- what is left of an entry from a place on
module _ (l : List ℕ) (i : ℕ) where
  pub plain_end : length l ≤ i → plain (drop i l) ≡ []
  unfolding plain
  plain_end h = rw (drop_of_length-le l h)

  pub plain_flag : i < length l → flag ≤ get_or l i 0 → plain (drop i l) ≡ []
  unfolding plain
  plain_flag h f = rw (drop-cons l i 0 h, le-ltb (get_or l i 0) flag f)

  pub plain_more : i < length l → get_or l i 0 < flag → plain (drop i l) ≡ get_or l i 0 ∷ plain (drop (suc i) l)
  unfolding plain
  plain_more h f = rw (drop-cons l i 0 h, lt-ltb (get_or l i 0) flag f)

-- an entry stops where the words end, or at a typecode
pub stops : (l : List ℕ) (p : ℕ) (r : Bool) → (length l ≤ p → r ≡ true) → (p < length l → r ≡ leb flag (get_or l p 0)) → r ≡ agrees [] (drop p l)
unfolding agrees
stops l p r f g =
    split (ltb p (length l))
    (λ q. let h : p < length l = ltb-true p (length l) q in rw (drop-cons l p 0 h) (g h))
    (λ q. let h : length l ≤ p = ltb-false p (length l) q in rw (drop_of_length-le l h) (f h))
