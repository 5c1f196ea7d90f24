-- The frame records of each row of a text that is read are short.
-- From the bound over all that the statements give.
use mathlib.Core.Path.{◌≡◌, sym}
use mathlib.Core.Logic.{◌≢◌}
use mathlib.Core.List.{List, [], ◌∷◌}
use Prim.Native.Nat.{ℕ, zero, suc, ◌<◌}
use native.Mathlib.Omega.{arith}
use lib.Dec.{eqb}
use lib.ListN.{length}
use borrow.Author.Tests.{eqb-true}
use Rattle.paper.specs.Base.{table}
use Rattle.paper.specs.Statements.{Statement}
use Rattle.paper.specs.Reader.{given, reading}
use Rattle.paper.proofs.Tests.{split, eqb_ne}
use Rattle.paper.proofs.Alls.{All, all_first, all_left, all_right}
use Rattle.facts.specs.States.{given_at}
use Rattle.facts.proofs.States.{all_given_table}
use Rattle.theorems.proofs.Short.{records_short}
use Rattle.fold.specs.Fold.{Short}

all_table : {A : Type 0} {P : A → Type 0} (f : ℕ → A) (n k : ℕ) → All P (table f n) → k < n → P (f k)
unfolding table
all_table f zero k a h = absurd (omega arith)
all_table {P = P} f (suc n) k a h =
    split (eqb k n)
    (λ q. let e : n ≡ k = sym (eqb-true k n q) in rw e at (all_first (all_right (table f n) (f n ∷ []) a)))
    (λ q.
    let z : k ≢ n = eqb_ne q in
    all_table f n k (all_left (table f n) (f n ∷ []) a) (omega (arith, z)))

pub short_of : (t : List ℕ) (w : ℕ) (l : List Statement) → reading t w ≡ given l → Short l
short_of t w l e c k h =
    all_table (given_at l) (length l) k (rw (all_given_table l) at (records_short c t w l e)) h
