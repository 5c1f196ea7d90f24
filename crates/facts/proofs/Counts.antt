-- How many statements, math tokens and labels there are, counted by the items.
-- A statement has three tokens or more: one math token, and two keywords.
use mathlib.Core.Path.{◌≡◌, refl}
use mathlib.Core.List.{List, [], ◌∷◌}
use Prim.Native.Nat.{ℕ, ◌+◌, ◌*◌, ◌≤◌}
use native.Mathlib.Omega.{arith}
use lib.ListN.{length, length-append}
use lib.Seq.{take-length}
use Rattle.paper.specs.Base.{gather}
use Rattle.paper.specs.Statements.{Statement, Item, opens, closes, states, ends}
use Rattle.paper.specs.Names.{bearer, labels}
use Rattle.reader.specs.Rows.{before}
use Rattle.facts.proofs.Grammar.{Items, items_none, items_open, items_close, items_state, total}
use Rattle.facts.proofs.Ends.{least_some}

counts :
    (i : List Item)
    → length (gather (λ x. x.math) (ends i [])) + length (gather bearer (ends i [])) + 2 * length (ends i []) ≡ total i
unfolding ends gather total
counts [] = refl
counts (opens p ∷ i) = omega (arith, counts i)
counts (closes q ∷ i) = omega (arith, counts i)
counts (states s ∷ i) =
    omega (arith, counts i, length-append s.math (gather (λ x. x.math) (ends i [])), length-append (bearer s) (gather bearer (ends i [])))

before_all : (l : List Statement) → before l (length l) ≡ length (gather (λ x. x.math) l)
unfolding before
before_all l = rw (take-length l)

pub counted : (i : List Item) → before (ends i []) (length (ends i [])) + length (labels (ends i [])) + 2 * length (ends i []) ≡ total i
unfolding labels
counted i = rw (before_all (ends i [])) (counts i)

pub few : {a b : ℕ} {i : List Item} → Items a b i → 3 * length (ends i []) ≤ total i
unfolding ends total
few (items_none h) = omega arith
few (items_open h r) = omega (arith, few r)
few (items_close h r) = omega (arith, few r)
few (items_state {s = s} h w r) = omega (arith, few r, least_some s.kind, w.enough)
