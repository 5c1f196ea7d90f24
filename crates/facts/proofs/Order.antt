-- The active `$d`, outermost first and then nested, stand in the order of the text.
-- From ends that nest: after a nested one that is still active, nothing is outermost.
use mathlib.Core.Path.{◌≡◌, refl, ap}
use mathlib.Core.Bool.{false}
use mathlib.Core.List.{List, [], ◌∷◌, ◌++◌, map}
use Prim.Native.Nat.{ℕ, ◌<◌, ◌≤◌}
use native.Mathlib.Omega.{arith}
use lib.ListN.{length}
use borrow.Author.Tests.{eqb-false, ne_eqb, ltb-true}
use Rattle.paper.specs.Base.{not, keep}
use Rattle.paper.specs.Statements.{Statement, none_end}
use Rattle.paper.specs.State.{Disjoint, active_disjoint, view}
use Rattle.paper.specs.Pairs.{outer, inner, in_order}
use Rattle.paper.proofs.Tests.{split}
use Rattle.paper.proofs.Alls.{All, all_none, all_more, all_map, all_keep, Two, two_none, two_more, two_map, two_kept, keep_all, keep_none}
use Rattle.reader.specs.Rows.{stmt}
use Rattle.facts.specs.Facts.{Facts}
use Rattle.facts.specs.States.{state_at}
use Rattle.facts.proofs.Recorded.{origins, falls}

-- no statement stands after a later one
pub ahead : {t : List ℕ} {l : List Statement} → Facts t l → (k : ℕ) → k < length l → (j : ℕ) → j < k → (stmt l j).at ≤ (stmt l k).at
ahead h k m j g = omega (arith, h.order j k g m)

parted : {d : List Disjoint} → All (λ x. x.end ≤ none_end) d → Two (λ x y. y.end ≤ x.end) d → keep outer d ++ keep inner d ≡ d
unfolding keep
parted all_none two_none = refl
parted (all_more {x = x} {l = l} a b) (two_more p r) =
    split (outer x)
    (λ e. rw e (ap (λ m. x ∷ m) (parted b r)))
    (λ e.
    let z : All (λ y. outer y ≡ false) l = all_map (λ y q. ne_eqb y.end none_end (λ i. eqb-false x.end none_end e (omega arith))) p in
    let n : keep outer l ≡ [] = keep_none outer z in
    let i : keep inner l ≡ l = keep_all inner (all_map (λ y q. ap not q) z) in
    rw (e, n, i))

pub text_order :
    {t : List ℕ} {l : List Statement}
    → Facts t l → (k o : ℕ) → k ≤ length l → ((j : ℕ) → j < k → (stmt l j).at ≤ o)
    → in_order (view (state_at l k) o).disjoints ≡ map (λ d. d.names) (view (state_at l k) o).disjoints
unfolding in_order view
text_order {l = l} h k o m a =
    ap (map (λ d. d.names))
    (parted
    (all_keep (active_disjoint o) (all_map (λ d u. omega (arith, u.same, (h.shaped u.row (omega (arith, u.earlier))).last)) (origins l k).disjoints))
    (two_kept (active_disjoint o) (two_map (λ x y f e. f (ltb-true o x.end e)) (falls h k o m a).disjoints)))
