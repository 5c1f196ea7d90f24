-- Which statements are accepted, and their rows, one after the other.
-- `l` is the statements of the whole text.
use Rattle.std.specs.Prelude.{Bool, true, false, List, [], ◌∷◌, ◌++◌, ℕ, zero, suc}
use Rattle.paper.specs.Base.{choose, and}
use Rattle.paper.specs.Statements.{Kind, $c, $v, $d, $f, $e, $a, $p, Statement}
use Rattle.paper.specs.Checks.{Diag}
use Rattle.reader.specs.Rows.{stmt}
use Rattle.facts.specs.States.{given_at}

abbrev pub no_diags : List Diag → Bool
no_diags [] = true
no_diags (x ∷ l) = false

-- the k-th statement got no diagnostic
unfoldable pub accepted : List Statement → ℕ → Bool
accepted l k = no_diags (given_at l k).diags

abbrev pub is_hyp : Kind → Bool
is_hyp $c = false
is_hyp $v = false
is_hyp $d = false
is_hyp $f = true
is_hyp $e = true
is_hyp $a = false
is_hyp $p = false

abbrev pub is_essential : Kind → Bool
is_essential $c = false
is_essential $v = false
is_essential $d = false
is_essential $f = false
is_essential $e = true
is_essential $a = false
is_essential $p = false

abbrev pub is_disjoint : Kind → Bool
is_disjoint $c = false
is_disjoint $v = false
is_disjoint $d = true
is_disjoint $f = false
is_disjoint $e = false
is_disjoint $a = false
is_disjoint $p = false

-- the rows before the k-th of accepted statements whose kind passes
unfoldable pub rows_of : (Kind → Bool) → List Statement → ℕ → List ℕ
rows_of q l zero = []
rows_of q l (suc k) = rows_of q l k ++ choose (and (q (stmt l k).kind) (accepted l k)) (k ∷ []) []
