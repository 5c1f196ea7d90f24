-- The variables that the walks number are those of the definition: mandatory ones, then optional ones.
-- Assumes nothing.
use mathlib.Core.Path.{◌≡◌, refl, sym, ap, ◌∙◌}
use mathlib.Core.Bool.{true, false}
use mathlib.Core.List.{List, [], ◌∷◌, ◌++◌, map, append-nil}
use Prim.Native.Nat.{ℕ}
use lib.ListN.{drop}
use Rattle.paper.specs.Base.{gather, keep}
use Rattle.paper.specs.Tokens.{Token}
use Rattle.paper.specs.Statements.{Statement}
use Rattle.paper.specs.State.{Formula}
use Rattle.paper.specs.Variables.{see, sights, variable_in, variables_of, mandatory}
use Rattle.paper.proofs.Tests.{split}
use Rattle.paper.proofs.Lists.{gather_append}
use Rattle.paper.proofs.Names.{sights_append}
use Rattle.paper.proofs.Alls.{All, all_more}
use Rattle.reader.specs.Rows.{stmt}
use Rattle.nameck.specs.Atoms.{bytes_of}
use Rattle.sight.specs.Static.{constant_name, static_symbol, static, row_hyp}
use Rattle.sight.specs.Numbered.{scanned, scanned_rows}
use Rattle.history.specs.Accepted.{is_hyp, is_essential}
use Rattle.history.proofs.Active.{formulas_by_rows}

-- ---- the tokens of a row
scanned_sights :
    (l : List Statement) (m : List Token) (vs : List (List ℕ))
    → scanned l m vs ≡ sights (gather variable_in (map (static_symbol l) m)) vs
unfolding scanned sights gather
scanned_sights l [] vs = refl
scanned_sights l (t ∷ m) vs =
    split (constant_name l t.bytes)
    (λ e. rw e (scanned_sights l m vs))
    (λ e. rw e (scanned_sights l m (see vs t.bytes)))

pub scanned_static :
    (l : List Statement) (s : Statement) (vs : List (List ℕ))
    → scanned l (drop 1 s.math) vs ≡ sights (variables_of (static l s)) vs
unfolding static variables_of
scanned_static l s vs = scanned_sights l (drop 1 s.math) vs

-- ---- the rows of the active `$e`
abbrev formula_at : List Statement → ℕ → Formula
formula_at l r = static l (stmt l r)

scanned_essentials :
    (l : List Statement) (h : List ℕ) (vs : List (List ℕ))
    → scanned_rows l 1 h vs ≡ sights (gather variables_of (map (formula_at l) h)) vs
unfolding scanned_rows gather sights
scanned_essentials l [] vs = refl
scanned_essentials l (r ∷ h) vs =
    scanned_essentials l h (scanned l (drop 1 (stmt l r).math) vs)
    ∙ ap (sights (gather variables_of (map (formula_at l) h))) (scanned_static l (stmt l r) vs)
    ∙ sym (sights_append (variables_of (formula_at l r)) (gather variables_of (map (formula_at l) h)) vs)

-- the mandatory variables of an assertion s under the hypotheses of rows h
pub mandatory_scanned :
    (l : List Statement) (h : List ℕ) (s : Statement) → All (λ r. is_hyp (stmt l r).kind ≡ true) h
    → mandatory (map (row_hyp l) h) (static l s)
    ≡ scanned l (drop 1 s.math) (scanned_rows l 1 (keep (λ r. is_essential (stmt l r).kind) h) [])
unfolding mandatory gather sights
mandatory_scanned l h s a =
    let e = keep (λ r. is_essential (stmt l r).kind) h in
    ap (λ f. sights (gather variables_of (f ++ (static l s ∷ []))) []) (formulas_by_rows l a)
    ∙ ap (λ x. sights x []) (gather_append variables_of (map (formula_at l) e) (static l s ∷ []))
    ∙ sights_append (gather variables_of (map (formula_at l) e)) (gather variables_of (static l s ∷ [])) []
    ∙ ap (λ vs. sights (gather variables_of (static l s ∷ [])) vs) (sym (scanned_essentials l e []))
    ∙ ap (λ x. sights x (scanned_rows l 1 e [])) (one_gather (static l s))
    ∙ sym (scanned_static l s (scanned_rows l 1 e []))
  where
    one_gather : (f : Formula) → gather variables_of (f ∷ []) ≡ variables_of f
    one_gather f = append-nil (variables_of f)

-- ---- the rows of the active `$d`, none of whose names is a constant
scanned_names :
    (l : List Statement) (m : List Token) (vs : List (List ℕ)) → All (λ t. constant_name l t.bytes ≡ false) m
    → scanned l m vs ≡ sights (map bytes_of m) vs
unfolding scanned sights
scanned_names l [] vs a = refl
scanned_names l (t ∷ m) vs (all_more e a) = rw e (scanned_names l m (see vs t.bytes) a)

pub optional_scanned :
    (l : List Statement) (d : List ℕ) (vs : List (List ℕ))
    → All (λ r. All (λ t. constant_name l t.bytes ≡ false) (stmt l r).math) d
    → sights (gather (λ n. n) (map (λ r. map bytes_of (stmt l r).math) d)) vs ≡ scanned_rows l 0 d vs
unfolding scanned_rows gather sights
optional_scanned l [] vs a = refl
optional_scanned l (r ∷ d) vs (all_more e a) =
    sights_append (map bytes_of (stmt l r).math) (gather (λ n. n) (map (λ q. map bytes_of (stmt l q).math) d)) vs
    ∙ ap (sights (gather (λ n. n) (map (λ q. map bytes_of (stmt l q).math) d))) (sym (scanned_names l (stmt l r).math vs e))
    ∙ optional_scanned l d (scanned l (stmt l r).math vs) a
