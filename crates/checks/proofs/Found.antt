-- What the look-ups found calls for the definitions' diagnostics.
-- Assumes nothing.
use mathlib.Core.Path.{◌≡◌, refl, ◌∙◌}
use mathlib.Core.Bool.{Bool, true, false}
use mathlib.Core.List.{List, [], ◌∷◌, ◌++◌}
use mathlib.Core.Option.{Option, none, some}
use Prim.Native.Nat.{ℕ, zero, suc, ◌*◌}
use native.Mathlib.Omega.{arith}
use lib.Dec.{ltb}
use lib.ListN.{length, length-append}
use borrow.Author.Tests.{ne_eqb}
use Rattle.paper.specs.Base.{choose, gather}
use Rattle.paper.specs.Tokens.{Token}
use Rattle.paper.specs.Statements.{Statement}
use Rattle.paper.specs.Names.{Declared}
use Rattle.paper.specs.State.{Nested, Sense, inactive, constant, variable}
use Rattle.paper.specs.Checks.{Diag, diag, label_diags, clash, redeclared, against, by_known, by_declared, float_diags, symbol_diags, first_index, disjoint_diags}
use Rattle.paper.specs.Records.{framed, diag_record}
use Rattle.paper.proofs.Tests.{split}
use Rattle.reader.specs.Rows.{stmt}
use Rattle.stream.proofs.Records.{length_u16, length_u32}
use Rattle.nameck.specs.Lookups.{owner_answer, global_answer}
use Rattle.nameck.specs.declared.lookup.Global.TheVariants as g
use Rattle.paper.specs.declared.StatementRow.{StatementRow}
use Rattle.slots.specs.Slots.{nested_at, float_hyp, float_at, checked_of}
use Rattle.slots.specs.Marks.{first_in}
use Rattle.slots.proofs.Marks.{repeat_is}
use Rattle.std.specs.Prelude as code
use Rattle.checks.specs.Found.{sense_of, label_by, found_by, again, redeclared_by, against_by, verdict_is, symbol_by, disjoint_by}

pub label_is : (o : Option Token) (z : Statement) → label_by (owner_answer o) z.at ≡ label_diags o z
label_is none z = refl
label_is (some b) z = refl

pub clash_is : (o : Option Token) (s i : ℕ) → found_by 5 (owner_answer o) s i ≡ clash o s i
clash_is none s i = refl
clash_is (some b) s i = refl

pub redeclared_is : (d : Option Declared) (y : Token) (s i : ℕ) → redeclared_by (global_answer d) y.at s i ≡ redeclared d s i y
redeclared_is none y s i = refl
redeclared_is (some d) y s i = either d.constant
  where
    either : (b : Bool) → redeclared_by (code.Some (choose b (g.Constant (record { 0 = d.at })) (g.Variable (record { 0 = d.at })))) y.at s i ≡ again d.at y.at s i
    either true = refl
    either false = refl

pub against_by_is : (d : Option Declared) (o : ℕ) (m : Option Nested) → verdict_is (against_by (global_answer d) o (nested_at m)) ≡ by_declared d o (by_known m)
against_by_is none o none = refl
against_by_is none o (some x) = refl
against_by_is (some d) o m = either d.constant m
  where
    either : (b : Bool) (m : Option Nested) → verdict_is (against_by (code.Some (choose b (g.Constant (record { 0 = d.at })) (g.Variable (record { 0 = d.at })))) o (nested_at m))
        ≡ choose (ltb d.at o) (against 6 d.at) (choose b (against 12 d.at) (by_known m))
    either true m = split (ltb d.at o) (λ e. rw e) (λ e. rw e)
    either false none = split (ltb d.at o) (λ e. rw e) (λ e. rw e)
    either false (some x) = split (ltb d.at o) (λ e. rw e) (λ e. rw e)

pub sense_checked : (x : Sense) (a : ℕ) → sense_of (checked_of x a) ≡ x
sense_checked inactive a = refl
sense_checked constant a = refl
sense_checked variable a = refl

pub symbol_is : (x : Sense) (l : List Statement) (f : code.Option StatementRow) (s i : ℕ) → symbol_by x f s i ≡ symbol_diags x (float_at l f) s i
symbol_is inactive l f s i = refl
symbol_is constant l f s i = refl
symbol_is variable l f s zero = refl
symbol_is variable l (code.Some r) s (suc i) = rw (ne_eqb (suc i) 0 (omega arith))
symbol_is variable l code.None s (suc i) = rw (ne_eqb (suc i) 0 (omega arith))

pub disjoint_is : (x : Sense) (d m : List Token) (y : Token) (s i : ℕ) → length d ≡ i
    → disjoint_by x (first_in d y.bytes 0) s i ≡ disjoint_diags x (first_index (d ++ (y ∷ m)) y.bytes) s i
disjoint_is inactive d m y s i e = refl
disjoint_is constant d m y s i e = refl
disjoint_is variable d m y s i e = repeat_is d m y s i e

pub float_at_is : (l : List Statement) (r : StatementRow) (s : ℕ) → float_diags (float_at l (code.Some r)) s ≡ diag 11 s 0 (stmt l r.0).at
unfolding float_hyp
float_at_is l r s = refl

-- ---- a diagnostic has 18 bytes, so a place that did not move wrote none
diag_length : (d : Diag) → length (diag_record d) ≡ 18
unfolding diag_record framed
diag_length d = simp (length-append, length_u16, length_u32) (omega arith)

pub told_length : (d : List Diag) → length (gather diag_record d) ≡ 18 * length d
unfolding gather
told_length [] = refl
told_length (x ∷ d) =
    length-append (diag_record x) (gather diag_record d) ∙ omega (arith, diag_length x, told_length d)

pub none_told : (d : List Diag) → length d ≡ 0 → d ≡ []
none_told [] e = refl
none_told (x ∷ d) e = absurd (omega (arith, e))
