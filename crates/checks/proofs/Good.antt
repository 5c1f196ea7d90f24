-- Tokens of a `$e`, `$a` or `$p` that get no diagnostic, one and then all of a statement.
-- Assumes nothing.
use mathlib.Core.Path.{◌≡◌, refl, sym}
use mathlib.Core.Bool.{true}
use mathlib.Core.List.{List}
use Prim.Native.Nat.{ℕ, ◌+◌, ◌<◌, ◌≤◌}
use native.Mathlib.Omega.{arith}
use borrow.Author.Tests.{ne_eqb}
use Rattle.paper.specs.declared.Atom.{Atom}
use Rattle.paper.specs.declared.StatementRow.{StatementRow}
use Rattle.paper.proofs.Tests.{clash}
use Rattle.area.specs.Cells.{math_cell, word}
use Rattle.slots.specs.Slots.{float_slot, Sensed}
use Rattle.std.specs.Prelude as code
use Rattle.slots.specs.declared.CheckedToken.TheVariants as checked
use Rattle.checks.specs.Tokens.{Good}
use Rattle.checks.specs.Walks.{AllGood}
use Rattle.checks.proofs.Told.{told_none}
use Rattle.checks.proofs.Ones.{eap_one}
use Rattle.checks.proofs.OverRows.{InvEap, eap_start, eap_step, eap_end}

-- ---- one: a constant, or a variable with a `$f` that is not token 0
pub good_constant : {w : List ℕ} {n a s i : ℕ} {b : Atom} → Sensed w n a s (checked.Constant b) → Good w n a s i
good_constant e = λ out at. eap_one e refl (omega arith, told_none out at)

pub good_variable : {w : List ℕ} {n a s i : ℕ} {b : Atom} {f : code.Option StatementRow} → Sensed w n a s (checked.Variable b) → f ≡ float_slot w n a s
    → code.is_some f ≡ true → (i ≡ 0 → ⊥) → Good w n a s i
good_variable {i = i} {f = code.Some r} e g o z = λ out at. eap_one e g (omega arith, rw (ne_eqb i 0 z) (told_none out at))
good_variable {f = code.None} e g o z = absurd (clash (sym o))

-- ---- those up to i
abbrev pub InvGood : List ℕ → ℕ → ℕ → ℕ → ℕ → ℕ → Type 0
InvGood w n f c s i = (out : List ℕ) (at : ℕ) → InvEap w out out n at at f c s i

pub good_start : (w : List ℕ) (n f c s : ℕ) → InvGood w n f c s 0
good_start w n f c s = λ out at. eap_start

pub good_step : {w : List ℕ} {n f c s i a : ℕ} → i < c → a ≡ word w (math_cell n (f + i)) → Good w n a s i → InvGood w n f c s i → InvGood w n f c s (i + 1)
good_step m e y h = λ out at. eap_step m e (y out at) refl (h out at)

pub good_end : {w : List ℕ} {n f c s i : ℕ} → c ≤ i → InvGood w n f c s i → AllGood w n f c s
good_end g h = λ out at. eap_end g (h out at)
