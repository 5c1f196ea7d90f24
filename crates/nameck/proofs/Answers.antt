-- What the look-ups read is the answer of the definitions.
-- Assumes nothing.
use mathlib.Core.Path.{◌≡◌, refl, ap, ◌∙◌}
use mathlib.Core.Bool.{Bool, true, false}
use mathlib.Core.List.{List}
use mathlib.Core.Option.{Option, none, some}
use Prim.Native.Nat.{ℕ, ◌+◌, ◌-◌, ◌*◌, ◌/◌, ◌%◌}
use native.Mathlib.Omega.{arith}
use lib.ListN.{get_or}
use Rattle.paper.specs.Base.{choose}
use Rattle.paper.specs.Tokens.{Token}
use Rattle.paper.specs.Names.{owner, Declared, global}
use Rattle.area.specs.Cells.{symbol_cell, word}
use Rattle.nameck.specs.Atoms.{name_of}
use Rattle.nameck.specs.Named.{owner_word, global_word}
use Rattle.nameck.specs.Lookups.{owner_answer, global_answer, Owned, DeclaredBy}
use Rattle.nameck.specs.declared.lookup.Global.TheVariants as g
use Rattle.paper.specs.declared.StatementOffset.{StatementOffset}
use Rattle.std.specs.Prelude.{Some, None}

-- ---- by the word
nobody : (x : Option Token) (u : ℕ) → u ≡ owner_word x → u ≡ 0 → None ≡ owner_answer x
nobody none u e z = refl
nobody (some x) u e z = absurd (omega arith)

somebody : (x : Option Token) (u : ℕ) (o : StatementOffset) → u ≡ owner_word x → u ≡ o.0 + 1 → Some o ≡ owner_answer x
somebody none u o e z = absurd (omega arith)
somebody (some x) u o e z = let q : o.0 ≡ x.at = omega arith in rw (← q)

nothing : (x : Option Declared) (u : ℕ) → u ≡ global_word x → u ≡ 0 → None ≡ global_answer x
nothing none u e z = refl
nothing (some d) u e z = absurd (by d.constant e)
  where
    by : (b : Bool) → u ≡ 2 * d.at + choose b 1 2 → ⊥
    by true k = omega arith
    by false k = omega arith

constant : (x : Option Declared) (u : ℕ) → u ≡ global_word x → (u ≡ 0 → ⊥) → u % 2 ≡ 1 → Some (g.Constant (record { 0 = u / 2 })) ≡ global_answer x
constant none u e z m = absurd (z e)
constant (some d) u e z m = ap Some (by d.constant e)
  where
    by : (b : Bool) → u ≡ 2 * d.at + choose b 1 2 → g.Constant (record { 0 = u / 2 }) ≡ choose b (g.Constant (record { 0 = d.at })) (g.Variable (record { 0 = d.at }))
    by true k = let q : u / 2 ≡ d.at = omega arith in rw q
    by false k = absurd (omega arith)

variable : (x : Option Declared) (u : ℕ) → u ≡ global_word x → (u ≡ 0 → ⊥) → (u % 2 ≡ 1 → ⊥) → Some (g.Variable (record { 0 = u / 2 - 1 })) ≡ global_answer x
variable none u e z m = absurd (z e)
variable (some d) u e z m = ap Some (by d.constant e)
  where
    by : (b : Bool) → u ≡ 2 * d.at + choose b 1 2 → g.Variable (record { 0 = u / 2 - 1 }) ≡ choose b (g.Constant (record { 0 = d.at })) (g.Variable (record { 0 = d.at }))
    by true k = absurd (m (omega arith))
    by false k = let q : u / 2 - 1 ≡ d.at = omega arith in rw q

-- ---- by the row
module _ {w : List ℕ} {n a i : ℕ} (p : i ≡ symbol_cell n a 0) where
  pub owned_none : get_or w i 0 ≡ 0 → Owned w n a None
  unfolding word
  owned_none z =
      record {
        is = λ {t} {l} h k. nobody (owner l (name_of l a)) (get_or w i 0) (ap (λ j. get_or w j 0) p ∙ h.owns a k) z;
      }

  pub owned_some : (o : StatementOffset) → get_or w i 0 ≡ o.0 + 1 → Owned w n a (Some o)
  unfolding word
  owned_some o z =
      record {
        is = λ {t} {l} h k. somebody (owner l (name_of l a)) (get_or w i 0) o (ap (λ j. get_or w j 0) p ∙ h.owns a k) z;
      }

module _ {w : List ℕ} {n a i : ℕ} (p : i ≡ symbol_cell n a 1) where
  pub declared_none : get_or w i 0 ≡ 0 → DeclaredBy w n a None
  unfolding word
  declared_none z =
      record {
        is = λ {t} {l} h k. nothing (global l (name_of l a)) (get_or w i 0) (ap (λ j. get_or w j 0) p ∙ h.declares a k) z;
      }

  pub declared_constant : (get_or w i 0 ≡ 0 → ⊥) → get_or w i 0 % 2 ≡ 1 → DeclaredBy w n a (Some (g.Constant (record { 0 = get_or w i 0 / 2 })))
  unfolding word
  declared_constant z m =
      record {
        is = λ {t} {l} h k.
            constant (global l (name_of l a)) (get_or w i 0) (ap (λ j. get_or w j 0) p ∙ h.declares a k) z m;
      }

  pub declared_variable : (get_or w i 0 ≡ 0 → ⊥) → (get_or w i 0 % 2 ≡ 1 → ⊥) → DeclaredBy w n a (Some (g.Variable (record { 0 = get_or w i 0 / 2 - 1 })))
  unfolding word
  declared_variable z m =
      record {
        is = λ {t} {l} h k.
            variable (global l (name_of l a)) (get_or w i 0) (ap (λ j. get_or w j 0) p ∙ h.declares a k) z m;
      }
