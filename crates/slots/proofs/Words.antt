-- What a symbol is at a statement, by its global declaration and its nested `$v`, is what the definitions say.
-- Assumes nothing.
use mathlib.Core.Path.{◌≡◌, refl, ap, ◌∙◌}
use mathlib.Core.Bool.{Bool, true, false}
use mathlib.Core.List.{List}
use mathlib.Core.Option.{Option, none, some}
use Prim.Native.Nat.{ℕ}
use native.Mathlib.Nat.{le_refl}
use lib.Dec.{ltb}
use Rattle.paper.specs.Base.{choose, keep}
use Rattle.paper.specs.Names.{Declared, global}
use Rattle.paper.specs.State.{Nested, view, active_nested, nested_of, by_nested, by_global, Sense, constant, variable, sense}
use Rattle.nameck.specs.Lookups.{global_answer, DeclaredBy}
use Rattle.nameck.specs.declared.lookup.Global.{Global}
use Rattle.nameck.specs.declared.lookup.Global.TheVariants as g
use Rattle.std.specs.Prelude.{Some}
use Rattle.std.specs.Prelude as code
use Rattle.slots.specs.declared.CheckedToken.{CheckedToken}
use Rattle.slots.specs.Slots.{nested_slot, nested_at, sense_global, checked_of, Sensed}

-- what a declaration and a nested `$v` make of a name, if the declaration stands before o just when it stands before p
sense_by : (d : Option Declared) (m : Option Nested) (o p : ℕ) → ((x : Declared) → d ≡ some x → ltb x.at p ≡ ltb x.at o)
    → sense_global (global_answer d) o (nested_at m) ≡ by_global d p (by_nested m)
sense_by none none o p f = refl
sense_by none (some x) o p f = refl
sense_by (some d) m o p f = rw (f d refl) (by_kind d.constant m)
  where
    by_kind : (b : Bool) (m : Option Nested)
        → sense_global (Some (choose b (g.Constant (record { 0 = d.at })) (g.Variable (record { 0 = d.at })))) o (nested_at m)
        ≡ choose (ltb d.at o) (choose b constant variable) (by_nested m)
    by_kind true none = refl
    by_kind true (some x) = refl
    by_kind false none = refl
    by_kind false (some x) = refl

pub sensed_by : {w : List ℕ} {n a o : ℕ} {d : code.Option Global} {r : CheckedToken} → DeclaredBy w n a d → r ≡ checked_of (sense_global d o (nested_slot w n a o)) a
    → Sensed w n a o r
unfolding sense view
sensed_by {w} {n} {a} {o} {d} q e =
    record {
      is = λ {t} {l} x y h s z f.
          let i : d ≡ global_answer (global l y.bytes) = q.is h z.below ∙ rw z.name in
          let j : sense_global d o (nested_slot w n a o) ≡ sense l (view x o) y =
          rw (i, s.looks a o z.below (le_refl o), z.name)
          (sense_by (global l y.bytes) (nested_of (keep (active_nested o) x.nested) y.bytes) o y.at f) in
          e ∙ ap (λ (b : Sense). checked_of b a) j;
    }
