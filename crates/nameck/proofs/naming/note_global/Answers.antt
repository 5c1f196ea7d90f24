use mathlib.Core.Path.{◌≡◌, refl, ◌∙◌}
use Prim.Native.Nat.{◌+◌}
use denote.Enum.Declared.{tag_of}
use Rattle.nameck.specs.contracts.naming.Sort.{the_type}
use Rattle.nameck.specs.declared.naming.Sort.{Sort}
use Rattle.nameck.specs.declared.naming.Sort.TheVariants.{Constant, Variable}
use Rattle.nameck.specs.Table.{sort_number, globally}
use Rattle.nameck.proofs.naming.note_global.Goals as goal

number_is : (k : Sort) → tag_of the_type k + 1 ≡ sort_number k
number_is Constant = refl
number_is Variable = refl

pub returns-in-Some : goal.returns-in-Some
unfolding globally
returns-in-Some c =
    rw c.in-Some.is (c.note.ensures ∙ rw (c.symbol.ensures, number_is c.in-Some.sort))

pub returns-in_default : goal.returns-in_default
unfolding globally
returns-in_default c = rw c.in_default.is
