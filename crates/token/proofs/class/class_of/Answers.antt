-- The table is held against the definition over all 256 bytes, by computing.
use mathlib.Core.Path.{◌≡◌, refl, ap, ◌∙◌}
use mathlib.Core.List.{List}
use Prim.Native.Nat.{ℕ}
use lib.ListN.{get_or}
use Rattle.paper.specs.Base.{table}
use Rattle.paper.specs.Bytes.{white, printable, label_byte}
use Rattle.paper.proofs.Tables.{get_or_table}
use Rattle.token.specs.declared.class.TheConstants.{CLASS}
use Rattle.token.specs.Class.{class, classes}
use borrow.Author.Rules.{rules}
use Rattle.token.proofs.class.class_of.Goals as goal

all_classes : CLASS ≡ classes
unfolding classes class table white printable label_byte
all_classes = refl

pub returns : goal.returns
unfolding classes
returns c = ap (λ (l : List ℕ). get_or l c.args.b 0) all_classes ∙ get_or_table class 256 c.args.b 0 (search rules)
