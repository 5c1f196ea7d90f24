use native.Mathlib.Omega.{arith}
use Rattle.scopeck.proofs.Ready.{row_room}
use Rattle.scopeck.proofs.Whole.{part_is, some_part, text_part}
use Rattle.scopeck.proofs.statements.check_kind.Goals as goal

pub of_statement-from-requires : goal.of_statement-from-requires
of_statement-from-requires c = let b = c.requires.holds in (b.room, row_room b, omega arith)

pub of_statement-to-requires : goal.of_statement-to-requires
of_statement-to-requires c = let b = c.requires.holds in (b.room, row_room b, omega arith)

pub slice_bounds-check_part-count : goal.slice_bounds-check_part-count
slice_bounds-check_part-count c =
    let b = c.requires.holds in
    omega (arith, c.of_statement-from.ensures, c.of_statement-to.ensures, b.named.shape.from_to c.args.row b.inside)

pub slice_bounds-check_part-start : goal.slice_bounds-check_part-start
slice_bounds-check_part-start c =
    let b = c.requires.holds in
    omega (arith, c.of_statement-from.ensures, c.of_statement-to.ensures, b.named.shape.from_to c.args.row b.inside)

pub slice_bounds-check_part-end : goal.slice_bounds-check_part-end
slice_bounds-check_part-end c =
    let b = c.requires.holds in
    omega (arith, c.of_statement-to.ensures, b.named.shape.within c.args.row b.inside)

pub check_part-requires : goal.check_part-requires
check_part-requires c = some_part c.requires (part_is _ _ _ c.of_statement-from.ensures c.of_statement-to.ensures)

pub returns : goal.returns
returns c = text_part (part_is _ _ _ c.of_statement-from.ensures c.of_statement-to.ensures) c.check_part.ensures
