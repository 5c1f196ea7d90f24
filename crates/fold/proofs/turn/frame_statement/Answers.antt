use mathlib.Core.Path.{sym}
use native.Mathlib.Omega.{arith}
use Rattle.fold.proofs.Turns.{turn_rejected, turn_none, turn_stub, framed_word, other_word, can_frame, turn_full}
use Rattle.fold.proofs.turn.frame_statement.Goals as goal

pub returns-then-of_statement-eq0 : goal.returns-then-of_statement-eq0
returns-then-of_statement-eq0 c = turn_rejected (omega (arith, c.of_statement.ensures, c.if-of_statement-eq0.true))

pub construct_full_frame-requires : goal.construct_full_frame-requires
construct_full_frame-requires c = (
  can_frame c.requires.0 (λ e. c.if-of_statement-eq0.false (omega (arith, c.of_statement.ensures, e)))
      (framed_word c.in-A.is c.kind_of.ensures),
  omega arith,
)

pub returns-in-F : goal.returns-in-F
returns-in-F c =
    turn_stub c.requires.0 (λ e. c.if-of_statement-eq0.false (omega (arith, c.of_statement.ensures, e)))
    (sym (rw c.in-F.is at c.kind_of.ensures)) c.construct_stub_frame.ensures

pub returns-in-A : goal.returns-in-A
returns-in-A c =
    turn_full (λ e. c.if-of_statement-eq0.false (omega (arith, c.of_statement.ensures, e))) (framed_word c.in-A.is c.kind_of.ensures)
    c.construct_full_frame.ensures

pub returns-in_default : goal.returns-in_default
returns-in_default c =
    let z = other_word _ c.in_default.not-F c.in_default.not-A c.in_default.not-P c.kind_of.ensures in
    turn_none z.0 (λ e. omega (arith, z.1, e)) (λ e. omega (arith, z.1, e))
