use mathlib.Core.Path.{sym, ap, ◌∙◌}
use native.Mathlib.Omega.{arith}
use lib.ListN.{length}
use Rattle.paper.specs.Comments.{outside}
use Rattle.token.proofs.Read.{read_done}
use Rattle.reader.proofs.Passes.{passed_none, passed_gap, passed_end, passed_then, shows_after}
use Rattle.paper.proofs.Options.{handed_on}
use Rattle.reader.proofs.Looks.{took, look_plain, refuses_after}
use borrow.Author.Rules.{rules}
use Rattle.reader.proofs.comment.next_visible.Goals as goal

pub loop-x-init : goal.loop-x-init
loop-x-init c = (passed_none _ _ _, search rules, c.requires)

pub returns-in_default : goal.returns-in_default
returns-in_default c = passed_end c.loop-x.invariant.0 (read_done _ _ (sym c.in_default.is ∙ c.next.ensures))

pub opens_comment-requires : goal.opens_comment-requires
opens_comment-requires c = (took c.in-Some.is c.next.ensures).whole

pub returns-then-not-opens_comment : goal.returns-then-not-opens_comment
returns-then-not-opens_comment c = let r = took c.in-Some.is c.next.ensures in
    shows_after c.loop-x.invariant.0 c.loop-x.invariant.1 (look_plain r (sym c.opens_comment.ensures ∙ c.if-not-opens_comment.true))

pub skip_comment-requires : goal.skip_comment-requires
skip_comment-requires c = let r = took c.in-Some.is c.next.ensures in
    (r.whole, sym c.opens_comment.ensures ∙ c.if-not-opens_comment.false, r.stands, r.lined)

pub returns-in_err-i : goal.returns-in_err-i
returns-in_err-i c = let p = passed_then c.loop-x.invariant.0 (passed_gap outside (took c.in-Some.is c.next.ensures).skip) in
    rw (handed_on c.from_residual.result c.from_residual.ensures.1) (refuses_after p c.in_err-i.ensures)

pub loop-x-smaller : goal.loop-x-smaller
loop-x-smaller c = omega (arith, c.in_ok-i.ensures.1, ap length (took c.in-Some.is c.next.ensures).skip)

pub loop-x-preserved : goal.loop-x-preserved
loop-x-preserved c = let r = took c.in-Some.is c.next.ensures in (
  passed_then c.loop-x.invariant.0 (passed_then (passed_gap outside r.skip) c.in_ok-i.ensures.0),
  omega (arith, c.loop-x.invariant.1, r.from, c.in_ok-i.ensures.2),
  c.in_ok-i.ensures.3,
)
