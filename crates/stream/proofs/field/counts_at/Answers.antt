use mathlib.Core.Path.{◌≡◌, sym, ◌∙◌}
use Prim.Native.Nat.{◌+◌}
use native.Mathlib.Omega.{arith}
use lib.Dec.{eqb}
use borrow.Author.Tests.{lt-ltb, le-ltb}
use Rattle.paper.specs.Base.{or}
use Rattle.stream.specs.Fields.{counts_at}
use Rattle.std.proofs.Common.{rules}
use Rattle.stream.proofs.Search.{stands}
use Rattle.stream.proofs.Fields.{of_float, of_other}
use Rattle.stream.proofs.field.counts_at.Goals as goal
use Rattle.stream.proofs.field.counts_at.Goals.{in-1, in_default, then-matches-via-then-matches, then-matches-via-else-matches+then-r-lt4}

pub returns-in_err-r : goal.returns-in_err-r
unfolding counts_at
returns-in_err-r c = rw (sym c.record_at.ensures ∙ c.in_err-r.was) c.from_residual.ensures

pub overflow_sub-r : goal.overflow_sub-r
overflow_sub-r c = (stands _ _ _ (sym c.record_at.ensures ∙ c.in_ok-r.was)).stop

pub returns-then-matches : goal.returns-then-matches
unfolding counts_at
returns-then-matches c =
    let k = c.in_ok-r.r.kind in
    let m : c.match-matches.matches ≡ or (eqb k 1) (eqb k 4) =
    elim c.match-matches.branch [
      | in-1 w ↦ w.matches-is ∙ sym (of_float k w.in-1.is)
      | in_default w ↦ w.matches-is ∙ sym (of_other k (search rules) (search rules))
    ] in
    let s = stands _ _ _ (sym c.record_at.ensures ∙ c.in_ok-r.was) in
    rw (sym c.record_at.ensures ∙ c.in_ok-r.was)
    (elim c.then-matches.branch [
      | then-matches-via-then-matches w ↦ rw (sym m ∙ w.if-matches.true)
      | then-matches-via-else-matches+then-r-lt4 w ↦ rw (sym m ∙ w.if-matches.false, lt-ltb c.in_ok-r.r.after (c.in_ok-r.r.stop + 4) (omega arith))
    ])

pub returns : goal.returns
unfolding counts_at
returns c =
    let k = c.in_ok-r.r.kind in
    let m : c.match-matches.matches ≡ or (eqb k 1) (eqb k 4) =
    elim c.match-matches.branch [
      | in-1 w ↦ w.matches-is ∙ sym (of_float k w.in-1.is)
      | in_default w ↦ w.matches-is ∙ sym (of_other k (search rules) (search rules))
    ] in
    let s = stands _ _ _ (sym c.record_at.ensures ∙ c.in_ok-r.was) in
    rw (sym c.record_at.ensures ∙ c.in_ok-r.was, sym m ∙ c.if-matches.false, le-ltb c.in_ok-r.r.after (c.in_ok-r.r.stop + 4) (omega arith))
