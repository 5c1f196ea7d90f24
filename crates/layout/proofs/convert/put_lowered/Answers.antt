use mathlib.Core.Path.{◌≡◌}
use mathlib.Core.List.{[], ◌∷◌, ◌++◌}
use native.Mathlib.Omega.{arith}
use Rattle.stream.proofs.Wrote.{wrote_none, wrote_then, wrote_as}
use Rattle.layout.proofs.Lowered.{lowered_none, lowered_front, last_is}
use Rattle.layout.proofs.convert.put_lowered.Goals as goal

pub returns-in_default : goal.returns-in_default
returns-in_default c = (omega (arith, c.in_default.ensures.cases), wrote_as (wrote_none _ _) (lowered_none _ c.in_default.ensures.cases))

pub overflow_sub-last : goal.overflow_sub-last
overflow_sub-last c =
    let front = c.in-Some.front.now in
    let last = c.in-Some.last.now in
    let e : c.args.bytes.now ≡ front ++ (last ∷ []) = c.in-Some.ensures.cases.0 in
    rw (e, last_is front last) at c.requires.1.high

pub returns : goal.returns
returns c =
    let front = c.in-Some.front.now in
    let last = c.in-Some.last.now in
    let e : c.args.bytes.now ≡ front ++ (last ∷ []) = c.in-Some.ensures.cases.0 in
    (omega (arith, c.in-Some.ensures.cases.1), wrote_as (wrote_then c.put_bytes-at.ensures.1 c.put_byte.ensures.1) (rw e (lowered_front front last)))
