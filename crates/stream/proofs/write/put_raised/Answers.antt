use mathlib.Core.Path.{◌≡◌}
use mathlib.Core.List.{[], ◌∷◌, ◌++◌}
use native.Mathlib.Omega.{arith}
use Rattle.stream.proofs.Wrote.{wrote_none, wrote_then, wrote_as}
use Rattle.stream.proofs.Raised.{raised_none, raised_front}
use Rattle.stream.proofs.write.put_raised.Goals as goal

pub returns-in_default : goal.returns-in_default
returns-in_default c = (omega (arith, c.in_default.ensures.cases), wrote_as (wrote_none _ _) (raised_none _ c.in_default.ensures.cases))

pub returns : goal.returns
returns c =
    let front = c.in-Some.front.now in
    let last = c.in-Some.last.now in
    let e : c.args.bytes.now ≡ front ++ (last ∷ []) = c.in-Some.ensures.cases.0 in
    (omega (arith, c.in-Some.ensures.cases.1), wrote_as (wrote_then c.put_bytes-at.ensures.1 c.put_byte.ensures.1) (rw e (raised_front front last)))
