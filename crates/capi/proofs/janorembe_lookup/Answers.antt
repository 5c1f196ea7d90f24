use native.Mathlib.Omega.{arith}
use Rattle.capi.proofs.Promises.{looked}
use Rattle.capi.proofs.janorembe_lookup.Goals as goal

pub returns : goal.returns
returns c = looked c.lookup-found.ensures c.found_place.ensures (omega (arith, c.found_number.ensures))
