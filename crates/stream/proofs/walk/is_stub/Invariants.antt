use mathlib.Core.Path.{◌≡◌}
use lib.ListN.{drop}
use Rattle.std.specs.List.{list_all}
use Rattle.stream.proofs.Stubs.{low}
use Rattle.stream.proofs.walk.is_stub.Given as goal

abbrev pub invariant-loop-byte : goal.invariant-loop-byte
invariant-loop-byte l = list_all low (drop l.byte-index l.front) ≡ list_all low l.front
