use mathlib.Core.Path.{◌≡◌}
use Prim.Native.Nat.{◌+◌}
use Rattle.std.specs.Slice.Iter.{chunks_rest, chunks_size}
use Rattle.paper.specs.Lines.{feeds, line_at}
use Rattle.token.proofs.cursor.Cursor.hop.Given as goal

abbrev pub invariant-loop-leg : goal.invariant-loop-leg
invariant-loop-leg l = (chunks_size l.leg-iterator ≡ 32768) × (l.line + feeds (chunks_rest l.leg-iterator) ≡ line_at l.text l.to)
