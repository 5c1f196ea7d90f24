-- A diagnostic pushed: the writer's state and the buffer it writes to, before and after.
-- The used length grows by the record's 18 bytes, the count by one. A buffer that is too short is as before.
use Rattle.std.specs.Prelude.{◌≡◌, List, ℕ, ◌+◌}
use Rattle.paper.specs.Checks.{Diag}
use Rattle.paper.specs.Records.{diag_record}
use Rattle.stream.specs.Wrote.{WroteOrKept}
use Rattle.stream.specs.declared.state.DiagState.{DiagState}

pub record Pushed (s t : DiagState) (l m : List ℕ) (d : Diag) : Type 0 where
  pub used : t.used ≡ s.used + 18
  pub count : t.count ≡ s.count + 1
  pub wrote : WroteOrKept l m s.used t.used (diag_record d)
