-- A diagnostic from its four numbers.
-- For the contracts of those who write one.
use Rattle.std.specs.Prelude.{ℕ}
use Rattle.paper.specs.Checks.{Diag}

abbrev pub diagnostic : ℕ → ℕ → ℕ → ℕ → Diag
diagnostic k s i o = record { kind = k; statement = s; index = i; other = o }
