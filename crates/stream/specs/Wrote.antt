-- What every writer promises of the buffer it is lent and of the place that it answers.
-- The laws of it are in proofs/Wrote.antt.
use Rattle.std.specs.Prelude.{◌≡◌, List, ℕ, ◌+◌, ◌≤◌, ◌<◌, length}
use Rattle.paper.specs.Answer.{laid}

-- the buffer l becomes m: the bytes b are written from the place `at` on, and r is the place after them. The buffer's
-- length is kept, and if the bytes fit, the buffer is l with the bytes laid over it
pub record Wrote (l m : List ℕ) (at r : ℕ) (b : List ℕ) : Type 0 where
  pub place : r ≡ at + length b
  pub len : length m ≡ length l
  pub bytes : r ≤ length l → m ≡ laid l at b

-- the same of a writer that stores all of its bytes or none: a buffer that is too short is as before
pub record WroteOrKept (l m : List ℕ) (at r : ℕ) (b : List ℕ) : Type 0 where
  pub wrote : Wrote l m at r b
  pub short : length l < r → m ≡ l
