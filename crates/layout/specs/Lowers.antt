-- What the converter's writers ask for: bytes whose last one can lose 128, and a record that ends in such a byte if it is of kind 1.
-- Every record that fits its layout is one.
use Rattle.std.specs.Prelude.{◌≡◌, List, ℕ, ◌-◌, ◌≤◌, length, get_or, drop}
use Rattle.paper.specs.Lookup.{u16_at}

pub record Lowers (l : List ℕ) : Type 0 where
  pub some : 1 ≤ length l
  pub high : 128 ≤ get_or l (length l - 1) 0

pub record Renews (r : List ℕ) : Type 0 where
  pub room : 6 ≤ length r
  pub old : u16_at r 4 ≡ 1 → Lowers (drop 6 r)
