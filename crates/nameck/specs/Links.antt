-- The links of the names in the rows: a head for each bucket, and two links of each name.
-- The search for a name starts at the head of its bucket, and at each name follows one of its links, by a bit of what it looks for.
use Rattle.std.specs.Prelude.{◌≡◌, ◌≢◌, Bool, List, [], ◌∷◌, ℕ, zero, suc, ◌+◌, ◌-◌, ◌*◌, ◌/◌, ◌%◌, ◌^◌, ◌<◌, ◌≤◌, eqb, ltb, get_or, take, drop}
use Rattle.paper.specs.Base.{choose}
use Rattle.area.specs.Cells.{name_cell, bucket_cell, symbol_cell, word}

-- the bytes of a text from one place to another
abbrev pub piece : List ℕ → ℕ → ℕ → List ℕ
piece t start stop = take (stop - start) (drop start t)

-- a number below 2^32 made from bytes, byte by byte
abbrev pub hash_more : ℕ → ℕ → ℕ
hash_more h b = (h + b) * 2654435769 % 4294967296

unfoldable pub hash_on : ℕ → List ℕ → ℕ
hash_on h [] = h
hash_on h (b ∷ s) = hash_on (hash_more h b) s

abbrev pub hash : List ℕ → ℕ
hash s = hash_on 0 s

-- the head of the bucket of a hash, one of n / 4 + 1
unfoldable pub head_by : ℕ → ℕ → ℕ
head_by n h = bucket_cell n (h * (n / 4 + 1) / 4294967296)

-- which link is followed at depth d: by the bits of the hash, and then by those of the bytes
unfoldable pub fork : List ℕ → ℕ → Bool
fork s d = choose (ltb d 32) (eqb (hash s / 2 ^ d % 2) 1) (eqb (get_or s ((d - 32) / 8) 0 / 2 ^ ((d - 32) % 8) % 2) 1)

-- the cell of a link of the name in row a
unfoldable pub link : ℕ → ℕ → Bool → ℕ
link n a r = choose r (symbol_cell n a 2) (name_cell n a 2)

-- the cell that the search for s comes to at depth d
unfoldable pub way : List ℕ → ℕ → List ℕ → ℕ → ℕ
way w n s zero = head_by n (hash s)
way w n s (suc d) = link n (word w (way w n s d) - 1) (fork s d)

-- the first m names, of which x a is the one in row a, are linked: the search for each comes to it
pub record Linked (w : List ℕ) (n m : ℕ) (x : ℕ → List ℕ) : Type 0 where
  pub depth : ℕ → ℕ
  pub comes : (a : ℕ) → a < m → word w (way w n (x a) (depth a)) ≡ a + 1
  pub passes : (a d : ℕ) → a < m → d < depth a → word w (way w n (x a) d) ≢ 0
  -- no link leads past the names, and a name's links lead to later ones
  pub heads : (b : ℕ) → b < n → word w (bucket_cell n b) ≤ m
  pub links : (a : ℕ) (r : Bool) → a < m → word w (link n a r) ≤ m
  pub later : (a : ℕ) (r : Bool) → a < m → word w (link n a r) ≢ 0 → a + 1 < word w (link n a r)

-- the search for s ends at depth d, at an empty link
pub record Ends (w : List ℕ) (n : ℕ) (s : List ℕ) (d : ℕ) : Type 0 where
  pub empty : word w (way w n s d) ≡ 0
  pub passed : (e : ℕ) → e < d → word w (way w n s e) ≢ 0

-- the search for s ends at the cell c, which is empty
pub record Ended (w : List ℕ) (n : ℕ) (s : List ℕ) (c : ℕ) : Type 0 where
  pub depth : ℕ
  pub ends : Ends w n s depth
  pub at : c ≡ way w n s depth
