-- The lent stack in words: an entry is the atom of its typecode with 2^31 added, then the atoms of its symbols.
-- Entries end at the next flag, so they need no other marks, and taking one is a walk down to its flag.
use Rattle.std.specs.Prelude.{◌≡◌, refl, Bool, true, false, List, [], ◌∷◌, ℕ, zero, suc, ◌+◌, ◌<◌, eqb, leb, ltb, length, get_or}
use Rattle.paper.specs.Base.{choose}

abbrev pub flag : ℕ
flag = 2147483648

-- the words at the front that are no typecodes: what is left of an entry
unfoldable pub plain : List ℕ → List ℕ
plain [] = []
plain (x ∷ l) = let r = x ∷ plain l in choose (ltb x flag) r []

-- whether the words l begin with just these symbols and then an entry ends
unfoldable pub agrees : List ℕ → List ℕ → Bool
agrees [] [] = true
agrees [] (y ∷ l) = leb flag y
agrees (x ∷ m) [] = false
agrees (x ∷ m) (y ∷ l) = let r = agrees m l in choose (eqb x y) r false

-- the place of the last typecode below k, or 0
unfoldable pub last_flag : List ℕ → ℕ → ℕ
last_flag l zero = 0
last_flag l (suc k) = let r = last_flag l k in choose (ltb (get_or l k 0) flag) r k

-- an entry with the symbols 5 and 6 is left, and then others begin
pub entries_shown : plain (5 ∷ 6 ∷ (2 + flag) ∷ (1 + flag) ∷ []) ≡ 5 ∷ 6 ∷ []
unfolding plain
entries_shown = refl

pub agrees_shown : agrees (5 ∷ 6 ∷ []) (5 ∷ 6 ∷ (2 + flag) ∷ []) ≡ true
unfolding agrees
agrees_shown = refl

pub agrees_short : agrees (5 ∷ []) (5 ∷ 6 ∷ (2 + flag) ∷ []) ≡ false
unfolding agrees
agrees_short = refl

pub last_shown : last_flag ((1 + flag) ∷ 5 ∷ 6 ∷ (2 + flag) ∷ 7 ∷ []) 3 ≡ 0
unfolding last_flag
last_shown = refl

-- the entry of a typecode and some symbols
unfoldable pub entry_of : ℕ → List ℕ → List ℕ
entry_of c r = (c + flag) ∷ r

-- the atoms of some tokens are below n
pub record AtomsBelow (r : List ℕ) (n : ℕ) : Type 0 where
  pub atom : (i : ℕ) → i < length r → get_or r i 0 < n
