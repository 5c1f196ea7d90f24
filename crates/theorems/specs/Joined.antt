-- Segments as one text (A12 of document 02): the reading and the scope of segments are as if they were one text with a space between.
-- One segment alone is a text; and the order of addresses, as numbers, is by segment, then offset.
use Rattle.std.specs.Prelude.{◌≡◌, List, [], ◌∷◌, ◌++◌, map, ℕ, suc, ◌+◌, ◌-◌, ◌<◌, eqb, leb, ltb, length}
use Rattle.paper.specs.Base.{choose, and, or}
use Rattle.paper.specs.Statements.{Statement}
use Rattle.paper.specs.Reader.{given, reading}
use Rattle.paper.specs.Segments.{base, segment_of, offset_of, segments, well_laid, looking, segment_reading}
use Rattle.paper.specs.Give.{all_given}
use Rattle.theorems.specs.Moved.{moved_statement, moved_given}

-- the segments with a space between
unfoldable pub joined : List (List ℕ) → List ℕ
joined [] = []
joined (s ∷ []) = s
joined (s ∷ r ∷ l) = s ++ (32 ∷ joined (r ∷ l))

-- the address of the byte at offset o of the segments joined, of which the first is segment k; a space between, and the end of
-- the text, has the address of the end before it
unfoldable pub address_in : List (List ℕ) → ℕ → ℕ → ℕ
address_in [] k o = base k + o
address_in (s ∷ l) k o =
    let r = address_in l (suc k) (o - suc (length s)) in
    choose (leb o (length s)) (base k + o) r

-- l are the statements of the segments s. The segments joined, as one segment, are read without refusal; their statements, each
-- offset taken for the address there, are l; and so is all that they give: diagnostics, what is recorded, frames
pub record AsOneText (s : List (List ℕ)) (l : List Statement) : Type 0 where
  pub one : List Statement
  pub read : looking (joined s ∷ []) ≡ given one
  pub statements : l ≡ map (moved_statement (address_in s 0)) one
  pub scope : all_given l ≡ map (moved_given (address_in s 0)) (all_given one)

-- for all lengths l, buffers t and work areas of w words, with which nothing is refused
abbrev pub Joined : Type 0
Joined =
    (l t : List ℕ) (w : ℕ) (k : List Statement) → segment_reading l t w ≡ well_laid (given k) → AsOneText (segments l t) k

-- one segment alone
abbrev pub Single : Type 0
Single = (t : List ℕ) (w : ℕ) → segment_reading (length t ∷ []) t w ≡ well_laid (reading t w)

-- ---- addresses as numbers
abbrev pub Ordered : Type 0
Ordered =
    (k j o p : ℕ) → o < 33554432 → p < 33554432
    → ltb (base k + o) (base j + p) ≡ or (ltb k j) (and (eqb k j) (ltb o p))

-- an address tells its segment and its offset
abbrev pub Addressed : Type 0
Addressed = (k o : ℕ) → o < 33554432 → (segment_of (base k + o) ≡ k) × (offset_of (base k + o) ≡ o)
