-- The catalogue in several segments (A12 of document 02): segments laid end to end in one buffer, with their lengths, and the reading of them.
-- No operation asks this yet. An address is a segment number and an offset in it; the order between addresses is by segment, then offset.
use Rattle.std.specs.Prelude.{◌≡◌, refl, Bool, List, [], ◌∷◌, ◌++◌, ℕ, suc, ◌+◌, ◌*◌, ◌/◌, ◌%◌, eqb, leb, ltb, length, take, drop}
use Rattle.std.proofs.Math.Option.{Option, none}
use Rattle.paper.specs.Base.{choose, and, or_else}
use Rattle.paper.specs.Tokens.{Token, toks, bad_from}
use Rattle.paper.specs.Statements.{Statement, Item}
use Rattle.paper.specs.Reader.{Outcome, refused, given, items, with_ends, printed}
use Rattle.paper.specs.declared.Refusal.TheVariants.{LongText, ShortWork}

-- ---- An address is one number: 33,554,432 times the segment, which counts from 0, plus the offset in it
-- where segment k begins
abbrev pub base : ℕ → ℕ
base k = 33554432 * k

abbrev pub segment_of : ℕ → ℕ
segment_of a = a / 33554432

abbrev pub offset_of : ℕ → ℕ
offset_of a = a % 33554432

-- ---- An ordered list of at most 64 segments, laid end to end in one buffer with their lengths
-- of the lengths l and the buffer t
unfoldable pub segments : List ℕ → List ℕ → List (List ℕ)
segments [] t = []
segments (n ∷ l) t = take n t ∷ segments l (drop n t)

-- the third segment is empty
pub segments_shown : segments (2 ∷ 1 ∷ 0 ∷ 3 ∷ []) (1 ∷ 2 ∷ 3 ∷ 4 ∷ 5 ∷ 6 ∷ []) ≡ (1 ∷ 2 ∷ []) ∷ (3 ∷ []) ∷ [] ∷ (4 ∷ 5 ∷ 6 ∷ []) ∷ []
unfolding segments
segments_shown = refl

unfoldable pub sum : List ℕ → ℕ
sum [] = 0
sum (n ∷ l) = n + sum l

-- number 15 is given exactly when not: lengths that do not add up to the buffer, or a count over 64
unfoldable pub laid_out : List ℕ → List ℕ → Bool
laid_out l t = and (leb (length l) 64) (eqb (sum l) (length t))

-- ---- Each segment is read by itself, the first of them as segment k
unfoldable pub segment_tokens : List (List ℕ) → ℕ → List Token
segment_tokens [] k = []
segment_tokens (s ∷ l) k = toks s (base k) ++ segment_tokens l (suc k)

unfoldable pub segment_bad : List (List ℕ) → ℕ → Option ℕ
segment_bad [] k = none
segment_bad (s ∷ l) k = or_else (bad_from s (base k)) (segment_bad l (suc k))

-- of 4, 5 and 6 the earliest segment's is given
abbrev pub and_then : Outcome (List Item) → Outcome (List Item) → Outcome (List Item)
and_then (refused r) y = refused r
and_then (given i) (refused r) = refused r
and_then (given i) (given j) = given (i ++ j)

-- each segment must close its own comments, statements and groups
unfoldable pub segment_items : List (List ℕ) → ℕ → Outcome (List Item)
segment_items [] k = given []
segment_items (s ∷ l) k = and_then (items (toks s (base k)) (base k + length s)) (segment_items l (suc k))

-- ---- Number 15 comes before all others, number 1 counts the buffer
pub data Laid (A : Type 0) : Type 0 where
  bad_lengths : Laid A
  well_laid : A → Laid A

-- 16 × (N + 1)
unfoldable pub segment_words : List (List ℕ) → ℕ
segment_words s = 16 * (length (segment_tokens s 0) + 1)

-- the statements of segments, or one of numbers 3 to 6, whose place is an address
unfoldable pub looking : List (List ℕ) → Outcome (List Statement)
looking s = printed (segment_bad s 0) (with_ends (segment_items s 0))

-- the statements of the segments of lengths l in the buffer t, given so many words of work area; or one of numbers 15 and 1 to 6
unfoldable pub segment_reading : List ℕ → List ℕ → ℕ → Laid (Outcome (List Statement))
segment_reading l t w =
    let s = segments l t in
    choose (laid_out l t)
    (well_laid
    (choose (ltb 16777216 (length t)) (refused LongText)
    (choose (ltb w (segment_words s)) (refused (ShortWork (segment_words s))) (looking s))))
    bad_lengths
