-- A table of segments: what the definitions say of catalogues in several of them, the number with its segment and its offset there.
-- The readings G7 to G11, each with the smallest catalogue that tells it from another.
use mathlib.Core.Path.{◌≡◌, refl}
use mathlib.Core.Bool.{true, false}
use mathlib.Core.List.{List, [], ◌∷◌, ◌++◌, map}
use Prim.Native.Nat.{ℕ}
use Prim.Native.String.{String}
use lib.Dec.{ltb}
use lib.ListN.{length, replicate}
use Rattle.paper.specs.Base.{choose, codes, sameb, all, any, keep, find, latest, gather}
use Rattle.paper.specs.Bytes.{white, printable, label_byte, math_byte}
use Rattle.paper.specs.Tokens.{run, toks, label_token, math_token, key, bad_from}
use Rattle.paper.specs.Comments.{after, bracketed, visible}
use Rattle.paper.specs.Statements.{Statement, closers, ends}
use Rattle.paper.specs.Reader.{Outcome, refused, given, allow, many, items}
use Rattle.paper.specs.Segments.{segment_of, offset_of, segments, sum, laid_out, segment_tokens, segment_bad, segment_items, Laid, bad_lengths, well_laid, segment_words, looking, segment_reading}
use Rattle.paper.specs.Answer.{refusal_number, refusal_place}
use Rattle.paper.specs.declared.Refusal.{Refusal}
use Rattle.paper.specs.declared.Refusal.TheVariants.{LongText}

-- lengths, buffer, words of work area
pub data Lent : Type 0 where
  lent : List ℕ → List ℕ → ℕ → Lent

-- segments by their bytes, and words enough
abbrev pub pieces : List String → Lent
pieces s = lent (map (λ x. length (codes x)) s) (gather codes s) 160

-- a number with segment and offset; a number whose place is none of these; how many statements are read
pub data Told : Type 0 where
  at : ℕ → ℕ → ℕ → Told
  number : ℕ → ℕ → Told
  read : ℕ → Told

infix 20 ◌gives◌
pub data Case : Type 0 where
  ◌gives◌ : Lent → Told → Case

abbrev pub tells : Refusal → Told
tells r =
    choose (ltb (refusal_number r) 3) (number (refusal_number r) (refusal_place r))
    (at (refusal_number r) (segment_of (refusal_place r)) (offset_of (refusal_place r)))

abbrev pub told : Laid (Outcome (List Statement)) → Told
told bad_lengths = number 15 0
told (well_laid (refused r)) = tells r
told (well_laid (given l)) = read (length l)

unfoldable pub operation : Lent → Told
unfolding sameb all any keep find latest gather white printable label_byte math_byte run toks label_token math_token key bad_from
    after bracketed visible closers ends allow many items segments sum laid_out segment_tokens segment_bad segment_items segment_words
    looking segment_reading
operation (lent l t w) = told (segment_reading l t w)

abbrev pub computed : Case → Told
computed (l gives r) = operation l

abbrev pub expected : Case → Told
expected (l gives r) = r

abbrev pub cases : List Case
cases =
    -- no token goes over an edge: `$(` and `x` are two
    (pieces ("$(" ∷ "x" ∷ []) gives at 4 0 0) ∷
    (pieces ("$v" ∷ "x $." ∷ []) gives at 6 0 2) ∷
    (pieces ("$v x $" ∷ ". $v y $." ∷ []) gives at 5 0 5) ∷
    -- G9: 6 at the end of its own segment, though the next closes what is open
    (pieces ("${" ∷ "$}" ∷ []) gives at 6 0 2) ∷
    (pieces ("$c a" ∷ " $." ∷ []) gives at 6 0 4) ∷
    (pieces ("$c a $." ∷ "a" ∷ " $a a $." ∷ []) gives at 6 1 1) ∷
    -- each segment closes its own comments
    (pieces ("$(" ∷ "$)" ∷ []) gives at 4 0 0) ∷
    -- of 4, 5 and 6 the earliest segment's
    (pieces ("$( $) $(" ∷ "$}" ∷ []) gives at 4 0 6) ∷
    (pieces ("$}" ∷ "$(" ∷ []) gives at 5 0 0) ∷
    (pieces ("${" ∷ "$(" ∷ []) gives at 6 0 2) ∷
    (pieces ("$c a $." ∷ "$} " ∷ []) gives at 5 1 0) ∷
    (pieces ("" ∷ "$( $)" ∷ " $(" ∷ []) gives at 4 2 1) ∷
    -- G8: 3 goes before 4, 5 and 6 of earlier segments
    (lent (2 ∷ 1 ∷ []) (codes "${" ++ (127 ∷ [])) 48 gives at 3 1 0) ∷
    -- G7: empty segments, and none at all
    (pieces [] gives read 0) ∷
    (pieces ("" ∷ "$c a $." ∷ "" ∷ "${ $}" ∷ "" ∷ []) gives read 1) ∷
    (lent (replicate 64 0) [] 16 gives read 0) ∷
    -- number 15: 65 segments; lengths that do not add up, also where a sum that wraps would
    (lent (replicate 65 0) [] 16 gives number 15 0) ∷
    (lent (1 ∷ []) (codes "$}") 32 gives number 15 0) ∷
    (lent (2 ∷ 1 ∷ []) (codes "$}") 32 gives number 15 0) ∷
    (lent [] (codes "$}") 32 gives number 15 0) ∷
    (lent (18446744073709551615 ∷ 3 ∷ []) (codes "$}") 32 gives number 15 0) ∷
    -- before 2; and G11: N counts the tokens segment by segment, `$` and `}` are two
    (lent (3 ∷ []) (codes "$}") 0 gives number 15 0) ∷
    (lent (1 ∷ 1 ∷ []) (codes "$}") 47 gives number 2 48) ∷
    (lent (2 ∷ []) (codes "$}") 31 gives number 2 32) ∷
    []

pub segmented : map computed cases ≡ map expected cases
unfolding operation
segmented = refl

-- ---- for every buffer, however long: 15 before 1, and 1 counts the buffer
pub number_15 : (l t : List ℕ) (w : ℕ) → laid_out l t ≡ false → segment_reading l t w ≡ bad_lengths
unfolding segment_reading
number_15 l t w e = rw e

pub number_1 : (l t : List ℕ) (w : ℕ) → laid_out l t ≡ true → ltb 16777216 (length t) ≡ true
    → segment_reading l t w ≡ well_laid (refused LongText)
unfolding segment_reading
number_1 l t w e a = rw (e, a)
