-- The converter (A10 of document 02) turns a stream's kind 1 records into kind 4 with all other records unchanged.
-- Refused: 10 as in A7, then 8 if short; nothing written.
use Rattle.std.specs.Prelude.{List, [], ◌∷◌, ◌++◌, ℕ, ◌+◌, eqb, ltb, length, take, drop}
use Rattle.std.specs.Prelude.{Result, Ok, Err}
use Rattle.std.proofs.Math.Option.{Option, none, some}
use Rattle.paper.specs.Base.{choose, gather}
use Rattle.paper.specs.Records.{u16}
use Rattle.paper.specs.Lookup.{u16_at}
use Rattle.paper.specs.Answer.{laid}
use Rattle.paper.specs.Layout.{lowered, fits, stream_records}
use Rattle.paper.specs.declared.Unconverted.{Unconverted}
use Rattle.paper.specs.declared.Unconverted.TheVariants.{Unfit, NoRoom}

-- ---- what the converter answers: the used bytes, or why there are none
abbrev pub Converted : Type 0
Converted = Result ℕ Unconverted

-- ---- number, place and used bytes
abbrev pub unconverted_number : Unconverted → ℕ
unconverted_number (Unfit p) = 10
unconverted_number (NoRoom n) = 8

abbrev pub unconverted_place : Unconverted → ℕ
unconverted_place (Unfit p) = p
unconverted_place (NoRoom n) = n

abbrev pub converted_number : Converted → ℕ
converted_number (Ok n) = 0
converted_number (Err e) = unconverted_number e

abbrev pub converted_place : Converted → ℕ
converted_place (Ok n) = 0
converted_place (Err e) = unconverted_place e

abbrev pub converted_used : Converted → ℕ
converted_used (Ok n) = n
converted_used (Err e) = 0

-- ---- number 10: the first record that does not fit its layout, of records of which the first has offset o
unfoldable pub first_unfit : List (List ℕ) → ℕ → Option ℕ
first_unfit [] o = none
first_unfit (r ∷ l) o = let m = first_unfit l (o + length r) in choose (fits r) m (some o)

-- ---- a kind 1 record as kind 4: the kind, and the last byte, which is the stub string's, without its 128
unfoldable pub renewed : List ℕ → List ℕ
renewed r = choose (eqb (u16_at r 4) 1) (take 4 r ++ (u16 4 ++ lowered (drop 6 r))) r

unfoldable pub renewal : List ℕ → List ℕ
renewal s = gather renewed (stream_records s)

-- ---- what the converter answers for the stream s and a buffer of n bytes; and what that buffer holds at exit
abbrev pub conversion : Option ℕ → List ℕ → ℕ → Converted
conversion (some o) b n = Err (Unfit o)
conversion none b n = choose (ltb n (length b)) (Err (NoRoom (length b))) (Ok (length b))

abbrev pub conversion_exit : Option ℕ → List ℕ → List ℕ → List ℕ
conversion_exit (some o) b l = l
conversion_exit none b l = choose (ltb (length l) (length b)) l (laid l 0 b)

unfoldable pub convert : List ℕ → ℕ → Converted
convert s n = conversion (first_unfit (stream_records s) 0) (renewal s) n

unfoldable pub convert_exit : List ℕ → List ℕ → List ℕ
convert_exit s l = conversion_exit (first_unfit (stream_records s) 0) (renewal s) l
