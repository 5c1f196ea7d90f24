-- Look-up: numbers 0, 10 and 11 with their places, as one table.
-- Labels are compared byte for byte, and the whole buffer is walked first.
use mathlib.Core.Path.{◌≡◌, refl}
use mathlib.Core.List.{List, [], ◌∷◌, ◌++◌, map}
use Prim.Native.Nat.{ℕ}
use Prim.Native.String.{String}
use Rattle.paper.specs.Base.{codes, sameb}
use Rattle.paper.specs.Lookup.{found_number, found_place, u16_at, u32_at, stub_string, stub_at, stub_after, stub_if, label_of, search_from, look_up}
use Rattle.paper.proofs.Table.{hex}

-- the frame buffer and a label; the number and its place
pub data Case : Type 0 where
  sought : List ℕ → String → ℕ → ℕ → Case

pub data Answered : Type 0 where
  answered : ℕ → ℕ → Answered

abbrev expected : Case → Answered
expected (sought f n k p) = answered k p

abbrev computed : Case → Answered
computed (sought f n k p) = let r = look_up f (codes n) in answered (found_number r) (found_place r)

-- the frames of `$c c $. $v x $. 0417 $f c x $. 417 $a c $. a $p c $= ? $.`: records at 0, 32 and 82
abbrev records : List ℕ
records =
    hex
    ("1C000000 0400 10000000 FFFFFFFF 04000000 30343137 01000000 63 01000000 78"
    ∷ "2E000000 0200 1F000000 03000000 343137 0000 0000 00000000 00000000 01000000 63 00000000 00000000"
    ∷ "00000000 00000000"
    ∷ "2C000000 0300 2B000000 01000000 61 0000 0000 00000000 00000000 01000000 63 00000000 00000000"
    ∷ "00000000 00000000"
    ∷ [])

abbrev cases : List Case
cases =
    -- the first record
    sought records "0417" 0 0 ∷
    -- another label, another record
    sought records "417" 0 32 ∷
    -- the last record
    sought records "a" 0 82 ∷
    -- no such label, though one begins with these bytes
    sought records "41" 11 0 ∷
    -- no label is empty here
    sought records "" 11 0 ∷
    -- an empty buffer has no records
    sought [] "a" 11 0 ∷
    -- all of the buffer is walked: the record was found, but one byte is left
    sought (records ++ (hex ("00" ∷ []))) "0417" 10 130 ∷
    -- the first record with that label
    sought (records ++ records) "a" 0 82 ∷
    -- only the label is looked at: a record of kind 2 with the empty label
    sought (hex ("0A000000 0200 00000000 00000000" ∷ [])) "" 0 0 ∷
    -- a length of 2 fits, but leaves no room for the label
    sought (hex ("02000000 0200" ∷ [])) "" 10 0 ∷
    -- a length under 2
    sought (hex ("01000000 02" ∷ [])) "" 10 0 ∷
    -- a length that does not fit the buffer
    sought (hex ("0B000000 0200 00000000 00000000" ∷ [])) "" 10 0 ∷
    -- three bytes remain
    sought (hex ("0A0000" ∷ [])) "" 10 0 ∷
    -- kind 0
    sought (hex ("0A000000 0000 00000000 00000000" ∷ [])) "" 10 0 ∷
    -- kind 5
    sought (hex ("0E000000 0500 00000000 00000000 00000000" ∷ [])) "" 10 0 ∷
    -- the second byte of the kind counts
    sought (hex ("0A000000 0201 00000000 00000000" ∷ [])) "" 10 0 ∷
    -- a label that goes over its record by one byte
    sought (hex ("0A000000 0200 00000000 01000000" ∷ [])) "" 10 0 ∷
    -- the label of kind 4 stands four bytes later
    sought (hex ("0A000000 0400 00000000 00000000" ∷ [])) "" 10 0 ∷
    -- and is found there; nothing after it is looked at
    sought (hex ("0E000000 0400 00000000 00000000 00000000" ∷ [])) "" 0 0 ∷
    -- kind 1 needs its stub string: there is no typecode; none after it; an empty one
    sought (hex ("0E000000 0100 00000000 00000000 00000000" ∷ [])) "" 10 0 ∷
    sought (hex ("13000000 0100 00000000 00000000 00000000 01000000 77" ∷ [])) "" 10 0 ∷
    sought (hex ("17000000 0100 00000000 00000000 00000000 01000000 77 00000000" ∷ [])) "" 10 0 ∷
    -- one whose last byte is under 128; with an earlier byte of 128 or more
    sought (hex ("18000000 0100 00000000 00000000 00000000 01000000 77 01000000 78" ∷ [])) "" 10 0 ∷
    sought (hex ("19000000 0100 00000000 00000000 00000000 01000000 77 02000000 F8F8" ∷ [])) "" 10 0 ∷
    -- one that is right, also with a byte after it
    sought (hex ("19000000 0100 00000000 00000000 00000000 01000000 77 02000000 78F8" ∷ [])) "" 0 0 ∷
    sought (hex ("19000000 0100 00000000 00000000 00000000 01000000 77 01000000 F800" ∷ [])) "" 0 0 ∷
    []

pub lookups : map computed cases ≡ map expected cases
unfolding hex sameb u16_at u32_at stub_string stub_at stub_after stub_if label_of search_from look_up
lookups = refl
