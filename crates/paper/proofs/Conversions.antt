-- The converter: numbers 0, 8 and 10 with their places, and the buffer at exit, as one table.
-- A record is looked at to its last byte; of kind 1 only the kind and the last byte change.
use mathlib.Core.Path.{◌≡◌, refl}
use mathlib.Core.List.{List, [], ◌∷◌, ◌++◌, map}
use Prim.Native.Nat.{ℕ}
use lib.ListN.{length}
use Rattle.paper.specs.Base.{gather}
use Rattle.paper.specs.Records.{le, u16}
use Rattle.paper.specs.Lookup.{u16_at, u32_at, stub_string}
use Rattle.paper.specs.Answer.{laid}
use Rattle.paper.specs.Layout.{lowered, part, times, counted, an_expression, hypothesis_tail, a_hypothesis, a_stub, names_part, hypotheses_part, back_parts, shape_of, record_shape, fits, records_after, stream_records}
use Rattle.paper.specs.Convert.{converted_number, converted_place, converted_used, first_unfit, renewed, renewal, convert, convert_exit}
use Rattle.paper.proofs.Table.{hex, old}

-- number, place and used bytes; and the buffer at exit
pub data Renewing : Type 0 where
  renewing : ℕ → ℕ → ℕ → List ℕ → Renewing

-- a stream and the buffer at entry, and what is to come of it
pub data Case : Type 0 where
  from_into : List ℕ → List ℕ → Renewing → Case

abbrev pub expected : Case → Renewing
expected (from_into s l x) = x

unfoldable pub conversion_of : List ℕ → List ℕ → Renewing
unfolding gather le u16 u16_at u32_at laid stub_string lowered part times counted an_expression hypothesis_tail a_hypothesis a_stub names_part
    hypotheses_part back_parts shape_of record_shape fits records_after stream_records first_unfit renewed renewal
    convert convert_exit
conversion_of s l =
    let r = convert s (length l) in
    renewing (converted_number r) (converted_place r) (converted_used r) (convert_exit s l)

abbrev pub computed : Case → Renewing
computed (from_into s l x) = conversion_of s l

-- refused, with n bytes of room
abbrev refused : List ℕ → ℕ → ℕ → ℕ → Case
refused s n k p = from_into s (old n) (renewing k p 0 (old n))

-- given in a buffer that has one byte more
abbrev given : List ℕ → List ℕ → Case
given s b = from_into s (old (length s) ++ old 1) (renewing 0 0 (length b) (b ++ old 1))

-- the records of the whole case: `wx` as kind 1 and as kind 4, and `ax`
abbrev stubbed : List ℕ
stubbed = hex ("1C000000 0100 16000000 FFFFFFFF 02000000 7778 03000000 776666 01000000 F8" ∷ [])

abbrev plain : List ℕ
plain = hex ("1C000000 0400 16000000 FFFFFFFF 02000000 7778 03000000 776666 01000000 78" ∷ [])

abbrev ax : List ℕ
ax =
    hex
    ("50000000 0200 25000000 02000000 6178 0100 0100 01000000 78 02000000 A8A9 01000000 0100 16000000 0000"
    ∷ "03000000 776666 03000000 776666 01000000 00000000 01000000 0000 01000000 02000000 00000000 00"
    ∷ [])

abbrev pub cases : List Case
cases =
    -- no records
    given [] [] ∷
    -- the whole case
    given (stubbed ++ ax) (plain ++ ax) ∷
    -- one byte less
    refused (stubbed ++ ax) 115 8 116 ∷
    -- each record of kind 1, the last of the stream too
    given (stubbed ++ (ax ++ stubbed)) (plain ++ (ax ++ plain)) ∷
    -- nothing of kind 1: nothing changes
    given (ax ++ plain) (ax ++ plain) ∷
    -- an earlier byte of the variable stays
    given (hex ("1A000000 0100 00000000 00000000 01000000 62 01000000 77 02000000 78F8" ∷ []))
    (hex ("1A000000 0400 00000000 00000000 01000000 62 01000000 77 02000000 7878" ∷ [])) ∷
    -- a stub string that is empty; missing, as no byte is left or as the typecode does not fit
    refused (stubbed ++ (hex ("18000000 0100 00000000 00000000 01000000 62 01000000 77 00000000" ∷ []))) 99 10 32 ∷
    refused (hex ("14000000 0100 00000000 00000000 01000000 62 01000000 77" ∷ [])) 99 10 0 ∷
    refused (hex ("14000000 0100 00000000 00000000 01000000 62 09000000 77" ∷ [])) 99 10 0 ∷
    -- its last byte under 128; an earlier one of 128 or more
    refused (hex ("19000000 0100 00000000 00000000 01000000 62 01000000 77 01000000 78" ∷ [])) 99 10 0 ∷
    refused (hex ("1A000000 0100 00000000 00000000 01000000 62 01000000 77 02000000 F8F8" ∷ [])) 99 10 0 ∷
    -- a byte after it
    refused (hex ("1A000000 0100 00000000 00000000 01000000 62 01000000 77 01000000 F800" ∷ [])) 99 10 0 ∷
    -- the variable of kind 4 is not looked at: empty, or over 127
    given (hex ("18000000 0400 00000000 00000000 01000000 62 01000000 77 00000000" ∷ []))
    (hex ("18000000 0400 00000000 00000000 01000000 62 01000000 77 00000000" ∷ [])) ∷
    given (hex ("19000000 0400 00000000 00000000 01000000 62 01000000 77 01000000 F8" ∷ []))
    (hex ("19000000 0400 00000000 00000000 01000000 62 01000000 77 01000000 F8" ∷ [])) ∷
    -- a byte after the rows, and a row too few
    refused (ax ++ (hex ("30000000 0200 00000000 02000000 6178 0000 0000 00000000 00000000 03000000 776666 00000000 00000000 00000000 00000000 00" ∷ []))) 200 10 84 ∷
    refused (hex ("34000000 0200 00000000 02000000 6178 0100 0000 01000000 78 00000000 00000000 03000000 776666 00000000 00000000 00000000 00000000" ∷ [])) 99 10 0 ∷
    -- a hypothesis of neither kind
    refused (hex ("3E000000 0300 00000000 02000000 6178 0000 0000 00000000 01000000 0300 00000000 0000 03000000 776666 03000000 776666 00000000 00000000 00000000 00000000" ∷ [])) 99 10 0 ∷
    -- number 10 before 8; kinds 0 and 5; a length under 2; a record that is cut off
    refused (stubbed ++ (hex ("02000000 0400" ∷ []))) 0 10 32 ∷
    refused (hex ("18000000 0000 00000000 00000000 01000000 62 01000000 77 00000000" ∷ [])) 99 10 0 ∷
    refused (hex ("18000000 0500 00000000 00000000 01000000 62 01000000 77 00000000" ∷ [])) 99 10 0 ∷
    refused (stubbed ++ (hex ("01000000 04" ∷ []))) 99 10 32 ∷
    refused (stubbed ++ (hex ("1C000000 0400 16000000 FFFFFFFF" ∷ []))) 99 10 32 ∷
    refused (stubbed ++ (hex ("1C0000" ∷ []))) 99 10 32 ∷
    []

pub conversions : map computed cases ≡ map expected cases
unfolding hex conversion_of
conversions = refl
