-- Look-up walks the whole frame buffer first. A record is well framed if four bytes remain, its length is at least 2 and
-- fits the buffer, its kind is 1 to 4, and its label lies within it; one of kind 1 has a stub string (A10 of document 02).
use Rattle.std.specs.Prelude.{◌≡◌, refl, Bool, true, false, List, [], ◌∷◌, ◌++◌, ℕ, zero, suc, ◌+◌, ◌*◌, eqb, ltb, length, get_or, take, drop}
use Rattle.std.specs.Prelude.{Some, None}
use Rattle.std.specs.Prelude as answer
use Rattle.std.specs.Prelude.{Result, Ok, Err}
use Rattle.std.proofs.Math.Option.{Option, none, some}
use Rattle.paper.specs.Base.{choose, or, not, codes, sameb}
use Rattle.paper.specs.Records.{le, u16, u32, string, framed}
use Rattle.paper.specs.declared.Malformed.{Malformed}

-- ---- what look-up answers: the offset of a record or of none, or the first bad record; its number and place
abbrev pub Found : Type 0
Found = Result (answer.Option ℕ) Malformed

abbrev pub found_number : Found → ℕ
found_number (Ok (Some p)) = 0
found_number (Err e) = 10
found_number (Ok None) = 11

abbrev pub found_place : Found → ℕ
found_place (Ok (Some p)) = p
found_place (Err e) = e.0
found_place (Ok None) = 0

-- ---- numbers in some bytes, at a place
unfoldable pub u16_at : List ℕ → ℕ → ℕ
u16_at l i = get_or l i 0 + 256 * get_or l (i + 1) 0

unfoldable pub u32_at : List ℕ → ℕ → ℕ
u32_at l i = u16_at l i + 65536 * u16_at l (i + 2)

-- where the label string stands in a record of this kind, from the record's start; 0 for no kind
abbrev pub label_place : ℕ → ℕ
label_place k = choose (or (eqb k 1) (eqb k 4)) 14 (choose (or (eqb k 2) (eqb k 3)) 10 0)

-- ---- a stub string: bytes under 128 and then one of 128 or more, the last. It is not empty
abbrev none_left : List ℕ → Bool
none_left [] = true
none_left (b ∷ l) = false

unfoldable pub stub_string : List ℕ → Bool
stub_string [] = false
stub_string (b ∷ l) = let r = stub_string l in choose (ltb b 128) r (none_left l)

-- one stands at place i of bytes that end at n; and one stands after the typecode at place i
unfoldable pub stub_at : List ℕ → ℕ → ℕ → Bool
stub_at l i n =
    choose (ltb n (i + 4)) false
    (choose (ltb n ((i + 4) + u32_at l i)) false (stub_string (take (u32_at l i) (drop (i + 4) l))))

unfoldable pub stub_after : List ℕ → ℕ → ℕ → Bool
stub_after l i n =
    choose (ltb n (i + 4)) false
    (choose (ltb n ((i + 4) + u32_at l i)) false (stub_at l ((i + 4) + u32_at l i) n))

-- a record of kind 1 has one after its label, which ends at i
unfoldable pub stub_if : ℕ → List ℕ → ℕ → ℕ → Bool
stub_if k l i n = choose (eqb k 1) (stub_after l i n) true

-- the label string at place i of a record of kind k and n bytes
abbrev pub label_at : List ℕ → ℕ → ℕ → ℕ → Option (List ℕ)
label_at l k i n =
    choose (eqb i 0) none
    (choose (ltb n (i + 4)) none
    (choose (ltb n ((i + 4) + u32_at l i)) none
    (choose (not (stub_if k l ((i + 4) + u32_at l i) n)) none (some (take (u32_at l i) (drop (i + 4) l))))))

-- the label of the record at the front of some bytes, if it is well framed
unfoldable pub label_of : List ℕ → Option (List ℕ)
label_of l =
    choose (ltb (length l) 4) none
    (choose (ltb (u32_at l 0) 2) none
    (choose (ltb (length l) (4 + u32_at l 0)) none (label_at l (u16_at l 4) (label_place (u16_at l 4)) (4 + u32_at l 0))))

-- the record at offset o has this label, or is not well framed; and so the answer of the records after it
abbrev pub first_of : Option (List ℕ) → List ℕ → ℕ → Found → Found
first_of none n o r = Err (record { 0 = o })
first_of (some m) n o (Ok (Some p)) = choose (sameb m n) (Ok (Some o)) (Ok (Some p))
first_of (some m) n o (Err e) = Err e
first_of (some m) n o (Ok None) = choose (sameb m n) (Ok (Some o)) (Ok None)

-- the records of some bytes of which the first has offset o, after k further bytes of the record before them
unfoldable pub search_from : List ℕ → List ℕ → ℕ → ℕ → Found
search_from n [] o k = Ok None
search_from n (b ∷ l) o (suc k) = search_from n l (suc o) k
search_from n (b ∷ l) o zero =
    first_of (label_of (b ∷ l)) n o (search_from n l (suc o) (3 + u32_at (b ∷ l) 0))

-- one byte to pass, then a record of b and a record of a, each of 15 bytes
pub search_shown : search_from (codes "a") (7 ∷ (framed 2 (u32 0 ++ string (codes "b")) ++ framed 2 (u32 9 ++ string (codes "a")))) 20 1 ≡ Ok (Some 36)
unfolding le u16 u32 string framed sameb u16_at u32_at stub_if label_of search_from
search_shown = refl

-- the offset of the first record with that label, byte for byte
unfoldable pub look_up : List ℕ → List ℕ → Found
look_up f n = search_from n f 0 0
