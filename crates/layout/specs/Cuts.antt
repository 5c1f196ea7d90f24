-- Parts of a record: what is left of some bytes after the parts that are cut from them; and whole records, with places.
-- The parts themselves are those of `paper`'s Layout.
use Rattle.std.specs.Prelude.{◌≡◌, Bool, true, false, List, ℕ, ◌+◌, ◌≤◌, eqb, length, take, drop, Option, Some, None}
use Rattle.paper.specs.Base.{choose, or}
use Rattle.paper.specs.Lookup.{u16_at, u32_at}
use Rattle.paper.specs.Layout.{Cut, short, cut, then, a_string, a_stub, float_head, label_part, names_part, hypotheses_part, back_parts, fits}

-- the bytes that are left, or that a part does not fit
abbrev pub left : Cut → Option (List ℕ)
left short = None
left (cut p r) = Some r

-- r is an end of the bytes l: some number of them is dropped
pub record Ends (l r : List ℕ) : Type 0 where
  pub dropped : ℕ
  pub within : dropped ≤ length l
  pub rest : r ≡ drop dropped l

-- ---- the payload of each kind, as one row of parts
abbrev pub float_by : Bool → List ℕ → Cut
float_by true l = then (float_head l) a_stub
float_by false l = then (float_head l) a_string

unfoldable pub assertion_tail : List ℕ → Cut
assertion_tail l = then (names_part l) (λ m. then (hypotheses_part m) (back_parts (u16_at l 0)))

unfoldable pub assertion_parts : List ℕ → Cut
assertion_parts l = then (label_part l) assertion_tail

unfoldable pub payload_parts : ℕ → List ℕ → Cut
payload_parts k l =
    choose (eqb k 4) (float_by false l)
    (choose (eqb k 1) (float_by true l) (choose (or (eqb k 2) (eqb k 3)) (assertion_parts l) short))

-- ---- the record at a place, by its length; and the place after it, if it fits its layout
unfoldable pub record_from : List ℕ → ℕ → List ℕ
record_from l at = take (4 + u32_at l at) (drop at l)

unfoldable pub fitting : List ℕ → ℕ → Option ℕ
fitting l at = choose (fits (record_from l at)) (Some ((at + 4) + u32_at l at)) None
