-- The framing of the record at a place of a frame stream: its kind, where its label stands, and where the next starts.
-- Document 01's sentence on well framed records, with places; proofs/Framing.antt says that it is the definition's.
use Rattle.std.specs.Prelude.{Bool, List, ℕ, ◌+◌, eqb, ltb, length, Option, Some, None}
use Rattle.paper.specs.Base.{choose, not}
use Rattle.paper.specs.Lookup.{u16_at, u32_at, label_place, stub_if}
use Rattle.stream.specs.declared.walk.Record.{Record}

-- where the label string stands in a record of this kind, from the record's start; none for no kind
abbrev pub place_if : ℕ → Option ℕ
place_if p = choose (eqb p 0) None (Some p)

abbrev pub place_of : ℕ → Option ℕ
place_of k = place_if (label_place k)

-- where the string at p stops, if it does not stop after e
unfoldable pub string_stop : List ℕ → ℕ → ℕ → Option ℕ
string_stop l p e =
    choose (ltb e (p + 4)) None (choose (ltb e ((p + 4) + u32_at l p)) None (Some ((p + 4) + u32_at l p)))

-- a record of kind k that stops at e, with a label string at p
unfoldable pub label_from : List ℕ → ℕ → ℕ → ℕ → Option Record
label_from l k e p =
    choose (ltb e (p + 4)) None
    (choose (ltb e ((p + 4) + u32_at l p)) None
    (choose (not (stub_if k l ((p + 4) + u32_at l p) e)) None
    (Some (record { kind = k; label = p + 4; stop = (p + 4) + u32_at l p; after = e }))))

-- the record at the place `at`, of which the label string stands p bytes after it
unfoldable pub label_by : List ℕ → ℕ → ℕ → ℕ → ℕ → Option Record
label_by l at k e p = choose (eqb p 0) None (label_from l k e (at + p))

unfoldable pub label_in : List ℕ → ℕ → ℕ → ℕ → Option Record
label_in l at k e = label_by l at k e (label_place k)

unfoldable pub framing : List ℕ → ℕ → Option Record
framing l at =
    choose (ltb (length l) (at + 4)) None
    (choose (ltb (u32_at l at) 2) None
    (choose (ltb (length l) ((at + 4) + u32_at l at)) None
    (label_in l at (u16_at l (at + 4)) ((at + 4) + u32_at l at))))

-- ---- the answer so far: the first record that bears the label
abbrev pub kept : Option ℕ → Bool → ℕ → Option ℕ
kept (Some p) b o = Some p
kept None b o = choose b (Some o) None
