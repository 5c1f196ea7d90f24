-- What can be asked of the record at a place: its label, its kind, and of an assertion V, M and the hypothesis count.
-- Each has an answer also for a record that does not hold it.
use Rattle.std.specs.Prelude.{List, [], ℕ, zero, suc, ◌+◌, ◌-◌, eqb, ltb, take, drop, Option, Some, None}
use Rattle.paper.specs.Base.{choose, or}
use Rattle.paper.specs.Lookup.{u16_at, u32_at}
use Rattle.stream.specs.Framing.{framing}
use Rattle.stream.specs.declared.walk.Record.{Record}
use Rattle.stream.specs.declared.field.Part.{Part}

-- ---- every record: label and kind
abbrev pub label_in : List ℕ → Option Record → List ℕ
label_in l (Some r) = take (r.stop - r.label) (drop r.label l)
label_in l None = []

abbrev pub kind_in : Option Record → Option ℕ
kind_in (Some r) = Some r.kind
kind_in None = None

unfoldable pub label_at : List ℕ → ℕ → List ℕ
label_at l at = label_in l (framing l at)

unfoldable pub kind_at : List ℕ → ℕ → Option ℕ
kind_at l at = kind_in (framing l at)

-- ---- an assertion: what follows its label, from V on, up to the record's end
abbrev pub counts_in : Option Record → Option Part
counts_in (Some r) =
    choose (or (eqb r.kind 1) (eqb r.kind 4)) None
    (choose (ltb r.after (r.stop + 4)) None (Some (record { from = r.stop; end = r.after })))
counts_in None = None

unfoldable pub counts_at : List ℕ → ℕ → Option Part
counts_at l at = counts_in (framing l at)

abbrev pub variables_in : List ℕ → Option Part → Option ℕ
variables_in l (Some c) = Some (u16_at l c.from)
variables_in l None = None

abbrev pub mandatory_in : List ℕ → Option Part → Option ℕ
mandatory_in l (Some c) = Some (u16_at l (c.from + 2))
mandatory_in l None = None

unfoldable pub variables_at : List ℕ → ℕ → Option ℕ
variables_at l at = variables_in l (counts_at l at)

unfoldable pub mandatory_at : List ℕ → ℕ → Option ℕ
mandatory_at l at = mandatory_in l (counts_at l at)

-- ---- the place after n strings that stand from p on, before e
unfoldable pub after_strings : List ℕ → ℕ → ℕ → ℕ → Option ℕ
after_strings l e zero p = Some p
after_strings l e (suc n) p =
    let r = after_strings l e n ((p + 4) + u32_at l p) in
    choose (ltb e (p + 4)) None (choose (ltb e ((p + 4) + u32_at l p)) None r)

-- the hypothesis count follows V variable strings and the pool string
abbrev pub number_in : List ℕ → ℕ → Option ℕ → Option ℕ
number_in l e (Some p) = choose (ltb e (p + 4)) None (Some (u32_at l p))
number_in l e None = None

abbrev pub hypotheses_in : List ℕ → Option Part → Option ℕ
hypotheses_in l (Some c) = number_in l c.end (after_strings l c.end (u16_at l c.from + 1) (c.from + 4))
hypotheses_in l None = None

unfoldable pub hypotheses_at : List ℕ → ℕ → Option ℕ
hypotheses_at l at = hypotheses_in l (counts_at l at)
