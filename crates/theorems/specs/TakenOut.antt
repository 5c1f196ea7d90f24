-- A record stream with the records taken out whose statement offset lies between p and q.
-- The walk goes from record to record by their length fields; the offset is the four bytes after length and kind.
use Rattle.std.specs.Prelude.{Bool, true, List, [], ◌∷◌, ℕ, zero, suc, ◌+◌}
use Rattle.paper.specs.Base.{choose, not, within}
use Rattle.paper.specs.Lookup.{u32_at}
use Rattle.paper.specs.Answer.{Streams}

abbrev pub kept : Bool → ℕ → List ℕ → List ℕ
kept b c l = choose b (c ∷ l) l

-- whether the record at the front of some bytes stays
abbrev pub stays : ℕ → ℕ → List ℕ → Bool
stays p q l = not (within p q (u32_at l 6))

-- the bytes that stay of some bytes, of which the first k belong to the record in hand, which stays or not
unfoldable pub walk : ℕ → ℕ → List ℕ → ℕ → Bool → List ℕ
walk p q [] k b = []
walk p q (c ∷ l) (suc k) b = kept b c (walk p q l k b)
walk p q (c ∷ l) zero b = kept (stays p q (c ∷ l)) c (walk p q l (3 + u32_at (c ∷ l) 0) (stays p q (c ∷ l)))

unfoldable pub taken_out : ℕ → ℕ → List ℕ → List ℕ
taken_out p q l = walk p q l 0 true

-- how many records some bytes have, of which the first k belong to the record in hand
unfoldable pub records_from : List ℕ → ℕ → ℕ
records_from [] k = 0
records_from (c ∷ l) (suc k) = records_from l k
records_from (c ∷ l) zero = suc (records_from l (3 + u32_at (c ∷ l) 0))

unfoldable pub records_in : List ℕ → ℕ
records_in l = records_from l 0

-- both streams, and how many frames stay
abbrev pub streams_without : ℕ → ℕ → Streams → Streams
streams_without p q s =
    let f = taken_out p q s.frames in
    record { frames = f; diags = taken_out p q s.diags; count = records_in f }
