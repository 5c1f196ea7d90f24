-- A part that is passed over so many times, one after the other.
-- For any function that answers what is left after one such part.
use Rattle.std.specs.Prelude.{◌≡◌, List, ℕ, Option, option_copied}
use denote.Ref.{Bor}
use Rattle.paper.specs.Layout.{Cut, times}
use Rattle.layout.specs.Cuts.{left}

-- `after x r`: r may be answered for x. If every answer is what is left after the part f, so is the answer for n such parts
abbrev pub Repeats : (Bor (List ℕ) → Option (Bor (List ℕ)) → Type 0) → ℕ → Bor (List ℕ) → Option (Bor (List ℕ)) → Type 0
Repeats after n x r =
    (f : List ℕ → Cut) → ((y : Bor (List ℕ)) (s : Option (Bor (List ℕ))) → after y s → option_copied s ≡ left (f y.now))
    → option_copied r ≡ left (times n f x.now)
