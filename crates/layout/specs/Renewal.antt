-- What the converter promises, for all inputs: its answer, and the buffer at exit.
-- `s` is the stream; `l` is the buffer at entry, `m` at exit.
use Rattle.std.specs.Prelude.{◌≡◌, List, ℕ, length, Some, None}
use Rattle.std.specs.declared.option.Option as declared
use Rattle.std.proofs.Math.Option.{Option, none, some}
use Rattle.paper.specs.Layout.{stream_records}
use Rattle.paper.specs.Convert.{Converted, first_unfit, convert, convert_exit}

-- the definitions' answer as the code gives it
abbrev pub unfit_of : Option ℕ → declared.Option ℕ
unfit_of none = None
unfit_of (some o) = Some o

unfoldable pub unfit : List ℕ → declared.Option ℕ
unfit s = unfit_of (first_unfit (stream_records s) 0)

abbrev pub AllFit : List ℕ → Type 0
AllFit s = first_unfit (stream_records s) 0 ≡ none

pub record Converts (s l m : List ℕ) (r : Converted) : Type 0 where
  pub answer : r ≡ convert s (length l)
  pub exit : m ≡ convert_exit s l
