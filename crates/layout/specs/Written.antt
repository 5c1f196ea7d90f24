-- Every stream that the writer gives fits its layout to the last byte, under each setting.
-- For every text that is answered with number 0.
use Rattle.std.specs.Prelude.{◌≡◌, List, ℕ}
use Rattle.paper.specs.Reader.{given}
use Rattle.paper.specs.Answer.{Streams, outcome}
use Rattle.paper.specs.declared.Setting.{Setting}
use Rattle.layout.specs.Renewal.{AllFit}

abbrev pub WrittenFits : Type 0
WrittenFits = (c : Setting) (t : List ℕ) (w f d : ℕ) (s : Streams) → outcome c t w f d ≡ given s → AllFit s.frames
