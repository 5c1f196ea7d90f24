-- What measure, writer, look-up and converter promise to a caller in another language, for all inputs: the number that comes back,
-- and every lent buffer at exit. `a'` is `answer` at exit, and `p'` is `place`; the other names are those of `catalogue`.
use Rattle.std.specs.Prelude.{◌≡◌, List, [], ◌∷◌, ℕ, eqb, length}
use Rattle.paper.specs.Base.{choose}
use Rattle.paper.specs.Answer.{Answer, number, place, line, frames_used, diags_used, count, measure, answer, frames_exit, diags_exit, work_exit}
use Rattle.paper.specs.Lookup.{look_up, found_number, found_place}
use Rattle.paper.specs.Convert.{Converted, converted_number, converted_place, converted_used, convert, convert_exit}
use Rattle.paper.specs.declared.Setting.{Setting}
use Rattle.paper.specs.declared.Setting.TheVariants.{Short, Full}

-- the words of `answer`: place, segment, line, bytes of frames, of diagnostics and of verdicts, number of frames, and one more.
-- There are no segments and verdicts yet: these and the last are 0
abbrev pub eight : ℕ → ℕ → ℕ → ℕ → ℕ → List ℕ
eight p l f d n = p ∷ 0 ∷ l ∷ f ∷ d ∷ 0 ∷ n ∷ 0 ∷ []

abbrev pub words : Answer → List ℕ
words r = eight (place r) (line r) (frames_used r) (diags_used r) (count r)

-- the setting by its number: 0 for short frames, any other for full ones
abbrev pub setting_of : ℕ → Setting
setting_of u = choose (eqb u 0) Short Full

-- `u` is that number
pub record Gauged (u : ℕ) (t w w' a' : List ℕ) (n : ℕ) : Type 0 where
  pub told : n ≡ number (measure (setting_of u) t (length w))
  pub answer : a' ≡ words (measure (setting_of u) t (length w))
  pub work : w' ≡ work_exit w

pub record Written (u : ℕ) (t w w' f f' d d' a' : List ℕ) (n : ℕ) : Type 0 where
  pub told : n ≡ number (answer (setting_of u) t (length w) (length f) (length d))
  pub answer : a' ≡ words (answer (setting_of u) t (length w) (length f) (length d))
  pub frames : f' ≡ frames_exit (setting_of u) t w f d
  pub diags : d' ≡ diags_exit (setting_of u) t w f d
  pub work : w' ≡ work_exit w

pub record Looked (f l : List ℕ) (p' n : ℕ) : Type 0 where
  pub told : n ≡ found_number (look_up f l)
  pub place : p' ≡ found_place (look_up f l)

-- place and used bytes
abbrev pub converted_words : Converted → List ℕ
converted_words r = converted_place r ∷ converted_used r ∷ []

-- `l` is the buffer at entry, `m` at exit
pub record Changed (s l m a' : List ℕ) (n : ℕ) : Type 0 where
  pub told : n ≡ converted_number (convert s (length l))
  pub answer : a' ≡ converted_words (convert s (length l))
  pub exit : m ≡ convert_exit s l
