-- What measure, writer and look-up promise, for all inputs.
-- `c` is the setting, `t` the text; `w`, `f` and `d` are work area, frame and diagnostics buffer at entry, `w'`, `f'` and `d'` at exit.
use Rattle.std.specs.Prelude.{◌≡◌, List, ℕ, length}
use Rattle.paper.specs.Answer.{Answer, measure, answer, frames_exit, diags_exit, work_exit}
use Rattle.paper.specs.Lookup.{Found, look_up}
use Rattle.paper.specs.declared.Setting.{Setting}

pub record Measures (c : Setting) (t w w' : List ℕ) (r : Answer) : Type 0 where
  pub measured : r ≡ measure c t (length w)
  pub work : w' ≡ work_exit w

pub record Writes (c : Setting) (t w w' f f' d d' : List ℕ) (r : Answer) : Type 0 where
  pub answer : r ≡ answer c t (length w) (length f) (length d)
  pub frames : f' ≡ frames_exit c t w f d
  pub diags : d' ≡ diags_exit c t w f d
  pub work : w' ≡ work_exit w

abbrev pub Looks : List ℕ → List ℕ → Found → Type 0
Looks f l r = r ≡ look_up f l
