-- Variables bound one after the other: the words go on binding what they bound, and a variable that has a binding stands for it.
-- Assumes nothing.
use mathlib.Core.Path.{◌≡◌, sym, ap, ◌∙◌}
use mathlib.Core.Logic.{◌≢◌}
use mathlib.Core.Bool.{true, false}
use mathlib.Core.List.{List, [], ◌∷◌}
use Prim.Native.Nat.{ℕ, ◌<◌}
use lib.ListN.{drop}
use Rattle.paper.specs.Base.{sameb, any, find}
use Rattle.paper.specs.State.{var}
use Rattle.paper.specs.Substitution.{Binding, bound}
use Rattle.paper.proofs.Tests.{split, clash, same_eq}
use Rattle.paper.proofs.Alls.{All, all_none, all_more}
use Rattle.slots.specs.Kept.{Room}
use Rattle.unify.specs.Entries.{plain}
use Rattle.unify.specs.Bound.{start_of, with_start, constant_word}
use Rattle.unify.specs.Packed.{body_words, stands, binding_stands}
use Rattle.unify.proofs.Starts.{start_same, start_other, constant_kept}

-- ---- one more variable, of which no binding is there yet
module _ (a : List ℕ → ℕ) (w : List ℕ) (n : ℕ) (l : List ℕ) (v : List ℕ) (s : ℕ) (room : Room w n) (h : a v < n) where
  others : (b : List Binding) → All (λ x. (a x.name < n) × (a x.name ≢ a v)) b → All (binding_stands a w n l) b → All (binding_stands a (with_start w n (a v) s) n l) b
  others [] all_none all_none = all_none
  others (x ∷ b) (all_more d p) (all_more e q) =
      all_more (
        constant_kept w n (a v) s room h (a x.name) d.0 ∙ e.0,
        ap (λ (k : ℕ). plain (drop k l)) (start_other w n (a v) s room h (a x.name) d.1) ∙ e.1,
      )
      (others b p q)

  pub bind_more : (x : Binding) (b : List Binding) → x.name ≡ v → constant_word w n (a v) ≡ false → plain (drop s l) ≡ body_words a x.body
      → All (λ y. (a y.name < n) × (a y.name ≢ a v)) b → All (binding_stands a w n l) b → All (binding_stands a (with_start w n (a v) s) n l) (x ∷ b)
  bind_more x b e c f p q =
      all_more (
        ap (λ (z : List ℕ). constant_word (with_start w n (a v) s) n (a z)) e ∙ constant_kept w n (a v) s room h (a v) h ∙ c,
        ap (λ (z : List ℕ). plain (drop (start_of (with_start w n (a v) s) n (a z)) l)) e
            ∙ ap (λ (k : ℕ). plain (drop k l)) (start_same w n (a v) s room h)
            ∙ f,
      )
      (others b p q)

-- ---- a variable that has a binding stands for it
pub bound_stands : (a : List ℕ → ℕ) (w : List ℕ) (n : ℕ) (l : List ℕ) (b : List Binding) (v : List ℕ) → All (binding_stands a w n l) b → any (λ x. sameb x.name v) b ≡ true → stands a w n l b (var v)
unfolding any bound find
bound_stands a w n l [] v all_none e = absurd (clash (sym e))
bound_stands a w n l (x ∷ b) v (all_more d p) e =
    split (sameb x.name v)
    (λ q.
    let z : x.name ≡ v = same_eq x.name v q in (
      ap (λ (y : List ℕ). constant_word w n (a y)) (sym z) ∙ d.0,
      rw q (ap (λ (y : List ℕ). plain (drop (start_of w n (a y)) l)) (sym z) ∙ d.1),
    ))
    (λ q.
    let r = bound_stands a w n l b v p (rw q at e) in
    (r.0, rw q r.1))
