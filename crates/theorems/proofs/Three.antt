-- The statements of a text with a group in it, in three parts, and those of the text with the group blanked.
-- The lemma E3 of the proof on paper.
use mathlib.Core.Path.{◌≡◌, ap, ◌∙◌}
use mathlib.Core.List.{List, [], ◌∷◌, ◌++◌}
use Prim.Native.Nat.{ℕ, ◌<◌, ◌≤◌}
use Rattle.paper.specs.Statements.{Statement, Item, opens, closes, closers, ends}
use Rattle.paper.proofs.Alls.{All, all_map}
use Rattle.theorems.proofs.Ends.{closers_append, ends_append, ends_at, neutral, ends_low}
use Rattle.theorems.proofs.Parts.{Split}

-- those of the blanked text are those before and after the group, with equal ends
pub record Three (w x : List Statement) (p q : ℕ) : Type 0 where
  pub before : List Statement
  pub within_it : List Statement
  pub behind : List Statement
  pub whole : w ≡ before ++ (within_it ++ behind)
  pub without : x ≡ before ++ behind
  pub before_at : All (λ s. s.at < p) before
  pub within_at : All (λ s. (p ≤ s.at) × (s.at < q)) within_it
  pub within_end : All (λ s. s.end ≤ q) within_it
  pub behind_at : All (λ s. q < s.at) behind

module _ (f : List Item) (p : ℕ) (b : List Item) (q : ℕ) (c : List Item) (n : closers b (q ∷ closers c []) ≡ q ∷ closers c []) where
  whole_ends : ends (f ++ (opens p ∷ (b ++ (closes q ∷ c)))) [] ≡ ends f (closers c []) ++ (ends b (q ∷ closers c []) ++ ends c [])
  unfolding ends closers
  whole_ends =
      ends_append f (opens p ∷ (b ++ (closes q ∷ c))) []
      ∙ rw (closers_append b (closes q ∷ c) [], n, ends_append b (closes q ∷ c) [])

pub three : {t : List ℕ} {p q : ℕ} {i : List Item} (x : Split t p q i)
    → Three (ends i []) (ends (x.front ++ x.back) []) p q
three {p = p} {q = q} x =
    let low = all_map (λ y h. h.1) x.body_at in
    let l = closers x.back [] in
    record {
      before = ends x.front l;
      within_it = ends x.body (q ∷ l);
      behind = ends x.back [];
      whole = ap (λ (r : List Item). ends r []) x.items_are ∙ whole_ends x.front p x.body q x.back (neutral (q ∷ l) x.level);
      without = ends_append x.front x.back [];
      before_at = ends_at (λ n. n < p) l x.front_at;
      within_at = ends_at (λ n. (p ≤ n) × (n < q)) (q ∷ l) x.body_at;
      within_end = ends_low q l x.level low;
      behind_at = ends_at (λ n. q < n) [] x.back_at;
    }
