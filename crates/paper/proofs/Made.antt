-- Lists made by a rule of the index: two rules that agree, and a list that is mapped.
-- For every crate; nothing here is about Metamath.
use mathlib.Core.Path.{◌≡◌, refl, ap, ◌∙◌}
use mathlib.Core.List.{List, [], ◌∷◌, ◌++◌, map}
use Prim.Native.Nat.{ℕ, zero, suc, ◌+◌, ◌<◌}
use native.Mathlib.Omega.{arith}
use native.Mathlib.Numerals.{add-one}
use lib.ListN.{length, get_or}
use Rattle.paper.specs.Base.{gather, table}
use Rattle.paper.proofs.Lists.{gather_append}
use Rattle.paper.proofs.Gather.{gather_one}

pub table_more : {A : Type 0} (f : ℕ → A) (n : ℕ) → table f (n + 1) ≡ table f n ++ (f n ∷ [])
unfolding table
table_more f n = rw add-one

pub gather_table : {A B : Type 0} (g : A → List B) (f : ℕ → A) (n : ℕ) → gather g (table f (n + 1)) ≡ gather g (table f n) ++ g (f n)
gather_table g f n =
    ap (gather g) (table_more f n)
    ∙ gather_append g (table f n) (f n ∷ [])
    ∙ ap (λ r. gather g (table f n) ++ r) (gather_one g (f n))

pub table_same : {A : Type 0} (f g : ℕ → A) (n : ℕ) → ((i : ℕ) → i < n → f i ≡ g i) → table f n ≡ table g n
unfolding table
table_same f g zero h = refl
table_same f g (suc n) h = rw (table_same f g n (λ i l. h i (omega arith)), h n (omega arith))

-- the first value of a rule, and the others
table_first : {A : Type 0} (f : ℕ → A) (n : ℕ) → table f (suc n) ≡ f 0 ∷ table (λ i. f (suc i)) n
unfolding table
table_first f zero = refl
table_first f (suc n) = ap (λ r. r ++ (f (suc n) ∷ [])) (table_first f n)

pub table_map : {A B : Type 0} (g : A → B) (l : List A) (d : A) → table (λ i. g (get_or l i d)) (length l) ≡ map g l
unfolding table
table_map g [] d = refl
table_map g (x ∷ l) d = table_first (λ i. g (get_or (x ∷ l) i d)) (length l) ∙ ap (λ r. g x ∷ r) (table_map g l d)

pub table_list : {A : Type 0} (l : List A) (d : A) → table (λ i. get_or l i d) (length l) ≡ l
unfolding table
table_list [] d = refl
table_list (x ∷ l) d = table_first (λ i. get_or (x ∷ l) i d) (length l) ∙ ap (λ r. x ∷ r) (table_list l d)
