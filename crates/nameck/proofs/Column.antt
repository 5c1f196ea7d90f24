-- One word for each name: kept, a new name added, and the first note of a name.
-- Assumes nothing.
use mathlib.Core.Path.{◌≡◌, refl, sym, ap, ◌∙◌}
use mathlib.Core.Logic.{◌≢◌}
use mathlib.Core.Bool.{Bool, true, false}
use mathlib.Core.List.{List, [], ◌∷◌, ◌++◌}
use mathlib.Core.Option.{Option, none, some}
use Prim.Native.Nat.{ℕ, ◌+◌, ◌*◌, ◌<◌, ◌≤◌}
use native.Mathlib.Omega.{arith}
use lib.Dec.{eqb, ltb}
use lib.ListN.{length, get_or, length-append, get_or-append}
use lib.Seq.{get_or-append-add}
use borrow.Author.Tests.{ne_eqb, eqb-true, ltb-true, ltb-false}
use Rattle.paper.specs.Base.{choose, sameb, find, or_else}
use Rattle.paper.specs.Tokens.{Token}
use Rattle.paper.specs.Names.{named, Declared, declares_name}
use Rattle.paper.specs.Variables.{member, see, index}
use Rattle.paper.proofs.Tests.{split, clash, eqb_ne, same_refl, same_eq}
use Rattle.paper.proofs.Lists.{find_append}
use Rattle.paper.proofs.Names.{member_none, index_lt, index_at, Distinct}
use Rattle.area.specs.Cells.{symbol_cell, word, Only}
use Rattle.area.proofs.Laws.{word_same, word_other, only_none, only_set}
use Rattle.nameck.specs.Named.{owner_word, global_word}
use Rattle.nameck.specs.Table.{noted}
use Rattle.nameck.specs.Naming.{Column, owner_by, global_by}

-- ---- a word that is written only once
module _ (w : List ℕ) (i u : ℕ) where
  pub noted_only : Only i (i + 1) w (noted w i u)
  unfolding noted
  noted_only =
      split (eqb (word w i) 0) (λ e. rw e (only_set i (i + 1) w i u (omega arith) (omega arith)))
      (λ e. rw e (only_none i (i + 1) w))

  pub noted_other : (j : ℕ) → j ≢ i → word (noted w i u) j ≡ word w j
  unfolding noted
  noted_other j d = split (eqb (word w i) 0) (λ e. rw e (word_other w i j u d)) (λ e. rw e)

  noted_same : i < length w → word (noted w i u) i ≡ choose (eqb (word w i) 0) u (word w i)
  unfolding noted
  noted_same h = split (eqb (word w i) 0) (λ e. rw e (word_same w i u h)) (λ e. rw e)

-- ---- other words change
pub column_kept : {w v : List ℕ} {n c : ℕ} {l : List (List ℕ)} {f : List ℕ → ℕ} → length l ≤ n → ((a : ℕ) → a < n → word v (symbol_cell n a c) ≡ word w (symbol_cell n a c)) → Column w n c l f → Column v n c l f
column_kept h k x =
    record {
      holds = λ a g. k a (omega arith) ∙ x.holds a g;
      unseen = x.unseen;
    }

-- ---- one more name, whose word is 0 if it is new
pub column_see : {w v : List ℕ} {n c : ℕ} {l : List (List ℕ)} {f : List ℕ → ℕ} (x : List ℕ)
    → ((a : ℕ) → a < length l → word v (symbol_cell n a c) ≡ word w (symbol_cell n a c))
    → ((a : ℕ) → length l ≤ a → a < length (see l x) → word v (symbol_cell n a c) ≡ 0) → Column w n c l f → Column v n c (see l x) f
column_see {w} {v} {n} {c} {l} {f} x h z k =
    split (member x l) (λ e. rw e (record { holds = λ a g. h a g ∙ k.holds a g; unseen = k.unseen }))
    (λ e. rw e
    (record {
      holds = λ a g. holds e (rw e at z) a g;
      unseen = λ y g. k.unseen y (member_none y l (x ∷ []) g);
    }))
  where
    holds : member x l ≡ false → ((a : ℕ) → length l ≤ a → a < length (l ++ (x ∷ [])) → word v (symbol_cell n a c) ≡ 0) → (a : ℕ) → a < length (l ++ (x ∷ [])) → word v (symbol_cell n a c) ≡ f (get_or (l ++ (x ∷ [])) a [])
    holds e r a g =
        split (ltb a (length l))
        (λ q. let b : a < length l = ltb-true _ _ q in rw (get_or-append l (x ∷ []) [] a b) (h a b ∙ k.holds a b))
        (λ q. let b : length l ≤ a = ltb-false _ _ q in
        let s : a ≡ length l + 0 = omega (arith, length-append l (x ∷ [])) in
        r a b g
        ∙ sym (ap (λ i. f (get_or (l ++ (x ∷ [])) i [])) s ∙ ap f (get_or-append-add l (x ∷ []) 0 []) ∙ k.unseen x e))

-- ---- the first note of a name: f and then g say what the word holds
abbrev pub First : (List ℕ → ℕ) → (List ℕ → ℕ) → List ℕ → ℕ → Type 0
First f g x u = (y : List ℕ) → g y ≡ choose (sameb x y) (choose (eqb (f y) 0) u (f y)) (f y)

module _ {w : List ℕ} {n c : ℕ} {l : List (List ℕ)} {f g : List ℕ → ℕ} (x : List ℕ) (u : ℕ) (room : 16 * n ≤ length w) (small : c < 7) (few : length l ≤ n) (d : Distinct l) (m : member x l ≡ true) (k : Column w n c l f) (s : First f g x u) where
  other : (y : List ℕ) → sameb x y ≡ false → g y ≡ f y
  other y e = s y ∙ rw e

  at_name : (a : ℕ) → a < length l → a ≡ index l x → word (noted w (symbol_cell n (index l x) c) u) (symbol_cell n a c) ≡ g (get_or l a [])
  at_name a h e =
      let j = index l x in
      let p : get_or l j [] ≡ x = index_at x l m in
      let z : word w (symbol_cell n j c) ≡ f x = k.holds j (index_lt x l m) ∙ ap f p in
      let y : word (noted w (symbol_cell n j c) u) (symbol_cell n j c) ≡ g x =
      noted_same w (symbol_cell n j c) u (omega (arith, index_lt x l m)) ∙ rw z (sym (s x ∙ rw (same_refl x))) in
      ap (λ i. word (noted w (symbol_cell n j c) u) (symbol_cell n i c)) e ∙ y ∙ sym (ap (λ i. g (get_or l i [])) e ∙ ap g p)

  at_other : (a : ℕ) → a < length l → (a ≡ index l x → ⊥) → word (noted w (symbol_cell n (index l x) c) u) (symbol_cell n a c) ≡ g (get_or l a [])
  at_other a h e =
      let q : sameb x (get_or l a []) ≡ false =
      split (sameb x (get_or l a [])) (λ p. absurd (e (sym (ap (index l) (same_eq x (get_or l a []) p) ∙ d.place a h)))) (λ p. p) in
      noted_other w (symbol_cell n (index l x) c) u (symbol_cell n a c) (λ p. e (omega (arith, p)))
      ∙ k.holds a h ∙ sym (other (get_or l a []) q)

  pub column_note : Column (noted w (symbol_cell n (index l x) c) u) n c l g
  column_note =
      record {
        holds = λ a h. split (eqb a (index l x)) (λ e. at_name a h (eqb-true _ _ e)) (λ e. at_other a h (eqb_ne e));
        unseen = λ y e.
            other y (split (sameb x y) (λ p. absurd (clash (sym m ∙ ap (λ z. member z l) (same_eq x y p) ∙ e))) (λ p. p))
            ∙ k.unseen y e;
      }

-- ---- owners and declarations, with one more
owner_first : (o : Option Token) (b : Bool) (x : Token) → owner_word (or_else o (choose b (some x) none)) ≡ choose b (choose (eqb (owner_word o) 0) (x.at + 1) (owner_word o)) (owner_word o)
owner_first none true x = refl
owner_first none false x = refl
owner_first (some z) true x = rw (ne_eqb (z.at + 1) 0 (λ q. omega (arith, q)))
owner_first (some z) false x = refl

pub owner_more : (b : List Token) (x : Token) → First (owner_by b) (owner_by (b ++ (x ∷ []))) x.bytes (x.at + 1)
unfolding find
owner_more b x = λ y. rw (find_append (named y) b (x ∷ [])) (owner_first (find (named y) b) (sameb x.bytes y) x)

global_some : (z : Declared) → global_word (some z) ≡ 0 → ⊥
global_some z e = by z.constant e
  where
    by : (b : Bool) → 2 * z.at + choose b 1 2 ≡ 0 → ⊥
    by true k = omega arith
    by false k = omega arith

global_first : (o : Option Declared) (b : Bool) (x : Declared) → global_word (or_else o (choose b (some x) none)) ≡ choose b (choose (eqb (global_word o) 0) (global_word (some x)) (global_word o)) (global_word o)
global_first none true x = refl
global_first none false x = refl
global_first (some z) true x = rw (ne_eqb (global_word (some z)) 0 (global_some z))
global_first (some z) false x = refl

pub global_more : (b : List Declared) (x : Declared) → First (global_by b) (global_by (b ++ (x ∷ []))) x.name (global_word (some x))
unfolding find
global_more b x =
    λ y. rw (find_append (declares_name y) b (x ∷ [])) (global_first (find (declares_name y) b) (sameb x.name y) x)
