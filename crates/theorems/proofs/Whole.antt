-- The whole text of demand 3: its global declarations and owners of names with a group in it and without.
-- The lemmas W1, W2 and W4 of the proof on paper.
use mathlib.Core.Path.{◌≡◌, sym, ap, ◌∙◌}
use mathlib.Core.Bool.{Bool, true, false}
use mathlib.Core.List.{List, [], ◌∷◌, ◌++◌, append-nil}
use Prim.Native.Nat.{ℕ, ◌<◌, ◌≤◌}
use native.Mathlib.Omega.{arith}
use lib.Dec.{leb}
use borrow.Author.Tests.{ne_eqb, le-leb, lt-leb}
use Rattle.paper.specs.Base.{not, within, sameb, any, keep, gather}
use Rattle.paper.specs.Tokens.{Token}
use Rattle.paper.specs.Statements.{Statement, none_end, outermost}
use Rattle.paper.specs.Names.{named, bearer, labels, owner, declarations, declared, global}
use Rattle.paper.proofs.Tests.{split, same_refl}
use Rattle.paper.proofs.Lists.{gather_append, keep_append, find_append}
use Rattle.paper.proofs.Alls.{All, all_none, all_more, all_map, all_both, all_of, keep_all, keep_none}
use Rattle.paper.proofs.Searches.{all_ungather, gather_none, find_any}
use Rattle.theorems.specs.Groups.{inside, outside, symbols, borne, declared_in, Apart}
use Rattle.theorems.specs.Later.{nested_variables}
use Rattle.theorems.proofs.Three.{Three}
use Rattle.theorems.proofs.Agree.{SameOwner, Agree, SymbolsAgree}

-- ---- where statements stand
pub below_it : (p q n : ℕ) → n < p → within p q n ≡ false
below_it p q n h = rw (lt-leb p n h)

pub within_it : (p q n : ℕ) → p ≤ n → n ≤ q → within p q n ≡ true
within_it p q n g h = rw (le-leb p n g, le-leb n q h)

-- outside the group whatever comes of the first comparison
pub beyond_it : (p q n : ℕ) → q < n → within p q n ≡ false
beyond_it p q n h = split (leb p n) (λ e. rw (e, lt-leb n q h)) (λ e. rw e)

module _ {w x : List Statement} {p q : ℕ} (h : Three w x p q) where
  inside_are : keep (inside p q) w ≡ h.within_it
  inside_are =
      ap (keep (inside p q)) h.whole
      ∙ (keep_append (inside p q) h.before (h.within_it ++ h.behind)
      ∙ rw (
        keep_none (inside p q) (all_map (λ s k. below_it p q s.at k) h.before_at),
        keep_append (inside p q) h.within_it h.behind,
        keep_all (inside p q) (all_map (λ s k. within_it p q s.at k.0 (omega (arith, k.1))) h.within_at),
        keep_none (inside p q) (all_map (λ s k. beyond_it p q s.at k) h.behind_at),
        append-nil,
      ))

  outside_are : keep (outside p q) w ≡ x
  outside_are =
      ap (keep (outside p q)) h.whole
      ∙ (keep_append (outside p q) h.before (h.within_it ++ h.behind)
      ∙ rw (
        keep_all (outside p q) (all_map (λ s k. ap not (below_it p q s.at k)) h.before_at),
        keep_append (outside p q) h.within_it h.behind,
        keep_none (outside p q) (all_map (λ s k. ap not (within_it p q s.at k.0 (omega (arith, k.1)))) h.within_at),
        keep_all (outside p q) (all_map (λ s k. ap not (beyond_it p q s.at k)) h.behind_at),
      )
      (sym h.without))

  -- ---- W1: the group declares nothing globally
  pub globals_same : q < none_end → declared w ≡ declared x
  unfolding declared outermost
  globals_same k =
      rw (
        h.whole,
        h.without,
        gather_append declarations h.before (h.within_it ++ h.behind),
        gather_append declarations h.within_it h.behind,
        gather_none declarations (all_map (λ s e. rw (ne_eqb s.end none_end (omega arith))) h.within_end),
        gather_append declarations h.before h.behind,
      )

  -- ---- W2: a name not borne in the group has the same owner
  pub owner_same : (n : List ℕ) → borne n h.within_it ≡ false → owner w n ≡ owner x n
  unfolding owner labels
  owner_same n e =
      rw (
        h.whole,
        h.without,
        gather_append bearer h.before (h.within_it ++ h.behind),
        gather_append bearer h.within_it h.behind,
        gather_append bearer h.before h.behind,
        find_append (named n) (gather bearer h.before) (gather bearer h.within_it ++ gather bearer h.behind),
        find_append (named n) (gather bearer h.within_it) (gather bearer h.behind),
        find_any (named n) (gather bearer h.within_it) e,
        find_append (named n) (gather bearer h.before) (gather bearer h.behind),
      )

-- what holds of the names of some tokens holds of each
pub named_all : (Q : List ℕ → Type 0) (l : List Token) → ((n : List ℕ) → any (named n) l ≡ true → Q n)
    → All (λ t. Q t.bytes) l
unfolding any
named_all Q [] f = all_none
named_all Q (t ∷ l) f =
    all_more (f t.bytes (rw (same_refl t.bytes)))
    (named_all Q l (λ n e. f n (split (sameb t.bytes n) (λ k. rw k) (λ k. rw k e))))

refuted : {a b : Bool} → (a ≡ true → b ≡ false) → b ≡ true → a ≡ false
refuted {a} {b} f e = split a (λ k. let z : b ≡ false = f k in cc) (λ k. k)

-- ---- W4: the premise of demand 3 suffices
-- a statement agrees on all that it asks
pub record AgreeAll (w x : List Statement) (s : Statement) : Type 0 where
  pub agree : Agree w x s
  pub symbols_agree : SymbolsAgree w x s

module _ (w x : List Statement) (d : declared w ≡ declared x) where
  global_same : (n : List ℕ) → global w n ≡ global x n
  unfolding global
  global_same n = rw d

  agree_all : {s : Statement} → All (SameOwner w x) (bearer s) → All (SameOwner w x) (symbols s) → AgreeAll w x s
  agree_all {s} a b =
      record {
        agree =
            record {
              label_owner = a;
              senses = all_of s.math (λ t r. rw (global_same t.bytes));
              verdicts = all_of (nested_variables s) (λ t r. rw (global_same t.bytes));
            };
        symbols_agree = all_map (λ t o. (o, global_same t.bytes)) b;
      }

module _ {w x : List Statement} {p q : ℕ} (h : Three w x p q) (a : Apart w p q) where
  labels_free : All (SameOwner w x) (labels x)
  labels_free =
      named_all (λ n. owner w n ≡ owner x n) (labels x)
      (λ n e.
      owner_same h n
      (refuted (λ k. sym (ap (borne n) (outside_are h)) ∙ a.labels_apart n (ap (borne n) (inside_are h) ∙ k)) e))

  symbols_free : All (SameOwner w x) (gather symbols x)
  symbols_free =
      named_all (λ n. owner w n ≡ owner x n) (gather symbols x)
      (λ n e.
      owner_same h n
      (refuted (λ k. sym (ap (declared_in n) (outside_are h)) ∙ a.symbols_apart n (ap (borne n) (inside_are h) ∙ k)) e))

  pub agree : q < none_end → All (AgreeAll w x) x
  unfolding labels
  agree k =
      all_map (λ s e. agree_all w x (globals_same h k) e.0 e.1)
      (all_both (all_ungather bearer x labels_free) (all_ungather symbols x symbols_free))
