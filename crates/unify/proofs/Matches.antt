-- Matches one after the other: a word, the symbols for a variable, the tokens of a statement.
-- Assumes nothing.
use mathlib.Core.Path.{◌≡◌, refl, sym, ap, ◌∙◌}
use mathlib.Core.Bool.{Bool, true, false}
use mathlib.Core.List.{List, [], ◌∷◌, ◌++◌, append_assoc, append-nil}
use Prim.Native.Nat.{ℕ, suc, ◌+◌, ◌<◌, ◌≤◌}
use native.Mathlib.Numerals.{add-one}
use lib.ListN.{length, get_or, take, drop, drop_of_length-le, take-append-drop}
use lib.Seq.{drop-cons, take_all}
use borrow.Author.Tests.{eq-eqb, ne_eqb}
use Rattle.std.specs.Prelude.{Option, Some, None, MatchOption}
use Rattle.paper.specs.Base.{gather}
use Rattle.paper.proofs.Lists.{gather_append}
use Rattle.paper.proofs.Gather.{gather_more}
use Rattle.unify.specs.Entries.{flag, plain, agrees}
use Rattle.unify.specs.Bound.{start_of, constant_word, token_words, spread, is_entry}
use Rattle.unify.specs.Matches.{left_of, Matches}
use Rattle.unify.proofs.Entries.{plain_end, plain_flag, plain_more}

pub match_none : (l : List ℕ) (p : ℕ) → Matches [] l p (Some p)
match_none l p = record { rest = λ m. refl }

pub match_then : {x l : List ℕ} {p q : ℕ} (y : List ℕ) (r : Option ℕ) → Matches x l p (Some q) → Matches y l q r → Matches (x ++ y) l p r
match_then {x} {l} {p} {q} y r a b =
    record {
      rest = λ m. ap (λ (z : List ℕ). agrees z (drop p l)) (append_assoc x y m) ∙ a.rest (y ++ m) ∙ b.rest m;
    }

pub match_differs : {x l : List ℕ} {p : ℕ} (y : List ℕ) → Matches x l p None → Matches (x ++ y) l p None
match_differs {x} {l} {p} y a =
    record { rest = λ m. ap (λ (z : List ℕ). agrees z (drop p l)) (append_assoc x y m) ∙ a.rest (y ++ m) }

-- nothing is left
pub match_whole : {x l : List ℕ} {p : ℕ} (r : Option ℕ) → Matches x l p r → agrees x (drop p l) ≡ left_of r [] l
match_whole {x} {l} {p} r a = ap (λ (z : List ℕ). agrees z (drop p l)) (sym (append-nil x)) ∙ a.rest []

-- ---- one word
module _ (l : List ℕ) (x p : ℕ) where
  pub word_end : length l ≤ p → Matches (x ∷ []) l p None
  unfolding agrees
  word_end h = record { rest = λ m. rw (drop_of_length-le l h) }

  pub word_differs : p < length l → (x ≡ get_or l p 0 → ⊥) → Matches (x ∷ []) l p None
  unfolding agrees
  word_differs h n = record { rest = λ m. rw (drop-cons l p 0 h, ne_eqb x (get_or l p 0) n) }

  pub word_agrees : p < length l → x ≡ get_or l p 0 → Matches (x ∷ []) l p (Some (p + 1))
  unfolding agrees
  word_agrees h e = record { rest = λ m. rw (add-one p, drop-cons l p 0 h, eq-eqb x (get_or l p 0) e) }

-- ---- the symbols from s on against the words from p on: what is left is those from i on against the words from q on
pub record PartLeft (l : List ℕ) (s p i q : ℕ) : Type 0 where
  pub left : (m : List ℕ) → agrees (plain (drop s l) ++ m) (drop p l) ≡ agrees (plain (drop i l) ++ m) (drop q l)

pub part_start : (l : List ℕ) (s p : ℕ) → PartLeft l s p s p
part_start l s p = record { left = λ m. refl }

module _ {l : List ℕ} {s p i q : ℕ} (a : PartLeft l s p i q) where
  part_done : plain (drop i l) ≡ [] → Matches (plain (drop s l)) l p (Some q)
  part_done e = record { rest = λ m. a.left m ∙ ap (λ (z : List ℕ). agrees (z ++ m) (drop q l)) e }

  pub part_flag : i < length l → flag ≤ get_or l i 0 → Matches (plain (drop s l)) l p (Some q)
  part_flag h f = part_done (plain_flag l i h f)

  pub part_end : length l ≤ i → Matches (plain (drop s l)) l p (Some q)
  part_end h = part_done (plain_end l i h)

  part_word : (r : Option ℕ) → i < length l → get_or l i 0 < flag → Matches (get_or l i 0 ∷ []) l q r → (m : List ℕ) → agrees (plain (drop s l) ++ m) (drop p l) ≡ left_of r (plain (drop (suc i) l) ++ m) l
  part_word r h f b m =
      a.left m
      ∙ ap (λ (z : List ℕ). agrees (z ++ m) (drop q l)) (plain_more l i h f)
      ∙ b.rest (plain (drop (suc i) l) ++ m)

  pub part_differs : i < length l → get_or l i 0 < flag → Matches (get_or l i 0 ∷ []) l q None → Matches (plain (drop s l)) l p None
  part_differs h f b = record { rest = part_word None h f b }

  pub part_more : {k : ℕ} → i < length l → get_or l i 0 < flag → Matches (get_or l i 0 ∷ []) l q (Some k) → PartLeft l s p (i + 1) k
  part_more {k} h f b =
      record {
        left = λ m.
            part_word (Some k) h f b m ∙ ap (λ (j : ℕ). agrees (plain (drop j l) ++ m) (drop k l)) (sym (add-one i));
      }

-- ---- what a token stands for
module _ (w : List ℕ) (n : ℕ) (l : List ℕ) where
  pub token_constant : (a : ℕ) → constant_word w n a ≡ true → token_words w n l a ≡ a ∷ []
  unfolding token_words
  token_constant a e = rw e

  pub token_variable : (a : ℕ) → constant_word w n a ≡ false → token_words w n l a ≡ plain (drop (start_of w n a) l)
  unfolding token_words
  token_variable a e = rw e

  pub spread_none : spread w n l [] ≡ []
  unfolding spread gather
  spread_none = refl

  pub spread_more : (r : List ℕ) (i : ℕ) → i < length r → spread w n l (take (i + 1) r) ≡ spread w n l (take i r) ++ token_words w n l (get_or r i 0)
  unfolding spread
  spread_more r i h = gather_more (token_words w n l) r 0 i h

  pub spread_split : (r : List ℕ) (i : ℕ) → spread w n l (take i r) ++ spread w n l (drop i r) ≡ spread w n l r
  unfolding spread
  spread_split r i =
      sym (gather_append (token_words w n l) (take i r) (drop i r)) ∙ ap (gather (token_words w n l)) (take-append-drop i r)

  pub spread_all : (r : List ℕ) (i : ℕ) → length r ≤ i → spread w n l (take i r) ≡ spread w n l r
  spread_all r i h = ap (spread w n l) (take_all i r h)

-- ---- the tokens one after the other
module _ (w : List ℕ) (n : ℕ) (l r : List ℕ) (i : ℕ) {p q : ℕ} (a : Matches (spread w n l (take i r)) l p (Some q)) where
  pub tokens_more : (k : ℕ) → i < length r → Matches (token_words w n l (get_or r i 0)) l q (Some k) → Matches (spread w n l (take (i + 1) r)) l p (Some k)
  tokens_more k h b = rw (spread_more w n l r i h) (match_then (token_words w n l (get_or r i 0)) (Some k) a b)

  pub tokens_differ : i < length r → Matches (token_words w n l (get_or r i 0)) l q None → Matches (spread w n l r) l p None
  tokens_differ h b =
      let c : Matches (spread w n l (take (i + 1) r)) l p None = rw (spread_more w n l r i h) (match_then (token_words w n l (get_or r i 0)) None a b) in
      rw (spread_split w n l r (i + 1)) at (match_differs (spread w n l (drop (i + 1) r)) c)

  pub tokens_end : length r ≤ i → Matches (spread w n l r) l p (Some q)
  tokens_end h = rw (spread_all w n l r i h) at a

-- ---- an entry
module _ (w : List ℕ) (n c : ℕ) (r l : List ℕ) (i : ℕ) where
  pub entry_other : (get_or l i 0 ≡ c + flag → ⊥) → is_entry w n c r l i ≡ false
  unfolding is_entry
  entry_other e = rw (ne_eqb (get_or l i 0) (c + flag) e)

  pub entry_is : (x : Option ℕ) → get_or l i 0 ≡ c + flag → Matches (spread w n l r) l (i + 1) x → is_entry w n c r l i ≡ left_of x [] l
  unfolding is_entry
  entry_is x e a = rw (eq-eqb (get_or l i 0) (c + flag) e) (match_whole x a)

  -- what matched is the entry if it stops there
  pub entry_stops : (x : Option ℕ) (b : Bool) → get_or l i 0 ≡ c + flag → Matches (spread w n l r) l (i + 1) x → MatchOption x (b ≡ false) (λ q. b ≡ agrees [] (drop q l)) → b ≡ is_entry w n c r l i
  entry_stops None b e a f = f ∙ sym (entry_is None e a)
  entry_stops (Some q) b e a f = f ∙ sym (entry_is (Some q) e a)
