-- Keywords: a list compared with two bytes, byte by byte; a keyword is neither a math token nor a label token.
-- Assumes nothing.
use mathlib.Core.Path.{◌≡◌, refl, sym}
use mathlib.Core.Bool.{true, false}
use mathlib.Core.List.{List, [], ◌∷◌}
use Prim.Native.Nat.{ℕ}
use native.Mathlib.Omega.{arith}
use lib.Dec.{eqb}
use lib.ListN.{length, get_or}
use borrow.Author.Tests.{eq-eqb, ne_eqb}
use Rattle.paper.specs.Base.{sameb, all}
use Rattle.paper.specs.Bytes.{math_byte, label_byte, printable}
use Rattle.paper.specs.Tokens.{Token, key, math_token, label_token}
use Rattle.paper.proofs.Tests.{split, same_eq, clash}

module _ (a b : ℕ) where
  pub pair_length : (l : List ℕ) → (length l ≡ 2 → ⊥) → sameb l (a ∷ b ∷ []) ≡ false
  unfolding sameb
  pair_length [] n = refl
  pair_length (x ∷ []) n = split (eqb x a) (λ e. rw e) (λ e. rw e)
  pair_length (x ∷ y ∷ []) n = absurd (n refl)
  pair_length (x ∷ y ∷ z ∷ l) n =
      split (eqb x a)
      (λ e. rw e (split (eqb y b) (λ q. rw q) (λ q. rw q)))
      (λ e. rw e)

  pub pair_first : (l : List ℕ) → length l ≡ 2 → (get_or l 0 0 ≡ a → ⊥) → sameb l (a ∷ b ∷ []) ≡ false
  unfolding sameb
  pair_first [] h n = refl
  pair_first (x ∷ l) h n = rw (ne_eqb x a n)

  pub pair_second : (l : List ℕ) → length l ≡ 2 → get_or l 0 0 ≡ a → sameb l (a ∷ b ∷ []) ≡ eqb (get_or l 1 0) b
  unfolding sameb
  pair_second [] h e = absurd (omega arith)
  pair_second (x ∷ []) h e = absurd (omega arith)
  pair_second (x ∷ y ∷ []) h e = rw (eq-eqb x a e) (split (eqb y b) (λ q. rw q) (λ q. rw q))
  pair_second (x ∷ y ∷ z ∷ l) h e = absurd (omega arith)

pub dollar_math : math_byte 36 ≡ false
unfolding math_byte printable
dollar_math = refl

pub dollar_label : label_byte 36 ≡ false
unfolding label_byte
dollar_label = refl

pub math_no_key : (k : ℕ) (t : Token) → math_token t ≡ true → key k t ≡ false
unfolding math_token key all
math_no_key k t m =
    split (sameb t.bytes (36 ∷ k ∷ []))
    (λ e. absurd (clash (sym (rw (same_eq t.bytes (36 ∷ k ∷ []) e, dollar_math) at m))))
    (λ e. e)

pub label_no_key : (k : ℕ) (t : Token) → label_token t ≡ true → key k t ≡ false
unfolding label_token key all
label_no_key k t m =
    split (sameb t.bytes (36 ∷ k ∷ []))
    (λ e. absurd (clash (sym (rw (same_eq t.bytes (36 ∷ k ∷ []) e, dollar_label) at m))))
    (λ e. e)
