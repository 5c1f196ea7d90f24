-- The stack after an entry was pushed and moved down, and how many words it has: what number 12 counts.
-- Assumes nothing.
use mathlib.Core.Path.{◌≡◌, refl, sym, ap, ◌∙◌}
use mathlib.Core.List.{List, [], ◌∷◌, ◌++◌}
use Prim.Native.Nat.{ℕ, ◌+◌, ◌<◌, ◌≤◌}
use native.Mathlib.Omega.{arith}
use lib.ListN.{length, take, drop, length-append, length-map}
use lib.Seq.{length-take-le, drop_at}
use Rattle.std.specs.Prelude.{Some, None}
use Rattle.paper.specs.Base.{gather}
use Rattle.paper.specs.State.{Formula}
use Rattle.paper.specs.Steps.{size, sizes}
use Rattle.paper.proofs.Lists.{gather_append}
use Rattle.paper.proofs.Gather.{gather_one}
use Rattle.unify.specs.Entries.{entry_of}
use Rattle.unify.specs.Packed.{symbol_word, body_words, formula_words, packed}
use Rattle.unify.specs.Pushes.{Pushes, Moved}

module _ (a : List ℕ → ℕ) where
  packed_more : (st : List Formula) (f : Formula) → packed a st ++ formula_words a f ≡ packed a (st ++ (f ∷ []))
  unfolding packed
  packed_more st f =
      ap (λ (x : List ℕ). gather (formula_words a) st ++ x) (sym (gather_one (formula_words a) f))
      ∙ sym (gather_append (formula_words a) st (f ∷ []))

  -- ---- a formula is pushed
  pub top_pushed : {l m : List ℕ} {top q : ℕ} (st : List Formula) (f : Formula) → take top l ≡ packed a st → Pushes l m top (Some q) (formula_words a f) → take q m ≡ packed a (st ++ (f ∷ []))
  top_pushed st f e p = p.done.front ∙ ap (λ (x : List ℕ). x ++ formula_words a f) e ∙ packed_more st f

  -- what was pushed is moved down over the entries that were taken; those of st stay
  pub top_moved : {l m o : List ℕ} {base top q r : ℕ} (st : List Formula) (f : Formula) → top ≤ length l → take base m ≡ packed a st → Pushes l m top (Some q) (formula_words a f) → Moved m o base top q r
      → take r o ≡ packed a (st ++ (f ∷ []))
  top_moved {l} {m} {o} {base} {top} {q} {r} st f h e p x =
      x.front
      ∙ ap (λ (y : List ℕ). y ++ drop top (take q m)) e
      ∙ ap (λ (y : List ℕ). packed a st ++ y) (ap (drop top) p.done.front ∙ drop_at (take top l) (formula_words a f) top (length-take-le top l h))
      ∙ packed_more st f

  -- ---- a word a symbol, typecodes too
  pub length_words : (f : Formula) → length (formula_words a f) ≡ size f
  unfolding formula_words entry_of body_words
  length_words f = omega (arith, length-map f.body (symbol_word a))

  pub length_packed : (st : List Formula) → length (packed a st) ≡ sizes st
  unfolding packed gather sizes
  length_packed [] = refl
  length_packed (f ∷ st) =
      omega (arith, length-append (formula_words a f) (gather (formula_words a) st), length_words f, length_packed st)

  -- there is no room exactly where the symbols held and those pushed exceed the stack
  pub exceeded : {l m : List ℕ} {top : ℕ} (st : List Formula) (f : Formula) → top ≤ length l → take top l ≡ packed a st → Pushes l m top None (formula_words a f) → length l < sizes st + size f
  exceeded {l} {m} {top} st f h e p =
      omega (arith, p.done, ap length e, length-take-le top l h, length_packed st, length_words f)

  pub not_exceeded : {l m : List ℕ} {top q : ℕ} (st : List Formula) (f : Formula) → top ≤ length l → take top l ≡ packed a st → Pushes l m top (Some q) (formula_words a f) → sizes st + size f ≤ length l
  not_exceeded {l} {m} {top} {q} st f h e p =
      omega (arith, p.len, p.done.place, p.done.within, ap length e, length-take-le top l h, length_packed st, length_words f)
