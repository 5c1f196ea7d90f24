-- The walk that marks the names of constants.
-- Assumes nothing.
use mathlib.Core.Path.{◌≡◌, refl, sym, ap, ◌∙◌}
use mathlib.Core.Logic.{◌≢◌}
use mathlib.Core.Bool.{Bool, true, false}
use mathlib.Core.List.{List, []}
use mathlib.Core.Option.{Option, none, some}
use Prim.Native.Nat.{ℕ, ◌+◌, ◌*◌, ◌%◌, ◌<◌, ◌≤◌}
use native.Mathlib.Omega.{arith}
use lib.Dec.{eqb}
use lib.ListN.{length, get_or, set, length-set}
use borrow.Author.Tests.{eqb-true, eq-eqb, ne_eqb}
use Rattle.paper.specs.Base.{choose, any}
use Rattle.paper.specs.Statements.{Statement, none_end}
use Rattle.paper.specs.Names.{Declared, global}
use Rattle.paper.specs.Variables.{member}
use Rattle.paper.proofs.Tests.{split, eqb_ne}
use Rattle.area.specs.Cells.{symbol_cell, word}
use Rattle.area.proofs.Laws.{word_same, word_other, word_at}
use Rattle.nameck.specs.Atoms.{atoms, name_of}
use Rattle.nameck.specs.Named.{global_word}
use Rattle.nameck.proofs.Kept.{named_kept}
use Rattle.sight.specs.Static.{is_constant, constant_name}
use Rattle.sight.specs.Sums.{one}
use Rattle.sight.specs.Numbered.{number_word, Renumbered, constant_words, Unnumbered, SomeUnnumbered, Presets}
use Rattle.sight.proofs.Sums.{sum_zero}
use Rattle.sight.proofs.Numbering.{renumbered_none, renumbered_then}
use Rattle.sight.proofs.Walks.{kept_renumbered}

-- ---- a global word is odd exactly for a `$c`
odd_word : (g : Option Declared) → eqb (global_word g % 2) 1 ≡ is_constant g
odd_word none = refl
odd_word (some g) = by g.constant g.at
  where
    by : (b : Bool) (o : ℕ) → eqb ((2 * o + choose b 1 2) % 2) 1 ≡ b
    by true o = eq-eqb ((2 * o + 1) % 2) 1 (omega arith)
    by false o = ne_eqb ((2 * o + 2) % 2) 1 (λ q. omega (arith, q))

named_constant : (l : List Statement) (y : List ℕ) → is_constant (global l y) ≡ constant_name l y
unfolding constant_name
named_constant l y = refl

-- the words of one name
pub constant_set :
    (w : List ℕ) (n a : ℕ) {i j : ℕ} → i ≡ symbol_cell n a 1 → j ≡ symbol_cell n a 5 → get_or w i 0 % 2 ≡ 1
    → set w j none_end ≡ constant_words (word w (symbol_cell n a 1)) w n a
constant_set w n a e f h =
    let z : eqb (word w (symbol_cell n a 1) % 2) 1 ≡ true = eq-eqb _ _ (ap (λ x. x % 2) (sym (word_at w e)) ∙ h) in
    rw (z, f)

pub constant_kept :
    (w : List ℕ) (n a : ℕ) {i : ℕ} → i ≡ symbol_cell n a 1 → (get_or w i 0 % 2 ≡ 1 → ⊥)
    → w ≡ constant_words (word w (symbol_cell n a 1)) w n a
constant_kept w n a e h =
    let z : eqb (word w (symbol_cell n a 1) % 2) 1 ≡ false = ne_eqb _ _ (λ q. h (ap (λ x. x % 2) (word_at w e) ∙ q)) in
    rw z

-- ---- the walk
pub record InvMark (w₀ w : List ℕ) (n m k : ℕ) : Type 0 where
  pub kept : Renumbered n w₀ w
  pub upto : k ≤ m
  pub done :
      (t : List ℕ) (l : List Statement) → Unnumbered t w₀ n l m → (a : ℕ) → a < k
      → word w (symbol_cell n a 5) ≡ number_word l [] (name_of l a)
  pub left : (a : ℕ) → k ≤ a → word w (symbol_cell n a 5) ≡ word w₀ (symbol_cell n a 5)

pub mark_start : (w : List ℕ) (n m : ℕ) → InvMark w w n m 0
mark_start w n m =
    record {
      kept = renumbered_none n w;
      upto = omega arith;
      done = λ t l h a k. absurd (omega (arith, k));
      left = λ a k. refl;
    }

pub record Room (w : List ℕ) (n k : ℕ) : Type 0 where
  pub room : 16 * n ≤ length w
  pub small : n ≤ 16777217
  pub fits : k < n

pub mark_within : {w₀ w : List ℕ} {n m k : ℕ} → InvMark w₀ w n m k → SomeUnnumbered w₀ n m → k < m → Room w n k
mark_within x can h =
    record {
      room = omega (arith, can.holds.named.shape.room, x.kept.len);
      small = can.holds.small;
      fits = omega (arith, can.holds.count, can.holds.named.few);
    }

-- one name: the words, by whether it is a constant
set_renumbered : (w : List ℕ) (n a v : ℕ) → a < n → Renumbered n w (set w (symbol_cell n a 5) v)
set_renumbered w n a v h =
    record {
      len = length-set w (symbol_cell n a 5) v;
      low = λ j q. word_other w (symbol_cell n a 5) j v (λ z. omega (arith, z, q));
      symbols = λ c d p q. word_other w (symbol_cell n a 5) (symbol_cell n c d) v (λ z. omega (arith, z, q));
      marks = λ c p. word_other w (symbol_cell n a 5) (symbol_cell n c 6) v (λ z. omega (arith, z));
      high = λ j q. word_other w (symbol_cell n a 5) j v (λ z. omega (arith, z, q, h));
    }

number_none : (l : List Statement) (x : List ℕ) → number_word l [] x ≡ choose (constant_name l x) none_end 0
unfolding number_word any
number_none l x = refl

pub mark_step :
    {w₀ w u : List ℕ} {n m k : ℕ} → InvMark w₀ w n m k → SomeUnnumbered w₀ n m → k < m
    → u ≡ constant_words (word w (symbol_cell n k 1)) w n k → InvMark w₀ u n m (k + 1)
mark_step {w₀} {w} {u} {n} {m} {k} x can h e =
    split (eqb (word w (symbol_cell n k 1) % 2) 1)
    (λ q.
    let s : u ≡ set w (symbol_cell n k 5) none_end = e ∙ rw q in
    rw s
    (record {
      kept = renumbered_then x.kept (set_renumbered w n k none_end b.fits);
      upto = omega arith;
      done = λ t l y a p.
          split (eqb a k)
          (λ r.
          let d : a ≡ k = eqb-true a k r in
          rw d
          (word_same w (symbol_cell n k 5) none_end (omega (arith, b.room, b.fits))
          ∙ rw (number_none l (name_of l k), sym (constant t l y) ∙ q)))
          (λ r.
          let d : a ≢ k = eqb_ne r in
          word_other w (symbol_cell n k 5) (symbol_cell n a 5) none_end (λ z. d (omega (arith, z)))
          ∙ x.done t l y a (omega (arith, p, d)));
      left = λ a p. word_other w (symbol_cell n k 5) (symbol_cell n a 5) none_end (λ z. omega (arith, z, p)) ∙ x.left a (omega (arith, p));
    }))
    (λ q.
    let s : u ≡ w = e ∙ rw q in
    rw s
    (record {
      kept = x.kept;
      upto = omega arith;
      done = λ t l y a p.
          split (eqb a k)
          (λ r.
          let d : a ≡ k = eqb-true a k r in
          rw d
          (x.left k (omega arith)
          ∙ y.fresh.symbols k 5 (omega (arith, y.count)) (omega arith) (omega arith)
          ∙ rw (number_none l (name_of l k), sym (constant t l y) ∙ q)))
          (λ r. let d : a ≢ k = eqb_ne r in x.done t l y a (omega (arith, p, d)));
      left = λ a p. x.left a (omega (arith, p));
    }))
  where
    b : Room w n k
    b = mark_within x can h

    constant : (t : List ℕ) (l : List Statement) → Unnumbered t w₀ n l m → eqb (word w (symbol_cell n k 1) % 2) 1 ≡ constant_name l (name_of l k)
    constant t l y =
        ap (λ g. eqb (g % 2) 1) (x.kept.symbols k 1 b.fits (omega arith) ∙ y.named.declares k (omega (arith, y.count)))
        ∙ odd_word (global l (name_of l k))
        ∙ named_constant l (name_of l k)

pub mark_end : {w₀ w : List ℕ} {n m k : ℕ} → InvMark w₀ w n m k → m ≤ k → Presets w₀ w n m
unfolding any
mark_end {w₀} {w} {n} {m} {k} x h =
    record {
      kept = x.kept;
      sim = λ t l y.
          record {
            named = named_kept (kept_renumbered x.kept) y.named;
            small = y.small;
            numbered =
                record {
                  entry = λ j q. absurd (omega (arith, q));
                  place = λ j q. absurd (omega (arith, q));
                  number = λ a q. x.done t l y a (omega (arith, q, y.count));
                  counted = sym (sum_zero (λ a. one (member (name_of l a) [])) (length (atoms l)) (λ i q. refl));
                };
            count = refl;
          };
    }
