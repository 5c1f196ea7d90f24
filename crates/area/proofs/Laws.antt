-- One word stored: the same cell, another cell; and what two changes one after the other leave alone.
-- Assumes nothing.
use mathlib.Core.Path.{◌≡◌, refl, sym, ap, ◌∙◌}
use mathlib.Core.Logic.{◌≢◌}
use mathlib.Core.List.{List}
use Prim.Native.Nat.{ℕ, ◌<◌, ◌≤◌, ◌-◌, zero-le}
use native.Mathlib.Omega.{arith}
use lib.ListN.{length, get_or, set, replicate, length-set}
use borrow.Rule.Slice.PartMut.{put_mid}
use Rattle.std.proofs.lemmas.List.{places, length-replicate, get_or-replicate, ext_get_or}
use borrow.Author.Rules.{rules}
use lib.Seq.{get_or-set_same, get_or-set_other}
use Rattle.area.specs.Cells.{word, Only, Cleared}

pub word_same : (w : List ℕ) (i v : ℕ) → i < length w → word (set w i v) i ≡ v
unfolding word
word_same w i v h = get_or-set_same w i v 0 h

pub word_other : (w : List ℕ) (i j v : ℕ) → j ≢ i → word (set w i v) j ≡ word w j
unfolding word
word_other w i j v h = get_or-set_other w i j v 0 h

pub only_none : (a e : ℕ) (w : List ℕ) → Only a e w w
only_none a e w = record { len = refl; below = λ i h. refl; above = λ i h. refl }

pub only_set : (a e : ℕ) (w : List ℕ) (i v : ℕ) → a ≤ i → i < e → Only a e w (set w i v)
only_set a e w i v h k =
    record {
      len = length-set w i v;
      below = λ j l. word_other w i j v (λ q. omega (arith, q));
      above = λ j l. word_other w i j v (λ q. omega (arith, q));
    }

pub only_then : {a e : ℕ} {w v u : List ℕ} → Only a e w v → Only a e v u → Only a e w u
only_then x y =
    record {
      len = y.len ∙ x.len;
      below = λ i h. y.below i h ∙ x.below i h;
      above = λ i h. y.above i h ∙ x.above i h;
    }

pub only_wide : {a e b f : ℕ} {w v : List ℕ} → b ≤ a → e ≤ f → Only a e w v → Only b f w v
only_wide h k x =
    record {
      len = x.len;
      below = λ i l. x.below i (omega arith);
      above = λ i l. x.above i (omega arith);
    }

-- the words from a up to e are filled with 0
pub cleared_fill : (w : List ℕ) (a e : ℕ) {v : List ℕ} → a ≤ e → e ≤ length w → v ≡ replicate (e - a) 0 → Cleared a e w (put_mid a (e - a) w v)
unfolding word
cleared_fill w a e {v} h k p =
    let n : length v ≡ e - a = ap length p ∙ length-replicate (e - a) 0 in
    record {
      only = record {
        len = search (rules, places);
        below = λ i l. search (rules, places);
        above = λ i l. search (rules, places);
      };
      zeros = λ i l m. rw p (search (rules, places));
    }

-- all words are 0
pub cleared_all : {w v : List ℕ} → Cleared 0 (length w) w v → v ≡ replicate (length w) 0
unfolding word
cleared_all {w} {v} x =
    let n : length v ≡ length w = x.only.len in
    ext_get_or 0 v _ (n ∙ sym (length-replicate (length w) 0)) (λ i l. x.zeros i zero-le (omega arith) ∙ sym (get_or-replicate (length w) i 0 0 (omega arith)))

-- the word that code reads at a cell
pub word_at : (w : List ℕ) {i j : ℕ} → i ≡ j → get_or w i 0 ≡ word w j
unfolding word
word_at w e = ap (λ k. get_or w k 0) e
