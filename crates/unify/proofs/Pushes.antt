-- Words put on the stack one after the other: a word, the symbols for a variable, the tokens of a statement.
-- What is below the place at which they were begun is never touched.
use mathlib.Core.Path.{◌≡◌, refl, sym, ap, ◌∙◌}
use mathlib.Core.List.{List, [], ◌∷◌, ◌++◌, append_assoc, append-nil}
use Prim.Native.Nat.{ℕ, suc, ◌+◌, ◌<◌, ◌≤◌}
use native.Mathlib.Nat.{add-zero, le_refl}
use native.Mathlib.Numerals.{add-one}
use native.Mathlib.Omega.{arith}
use lib.ListN.{length, get_or, take, drop, length-append}
use lib.Seq.{length-take-le, take-append-le, get_or-take, take-take}
use Rattle.std.specs.Prelude.{Option, Some, None}
use Rattle.unify.specs.Entries.{flag, plain, entry_of}
use Rattle.unify.specs.Bound.{token_words, spread}
use Rattle.unify.specs.Pushes.{Pushes}
use Rattle.unify.proofs.Entries.{plain_end, plain_flag, plain_more}
use Rattle.unify.proofs.Matches.{spread_more, spread_split, spread_all}

pub push_none : (l : List ℕ) (p : ℕ) → p ≤ length l → Pushes l l p (Some p) []
push_none l p h =
    record { len = refl; done = record { front = sym (append-nil (take p l)); place = sym (add-zero p); within = h } }

pub push_then : {l m o x : List ℕ} {p q : ℕ} (y : List ℕ) (r : Option ℕ) → Pushes l m p (Some q) x → Pushes m o q r y → Pushes l o p r (x ++ y)
push_then {l} {m} {o} {x} {p} {q} y (Some k) a b =
    record {
      len = b.len ∙ a.len;
      done = record {
        front = b.done.front ∙ ap (λ (z : List ℕ). z ++ y) a.done.front ∙ append_assoc (take p l) x y;
        place = omega (arith, a.done.place, b.done.place, length-append x y);
        within = b.done.within;
      };
    }
push_then {l} {m} {o} {x} {p} {q} y None a b =
    record {
      len = b.len ∙ a.len;
      done = omega (arith, a.len, a.done.place, b.done, length-append x y);
    }

pub push_stop : {l m x : List ℕ} {p : ℕ} (y : List ℕ) → Pushes l m p None x → Pushes l m p None (x ++ y)
push_stop {l} {m} {x} {p} y a = record { len = a.len; done = omega (arith, a.done, length-append x y) }

-- what is below stays
pub push_below : {l m x : List ℕ} {p q : ℕ} (top : ℕ) → top ≤ p → Pushes l m p (Some q) x → take top m ≡ take top l
push_below {l} {m} {x} {p} {q} top h a =
    let i : p ≤ length l = omega (arith, a.len, a.done.place, a.done.within) in
    sym (take-take top q m (omega (arith, a.done.place)))
    ∙ ap (take top) a.done.front
    ∙ take-append-le top (take p l) x (omega (arith, length-take-le p l i))
    ∙ take-take top p l h

-- ---- the symbols from s on, of the entries below top, are copied to p: up to i, to q
pub record Copying (l₀ l : List ℕ) (top s p i q : ℕ) : Type 0 where
  pub acc : List ℕ
  pub pushed : Pushes l₀ l p (Some q) acc
  pub rest : acc ++ plain (drop i (take top l₀)) ≡ plain (drop s (take top l₀))

pub copy_start : (l : List ℕ) (top s p : ℕ) → p ≤ length l → Copying l l top s p s p
copy_start l top s p h = record { acc = []; pushed = push_none l p h; rest = refl }

module _ {l₀ l : List ℕ} {top s p i q : ℕ} (b : top ≤ p) (c : p ≤ length l₀) (a : Copying l₀ l top s p i q) where
  copy_done : plain (drop i (take top l₀)) ≡ [] → Pushes l₀ l p (Some q) (plain (drop s (take top l₀)))
  copy_done e =
      let z : a.acc ≡ plain (drop s (take top l₀)) = sym (append-nil a.acc) ∙ ap (λ (y : List ℕ). a.acc ++ y) (sym e) ∙ a.rest in
      rw z at a.pushed

  size : length (take top l₀) ≡ top
  size = length-take-le top l₀ (omega arith)

  read : i < top → get_or l i 0 ≡ get_or (take top l₀) i 0
  read h = sym (get_or-take top l i 0 h) ∙ ap (λ (z : List ℕ). get_or z i 0) (push_below top b a.pushed)

  pub copy_end : top ≤ i → Pushes l₀ l p (Some q) (plain (drop s (take top l₀)))
  copy_end h = copy_done (plain_end (take top l₀) i (omega (arith, size)))

  pub copy_flag : i < top → flag ≤ get_or l i 0 → Pushes l₀ l p (Some q) (plain (drop s (take top l₀)))
  copy_flag h f = copy_done (plain_flag (take top l₀) i (omega (arith, size)) (omega (arith, read h)))

  step : i < top → get_or l i 0 < flag → (a.acc ++ (get_or l i 0 ∷ [])) ++ plain (drop (suc i) (take top l₀)) ≡ plain (drop s (take top l₀))
  step h f =
      append_assoc a.acc (get_or l i 0 ∷ []) (plain (drop (suc i) (take top l₀)))
      ∙ ap (λ (x : ℕ). a.acc ++ (x ∷ plain (drop (suc i) (take top l₀)))) (read h)
      ∙ ap (λ (z : List ℕ). a.acc ++ z) (sym (plain_more (take top l₀) i (omega (arith, size)) (omega (arith, read h))))
      ∙ a.rest

  pub copy_more : {m : List ℕ} {k : ℕ} → i < top → get_or l i 0 < flag → Pushes l m q (Some k) (get_or l i 0 ∷ []) → Copying l₀ m top s p (i + 1) k
  copy_more {m} {k} h f g =
      record {
        acc = a.acc ++ (get_or l i 0 ∷ []);
        pushed = push_then (get_or l i 0 ∷ []) (Some k) a.pushed g;
        rest = rw (add-one i) (step h f);
      }

  pub copy_full : {m : List ℕ} → i < top → get_or l i 0 < flag → Pushes l m q None (get_or l i 0 ∷ []) → Pushes l₀ m p None (plain (drop s (take top l₀)))
  copy_full {m} h f g =
      rw (step h f) at (push_stop (plain (drop (suc i) (take top l₀))) (push_then (get_or l i 0 ∷ []) None a.pushed g))

-- ---- the tokens of a statement, substituted by the entries below top, are put to p: i of them, up to q
module _ (w : List ℕ) (n top : ℕ) (r : List ℕ) (i : ℕ) {l₀ l m : List ℕ} {p q : ℕ} (b : top ≤ p) (h : i < length r) (a : Pushes l₀ l p (Some q) (spread w n (take top l₀) (take i r))) where
  next : (x : Option ℕ) → Pushes l m q x (token_words w n (take top l) (get_or r i 0)) → Pushes l₀ m p x (spread w n (take top l₀) (take (i + 1) r))
  next x c =
      rw (spread_more w n (take top l₀) r i h)
      (push_then (token_words w n (take top l₀) (get_or r i 0)) x a (rw (push_below top b a) at c))

  pub spread_next : (k : ℕ) → Pushes l m q (Some k) (token_words w n (take top l) (get_or r i 0)) → Pushes l₀ m p (Some k) (spread w n (take top l₀) (take (i + 1) r))
  spread_next k c = next (Some k) c

  pub spread_full : Pushes l m q None (token_words w n (take top l) (get_or r i 0)) → Pushes l₀ m p None (spread w n (take top l₀) r)
  spread_full c =
      rw (spread_split w n (take top l₀) r (i + 1)) at (push_stop (spread w n (take top l₀) (drop (i + 1) r)) (next None c))

pub spread_done : (w : List ℕ) (n top : ℕ) (r : List ℕ) (i : ℕ) {l₀ l : List ℕ} {p q : ℕ} → length r ≤ i → Pushes l₀ l p (Some q) (spread w n (take top l₀) (take i r)) → Pushes l₀ l p (Some q) (spread w n (take top l₀) r)
spread_done w n top r i {l₀} {l} {p} {q} h a = rw (spread_all w n (take top l₀) r i h) at a

-- ---- the typecode, and then the symbols
pub entry_then : {l m o : List ℕ} {p q : ℕ} (c : ℕ) (y : List ℕ) (r : Option ℕ) → Pushes l m p (Some q) ((c + flag) ∷ []) → Pushes m o q r y → Pushes l o p r (entry_of c y)
unfolding entry_of
entry_then c y r a b = push_then y r a b

pub entry_full : {l m : List ℕ} {p : ℕ} (c : ℕ) (y : List ℕ) → Pushes l m p None ((c + flag) ∷ []) → Pushes l m p None (entry_of c y)
unfolding entry_of
entry_full c y a = push_stop y a

pub entry_spread : (w : List ℕ) (n : ℕ) (y : List ℕ) (c : ℕ) {l m o : List ℕ} {top q : ℕ} (r : Option ℕ) → Pushes l m top (Some q) ((c + flag) ∷ [])
    → Pushes m o q r (spread w n (take top m) y) → Pushes l o top r (entry_of c (spread w n (take top l) y))
entry_spread w n y c {l} {m} {o} {top} {q} r a b =
    entry_then c (spread w n (take top l) y) r a (rw (push_below top (le_refl top) a) at b)
