-- A name interned: one that is there is found, and a new one gets a row and is put at the empty link where its search ended.
-- Assumes nothing.
use mathlib.Core.Path.{◌≡◌, refl, sym, ap, ◌∙◌}
use mathlib.Core.Logic.{◌≢◌, ⊎_elim}
use mathlib.Core.Bool.{Bool, true, false}
use mathlib.Core.List.{List, [], ◌∷◌, ◌++◌}
use Prim.Native.Nat.{ℕ, ◌+◌, ◌-◌, ◌*◌, ◌<◌, ◌≤◌}
use native.Mathlib.Nat.{eq-or-lt_of_le}
use native.Mathlib.Omega.{arith}
use lib.Dec.{ltb}
use lib.ListN.{length, take, drop, set, length-set}
use borrow.Author.Tests.{ltb-true, ltb-false}
use Rattle.paper.specs.Variables.{member, index}
use Rattle.paper.proofs.Tests.{split, same_refl}
use Rattle.paper.proofs.Names.{index_past}
use Rattle.area.specs.Cells.{name_cell, bucket_cell, symbol_cell, word, Only, Cleared}
use Rattle.area.proofs.Laws.{word_same, word_other, only_none, only_set, only_then}
use Rattle.std.specs.Prelude.{Some, None}
use Rattle.nameck.specs.Links.{piece, link, way, Linked, Ends, Ended}
use Rattle.nameck.specs.Table.{name_at, names_of, found, with_name, Adds, CanIntern, Interns}
use Rattle.nameck.proofs.Search.{names_length, names_more, names_same, name_same, found_not, found_some}
use Rattle.nameck.proofs.Links.{Place, place_of, place_low, place_high, place_name, place_symbol, link_kept, way_same, ends_kept, linked_kept, linked_more}

-- ---- a name that is there
pub intern_old : {t w : List ℕ} {n m start stop r : ℕ} → CanIntern t w n m start stop → found (names_of t w n m) (piece t start stop) ≡ Some r → Interns t w w n m start stop r m
intern_old {t} {w} {n} {m} {start} {stop} {r} b e =
    let x = take (stop - start) (drop start t) in
    let f = found_some (names_of t w n m) x r e in
    record {
      only = only_none (4 * n) (15 * n) w;
      symbols = λ a c g k z. refl;
      blank = λ a c g k z. absurd (omega arith);
      linked = b.linked;
      names = rw f.0;
      atom_is = f.1;
      start_stop = b.spans.start_stop;
      within = b.spans.within;
    }

-- ---- the row of a new one: u are the words with it
module _ (w : List ℕ) (n m start stop : ℕ) where
  named_other : (i : ℕ) → i ≢ name_cell n m 0 → i ≢ name_cell n m 1 → i ≢ name_cell n m 2 → word (with_name w n m start stop) i ≡ word w i
  unfolding with_name
  named_other i p q r =
      word_other (set (set w (name_cell n m 0) start) (name_cell n m 1) stop) (name_cell n m 2) i 0 r
      ∙ word_other (set w (name_cell n m 0) start) (name_cell n m 1) i stop q ∙ word_other w (name_cell n m 0) i start p

  named_length : length (with_name w n m start stop) ≡ length w
  unfolding with_name
  named_length =
      length-set (set (set w (name_cell n m 0) start) (name_cell n m 1) stop) (name_cell n m 2) 0
      ∙ length-set (set w (name_cell n m 0) start) (name_cell n m 1) stop ∙ length-set w (name_cell n m 0) start

module _ {w u : List ℕ} {n m start stop : ℕ} (x : Adds w u n m start stop) where
  added_other : (i : ℕ) → (name_cell n m 0 ≤ i → i < name_cell n m 3 → ⊥) → (symbol_cell n m 0 ≤ i → i < symbol_cell n m 7 → ⊥) → word u i ≡ word w i
  added_other i p q =
      split (ltb i (symbol_cell n m 0))
      (λ e. x.cleared.only.below i (ltb-true i (symbol_cell n m 0) e))
      (λ e. let l : symbol_cell n m 0 ≤ i = ltb-false i (symbol_cell n m 0) e in
      split (ltb i (symbol_cell n m 7)) (λ f. absurd (q l (ltb-true i (symbol_cell n m 7) f)))
      (λ f. x.cleared.only.above i (ltb-false i (symbol_cell n m 7) f)))
      ∙ named_other w n m start stop i (λ e. p (omega (arith, e)) (omega (arith, e))) (λ e. p (omega (arith, e)) (omega (arith, e))) (λ e. p (omega (arith, e)) (omega (arith, e)))

  pub added_length : length u ≡ length w
  added_length = x.cleared.only.len ∙ named_length w n m start stop

  module _ (room : 16 * n ≤ length w) (free : m < n) where
    added_start : word u (name_cell n m 0) ≡ start
    unfolding with_name
    added_start =
        x.cleared.only.below (name_cell n m 0) (omega arith)
        ∙ word_other (set (set w (name_cell n m 0) start) (name_cell n m 1) stop) (name_cell n m 2) (name_cell n m 0) 0 (λ q. omega (arith, q))
        ∙ word_other (set w (name_cell n m 0) start) (name_cell n m 1) (name_cell n m 0) stop (λ q. omega (arith, q))
        ∙ word_same w (name_cell n m 0) start (omega arith)

    added_stop : word u (name_cell n m 1) ≡ stop
    unfolding with_name
    added_stop =
        x.cleared.only.below (name_cell n m 1) (omega arith)
        ∙ word_other (set (set w (name_cell n m 0) start) (name_cell n m 1) stop) (name_cell n m 2) (name_cell n m 1) 0 (λ q. omega (arith, q))
        ∙ word_same (set w (name_cell n m 0) start) (name_cell n m 1) stop (omega (arith, length-set w (name_cell n m 0) start))

    -- no link leads from it
    added_links : (r : Bool) → word u (link n m r) ≡ 0
    unfolding with_name link
    added_links true = x.cleared.zeros (symbol_cell n m 2) (omega arith) (omega arith)
    added_links false =
        x.cleared.only.below (name_cell n m 2) (omega arith)
        ∙ word_same (set (set w (name_cell n m 0) start) (name_cell n m 1) stop) (name_cell n m 2) 0
        (omega (arith, length-set (set w (name_cell n m 0) start) (name_cell n m 1) stop, length-set w (name_cell n m 0) start))

    added_only : Only (4 * n) (15 * n) w u
    added_only =
        record {
          len = added_length;
          below = λ i l. added_other i (λ p q. omega arith) (λ p q. omega arith);
          above = λ i l. added_other i (λ p q. omega arith) (λ p q. omega arith);
        }

-- as it is stored
pub row_added : {w v : List ℕ} {n m start stop i j k p : ℕ} → i ≡ name_cell n m 0 → j ≡ name_cell n m 1 → k ≡ name_cell n m 2 → p ≡ symbol_cell n m 0
    → Cleared p (p + 7) (set (set (set w i start) j stop) k 0) v → Adds w v n m start stop
unfolding with_name
row_added a b c d x =
    let y = rw (a, b, c) at x in
    record {
      cleared = record {
        only = record {
          len = y.only.len;
          below = λ e l. y.only.below e (omega (arith, d));
          above = λ e l. y.only.above e (omega (arith, d));
        };
        zeros = λ e l h. y.zeros e (omega (arith, d)) (omega (arith, d));
      };
    }

-- ---- and the link to it, at the cell c
module _ {t w : List ℕ} {n m start stop : ℕ} (b : CanIntern t w n m start stop) {c : ℕ} (y : Ended w n (take (stop - start) (drop start t)) c) where
  empty_place : Place n m c
  empty_place = rw y.at (place_of b.linked (omega (arith, b.free)) _ y.depth y.ends.passed)

  -- it lies in the work area
  pub ended_in : c < 16 * n
  ended_in = omega (arith, place_high (omega (arith, b.free)) empty_place)

module _ {t w u : List ℕ} {n m start stop : ℕ} (b : CanIntern t w n m start stop) {c : ℕ} (y : Ended w n (take (stop - start) (drop start t)) c)
    (x : Adds w u n m start stop) where
  abbrev put : List ℕ
  put = set u c (m + 1)

  put_row : (a k : ℕ) → a < n → k < 2 → word put (name_cell n a k) ≡ word u (name_cell n a k)
  put_row a k g l =
      word_other u c (name_cell n a k) (m + 1) (place_name (omega (arith, b.free)) (empty_place b y) a k g l)

  old_row : (a k : ℕ) → a < m → k < 2 → word put (name_cell n a k) ≡ word w (name_cell n a k)
  old_row a k g l =
      put_row a k (omega (arith, b.free)) l
      ∙ added_other x (name_cell n a k) (λ p q. omega arith) (λ p q. omega (arith, b.free))

  new_start : word put (name_cell n m 0) ≡ start
  new_start = put_row m 0 b.free (omega arith) ∙ added_start x b.spans.room b.free

  new_stop : word put (name_cell n m 1) ≡ stop
  new_stop = put_row m 1 b.free (omega arith) ∙ added_stop x b.spans.room b.free

  old_name : (a : ℕ) → a < m → name_at t put n a ≡ name_at t w n a
  old_name a g = name_same t w put n a (old_row a 0 g (omega arith)) (old_row a 1 g (omega arith))

  new_name : name_at t put n m ≡ take (stop - start) (drop start t)
  unfolding name_at
  new_name = rw (new_start, new_stop)

  new_names : names_of t put n (m + 1) ≡ names_of t w n m ++ (take (stop - start) (drop start t) ∷ [])
  new_names = names_more t put n m ∙ rw (new_name, names_same t w put n m old_name)

  -- the row does not touch heads and links of the names before it
  heads_kept : (i : ℕ) → i < n → word u (bucket_cell n i) ≡ word w (bucket_cell n i)
  heads_kept i g = added_other x (bucket_cell n i) (λ p q. omega (arith, b.free)) (λ p q. omega arith)

  links_kept : (a : ℕ) (r : Bool) → a < m → word u (link n a r) ≡ word w (link n a r)
  links_kept a r g =
      link_kept w u n a r (added_other x (name_cell n a 2) (λ p q. omega arith) (λ p q. omega (arith, b.free)))
      (added_other x (symbol_cell n a 2) (λ p q. omega (arith, b.free)) (λ p q. omega arith))

  new_linked : Linked put n (m + 1) (name_at t put n)
  new_linked =
      let o : 0 < n = omega (arith, b.free) in
      let f : m ≤ n = omega (arith, b.free) in
      let z : Linked u n m (name_at t put n) = linked_kept u b.linked o f heads_kept links_kept old_name in
      let e : Ends u n (take (stop - start) (drop start t)) y.depth = ends_kept u b.linked o f heads_kept links_kept y.ends in
      let g : Ends u n (name_at t put n m) y.depth = rw new_name e in
      let p : c ≡ way u n (name_at t put n m) y.depth =
      rw new_name (y.at ∙ sym (way_same u b.linked o f heads_kept links_kept (take (stop - start) (drop start t)) y.depth y.ends.passed)) in
      linked_more u put n m (name_at t put n) z b.free (added_links x b.spans.room b.free) y.depth g
      (rw (← p) (λ i d. word_other u c i (m + 1) d))
      (rw (← p) (word_same u c (m + 1) (omega (arith, ended_in b y, b.spans.room, added_length x))))

  put_only : Only (4 * n) (15 * n) w put
  put_only =
      only_then (added_only x b.spans.room b.free)
      (only_set (4 * n) (15 * n) u c (m + 1) (place_low (omega (arith, b.free)) (empty_place b y)) (place_high (omega (arith, b.free)) (empty_place b y)))

  put_symbol : (a k : ℕ) → a < n → k < 7 → k ≢ 2 → word put (symbol_cell n a k) ≡ word u (symbol_cell n a k)
  put_symbol a k g l d =
      word_other u c (symbol_cell n a k) (m + 1) (place_symbol (omega (arith, b.free)) (empty_place b y) a k g l d)

  put_symbols : (a k : ℕ) → a < m → k < 7 → k ≢ 2 → word put (symbol_cell n a k) ≡ word w (symbol_cell n a k)
  put_symbols a k g l d =
      put_symbol a k (omega (arith, b.free)) l d
      ∙ added_other x (symbol_cell n a k) (λ p q. omega (arith, b.free)) (λ p q. omega arith)

  put_blank : (a k : ℕ) → m ≤ a → a < m + 1 → k < 7 → k ≢ 2 → word put (symbol_cell n a k) ≡ 0
  put_blank a k g h l d =
      put_symbol a k (omega (arith, b.free)) l d ∙ x.cleared.zeros (symbol_cell n a k) (omega arith) (omega arith)

  row_order : (a : ℕ) → a ≤ m → word put (name_cell n a 0) ≤ word put (name_cell n a 1)
  row_order a k =
      ⊎_elim
      (λ q. omega (
        arith,
        b.order,
        ap (λ i. word put (name_cell n i 0)) q,
        ap (λ i. word put (name_cell n i 1)) q,
        new_start,
        new_stop,
      ))
      (λ q. rw (old_row a 0 q (omega arith), old_row a 1 q (omega arith)) (b.spans.start_stop a q))
      (eq-or-lt_of_le k)

  row_within : (a : ℕ) → a ≤ m → word put (name_cell n a 1) ≤ length t
  row_within a k =
      ⊎_elim (λ q. omega (arith, b.fits, ap (λ i. word put (name_cell n i 1)) q, new_stop))
      (λ q. rw (old_row a 1 q (omega arith)) (b.spans.within a q))
      (eq-or-lt_of_le k)

  new_interns : found (names_of t w n m) (piece t start stop) ≡ None → Interns t w put n m start stop m (m + 1)
  unfolding index
  new_interns e =
      let s = take (stop - start) (drop start t) in
      let f : member s (names_of t w n m) ≡ false = found_not (names_of t w n m) s e in
      record {
        only = put_only;
        symbols = put_symbols;
        blank = put_blank;
        linked = new_linked;
        names = rw f new_names;
        atom_is = rw new_names (sym (index_past s (names_of t w n m) (s ∷ []) f ∙ rw (same_refl s) (omega (arith, names_length t w n m))));
        start_stop = λ a k. row_order a (omega arith);
        within = λ a k. row_within a (omega arith);
      }

pub intern_new : {t w u v : List ℕ} {n m start stop c : ℕ} → CanIntern t w n m start stop
    → (found (names_of t w n m) (piece t start stop) ≡ None) × Ended w n (piece t start stop) c
    → Adds w u n m start stop → v ≡ set u c (m + 1) → Interns t w v n m start stop m (m + 1)
intern_new b e p q = rw q (new_interns b e.1 p e.0)
