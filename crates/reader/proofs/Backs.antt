-- The walk back over the items: one item, by its kind; where it starts and where it ends.
-- Assumes nothing.
use mathlib.Core.Path.{◌≡◌, refl, sym, ap, ◌∙◌}
use mathlib.Core.Logic.{◌≢◌}
use mathlib.Core.List.{List, [], ◌∷◌, ◌++◌}
use Prim.Native.Nat.{ℕ, zero, suc, ◌+◌, ◌-◌, ◌*◌, ◌<◌, ◌≤◌}
use native.Mathlib.Nat.{le_refl}
use native.Mathlib.Omega.{arith}
use lib.Dec.{eqb}
use lib.ListN.{length, get_or, take, drop, set, length-append, length-set, take-append-drop}
use lib.Seq.{drop-cons, drop-length}
use borrow.Author.Tests.{eq-eqb, ne_eqb, eqb-true}
use Rattle.paper.specs.Base.{gather}
use Rattle.paper.specs.Statements.{Statement, none_end, Item, opens, closes, states, top, tail, closers, ends}
use Rattle.paper.proofs.Tests.{split, eqb_ne}
use Rattle.paper.proofs.Lists.{gather_append}
use Rattle.area.specs.Cells.{statement_cell, bucket_cell, word}
use Rattle.area.proofs.Laws.{word_same, word_other}
use Rattle.reader.specs.Rows.{stmt}
use Rattle.reader.specs.Kept.{stated_by, stated, event, no_item}
use Rattle.reader.specs.Ends.{stack_cell, stack_of, back_words, back_state, BackRoom, Events, EndsRoom, Found, Backward, Ended}
use Rattle.reader.specs.declared.end.Back.{Back}

-- ---- the stack
pub top_none : (w : List ℕ) (n d : ℕ) → d ≡ 0 → none_end ≡ top (stack_of w n d)
unfolding stack_of
top_none w n d e = rw e

pub top_some : (w : List ℕ) (n d : ℕ) → (d ≡ 0 → ⊥) → get_or w (8 * n + (d - 1)) 0 ≡ top (stack_of w n d)
unfolding stack_of word
top_some w n zero h = absurd (h refl)
top_some w n (suc d) h = let q : suc d - 1 ≡ d = omega arith in rw q

stack_tail : (w : List ℕ) (n d : ℕ) → stack_of w n (d - 1) ≡ tail (stack_of w n d)
unfolding stack_of
stack_tail w n zero = refl
stack_tail w n (suc d) = let q : suc d - 1 ≡ d = omega arith in rw q

stack_same : (w v : List ℕ) (n d : ℕ) → ((k : ℕ) → k < d → word v (stack_cell n k) ≡ word w (stack_cell n k)) → stack_of v n d ≡ stack_of w n d
unfolding stack_of
stack_same w v n zero h = refl
stack_same w v n (suc d) h = rw (h d (le_refl (suc d)), stack_same w v n d (λ k l. h k (omega arith)))

stack_push : (w v : List ℕ) (n d p : ℕ) → word v (stack_cell n d) ≡ p → ((k : ℕ) → k < d → word v (stack_cell n k) ≡ word w (stack_cell n k))
    → stack_of v n (suc d) ≡ p ∷ stack_of w n d
unfolding stack_of
stack_push w v n d p e h = rw (e, stack_same w v n d h)

-- ---- one item back, by its word
module _ (w : List ℕ) (n row d : ℕ) {e : ℕ} where
  pub back_statement : e ≡ 0 → (c x : ℕ) → c ≡ statement_cell (row - 1) 7 → x ≡ top (stack_of w n d)
      → (set w c x ≡ back_words w n e row d) × (record { row = row - 1; depth = d } ≡ back_state e row d)
  unfolding back_words
  back_statement z c x p q = (rw (eq-eqb e 0 z, p, q), rw (eq-eqb e 0 z))

  pub back_open : (e ≡ 0 → ⊥) → e ≡ 1 → (k : ℕ) → k ≡ d - 1 → (w ≡ back_words w n e row d) × (record { row = row; depth = k } ≡ back_state e row d)
  unfolding back_words
  back_open y z k p = (rw (ne_eqb e 0 y, eq-eqb e 1 z), rw (ne_eqb e 0 y, eq-eqb e 1 z, p))

  pub back_close : (e ≡ 0 → ⊥) → (e ≡ 1 → ⊥) → (x : ℕ) → x ≡ e
      → (set w (8 * n + d) (x - 2) ≡ back_words w n e row d) × (record { row = row; depth = d + 1 } ≡ back_state e row d)
  unfolding back_words
  back_close y z x p = (rw (ne_eqb e 0 y, ne_eqb e 1 z, p), rw (ne_eqb e 0 y, ne_eqb e 1 z))

-- ---- the items
stated_split : (i : List Item) (j : ℕ) → length (stated i) ≡ length (stated (take j i)) + length (stated (drop j i))
unfolding stated
stated_split i j =
    let e : gather stated_by i ≡ gather stated_by (take j i) ++ gather stated_by (drop j i) = rw (take-append-drop j i) at (gather_append stated_by (take j i) (drop j i)) in
    ap length e ∙ length-append (gather stated_by (take j i)) (gather stated_by (drop j i))

-- an item whose word is 0 is a statement, and then a row is left for it
row_left : (i r : List Item) (rows row j : ℕ) (y : Item) → drop j i ≡ y ∷ r → length (stated i) ≡ rows → row + length (stated r) ≡ rows → event y ≡ 0 → 0 < row
unfolding stated gather
row_left i r rows row j (opens p) e a b z = absurd (omega (arith, z))
row_left i r rows row j (closes q) e a b z = absurd (omega (arith, z))
row_left i r rows row j (states x) e a b z = omega (arith, a, b, stated_split i j, ap (λ l. length (stated l)) e)

module _ {w v : List ℕ} {n rows items j row d : ℕ} (r : EndsRoom w n rows items) (b : Backward w v n rows items (suc j) row d) where
  -- the word of the item before is as it was
  event_kept : word v (bucket_cell n j) ≡ word w (bucket_cell n j)
  event_kept = b.aside.rest (bucket_cell n j) (omega (arith, r.less)) (omega (arith, b.upto, r.few))

  step_open : (i : List Item) → Events w n i rows items → drop j i ≡ get_or i j no_item ∷ drop (suc j) i
  step_open i h = drop-cons i j no_item (omega (arith, b.upto, h.all_items))

  event_is : (i : List Item) → Events w n i rows items → word v (bucket_cell n j) ≡ event (get_or i j no_item)
  event_is i h = event_kept ∙ h.events j (omega (arith, b.upto))

  some_row : word v (bucket_cell n j) ≡ 0 → 0 < row
  some_row z =
      let f = r.found in
      row_left f (drop (suc j) f) rows row j (get_or f j no_item) (step_open f r.held) r.held.stated_rows (b.sim f r.held).counted (sym (event_is f r.held) ∙ z)

  row_few : row ≤ rows
  row_few = omega (arith, (b.sim r.found r.held).counted)

  pub back_room : BackRoom v n j row d
  back_room =
      record {
        room = omega (arith, r.room, b.aside.len);
        small = r.small;
        item = omega (arith, b.upto, r.few);
        rows = omega (arith, row_few, r.less);
        deep = omega (arith, b.deep, r.few);
        some = some_row;
      }

  module _ {u : List ℕ} {k : Back} (eu : u ≡ back_words v n (word v (bucket_cell n j)) row d) (ek : k ≡ back_state (word v (bucket_cell n j)) row d) where
    -- ---- what the three kinds of items do
    module _ (z : word v (bucket_cell n j) ≡ 0) where
      words_states : u ≡ set v (statement_cell (row - 1) 7) (top (stack_of v n d))
      unfolding back_words
      words_states = eu ∙ rw (eq-eqb (word v (bucket_cell n j)) 0 z)

      other_states : (c : ℕ) → c ≢ statement_cell (row - 1) 7 → word u c ≡ word v c
      other_states c q = rw words_states (word_other v (statement_cell (row - 1) 7) c (top (stack_of v n d)) q)

      here_states : word u (statement_cell (row - 1) 7) ≡ top (stack_of v n d)
      here_states = rw words_states (word_same v (statement_cell (row - 1) 7) (top (stack_of v n d)) (omega (arith, some_row z, row_few, r.less, r.room, b.aside.len)))

      found_states : (i : List Item) (x : Statement) → drop j i ≡ states x ∷ drop (suc j) i → length (stated i) ≡ rows → Found v n i rows (suc j) row d → Found u n i rows j (row - 1) d
      unfolding closers ends stated gather stmt
      found_states i x e a f =
          let pos = some_row z in
          let few = row_few in
          record {
            stack = rw e (stack_same v u n d (λ c l. other_states (stack_cell n c) (λ q. omega (arith, q, r.less))) ∙ f.stack);
            counted = rw e (omega (arith, f.counted));
            ends_from = λ s l m.
                split (eqb s (row - 1))
                (λ q.
                let g : s ≡ row - 1 = eqb-true s (row - 1) q in
                let o : s - (row - 1) ≡ 0 = omega (arith, g) in
                rw (e, o) (ap (λ y. word u (statement_cell y 7)) g ∙ here_states ∙ ap top f.stack))
                (λ q.
                let g : s ≢ row - 1 = eqb_ne q in
                let m' : row ≤ s = omega (arith, g) in
                let o : s - (row - 1) ≡ suc (s - row) = omega arith in
                rw (e, o) (other_states (statement_cell s 7) (λ y. g (omega (arith, y))) ∙ f.ends_from s m' m));
          }

    module _ (y : word v (bucket_cell n j) ≡ 0 → ⊥) where
      module _ (z : word v (bucket_cell n j) ≡ 1) where
        words_opens : u ≡ v
        unfolding back_words
        words_opens = eu ∙ rw (ne_eqb (word v (bucket_cell n j)) 0 y, eq-eqb (word v (bucket_cell n j)) 1 z)

        found_opens : (i : List Item) (p : ℕ) → drop j i ≡ opens p ∷ drop (suc j) i → Found v n i rows (suc j) row d → Found u n i rows j row (d - 1)
        unfolding closers ends stated gather
        found_opens i p e f =
            rw words_opens
            (record {
              stack = rw e (stack_tail v n d ∙ ap tail f.stack);
              counted = rw e f.counted;
              ends_from = λ s l m. rw e (f.ends_from s l m);
            })

      module _ (z : word v (bucket_cell n j) ≡ 1 → ⊥) where
        words_closes : u ≡ set v (stack_cell n d) (word v (bucket_cell n j) - 2)
        unfolding back_words
        words_closes = eu ∙ rw (ne_eqb (word v (bucket_cell n j)) 0 y, ne_eqb (word v (bucket_cell n j)) 1 z)

        other_closes : (c : ℕ) → c ≢ stack_cell n d → word u c ≡ word v c
        other_closes c q = rw words_closes (word_other v (stack_cell n d) c (word v (bucket_cell n j) - 2) q)

        found_closes : (i : List Item) (p : ℕ) → word v (bucket_cell n j) ≡ p + 2 → drop j i ≡ closes p ∷ drop (suc j) i → Found v n i rows (suc j) row d → Found u n i rows j row (d + 1)
        unfolding closers ends stated gather
        found_closes i p w₂ e f =
            let q : d + 1 ≡ suc d = omega arith in
            let g₁ : word u (stack_cell n d) ≡ word v (bucket_cell n j) - 2 =
            rw words_closes (word_same v (stack_cell n d) (word v (bucket_cell n j) - 2) (omega (arith, b.deep, r.few, r.room, b.aside.len))) in
            let g : word u (stack_cell n d) ≡ p = omega (arith, g₁, w₂) in
            record {
              stack = rw (e, q) (stack_push v u n d p g (λ c l. other_closes (stack_cell n c) (λ y. omega (arith, y))) ∙ ap (λ l. p ∷ l) f.stack);
              counted = rw e f.counted;
              ends_from = λ s l m. rw e (other_closes (statement_cell s 7) (λ y. omega (arith, y, r.less)) ∙ f.ends_from s l m);
            }

    -- ---- by the item's word, for all items that stand there
    abbrev Goal : Type 0
    Goal = Backward w u n rows items j k.row k.depth

    after_states : word v (bucket_cell n j) ≡ 0 → Goal
    after_states z =
        let pos = some_row z in
        let few = row_few in
        let s : k ≡ record { row = row - 1; depth = d } = ek ∙ rw (eq-eqb (word v (bucket_cell n j)) 0 z) in
        let o = other_states z in
        rw s
        (record {
          aside = record {
            len = ap length (words_states z) ∙ length-set v (statement_cell (row - 1) 7) (top (stack_of v n d)) ∙ b.aside.len;
            kept = λ a c l m q. o (statement_cell a c) (λ y. q (omega (arith, y))) ∙ b.aside.kept a c l m q;
            rest = λ c l m. o c (λ y. omega (arith, y)) ∙ b.aside.rest c l m;
            above = λ c l. o c (λ y. omega (arith, y, r.less)) ∙ b.aside.above c l;
          };
          upto = omega (arith, b.upto);
          deep = omega (arith, b.deep);
          sim = λ i h. by i h (get_or i j no_item) refl;
        })
      where
        by : (i : List Item) (h : Events w n i rows items) (y : Item) → get_or i j no_item ≡ y → Found u n i rows j (row - 1) d
        by i h (opens p) e = absurd (omega (arith, z, event_is i h, ap event e))
        by i h (closes q) e = absurd (omega (arith, z, event_is i h, ap event e))
        by i h (states x) e = found_states z i x (rw e at (step_open i h)) h.stated_rows (b.sim i h)

    module _ (y : word v (bucket_cell n j) ≡ 0 → ⊥) where
      after_opens : word v (bucket_cell n j) ≡ 1 → Goal
      after_opens z =
          let s : k ≡ record { row = row; depth = d - 1 } = ek ∙ rw (ne_eqb (word v (bucket_cell n j)) 0 y, eq-eqb (word v (bucket_cell n j)) 1 z) in
          let q = words_opens y z in
          rw s
          (record {
            aside = rw q b.aside;
            upto = omega (arith, b.upto);
            deep = omega (arith, b.deep);
            sim = λ i h. by i h (get_or i j no_item) refl;
          })
        where
          by : (i : List Item) (h : Events w n i rows items) (x : Item) → get_or i j no_item ≡ x → Found u n i rows j row (d - 1)
          by i h (opens p) e = found_opens y z i p (rw e at (step_open i h)) (b.sim i h)
          by i h (closes q) e = absurd (omega (arith, z, event_is i h, ap event e))
          by i h (states x) e = absurd (omega (arith, z, event_is i h, ap event e))

      after_closes : (word v (bucket_cell n j) ≡ 1 → ⊥) → Goal
      after_closes z =
          let s : k ≡ record { row = row; depth = d + 1 } = ek ∙ rw (ne_eqb (word v (bucket_cell n j)) 0 y, ne_eqb (word v (bucket_cell n j)) 1 z) in
          let o = other_closes y z in
          let few = row_few in
          rw s
          (record {
            aside = record {
              len = ap length (words_closes y z) ∙ length-set v (stack_cell n d) (word v (bucket_cell n j) - 2) ∙ b.aside.len;
              kept = λ a c l m q. o (statement_cell a c) (λ x. omega (arith, x, r.less)) ∙ b.aside.kept a c l m q;
              rest = λ c l m. o c (λ x. omega (arith, x)) ∙ b.aside.rest c l m;
              above = λ c l. o c (λ x. omega (arith, x, b.deep, r.few)) ∙ b.aside.above c l;
            };
            upto = omega (arith, b.upto);
            deep = omega (arith, b.deep);
            sim = λ i h. by i h (get_or i j no_item) refl;
          })
        where
          by : (i : List Item) (h : Events w n i rows items) (x : Item) → get_or i j no_item ≡ x → Found u n i rows j row (d + 1)
          by i h (opens p) e = absurd (z (event_is i h ∙ ap event e))
          by i h (closes q) e = found_closes y z i q (event_is i h ∙ ap event e) (rw e at (step_open i h)) (b.sim i h)
          by i h (states x) e = absurd (y (event_is i h ∙ ap event e))

    pub back_step : Goal
    back_step =
        split (eqb (word v (bucket_cell n j)) 0)
        (λ e. after_states (eqb-true _ _ e))
        (λ e. split (eqb (word v (bucket_cell n j)) 1) (λ f. after_opens (eqb_ne e) (eqb-true _ _ f)) (λ f. after_closes (eqb_ne e) (eqb_ne f)))

-- ---- the whole walk
pub back_start : {w : List ℕ} {n rows items : ℕ} → EndsRoom w n rows items → Backward w w n rows items items rows 0
unfolding closers ends stated gather stack_of
back_start {w} {n} {rows} {items} r =
    record {
      aside = record { len = refl; kept = λ s c l m q. refl; rest = λ c l m. refl; above = λ c l. refl };
      upto = le_refl items;
      deep = omega arith;
      sim = λ i h.
          let e : drop items i ≡ [] = ap (λ k. drop k i) (sym h.all_items) ∙ drop-length i in
          record {
            stack = rw e;
            counted = rw e (omega arith);
            ends_from = λ s l m. absurd (omega arith);
          };
    }

pub back_end : {w v : List ℕ} {n rows items row d : ℕ} → Backward w v n rows items 0 row d → Ended w v n rows items
back_end {w} {v} {n} {rows} {items} {row} {d} b =
    record {
      aside = b.aside;
      sim = λ i h s l.
          let f = b.sim i h in
          let z : row ≡ 0 = omega (arith, f.counted, h.stated_rows) in
          let o : s - row ≡ s = omega (arith, z) in
          rw o at (f.ends_from s (omega (arith, z)) l);
    }
