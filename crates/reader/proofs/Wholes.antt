-- The whole text: from no item to all of them, and from the words with ends to the rows that the crates above see.
-- Assumes nothing.
use mathlib.Core.Path.{◌≡◌, refl, ap, ◌∙◌}
use mathlib.Core.List.{List, [], ◌∷◌}
use Prim.Native.Nat.{ℕ, zero, suc, ◌+◌, ◌*◌, ◌<◌, ◌≤◌}
use native.Mathlib.Nat.{not-suc-le-zero, le_of_suc-le-suc}
use native.Mathlib.Omega.{arith}
use lib.Dec.{ltb}
use lib.ListN.{length, take, length-append}
use borrow.Author.Tests.{ltb-true, ltb-false}
use Rattle.paper.specs.Base.{gather}
use Rattle.paper.specs.Tokens.{Token, tokens}
use Rattle.paper.specs.Comments.{outside}
use Rattle.paper.specs.Statements.{Statement, Item, opens, closes, states, ended, ends}
use Rattle.paper.specs.Reader.{start, refused, finish, with_ends, items}
use Rattle.std.specs.Prelude.{Ok}
use Rattle.paper.specs.declared.Refusal.TheVariants.{OpenText}
use Rattle.paper.proofs.Tests.{split}
use Rattle.area.specs.Cells.{statement_cell, bucket_cell, math_cell, word, Cleared}
use Rattle.reader.specs.Rows.{stmt, before, Shape, Rows}
use Rattle.reader.specs.Passed.{Passed, RefusedAt}
use Rattle.reader.specs.Kept.{stated, Row, Words}
use Rattle.reader.specs.Held.{Held}
use Rattle.reader.specs.Ends.{EndsRoom, Ended}
use Rattle.reader.specs.Whole.{Finished, Answers}
use Rattle.token.specs.declared.cursor.Cursor.{Cursor}
use Rattle.reader.specs.declared.state.State.{State}
use Rattle.token.proofs.Counts.{few_tokens}
use Rattle.token.proofs.Lines.{line_start}
use Rattle.reader.proofs.Grammar.{reached_start, reached_few, reach_end}
use Rattle.reader.proofs.Keeping.{before_within, row_same}

-- ---- all items
pub held_start : {t w : List ℕ} {n : ℕ} {c : Cursor} → c ≡ record { at = 0; line = 1 } → Words t w n [] 0 0 0
    → Held t w n (record { cursor = c; rows = 0; maths = 0; items = 0; depth = 0 })
held_start {t} e h = rw e (record { found = []; words = h; reached = reached_start t; lined = line_start t; deep = omega arith })

module _ {t w : List ℕ} {n : ℕ} {s : State} (h : Held t w n s) (p : Passed t s.cursor.at (length t) outside [] outside) where
  pub all_open : (s.depth ≡ 0 → ⊥) → RefusedAt t (OpenText (length t)) 0
  all_open z = (reach_end h.reached p (length t) ∙ deeper s.depth z, refl)
    where
      deeper : (d : ℕ) → (d ≡ 0 → ⊥) → finish start d h.found (length t) ≡ refused (OpenText (length t))
      deeper zero z = absurd (z refl)
      deeper (suc d) z = refl

  pub all_done : s.depth ≡ 0 → Finished t w n s
  all_done z =
      let f = reached_few h.reached in
      let x = h.words in
      record {
        found = h.found;
        words = x;
        outcome = reach_end h.reached p (length t) ∙ rw z;
        few = omega (arith, x.size, x.little, x.fewer);
        maths = omega (arith, x.size);
        items_few = omega (arith, x.size);
      }

-- ---- the statements with their ends are those without, but for their ends
ends_count : (i : List Item) (l : List ℕ) → length (ends i l) ≡ length (stated i)
unfolding ends stated gather
ends_count [] l = refl
ends_count (opens p ∷ i) l = ends_count i l
ends_count (closes q ∷ i) l = ends_count i l
ends_count (states x ∷ i) l = ap suc (ends_count i l)

ends_stmt : (i : List Item) (l : List ℕ) (s : ℕ) → s < length (stated i) → stmt (ends i l) s ≡ ended (stmt (ends i l) s).end (stmt (stated i) s)
unfolding ends stated gather stmt
ends_stmt [] l s h = absurd (not-suc-le-zero h)
ends_stmt (opens p ∷ i) l s h = ends_stmt i l s h
ends_stmt (closes q ∷ i) l s h = ends_stmt i l s h
ends_stmt (states x ∷ i) l zero h = refl
ends_stmt (states x ∷ i) l (suc s) h = ends_stmt i l s (le_of_suc-le-suc h)

ends_before : (i : List Item) (l : List ℕ) (s : ℕ) → before (ends i l) s ≡ before (stated i) s
unfolding ends stated gather before
ends_before [] l s = refl
ends_before (opens p ∷ i) l s = ends_before i l s
ends_before (closes q ∷ i) l s = ends_before i l s
ends_before (states x ∷ i) l zero = refl
ends_before (states x ∷ i) l (suc s) =
    let f : Statement → List Token = λ y. y.math in
    omega (arith, ends_before i l s, length-append x.math (gather f (take s (ends i l))), length-append x.math (gather f (take s (stated i))))

row_ended : {t w : List ℕ} {n s m : ℕ} {x : Statement} (q : ℕ) → Row t w n s x m → Row t w n s (ended q x) m
row_ended q h =
    record {
      kind = h.kind;
      at = h.at;
      label = h.label;
      from_to = h.from_to;
      within = h.within;
      first = h.first;
      count = h.count;
      part = h.part;
      bears = h.bears;
      math = h.math;
      stands = h.stands;
    }

-- ---- w the words with all items, u with the ends, v with what served to find them cleared
module _ {t w : List ℕ} {n : ℕ} {s : State} (f : Finished t w n s) where
  pub small_rows : n ≤ 16777217
  small_rows = omega (arith, f.words.size, f.words.short, few_tokens t)

  pub ends_room : EndsRoom w n s.rows s.items
  ends_room =
      record {
        found = f.found;
        held = record { all_items = f.words.all_items; stated_rows = f.words.stated_rows; events = f.words.events };
        room = f.words.room;
        small = small_rows;
        few = f.items_few;
        less = f.few;
      }

  module _ {u c v : List ℕ} (e : Ended w u n s.rows s.items) (c₁ : Cleared (7 * n) (7 * n + s.items) u c) (c₂ : Cleared (8 * n) (8 * n + s.items) c v) where
    abbrev all : List Statement
    all = ends f.found []

    count : length all ≡ s.rows
    count = ends_count f.found [] ∙ f.words.stated_rows

    -- a word below the cleared ones, and one above
    low : (i : ℕ) → i < 7 * n → word v i ≡ word u i
    low i l = c₂.only.below i (omega arith) ∙ c₁.only.below i l

    high : (i : ℕ) → 8 * n + s.items ≤ i → word v i ≡ word w i
    high i l = c₂.only.above i l ∙ c₁.only.above i (omega arith) ∙ e.aside.above i l

    row : (r : ℕ) → r < length all → Row t v n r (stmt all r) (before all r)
    row r l =
        let a : r < s.rows = omega (arith, l, count) in
        let m : before (stated f.found) r + length (stmt (stated f.found) r).math ≤ s.maths =
        rw (f.words.stated_rows, f.words.all_maths) at (before_within (stated f.found) r (omega (arith, f.words.stated_rows))) in
        let k : Row t v n r (stmt (stated f.found) r) (before (stated f.found) r) =
        row_same (f.words.kept r a)
        (λ o b q. low (statement_cell r o) (omega (arith, f.few)) ∙ e.aside.kept r o a b q)
        (λ j b. high (math_cell n (before (stated f.found) r + j)) (omega (arith, f.items_few))) in
        rw (ends_before f.found [] r, ends_stmt f.found [] r (omega (arith, f.words.stated_rows))) (row_ended (stmt all r).end k)

    end_of : (r : ℕ) → r < length all → word v (statement_cell r 7) ≡ (stmt all r).end
    unfolding ends_room
    end_of r l =
        let a : r < s.rows = omega (arith, l, count) in
        low (statement_cell r 7) (omega (arith, f.few)) ∙ e.sim f.found ends_room.held r a

    all_maths : before all (length all) ≡ s.maths
    all_maths = rw count (ends_before f.found [] s.rows ∙ f.words.all_maths)

    -- the item words are cleared, and what stands after them was 0
    buckets : (b : ℕ) → b < n → word v (bucket_cell n b) ≡ 0
    buckets b a =
        split (ltb b s.items)
        (λ q.
        let l : b < s.items = ltb-true b s.items q in
        c₂.only.below (bucket_cell n b) (omega arith) ∙ c₁.zeros (bucket_cell n b) (omega arith) (omega arith))
        (λ q.
        let l : s.items ≤ b = ltb-false b s.items q in
        c₂.only.below (bucket_cell n b) (omega arith) ∙ c₁.only.above (bucket_cell n b) (omega arith)
        ∙ e.aside.rest (bucket_cell n b) (omega (arith, f.few)) (omega arith) ∙ f.words.fresh (bucket_cell n b) (omega arith) (omega arith))

    shape : Shape t v n all
    shape =
        record {
          rows = f.words.size;
          room = omega (arith, f.words.room, e.aside.len, c₁.only.len, c₂.only.len);
          short = f.words.short;
          few = omega (arith, f.few, count);
          maths = omega (arith, f.maths, all_maths);
          kind = λ r l. (row r l).kind;
          at = λ r l. (row r l).at;
          from_to = λ r l. (row r l).from_to;
          within = λ r l. (row r l).within;
          first = λ r l. (row r l).first;
          count = λ r l. (row r l).count;
          end = end_of;
          part = λ r l. (row r l).part;
        }

    rows_read : Rows t v n all
    rows_read =
        record {
          shape = shape;
          label = λ r l. (row r l).label;
          bears = λ r l. (row r l).bears;
          math = λ r j l. (row r l).math j;
          stands = λ r j l. (row r l).stands j;
          buckets = buckets;
        }

    pub text_read : (m : ℕ) → length v ≡ m → Answers t v m (with_ends (items (tokens t) (length t))) (Ok (record { rows = s.rows; maths = s.maths }))
    text_read m l = rw f.outcome (rw (all_maths, count), rw (← f.words.size) rows_read, l)
