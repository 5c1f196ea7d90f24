-- The words after one more item: the rows before it are kept, and the new row holds the statement in hand.
-- Assumes nothing.
use mathlib.Core.Path.{◌≡◌, refl, sym, ap, ◌∙◌}
use mathlib.Core.Logic.{◌≢◌}
use mathlib.Core.Bool.{true}
use mathlib.Core.List.{List, [], ◌∷◌, ◌++◌, append-nil}
use Prim.Native.Nat.{ℕ, ◌+◌, ◌-◌, ◌*◌, ◌<◌, ◌≤◌}
use native.Mathlib.Nat.{le_refl, not-suc-le-zero}
use native.Mathlib.Numerals.{add-one}
use native.Mathlib.Omega.{arith}
use lib.Dec.{ltb}
use lib.ListN.{length, get_or, take, drop, set, length-append, length-set, take-append-drop, get_or-append}
use lib.Seq.{take-suc, take_at, take-append-le, take-length, get_or_at, length-sets}
use borrow.Author.Tests.{ltb-true, ltb-false}
use Rattle.paper.specs.Base.{gather}
use Rattle.paper.specs.Tokens.{Token, toks, tokens}
use Rattle.paper.specs.Comments.{outside, visible}
use Rattle.paper.specs.Statements.{Kind, labelled, Statement, none_end, Item, states}
use Rattle.paper.proofs.Tests.{split}
use Rattle.paper.proofs.Lists.{gather_append}
use Rattle.area.specs.Cells.{statement_cell, bucket_cell, math_cell, word, Cleared}
use Rattle.area.proofs.Laws.{word_same, word_other}
use Rattle.token.specs.Words.{tokens_from}
use Rattle.token.proofs.Parts.{part_tokens}
use Rattle.reader.specs.Rows.{stmt, before, kind_number, Stands, no_statement}
use Rattle.reader.specs.Passed.{Passed, Gap}
use Rattle.reader.specs.Runs.{Running}
use Rattle.reader.specs.Kept.{stated_by, stated, event, no_item, Row, Words, with_row}
use Rattle.reader.specs.declared.state.Head.{Head}
use Rattle.reader.proofs.Stores.{stored_below, stored_above, stored_at}

-- ---- lists with one more entry
append_cancel : {A : Type 0} (x y z : List A) → x ++ z ≡ y ++ z → x ≡ y
append_cancel x y z e =
    let l : length y ≡ length x = omega (arith, ap length e, length-append x z, length-append y z) in
    sym (take_at x z (length x) refl) ∙ ap (λ r. take (length x) r) e ∙ take_at y z (length x) l

maths_of : Statement → List Token
maths_of x = x.math

pub before_snoc : (l : List Statement) (x : Statement) (s : ℕ) → s ≤ length l → before (l ++ (x ∷ [])) s ≡ before l s
unfolding before
before_snoc l x s h = rw (take-append-le s l (x ∷ []) h)

pub before_next : (l : List Statement) (s : ℕ) → s < length l → before l (s + 1) ≡ before l s + length (stmt l s).math
unfolding before stmt gather
before_next l s h =
    rw (add-one, take-suc l s no_statement h, gather_append (λ (x : Statement). x.math) (take s l) (get_or l s no_statement ∷ []), append-nil)
    (length-append (gather (λ (x : Statement). x.math) (take s l)) (get_or l s no_statement).math)

pub stmt_old : (l : List Statement) (x : Statement) (s : ℕ) → s < length l → stmt (l ++ (x ∷ [])) s ≡ stmt l s
unfolding stmt
stmt_old l x s h = get_or-append l (x ∷ []) no_statement s h

pub stmt_new : (l : List Statement) (x : Statement) (s : ℕ) → length l ≡ s → stmt (l ++ (x ∷ [])) s ≡ x
unfolding stmt
stmt_new l x s h = get_or_at l x [] no_statement s h

pub before_all : (l : List Statement) (x : Statement) (s : ℕ) → length l ≡ s → before (l ++ (x ∷ [])) (s + 1) ≡ before l s + length x.math
before_all l x s h =
    before_next (l ++ (x ∷ [])) s (omega (arith, length-append l (x ∷ []), h))
    ∙ rw (before_snoc l x s (omega (arith, h)), stmt_new l x s h)

-- the math tokens of a statement are among all of them
before_le : (l : List Statement) (m : ℕ) → before l m ≤ before l (length l)
unfolding before
before_le l m =
    let f : Statement → List Token = λ x. x.math in
    let e : gather f l ≡ gather f (take m l) ++ gather f (drop m l) = rw (take-append-drop m l) at (gather_append f (take m l) (drop m l)) in
    rw (take-length l) (omega (arith, ap length e, length-append (gather f (take m l)) (gather f (drop m l))))

pub before_within : (l : List Statement) (s : ℕ) → s < length l → before l s + length (stmt l s).math ≤ before l (length l)
before_within l s h = omega (arith, before_next l s h, before_le l (s + 1))

stated_more : (i : List Item) (y : Item) → stated (i ++ (y ∷ [])) ≡ stated i ++ stated_by y
unfolding stated gather
stated_more i y = gather_append stated_by i (y ∷ []) ∙ rw append-nil

-- ---- the part of the text with just these tokens in it
pub part_shows : {t : List ℕ} {a b : ℕ} {ms : List Token} → Passed t a b outside ms outside → a ≤ b → b ≤ length t → Gap t b
    → visible (toks (take (b - a) (drop a t)) a) outside ≡ ms
part_shows {t} {a} {b} {ms} h l k g =
    let e : toks (take (b - a) (drop a t)) a ≡ h.pre =
    append_cancel (toks (take (b - a) (drop a t)) a) h.pre (tokens_from t b) (sym (part_tokens t a b l k g) ∙ h.split) in
    rw e h.shows

-- ---- a row holds what it held where its words are the same
pub row_same : {t w v : List ℕ} {n s : ℕ} {x : Statement} {m : ℕ} → Row t w n s x m
    → ((c : ℕ) → c < 12 → c ≢ 7 → word v (statement_cell s c) ≡ word w (statement_cell s c))
    → ((k : ℕ) → k < length x.math → word v (math_cell n (m + k)) ≡ word w (math_cell n (m + k)))
    → Row t v n s x m
row_same {t} {w} {v} {n} {s} {x} {m} h e f =
    let e₃ = e 3 (omega arith) (λ q. omega (arith, q)) in
    let e₄ = e 4 (omega arith) (λ q. omega (arith, q)) in
    record {
      kind = e 0 (omega arith) (λ q. omega (arith, q)) ∙ h.kind;
      at = e 1 (omega arith) (λ q. omega (arith, q)) ∙ h.at;
      label = e 2 (omega arith) (λ q. omega (arith, q)) ∙ h.label;
      from_to = rw (e₃, e₄) h.from_to;
      within = rw e₄ h.within;
      first = e 5 (omega arith) (λ q. omega (arith, q)) ∙ h.first;
      count = e 6 (omega arith) (λ q. omega (arith, q)) ∙ h.count;
      part = rw (e₃, e₄) h.part;
      bears = h.bears;
      math = λ k l. f k l ∙ h.math k l;
      stands = h.stands;
    }

-- ---- one more statement: u are the words after its math tokens, v those with its row
module _ {t w u : List ℕ} {n : ℕ} {i : List Item} {rows maths items most stop count : ℕ} (h : Words t w n i rows maths items) (kind : ℕ) (d : Head) (k : Kind) (lab : List ℕ) (ps : List Token)
    (r : Running t w u n d.from.at most maths stop count) (some : 1 ≤ count)
    (ek : kind ≡ kind_number k) (el : d.label ≡ length lab) (eb : labelled k ≡ true → Stands t (record { at = d.at; bytes = lab }))
    (f₁ : 3 * (rows + 1) < n) (f₂ : maths + count < n) (f₃ : items < n) where
  abbrev pub new : Statement
  new = record { kind = k; at = d.at; end = none_end; label = lab; math = r.ms; proof = ps }

  abbrev pub after_row : List ℕ
  after_row = with_row u rows kind d stop maths count

  abbrev row_words : List ℕ
  row_words = kind ∷ d.at ∷ d.label ∷ d.from.at ∷ stop ∷ maths ∷ count ∷ []

  -- the cells outside the new row are those of u
  below : (c : ℕ) → c < 12 * rows → word after_row c ≡ word u c
  unfolding with_row
  below c l = stored_below row_words u (statement_cell rows 0) c (omega arith)

  beyond : (c : ℕ) → 12 * rows + 7 ≤ c → word after_row c ≡ word u c
  unfolding with_row
  beyond c l = stored_above row_words u (statement_cell rows 0) c (omega arith)

  in_row : (c : ℕ) → c < 7 → word after_row (statement_cell rows c) ≡ get_or row_words c 0
  unfolding with_row
  in_row c l =
      let q : statement_cell rows c ≡ statement_cell rows 0 + c = omega arith in
      rw q (stored_at row_words u (statement_cell rows 0) c l (omega (arith, h.room, r.only.len)))

  old_cell : (c : ℕ) → c < 12 * rows → word after_row c ≡ word w c
  old_cell c l = below c l ∙ r.only.below c (omega arith)

  mid_cell : (c : ℕ) → 12 * rows + 7 ≤ c → c < 15 * n + maths → word after_row c ≡ word w c
  mid_cell c a b = beyond c a ∙ r.only.below c b

  after_len : length after_row ≡ length w
  unfolding with_row
  after_len = length-sets u (statement_cell rows 0) row_words ∙ r.only.len

  row_new : Row t after_row n rows new maths
  row_new =
      let e₃ = in_row 3 (omega arith) in
      let e₄ = in_row 4 (omega arith) in
      record {
        kind = in_row 0 (omega arith) ∙ ek;
        at = in_row 1 (omega arith);
        label = in_row 2 (omega arith) ∙ el;
        from_to = rw (e₃, e₄) r.onward;
        within = rw e₄ r.within;
        first = in_row 5 (omega arith);
        count = in_row 6 (omega arith) ∙ sym r.counted;
        part = rw (e₃, e₄) (part_shows r.passed r.onward r.within r.gap);
        bears = eb;
        math = λ j l. beyond (math_cell n (maths + j)) (omega arith) ∙ r.stored j l;
        stands = r.stand;
      }

  -- the statements with the new one
  more : stated (i ++ (states new ∷ [])) ≡ stated i ++ (new ∷ [])
  more = stated_more i (states new)

  old_row : (s : ℕ) → s < rows → Row t after_row n s (stmt (stated i) s) (before (stated i) s)
  old_row s l =
      let m : before (stated i) s + length (stmt (stated i) s).math ≤ maths =
      rw (h.stated_rows, h.all_maths) at (before_within (stated i) s (omega (arith, h.stated_rows))) in
      row_same (h.kept s l)
      (λ c a b. old_cell (statement_cell s c) (omega arith))
      (λ j a. mid_cell (math_cell n (before (stated i) s + j)) (omega arith) (omega arith))

  kept_more : (s : ℕ) → s < rows + 1 → Row t after_row n s (stmt (stated i ++ (new ∷ [])) s) (before (stated i ++ (new ∷ [])) s)
  kept_more s l =
      split (ltb s rows)
      (λ e.
      let b : s < rows = ltb-true s rows e in
      rw (stmt_old (stated i) new s (omega (arith, h.stated_rows)), before_snoc (stated i) new s (omega (arith, h.stated_rows))) (old_row s b))
      (λ e.
      let q : s ≡ rows = omega (arith, ltb-false s rows e) in
      rw (q, stmt_new (stated i) new rows h.stated_rows, before_snoc (stated i) new rows (omega (arith, h.stated_rows)), h.all_maths) row_new)

  event_more : (j : ℕ) → j < items + 1 → word after_row (bucket_cell n j) ≡ event (get_or (i ++ (states new ∷ [])) j no_item)
  event_more j l =
      split (ltb j items)
      (λ e.
      let b : j < items = ltb-true j items e in
      mid_cell (bucket_cell n j) (omega arith) (omega arith) ∙ h.events j b ∙ ap event (sym (get_or-append i (states new ∷ []) no_item j (omega (arith, h.all_items)))))
      (λ e.
      let q : length i ≡ j = omega (arith, ltb-false j items e, h.all_items) in
      mid_cell (bucket_cell n j) (omega arith) (omega arith) ∙ h.fresh (bucket_cell n j) (omega (arith, h.all_items)) (omega arith) ∙ ap event (sym (get_or_at i (states new) [] no_item j q)))

  pub words_statement : Words t after_row n (i ++ (states new ∷ [])) (rows + 1) (maths + count) (items + 1)
  words_statement =
      record {
        size = h.size;
        room = omega (arith, h.room, after_len);
        short = h.short;
        stated_rows = rw more (omega (arith, length-append (stated i) (new ∷ []), h.stated_rows));
        all_maths = rw more (before_all (stated i) new rows h.stated_rows ∙ rw (h.all_maths, r.counted));
        all_items = omega (arith, length-append i (states new ∷ []), h.all_items);
        little = omega (arith, h.little);
        fewer = omega (arith, h.fewer);
        kept = rw more kept_more;
        events = event_more;
        fresh = λ c a b. mid_cell c (omega arith) (omega arith) ∙ h.fresh c (omega arith) b;
      }

-- ---- `${` or `$}`: a word in the bucket column, and no row
module _ {t w v : List ℕ} {n : ℕ} {i : List Item} {rows maths items : ℕ} (h : Words t w n i rows maths items) (y : Item) (none : stated_by y ≡ [])
    (f₁ : 3 * rows < n) (f₂ : items < n) (f₃ : maths < n) (e : v ≡ set w (bucket_cell n items) (event y)) where
  other_cell : (c : ℕ) → c ≢ bucket_cell n items → word v c ≡ word w c
  other_cell c q = rw e (word_other w (bucket_cell n items) c (event y) q)

  same : stated (i ++ (y ∷ [])) ≡ stated i
  same = stated_more i y ∙ rw (none, append-nil)

  same_row : (s : ℕ) → s < rows → Row t v n s (stmt (stated i) s) (before (stated i) s)
  same_row s l =
      let m : before (stated i) s + length (stmt (stated i) s).math ≤ maths =
      rw (h.stated_rows, h.all_maths) at (before_within (stated i) s (omega (arith, h.stated_rows))) in
      row_same (h.kept s l)
      (λ c a b. other_cell (statement_cell s c) (λ q. omega (arith, q)))
      (λ j a. other_cell (math_cell n (before (stated i) s + j)) (λ q. omega (arith, q)))

  event_one : (j : ℕ) → j < items + 1 → word v (bucket_cell n j) ≡ event (get_or (i ++ (y ∷ [])) j no_item)
  event_one j l =
      split (ltb j items)
      (λ b.
      let m : j < items = ltb-true j items b in
      other_cell (bucket_cell n j) (λ q. omega (arith, q)) ∙ h.events j m ∙ ap event (sym (get_or-append i (y ∷ []) no_item j (omega (arith, h.all_items)))))
      (λ b.
      let q : j ≡ items = omega (arith, ltb-false j items b) in
      rw (e, q) (word_same w (bucket_cell n items) (event y) (omega (arith, h.room))) ∙ ap event (sym (get_or_at i y [] no_item j (omega (arith, q, h.all_items)))))

  pub words_bracket : Words t v n (i ++ (y ∷ [])) rows maths (items + 1)
  words_bracket =
      record {
        size = h.size;
        room = omega (arith, h.room, ap length e, length-set w (bucket_cell n items) (event y));
        short = h.short;
        stated_rows = rw same h.stated_rows;
        all_maths = rw same h.all_maths;
        all_items = omega (arith, length-append i (y ∷ []), h.all_items);
        little = h.little;
        fewer = omega (arith, h.fewer);
        kept = rw same same_row;
        events = event_one;
        fresh = λ c a b. other_cell c (λ q. omega (arith, q)) ∙ h.fresh c (omega arith) b;
      }

-- ---- no item yet: the bucket column is 0
pub words_start : {t w v : List ℕ} {n : ℕ} → n ≡ length (tokens t) + 1 → 16 * n ≤ length w → length t ≤ 16777216 → Cleared (7 * n) (8 * n) w v → Words t v n [] 0 0 0
unfolding stated gather before
words_start a b d e =
    record {
      size = a;
      room = omega (arith, b, e.only.len);
      short = d;
      stated_rows = refl;
      all_maths = refl;
      all_items = refl;
      little = le_refl 0;
      fewer = le_refl 0;
      kept = λ s l. absurd (not-suc-le-zero l);
      events = λ j l. absurd (not-suc-le-zero l);
      fresh = λ c p q. e.zeros c (omega arith) q;
    }
