-- Each store of naming takes what is done one step on: a name interned, an atom for a math token or a label.
-- Assumes nothing.
use mathlib.Core.Path.{◌≡◌, sym, ap, ◌∙◌}
use mathlib.Core.Logic.{◌≢◌}
use mathlib.Core.Bool.{true, false}
use mathlib.Core.List.{List, [], ◌∷◌, ◌++◌, append_assoc}
use Prim.Native.Nat.{ℕ, ◌+◌, ◌-◌, ◌<◌, ◌≤◌}
use native.Mathlib.Omega.{arith}
use lib.Dec.{eqb, ltb}
use lib.ListN.{length, get_or, take, drop, set}
use borrow.Author.Tests.{eqb-true, ltb-true, ltb-false}
use Rattle.paper.specs.Base.{gather}
use Rattle.paper.specs.Statements.{labelled, Statement}
use Rattle.paper.specs.Variables.{member, see, sights, index}
use Rattle.paper.specs.Checks.{token, no_token}
use Rattle.paper.proofs.Tests.{split, clash, eqb_ne}
use Rattle.paper.proofs.Names.{Grown, grown_length, grown_index, see_self, sights_append, sights_one, sights_grown, index_lt}
use Rattle.paper.proofs.Gather.{gather_at}
use Rattle.area.specs.Cells.{statement_cell, name_cell, bucket_cell, symbol_cell, math_cell, word, Only}
use Rattle.area.proofs.Laws.{word_same, word_other, only_set}
use Rattle.reader.specs.Rows.{no_statement, stmt, before}
use Rattle.nameck.specs.Atoms.{names_in, atoms, atom_of}
use Rattle.nameck.specs.Table.{name_at, names_of, Spans, Interns}
use Rattle.nameck.specs.Links.{Linked}
use Rattle.nameck.specs.Naming.{Done, Column, owner_by, global_by, Labels, Maths, Blank, Progress, Ahead}
use Rattle.nameck.proofs.Kept.{shape_kept, math_row}
use Rattle.nameck.proofs.Search.{names_length, names_same, name_same}
use Rattle.nameck.proofs.Links.{link_kept, linked_kept}
use Rattle.nameck.proofs.Column.{column_kept, column_see}

-- ---- what rests on words that are kept
pub labels_kept : {w v : List ℕ} {l : List Statement} {k : ℕ} → ((s : ℕ) → s < length l → word v (statement_cell s 2) ≡ word w (statement_cell s 2)) → Labels w l k → Labels v l k
labels_kept e h =
    record { done = λ s g b f. e s b ∙ h.done s g b f; left = λ s g b. e s b ∙ h.left s g b }

pub maths_kept : {w v : List ℕ} {n : ℕ} {l : List Statement} {p : ℕ} → ((i : ℕ) → word v (math_cell n i) ≡ word w (math_cell n i)) → Maths w n l p → Maths v n l p
maths_kept {l = l} e h =
    record {
      done = λ s i g k b. e (before l s + i) ∙ h.done s i g k b;
      left = λ s i g k b. e (before l s + i) ∙ h.left s i g k b;
    }

pub spans_kept : {t w v : List ℕ} {n m : ℕ} → length v ≡ length w → ((a c : ℕ) → a < m → c < 2 → word v (name_cell n a c) ≡ word w (name_cell n a c)) → Spans t w n m → Spans t v n m
spans_kept e k h =
    record {
      room = omega (arith, h.room, e);
      small = h.small;
      short = h.short;
      rows = h.rows;
      start_stop = λ a g. rw (k a 0 g (omega arith), k a 1 g (omega arith)) (h.start_stop a g);
      within = λ a g. rw (k a 1 g (omega arith)) (h.within a g);
    }

pub names_kept : (t w v : List ℕ) (n m : ℕ) → ((a c : ℕ) → a < m → c < 2 → word v (name_cell n a c) ≡ word w (name_cell n a c)) → names_of t v n m ≡ names_of t w n m
names_kept t w v n m k =
    names_same t w v n m (λ a g. name_same t w v n a (k a 0 g (omega arith)) (k a 1 g (omega arith)))

pub blank_kept : {w v : List ℕ} {n m : ℕ} → ((a c : ℕ) → a < m → 5 ≤ c → c < 7 → word v (symbol_cell n a c) ≡ word w (symbol_cell n a c)) → Blank w n m → Blank v n m
blank_kept e h = record { symbols = λ a c g k b. e a c g k b ∙ h.symbols a c g k b }

-- a write that keeps the names, the buckets and the symbols' word 2
pub links_kept : {t w v : List ℕ} {n m : ℕ} {x : Done} → Progress t w n x m → ((a c : ℕ) → a < n → c < 3 → word v (name_cell n a c) ≡ word w (name_cell n a c)) → ((b : ℕ) → b < n → word v (bucket_cell n b) ≡ word w (bucket_cell n b)) → ((a : ℕ) → a < n → word v (symbol_cell n a 2) ≡ word w (symbol_cell n a 2)) → Linked v n m (name_at t v n)
links_kept {t} {w} {v} {n} {m} h f g k =
    linked_kept v h.linked (omega (arith, h.text.few)) h.spans.rows g
    (λ a r l. link_kept w v n a r (f a 2 (omega (arith, h.spans.rows)) (omega arith)) (k a (omega (arith, h.spans.rows))))
    (λ a l. name_same t w v n a (f a 0 (omega (arith, h.spans.rows)) (omega arith)) (f a 1 (omega (arith, h.spans.rows)) (omega arith)))

-- ---- names that come next are among all names
ahead_grown : {x : Done} {b : List (List ℕ)} → Ahead x b → Grown (sights (x.names ++ b) []) (atoms x.of)
unfolding atoms
ahead_grown {x} {b} h =
    let e : sights (gather names_in x.of) [] ≡ sights h.rest (sights (x.names ++ b) []) =
    ap (λ l. sights l []) (sym (append_assoc x.names b h.rest ∙ h.all)) ∙ sights_append (x.names ++ b) h.rest [] in
    rw e (sights_grown h.rest (sights (x.names ++ b) []))

-- ---- the number of names so far
pub progress_count : {t w : List ℕ} {n m : ℕ} {x : Done} → Progress t w n x m → m ≡ length (sights x.names [])
progress_count {t} {w} {n} {m} h = sym (names_length t w n m) ∙ ap length h.names

pub progress_free : {t w : List ℕ} {n m : ℕ} {x : Done} {b : List (List ℕ)} → Progress t w n x m → Ahead x b → m < n
progress_free {x = x} {b = b} h a =
    omega (
      arith,
      progress_count h,
      h.text.few,
      grown_length (ahead_grown a),
      grown_length (sights_grown b (sights x.names [])),
      ap length (sights_append x.names b []),
    )

-- ---- a name interned
abbrev pub seen : Done → List ℕ → Done
seen x b =
    record {
      of = x.of;
      labels = x.labels;
      maths = x.maths;
      names = x.names ++ (b ∷ []);
      bearers = x.bearers;
      declared = x.declared;
    }

module _ {t w v : List ℕ} {n m start stop atom r : ℕ} {x : Done} (h : Progress t w n x m) (y : Interns t w v n m start stop atom r) {b : List ℕ} (e : take (stop - start) (drop start t) ≡ b) (a : Ahead x (b ∷ [])) where
  names_now : names_of t v n r ≡ sights (x.names ++ (b ∷ [])) []
  names_now =
      y.names ∙ ap (λ l. see l (take (stop - start) (drop start t))) h.names ∙ ap (see (sights x.names [])) e
      ∙ sym (sights_one x.names b [])

  in_names : member b (sights (x.names ++ (b ∷ [])) []) ≡ true
  in_names = ap (member b) (sights_one x.names b []) ∙ see_self (sights x.names []) b

  few_names : length (sights (x.names ++ (b ∷ [])) []) ≤ n
  few_names = omega (arith, h.text.few, grown_length (ahead_grown a))

  count_now : r ≡ length (sights (x.names ++ (b ∷ [])) [])
  count_now = sym (names_length t v n r) ∙ ap length names_now

  pub atom_index : atom ≡ index (sights (x.names ++ (b ∷ [])) []) b
  atom_index = y.atom_is ∙ ap (index (names_of t v n r)) e ∙ ap (λ l. index l b) names_now

  pub atom_final : atom ≡ atom_of x.of b
  unfolding atom_of
  atom_final = atom_index ∙ sym (grown_index (ahead_grown a) b in_names)

  pub atom_free : atom < n
  atom_free = omega (arith, atom_index, index_lt b (sights (x.names ++ (b ∷ [])) []) in_names, few_names)

  column_now : (c : ℕ) (f : List ℕ → ℕ) → c < 2 → Column w n c (sights x.names []) f → Column v n c (sights (x.names ++ (b ∷ [])) []) f
  column_now c f k z =
      let q : sights (x.names ++ (b ∷ [])) [] ≡ see (sights x.names []) b = sights_one x.names b [] in
      rw q
      (column_see b (λ i g. y.symbols i c (omega (arith, progress_count h)) (omega arith) (λ p. omega (arith, p)))
      (λ i g l. y.blank i c (omega (arith, progress_count h)) (omega (arith, count_now, ap length q)) (omega arith) (λ p. omega (arith, p))) z)

  -- the words of a new name are 0, as those of the names before it
  blank_now : Blank v n r
  blank_now =
      record {
        symbols = λ i c g k l.
            split (ltb i m)
            (λ p. let u : i < m = ltb-true i m p in y.symbols i c u l (λ s. omega (arith, s)) ∙ h.blank.symbols i c u k l)
            (λ p. let u : m ≤ i = ltb-false i m p in y.blank i c u g l (λ s. omega (arith, s)));
      }

  pub progress_intern : Progress t v n (seen x b) r
  progress_intern =
      record {
        shape = shape_kept y.only.len (λ s c g k d. y.only.below (statement_cell s c) (omega (arith, h.shape.few))) h.shape;
        text = h.text;
        labels = labels_kept (λ s g. y.only.below (statement_cell s 2) (omega (arith, h.shape.few))) h.labels;
        maths = maths_kept (λ i. y.only.above (math_cell n i) (omega arith)) h.maths;
        spans = record {
          room = omega (arith, h.spans.room, y.only.len);
          small = h.spans.small;
          short = h.spans.short;
          rows = omega (arith, count_now, few_names);
          start_stop = y.start_stop;
          within = y.within;
        };
        names = names_now;
        owners = column_now 0 (owner_by x.bearers) (omega arith) h.owners;
        globals = column_now 1 (global_by x.declared) (omega arith) h.globals;
        linked = y.linked;
        blank = blank_now;
      }

-- ---- an atom for the next math token
abbrev pub math_more : Done → Done
math_more x =
    record {
      of = x.of;
      labels = x.labels;
      maths = x.maths + 1;
      names = x.names;
      bearers = x.bearers;
      declared = x.declared;
    }

-- the tokens of one row are one
at_row : (l : List Statement) (s i : ℕ) → s < length l → i < length (stmt l s).math → get_or (gather (λ x. x.math) l) (before l s + i) no_token ≡ token (stmt l s) i
unfolding before stmt
at_row l s i g k = gather_at (λ x. x.math) l no_statement s g no_token i k

module _ {t w : List ℕ} {n m : ℕ} {x : Done} (h : Progress t w n x m) {s i u : ℕ} (g : s < length x.of) (k : i < length (stmt x.of s).math) (p : x.maths ≡ before x.of s + i) (e : u ≡ atom_of x.of (token (stmt x.of s) i).bytes) where
  math_set : Only (math_cell n x.maths) (math_cell n x.maths + 1) w (set w (math_cell n x.maths) u)
  math_set = only_set (math_cell n x.maths) (math_cell n x.maths + 1) w (math_cell n x.maths) u (omega arith) (omega arith)

  math_done : (r j : ℕ) → r < length x.of → j < length (stmt x.of r).math → before x.of r + j < x.maths + 1 → word (set w (math_cell n x.maths) u) (math_cell n (before x.of r + j)) ≡ atom_of x.of (token (stmt x.of r) j).bytes
  math_done r j a b c =
      split (eqb (before x.of r + j) x.maths)
      (λ q. let d : before x.of r + j ≡ x.maths = eqb-true _ _ q in
      let z : token (stmt x.of s) i ≡ token (stmt x.of r) j =
      sym (at_row x.of s i g k) ∙ ap (λ y. get_or (gather (λ x. x.math) x.of) y no_token) (sym p ∙ sym d) ∙ at_row x.of r j a b in
      ap (λ y. word (set w (math_cell n x.maths) u) (math_cell n y)) d
      ∙ word_same w (math_cell n x.maths) u (omega (arith, p, h.shape.room, math_row h.shape s i g k))
      ∙ e ∙ ap (λ y. atom_of x.of y.bytes) z)
      (λ q. let d : before x.of r + j ≢ x.maths = eqb_ne q in
      word_other w (math_cell n x.maths) (math_cell n (before x.of r + j)) u (λ z. d (omega (arith, z)))
      ∙ h.maths.done r j a b (omega (arith, d)))

  pub progress_math : Progress t (set w (math_cell n x.maths) u) n (math_more x) m
  progress_math =
      record {
        shape = shape_kept math_set.len (λ r c a b d. math_set.below (statement_cell r c) (omega (arith, h.shape.few))) h.shape;
        text = h.text;
        labels = labels_kept (λ r a. math_set.below (statement_cell r 2) (omega (arith, h.shape.few))) h.labels;
        maths = record {
          done = math_done;
          left = λ r j a b c.
              word_other w (math_cell n x.maths) (math_cell n (before x.of r + j)) u (λ z. omega (arith, z))
              ∙ h.maths.left r j a b (omega arith);
        };
        spans = spans_kept math_set.len (λ a c b d. math_set.below (name_cell n a c) (omega (arith, h.spans.rows))) h.spans;
        names = names_kept t w (set w (math_cell n x.maths) u) n m (λ a c b d. math_set.below (name_cell n a c) (omega (arith, h.spans.rows))) ∙ h.names;
        owners = column_kept (omega (arith, progress_count h, h.spans.rows)) (λ a b. math_set.below (symbol_cell n a 0) (omega arith)) h.owners;
        globals = column_kept (omega (arith, progress_count h, h.spans.rows)) (λ a b. math_set.below (symbol_cell n a 1) (omega arith)) h.globals;
        linked = links_kept h (λ a c b d. math_set.below (name_cell n a c) (omega arith)) (λ a b. math_set.below (bucket_cell n a) (omega arith)) (λ a b. math_set.below (symbol_cell n a 2) (omega arith));
        blank = blank_kept (λ a c b d f. math_set.below (symbol_cell n a c) (omega (arith, h.spans.rows))) h.blank;
      }

-- ---- an atom for the next label
abbrev pub label_more : Done → Done
label_more x =
    record {
      of = x.of;
      labels = x.labels + 1;
      maths = x.maths;
      names = x.names;
      bearers = x.bearers;
      declared = x.declared;
    }

pub progress_unlabelled : {t w : List ℕ} {n m : ℕ} {x : Done} → Progress t w n x m → labelled (stmt x.of x.labels).kind ≡ false → Progress t w n (label_more x) m
progress_unlabelled {w = w} {x = x} h e =
    record {
      shape = h.shape;
      text = h.text;
      labels = record { done = done; left = λ s a b. h.labels.left s (omega arith) b };
      maths = h.maths;
      spans = h.spans;
      names = h.names;
      owners = h.owners;
      globals = h.globals;
      linked = h.linked;
      blank = h.blank;
    }
  where
    done : (s : ℕ) → s < x.labels + 1 → s < length x.of → labelled (stmt x.of s).kind ≡ true → word w (statement_cell s 2) ≡ atom_of x.of (stmt x.of s).label
    done s a b f =
        split (eqb s x.labels)
        (λ q. absurd (clash (sym f ∙ ap (λ r. labelled (stmt x.of r).kind) (eqb-true _ _ q) ∙ e)))
        (λ q. let d : s ≢ x.labels = eqb_ne q in h.labels.done s (omega (arith, d)) b f)

module _ {t w : List ℕ} {n m : ℕ} {x : Done} (h : Progress t w n x m) {u : ℕ} (g : x.labels < length x.of) (e : u ≡ atom_of x.of (stmt x.of x.labels).label) where
  label_set : Only (statement_cell x.labels 2) (statement_cell x.labels 3) w (set w (statement_cell x.labels 2) u)
  label_set =
      only_set (statement_cell x.labels 2) (statement_cell x.labels 3) w (statement_cell x.labels 2) u (omega arith) (omega arith)

  label_done : (s : ℕ) → s < x.labels + 1 → s < length x.of → labelled (stmt x.of s).kind ≡ true → word (set w (statement_cell x.labels 2) u) (statement_cell s 2) ≡ atom_of x.of (stmt x.of s).label
  label_done s a b f =
      split (eqb s x.labels)
      (λ q. let d : s ≡ x.labels = eqb-true _ _ q in
      ap (λ r. word (set w (statement_cell x.labels 2) u) (statement_cell r 2)) d
      ∙ word_same w (statement_cell x.labels 2) u (omega (arith, h.shape.room, h.shape.few))
      ∙ e ∙ ap (λ r. atom_of x.of (stmt x.of r).label) (sym d))
      (λ q. let d : s ≢ x.labels = eqb_ne q in
      word_other w (statement_cell x.labels 2) (statement_cell s 2) u (λ z. d (omega (arith, z)))
      ∙ h.labels.done s (omega (arith, d)) b f)

  pub progress_label : Progress t (set w (statement_cell x.labels 2) u) n (label_more x) m
  progress_label =
      record {
        shape = shape_kept label_set.len
            (λ r c a b d. word_other w (statement_cell x.labels 2) (statement_cell r c) u (λ z. d (omega (arith, z)))) h.shape;
        text = h.text;
        labels = record {
          done = label_done;
          left = λ s a b.
              word_other w (statement_cell x.labels 2) (statement_cell s 2) u (λ z. omega (arith, z))
              ∙ h.labels.left s (omega arith) b;
        };
        maths = maths_kept (λ i. label_set.above (math_cell n i) (omega (arith, h.shape.few))) h.maths;
        spans = spans_kept label_set.len (λ a c b d. label_set.above (name_cell n a c) (omega (arith, h.shape.few))) h.spans;
        names = names_kept t w (set w (statement_cell x.labels 2) u) n m (λ a c b d. label_set.above (name_cell n a c) (omega (arith, h.shape.few))) ∙ h.names;
        owners = column_kept (omega (arith, progress_count h, h.spans.rows)) (λ a b. label_set.above (symbol_cell n a 0) (omega (arith, h.shape.few))) h.owners;
        globals = column_kept (omega (arith, progress_count h, h.spans.rows)) (λ a b. label_set.above (symbol_cell n a 1) (omega (arith, h.shape.few))) h.globals;
        linked = links_kept h (λ a c b d. label_set.above (name_cell n a c) (omega (arith, h.shape.few))) (λ a b. label_set.above (bucket_cell n a) (omega (arith, h.shape.few))) (λ a b. label_set.above (symbol_cell n a 2) (omega (arith, h.shape.few)));
        blank = blank_kept (λ a c b d f. label_set.above (symbol_cell n a c) (omega (arith, h.shape.few))) h.blank;
      }
