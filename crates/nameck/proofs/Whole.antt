-- A whole statement, and all statements: from what the reader leaves to what naming must leave.
-- Assumes nothing.
use mathlib.Core.Path.{◌≡◌, refl, sym, ap, ◌∙◌}
use mathlib.Core.Bool.{Bool, true, false}
use mathlib.Core.List.{List, [], ◌∷◌, ◌++◌, map, append_assoc}
use Prim.Native.Nat.{ℕ, zero, suc, ◌+◌, ◌-◌, ◌<◌, ◌≤◌}
use native.Mathlib.Nat.{not-suc-le-zero}
use native.Mathlib.Omega.{arith}
use lib.Dec.{eqb, ltb}
use lib.ListN.{length, get_or, take, drop, length-append, get_or-append}
use lib.Seq.{take-length, get_or-append-add}
use borrow.Author.Tests.{ltb-true, ltb-false}
use Rattle.paper.specs.Base.{choose, find, gather}
use Rattle.paper.specs.Tokens.{Token, tokens}
use Rattle.paper.specs.Statements.{Kind, $c, $v, $d, $f, $e, $a, $p, Statement, none_end, outermost}
use Rattle.paper.specs.Names.{bearer, labels, owner, declared_by, declarations, declared, global}
use Rattle.paper.specs.Variables.{sights}
use Rattle.paper.proofs.Tests.{split}
use Rattle.paper.proofs.Gather.{map_append, gather_more, gather_parts, gather_upto}
use Rattle.area.specs.Cells.{statement_cell, symbol_cell, word}
use Rattle.token.specs.Words.{tokens_from}
use Rattle.token.proofs.Counts.{tokens_few}
use Rattle.reader.specs.Rows.{no_statement, stmt, before, kind_number}
use Rattle.nameck.specs.Atoms.{bytes_of, names_in, atoms, name_of}
use Rattle.nameck.specs.Named.{owner_word, global_word, Named, Fresh}
use Rattle.nameck.specs.Table.{name_at, names_of}
use Rattle.nameck.specs.Naming.{before_statement, with_label, declared_as, with_math, Column, owner_by, global_by, Progress, Ahead, AtMath, SomeMath, MathNamed, AtLabel, SomeLabel, LabelNamed, sort_of, declaring, SomeStatement, StatementNamed, Readable, SomeRead, AllNamed}
use Rattle.std.specs.Prelude.{Option, None}
use Rattle.nameck.specs.declared.naming.Sort.{Sort}
use Rattle.nameck.proofs.Atoms.{atoms_few}
use Rattle.nameck.proofs.Search.{names_length}
use Rattle.nameck.proofs.Links.{none_linked}
use Rattle.nameck.proofs.Progress.{progress_count}

-- ---- the kind that declares
declaring_by : (k : Kind) (b : Bool) (m : List Token) → declared_as (choose b (sort_of (kind_number k)) None) m ≡ choose b (declared_by k m) []
declaring_by $c true m = refl
declaring_by $c false m = refl
declaring_by $v true m = refl
declaring_by $v false m = refl
declaring_by $d true m = refl
declaring_by $d false m = refl
declaring_by $f true m = refl
declaring_by $f false m = refl
declaring_by $e true m = refl
declaring_by $e false m = refl
declaring_by $a true m = refl
declaring_by $a false m = refl
declaring_by $p true m = refl
declaring_by $p false m = refl

declares_all : (s : Statement) → declared_as (declaring (kind_number s.kind) s.end) s.math ≡ declarations s
unfolding declaring outermost
declares_all s = declaring_by s.kind (eqb s.end none_end) s.math

-- ---- one statement after those before it
module _ (l : List Statement) (s : ℕ) (h : s < length l) where
  names_more : gather names_in (take (s + 1) l) ≡ gather names_in (take s l) ++ names_in (stmt l s)
  unfolding stmt
  names_more = gather_more names_in l no_statement s h

  before_more : before l (s + 1) ≡ before l s + length (stmt l s).math
  unfolding before stmt
  before_more =
      ap length (gather_more (λ x. x.math) l no_statement s h)
      ∙ length-append (gather (λ x. x.math) (take s l)) (stmt l s).math

  labels_more : labels (take (s + 1) l) ≡ labels (take s l) ++ bearer (stmt l s)
  unfolding labels stmt
  labels_more = gather_more bearer l no_statement s h

  declared_more : declared (take (s + 1) l) ≡ declared (take s l) ++ declarations (stmt l s)
  unfolding declared stmt
  declared_more = gather_more declarations l no_statement s h

  names_all : gather names_in (take s l) ++ (names_in (stmt l s) ++ gather names_in (drop (suc s) l)) ≡ gather names_in l
  unfolding stmt
  names_all = gather_parts names_in l no_statement s h

  statement_done : (k : Option Sort) → k ≡ declaring (kind_number (stmt l s).kind) (stmt l s).end → with_math (with_label (before_statement l s) (stmt l s)) k (stmt l s).math ≡ before_statement l (s + 1)
  statement_done k e =
      let x = stmt l s in
      let a : before l s + length x.math ≡ before l (s + 1) = sym before_more in
      let b : (gather names_in (take s l) ++ map bytes_of (bearer x)) ++ map bytes_of x.math ≡ gather names_in (take (s + 1) l) =
      append_assoc (gather names_in (take s l)) (map bytes_of (bearer x)) (map bytes_of x.math)
      ∙ ap (λ r. gather names_in (take s l) ++ r) (sym (map_append bytes_of (bearer x) x.math))
      ∙ sym names_more in
      let c : labels (take s l) ++ bearer x ≡ labels (take (s + 1) l) = sym labels_more in
      let d : declared (take s l) ++ declared_as k x.math ≡ declared (take (s + 1) l) =
      ap (λ r. declared (take s l) ++ r) (ap (λ i. declared_as i x.math) e ∙ declares_all x) ∙ sym declared_more in
      rw (a, b, c, d)

  names_apart : gather names_in (take s l) ++ (map bytes_of (bearer (stmt l s)) ++ (map bytes_of (stmt l s).math ++ gather names_in (drop (suc s) l))) ≡ gather names_in l
  names_apart =
      let x = stmt l s in
      ap (λ r. gather names_in (take s l) ++ r)
      (sym (append_assoc (map bytes_of (bearer x)) (map bytes_of x.math) (gather names_in (drop (suc s) l)))
      ∙ ap (λ r. r ++ gather names_in (drop (suc s) l)) (sym (map_append bytes_of (bearer x) x.math)))
      ∙ names_all

  ahead_label : Ahead (before_statement l s) (map bytes_of (bearer (stmt l s)))
  ahead_label = record { rest = map bytes_of (stmt l s).math ++ gather names_in (drop (suc s) l); all = names_apart }

  ahead_math : Ahead (with_label (before_statement l s) (stmt l s)) (map bytes_of (stmt l s).math)
  ahead_math =
      let x = stmt l s in
      record {
        rest = gather names_in (drop (suc s) l);
        all = append_assoc (gather names_in (take s l)) (map bytes_of (bearer x)) (map bytes_of x.math ++ gather names_in (drop (suc s) l))
            ∙ names_apart;
      }

  at_label : {t w : List ℕ} {n m : ℕ} → Progress t w n (before_statement l s) m → AtLabel t w n s m (before_statement l s)
  at_label p = record { progress = p; statement = h; next = refl; ahead = ahead_label }

  at_math : {t q w : List ℕ} {n m : ℕ} {k : Option Sort} → Progress t w n (with_label (before_statement l s) (stmt l s)) m → q ≡ take (word w (statement_cell s 4) - word w (statement_cell s 3)) (drop (word w (statement_cell s 3)) t) → AtMath t q w n s k m (with_label (before_statement l s) (stmt l s))
  at_math p e = record { progress = p; statement = h; next = refl; part = e; ahead = ahead_math }

-- ---- the label and then the math tokens
pub statement_label : {t w : List ℕ} {n s m : ℕ} → SomeStatement t w n s m → SomeLabel t w n s m
statement_label {s = s} a =
    record { done = before_statement a.of s; holds = at_label a.of s a.here a.progress }

module _ {t w u : List ℕ} {n s m r : ℕ} (y : LabelNamed t w u n s m r) where
  labelled_so : (l : List Statement) → s < length l → Progress t w n (before_statement l s) m → Progress t u n (with_label (before_statement l s) (stmt l s)) r
  labelled_so l h p = y.sim (before_statement l s) (at_label l s h p)

  pub statement_order : {e f : ℕ} → e ≡ statement_cell s 3 → f ≡ statement_cell s 4 → SomeStatement t w n s m → get_or u e 0 ≤ get_or u f 0
  unfolding word
  statement_order pe pf a = rw (pe, pf) ((labelled_so a.of a.here a.progress).shape.from_to s a.here)

  pub statement_within : {f : ℕ} → f ≡ statement_cell s 4 → SomeStatement t w n s m → get_or u f 0 ≤ length t
  unfolding word
  statement_within pf a = rw pf ((labelled_so a.of a.here a.progress).shape.within s a.here)

  pub statement_math : {q : List ℕ} {i j e f : ℕ} {k : Option Sort} → i ≡ statement_cell s 0 → j ≡ statement_cell s 7 → k ≡ declaring (get_or u i 0) (get_or u j 0) → e ≡ statement_cell s 3 → f ≡ statement_cell s 4 → q ≡ take (get_or u f 0 - get_or u e 0) (drop (get_or u e 0) t) → SomeStatement t w n s m → SomeMath t q u n s k r
  unfolding word
  statement_math {q} {i} {j} {e} {f} {k} pi pj pk pe pf pq a =
      record {
        done = with_label (before_statement a.of s) (stmt a.of s);
        holds = at_math a.of s a.here (labelled_so a.of a.here a.progress) (pq ∙ rw (pe, pf));
      }

  pub statement_named : {q v : List ℕ} {i j e f c : ℕ} {k : Option Sort} → i ≡ statement_cell s 0 → j ≡ statement_cell s 7 → k ≡ declaring (get_or u i 0) (get_or u j 0) → e ≡ statement_cell s 3 → f ≡ statement_cell s 4 → q ≡ take (get_or u f 0 - get_or u e 0) (drop (get_or u e 0) t) → MathNamed t q u v n s k r c → StatementNamed t w v n s m c
  unfolding word
  statement_named {q} {v} {i} {j} {e} {f} {c} {k} pi pj pk pe pf pq z = record { sim = λ l h p. whole l h p }
    where
      whole : (l : List Statement) → s < length l → Progress t w n (before_statement l s) m → Progress t v n (before_statement l (s + 1)) c
      whole l h p =
          let x = labelled_so l h p in
          let d : k ≡ declaring (kind_number (stmt l s).kind) (stmt l s).end =
          pk ∙ rw (pi, pj, x.shape.kind s h, x.shape.end s h) in
          rw (← (statement_done l s h k d))
          (z.sim (with_label (before_statement l s) (stmt l s)) (at_math l s h x (pq ∙ rw (pe, pf))))

-- ---- at the start nothing is named
module _ {t w : List ℕ} {n rows : ℕ} {l : List Statement} (h : Readable t w n rows l) where
  few_tokens : length (tokens t) ≤ length t
  unfolding tokens tokens_from
  few_tokens = omega (arith, tokens_few t 0)

  empty_column : (c : ℕ) (f : List ℕ → ℕ) → ((y : List ℕ) → f y ≡ 0) → Column w n c [] f
  empty_column c f z = record { holds = λ a g. absurd (not-suc-le-zero g); unseen = λ y e. z y }

  begin : Progress t w n (before_statement l 0) 0
  unfolding before gather names_of sights labels declared find
  begin =
      let r = h.rows_of in
      record {
        shape = r.shape;
        text = record {
          few = omega (arith, atoms_few l, h.facts.counted, r.shape.rows);
          small = omega (arith, r.shape.rows, r.shape.short, few_tokens);
          bears = r.bears;
          stands = r.stands;
        };
        labels = record { done = λ s g b e. absurd (not-suc-le-zero g); left = λ s g b. r.label s b };
        maths = record { done = λ s i g k b. absurd (not-suc-le-zero b); left = λ s i g k b. r.math s i g k };
        spans = record {
          room = r.shape.room;
          small = omega (arith, r.shape.rows, r.shape.short, few_tokens);
          short = r.shape.short;
          rows = omega arith;
          start_stop = λ a g. absurd (not-suc-le-zero g);
          within = λ a g. absurd (not-suc-le-zero g);
        };
        names = refl;
        owners = empty_column 0 _ (λ y. refl);
        globals = empty_column 1 _ (λ y. refl);
        linked = none_linked r.buckets;
        blank = record { symbols = λ a c g. absurd (not-suc-le-zero g) };
      }

-- ---- at the end all are
name_in_row : (t w : List ℕ) (n m a : ℕ) → a < m → get_or (names_of t w n m) a [] ≡ name_at t w n a
unfolding names_of
name_in_row t w n zero a h = absurd (not-suc-le-zero h)
name_in_row t w n (suc m) a h =
    split (ltb a m)
    (λ q. let b : a < m = ltb-true _ _ q in
    get_or-append (names_of t w n m) (name_at t w n m ∷ []) [] a (omega (arith, names_length t w n m)) ∙ name_in_row t w n m a b)
    (λ q. let b : a ≡ m = omega (arith, ltb-false a m q, h) in
    let e : a ≡ length (names_of t w n m) + 0 = omega (arith, names_length t w n m) in
    ap (λ i. get_or (names_of t w n m ++ (name_at t w n m ∷ [])) i []) e
    ∙ get_or-append-add (names_of t w n m) (name_at t w n m ∷ []) 0 []
    ∙ ap (name_at t w n) (sym b))

module _ {t w : List ℕ} {n m : ℕ} {l : List Statement} (h : Progress t w n (before_statement l (length l)) m) where
  all_names : sights (gather names_in (take (length l) l)) [] ≡ atoms l
  unfolding atoms
  all_names = ap (λ r. sights (gather names_in r) []) (take-length l)

  count_all : m ≡ length (atoms l)
  count_all = progress_count h ∙ ap length all_names

  name_is : (a : ℕ) → a < length (atoms l) → name_at t w n a ≡ name_of l a
  unfolding name_of
  name_is a g =
      sym (name_in_row t w n m a (omega (arith, count_all)))
      ∙ ap (λ r. get_or r a []) (h.names ∙ all_names)

  column_all : (c : ℕ) (f : List ℕ → ℕ) → Column w n c (sights (gather names_in (take (length l) l)) []) f → (a : ℕ) → a < length (atoms l) → word w (symbol_cell n a c) ≡ f (name_of l a)
  unfolding name_of
  column_all c f k a g = let z : Column w n c (atoms l) f = rw all_names at k in z.holds a g

  owner_all : (y : List ℕ) → owner_by (labels (take (length l) l)) y ≡ owner_word (owner l y)
  unfolding owner
  owner_all y = ap (λ r. owner_by (labels r) y) (take-length l)

  global_all : (y : List ℕ) → global_by (declared (take (length l) l)) y ≡ global_word (global l y)
  unfolding global
  global_all y = ap (λ r. global_by (declared r) y) (take-length l)

  math_before : (s i : ℕ) → s < length l → i < length (stmt l s).math → before l s + i < before l (length l)
  unfolding before stmt
  math_before s i g k =
      omega (
        arith,
        gather_upto (λ x. x.math) l no_statement s g,
        ap (λ (r : List Statement). length (gather (λ x. x.math) r)) (take-length l),
      )

  end_named : Named t w n l
  unfolding name_at
  end_named =
      record {
        shape = h.shape;
        few = h.text.few;
        label = λ s g e. h.labels.done s g g e;
        math = λ s i g k. h.maths.done s i g k (math_before s i g k);
        start_stop = λ a g. h.spans.start_stop a (omega (arith, count_all));
        within = λ a g. h.spans.within a (omega (arith, count_all));
        name = λ a g. name_is a g;
        owns = λ a g. column_all 0 (owner_by (labels (take (length l) l))) h.owners a g ∙ owner_all (name_of l a);
        declares = λ a g. column_all 1 (global_by (declared (take (length l) l))) h.globals a g ∙ global_all (name_of l a);
      }

  end_fresh : Fresh w n l
  end_fresh =
      record {
        symbols = λ a c g k b. h.blank.symbols a c (omega (arith, count_all)) k b;
      }

-- ---- the walk over the statements: s of them are named
pub record InvAll (t w₀ w : List ℕ) (n rows m s : ℕ) : Type 0 where
  pub len : length w ≡ length w₀
  pub sim : (l : List Statement) → Readable t w₀ n rows l → Progress t w n (before_statement l s) m

pub all_begin : (t w : List ℕ) (n rows : ℕ) → InvAll t w w n rows 0 0
all_begin t w n rows = record { len = refl; sim = λ l h. begin h }

module _ {t w₀ w : List ℕ} {n rows m s : ℕ} (v : InvAll t w₀ w n rows m s) (h : s < rows) where
  pub some_statement : SomeRead t w₀ n rows → SomeStatement t w n s m
  some_statement a =
      record { of = a.of; here = omega (arith, a.holds.count); progress = v.sim a.of a.holds }

  pub all_step : {u : List ℕ} {r : ℕ} → StatementNamed t w u n s m r → length u ≡ length w → InvAll t w₀ u n rows r (s + 1)
  all_step y e =
      record {
        len = e ∙ v.len;
        sim = λ l a. y.sim l (omega (arith, a.count)) (v.sim l a);
      }

pub all_end : {t w₀ w : List ℕ} {n rows m s : ℕ} → InvAll t w₀ w n rows m s → s ≡ rows → AllNamed t w₀ w n rows m
all_end {t} {w₀} {w} {n} {rows} {m} {s} v e =
    record {
      count = λ l a. count_all (last l a);
      named = λ l a. end_named (last l a);
      fresh = λ l a. end_fresh (last l a);
    }
  where
    last : (l : List Statement) → Readable t w₀ n rows l → Progress t w n (before_statement l (length l)) m
    last l a = let q : s ≡ length l = omega (arith, a.count) in rw q at (v.sim l a)
