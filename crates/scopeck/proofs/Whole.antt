-- One statement with what is dropped before it and marked after it, and all statements one after the other.
-- Assumes nothing.
use mathlib.Core.Path.{◌≡◌, refl, sym, ap, ◌∙◌}
use mathlib.Core.Logic.{◌≢◌}
use mathlib.Core.List.{List, [], ◌∷◌, ◌++◌, append-nil}
use Prim.Native.Nat.{ℕ, ◌+◌, ◌-◌, ◌*◌, ◌<◌, ◌≤◌}
use native.Mathlib.Nat.{not-suc-le-zero}
use native.Mathlib.Numerals.{add-one}
use native.Mathlib.Omega.{arith}
use lib.Dec.{eqb}
use lib.ListN.{length, take, drop, set}
use borrow.Author.Tests.{eq-eqb, ne_eqb, eqb-true}
use Rattle.paper.specs.Base.{choose, gather, table}
use Rattle.paper.specs.Statements.{Statement}
use Rattle.paper.specs.Checks.{Diag}
use Rattle.paper.specs.Records.{diag_record, diag_records, diag_stream}
use Rattle.paper.proofs.Tests.{split, eqb_ne}
use Rattle.paper.proofs.Lists.{gather_append}
use Rattle.area.specs.Cells.{statement_cell, symbol_cell, word}
use Rattle.area.proofs.Laws.{word_same, word_other}
use Rattle.reader.specs.Rows.{stmt}
use Rattle.facts.specs.States.{given_at}
use Rattle.facts.proofs.States.{state_start, all_given_table}
use Rattle.history.specs.Accepted.{no_diags, accepted, rows_of}
use Rattle.nameck.specs.Atoms.{atoms}
use Rattle.stream.specs.Wrote.{Wrote}
use Rattle.stream.proofs.Wrote.{wrote_none, wrote_then, wrote_as}
use Rattle.slots.specs.Kept.{Room, Kept}
use Rattle.slots.specs.Stack.{pop_of, Deep}
use Rattle.slots.proofs.Kept.{kept_none, kept_then, kept_wide, kept_symbol, kept_statement, room_kept, named_kept}
use Rattle.slots.proofs.Slots.{nests_kept, nests_later, nests_none, floats_kept, floats_later, floats_none}
use Rattle.slots.proofs.Marks.{marks_kept}
use Rattle.slots.proofs.Stacks.{pop_le, stack_pop, stack_kept, stack_none}
use Rattle.checks.proofs.Found.{told_length}
use Rattle.scopeck.specs.declared.Scope.{Scope}
use Rattle.scopeck.specs.Scope.{part_of, Stands, Ready, Given, SomePart, GivesPart}
use Rattle.scopeck.specs.Fold.{SomeText, GivesText, accept_word, Marked, Before, SomeBefore, After, Steps, Forgotten, Blank, SomeBlank, Whole, SomeWhole, ChecksBlank, ChecksAll}

-- ---- a statement of any kind
pub part_is : (t w : List ℕ) (k : ℕ) {f e : ℕ} → f ≡ word w (statement_cell k 3) → e ≡ word w (statement_cell k 4) → take (e - f) (drop f t) ≡ part_of t w k
unfolding part_of
part_is t w k p q = rw (p, q)

pub some_part : {t w : List ℕ} {n : ℕ} {st : Scope} {k : ℕ} {q : List ℕ} → SomeText t w n st k → q ≡ part_of t w k → SomePart w q n st k
some_part {t} x e = record { text = t; of = x.of; holds = x.holds; part = e }

pub text_part : {t w v q out out' : List ℕ} {n : ℕ} {st s : Scope} {k : ℕ} → q ≡ part_of t w k → GivesPart w v q out out' n st s k → GivesText t w v out out' n st s k
text_part e x = record { sim = λ {l} b. x.sim b e }

-- ---- what is closed is dropped
module _ {t w : List ℕ} {n : ℕ} {l : List Statement} {st : Scope} {k : ℕ} (b : Before t w n l st k) where
  pub before_room : 3 * k + 3 ≤ n
  before_room = omega (arith, b.inside, b.named.shape.few)

  pub deep_ess : Deep w n 10 st.es
  deep_ess =
      record {
        room = b.room;
        column = omega arith;
        depth = omega (arith, before_room, b.stands.essentials);
        entry = λ i h. omega (arith, b.stands.ess.rows i h, before_room);
      }

  pub deep_dis : Deep w n 11 st.ds
  deep_dis =
      record {
        room = b.room;
        column = omega arith;
        depth = omega (arith, before_room, b.stands.disjoints);
        entry = λ i h. omega (arith, b.stands.dis.rows i h, before_room);
      }

  ends : (r : ℕ) → r < k → word w (statement_cell r 7) ≡ (stmt l r).end
  ends r h = b.named.shape.end r (omega (arith, b.inside))

  pub ready_of : {o es ds : ℕ} → o ≡ word w (statement_cell k 1) → es ≡ pop_of w 10 st.es o → ds ≡ pop_of w 11 st.ds o
      → Ready t w n l (record { es = es; ds = ds; diags = st.diags }) k
  ready_of {o} eo ee ed =
      let at : o ≡ (stmt l k).at = eo ∙ b.named.shape.at k b.inside in
      let s = b.stands in
      record {
        named = b.named;
        facts = b.facts;
        room = b.room;
        inside = b.inside;
        stands = record {
          nests = nests_later b.past s.nests;
          floats = floats_later b.past (omega arith) s.floats;
          marks = s.marks;
          ess = rw (ee, at) (stack_pop (stmt l k).at b.past ends s.ess);
          dis = rw (ed, at) (stack_pop (stmt l k).at b.past ends s.dis);
          essentials = omega (arith, ee, pop_le w 10 st.es o, s.essentials);
          disjoints = omega (arith, ed, pop_le w 11 st.ds o, s.disjoints);
          place = s.place;
        };
      }

-- ---- the mark of a statement
accept_is : {out out' : List ℕ} {p q : ℕ} (d : List Diag) → Wrote out out' p q (gather diag_record d) → accept_word p q ≡ choose (no_diags d) 1 0
accept_is {p = p} {q} [] w = rw (eq-eqb p q (omega (arith, w.place, told_length [])))
accept_is {p = p} {q} (x ∷ d) w = rw (ne_eqb p q (omega (arith, w.place, told_length (x ∷ d))))

module _ {t w v u out out' : List ℕ} {n : ℕ} {l : List Statement} {st s : Scope} {k : ℕ} {es ds : ℕ} (b : Before t w n l st k) (eu : u ≡ set v (statement_cell k 8) (accept_word st.diags s.diags))
    (g : Given w v out out' n l (record { es = es; ds = ds; diags = st.diags }) s k) where
  mark_kept : Kept n 8 9 7 7 v u
  mark_kept = rw eu (kept_statement n 8 9 v k 8 (accept_word st.diags s.diags) (before_room b) (omega arith) (omega arith) (omega arith))

  pub after_kept : Kept n 8 12 2 7 w u
  after_kept =
      kept_then (kept_wide 8 12 2 7 (omega arith) (omega arith) (omega arith) (omega arith) g.kept)
      (kept_wide 8 12 2 7 (omega arith) (omega arith) (omega arith) (omega arith) mark_kept)

  pub after_numbers : (a : ℕ) → a < n → word u (symbol_cell n a 5) ≡ word w (symbol_cell n a 5)
  after_numbers a h = mark_kept.left a 5 h (omega arith) (omega arith) ∙ g.numbers a h

  atoms_in : length (atoms l) ≤ n
  atoms_in = omega (arith, b.named.few)

  after_marked : Marked u l (k + 1)
  unfolding accepted
  after_marked i h =
      rw eu
      (split (eqb i k)
      (λ q.
      let z : i ≡ k = eqb-true i k q in
      rw z
      (word_same v (statement_cell k 8) (accept_word st.diags s.diags) (omega (arith, g.kept.len, b.room.room, before_room b))
      ∙ accept_is (given_at l k).diags g.told))
      (λ q.
      let z : i ≢ k = eqb_ne q in
      word_other v (statement_cell k 8) (statement_cell i 8) (accept_word st.diags s.diags) (λ e. omega (arith, e, z))
      ∙ g.kept.low i 8 (omega (arith, before_room b, z)) (omega arith) (omega arith)
      ∙ b.marked i (omega (arith, z))))

  pub after_of : After w u out out' n l st s k
  after_of =
      let x = g.stands in
      let m = mark_kept in
      record {
        stands = record {
          nests = nests_kept atoms_in (omega arith) m x.nests;
          floats = floats_kept {k = k + 1} atoms_in (omega (arith, before_room b)) (omega arith) (λ i h. m.left i 4 h (omega arith) (omega arith)) m x.floats;
          marks = marks_kept atoms_in (λ i h. m.left i 6 h (omega arith) (omega arith)) x.marks;
          ess = stack_kept (λ i h. m.high i 10 (omega (arith, before_room b, x.essentials)) (omega arith) (omega arith)) x.ess;
          dis = stack_kept (λ i h. m.high i 11 (omega (arith, before_room b, x.disjoints)) (omega arith) (omega arith)) x.dis;
          essentials = x.essentials;
          disjoints = x.disjoints;
          place = x.place;
        };
        marked = after_marked;
        told = g.told;
      }

pub steps_of : {t w v u out out' : List ℕ} {n : ℕ} {st s : Scope} {k o es ds : ℕ} → SomeBefore t w n st k → o ≡ word w (statement_cell k 1) → es ≡ pop_of w 10 st.es o → ds ≡ pop_of w 11 st.ds o
    → GivesText t w v out out' n (record { es = es; ds = ds; diags = st.diags }) s k → u ≡ set v (statement_cell k 8) (accept_word st.diags s.diags) → Steps t w u out out' n st s k
steps_of x eo ee ed g eu =
    record {
      kept = after_kept x.holds eu (g.sim (ready_of x.holds eo ee ed));
      numbers = after_numbers x.holds eu (g.sim (ready_of x.holds eo ee ed));
      sim = λ {l} b. after_of b eu (g.sim (ready_of b eo ee ed));
    }

-- ---- what is recorded for the names is taken away, name by name
pub forgotten_none : (w : List ℕ) (n : ℕ) → Forgotten w w n 0
forgotten_none w n =
    record {
      kept = kept_none n 12 12 3 5 w;
      ends = λ a h. absurd (not-suc-le-zero h);
      floats = λ a h. absurd (not-suc-le-zero h);
    }

pub forgotten_more : {w v u x : List ℕ} {n m : ℕ} → Room w n → m < n → Forgotten w v n m → u ≡ set v (symbol_cell n m 3) 0 → x ≡ set u (symbol_cell n m 4) 0 → Forgotten w x n (m + 1)
forgotten_more {w} {v} {u} {x} {n} {m} r h f eu ex =
    let k₁ : Kept n 12 12 3 4 v u = rw eu (kept_symbol n 3 4 v m 3 0 h (omega arith) (omega arith) (omega arith)) in
    let k₂ : Kept n 12 12 4 5 u x = rw ex (kept_symbol n 4 5 u m 4 0 h (omega arith) (omega arith) (omega arith)) in
    let room : 16 * n ≤ length v = omega (arith, r.room, f.kept.len) in
    record {
      kept =
          kept_then f.kept
          (kept_then (kept_wide 12 12 3 5 (omega arith) (omega arith) (omega arith) (omega arith) k₁)
          (kept_wide 12 12 3 5 (omega arith) (omega arith) (omega arith) (omega arith) k₂));
      ends = λ a l.
          k₂.left a 3 (omega arith) (omega arith) (omega arith)
          ∙ split (eqb a m)
          (λ q. let z : a ≡ m = eqb-true a m q in rw (z, eu) (word_same v (symbol_cell n m 3) 0 (omega arith)))
          (λ q.
          let z : a ≢ m = eqb_ne q in
          rw eu (word_other v (symbol_cell n m 3) (symbol_cell n a 3) 0 (λ e. omega (arith, e, z)) ∙ f.ends a (omega (arith, z))));
      floats = λ a l.
          split (eqb a m)
          (λ q. let z : a ≡ m = eqb-true a m q in rw (z, ex) (word_same u (symbol_cell n m 4) 0 (omega (arith, k₁.len))))
          (λ q.
          let z : a ≢ m = eqb_ne q in
          rw ex (word_other u (symbol_cell n m 4) (symbol_cell n a 4) 0 (λ e. omega (arith, e, z)))
          ∙ k₁.right a 4 (omega arith) (omega arith) (omega arith)
          ∙ f.floats a (omega (arith, z)));
    }

-- ---- all statements
pub record Far (w out₀ out : List ℕ) (n : ℕ) (l : List Statement) (st : Scope) (k : ℕ) : Type 0 where
  pub from : ℕ
  pub ahead : (j : ℕ) → k ≤ j → j < length l → from ≤ (stmt l j).at
  pub stands : Stands w n l st k from
  pub marked : Marked w l k
  pub told : Wrote out₀ out 0 st.diags (gather diag_records (table (given_at l) k))

pub record InvRows (t w₀ w out₀ out : List ℕ) (n rows : ℕ) (st : Scope) (k : ℕ) : Type 0 where
  pub kept : Kept n 8 12 2 7 w₀ w
  pub upto : k ≤ rows
  pub len : length out ≡ length out₀
  pub sim : {l : List Statement} → Blank t w₀ n rows l → Far w out₀ out n l st k

pub rows_start : {t w out : List ℕ} {n rows : ℕ} → InvRows t w w out out n rows (record { es = 0; ds = 0; diags = 0 }) 0
unfolding table gather rows_of
rows_start {w = w} {out} {n} =
    record {
      kept = kept_none n 8 12 2 7 w;
      upto = omega arith;
      len = refl;
      sim = λ {l} b.
          record {
            from = 0;
            ahead = λ j g h. omega arith;
            stands = record {
              nests = rw (state_start l) b.nests;
              floats = rw (state_start l) b.floats;
              marks = b.marks;
              ess = stack_none w 10 l;
              dis = stack_none w 11 l;
              essentials = omega arith;
              disjoints = omega arith;
              place = omega arith;
            };
            marked = λ s h. absurd (not-suc-le-zero h);
            told = wrote_none out 0;
          };
    }

pub before_of : {t w₀ w out₀ out : List ℕ} {n rows : ℕ} {l : List Statement} {st : Scope} {k : ℕ} → k < rows → InvRows t w₀ w out₀ out n rows st k → Blank t w₀ n rows l → Before t w n l st k
before_of {l = l} {k = k} h x b =
    let f = x.sim b in
    let i : k < length l = omega (arith, b.count) in
    record {
      named = named_kept (omega arith) (omega arith) x.kept b.named;
      facts = b.facts;
      room = room_kept x.kept b.room;
      inside = i;
      from = f.from;
      past = f.ahead k (omega arith) i;
      stands = f.stands;
      marked = f.marked;
    }

pub some_before : {t w₀ w out₀ out : List ℕ} {n rows : ℕ} {st : Scope} {k : ℕ} → k < rows → InvRows t w₀ w out₀ out n rows st k → SomeBlank t w₀ n rows → SomeBefore t w n st k
some_before h x b = record { of = b.of; holds = before_of h x b.holds }

given_more : (l : List Statement) (k : ℕ) → gather diag_records (table (given_at l) (k + 1)) ≡ gather diag_records (table (given_at l) k) ++ gather diag_record (given_at l k).diags
unfolding table diag_records gather
given_more l k =
    rw add-one
    (gather_append diag_records (table (given_at l) k) (given_at l k ∷ [])
    ∙ ap (λ (b : List ℕ). gather diag_records (table (given_at l) k) ++ b) (append-nil (gather diag_record (given_at l k).diags)))

pub rows_step : {t w₀ w v out₀ out out' : List ℕ} {n rows : ℕ} {st s : Scope} {k : ℕ} → k < rows → InvRows t w₀ w out₀ out n rows st k → Steps t w v out out' n st s k → length out' ≡ length out
    → InvRows t w₀ v out₀ out' n rows s (k + 1)
rows_step {k = k} h x y len =
    record {
      kept = kept_then x.kept y.kept;
      upto = omega arith;
      len = len ∙ x.len;
      sim = λ {l} b.
          let f = x.sim b in
          let a = y.sim (before_of h x b) in
          record {
            from = (stmt l k).at;
            ahead = λ j g i. omega (arith, b.facts.order k j (omega arith) i);
            stands = a.stands;
            marked = a.marked;
            told = wrote_as (wrote_then f.told a.told) (given_more l k);
          };
    }

pub rows_end : {t w₀ w out₀ out : List ℕ} {n rows : ℕ} {st : Scope} {k : ℕ} → rows ≤ k → InvRows t w₀ w out₀ out n rows st k → ChecksBlank t w₀ w out₀ out n rows st
unfolding diag_stream
rows_end {k = k} h x =
    record {
      kept = x.kept;
      sim = λ {l} b.
          let f = x.sim b in
          let e : k ≡ length l = omega (arith, x.upto, b.count) in
          record {
            diags = wrote_as f.told (ap (gather diag_records) (all_given_table l ∙ ap (table (given_at l)) (sym e)));
            marked = rw e at f.marked;
            marks = f.stands.marks;
          };
    }

-- ---- after what an earlier pass recorded is taken away
pub blank_of : {t w v : List ℕ} {n rows names : ℕ} {l : List Statement} → Forgotten w v n names → Whole t w n rows names l → Blank t v n rows l
blank_of {w = w} {v} {n} {names = names} {l} f b =
    record {
      named = named_kept (omega arith) (omega arith) f.kept b.named;
      facts = b.facts;
      room = room_kept f.kept b.room;
      count = b.count;
      nests = nests_none v n l (λ a h. f.ends a (omega (arith, b.atoms_are)));
      floats = floats_none v n l (λ a h. f.floats a (omega (arith, b.atoms_are)));
      marks = marks_kept (omega (arith, b.named.few)) (λ i h. f.kept.right i 6 h (omega arith) (omega arith)) b.marks;
    }

pub some_blank : {t w v : List ℕ} {n rows names : ℕ} → Forgotten w v n names → SomeWhole t w n rows names → SomeBlank t v n rows
some_blank f x = record { of = x.of; holds = blank_of f x.holds }

pub names_fit : {t w : List ℕ} {n rows names : ℕ} → SomeWhole t w n rows names → Room w n × (names ≤ n)
names_fit x = let b = x.holds in (b.room, omega (arith, b.atoms_are, b.named.few))

pub checks_all : {t w v u out out' : List ℕ} {n rows names : ℕ} {st : Scope} → Forgotten w v n names → ChecksBlank t v u out out' n rows st → ChecksAll t w u out out' n rows names st
checks_all f x =
    record {
      kept = kept_then (kept_wide 8 12 2 7 (omega arith) (omega arith) (omega arith) (omega arith) f.kept) x.kept;
      sim = λ {l} b. x.sim (blank_of f b);
    }
