-- A statement from its keyword on: its math string, what closes it, its proof; the state after it.
-- Assumes nothing.
use mathlib.Core.Path.{◌≡◌, refl, sym, ap, ◌∙◌}
use Rattle.std.specs.Prelude.{Option, Some, None, Result, Ok, Err}
use mathlib.Core.Bool.{false}
use mathlib.Core.List.{List, [], ◌∷◌, ◌++◌, append-nil}
use Prim.Native.Nat.{ℕ, ◌+◌, ◌<◌, ◌≤◌}
use native.Mathlib.Nat.{zero-add}
use native.Mathlib.Omega.{arith}
use lib.Dec.{leb, ltb}
use lib.ListN.{length}
use borrow.Author.Tests.{lt-ltb, leb-true}
use Rattle.paper.specs.Base.{choose, and, sameb}
use Rattle.paper.specs.Tokens.{Token, key, math_token}
use Rattle.paper.specs.Statements.{Kind, $c, $v, $d, $f, $e, $a, $p, Item}
use Rattle.paper.specs.Reader.{Mode, start, math, proof, Step, go, stop, room, least, closing, statement, closed, allow, with_items, refused, finish}
use Rattle.paper.specs.declared.Refused.{Refused}
use Rattle.paper.specs.declared.Refusal.TheVariants.{BadToken, OpenText}
use Rattle.paper.proofs.Tests.{split}
use Rattle.token.specs.Words.{tokens_from, token_of, Lined}
use Rattle.token.specs.declared.cursor.Span.{Span}
use Rattle.token.specs.declared.cursor.Cursor.{Cursor}
use Rattle.token.proofs.Counts.{few_tokens}
use Rattle.reader.specs.Rows.{kind_number}
use Rattle.reader.specs.Passed.{Reached, Shows, RefusedAt, Refuses, Seen}
use Rattle.reader.specs.Kinds.{kind_of, number_of, least_number, most_number, closing_number}
use Rattle.reader.specs.declared.kind.Kind as told
use Rattle.reader.specs.declared.kind.Kind.TheVariants.{P}
use Rattle.reader.specs.Runs.{RunRoom, Running, Ran, Proved, closing_of}
use Rattle.reader.specs.Kept.{with_row, RowRoom, next_state}
use Rattle.reader.specs.Held.{Held, Begun, Stated}
use Rattle.reader.specs.declared.run.Run.{Run}
use Rattle.reader.specs.declared.state.State.{State}
use Rattle.reader.specs.declared.state.Head.{Head}
use Rattle.reader.proofs.Passes.{passed_few}
use Rattle.reader.proofs.Grammar.{many_math, many_proof, reached_run, reached_token, reached_few, refuse_token, reach_end}
use Rattle.reader.proofs.Keeping.{words_statement}

-- ---- kinds
number_is : (k : Kind) → number_of (kind_of k) ≡ kind_number k
number_is $c = refl
number_is $v = refl
number_is $d = refl
number_is $f = refl
number_is $e = refl
number_is $a = refl
number_is $p = refl

least_is : (k : Kind) → least_number (kind_of k) ≡ least k
least_is $c = refl
least_is $v = refl
least_is $d = refl
least_is $f = refl
least_is $e = refl
least_is $a = refl
least_is $p = refl

closing_is : (k : Kind) → closing_number (kind_of k) ≡ closing k
closing_is $c = refl
closing_is $v = refl
closing_is $d = refl
closing_is $f = refl
closing_is $e = refl
closing_is $a = refl
closing_is $p = refl

-- no text has so many math tokens that another kind than `$f` runs out of room
room_is : (k : Kind) (c : ℕ) → c < 16777217 → room k c ≡ ltb c (most_number (kind_of k))
room_is $c c h = sym (lt-ltb c 16777217 h)
room_is $v c h = sym (lt-ltb c 16777217 h)
room_is $d c h = sym (lt-ltb c 16777217 h)
room_is $f c h = refl
room_is $e c h = sym (lt-ltb c 16777217 h)
room_is $a c h = sym (lt-ltb c 16777217 h)
room_is $p c h = sym (lt-ltb c 16777217 h)

least_some : (k : Kind) → 1 ≤ least k
least_some $c = omega arith
least_some $v = omega arith
least_some $d = omega arith
least_some $f = omega arith
least_some $e = omega arith
least_some $a = omega arith
least_some $p = omega arith

pub proof_kind : (k : Kind) → kind_number k ≡ 7 → k ≡ $p
proof_kind $c h = absurd (omega (arith, h))
proof_kind $v h = absurd (omega (arith, h))
proof_kind $d h = absurd (omega (arith, h))
proof_kind $f h = absurd (omega (arith, h))
proof_kind $e h = absurd (omega (arith, h))
proof_kind $a h = absurd (omega (arith, h))
proof_kind $p h = refl

closed_plain : (k : Kind) → (kind_of k ≡ P → ⊥) → (d o : ℕ) (n : List ℕ) (m : List Token) → closed k d o n m ≡ go start d (statement k o n m [])
closed_plain $c h d o n m = refl
closed_plain $v h d o n m = refl
closed_plain $d h d o n m = refl
closed_plain $f h d o n m = refl
closed_plain $e h d o n m = refl
closed_plain $a h d o n m = refl
closed_plain $p h d o n m = absurd (h refl)

-- ---- what closes a run, where the grammar asks for a keyword after enough tokens
module _ {t : List ℕ} {e c d : ℕ} {m : Mode} {i : List Item} (r : Reached t e c (go m d i)) (v : Result (Option (Span × Cursor)) Refused) (s : Seen t e v)
    (z : Step) (count few : ℕ) (k : List ℕ) (f : (n : ℕ) → finish m d i n ≡ refused (OpenText n))
    (a : (p : Span × Cursor) → v ≡ Ok (Some p) → allow m d (token_of t p.0) ≡ choose (and (sameb (token_of t p.0).bytes k) (leb few count)) z (stop p.0.start)) where
  before : {x : Span} {b : Cursor} → Shows t e x b → x.start < b.at
  before h = omega (arith, h.whole.some, h.stands)

  pub close_refused : (y : Refused) → Err y ≡ closing_of t v count few k → RefusedAt t y.refusal y.line
  close_refused y q = by v refl q
    where
      by : (u : Result (Option (Span × Cursor)) Refused) → v ≡ u → Err y ≡ closing_of t u count few k → RefusedAt t y.refusal y.line
      by (Ok None) p q =
          let n : y ≡ record { refusal = OpenText (length t); line = 0 } = cc in
          rw n (reach_end r (rw p at s) (length t) ∙ f (length t), refl)
      by (Err o) p q =
          let n : y ≡ o = cc in
          let h : Refuses t e o.refusal o.line = rw p at s in
          rw n (h.items_are r, h.line)
      by (Ok (Some x)) p q =
          split (and (sameb (token_of t x.0).bytes k) (leb few count))
          (λ b.
          let g : ◌≡◌ {A = Result Cursor Refused} (Err y) (Ok x.1) = q ∙ rw b in
          let w : ◌≡◌ {A = ℕ} 0 1 = cc in
          absurd (omega arith))
          (λ b.
          let g : ◌≡◌ {A = Result Cursor Refused} (Err y) (Err (record { refusal = BadToken x.0.start; line = x.0.line })) = q ∙ rw b in
          let n : y ≡ record { refusal = BadToken x.0.start; line = x.0.line } = cc in
          let h : Shows t e x.0 x.1 = rw p at s in
          rw n (refuse_token (reached_token {z = stop x.0.start} r h (a x p ∙ rw b)) (before h) (length t), h.whole.lined))

  pub close_at : (o : Cursor) → Ok o ≡ closing_of t v count few k
      → (length (tokens_from t o.at) < length (tokens_from t e)) × Reached t o.at (c + 1) (with_items i z) × (few ≤ count) × Lined t o
  close_at o q = by v refl q
    where
      by : (u : Result (Option (Span × Cursor)) Refused) → v ≡ u → Ok o ≡ closing_of t u count few k
          → (length (tokens_from t o.at) < length (tokens_from t e)) × Reached t o.at (c + 1) (with_items i z) × (few ≤ count) × Lined t o
      by (Ok None) p q = let w : ◌≡◌ {A = ℕ} 0 1 = cc in absurd (omega arith)
      by (Err f) p q = let w : ◌≡◌ {A = ℕ} 0 1 = cc in absurd (omega arith)
      by (Ok (Some y)) p q =
          split (sameb (token_of t y.0).bytes k)
          (λ b₁. split (leb few count)
          (λ b₂.
          let g : ◌≡◌ {A = Result Cursor Refused} (Ok o) (Ok y.1) = q ∙ rw (b₁, b₂) in
          let n : o ≡ y.1 = cc in
          let h : Shows t e y.0 y.1 = rw p at s in
          rw n (omega (arith, passed_few h.passed), reached_token {z = z} r h (a y p ∙ rw (b₁, b₂)), leb-true few count b₂, h.lined))
          (λ b₂.
          let g : ◌≡◌ {A = Result Cursor Refused} (Ok o) (Err (record { refusal = BadToken y.0.start; line = y.0.line })) = q ∙ rw (b₁, b₂) in
          let w : ◌≡◌ {A = ℕ} 0 1 = cc in
          absurd (omega arith)))
          (λ b₁.
          let g : ◌≡◌ {A = Result Cursor Refused} (Ok o) (Err (record { refusal = BadToken y.0.start; line = y.0.line })) = q ∙ rw b₁ in
          let w : ◌≡◌ {A = ℕ} 0 1 = cc in
          absurd (omega arith))

-- ---- what the functions ask, from what is known after the keyword
module _ {t w : List ℕ} {n : ℕ} {s : State} {kind : told.Kind} {h : Head} (b : Begun t w n s kind h) where
  small : n ≤ 16777217
  small = omega (arith, b.words.size, b.words.short, few_tokens t)

  pub run_room : RunRoom t w n h.from.at s.maths
  run_room =
      record {
        room = b.words.room;
        few = omega (arith, reached_few b.reached, b.words.size);
        small = small;
        short = b.words.short;
        within = b.within;
        gap = b.gap;
      }

  -- a run of one math token or more: its row, and the state after the statement
  module _ {u : List ℕ} {most to count : ℕ} (r : Running t w u n h.from.at most s.maths to count) (some : 1 ≤ count) {c : ℕ} where
    pub row_room : {e : ℕ} {z : Step} → Reached t e c z → s.rows + s.items + s.maths + 2 + count ≤ c → RowRoom u s h to count
    row_room q l =
        let f = reached_few q in
        let len = r.only.len in
        record {
          row = omega (arith, b.words.size, b.words.room, b.words.little, b.words.fewer);
          few = omega (arith, small, b.words.size);
          at = omega (arith, b.at, b.words.short);
          label = omega (arith, b.size, b.words.short);
          from = omega (arith, b.within, b.words.short);
          upto = omega (arith, r.within, b.words.short);
          maths = omega (arith, small, b.words.size);
          items = omega (arith, small, b.words.size);
        }

    pub kept_held : {e : Cursor} {v : List ℕ} {st : State} {m : ℕ} (ps : List Token)
        → Reached t e.at c (go start s.depth (b.found ++ statement b.kind h.at b.name r.ms ps))
        → s.rows + s.items + s.maths + 2 + count ≤ c
        → m ≡ number_of kind → v ≡ with_row u s.rows m h to s.maths count → st ≡ next_state s count e
        → length (tokens_from t e.at) < length (tokens_from t s.cursor.at)
        → Lined t e
        → Held t v n st × (length (tokens_from t st.cursor.at) < length (tokens_from t s.cursor.at))
    kept_held {e} {v} {st} {m} ps q l em ev es less line =
        let f = reached_few q in
        rw (ev, es) (
          record {
            found = b.found ++ statement b.kind h.at b.name r.ms ps;
            words = words_statement b.words m h b.kind b.name ps r some (em ∙ ap number_of b.code ∙ number_is b.kind) b.label b.bears
                (omega (arith, b.words.size, b.words.little, b.words.fewer)) (omega (arith, b.words.size)) (omega (arith, b.words.size));
            reached = record { seen = q.seen; passed = q.passed; step = q.step; size = omega (arith, q.size) };
            lined = line;
            deep = omega (arith, b.deep);
          },
          less,
        )

  -- the math string is read
  module _ {u : List ℕ} {run : Run} (r : Ran t w u n h.from.at (most_number kind) s.maths run) where
    ms : List Token
    ms = r.run.ms

    ran : Reached t run.stop.at (s.rows + s.items + s.maths + 1 + run.count) (go (math b.kind h.at b.name ms) s.depth b.found)
    unfolding ms
    ran =
        let k : run.count ≤ most_number (kind_of b.kind) = rw (ap most_number b.code) at r.run.upto in
        let c = r.run.counted in
        let few : run.count < 16777217 = omega (arith, passed_few r.run.passed, reached_few b.reached, b.words.size, small) in
        let q = reached_run b.reached r.run.passed
        (many_math r.run.ms [] b.kind h.at b.name s.depth b.found r.run.maths
        (λ j l. rw zero-add (room_is b.kind j (omega arith) ∙ lt-ltb j (most_number (kind_of b.kind)) (omega arith)))) in
        rw c at q

    allows : (x : Span × Cursor) → run.after ≡ Ok (Some x)
        → allow (math b.kind h.at b.name ms) s.depth (token_of t x.0)
        ≡ choose (and (sameb (token_of t x.0).bytes (36 ∷ closing_number kind ∷ [])) (leb (least_number kind) run.count))
        (closed b.kind s.depth h.at b.name ms) (stop x.0.start)
    unfolding ms allow key
    allows x p =
        let few : run.count < 16777217 = omega (arith, passed_few r.run.passed, reached_few b.reached, b.words.size, small) in
        let e : and (math_token (token_of t x.0)) (room b.kind (length r.run.ms)) ≡ false =
        rw (r.run.counted, room_is b.kind run.count few) (rw (p, ap most_number b.code) at r.ends) in
        let p₁ : closing_number kind ≡ closing b.kind = ap closing_number b.code ∙ closing_is b.kind in
        let p₂ : least_number kind ≡ least b.kind = ap least_number b.code ∙ least_is b.kind in
        rw (e, p₁, p₂, r.run.counted)

    pub body_refused : (y : Refused) → Err y ≡ closing_of t run.after run.count (least_number kind) (36 ∷ closing_number kind ∷ [])
        → RefusedAt t y.refusal y.line
    body_refused y q =
        close_refused ran run.after r.after _ run.count (least_number kind) (36 ∷ closing_number kind ∷ []) (λ n. refl) allows y q

    closed_at : (o : Cursor) → Ok o ≡ closing_of t run.after run.count (least_number kind) (36 ∷ closing_number kind ∷ [])
        → (length (tokens_from t o.at) < length (tokens_from t run.stop.at))
        × Reached t o.at (s.rows + s.items + s.maths + 1 + run.count + 1) (with_items b.found (closed b.kind s.depth h.at b.name ms))
        × (least_number kind ≤ run.count)
        × Lined t o
    closed_at o q =
        close_at ran run.after r.after (closed b.kind s.depth h.at b.name ms) run.count (least_number kind) (36 ∷ closing_number kind ∷ []) (λ n. refl) allows o q

    module _ (o : Cursor) (q : Ok o ≡ closing_of t run.after run.count (least_number kind) (36 ∷ closing_number kind ∷ [])) where
      pub body_some : 1 ≤ run.count
      body_some = omega (arith, (closed_at o q).2, ap least_number b.code, least_is b.kind, least_some b.kind)

      pub body_lined : Lined t o
      body_lined = (closed_at o q).3

      pub body_less : length (tokens_from t o.at) < length (tokens_from t s.cursor.at)
      body_less = omega (arith, b.less, passed_few r.run.passed, (closed_at o q).0)

      -- any kind but `$p` is done
      pub body_plain : (kind ≡ P → ⊥)
          → Reached t o.at (s.rows + s.items + s.maths + 2 + run.count) (go start s.depth (b.found ++ statement b.kind h.at b.name r.run.ms []))
      unfolding ms
      body_plain k =
          let e : closed b.kind s.depth h.at b.name r.run.ms ≡ go start s.depth (statement b.kind h.at b.name r.run.ms []) =
          closed_plain b.kind (λ z. k (b.code ∙ z)) s.depth h.at b.name r.run.ms in
          let c : s.rows + s.items + s.maths + 1 + run.count + 1 ≡ s.rows + s.items + s.maths + 2 + run.count = omega arith in
          rw (e, c) at (closed_at o q).1

      -- the proof of a `$p` follows
      pub body_proof : kind ≡ P → Stated t u n s h run.stop.at run.count o.at
      unfolding ms
      body_proof k =
          let p : b.kind ≡ $p = proof_kind b.kind (sym (number_is b.kind) ∙ ap number_of (sym b.code ∙ k)) in
          let e : closed b.kind s.depth h.at b.name r.run.ms ≡ go (proof h.at b.name r.run.ms []) s.depth [] =
          ap (λ y. closed y s.depth h.at b.name r.run.ms) p in
          let c : s.rows + s.items + s.maths + 1 + run.count + 1 ≡ s.rows + s.items + s.maths + 2 + run.count = omega arith in
          record {
            base = w;
            which = kind;
            begun = b;
            most = most_number kind;
            run = r.run;
            some = body_some;
            kind = p;
            reached = rw (e, append-nil, c) at (closed_at o q).1;
            less = body_less;
          }

-- ---- the proof of a `$p`
module _ {t u : List ℕ} {n : ℕ} {s : State} {h : Head} {to count at : ℕ} (d : Stated t u n s h to count at) {run : Run} (r : Proved t at run) where
  proved : Reached t run.stop.at (s.rows + s.items + s.maths + 2 + count + length r.run.ps) (go (proof h.at d.begun.name d.run.ms r.run.ps) s.depth d.begun.found)
  proved =
      reached_run d.reached r.run.passed
      (many_proof r.run.ps [] h.at d.begun.name d.run.ms s.depth d.begun.found r.run.maths)

  allows_proof : (x : Span × Cursor) → run.after ≡ Ok (Some x)
      → allow (proof h.at d.begun.name d.run.ms r.run.ps) s.depth (token_of t x.0)
      ≡ choose (and (sameb (token_of t x.0).bytes (36 ∷ 46 ∷ [])) (leb 1 run.count))
      (go start s.depth (statement $p h.at d.begun.name d.run.ms r.run.ps)) (stop x.0.start)
  unfolding allow key
  allows_proof x p =
      let e : math_token (token_of t x.0) ≡ false = rw p at r.ends in
      rw (e, r.run.some)

  pub proof_refused : (y : Refused) → Err y ≡ closing_of t run.after run.count 1 (36 ∷ 46 ∷ []) → RefusedAt t y.refusal y.line
  proof_refused y q = close_refused proved run.after r.after _ run.count 1 (36 ∷ 46 ∷ []) (λ n. refl) allows_proof y q

  module _ (o : Cursor) (q : Ok o ≡ closing_of t run.after run.count 1 (36 ∷ 46 ∷ [])) where
    shown : (length (tokens_from t o.at) < length (tokens_from t run.stop.at))
        × Reached t o.at (s.rows + s.items + s.maths + 2 + count + length r.run.ps + 1) (go start s.depth (d.begun.found ++ statement $p h.at d.begun.name d.run.ms r.run.ps))
        × (1 ≤ run.count)
        × Lined t o
    shown = close_at proved run.after r.after (go start s.depth (statement $p h.at d.begun.name d.run.ms r.run.ps)) run.count 1 (36 ∷ 46 ∷ []) (λ n. refl) allows_proof o q

    pub proof_room : RowRoom u s h to count
    proof_room = row_room d.begun d.run d.some shown.1 (omega arith)

    pub proof_held : {v : List ℕ} {st : State} {m : ℕ} → m ≡ 7 → v ≡ with_row u s.rows m h to s.maths count → st ≡ next_state s count o
        → Held t v n st × (length (tokens_from t st.cursor.at) < length (tokens_from t s.cursor.at))
    proof_held em ev es =
        let number : _ ≡ number_of d.which = em ∙ sym (ap number_of d.begun.code ∙ number_is d.begun.kind ∙ ap kind_number d.kind) in
        kept_held d.begun d.run d.some r.run.ps (rw (← d.kind) at shown.1) (omega arith) number ev es
        (omega (arith, d.less, passed_few r.run.passed, shown.0)) shown.3
