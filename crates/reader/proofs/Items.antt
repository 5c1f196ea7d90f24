-- One item: a label and its keyword, a plain keyword, `${`, `$}`, or a token that the grammar does not allow.
-- Assumes nothing.
use mathlib.Core.Path.{◌≡◌, refl, sym, ap, ◌∙◌}
use Rattle.std.specs.Prelude.{Some, None}
use Rattle.std.specs.Prelude as found
use mathlib.Core.Bool.{true, false}
use mathlib.Core.List.{List, [], ◌∷◌, ◌++◌, append-nil}
use mathlib.Core.Option.{Option, none, some}
use Prim.Native.Nat.{ℕ, zero, suc, ◌+◌, ◌-◌, ◌<◌, ◌≤◌}
use native.Mathlib.Nat.{not-suc-le-zero}
use native.Mathlib.Omega.{arith}
use lib.ListN.{length, take, drop, set, length-drop}
use lib.Seq.{length-take-le}
use borrow.Author.Tests.{le-leb, lt-leb}
use Rattle.paper.specs.Tokens.{Token, key, label_token}
use Rattle.paper.specs.Comments.{outside}
use Rattle.paper.specs.Statements.{Kind, $c, $v, $d, labelled, opens, closes}
use Rattle.paper.specs.Reader.{start, named, math, Step, go, stop, plain_kind, label_kind, shut, begin, keyword}
use Rattle.paper.specs.declared.Refusal.{Refusal}
use Rattle.paper.specs.declared.Refusal.TheVariants.{BadToken, OpenText}
use Rattle.paper.proofs.Tests.{split, by_option, clash}
use Rattle.area.specs.Cells.{bucket_cell}
use Rattle.token.specs.Words.{tokens_from, token_of}
use Rattle.token.specs.declared.cursor.Span.{Span}
use Rattle.token.specs.declared.cursor.Cursor.{Cursor}
use Rattle.token.proofs.Counts.{few_tokens}
use Rattle.reader.specs.Passed.{Passed, Reached, Shows, RefusedAt, Refuses}
use Rattle.reader.specs.Kinds.{code}
use Rattle.reader.specs.declared.kind.Kind as told
use Rattle.reader.specs.Kept.{EventRoom, opened, shut_one}
use Rattle.reader.specs.Held.{Held, Begun}
use Rattle.reader.specs.declared.state.State.{State}
use Rattle.reader.proofs.Passes.{passed_few, shows_gap, shows_within}
use Rattle.reader.proofs.Runs.{stands_span}
use Rattle.reader.proofs.Grammar.{reached_token, reached_few, refuse_token, reach_end, allow_label, allow_open, allow_close, allow_begin, allow_named}
use Rattle.reader.proofs.Keeping.{words_bracket}

-- ---- a keyword's kind, or none
code_none : (o : Option Kind) → None ≡ code o → o ≡ none
code_none none h = refl
code_none (some k) h = let z : ◌≡◌ {A = ℕ} 0 1 = cc in absurd (omega arith)

some_apart : {A : Type 0} {x y : A} → ◌≡◌ {A = found.Option A} (Some x) (Some y) → x ≡ y
some_apart e = cc

some_none : {A : Type 0} {x : A} → ◌≡◌ {A = found.Option A} (Some x) None → ⊥
some_none e = let z : ◌≡◌ {A = ℕ} 0 1 = cc in omega arith

plain_bare : (x : Token) (k : Kind) → plain_kind x ≡ some k → labelled k ≡ false
plain_bare x k e =
    split (key 99 x)
    (λ a. let q : some $c ≡ some k = sym (rw a refl) ∙ e in let z : k ≡ $c = cc in rw z)
    (λ a. split (key 118 x)
    (λ b. let q : some $v ≡ some k = sym (rw (a, b) refl) ∙ e in let z : k ≡ $v = cc in rw z)
    (λ b. split (key 100 x)
    (λ c. let q : some $d ≡ some k = sym (rw (a, b, c) refl) ∙ e in let z : k ≡ $d = cc in rw z)
    (λ c. let q : none ≡ some k = sym (rw (a, b, c) refl) ∙ e in let z : ◌≡◌ {A = ℕ} 0 1 = cc in absurd (omega arith))))

reached_least : {t : List ℕ} {e b c : ℕ} {z : Step} → b ≤ c → Reached t e c z → Reached t e b z
reached_least l r = record { seen = r.seen; passed = r.passed; step = r.step; size = omega (arith, r.size) }

shut_some : (d : ℕ) (x : Token) → 0 < d → shut d x ≡ go start (d - 1) (closes x.at ∷ [])
shut_some zero x h = absurd (not-suc-le-zero h)
shut_some (suc d) x h = let q : suc d - 1 ≡ d = omega arith in rw q

span_length : {t : List ℕ} {i : ℕ} {x : Span} {c : Cursor} → Shows t i x c → length (take (x.stop - x.start) (drop x.start t)) ≡ x.stop - x.start
span_length {t} {i} {x} h = length-take-le (x.stop - x.start) (drop x.start t) (omega (arith, length-drop x.start t, h.whole.within))

module _ {t w : List ℕ} {n : ℕ} {s : State} (h : Held t w n s) where
  small : n ≤ 16777217
  small = omega (arith, h.words.size, h.words.short, few_tokens t)

  -- ---- a token x
  module _ {x : Span} {a : Cursor} (p : Shows t s.cursor.at x a) where
    here_before : x.start < a.at
    here_before = omega (arith, p.whole.some, p.stands)

    less_one : length (tokens_from t a.at) < length (tokens_from t s.cursor.at)
    less_one = omega (arith, passed_few p.passed)

    pub event_room : EventRoom w n s
    event_room =
        record {
          room = h.words.room;
          few = omega (arith, reached_few h.reached, h.words.size);
          small = small;
          deep = h.deep;
        }

    module _ (f₁ : key 123 (token_of t x) ≡ false) where
      pub close_none : key 125 (token_of t x) ≡ true → s.depth ≡ 0 → RefusedAt t (BadToken x.start) x.line
      close_none f₂ z =
          (refuse_token (reached_token {z = stop x.start} h.reached p (allow_close s.depth (token_of t x) f₁ f₂ ∙ rw z)) here_before (length t), p.whole.lined)

      module _ (f₂ : key 125 (token_of t x) ≡ false) where
        pub plain_bad : x.least < 4 → None ≡ code (plain_kind (token_of t x)) → RefusedAt t (BadToken x.start) x.line
        plain_bad l q =
            let a : label_token (token_of t x) ≡ false = sym p.whole.label ∙ lt-leb 4 x.least l in
            let b : begin (plain_kind (token_of t x)) s.depth (token_of t x) ≡ stop x.start = rw (code_none (plain_kind (token_of t x)) q, a) in
            (refuse_token (reached_token {z = stop x.start} h.reached p (allow_begin s.depth (token_of t x) f₁ f₂ ∙ b)) here_before (length t), p.whole.lined)

        pub plain_begun : {c : told.Kind} → Some c ≡ code (plain_kind (token_of t x)) → Begun t w n s c (record { at = x.start; label = 0; from = a })
        plain_begun {c} q =
            by_option (plain_kind (token_of t x))
            (λ k e.
            let b : begin (plain_kind (token_of t x)) s.depth (token_of t x) ≡ go (math k x.start [] []) s.depth [] = rw e in
            record {
              found = h.found;
              words = h.words;
              deep = h.deep;
              kind = k;
              name = [];
              code = some_apart (q ∙ ap code e);
              label = refl;
              bears = λ g. absurd (clash (sym g ∙ plain_bare (token_of t x) k e));
              reached = rw append-nil at (reached_token {z = go (math k x.start [] []) s.depth []} h.reached p (allow_begin s.depth (token_of t x) f₁ f₂ ∙ b));
              less = less_one;
              gap = shows_gap p;
              lined = p.lined;
              within = shows_within p;
              at = omega (arith, p.whole.some, p.whole.within);
              size = omega arith;
            })
            (λ e. absurd (some_none (q ∙ ap code e)))

    -- `${` and `$}`
    module _ {v : List ℕ} {st : State} where
      pub open_held : key 123 (token_of t x) ≡ true → v ≡ set w (bucket_cell n s.items) 1 → st ≡ opened s a
          → Held t v n st × (length (tokens_from t st.cursor.at) < length (tokens_from t s.cursor.at))
      open_held f ev es =
          let few = reached_few h.reached in
          let q : suc s.depth ≡ s.depth + 1 = omega arith in
          let r = reached_token {z = go start (s.depth + 1) (opens x.start ∷ [])} h.reached p (allow_open s.depth (token_of t x) f ∙ rw q) in
          rw es (
            record {
              found = h.found ++ (opens x.start ∷ []);
              words = words_bracket h.words (opens x.start) refl (omega (arith, h.words.size, h.words.little, h.words.fewer)) (omega (arith, h.words.size)) (omega (arith, h.words.size)) ev;
              reached = reached_least (omega arith) r;
              lined = p.lined;
              deep = omega (arith, h.deep);
            },
            less_one,
          )

      pub close_held : key 123 (token_of t x) ≡ false → key 125 (token_of t x) ≡ true → 0 < s.depth
          → v ≡ set w (bucket_cell n s.items) (x.start + 2) → st ≡ shut_one s a
          → Held t v n st × (length (tokens_from t st.cursor.at) < length (tokens_from t s.cursor.at))
      close_held f₁ f₂ l ev es =
          let few = reached_few h.reached in
          let r = reached_token {z = go start (s.depth - 1) (closes x.start ∷ [])} h.reached p (allow_close s.depth (token_of t x) f₁ f₂ ∙ shut_some s.depth (token_of t x) l) in
          rw es (
            record {
              found = h.found ++ (closes x.start ∷ []);
              words = words_bracket h.words (closes x.start) refl (omega (arith, h.words.size, h.words.little, h.words.fewer)) (omega (arith, h.words.size)) (omega (arith, h.words.size)) ev;
              reached = reached_least (omega arith) r;
              lined = p.lined;
              deep = omega (arith, h.deep);
            },
            less_one,
          )

    -- a label, and what stands after it
    module _ (l : 4 ≤ x.least) where
      labelled_at : Reached t a.at (s.rows + s.items + s.maths + 1) (go (named (token_of t x)) s.depth h.found)
      labelled_at =
          rw append-nil at (reached_token {z = go (named (token_of t x)) s.depth []} h.reached p
          (allow_label s.depth (token_of t x) (sym p.whole.label ∙ le-leb 4 x.least l)))

      pub label_end : Passed t a.at (length t) outside [] outside → RefusedAt t (OpenText (length t)) 0
      label_end q = (reach_end labelled_at q (length t), refl)

      pub label_refused : {y : Refusal} {l : ℕ} → Refuses t a.at y l → RefusedAt t y l
      label_refused q = (q.items_are labelled_at, q.line)

      module _ {y : Span} {b : Cursor} (g : Shows t a.at y b) where
        pub label_bad : None ≡ code (label_kind (token_of t y)) → RefusedAt t (BadToken y.start) y.line
        label_bad q =
            let b : keyword (label_kind (token_of t y)) s.depth (token_of t x) (token_of t y) ≡ stop y.start = rw (code_none (label_kind (token_of t y)) q) in
            (refuse_token (reached_token {z = stop y.start} labelled_at g (allow_named s.depth (token_of t x) (token_of t y) ∙ b)) (omega (arith, g.whole.some, g.stands)) (length t), g.whole.lined)

        pub label_begun : {c : told.Kind} → Some c ≡ code (label_kind (token_of t y)) → Begun t w n s c (record { at = x.start; label = x.stop - x.start; from = b })
        label_begun {c} q =
            by_option (label_kind (token_of t y))
            (λ k e.
            let z = go (math k x.start (token_of t x).bytes []) s.depth [] in
            let b : keyword (label_kind (token_of t y)) s.depth (token_of t x) (token_of t y) ≡ z = rw e in
            record {
              found = h.found;
              words = h.words;
              deep = h.deep;
              kind = k;
              name = (token_of t x).bytes;
              code = some_apart (q ∙ ap code e);
              label = sym (span_length p);
              bears = λ _. stands_span p.whole;
              reached = rw append-nil at (reached_least {b = s.rows + s.items + s.maths + 1} (omega arith) (reached_token {z = z} labelled_at g (allow_named s.depth (token_of t x) (token_of t y) ∙ b)));
              less = omega (arith, less_one, passed_few g.passed);
              gap = shows_gap g;
              lined = g.lined;
              within = shows_within g;
              at = omega (arith, p.whole.some, p.whole.within);
              size = omega (arith, p.whole.within);
            })
            (λ e. absurd (some_none (q ∙ ap code e)))
