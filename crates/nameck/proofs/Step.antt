-- One label and one math token: what interning asks of them, and that their stores take what is done one step on.
-- Assumes nothing.
use mathlib.Core.Path.{◌≡◌, refl, sym, ap, ◌∙◌}
use mathlib.Core.Bool.{true, false}
use mathlib.Core.List.{List, [], ◌∷◌, ◌++◌, append-nil}
use Prim.Native.Nat.{ℕ, ◌+◌, ◌-◌, ◌*◌, ◌<◌, ◌≤◌}
use native.Mathlib.Omega.{arith}
use lib.ListN.{length, get_or, take, drop, set}
use Rattle.paper.specs.Tokens.{Token}
use Rattle.paper.specs.Statements.{Kind, $c, $v, $d, $f, $e, $a, $p, labelled}
use Rattle.paper.specs.Variables.{member, sights}
use Rattle.paper.specs.Checks.{token}
use Rattle.paper.proofs.Names.{see_self, sights_one}
use Rattle.area.specs.Cells.{statement_cell, symbol_cell, math_cell, word}
use Rattle.area.proofs.Laws.{word_other}
use Rattle.token.specs.Words as words
use Rattle.std.specs.Prelude.{Option, Some, None}
use Rattle.nameck.specs.declared.naming.Sort.{Sort}
use Rattle.nameck.specs.Links.{hash}
use Rattle.nameck.specs.declared.naming.Hashed.{Hashed}
use Rattle.reader.specs.Rows.{stmt, kind_number, label_of, Stands}
use Rattle.nameck.specs.Table.{CanIntern, Interns, noted, sort_number, globally}
use Rattle.nameck.specs.Naming.{HashedToken, Done, with_label, with_math, Progress, Ahead, AtToken, SomeToken, TokenNamed, AtLabel, SomeLabel, LabelNamed}
use Rattle.nameck.proofs.Kept.{math_row}
use Rattle.nameck.proofs.Part.{Lies, visible_lies}
use Rattle.nameck.proofs.Column.{noted_other}
use Rattle.nameck.proofs.Progress.{progress_free, atom_index, atom_final, atom_free, progress_intern, progress_math, progress_unlabelled, progress_label}
use Rattle.nameck.proofs.Notes.{progress_owner, progress_global}

-- ---- the kinds that bear a label are 4 and above
kind_bears : (k : Kind) → (kind_number k < 4 → ⊥) → labelled k ≡ true
kind_bears $c h = absurd (h (omega arith))
kind_bears $v h = absurd (h (omega arith))
kind_bears $d h = absurd (h (omega arith))
kind_bears $f h = refl
kind_bears $e h = refl
kind_bears $a h = refl
kind_bears $p h = refl

kind_bare : (k : Kind) → kind_number k < 4 → labelled k ≡ false
kind_bare $c h = refl
kind_bare $v h = refl
kind_bare $d h = refl
kind_bare $f h = absurd (omega (arith, h))
kind_bare $e h = absurd (omega (arith, h))
kind_bare $a h = absurd (omega (arith, h))
kind_bare $p h = absurd (omega (arith, h))

-- ---- what interning asks, of a token that stands in the text
module _ {t w : List ℕ} {n m at stop : ℕ} {x : Done} {b : List (List ℕ)} (y : Token) (h : Progress t w n x m) (a : Ahead x b) (s : Stands t y) (p : at ≡ y.at) (q : stop ≡ y.at + length y.bytes) where
  can_intern : CanIntern t w n m at stop
  can_intern =
      record { spans = h.spans; linked = h.linked; free = progress_free h a; order = omega arith; fits = omega (arith, s.within) }

  its_bytes : take (stop - at) (drop at t) ≡ y.bytes
  its_bytes = let e : stop - at ≡ length y.bytes = omega arith in rw (e, p) s.bytes

-- a name that was just seen
just_seen : (l : List (List ℕ)) (b : List ℕ) → member b (sights (l ++ (b ∷ [])) []) ≡ true
just_seen l b = ap (member b) (sights_one l b []) ∙ see_self (sights l []) b

-- ---- a statement without a label
module _ {t w : List ℕ} {n s m i : ℕ} (p : i ≡ statement_cell s 0) (k : get_or w i 0 < 4) where
  bare : {x : Done} → AtLabel t w n s m x → labelled (stmt x.of s).kind ≡ false
  unfolding word
  bare {x} h =
      kind_bare (stmt x.of s).kind (omega (arith, ap (λ j. get_or w j 0) p, h.progress.shape.kind s h.statement))

  pub label_none : LabelNamed t w w n s m m
  label_none = record { sim = λ x h. skip x h }
    where
      skip : (x : Done) → AtLabel t w n s m x → Progress t w n (with_label x (stmt x.of s)) m
      skip x h =
          rw (bare h, append-nil x.names, append-nil x.bearers)
          (progress_unlabelled h.progress (rw h.next (bare h)))

-- ---- a label
module _ {t w : List ℕ} {n s m i j k : ℕ} (pi : i ≡ statement_cell s 0) (pj : j ≡ statement_cell s 1) (pk : k ≡ statement_cell s 2) (big : get_or w i 0 < 4 → ⊥) where
  module _ {x : Done} (h : AtLabel t w n s m x) where
    bears : labelled (stmt x.of s).kind ≡ true
    unfolding word
    bears =
        kind_bears (stmt x.of s).kind
        (λ z. big (omega (arith, ap (λ y. get_or w y 0) pi, h.progress.shape.kind s h.statement)))

    at_is : get_or w j 0 ≡ (stmt x.of s).at
    unfolding word
    at_is = ap (λ y. get_or w y 0) pj ∙ h.progress.shape.at s h.statement

    stop_is : get_or w j 0 + get_or w k 0 ≡ (stmt x.of s).at + length (stmt x.of s).label
    unfolding word
    stop_is =
        omega (arith, at_is, ap (λ y. get_or w y 0) pk, h.progress.labels.left s (omega (arith, h.next)) h.statement)

    label_next : Ahead x ((stmt x.of s).label ∷ [])
    label_next = rw bears at h.ahead

    label_stands : Stands t (label_of (stmt x.of s))
    label_stands = h.progress.text.bears s h.statement bears

    can_label : CanIntern t w n m (get_or w j 0) (get_or w j 0 + get_or w k 0)
    can_label = can_intern (label_of (stmt x.of s)) h.progress label_next label_stands at_is stop_is

    label_bytes : take ((get_or w j 0 + get_or w k 0) - get_or w j 0) (drop (get_or w j 0) t) ≡ (stmt x.of s).label
    label_bytes = its_bytes (label_of (stmt x.of s)) h.progress label_next label_stands at_is stop_is

    label_step : {u v : List ℕ} {atom r b o : ℕ} → Interns t w u n m (get_or w j 0) (get_or w j 0 + get_or w k 0) atom r → b ≡ statement_cell s 2 → o ≡ symbol_cell n atom 0 → v ≡ noted (set u b atom) o (get_or w j 0 + 1) → Progress t v n (with_label x (stmt x.of s)) r
    label_step {u} {v} {atom} {r} {b} {o} y pb po e =
        let p = progress_intern h.progress y label_bytes label_next in
        let q = progress_label p {u = atom} (rw h.next h.statement) (rw h.next (atom_final h.progress y label_bytes label_next)) in
        let z = progress_owner q (stmt x.of s).label (just_seen x.names (stmt x.of s).label) (atom_index h.progress y label_bytes label_next) (stmt x.of s).at in
        let f : v ≡ noted (set u (statement_cell x.labels 2) atom) (symbol_cell n atom 0) ((stmt x.of s).at + 1) = e ∙ rw (po, pb, h.next, at_is) in
        rw (bears, f) z

  pub some_label : SomeLabel t w n s m → CanIntern t w n m (get_or w j 0) (get_or w j 0 + get_or w k 0)
  some_label a = can_label a.holds

  pub label_atom : {u : List ℕ} {atom r : ℕ} → SomeLabel t w n s m → Interns t w u n m (get_or w j 0) (get_or w j 0 + get_or w k 0) atom r → atom < n
  label_atom a y = atom_free a.holds.progress y (label_bytes a.holds) (label_next a.holds)

  pub label_named : {u v : List ℕ} {atom r b o : ℕ} → Interns t w u n m (get_or w j 0) (get_or w j 0 + get_or w k 0) atom r → b ≡ statement_cell s 2 → o ≡ symbol_cell n atom 0 → v ≡ noted (set u b atom) o (get_or w j 0 + 1) → LabelNamed t w v n s m r
  label_named y pb po e = record { sim = λ x h. label_step h y pb po e }

-- ---- a math token
globally_other : (k : Option Sort) (w : List ℕ) (n a at i : ℕ) → i < 8 * n → word (globally k w n a at) i ≡ word w i
unfolding globally
globally_other None w n a at i h = refl
globally_other (Some k) w n a at i h =
    noted_other w (symbol_cell n a 1) (2 * at + sort_number k) i (λ q. omega (arith, q))

module _ {t q w : List ℕ} {n from row : ℕ} {k : Option Sort} {m j : ℕ} (pj : j ≡ math_cell n row) where
  module _ {x : Done} (s i : ℕ) (h : AtToken t q w n from row k m x s i) where
    token_at : get_or w j 0 ≡ (token (stmt x.of s) i).at
    unfolding word
    token_at =
        ap (λ y. get_or w y 0) (pj ∙ ap (math_cell n) (h.row_is ∙ h.next))
        ∙ h.progress.maths.left s i h.statement h.inside (omega (arith, h.next))

    token_row : row < n
    token_row = omega (arith, h.row_is, h.next, math_row h.progress.shape s i h.statement h.inside)

    token_lies : Lies q from (token (stmt x.of s) i)
    token_lies =
        visible_lies q from (stmt x.of s).math i
        (rw (h.part, h.from_is) (h.progress.shape.part s h.statement)) h.inside

    token_stands : Stands t (token (stmt x.of s) i)
    token_stands = h.progress.text.stands s i h.statement h.inside

    token_from : from ≤ get_or w j 0
    token_from = omega (arith, token_at, token_lies.at)

    token_word : words.word (drop (get_or w j 0 - from) q) ≡ (token (stmt x.of s) i).bytes
    token_word =
        let e : get_or w j 0 - from ≡ token_lies.off = omega (arith, token_at, token_lies.at) in
        rw e token_lies.bytes

    token_early : get_or w j 0 < 16777216
    token_early = omega (arith, token_at, token_stands.some, token_stands.within, h.progress.spans.short)

    module _ {z : Hashed} (pz : HashedToken q (get_or w j 0 - from) z) where
      stop_of : from + z.stop ≡ (token (stmt x.of s) i).at + length (token (stmt x.of s) i).bytes
      stop_of = omega (arith, pz.stop, ap length token_word, token_at, token_from)

      can_token : CanIntern t w n m (get_or w j 0) (from + z.stop)
      can_token = can_intern (token (stmt x.of s) i) h.progress h.ahead token_stands token_at stop_of

      token_bytes : take ((from + z.stop) - get_or w j 0) (drop (get_or w j 0) t) ≡ (token (stmt x.of s) i).bytes
      token_bytes = its_bytes (token (stmt x.of s) i) h.progress h.ahead token_stands token_at stop_of

      token_hash : z.hash ≡ hash (take ((from + z.stop) - get_or w j 0) (drop (get_or w j 0) t))
      token_hash = pz.hash ∙ ap hash (token_word ∙ sym token_bytes)

      token_step : {u v : List ℕ} {atom r b : ℕ} → Interns t w u n m (get_or w j 0) (from + z.stop) atom r → b ≡ math_cell n row → v ≡ globally k (set u b atom) n atom (get_or w j 0) → Progress t v n (with_math x k (token (stmt x.of s) i ∷ [])) r
      token_step {u} {v} {atom} {r} {b} y pb e =
          let o = token (stmt x.of s) i in
          let p = progress_intern h.progress y token_bytes h.ahead in
          let a = progress_math p {s = s} {i = i} {u = atom} h.statement h.inside h.next (atom_final h.progress y token_bytes h.ahead) in
          let g = progress_global a o.bytes (just_seen x.names o.bytes) (atom_index h.progress y token_bytes h.ahead) k o.at in
          let f : v ≡ globally k (set u (math_cell n x.maths) atom) n atom o.at = e ∙ rw (pb, h.row_is, token_at) in
          rw f g

  pub some_row : SomeToken t q w n from row k m → row < n
  some_row a = token_row a.s a.i a.holds

  pub some_from : SomeToken t q w n from row k m → from ≤ get_or w j 0
  some_from a = token_from a.s a.i a.holds

  pub some_early : SomeToken t q w n from row k m → get_or w j 0 < 16777216
  some_early a = token_early a.s a.i a.holds

  module _ {z : Hashed} (pz : HashedToken q (get_or w j 0 - from) z) where
    pub some_hash : SomeToken t q w n from row k m → z.hash ≡ hash (take ((from + z.stop) - get_or w j 0) (drop (get_or w j 0) t))
    some_hash a = token_hash a.s a.i a.holds pz

    pub some_token : SomeToken t q w n from row k m → CanIntern t w n m (get_or w j 0) (from + z.stop)
    some_token a = can_token a.s a.i a.holds pz

    pub token_atom : {u : List ℕ} {atom r : ℕ} → SomeToken t q w n from row k m → Interns t w u n m (get_or w j 0) (from + z.stop) atom r → atom < n
    token_atom a y = atom_free a.holds.progress y (token_bytes a.s a.i a.holds pz) a.holds.ahead

    pub token_named : {u v : List ℕ} {atom r b : ℕ} → Interns t w u n m (get_or w j 0) (from + z.stop) atom r → b ≡ math_cell n row → v ≡ globally k (set u b atom) n atom (get_or w j 0) → TokenNamed t q w v n from row k m r
    token_named {u} {v} {atom} {r} {b} y pb e =
        record { words = kept; sim = λ x s i h. token_step s i h pz y pb e }
      where
        kept : (i : ℕ) → i < 4 * n → word v i ≡ word w i
        kept i g =
            ap (λ l. word l i) e ∙ globally_other k (set u b atom) n atom (get_or w j 0) i (omega arith)
            ∙ word_other u b i atom (λ q. omega (arith, q, pb)) ∙ y.only.below i g
