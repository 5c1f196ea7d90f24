-- The frame of one statement: nothing for what is rejected or has none, a stub for a `$f`, the full frame for an assertion.
-- By the words for its kind and whether it is accepted.
use mathlib.Core.Path.{◌≡◌, refl, sym, ap, ◌∙◌}
use mathlib.Core.Logic.{◌≢◌, ◌⊎◌, inl, inr}
use mathlib.Core.Bool.{true, false}
use mathlib.Core.List.{List, [], ◌∷◌, append-nil}
use Prim.Native.Nat.{ℕ, ◌+◌, ◌*◌, ◌<◌, ◌≤◌}
use native.Mathlib.Omega.{arith}
use Rattle.std.specs.Prelude.{Option, Some}
use Rattle.paper.specs.Base.{choose, find, gather}
use Rattle.paper.specs.Statements.{Kind, $c, $v, $d, $f, $e, $a, $p, Statement}
use Rattle.paper.specs.Frames.{Frame, frame_as}
use Rattle.paper.specs.Give.{Given}
use Rattle.paper.specs.Records.{frame_record, frame_records}
use Rattle.paper.specs.declared.Setting.{Setting}
use Rattle.paper.specs.declared.Setting.TheVariants as setting
use Rattle.paper.specs.Answer.{crowded}
use Rattle.paper.proofs.Tests.{split}
use Rattle.area.specs.Cells.{statement_cell, word}
use Rattle.stream.specs.Wrote.{Wrote}
use Rattle.stream.proofs.Wrote.{wrote_none, wrote_as}
use Rattle.reader.specs.Kinds.{number_of}
use Rattle.reader.specs.declared.kind.Kind as code
use Rattle.reader.specs.declared.kind.Kind.TheVariants as kind
use Rattle.reader.specs.Rows.{kind_number, stmt}
use Rattle.facts.specs.States.{given_at}
use Rattle.sight.specs.Static.{stack}
use Rattle.sight.proofs.Numbering.{renumbered_none}
use Rattle.slots.specs.Kept.{Room}
use Rattle.scopeck.specs.declared.Scope.{Scope}
use Rattle.scopeck.proofs.Numbers.{kind_f}
use Rattle.history.specs.Accepted.{accepted}
use Rattle.frames.specs.Stub.{OfFloat, CanStub, stub_of, Stubs}
use Rattle.frames.specs.Front.{record_kind}
use Rattle.frames.specs.Assert.{frame_at, SomeFraming, BuiltAs, built, Frames}
use Rattle.frames.specs.Assert as frames
use Rattle.fold.specs.Turn.{Turn, SomeTurn, Told, told, over, Turned}
use Rattle.fold.proofs.Given.{gives_stub, gives_rejected, gives_none}
use Rattle.fold.proofs.Floats.{active_rows}
use Rattle.fold.proofs.Framing.{framing_of, frame_given}

-- ---- no record, and one
told_none : (c : Setting) {b : List ℕ} {at : ℕ} (g : Given) → g.frame ≡ [] → Told c b b at g (Some at)
unfolding find frame_records gather
told_none c {b} {at} g e = told (rw e) (wrote_as (wrote_none b at) (rw e))

told_one : (c : Setting) {b b' : List ℕ} {at r : ℕ} (g : Given) (x : Frame) → g.frame ≡ x ∷ [] → crowded x ≡ false
    → Wrote b b' at r (frame_record (frame_as c x)) → Told c b b' at g (Some r)
unfolding find frame_records gather
told_one c g x e q w = told (rw (e, q)) (wrote_as w (rw e (append-nil (frame_record (frame_as c x)))))

by_built : (c : Setting) {b b' : List ℕ} {at : ℕ} {r : Option ℕ} (g : Given) (x : Frame) → g.frame ≡ x ∷ [] → BuiltAs c b b' at x r → Told c b b' at g r
by_built c g x e (built q w) = told_one c g x e q w
by_built c g x e (frames.over q s) = over x e q

-- that of a `$f` is the same under each setting
stub_as : (c : Setting) (s : Statement) → frame_as c (stub_of s) ≡ stub_of s
unfolding stub_of
stub_as setting.Short s = refl
stub_as setting.Full s = refl

-- ---- kinds by their numbers
assertion_kind : (q : Kind) → 6 ≤ kind_number q → 0 < record_kind q
assertion_kind $c h = absurd (omega arith)
assertion_kind $v h = absurd (omega arith)
assertion_kind $d h = absurd (omega arith)
assertion_kind $f h = absurd (omega arith)
assertion_kind $e h = absurd (omega arith)
assertion_kind $a h = omega arith
assertion_kind $p h = omega arith

no_assertion : (q : Kind) → kind_number q ≢ 6 → kind_number q ≢ 7 → record_kind q ≡ 0
no_assertion $c h g = refl
no_assertion $v h g = refl
no_assertion $d h g = refl
no_assertion $f h g = refl
no_assertion $e h g = refl
no_assertion $a h g = absurd (omega arith)
no_assertion $p h g = absurd (omega arith)

-- the word of a row, by the code's kind
pub framed_word : {q : code.Kind} {x : ℕ} → (q ≡ kind.A) ⊎ (q ≡ kind.P) → number_of q ≡ x → 6 ≤ x
framed_word (inl e) h = let g = rw e at h in omega (arith, g)
framed_word (inr e) h = let g = rw e at h in omega (arith, g)

pub other_word : (q : code.Kind) {x : ℕ} → q ≢ kind.F → q ≢ kind.A → q ≢ kind.P → number_of q ≡ x → (x ≢ 4) × (x < 6)
other_word kind.C f a p h = (λ e. omega (arith, h, e), omega (arith, h))
other_word kind.V f a p h = (λ e. omega (arith, h, e), omega (arith, h))
other_word kind.D f a p h = (λ e. omega (arith, h, e), omega (arith, h))
other_word kind.F f a p h = absurd (f refl)
other_word kind.E f a p h = (λ e. omega (arith, h, e), omega (arith, h))
other_word kind.A f a p h = absurd (a refl)
other_word kind.P f a p h = absurd (p refl)

module _ {t w : List ℕ} {n : ℕ} {l : List Statement} {st : Scope} {k : ℕ} (b : Turn t w n l st k) where
  kind_word : word w (statement_cell k 0) ≡ kind_number (stmt l k).kind
  kind_word = b.named.shape.kind k b.inside

  accept_word : word w (statement_cell k 8) ≡ choose (accepted l k) 1 0
  accept_word = b.marked k (omega arith)

  is_accepted : word w (statement_cell k 8) ≢ 0 → accepted l k ≡ true
  is_accepted h = split (accepted l k) (λ a. a) (λ a. absurd (h (accept_word ∙ rw a)))

  is_rejected : word w (statement_cell k 8) ≡ 0 → accepted l k ≡ false
  is_rejected h =
      split (accepted l k)
      (λ a. let e : ◌≡◌ {A = ℕ} (choose (accepted l k) 1 0) 1 = rw a in absurd (omega (arith, accept_word, e, h)))
      (λ a. a)

  float_of : word w (statement_cell k 0) ≡ 4 → OfFloat t w n l k
  float_of h =
      record {
        named = b.named;
        facts = b.facts;
        small = b.room.small;
        here = b.inside;
        kind = kind_f (stmt l k).kind (sym kind_word ∙ h);
      }

module _ {t w : List ℕ} {n : ℕ} {st : Scope} {k : ℕ} where
  pub turn_room : SomeTurn t w n st k → Room w n × (3 * k + 3 ≤ n)
  turn_room x = let b = x.holds in (b.room, omega (arith, b.inside, b.named.shape.few))

  -- ---- nothing
  quiet : {c : Setting} {b : List ℕ} {at : ℕ} → ((l : List Statement) → Turn t w n l st k → (given_at l k).frame ≡ []) → Turned c t w w n st k b b at (Some at)
  quiet {c} f =
      record {
        kept = renumbered_none n w;
        len = refl;
        sim = λ {l} x. (x.free, told_none c (given_at l k) (f l x));
      }

  pub turn_rejected : {c : Setting} {b : List ℕ} {at : ℕ} → word w (statement_cell k 8) ≡ 0 → Turned c t w w n st k b b at (Some at)
  turn_rejected h = quiet (λ l x. gives_rejected l k (is_rejected x h))

  pub turn_none : {c : Setting} {b : List ℕ} {at : ℕ} → word w (statement_cell k 0) ≢ 4 → word w (statement_cell k 0) ≢ 6
      → word w (statement_cell k 0) ≢ 7 → Turned c t w w n st k b b at (Some at)
  turn_none h g q =
      quiet
      (λ l x.
      gives_none l k (no_assertion (stmt l k).kind (λ e. g (kind_word x ∙ e)) (λ e. q (kind_word x ∙ e)))
      (λ e. h (kind_word x ∙ ap kind_number e)))

  -- ---- a stub
  pub can_stub : SomeTurn t w n st k → word w (statement_cell k 0) ≡ 4 → CanStub t w n k
  can_stub x h = record { l = x.of; holds = float_of x.holds h }

  pub turn_stub : {c : Setting} {b b' : List ℕ} {at r : ℕ} → SomeTurn t w n st k → word w (statement_cell k 8) ≢ 0 → word w (statement_cell k 0) ≡ 4
      → Stubs t w n k b b' at r → Turned c t w w n st k b b' at (Some r)
  unfolding stub_of
  turn_stub {c} x a h s =
      record {
        kept = renumbered_none n w;
        len = (s.sim x.of (float_of x.holds h)).len;
        sim = λ {l} y. (
          y.free,
          told_one c (given_at l k) (stub_of (stmt l k))
              (gives_stub l k (float_of y h).kind (is_accepted y a)) refl
              (wrote_as (s.sim l (float_of y h)) (ap frame_record (stub_as c (stmt l k)))),
        );
      }

  -- ---- a full frame
  pub can_frame : SomeTurn t w n st k → word w (statement_cell k 8) ≢ 0 → 6 ≤ word w (statement_cell k 0) → SomeFraming t w n k st.es st.ds
  can_frame x a h =
      record {
        l = x.of;
        h = active_rows x.of k;
        holds = framing_of x.holds (assertion_kind (stmt x.of k).kind (omega (arith, kind_word x.holds))) (is_accepted x.holds a);
      }

  pub turn_full : {c : Setting} {v b b' : List ℕ} {at : ℕ} {r : Option ℕ} → word w (statement_cell k 8) ≢ 0 → 6 ≤ word w (statement_cell k 0)
      → Frames c t w v n k st.es st.ds b b' at r → Turned c t w v n st k b b' at r
  turn_full {c} a h f =
      record {
        kept = f.kept;
        len = f.len;
        sim = λ {l} x.
            let q = assertion_kind (stmt l k).kind (omega (arith, kind_word x)) in
            let y = f.sim l (active_rows l k) (framing_of x q (is_accepted x a)) in (
              y.0,
              by_built c (given_at l k) (frame_at l (active_rows l k) (stack w 11 st.ds) k) (frame_given x q (is_accepted x a)) y.1,
            );
      }
