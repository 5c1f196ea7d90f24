-- Numbers 7, 8, 9 and 0 from what the first pass measured, and the buffers after the second.
-- `p` and `q` are the measured lengths, `c` is the number of frames.
use mathlib.Core.Path.{◌≡◌, sym, ◌∙◌}
use mathlib.Core.List.{List}
use mathlib.Core.Option.{none, some}
use Prim.Native.Nat.{ℕ, ◌<◌, ◌≤◌}
use native.Mathlib.Omega.{arith}
use lib.ListN.{length}
use borrow.Author.Tests.{lt-ltb, le-ltb}
use Rattle.std.specs.Prelude.{Result, Ok, Err}
use Rattle.paper.specs.Base.{find}
use Rattle.paper.specs.Statements.{Statement}
use Rattle.paper.specs.Reader.{given}
use Rattle.paper.specs.Give.{Given, all_given}
use Rattle.paper.specs.Records.{frame_stream, diag_stream}
use Rattle.paper.specs.declared.Refused.{Refused}
use Rattle.paper.specs.declared.Lengths as paper
use Rattle.paper.specs.Answer.{Answer, done, not_done, crowded, frames_in, streams, measured, written, answer_of}
use Rattle.paper.specs.declared.Setting.{Setting}
use Rattle.paper.specs.declared.StatementOffset.{StatementOffset}
use Rattle.paper.specs.declared.Refusal.TheVariants.{ManyVariables, ShortFrames, ShortDiags}
use Rattle.theorems.proofs.Refusals.{fitting_fits}
use Rattle.fold.specs.declared.all.Streams.{Streams}
use Rattle.fold.specs.declared.start.Started.{Started}
use Rattle.fold.specs.Fold.{SomeWhole, Streamed, FoldsAll}
use Rattle.fold.specs.Fold as fold
use Rattle.fold.specs.Start.{Held, Read, Starts}
use Rattle.catalogue.specs.Streams.{Sized, sized, crowd, Sizes, Needed, Gives, Answered}

-- ---- a fold that writes nothing
sized_ok : {c : Setting} {b b' o o' : List ℕ} {g : List Given} {s : Streams} → Streamed c b b' o o' g (Ok s) → Sized c g (done s.frames s.diags s.count)
sized_ok {c} {g = g} (fold.streams {f} {d} e x y n) =
    let p : f ≡ length (frame_stream c g) = omega (arith, x.place) in
    let q : d ≡ length (diag_stream g) = omega (arith, y.place) in
    sized e p q n

sized_err : {c : Setting} {b b' o o' : List ℕ} {g : List Given} {s : StatementOffset} → Streamed c b b' o o' g (Err s) → Sized c g (not_done (ManyVariables s.0) 0)
sized_err (fold.crowd x e) = crowd x e

module _ {c : Setting} {t w v b b' o o' : List ℕ} {n rows names : ℕ} where
  pub sizes_ok : {s : Streams} → FoldsAll c t w v b b' o o' n rows names (Ok s) → Sizes c t w v n rows names (done s.frames s.diags s.count)
  sizes_ok z = record { sim = λ a. let x = z.sim a in (x.0, sized_ok x.1) }

  pub sizes_err : {s : StatementOffset} → FoldsAll c t w v b b' o o' n rows names (Err s) → Sizes c t w v n rows names (not_done (ManyVariables s.0) 0)
  sizes_err z = record { sim = λ a. let x = z.sim a in (x.0, sized_err x.1) }

pub whole_again : {c : Setting} {t w v u : List ℕ} {rows : ℕ} {s : Started} {r : Answer}
    → Starts t w v rows s → Sizes c t v u s.n rows s.names r → Read t w rows → SomeWhole t u s.n rows s.names
whole_again a z x = record { of = x.of; holds = (z.sim (a.sim x.holds)).0 }

-- ---- what was measured
record Lengths (e : Setting) (g : List Given) (p q c : ℕ) : Type 0 where
  few : find crowded (frames_in g) ≡ none
  frames : p ≡ length (frame_stream e g)
  diags : q ≡ length (diag_stream g)
  count : c ≡ length (frames_in g)

by_sizes : {e : Setting} {g : List Given} {s : paper.Lengths} → Sized e g (Ok s) → Lengths e g s.frames s.diags s.count
by_sizes (sized e x y n) = record { few = e; frames = x; diags = y; count = n }

-- ---- the measure: numbers 7 and 0
needs_by : {c : Setting} (t : List ℕ) (g : List Given) {r : Answer} → Sized c g r → r ≡ answer_of t (measured c g)
unfolding measured
needs_by t g (sized e x y n) = rw (e, x, y, n)
needs_by t g (crowd x e) = rw e

-- ---- the writer: number 7
gives_many : {c : Setting} {t : List ℕ} (g : List Given) {f d : List ℕ} {r : Refused} → Sized c g (Err r) → Gives c t g f f d d (Err r)
unfolding written
gives_many g (crowd x e) = record { answer = rw e; frames = rw e; diags = rw e }

-- ---- numbers 8 and 9
gives_short_frames : {e : Setting} {t : List ℕ} (g : List Given) {f d : List ℕ} {p q c : ℕ} → Lengths e g p q c → length f < p → Gives e t g f f d d (not_done (ShortFrames p) 0)
unfolding written
gives_short_frames {e} {t} g {f} {d} s h =
    let a = lt-ltb (length f) (length (frame_stream e g)) (omega (arith, s.frames)) in
    rw s.frames (record { answer = rw (s.few, a); frames = rw (s.few, a); diags = rw (s.few, a) })

gives_short_diags : {e : Setting} {t : List ℕ} (g : List Given) {f d : List ℕ} {p q c : ℕ} → Lengths e g p q c → p ≤ length f → length d < q → Gives e t g f f d d (not_done (ShortDiags q) 0)
unfolding written
gives_short_diags {e} {t} g {f} {d} s h k =
    let a = le-ltb (length f) (length (frame_stream e g)) (omega (arith, s.frames)) in
    let b = lt-ltb (length d) (length (diag_stream g)) (omega (arith, s.diags)) in
    rw s.diags (record { answer = rw (s.few, a, b); frames = rw (s.few, a, b); diags = rw (s.few, a, b) })

-- ---- number 0
gives_done : {c : Setting} {t : List ℕ} (g : List Given) {f f' d d' : List ℕ} {p q i : ℕ} {r : Result Streams StatementOffset} → Lengths c g p q i → p ≤ length f → q ≤ length d → Streamed c f f' d d' g r
    → Gives c t g f f' d d' (done p q i)
gives_done g {f} {d = d} s h k (fold.crowd x e) = let z : none ≡ some x = sym s.few ∙ e in let y : ◌≡◌ {A = ℕ} 0 1 = cc in absurd (omega (arith, y))
gives_done {c} {t} g {f} {d = d} s h k (fold.streams e x y n) =
    let w : written c g (length f) (length d) ≡ given (streams c g) =
    fitting_fits c g (length f) (length d) (record { uncrowded = e; frames_fit = omega (arith, s.frames); diags_fit = omega (arith, s.diags) }) in
    record {
      answer = rw (w, s.frames, s.diags, s.count);
      frames = rw w (x.bytes (omega (arith, x.place, s.frames)));
      diags = rw w (y.bytes (omega (arith, y.place, s.diags)));
    }

-- ---- the answers
module _ {e : Setting} {t w v u : List ℕ} {rows : ℕ} {s : Started} (a : Starts t w v rows s) where
  pub needs : {r : Answer} → Sizes e t v u s.n rows s.names r → Needed e t w rows r
  needs z = record { sim = λ {l} h. needs_by t (all_given l) (z.sim (a.sim h)).1 }

  pub many : {r : Refused} {f d : List ℕ} → Sizes e t v u s.n rows s.names (Err r) → Answered e t w rows f f d d (Err r)
  many z = record { sim = λ {l} h. gives_many (all_given l) (z.sim (a.sim h)).1 }

  module _ {x : paper.Lengths} (z : Sizes e t v u s.n rows s.names (Ok x)) where
    lengths_of : {l : List Statement} → Held t w rows l → Lengths e (all_given l) x.frames x.diags x.count
    lengths_of h = by_sizes (z.sim (a.sim h)).1

    pub short_frames : {f d : List ℕ} → length f < x.frames → Answered e t w rows f f d d (not_done (ShortFrames x.frames) 0)
    short_frames h = record { sim = λ {l} y. gives_short_frames (all_given l) (lengths_of y) h }

    pub short_diags : {f d : List ℕ} → x.frames ≤ length f → length d < x.diags → Answered e t w rows f f d d (not_done (ShortDiags x.diags) 0)
    short_diags h k = record { sim = λ {l} y. gives_short_diags (all_given l) (lengths_of y) h k }

    pub all_done : {f f' d d' y : List ℕ} {r : Result Streams StatementOffset} → x.frames ≤ length f → x.diags ≤ length d → FoldsAll e t u y f f' d d' s.n rows s.names r
        → Answered e t w rows f f' d d' (Ok x)
    all_done h k y = record { sim = λ {l} i. gives_done (all_given l) (lengths_of i) h k (y.sim (z.sim (a.sim i)).0).1 }
