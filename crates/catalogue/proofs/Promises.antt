-- The promises of measure and writer, from the reader's and from those for a text that is read.
-- By the outcome of reading.
use mathlib.Core.Path.{◌≡◌, refl}
use mathlib.Core.List.{List}
use Prim.Native.Nat.{ℕ}
use native.Mathlib.Omega.{arith}
use lib.ListN.{length, replicate}
use Rattle.std.specs.Prelude.{Ok, Err}
use Rattle.paper.specs.Statements.{Statement}
use Rattle.paper.specs.Reader.{Outcome, refused, given, reading}
use Rattle.paper.specs.Answer.{Answer, refusal_line, measuring, measure, outcome, answer, frames_exit, diags_exit, work_exit}
use Rattle.paper.specs.declared.Setting.{Setting}
use Rattle.paper.specs.declared.Refused.{Refused}
use Rattle.paper.specs.declared.Statements.{Statements}
use Rattle.reader.specs.Whole.{Answers, Reads}
use Rattle.catalogue.specs.Promise.{Measures, Writes}
use Rattle.catalogue.specs.Streams.{Needed, Answered}

module _ {c : Setting} {t w v : List ℕ} (r : Refused) where
  -- ---- a text that is refused: numbers 1 to 6
  unmeasured_by : (o : Outcome (List Statement)) → reading t (length w) ≡ o → Answers t v (length w) o (Err r) → Measures c t w v (Err r)
  unfolding measure measuring work_exit
  unmeasured_by (refused y) e a =
      let q = a.0 in
      let i : r ≡ record { refusal = y; line = refusal_line t y } = cc in
      record { measured = rw (i, e); work = a.1 }
  unmeasured_by (given l) e a = let q = a.0 in let y : ◌≡◌ {A = ℕ} 0 1 = cc in absurd (omega (arith, y))

  unread_by : {f d : List ℕ} (o : Outcome (List Statement)) → reading t (length w) ≡ o → Answers t v (length w) o (Err r) → Writes c t w v f f d d (Err r)
  unfolding answer outcome frames_exit diags_exit work_exit
  unread_by (refused y) e a =
      let q = a.0 in
      let i : r ≡ record { refusal = y; line = refusal_line t y } = cc in
      record { answer = rw (i, e); frames = rw e; diags = rw e; work = a.1 }
  unread_by (given l) e a = let q = a.0 in let y : ◌≡◌ {A = ℕ} 0 1 = cc in absurd (omega (arith, y))

pub unmeasured : {c : Setting} {t : List ℕ} (w : List ℕ) {v : List ℕ} (r : Refused) → Reads t w v (Err r) → Measures c t w v (Err r)
unmeasured {t = t} w r a = unmeasured_by r (reading t (length w)) refl a

pub unread : {c : Setting} {t : List ℕ} (w : List ℕ) {v f d : List ℕ} (r : Refused) → Reads t w v (Err r) → Writes c t w v f f d d (Err r)
unread {t = t} w r a = unread_by r (reading t (length w)) refl a

module _ {c : Setting} {t w v u : List ℕ} (x : Statements) {s : Answer} where
  -- ---- a text that is read: numbers 7 to 9, and 0
  measured_by : (o : Outcome (List Statement)) → reading t (length w) ≡ o → Answers t v (length w) o (Ok x) → Needed c t v x.rows s → u ≡ replicate (length w) 0 → Measures c t w u s
  unfolding measure measuring work_exit
  measured_by (refused y) e a g o = let q = a.0 in let y : ◌≡◌ {A = ℕ} 0 1 = cc in absurd (omega (arith, y))
  measured_by (given l) e a g o =
      let q = a.0 in
      let n : x.rows ≡ length l = cc in
      record { measured = rw e (g.sim (record { words = length w; read = e; rows_of = a.1; count = n })); work = o }

  answered_by : {f f' d d' : List ℕ} (o : Outcome (List Statement)) → reading t (length w) ≡ o → Answers t v (length w) o (Ok x)
      → Answered c t v x.rows f f' d d' s → u ≡ replicate (length w) 0 → Writes c t w u f f' d d' s
  unfolding answer outcome frames_exit diags_exit work_exit
  answered_by (refused y) e a g o = let q = a.0 in let y : ◌≡◌ {A = ℕ} 0 1 = cc in absurd (omega (arith, y))
  answered_by (given l) e a g o =
      let q = a.0 in
      let n : x.rows ≡ length l = cc in
      let h = g.sim (record { words = length w; read = e; rows_of = a.1; count = n }) in
      record { answer = rw e h.answer; frames = rw e h.frames; diags = rw e h.diags; work = o }

pub measured : {c : Setting} {t : List ℕ} (w : List ℕ) {v u : List ℕ} (x : Statements) {s : Answer} → Reads t w v (Ok x) → Needed c t v x.rows s
    → u ≡ replicate (length w) 0 → Measures c t w u s
measured {t = t} w x a g o = measured_by x (reading t (length w)) refl a g o

pub answered : {c : Setting} {t : List ℕ} (w : List ℕ) {v u f f' d d' : List ℕ} (x : Statements) {s : Answer} → Reads t w v (Ok x)
    → Answered c t v x.rows f f' d d' s → u ≡ replicate (length w) 0 → Writes c t w u f f' d d' s
answered {t = t} w x a g o = answered_by x (reading t (length w)) refl a g o
