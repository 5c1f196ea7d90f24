-- The number of a reading, from the reader's promise.
-- Assumes nothing.
use mathlib.Core.Path.{◌≡◌, refl, ap, ◌∙◌}
use mathlib.Core.List.{List}
use Prim.Native.Nat.{ℕ}
use native.Mathlib.Omega.{arith}
use lib.ListN.{length}
use Rattle.std.specs.Prelude.{Ok, Err}
use Rattle.paper.specs.Statements.{Statement}
use Rattle.paper.specs.Reader.{Outcome, refused, given, reading}
use Rattle.paper.specs.Answer.{refusal_number, refusal_line}
use Rattle.paper.specs.declared.Refused.{Refused}
use Rattle.paper.specs.declared.Statements.{Statements}
use Rattle.reader.specs.Whole.{Answers, Reads}
use Rattle.reader_bench.specs.Number.{reading_number}

module _ (t v : List ℕ) (m : ℕ) where
  number_read : (s : Statements) (o : Outcome (List Statement)) → Answers t v m o (Ok s) → 0 ≡ reading_number o
  number_read s (refused x) h = let q = h.0 in let y : ◌≡◌ {A = ℕ} 0 1 = cc in absurd (omega (arith, y))
  number_read s (given l) h = refl

  number_refused : {n : ℕ} (r : Refused) (o : Outcome (List Statement)) → Answers t v m o (Err r) → n ≡ refusal_number r.refusal → n ≡ reading_number o
  number_refused r (refused x) h e =
      let q = h.0 in let c : r ≡ record { refusal = x; line = refusal_line t x } = cc in e ∙ ap (λ (y : Refused). refusal_number y.refusal) c
  number_refused r (given l) h e = let q = h.0 in let w : ◌≡◌ {A = ℕ} 0 1 = cc in absurd (omega (arith, w))

module _ (t v w : List ℕ) where
  pub read_number : (s : Statements) → Reads t w v (Ok s) → 0 ≡ reading_number (reading t (length w))
  read_number s h = number_read t v (length w) s (reading t (length w)) h

  pub refused_number : {n : ℕ} (r : Refused) → Reads t w v (Err r) → n ≡ refusal_number r.refusal → n ≡ reading_number (reading t (length w))
  refused_number r h e = number_refused t v (length w) r (reading t (length w)) h e
