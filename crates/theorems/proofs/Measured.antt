-- The measure and the writer, proved: both look at the same reading and at the same first crowded frame.
-- Assumes nothing.
use mathlib.Core.Path.{◌≡◌, ◌∙◌}
use mathlib.Core.List.{List, []}
use mathlib.Core.Option.{Option, none, some}
use Prim.Native.Nat.{ℕ, zero, suc, ◌≤◌}
use native.Mathlib.Omega.{arith}
use lib.Dec.{ltb}
use lib.ListN.{length}
use borrow.Author.Tests.{lt-ltb, le-ltb}
use Rattle.paper.specs.Base.{find}
use Rattle.paper.specs.Tokens.{tokens, bad_from}
use Rattle.paper.specs.Comments.{Place, outside, inside, after, visible}
use Rattle.paper.specs.Statements.{Statement, Item}
use Rattle.paper.specs.Reader.{Mode, start, named, math, proof, Step, go, stop, many, Outcome, refused, given, finish, ending, items, with_ends, printed, words, reading}
use Rattle.paper.specs.Frames.{Frame}
use Rattle.paper.specs.Give.{Given, all_given}
use Rattle.paper.specs.Answer.{refusal_number, number, crowded, frames_in, Streams, streams, unless_crowded, measured, measured_of, measuring, measure, fitting, written, outcome, answer_of, answer}
use Rattle.paper.specs.declared.Setting.{Setting}
use Rattle.paper.proofs.Tests.{split, by_option}
use Rattle.theorems.specs.Measured.{written_as, AsMeasured, MeasuredFits, NeverShort}
use Rattle.theorems.proofs.Refusals.{by_outcome}

-- ---- the writer's answer by the measure's
by_buffers : (t : List ℕ) (s : Streams) (f d : ℕ) → answer_of t (fitting s f d) ≡ written_as (answer_of t (given s)) f d
by_buffers t s f d =
    split (ltb f (length s.frames))
    (λ a. rw a)
    (λ a. split (ltb d (length s.diags)) (λ b. rw (a, b)) (λ b. rw (a, b)))

by_given : (c : Setting) (t : List ℕ) (l : List Given) (f d : ℕ) → answer_of t (written c l f d) ≡ written_as (answer_of t (measured c l)) f d
unfolding written measured
by_given c t l f d =
    by_option (find crowded (frames_in l)) (λ x e. rw e) (λ e. rw e (by_buffers t (streams c l) f d))

pub as_measured : AsMeasured
unfolding answer outcome measure measuring
as_measured c t w f d =
    by_outcome (reading t w) (λ r e. rw e) (λ l e. rw e (by_given c t (all_given l) f d))

pub measured_fits : MeasuredFits
measured_fits c t w f d =
    record {
      done = λ {s} e h k. as_measured c t w f d ∙ rw (e, le-ltb f s.frames h, le-ltb d s.diags k);
      short_frames = λ {s} e h. as_measured c t w f d ∙ rw (e, lt-ltb f s.frames h);
      short_diags = λ {s} e h k. as_measured c t w f d ∙ rw (e, le-ltb f s.frames h, lt-ltb d s.diags k);
      refused = λ e. as_measured c t w f d ∙ rw e;
    }

-- ---- the measure's numbers
abbrev told : {A : Type 0} → Outcome A → ℕ
told (refused r) = refusal_number r
told (given a) = 0

finish_told : (m : Mode) (d : ℕ) (i : List Item) (n : ℕ) → told (finish m d i n) ≤ 7
finish_told start zero i n = omega arith
finish_told start (suc d) i n = omega arith
finish_told (named t) d i n = omega arith
finish_told (math k o l m) d i n = omega arith
finish_told (proof o l m p) d i n = omega arith

ending_told : (x : Step) (p : Place) (n : ℕ) → told (ending x p n) ≤ 7
ending_told (stop o) outside n = omega arith
ending_told (stop o) (inside c) n =
    split (ltb c o)
    (λ e. let k : told (ending (stop o) (inside c) n) ≡ 4 = rw e in omega (arith, k))
    (λ e. let k : told (ending (stop o) (inside c) n) ≡ 5 = rw e in omega (arith, k))
ending_told (go m d i) outside n = finish_told m d i n
ending_told (go m d i) (inside o) n = omega arith

ends_told : (o : Outcome (List Item)) → told o ≤ 7 → told (with_ends o) ≤ 7
ends_told (refused r) h = h
ends_told (given i) h = omega arith

printed_told : (o : Option ℕ) (r : Outcome (List Statement)) → told r ≤ 7 → told (printed o r) ≤ 7
printed_told none r h = h
printed_told (some o) r h = omega arith

items_told : (t : List ℕ) (n : ℕ) → told (items (tokens t) n) ≤ 7
unfolding items
items_told t n = ending_told (many (visible (tokens t) outside) (go start 0 [])) (after (tokens t) outside) n

reading_told : (t : List ℕ) (w : ℕ) → told (reading t w) ≤ 7
unfolding reading
reading_told t w =
    split (ltb 16777216 (length t))
    (λ a. rw a (omega arith))
    (λ a. split (ltb w (words t))
    (λ b. rw (a, b) (omega arith))
    (λ b. rw (a, b) (printed_told (bad_from t 0) _ (ends_told (items (tokens t) (length t)) (items_told t (length t))))))

crowded_told : (c : Setting) (o : Option Frame) (l : List Given) → told (unless_crowded c o l) ≤ 7
crowded_told c (some x) l = omega arith
crowded_told c none l = omega arith

measured_told : (c : Setting) (o : Outcome (List Statement)) → told o ≤ 7 → told (measured_of c o) ≤ 7
unfolding measured
measured_told c (refused r) h = h
measured_told c (given l) h = crowded_told c (find crowded (frames_in (all_given l))) (all_given l)

number_told : (t : List ℕ) (o : Outcome Streams) → told o ≤ 7 → number (answer_of t o) ≤ 7
number_told t (refused r) h = h
number_told t (given s) h = h

pub never_short : NeverShort
unfolding measure measuring
never_short c t w = number_told t (measured_of c (reading t w)) (measured_told c (reading t w) (reading_told t w))
