-- What looking for the next token answers: a token that shows, a comment that is passed, or one that is refused.
-- A comment is refused by what is visible in it: the grammar stops at the first token that may not stand there, or 4 is earlier.
use mathlib.Core.Path.{◌≡◌, refl, sym, ap, ◌∙◌}
use Rattle.std.specs.Prelude.{Option, Some, Result, Ok, Err}
use mathlib.Core.Bool.{true, false}
use mathlib.Core.List.{List, [], ◌∷◌, ◌++◌, append-nil}
use Prim.Native.Nat.{ℕ, ◌<◌, ◌≤◌}
use native.Mathlib.Omega.{arith}
use lib.Dec.{leb}
use lib.ListN.{length}
use borrow.Author.Tests.{le-leb, lt-ltb, leb-true}
use Rattle.paper.specs.Base.{all}
use Rattle.paper.specs.Tokens.{Token, key}
use Rattle.paper.specs.Comments.{Place, outside, inside, bracketed, visible}
use Rattle.paper.specs.Statements.{Item}
use Rattle.paper.specs.Reader.{Mode, go, stop, with_items, many, refused, ending}
use Rattle.paper.specs.declared.Refusal.{Refusal}
use Rattle.paper.specs.declared.Refused.{Refused}
use Rattle.paper.specs.declared.Refusal.TheVariants.{OpenComment, BadToken}
use Rattle.paper.proofs.Tests.{split, clash}
use Rattle.paper.proofs.Keys.{math_no_key}
use Rattle.paper.proofs.Allowed.{bracket_stops}
use Rattle.paper.proofs.Comments.{visible_append}
use Rattle.token.proofs.Words.{tokens_end}
use Rattle.token.proofs.Read.{read_token}
use Rattle.token.specs.Words.{tokens_from, token_of, next_of, Spans, Read}
use Rattle.token.specs.declared.cursor.Span.{Span}
use Rattle.token.specs.declared.cursor.Cursor.{Cursor}
use Rattle.reader.specs.declared.comment.Comment.TheVariants as comment
use Rattle.reader.specs.Passed.{Passed, Commented, Shows, spoilt, Refuses, Skipped, Seen}
use Rattle.reader.proofs.Passes.{passed_then, passed_few, pass_open, pass_shown, token_less}
use Rattle.reader.proofs.After.{earlier_token}
use Rattle.reader.proofs.Grammar.{many_stop, reached_run, whole_on, to_end}

-- ---- an answer that is a token
pub took : {t : List ℕ} {i : ℕ} {p : Span × Cursor} {a : Option (Span × Cursor)} → a ≡ Some p → a ≡ next_of t (tokens_from t i) → Read t i p.0 p.1
took {t} {i} {p} e h = read_token t i p.0 p.1 (sym e ∙ h)

pub shown : {t : List ℕ} {i : ℕ} {p : Span × Cursor} {o : Option (Span × Cursor)} {a : Result (Option (Span × Cursor)) Refused}
    → a ≡ Ok o → o ≡ Some p → Seen t i a → Shows t i p.0 p.1
shown e f h = rw (e, f) at h

-- ---- what may not stand in a comment
many_bad : (y : Token) (l : List Token) (m : Mode) (d : ℕ) (j : List Item) → bracketed y.bytes ≡ true → many (y ∷ l) (go m d j) ≡ stop y.at
unfolding many
many_bad y l m d j e = ap (λ z. many l (with_items j z)) (bracket_stops m d y e) ∙ many_stop l y.at

-- a comment never closed hides what is spoilt in it: its `$(` is the earlier token
open_first : (ms : List Token) (a p : ℕ) (m : Mode) (d : ℕ) (j : List Item) (n : ℕ) → p < a
    → all (λ y. bracketed y.bytes) ms ≡ true → all (λ y. leb a y.at) ms ≡ true
    → ending (many ms (go m d j)) (inside p) n ≡ refused (OpenComment p)
unfolding many all
open_first [] a p m d j n l b f = refl
open_first (y ∷ ms) a p m d j n l b f =
    split (bracketed y.bytes)
    (λ e. split (leb a y.at)
    (λ g. rw (many_bad y ms m d j e, lt-ltb p y.at (omega (arith, leb-true a y.at g))))
    (λ g. absurd (clash (sym (rw g at f)))))
    (λ e. absurd (clash (sym (rw e at b))))

spoilt_all : (ms : List Token) → all (λ y. bracketed y.bytes) ms ≡ true → spoilt ms ≡ true
unfolding all
spoilt_all [] b = refl
spoilt_all (y ∷ ms) b =
    split (bracketed y.bytes) (λ e. e) (λ e. absurd (clash (sym (rw e at b))))

-- what is visible from i on
visible_on : {t : List ℕ} {i e : ℕ} {q : Place} {ms : List Token} → Passed t i e outside ms q → visible (tokens_from t i) outside ≡ ms ++ visible (tokens_from t e) q
visible_on {t} {i} {e} x =
    ap (λ (l : List Token). visible l outside) x.split
    ∙ visible_append x.pre (tokens_from t e) outside
    ∙ rw (x.shows, x.place)

-- ---- the first token from i on, which begins no comment
module _ {t : List ℕ} {i : ℕ} {x : Span} {c : Cursor} (r : Read t i x c) where
  pub look_plain : key 40 (token_of t x) ≡ false → Shows t i x c
  look_plain e = record { passed = rw r.stands (pass_shown i r.skip r.whole e); onward = r.from; whole = r.whole; stands = r.stands; lined = r.lined }

  pub look_math : 3 ≤ x.least → Shows t i x c
  look_math h = look_plain (math_no_key 40 (token_of t x) (sym r.whole.math ∙ le-leb 3 x.least h))

-- ---- a token that begins one
module _ {t : List ℕ} {x : Span} (c : Cursor) (h : Spans t x) (o : key 40 (token_of t x) ≡ true) (s : c.at ≡ x.stop) where
  opened : Passed t x.start c.at outside [] (inside x.start)
  opened = rw s (pass_open x.start refl h o)

  pub skip_closed : {a : Cursor} → Commented t c.at (comment.Closed a) → Skipped t x.start (Ok a)
  skip_closed g = (
    passed_then opened (g.0 x.start),
    omega (arith, passed_few (g.0 x.start), ap (λ (k : ℕ). length (tokens_from t k)) s, token_less x.start refl h),
    omega (arith, g.1, h.some, s),
    g.2,
  )

  -- never closed
  pub skip_open : Commented t c.at comment.Never → Skipped t x.start (Err (record { refusal = OpenComment x.start; line = x.line }))
  unfolding visible
  skip_open g =
      let u = g x.start in
      let p = passed_then opened u.passed in
      record {
        items_are = λ {c = k} {d} {m} {j} g.
            to_end g p (length t)
            ∙ open_first u.ms c.at x.start m d j (length t) (omega (arith, h.some, s)) u.bad u.later;
        first = rw (visible_on p, tokens_end t, append-nil u.ms) (spoilt_all u.ms u.bad);
        line = h.lined;
      }

  -- closed, with a token that may not stand in it
  pub skip_bad : {b : Cursor} → Commented t c.at (comment.Bad b) → Skipped t x.start (Err (record { refusal = BadToken b.at; line = b.line }))
  skip_bad {b} g =
      let u = g.0 x.start in
      let p = passed_then opened u.passed in
      record {
        items_are = λ {c = k} {d} {m} {j} g.
            whole_on g p (length t)
            ∙ rw (many_bad u.token [] m d j u.bad, many_stop (visible (tokens_from t u.stop) (inside x.start)) u.token.at, u.closes, u.at)
            (ap refused (earlier_token t b.at u.shut u.before));
        first = rw (visible_on p) u.bad;
        line = g.1;
      }

-- one comment after another before it
pub refuses_after : {t : List ℕ} {i e : ℕ} {x : Refusal} {l : ℕ} → Passed t i e outside [] outside → Refuses t e x l → Refuses t i x l
unfolding many
refuses_after p h =
    record {
      items_are = λ g. h.items_are (reached_run g p refl);
      first = rw (visible_on p) h.first;
      line = h.line;
    }
