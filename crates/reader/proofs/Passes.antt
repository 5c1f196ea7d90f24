-- What is passed, one stretch after the other; a single token; the end of the text.
-- Assumes nothing.
use mathlib.Core.Path.{◌≡◌, refl, sym, ap, ◌∙◌}
use mathlib.Core.Bool.{true, false}
use mathlib.Core.List.{List, [], ◌∷◌, ◌++◌, append_assoc}
use Prim.Native.Nat.{ℕ, ◌+◌, ◌-◌, ◌<◌, ◌≤◌}
use native.Mathlib.Omega.{arith}
use lib.ListN.{length, get_or, length-append}
use Rattle.paper.specs.Bytes.{white}
use Rattle.paper.specs.Tokens.{Token, key}
use Rattle.paper.specs.Comments.{Place, outside, inside, next, after, shown, visible}
use Rattle.paper.proofs.Comments.{after_append, visible_append, visible_few}
use Rattle.token.specs.Words.{tokens_from, token_of, Spans}
use Rattle.token.proofs.Words.{gap_step, tokens_skip, tokens_end}
use Rattle.token.specs.declared.cursor.Span.{Span}
use Rattle.token.specs.declared.cursor.Cursor.{Cursor}
use Rattle.reader.specs.Passed.{Passed, Gap, Shows}

-- white space before s
pub tokens_white : (t : List ℕ) (s : ℕ) → 0 < s → s ≤ length t → white (get_or t (s - 1) 0) ≡ true → tokens_from t (s - 1) ≡ tokens_from t s
tokens_white t s l h e =
    let q : (s - 1) + 1 ≡ s = omega arith in
    tokens_skip t (s - 1)
    ∙ ap (tokens_from t) (sym (rw q at (gap_step t (s - 1) (omega arith) e)))
    ∙ sym (tokens_skip t s)

pub passed_gap : {t : List ℕ} {i e : ℕ} (p : Place) → tokens_from t i ≡ tokens_from t e → Passed t i e p [] p
unfolding after visible
passed_gap p s = record { pre = []; split = s; shows = refl; place = refl }

pub passed_none : (t : List ℕ) (i : ℕ) (p : Place) → Passed t i i p [] p
passed_none t i p = passed_gap p refl

pub passed_then : {t : List ℕ} {i e f : ℕ} {p q r : Place} {ms ns : List Token} → Passed t i e p ms q → Passed t e f q ns r → Passed t i f p (ms ++ ns) r
passed_then {t} {i} {e} {f} {p} {q} {r} {ms} {ns} x y =
    record {
      pre = x.pre ++ y.pre;
      split = x.split ∙ ap (λ l. x.pre ++ l) y.split ∙ sym (append_assoc x.pre y.pre (tokens_from t f));
      shows = visible_append x.pre y.pre p ∙ rw (x.place, x.shows, y.shows);
      place = after_append x.pre y.pre p ∙ rw x.place y.place;
    }

-- to the end of the text, where no token is left
pub passed_end : {t : List ℕ} {i e : ℕ} {p q : Place} {ms : List Token} → Passed t i e p ms q → tokens_from t e ≡ [] → Passed t i (length t) p ms q
passed_end {t} x z =
    record {
      pre = x.pre;
      split = x.split ∙ ap (λ l. x.pre ++ l) (z ∙ sym (tokens_end t));
      shows = x.shows;
      place = x.place;
    }

-- no more visible tokens are passed than tokens
pub passed_few : {t : List ℕ} {i e : ℕ} {p q : Place} {ms : List Token} → Passed t i e p ms q → length ms + length (tokens_from t e) ≤ length (tokens_from t i)
passed_few {t} {i} {e} {p} {q} {ms} x =
    omega (arith, ap length x.split, length-append x.pre (tokens_from t e), visible_few x.pre p, ap length x.shows)

-- a single token
module _ {t : List ℕ} (i : ℕ) {x : Span} (s : tokens_from t i ≡ tokens_from t x.start) (h : Spans t x) where
  one : (p : Place) → Passed t i x.stop p (shown p (token_of t x) ++ []) (next p (token_of t x))
  unfolding after visible
  one p = record { pre = token_of t x ∷ []; split = s ∙ h.here; shows = refl; place = refl }

  pub pass_open : key 40 (token_of t x) ≡ true → Passed t i x.stop outside [] (inside x.start)
  pass_open e = rw e at (one outside)

  pub pass_shown : key 40 (token_of t x) ≡ false → Passed t i x.stop outside (token_of t x ∷ []) outside
  pass_shown e = rw e at (one outside)

  pub token_less : length (tokens_from t x.stop) < length (tokens_from t i)
  token_less = omega (arith, ap length s, ap length h.here)

-- where the cursor stands after it
pub shows_gap : {t : List ℕ} {i : ℕ} {x : Span} {c : Cursor} → Shows t i x c → Gap t c.at
shows_gap h = rw h.stands h.whole.closed

pub shows_within : {t : List ℕ} {i : ℕ} {x : Span} {c : Cursor} → Shows t i x c → c.at ≤ length t
shows_within h = rw h.stands h.whole.within

-- one comment after another before it
pub shows_after : {t : List ℕ} {i e : ℕ} {x : Span} {c : Cursor} → Passed t i e outside [] outside → i ≤ e → Shows t e x c → Shows t i x c
shows_after p l h =
    record { passed = passed_then p h.passed; onward = omega (arith, l, h.onward); whole = h.whole; stands = h.stands; lined = h.lined }
