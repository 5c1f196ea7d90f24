-- What an answer of the cursor tells a caller: this is all that a crate above needs of the cursor.
-- Assumes nothing.
use mathlib.Core.Path.{◌≡◌, refl, sym, ap, ◌∙◌}
use mathlib.Core.Bool.{false}
use mathlib.Core.List.{List, []}
use Prim.Native.Nat.{ℕ, ◌<◌}
use native.Mathlib.Omega.{arith}
use lib.Dec.{ltb}
use borrow.Author.Tests.{ltb-true, ltb-false}
use lib.ListN.{length, get_or, drop}
use Rattle.paper.specs.Bytes.{white}
use Rattle.paper.specs.Tokens.{label_token, math_token}
use Rattle.paper.specs.Lines.{line_at}
use Rattle.paper.proofs.Tests.{split}
use Rattle.token.specs.Class.{least}
use Rattle.token.specs.Words.{Lined, Spans, Read, word, past_gap, span_from, tokens_from, next_of}
use Rattle.token.specs.declared.cursor.Span.{Span}
use Rattle.token.specs.declared.cursor.Cursor.{Cursor}
use Rattle.std.specs.Prelude.{Option, Some, None}
use Rattle.token.proofs.Lines.{line_token}
use Rattle.token.proofs.Classes.{least_label, least_math}
use Rattle.token.proofs.Words.{tokens_skip, token_first, tokens_done, from_gap, stop_of, token_bytes, token_some, token_within, token_closed, gap_stops, tokens_next}

-- two pairs under `Some`, taken apart
pub pair_apart : {A B : Type 0} {x y : A} {u v : B} → ◌≡◌ {A = Option (A × B)} (Some (x, u)) (Some (y, v)) → (x ≡ y) × (u ≡ v)
pair_apart {A} {B} {x} {y} {u} {v} p =
    let q : ◌≡◌ {A = A × B} (x, u) (y, v) = cc in
    (ap (λ (z : A × B). z.0) q, ap (λ (z : A × B). z.1) q)

-- the cursor's answer, from what its steps answer
pub next_is : (t : List ℕ) (i : ℕ) (c : Cursor) (x : Span) → c.at ≡ past_gap t i → Lined t c → c.at < length t → x ≡ span_from t c c.at 4
    → Some (x, record { at = x.stop; line = c.line }) ≡ next_of t (tokens_from t i)
unfolding span_from
next_is t i c x p l h q = rw (q, l, p) (sym (ap (next_of t) (tokens_next t i (rw p at h))))

-- the answer at a token that starts at s
span_at : (t : List ℕ) (s : ℕ) → s < length t → white (get_or t s 0) ≡ false
    → Spans t (record { start = s; stop = stop_of t s; least = least (word (drop s t)) 4; line = line_at t s })
unfolding label_token math_token
span_at t s h g =
    let b = token_bytes t s h g in
    record {
      here = rw (← b) (token_first t s h g);
      some = token_some t s h g;
      within = token_within t s h g;
      closed = token_closed t s h g;
      label = rw (← b) (least_label (word (drop s t)));
      math = rw (← b) (least_math (word (drop s t)));
      lined = refl;
    }

pub read_token : (t : List ℕ) (i : ℕ) (x : Span) (c : Cursor) → Some (x, c) ≡ next_of t (tokens_from t i) → Read t i x c
read_token t i x c p =
    split (ltb (past_gap t i) (length t))
    (λ b.
    let h : past_gap t i < length t = ltb-true _ _ b in
    let s = past_gap t i in
    let q : Some (x, c) ≡ Some (record { start = s; stop = stop_of t s; least = least (word (drop s t)) 4; line = line_at t s }, record { at = stop_of t s; line = line_at t s }) = p ∙ ap (next_of t) (tokens_next t i h) in
    let e = pair_apart q in
    rw (e.0, e.1) (record { skip = tokens_skip t i; stands = refl; from = from_gap t i; whole = span_at t s h (gap_stops t i h); lined = sym (line_token t s) }))
    (λ b.
    let q : Some (x, c) ≡ None = p ∙ ap (next_of t) (tokens_done t i (ltb-false _ _ b)) in
    let z : ◌≡◌ {A = ℕ} 0 1 = cc in
    absurd (omega arith))

pub read_done : (t : List ℕ) (i : ℕ) → None ≡ next_of t (tokens_from t i) → tokens_from t i ≡ []
read_done t i p =
    split (ltb (past_gap t i) (length t))
    (λ b.
    let n = tokens_next t i (ltb-true _ _ b) in
    let s = past_gap t i in
    let q : None ≡ Some (record { start = s; stop = stop_of t s; least = least (word (drop s t)) 4; line = line_at t s }, record { at = stop_of t s; line = line_at t s }) = p ∙ ap (next_of t) n in
    let z : ◌≡◌ {A = ℕ} 0 1 = cc in
    absurd (omega arith))
    (λ b. tokens_done t i (ltb-false _ _ b))
