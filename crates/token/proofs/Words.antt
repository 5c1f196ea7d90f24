-- The tokens from an offset on, byte by byte and token by token: white space is passed, and the first word is the first token.
-- Assumes nothing.
use mathlib.Core.Path.{◌≡◌, refl, ap, ◌∙◌}
use mathlib.Core.Bool.{true, false}
use mathlib.Core.List.{List, [], ◌∷◌}
use Prim.Native.Nat.{ℕ, suc, ◌+◌, ◌-◌, ◌<◌, ◌≤◌, min, zero-le, suc-le-suc}
use native.Mathlib.Nat.{add-zero, add-suc, suc-add, not-suc-le-zero}
use native.Mathlib.Numerals.{add-one}
use native.Mathlib.Omega.{arith}
use lib.ListN.{length, get_or, take, drop, drop_of_length-le, length-drop}
use lib.Seq.{drop-cons, drop-drop, drop-length, get_or-drop}
use Rattle.paper.specs.Bytes.{white}
use Rattle.paper.specs.Tokens.{Token, put, run, toks}
use Rattle.paper.proofs.Tests.{split}
use Rattle.token.specs.Class.{class, least}
use Rattle.token.specs.Words.{gap, word, past_gap, span_from, tokens_from}
use Rattle.token.specs.declared.cursor.Cursor.{Cursor}

-- ---- byte by byte: at the end, where it stops, where it goes on
module _ (t : List ℕ) (i : ℕ) where
  pub gap_end : length t ≤ i → past_gap t i ≡ i
  unfolding gap past_gap
  gap_end h = rw drop_of_length-le (add-zero i)

  pub gap_stop : i < length t → white (get_or t i 0) ≡ false → past_gap t i ≡ i
  unfolding gap past_gap
  gap_stop h e = rw (drop-cons t i 0, e) (add-zero i)

  pub gap_step : i < length t → white (get_or t i 0) ≡ true → past_gap t (i + 1) ≡ past_gap t i
  unfolding gap past_gap
  gap_step h e = rw (add-one, drop-cons t i 0, e) (omega arith)

  pub span_end : (c : Cursor) (a : ℕ) → length t ≤ i → span_from t c i a ≡ record { start = c.at; stop = i; least = a; line = c.line }
  unfolding word least span_from
  span_end c a h = rw (drop_of_length-le, add-zero)

  pub span_stop : (c : Cursor) (a : ℕ) → i < length t → white (get_or t i 0) ≡ true → span_from t c i a ≡ record { start = c.at; stop = i; least = a; line = c.line }
  unfolding word least span_from
  span_stop c a h e = rw (drop-cons t i 0, e, add-zero)

  pub span_step : (c : Cursor) (a : ℕ) → i < length t → white (get_or t i 0) ≡ false
      → span_from t c (i + 1) (min a (class (get_or t i 0))) ≡ span_from t c i a
  unfolding word least span_from
  span_step c a h e = rw (add-one, drop-cons t i 0, e, add-suc, suc-add)

-- ---- token by token, by the list
run_head : (l : List ℕ) (o : ℕ) → (run l o).head ≡ word l
unfolding run word
run_head [] o = refl
run_head (b ∷ l) o = split (white b) (λ e. rw e) (λ e. rw e (ap (λ (h : List ℕ). b ∷ h) (run_head l (suc o))))

run_rest : (l : List ℕ) (o : ℕ) → (run l o).rest ≡ toks (drop (length (word l)) l) (o + length (word l))
unfolding run word toks
run_rest [] o = refl
run_rest (b ∷ l) o =
    split (white b)
    (λ e. rw (e, add-zero, e))
    (λ e. rw e (run_rest l (suc o) ∙ rw (suc-add, add-suc)))

toks_gap : (l : List ℕ) (o : ℕ) → toks l o ≡ toks (drop (gap l) l) (o + gap l)
unfolding run toks gap
toks_gap [] o = refl
toks_gap (b ∷ l) o =
    split (white b)
    (λ e. rw e (toks_gap l (suc o) ∙ rw (suc-add, add-suc)))
    (λ e. rw (e, add-zero, e))

put_word : (b : ℕ) (l : List ℕ) (o : ℕ) (r : List Token) → white b ≡ false → put o (word (b ∷ l)) r ≡ record { at = o; bytes = word (b ∷ l) } ∷ r
unfolding word
put_word b l o r e = rw e

toks_word : (l : List ℕ) (o : ℕ) → 0 < length l → white (get_or l 0 0) ≡ false
    → toks l o ≡ record { at = o; bytes = word l } ∷ toks (drop (length (word l)) l) (o + length (word l))
unfolding toks
toks_word [] o h e = absurd (not-suc-le-zero h)
toks_word (b ∷ l) o h e = rw (run_head (b ∷ l) o, run_rest (b ∷ l) o) (put_word b l o _ e)

-- ---- the first word of some bytes
pub word_take : (l : List ℕ) → word l ≡ take (length (word l)) l
unfolding word
word_take [] = refl
word_take (b ∷ l) = split (white b) (λ e. rw e) (λ e. rw e (ap (λ (h : List ℕ). b ∷ h) (word_take l)))

word_le : (l : List ℕ) → length (word l) ≤ length l
unfolding word
word_le [] = zero-le
word_le (b ∷ l) = split (white b) (λ e. rw e zero-le) (λ e. rw e (suc-le-suc (word_le l)))

word_some : (l : List ℕ) → 0 < length l → white (get_or l 0 0) ≡ false → 0 < length (word l)
unfolding word
word_some [] h e = absurd (not-suc-le-zero h)
word_some (b ∷ l) h e = rw e (omega arith)

word_closed : (l : List ℕ) → length (word l) < length l → white (get_or l (length (word l)) 0) ≡ true
unfolding word
word_closed [] h = absurd (not-suc-le-zero h)
word_closed (b ∷ l) h =
    split (white b)
    (λ e. rw (e, e))
    (λ e. rw e (word_closed l (omega (arith, rw e at h))))

gap_closed : (l : List ℕ) → gap l < length l → white (get_or l (gap l) 0) ≡ false
unfolding gap
gap_closed [] h = absurd (not-suc-le-zero h)
gap_closed (b ∷ l) h =
    split (white b)
    (λ e. rw e (gap_closed l (omega (arith, rw e at h))))
    (λ e. rw (e, e))

-- ---- token by token, by the offset
module _ (t : List ℕ) (i : ℕ) where
  pub tokens_skip : tokens_from t i ≡ tokens_from t (past_gap t i)
  unfolding tokens_from past_gap
  tokens_skip = toks_gap (drop i t) i ∙ rw drop-drop

  pub tokens_done : length t ≤ past_gap t i → tokens_from t i ≡ []
  unfolding run toks tokens_from
  tokens_done h = tokens_skip ∙ rw (drop_of_length-le t)

  pub from_gap : i ≤ past_gap t i
  unfolding past_gap
  from_gap = omega arith

-- no token from the end on
pub tokens_end : (t : List ℕ) → tokens_from t (length t) ≡ []
unfolding tokens_from toks run
tokens_end t = rw drop-length

abbrev pub stop_of : List ℕ → ℕ → ℕ
stop_of t s = s + length (word (drop s t))

-- a token starts at s: it is the first from there, and the others start from its end
module _ (t : List ℕ) (s : ℕ) (h : s < length t) (e : white (get_or t s 0) ≡ false) where
  first_byte : white (get_or (drop s t) 0 0) ≡ false
  first_byte = rw (get_or-drop, add-zero) e

  pub token_first : tokens_from t s ≡ record { at = s; bytes = word (drop s t) } ∷ tokens_from t (stop_of t s)
  unfolding tokens_from
  token_first = toks_word (drop s t) s (omega (arith, length-drop s t)) first_byte ∙ rw drop-drop

  pub token_bytes : word (drop s t) ≡ take (stop_of t s - s) (drop s t)
  token_bytes =
      let q : stop_of t s - s ≡ length (word (drop s t)) = omega arith in
      rw q (word_take (drop s t))

  pub token_some : s < stop_of t s
  token_some = omega (arith, word_some (drop s t) (omega (arith, length-drop s t)) first_byte)

  pub token_within : stop_of t s ≤ length t
  token_within = omega (arith, word_le (drop s t), length-drop s t)

  pub token_closed : stop_of t s < length t → white (get_or t (stop_of t s) 0) ≡ true
  token_closed k = rw get_or-drop at (word_closed (drop s t) (omega (arith, length-drop s t)))

module _ (t : List ℕ) (i : ℕ) (h : past_gap t i < length t) where
  pub gap_stops : white (get_or t (past_gap t i) 0) ≡ false
  unfolding past_gap
  gap_stops = rw get_or-drop at (gap_closed (drop i t) (omega (arith, length-drop i t)))

  pub tokens_next : tokens_from t i ≡ record { at = past_gap t i; bytes = word (drop (past_gap t i) t) } ∷ tokens_from t (stop_of t (past_gap t i))
  tokens_next = tokens_skip t i ∙ token_first t (past_gap t i) h gap_stops
