-- Refusals: what a text that is answered with number 0 has passed, and that it suffices.
-- For the lemma S3 of the proof on paper.
use mathlib.Core.Path.{◌≡◌, refl}
use mathlib.Core.Bool.{true, false}
use mathlib.Core.List.{List, [], ◌∷◌}
use mathlib.Core.Option.{none, some}
use Prim.Native.Nat.{ℕ, zero, suc, ◌≤◌}
use native.Mathlib.Omega.{arith}
use lib.Dec.{ltb}
use lib.ListN.{length, replicate}
use borrow.Author.Tests.{le-ltb, ltb-false}
use Rattle.paper.specs.Base.{or, find}
use Rattle.paper.specs.Bytes.{white, printable}
use Rattle.paper.specs.Tokens.{tokens, bad_from}
use Rattle.paper.specs.Statements.{Statement, Item, ends}
use Rattle.paper.specs.Reader.{Outcome, refused, given, items, with_ends, words, reading}
use Rattle.paper.specs.Give.{Given, all_given}
use Rattle.paper.specs.Answer.{refusal_number, number, crowded, frame_at, frames_in, Streams, fitting, streams, written, outcome, answer}
use Rattle.paper.specs.declared.Setting.{Setting}
use Rattle.paper.specs.declared.Refusal.{Refusal}
use Rattle.paper.specs.declared.Refusal.TheVariants.{LongText, ShortWork, BadByte, OpenComment, BadToken, OpenText, ManyVariables, ShortFrames, ShortDiags}
use Rattle.paper.proofs.Tests.{split, by_option, clash}
use Rattle.paper.proofs.Alls.{All, all_none, all_more}

-- ---- an outcome is a refusal or given
pub by_outcome : {A P : Type 0} (o : Outcome A) → ((r : Refusal) → o ≡ refused r → P) → ((a : A) → o ≡ given a → P)
    → P
by_outcome (refused r) f g = f r refl
by_outcome (given a) f g = g a refl

pub not_given : {A P : Type 0} {r : Refusal} {a : A} → refused r ≡ given a → P
not_given e = let c : ◌≡◌ {A = ℕ} 0 1 = cc in absurd (omega arith)

-- ---- number 3: white space and printable bytes only
abbrev pub Good : ℕ → Type 0
Good b = or (white b) (printable b) ≡ true

pub clean_good : (l : List ℕ) (o : ℕ) → bad_from l o ≡ none → All Good l
unfolding bad_from
clean_good [] o e = all_none
clean_good (b ∷ l) o e =
    split (or (white b) (printable b))
    (λ h. all_more h (clean_good l (suc o) (rw h at e)))
    (λ h. let z : some o ≡ none = rw h at e in let y : true ≡ false = cc in absurd (clash y))

pub good_clean : {l : List ℕ} → All Good l → (o : ℕ) → bad_from l o ≡ none
unfolding bad_from
good_clean all_none o = refl
good_clean (all_more h a) o = rw h (good_clean a (suc o))

pub blanks_good : (n : ℕ) → All Good (replicate n 32)
unfolding white printable
blanks_good zero = all_none
blanks_good (suc n) = all_more refl (blanks_good n)

-- ---- numbers 1 to 6
pub record Passed (t : List ℕ) (w : ℕ) (l : List Statement) : Type 0 where
  pub small : length t ≤ 16777216
  pub room : words t ≤ w
  pub clean : bad_from t 0 ≡ none
  pub read : List Item
  pub reads : items (tokens t) (length t) ≡ given read
  pub statements : l ≡ ends read []

pub ended_given : (o : Outcome (List Item)) {l : List Statement} → with_ends o ≡ given l
    → (i : List Item) × (o ≡ given i) × (l ≡ ends i [])
ended_given (refused r) e = not_given e
ended_given (given i) {l} e = (i, refl, cc)

pub passed : (t : List ℕ) (w : ℕ) (l : List Statement) → reading t w ≡ given l → Passed t w l
unfolding reading
passed t w l e =
    split (ltb 16777216 (length t))
    (λ a. not_given {A = List Statement} {r = LongText} {a = l} (rw a at e))
    (λ a. split (ltb w (words t))
    (λ b. not_given {A = List Statement} {r = ShortWork (words t)} {a = l} (rw (a, b) at e))
    (λ b. by_option (bad_from t 0)
    (λ o c. not_given {A = List Statement} {r = BadByte o} {a = l} (rw (a, b, c) at e))
    (λ c.
    let k = ended_given (items (tokens t) (length t)) (rw (a, b, c) at e) in
    record {
      small = ltb-false 16777216 (length t) a;
      room = ltb-false w (words t) b;
      clean = c;
      read = k.0;
      reads = k.1;
      statements = k.2;
    })))

pub passing : (t : List ℕ) (w : ℕ) (l : List Statement) → Passed t w l → reading t w ≡ given l
unfolding reading
passing t w l h =
    rw (le-ltb 16777216 (length t) h.small, le-ltb w (words t) h.room, h.clean, h.reads, ← h.statements)

-- ---- numbers 7 to 9
pub record Fits (c : Setting) (l : List Given) (f d : ℕ) : Type 0 where
  pub uncrowded : find crowded (frames_in l) ≡ none
  pub frames_fit : length (streams c l).frames ≤ f
  pub diags_fit : length (streams c l).diags ≤ d

fitted : (c : Setting) (l : List Given) (f d : ℕ) (s : Streams) → fitting (streams c l) f d ≡ given s
    → (length (streams c l).frames ≤ f) × (length (streams c l).diags ≤ d) × (streams c l ≡ s)
fitted c l f d s e =
    split (ltb f (length (streams c l).frames))
    (λ a. not_given {A = Streams} {r = ShortFrames (length (streams c l).frames)} {a = s} (rw a at e))
    (λ a. split (ltb d (length (streams c l).diags))
    (λ b. not_given {A = Streams} {r = ShortDiags (length (streams c l).diags)} {a = s} (rw (a, b) at e))
    (λ b.
    let g : given (streams c l) ≡ given s = rw (a, b) at e in
    (ltb-false f (length (streams c l).frames) a, ltb-false d (length (streams c l).diags) b, cc)))

pub fits : (c : Setting) (l : List Given) (f d : ℕ) (s : Streams) → written c l f d ≡ given s → Fits c l f d × (streams c l ≡ s)
unfolding written
fits c l f d s e =
    by_option (find crowded (frames_in l))
    (λ x a. not_given {A = Streams} {r = ManyVariables (frame_at x)} {a = s} (rw a at e))
    (λ a.
    let k = fitted c l f d s (rw a at e) in
    (record { uncrowded = a; frames_fit = k.0; diags_fit = k.1 }, k.2))

pub fitting_fits : (c : Setting) (l : List Given) (f d : ℕ) → Fits c l f d → written c l f d ≡ given (streams c l)
unfolding written
fitting_fits c l f d h =
    rw (h.uncrowded, le-ltb f (length (streams c l).frames) h.frames_fit, le-ltb d (length (streams c l).diags) h.diags_fit)

-- ---- the whole
pub record Answered (c : Setting) (t : List ℕ) (w f d : ℕ) (s : Streams) : Type 0 where
  pub statements : List Statement
  pub passes : reading t w ≡ given statements
  pub fit : Fits c (all_given statements) f d
  pub are : streams c (all_given statements) ≡ s

pub answered : (c : Setting) (t : List ℕ) (w f d : ℕ) (s : Streams) → outcome c t w f d ≡ given s → Answered c t w f d s
unfolding outcome
answered c t w f d s e =
    by_outcome (reading t w)
    (λ r a. not_given {A = Streams} {r = r} {a = s} (rw a at e))
    (λ l a.
    let k = fits c (all_given l) f d s (rw a at e) in
    record { statements = l; passes = a; fit = k.0; are = k.1 })

pub answering : (c : Setting) (t : List ℕ) (w f d : ℕ) (l : List Statement) → reading t w ≡ given l → Fits c (all_given l) f d
    → outcome c t w f d ≡ given (streams c (all_given l))
unfolding outcome
answering c t w f d l e h = rw e (fitting_fits c (all_given l) f d h)

no_zero : (r : Refusal) → refusal_number r ≡ 0 → ⊥
no_zero LongText e = omega arith
no_zero (ShortWork p) e = omega arith
no_zero (BadByte p) e = omega arith
no_zero (OpenComment p) e = omega arith
no_zero (BadToken p) e = omega arith
no_zero (OpenText p) e = omega arith
no_zero (ManyVariables p) e = omega arith
no_zero (ShortFrames p) e = omega arith
no_zero (ShortDiags p) e = omega arith

-- number 0 is a text with streams
pub number_zero : (c : Setting) (t : List ℕ) (w f d : ℕ) → number (answer c t w f d) ≡ 0 → (s : Streams) × (outcome c t w f d ≡ given s)
unfolding answer
number_zero c t w f d e =
    by_outcome (outcome c t w f d)
    (λ r a. absurd (no_zero r (rw a at e)))
    (λ s a. (s, a))
