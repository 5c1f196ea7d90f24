-- Segments as one text, proved: the reading by the tokens of the segments joined, the scope by the order of offsets.
-- One segment alone is a text.
use mathlib.Core.Path.{◌≡◌, refl, sym, ap, ◌∙◌}
use mathlib.Core.Bool.{true}
use mathlib.Core.List.{List, [], ◌∷◌, map, append-nil}
use mathlib.Core.Option.{Option, none, some}
use Prim.Native.Nat.{ℕ, ◌+◌, ◌<◌, ◌≤◌}
use native.Mathlib.Nat.{add-zero}
use native.Mathlib.Omega.{arith}
use lib.Dec.{ltb}
use lib.ListN.{length, take, drop, length-take, length-drop}
use lib.Seq.{take-length}
use borrow.Author.Tests.{ne_eqb, eq-eqb, eqb-true, ltb-false}
use Rattle.paper.specs.Base.{or_else}
use Rattle.paper.specs.Tokens.{toks, tokens, bad_from}
use Rattle.paper.specs.Statements.{Statement, none_end, Item, ends}
use Rattle.paper.specs.Reader.{Outcome, refused, given, items, with_ends, printed, words, reading}
use Rattle.paper.specs.Segments.{segments, sum, laid_out, segment_tokens, segment_bad, and_then, segment_items, bad_lengths, well_laid, segment_words, looking, segment_reading}
use Rattle.paper.specs.Give.{all_given}
use Rattle.paper.specs.declared.Refusal.TheVariants.{LongText, ShortWork}
use Rattle.paper.proofs.Tests.{split, clash}
use Rattle.paper.proofs.Alls.{All, all_none, all_more}
use Rattle.theorems.specs.Moved.{moved_end, moved_statement, Rises}
use Rattle.theorems.specs.Joined.{joined, address_in, AsOneText, Joined, Single}
use Rattle.theorems.proofs.Stands.{ItemAt, reads_at}
use Rattle.theorems.proofs.Texts.{read_items, read_reads, shown_at}
use Rattle.theorems.proofs.Refusals.{not_given, good_clean}
use Rattle.theorems.proofs.MovedNames.{at_least}
use Rattle.theorems.proofs.Moved.{moves}
use Rattle.theorems.proofs.MovedReading.{read_moved, ends_moved, ends_placed}
use Rattle.theorems.proofs.Addresses.{Small, by_leb, addresses_rise}
use Rattle.theorems.proofs.SegmentTokens.{tokens_joined}
use Rattle.theorems.proofs.SegmentReads.{segments_read, segments_good, joined_good, looked}

-- ---- one segment is a text
one_items : (z : Outcome (List Item)) → and_then z (given []) ≡ z
one_items (refused r) = refl
one_items (given i) = rw (append-nil i)

one_bad : {A : Type 0} (z : Option A) → or_else z none ≡ z
one_bad none = refl
one_bad (some x) = refl

looking_one : (t : List ℕ) → looking (t ∷ []) ≡ printed (bad_from t 0) (with_ends (items (tokens t) (length t)))
unfolding looking segment_bad segment_items tokens
looking_one t =
    let n : 0 + length t ≡ length t = omega arith in
    rw (one_bad (bad_from t 0), one_items (items (toks t 0) (0 + length t)))
    (ap (λ (m : ℕ). printed (bad_from t 0) (with_ends (items (toks t 0) m))) n)

pub single : Single
unfolding segment_reading reading laid_out sum segments segment_words segment_tokens words tokens
single t w =
    rw (eq-eqb (length t + 0) (length t) (add-zero (length t)), take-length t, append-nil (toks t 0), looking_one t)

-- ---- the segments of a buffer
pub segments_count : (l t : List ℕ) → length (segments l t) ≡ length l
unfolding segments
segments_count [] t = refl
segments_count (n ∷ l) t = omega (arith, segments_count l (drop n t))

pub segments_small : (l t : List ℕ) → Small t → All Small (segments l t)
unfolding segments
segments_small [] t h = all_none
segments_small (n ∷ l) t h =
    all_more {x = take n t} (omega (arith, length-take n t)) (segments_small l (drop n t) (omega (arith, length-drop n t)))

-- what a catalogue with which nothing is refused has passed
pub record Well (l t : List ℕ) (k : List Statement) : Type 0 where
  pub few : length l ≤ 64
  pub adds : sum l ≡ length t
  pub small : Small t
  pub looks : looking (segments l t) ≡ given k

laid_facts : (l t : List ℕ) → laid_out l t ≡ true → (length l ≤ 64) × (sum l ≡ length t)
unfolding laid_out
laid_facts l t e =
    by_leb (length l) 64
    (λ h g. (h, eqb-true (sum l) (length t) (rw g at e)))
    (λ h g. absurd (clash (sym (rw g at e))))

not_laid : {A P : Type 0} {a : A} → bad_lengths ≡ well_laid a → P
not_laid e = let c : ◌≡◌ {A = ℕ} 0 1 = cc in absurd (omega arith)

laid_same : {A : Type 0} {a b : A} → well_laid a ≡ well_laid b → a ≡ b
laid_same e = cc

pub well : (l t : List ℕ) (w : ℕ) (k : List Statement) → segment_reading l t w ≡ well_laid (given k) → Well l t k
unfolding segment_reading
well l t w k e =
    let s = segments l t in
    split (laid_out l t)
    (λ a. split (ltb 16777216 (length t))
    (λ b. not_given {A = List Statement} {r = LongText} {a = k} (laid_same (rw (a, b) at e)))
    (λ b. split (ltb w (segment_words s))
    (λ c. not_given {A = List Statement} {r = ShortWork (segment_words s)} {a = k} (laid_same (rw (a, b, c) at e)))
    (λ c.
    record {
      few = (laid_facts l t a).0;
      adds = (laid_facts l t a).1;
      small = ltb-false 16777216 (length t) b;
      looks = laid_same (rw (a, b, c) at e);
    })))
    (λ a. not_laid (rw a at e))

-- ---- the theorem
joined_segments : (s : List (List ℕ)) (l : List Statement) → length s ≤ 64 → All Small s → looking s ≡ given l → AsOneText s l
unfolding tokens
joined_segments s l h m e =
    let f = address_in s 0 in
    let t = joined s in
    let n = length t in
    let r : Rises f n = addresses_rise h m in
    let c = looked s e in
    let x = read_moved f (toks t 0) c.1 (rw (tokens_joined s 0) at (segments_read s 0 c.1 c.2)) in
    let j = x.items in
    let a : All (ItemAt (λ b. b < n)) j = reads_at (λ b. b < n) (read_reads x.read) (shown_at t 0 (λ b. b < n) (λ b g k. omega arith) refl refl) (λ z p. p) in
    let low : (b : ℕ) → b < n → moved_end f b ≡ f b =
    λ b k. rw (ne_eqb b none_end (λ q. omega (arith, q, at_least r b, r.below b k))) in
    let y : l ≡ map (moved_statement f) (ends j []) =
    c.3 ∙ (ap (λ (i : List Item). ends i []) x.moved ∙ ends_moved f n low a all_none) in
    record {
      one = ends j [];
      read = looking_one t ∙ rw (good_clean (joined_good (segments_good s 0 c.0)) 0, read_items n x.read);
      statements = y;
      scope = ap all_given y ∙ moves f n r (ends j []) (ends_placed f n low a all_none);
    }

pub joins : Joined
joins l t w k e =
    let p = well l t w k e in
    joined_segments (segments l t) k (omega (arith, segments_count l t, p.few)) (segments_small l t p.small) p.looks
