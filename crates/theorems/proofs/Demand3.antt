-- Demand 3, proved: no refusal with the group blanked, and both streams without its records.
-- The lemma S3 of the proof on paper, and the theorem.
use mathlib.Core.Path.{◌≡◌, refl, sym, ap, ◌∙◌, subst}
use mathlib.Core.Bool.{Bool, false}
use mathlib.Core.List.{List, [], ◌∷◌, ◌++◌}
use mathlib.Core.Option.{none}
use Prim.Native.Nat.{ℕ, ◌+◌, ◌<◌, ◌≤◌}
use native.Mathlib.Omega.{arith}
use lib.ListN.{length, replicate, length-append, length-replicate}
use Rattle.paper.specs.Base.{not, within, keep, gather}
use Rattle.paper.specs.Tokens.{bad_from}
use Rattle.paper.specs.Statements.{Statement, none_end, Item, ends}
use Rattle.paper.specs.Reader.{given, words, reading}
use Rattle.paper.specs.State.{nothing}
use Rattle.paper.specs.Frames.{frame_as}
use Rattle.paper.specs.Give.{Given, gives, all_given}
use Rattle.paper.specs.Records.{frame_record, diag_record, frame_records, diag_records, frame_stream, diag_stream}
use Rattle.paper.specs.Answer.{crowded, frame_at, frames_in, Streams, streams, outcome, answer, frames_exit, diags_exit}
use Rattle.paper.specs.declared.Setting.{Setting}
use Rattle.paper.proofs.Lists.{gather_append, keep_append}
use Rattle.paper.proofs.Alls.{All, all_append, all_left, all_right, all_map, keep_all, keep_none}
use Rattle.paper.proofs.Searches.{all_gather, find_none, none_find}
use Rattle.theorems.specs.Groups.{Group, statements, blanked, Apart}
use Rattle.theorems.specs.TakenOut.{taken_out, records_in, streams_without}
use Rattle.theorems.specs.Demand3.{Blanked, Demand3, frame_outside, diag_outside, diags_in, Exact}
use Rattle.theorems.proofs.Tokens.{Parts, blanked_parts}
use Rattle.theorems.proofs.Parts.{Split, split_group}
use Rattle.theorems.proofs.Three.{Three, three}
use Rattle.theorems.proofs.Whole.{below_it, within_it, beyond_it}
use Rattle.theorems.proofs.Fold.{Parted, parted}
use Rattle.theorems.proofs.Offsets.{diags_at, frames_at}
use Rattle.theorems.proofs.Refusals.{Good, clean_good, good_clean, blanks_good, Passed, passed, passing, Fits, answered, answering, number_zero}
use Rattle.theorems.proofs.Records.{exact, frame_stream_is, diag_stream_is}

-- ---- S3: numbers 1 to 3 with the group blanked
module _ {t : List ℕ} {p q : ℕ} (x : Parts t p q) where
  text_length : length t ≡ (q + 2) + length x.back
  text_length =
      ap length x.text
      ∙ omega (
        arith,
        length-append x.front (36 ∷ 123 ∷ (x.body ++ (36 ∷ 125 ∷ x.back))),
        length-append x.body (36 ∷ 125 ∷ x.back),
        x.from,
        x.to,
      )

  blanked_length : length (blanked t p q) ≡ length t
  blanked_length =
      ap length (blanked_parts x)
      ∙ omega (
        arith,
        length-append x.front (replicate (4 + length x.body) 32 ++ x.back),
        length-append (replicate (4 + length x.body) 32) x.back,
        length-replicate {A = ℕ} (4 + length x.body) 32,
        text_length,
        x.from,
        x.to,
      )

  blanked_clean : bad_from t 0 ≡ none → bad_from (blanked t p q) 0 ≡ none
  blanked_clean e =
      let a = subst (All Good) x.text (clean_good t 0 e) in
      let b = all_right x.front (36 ∷ 123 ∷ (x.body ++ (36 ∷ 125 ∷ x.back))) a in
      let c = all_right (36 ∷ 123 ∷ x.body) (36 ∷ 125 ∷ x.back) b in
      rw (blanked_parts x)
      (good_clean
      (all_append (all_left x.front (36 ∷ 123 ∷ (x.body ++ (36 ∷ 125 ∷ x.back))) a)
      (all_append (blanks_good (4 + length x.body)) (all_right (36 ∷ 125 ∷ []) x.back c))) 0)

-- numbers 1 to 6
blanked_passes : {t : List ℕ} {p q : ℕ} {i : List Item} {w : ℕ} {l : List Statement} (x : Split t p q i)
    → Passed t w l → Passed (blanked t p q) w (ends (x.front ++ x.back) [])
unfolding words
blanked_passes {t} {p} {q} x h =
    record {
      small = omega (arith, blanked_length x.parts, h.small);
      room = omega (arith, x.fewer, h.room);
      clean = blanked_clean x.parts h.clean;
      read = x.front ++ x.back;
      reads = x.blanked_read (length (blanked t p q));
      statements = refl;
    }

-- ---- S1: what three parts give, without the middle one
module _ {A B : Type 0} (f : A → List B) (a b c : List A) where
  gather_less : length (gather f (a ++ c)) ≤ length (gather f (a ++ (b ++ c)))
  gather_less =
      rw (gather_append f a c, gather_append f a (b ++ c), gather_append f b c)
      (omega (
        arith,
        length-append (gather f a) (gather f c),
        length-append (gather f a) (gather f b ++ gather f c),
        length-append (gather f b) (gather f c),
      ))

  gather_all : {P : B → Type 0} → All P (gather f (a ++ (b ++ c))) → All P (gather f (a ++ c))
  gather_all {P} h =
      let g = subst (All P) (gather_append f a (b ++ c)) h in
      let k = subst (All P) (gather_append f b c) (all_right (gather f a) (gather f (b ++ c)) g) in
      rw (gather_append f a c)
      (all_append (all_left (gather f a) (gather f (b ++ c)) g) (all_right (gather f b) (gather f c) k))

  -- the members outside the group are those of the outer parts
  gather_kept : (at : B → ℕ) (p q : ℕ) → All (λ x. All (λ y. at y < p) (f x)) a
      → All (λ x. All (λ y. (p ≤ at y) × (at y < q)) (f x)) b → All (λ x. All (λ y. q < at y) (f x)) c
      → keep (λ y. not (within p q (at y))) (gather f (a ++ (b ++ c))) ≡ gather f (a ++ c)
  gather_kept at p q h i j =
      let k : B → Bool = λ y. not (within p q (at y)) in
      rw (
        gather_append f a (b ++ c),
        gather_append f b c,
        keep_append k (gather f a) (gather f b ++ gather f c),
        keep_append k (gather f b) (gather f c),
        keep_all k (all_gather f (λ x g. all_map (λ y e. ap not (below_it p q (at y) e)) g) h),
        keep_none k (all_gather f (λ x g. all_map (λ y e. ap not (within_it p q (at y) e.0 (omega (arith, e.1)))) g) i),
        keep_all k (all_gather f (λ x g. all_map (λ y e. ap not (beyond_it p q (at y) e)) g) j),
      )
      (sym (gather_append f a c))

module _ (c : Setting) {w x : List Statement} {p q : ℕ} (h : Three w x p q) (k : Parted w x h.before h.within_it h.behind) where
  frames_kept : keep (frame_outside p q) (frames_in (all_given w)) ≡ frames_in (all_given x)
  frames_kept =
      rw (k.whole, k.without)
      (gather_kept (λ g. g.frame) (gives w h.before nothing) (gives w h.within_it k.first) (gives w h.behind k.third) frame_at p q
      (frames_at (λ n. n < p) w h.before_at nothing)
      (frames_at (λ n. (p ≤ n) × (n < q)) w h.within_at k.first)
      (frames_at (λ n. q < n) w h.behind_at k.third))

  diags_kept : keep (diag_outside p q) (diags_in (all_given w)) ≡ diags_in (all_given x)
  diags_kept =
      rw (k.whole, k.without)
      (gather_kept (λ g. g.diags) (gives w h.before nothing) (gives w h.within_it k.first) (gives w h.behind k.third) (λ y. y.statement) p q
      (diags_at (λ n. n < p) w h.before_at nothing)
      (diags_at (λ n. (p ≤ n) × (n < q)) w h.within_at k.first)
      (diags_at (λ n. q < n) w h.behind_at k.third))

  -- numbers 7 to 9
  blanked_fits : {f d : ℕ} → Fits c (all_given w) f d → Fits c (all_given x) f d
  unfolding frame_stream diag_stream
  blanked_fits {f} {d} y =
      let a = gives w h.before nothing in
      let b = gives w h.within_it k.first in
      let e = gives w h.behind k.third in
      let n = subst (λ (l : List Given). All (λ z. crowded z ≡ false) (frames_in l)) k.whole (find_none crowded (frames_in (all_given w)) y.uncrowded) in
      record {
        uncrowded = rw k.without (none_find crowded (gather_all (λ g. g.frame) a b e n));
        frames_fit = rw k.without (omega (arith, gather_less (frame_records c) a b e, rw k.whole at y.frames_fit));
        diags_fit = rw k.without (omega (arith, gather_less diag_records a b e, rw k.whole at y.diags_fit));
      }

  streams_are : Exact c w (streams c (all_given w)) p q
      → streams c (all_given x) ≡ streams_without p q (streams c (all_given w))
  streams_are e =
      let a : taken_out p q (frame_stream c (all_given w)) ≡ frame_stream c (all_given x) =
      e.frames_stay ∙ (ap (gather (λ y. frame_record (frame_as c y))) frames_kept ∙ sym (frame_stream_is c (all_given x))) in
      let b : taken_out p q (diag_stream (all_given w)) ≡ diag_stream (all_given x) =
      e.diags_stay ∙ (ap (gather diag_record) diags_kept ∙ sym (diag_stream_is (all_given x))) in
      let z : records_in (frame_stream c (all_given x)) ≡ length (frames_in (all_given x)) =
      ap records_in (sym a) ∙ (e.count_stays ∙ ap length frames_kept) in
      rw (a, b, z)

-- ---- the theorem
-- by the outcome of the blanked text
pub blanked_gives : (c : Setting) (t w f d : List ℕ) (p q : ℕ) (s : Streams) → outcome c t (length w) (length f) (length d) ≡ given s
    → outcome c (blanked t p q) (length w) (length f) (length d) ≡ given (streams_without p q s) → Blanked c t w f d p q
unfolding answer frames_exit diags_exit
blanked_gives c t w f d p q s a b =
    record {
      streams = s;
      were = a;
      done = rw b;
      are = b;
      frames_held = rw b;
      diags_held = rw b;
    }

without_it : (c : Setting) (t : List ℕ) (w f d p q : ℕ) (s : Streams) (g : Group t p q) → reading t w ≡ given (statements g)
    → Fits c (all_given (statements g)) f d → streams c (all_given (statements g)) ≡ s → Apart (statements g) p q
    → outcome c (blanked t p q) w f d ≡ given (streams_without p q s)
without_it c t w f d p q s g r y e a =
    let l = statements g in
    let h = passed t w l r in
    let x = split_group t p q g.read g.reads g.own in
    let u = ends (x.front ++ x.back) [] in
    let low : q < none_end = omega (arith, text_length x.parts, h.small) in
    let k = parted (three x) low a in
    answering c (blanked t p q) w f d u (passing (blanked t p q) w u (blanked_passes x h)) (blanked_fits c (three x) k y)
    ∙ (ap given (streams_are c (three x) k (exact c t w l h y.uncrowded p q))
    ∙ ap (λ (z : Streams). given (streams_without p q z)) e)

-- the statements of the answer are those of the group's text
same_statements : {t : List ℕ} {w p q : ℕ} {l : List Statement} → Passed t w l → (g : Group t p q) → l ≡ statements g
same_statements h g =
    let a = h.reads in
    let b = g.reads in
    let e : h.read ≡ g.read = cc in
    h.statements ∙ ap (λ (r : List Item). ends r []) e

pub demand3 : Demand3
demand3 c t w f d p q n g a =
    let s = number_zero c t (length w) (length f) (length d) n in
    let k = answered c t (length w) (length f) (length d) s.0 s.1 in
    let e = same_statements (passed t (length w) k.statements k.passes) g in
    blanked_gives c t w f d p q s.0 s.1
    (without_it c t (length w) (length f) (length d) p q s.0 g
    (subst (λ (l : List Statement). reading t (length w) ≡ given l) e k.passes)
    (subst (λ (l : List Statement). Fits c (all_given l) (length f) (length d)) e k.fit)
    (subst (λ (l : List Statement). streams c (all_given l) ≡ s.0) e k.are)
    a)
