-- A13 of segments, proved: the items of the first segments are a front part of those of all, and the others stand behind them.
-- The rest is said of statements, as for texts.
use mathlib.Core.Path.{◌≡◌, refl, sym, ap, ◌∙◌}
use mathlib.Core.Bool.{false}
use mathlib.Core.List.{List, [], ◌∷◌, ◌++◌}
use Prim.Native.Nat.{ℕ, zero, suc, ◌+◌, ◌≤◌}
use native.Mathlib.Omega.{arith}
use lib.ListN.{length, take, drop, length-drop}
use Rattle.paper.specs.Comments.{outside, visible}
use Rattle.paper.specs.Statements.{Statement, Item}
use Rattle.paper.specs.Reader.{given}
use Rattle.paper.specs.Segments.{base, segments, sum, segment_tokens, segment_items, looking}
use Rattle.paper.specs.Give.{all_given}
use Rattle.paper.specs.Records.{frame_stream}
use Rattle.paper.specs.declared.Setting.{Setting}
use Rattle.paper.proofs.Alls.{All, all_map}
use Rattle.theorems.specs.Later.{names_nested, Initial, added, LaterSegments}
use Rattle.theorems.proofs.Comments.{visible_all}
use Rattle.theorems.proofs.Texts.{read_reads}
use Rattle.theorems.proofs.Addresses.{Small}
use Rattle.theorems.proofs.SegmentTokens.{segments_above, segments_below}
use Rattle.theorems.proofs.SegmentReads.{both_given, segments_read, items_append, looked}
use Rattle.theorems.proofs.Joined.{segments_count, segments_small, well}
use Rattle.theorems.proofs.Later.{Continues, frames_joined}

continues : (s m : List (List ℕ)) (i k : List Item) → All Small s → segment_items s 0 ≡ given i → segment_items (s ++ m) 0 ≡ given k
    → Continues (base (length s)) i k
continues s m i k h e g =
    let n = length s + 0 in
    let b = both_given (segment_items s 0) (segment_items m n) (sym (items_append s m 0) ∙ g) in
    let f : given i ≡ given b.first = sym e ∙ b.first_is in
    let q : i ≡ b.first = cc in
    record {
      first_tokens = visible (segment_tokens s 0) outside;
      first_reads = read_reads (segments_read s 0 i e);
      first_at = visible_all outside (all_map (λ t z. omega arith) (segments_below h 0));
      more_tokens = visible (segment_tokens m n) outside;
      more = b.second;
      more_reads = read_reads (segments_read m n b.second b.second_is);
      more_at = visible_all outside (all_map (λ t z. omega arith) (segments_above m n));
      whole = b.sum ∙ ap (λ (x : List Item). x ++ b.second) (sym q);
    }

further : (c : Setting) (s m : List (List ℕ)) (l k : List Statement) → All Small s → looking s ≡ given l → looking (s ++ m) ≡ given k
    → names_nested l (added (base (length s)) k) ≡ false → Initial (frame_stream c (all_given l)) (frame_stream c (all_given k))
further c s m l k h e g q =
    let a = looked s e in
    let b = looked (s ++ m) g in
    let d = continues s m a.1 b.1 h a.2 b.2 in
    rw (a.3, b.3) (frames_joined d c (rw (a.3, b.3) at q))

-- ---- segments laid behind others
take_front : (n : ℕ) (t u : List ℕ) → n ≤ length t → take n (t ++ u) ≡ take n t
take_front zero t u h = refl
take_front (suc n) [] u h = absurd (omega arith)
take_front (suc n) (b ∷ t) u h = ap (λ (r : List ℕ). b ∷ r) (take_front n t u (omega arith))

drop_front : (n : ℕ) (t u : List ℕ) → n ≤ length t → drop n (t ++ u) ≡ drop n t ++ u
drop_front zero t u h = refl
drop_front (suc n) [] u h = absurd (omega arith)
drop_front (suc n) (b ∷ t) u h = drop_front n t u (omega arith)

no_bytes : (t u : List ℕ) → 0 ≡ length t → t ++ u ≡ u
no_bytes [] u h = refl
no_bytes (b ∷ t) u h = absurd (omega arith)

segments_append : (l m t u : List ℕ) → sum l ≡ length t → segments (l ++ m) (t ++ u) ≡ segments l t ++ segments m u
unfolding segments sum
segments_append [] m t u h = ap (segments m) (no_bytes t u h)
segments_append (n ∷ l) m t u h =
    rw (
      take_front n t u (omega arith),
      drop_front n t u (omega arith),
      segments_append l m (drop n t) u (omega (arith, length-drop n t)),
    )

-- ---- the theorem
pub later_segments : LaterSegments
later_segments c l m t u w w' k j e g q =
    let a = well l t w k e in
    let b = well (l ++ m) (t ++ u) w' j g in
    let n = segments_count l t in
    further c (segments l t) (segments m u) k j (segments_small l t a.small) a.looks
    (rw (segments_append l m t u a.adds) at b.looks)
    (rw n q)
