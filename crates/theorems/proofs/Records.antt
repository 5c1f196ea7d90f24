-- Every record of both streams is sound: framed, short, with its statement's offset after length and kind.
-- So the walk by length fields finds exactly the records.
use mathlib.Core.Path.{◌≡◌, refl, sym, ap, ◌∙◌}
use mathlib.Core.List.{List, [], ◌∷◌, ◌++◌}
use mathlib.Core.Option.{none}
use Prim.Native.Nat.{ℕ, ◌<◌, ◌≤◌}
use native.Mathlib.Omega.{arith}
use lib.ListN.{length, length-append}
use lib.Dec.{ltb}
use borrow.Author.Tests.{eq-eqb, lt-ltb}
use Rattle.paper.specs.Lookup.{u32_at}
use Rattle.paper.specs.Base.{find, keep, gather}
use Rattle.paper.specs.Tokens.{tokens}
use Rattle.paper.specs.Statements.{Statement, Item, ends}
use Rattle.paper.specs.Reader.{given, items}
use Rattle.paper.specs.State.{nothing}
use Rattle.paper.specs.Checks.{Diag}
use Rattle.paper.specs.Frames.{Frame, stub, full, restricted, frame_as}
use Rattle.paper.specs.Give.{Given, all_given}
use Rattle.paper.specs.Records.{u32, diag_record, frame_record, frame_records, diag_records, frame_stream, diag_stream}
use Rattle.paper.specs.Answer.{crowded, frame_at, frames_in, streams}
use Rattle.paper.specs.declared.Setting.{Setting}
use Rattle.paper.specs.declared.Setting.TheVariants as setting
use Rattle.paper.proofs.Lists.{gather_append}
use Rattle.paper.proofs.Sums.{total}
use Rattle.paper.proofs.Alls.{All, all_map, all_both, all_keep}
use Rattle.paper.proofs.Searches.{all_gather, find_none, all_true}
use Rattle.theorems.specs.TakenOut.{taken_out, records_in}
use Rattle.theorems.specs.Demand3.{Offsets, frame_outside, diags_in, Exact, Walked}
use Rattle.theorems.proofs.Stands.{reads_at}
use Rattle.theorems.proofs.Ends.{ends_at}
use Rattle.theorems.proofs.Texts.{items_read, read_reads, shown_at}
use Rattle.theorems.proofs.Streams.{offset_framed, Sound, taken_gather, counted_gather}
use Rattle.theorems.proofs.Offsets.{give_at, diags_at, frames_at}
use Rattle.theorems.proofs.Weights.{statements_weight, text_weight}
use Rattle.theorems.proofs.Lengths.{u32_length, kind_of, rest_of, frame_framed, Short}
use Rattle.theorems.proofs.Short.{gives_short}
use Rattle.theorems.proofs.Restricted.{restricted_length}
use Rattle.theorems.proofs.Refusals.{Passed, passed, answered}

-- ---- where the statements of a text stand
pub text_at : (t : List ℕ) (i : List Item) → items (tokens t) (length t) ≡ given i
    → All (λ s. s.at < length t) (ends i [])
unfolding tokens
text_at t i e =
    ends_at (λ n. n < length t) []
    (reads_at (λ n. n < length t) (read_reads (items_read (tokens t) (length t) i e))
    (shown_at t 0 (λ n. n < length t) (λ n g h. omega arith) refl refl)
    (λ n g. g))

-- ---- sound records
-- whole, or restricted: then it is no longer than before
frame_sound : (c : Setting) (x : Frame) → frame_at x < 4294967296 → Short x → Sound (frame_record (frame_as c x)) (frame_at x)
frame_sound setting.Full x l h = record { kind = kind_of x; rest = rest_of x; are = frame_framed x; short = h; low = l }
frame_sound setting.Short (stub o e n c v) l h =
    record { kind = 4; rest = rest_of (stub o e n c v); are = frame_framed (stub o e n c v); short = h; low = l }
frame_sound setting.Short (full f) l h =
    record {
      kind = f.kind;
      rest = rest_of (full (restricted f));
      are = frame_framed (full (restricted f));
      short = omega (arith, h, restricted_length f);
      low = l;
    }

diag_sound : (x : Diag) → x.statement < 4294967296 → Sound (diag_record x) x.statement
unfolding diag_record
diag_sound x l =
    record {
      kind = x.kind;
      rest = u32 x.index ++ u32 x.other;
      are = refl;
      short = omega (arith, length-append (u32 x.index) (u32 x.other), u32_length x.index, u32_length x.other);
      low = l;
    }

frame_offset : (c : Setting) (x : Frame) → frame_at x < 4294967296 → u32_at (frame_record (frame_as c x)) 6 ≡ frame_at x
frame_offset setting.Full x h = rw (frame_framed x) (offset_framed (kind_of x) (frame_at x) (rest_of x) h)
frame_offset setting.Short (stub o e n c v) h =
    rw (frame_framed (stub o e n c v)) (offset_framed 4 o (rest_of (stub o e n c v)) h)
frame_offset setting.Short (full f) h =
    rw (frame_framed (full (restricted f))) (offset_framed f.kind f.at (rest_of (full (restricted f))) h)

diag_offset : (x : Diag) → x.statement < 4294967296 → u32_at (diag_record x) 6 ≡ x.statement
unfolding diag_record
diag_offset x h = offset_framed x.kind x.statement (u32 x.index ++ u32 x.other) h

pub offsets : Offsets
offsets c w v s h =
    let g = give_at w v s in
    record {
      frame = all_true _ (all_map (λ x e. eq-eqb (u32_at (frame_record (frame_as c x)) 6) s.at (frame_offset c x (omega arith) ∙ e)) g.frame);
      diags = all_true _ (all_map (λ x e. eq-eqb (u32_at (diag_record x) 6) s.at (diag_offset x (omega arith) ∙ e)) g.diags);
    }

module _ {l : List Statement} (small : All (λ s. s.at < 4294967296) l) where
  pub diags_sound : All (λ x. Sound (diag_record x) x.statement) (diags_in (all_given l))
  unfolding all_given
  diags_sound =
      all_map (λ x h. diag_sound x h)
      (all_gather (λ g. g.diags) (λ g h. h) (diags_at (λ n. n < 4294967296) l small nothing))

  pub frames_sound : (c : Setting) → statements_weight l ≤ 16777217 → find crowded (frames_in (all_given l)) ≡ none
      → All (λ x. Sound (frame_record (frame_as c x)) (frame_at x)) (frames_in (all_given l))
  unfolding all_given total
  frames_sound c h e =
      all_map (λ x k. frame_sound c x k.0 (k.1.0 k.1.1))
      (all_both (all_gather (λ g. g.frame) (λ g h. h) (frames_at (λ n. n < 4294967296) l small nothing))
      (all_both (all_gather (λ g. g.frame) (λ g h. h) (gives_short l l nothing (omega arith)))
      (find_none crowded (frames_in (all_given l)) e)))

-- ---- the streams are the records one after the other
gather_gather : {A B C : Type 0} (f : B → List C) (g : A → List B) (l : List A)
    → gather (λ x. gather f (g x)) l ≡ gather f (gather g l)
unfolding gather
gather_gather f g [] = refl
gather_gather f g (x ∷ l) = rw (gather_gather f g l) (sym (gather_append f (g x) (gather g l)))

pub frame_stream_is : (c : Setting) (l : List Given) → frame_stream c l ≡ gather (λ x. frame_record (frame_as c x)) (frames_in l)
unfolding frame_stream frame_records
frame_stream_is c l = gather_gather (λ x. frame_record (frame_as c x)) (λ g. g.frame) l

pub diag_stream_is : (l : List Given) → diag_stream l ≡ gather diag_record (diags_in l)
unfolding diag_stream diag_records
diag_stream_is l = gather_gather diag_record (λ g. g.diags) l

-- ---- the walk finds exactly the records
pub exact : (c : Setting) (t : List ℕ) (w : ℕ) (l : List Statement) → Passed t w l → find crowded (frames_in (all_given l)) ≡ none
    → (p q : ℕ) → Exact c l (streams c (all_given l)) p q
exact c t w l h few p q =
    let e = h.statements in
    let z : All (λ s. s.at < 16777216) l =
    rw e (all_map (λ s k. omega (arith, h.small)) (text_at t h.read h.reads)) in
    let a : All (λ s. s.at < 4294967296) l = all_map (λ s k. omega arith) z in
    let b : statements_weight l ≤ 16777217 = rw e (omega (arith, text_weight t h.read h.reads, h.small)) in
    let i = frames_sound a c b few in
    let j : taken_out p q (frame_stream c (all_given l)) ≡ gather (λ x. frame_record (frame_as c x)) (keep (frame_outside p q) (frames_in (all_given l))) =
    ap (taken_out p q) (frame_stream_is c (all_given l)) ∙ taken_gather (λ x. frame_record (frame_as c x)) frame_at p q i in
    record {
      low = all_true (λ r. ltb r.at 16777216) (all_map (λ r k. lt-ltb r.at 16777216 k) z);
      frames = frame_stream_is c (all_given l);
      diags = diag_stream_is (all_given l);
      count = sym (ap records_in (frame_stream_is c (all_given l)) ∙ counted_gather (λ x. frame_record (frame_as c x)) frame_at i);
      frames_stay = j;
      count_stays = ap records_in j ∙ counted_gather (λ x. frame_record (frame_as c x)) frame_at (all_keep (frame_outside p q) i);
      diags_stay =
          ap (taken_out p q) (diag_stream_is (all_given l)) ∙ taken_gather diag_record (λ x. x.statement) p q (diags_sound a);
    }

pub walked : Walked
walked c t w f d p q l s r e =
    let k = answered c t w f d s e in
    let a = k.passes in
    let n : k.statements ≡ l = cc in
    rw (← k.are, ← n) (exact c t w k.statements (passed t w k.statements k.passes) k.fit.uncrowded p q)
