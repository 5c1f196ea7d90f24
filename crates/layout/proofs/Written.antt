-- The record of a regular frame fits its layout to the last byte.
-- Part by part, in the order in which it is written.
use mathlib.Core.Path.{◌≡◌, sym, ap, ◌∙◌}
use mathlib.Core.Bool.{true}
use mathlib.Core.List.{List, [], ◌∷◌, ◌++◌, append_assoc, append-nil}
use Prim.Native.Nat.{ℕ, suc, ◌+◌, ◌*◌, ◌/◌, ◌%◌, ◌<◌, ◌≤◌}
use native.Mathlib.Omega.{arith}
use lib.Dec.{eqb}
use lib.ListN.{length, length-append}
use borrow.Author.Tests.{eq-eqb, eqb-true, le-ltb}
use Rattle.paper.specs.Base.{or, gather}
use Rattle.paper.specs.Expressions.{Hypothesis, of_float, of_essential}
use Rattle.paper.specs.Frames.{Full, Frame, stub, full}
use Rattle.paper.specs.Records.{le, u16, u32, string, framed, expression_bytes, hypothesis_bytes, pair_bytes, row_bytes, full_payload, frame_record}
use Rattle.paper.specs.Lookup.{u16_at, u32_at}
use Rattle.paper.specs.Layout.{Cut, cut, part, then, whole, times, counted, a_string, an_address, an_expression, a_hypothesis, float_head, label_part, names_part, hypotheses_part, back_parts, record_shape, fits}
use Rattle.paper.proofs.Tests.{split}
use Rattle.stream.proofs.Records.{length_u16, length_u32, length_string}
use Rattle.layout.specs.Cuts.{assertion_tail, assertion_parts, payload_parts}
use Rattle.layout.specs.Regular.{RegularFull, Regular}
use Rattle.layout.proofs.Fit.{done, shape_done}
use Rattle.layout.proofs.Takes.{Takes, u32_read, u16_read, takes_part, takes_counted, takes_string, takes_then, takes_whole, takes_as, takes_times}
use Rattle.layout.proofs.Formed.{pairs_length, takes_address, takes_expression, takes_hypothesis, each_short}

-- ---- what is cut whole, and the record around it
takes_done : (f : List ℕ → Cut) (a : List ℕ) → Takes f a → done (f a) ≡ true
takes_done f a x = let e : f a ≡ cut (x []).parts [] = ap f (sym (append-nil a)) ∙ (x []).is in rw e

fits_framed : (k : ℕ) (p : List ℕ) → k < 65536 → 2 + length p < 4294967296 → done (payload_parts k p) ≡ true → fits (framed k p) ≡ true
unfolding fits record_shape framed u32 u16 le u32_at u16_at
fits_framed k p h g e =
    let n = 2 + length p in
    let m : (n % 256 + 256 * (n / 256 % 256)) + 65536 * (n / 256 / 256 % 256 + 256 * (n / 256 / 256 / 256 % 256)) ≡ n = omega arith in
    let t : k % 256 + 256 * (k / 256 % 256) ≡ k = omega arith in
    let s : suc (suc (suc (suc (suc (suc (length p)))))) ≡ 4 + n = omega arith in
    rw (le-ltb (suc (suc (suc (suc (suc (suc (length p))))))) 6 (omega arith), m, eq-eqb (suc (suc (suc (suc (suc (suc (length p))))))) (4 + n) s, t)
    (shape_done k p ∙ e)

-- ---- a `$f`
float_taken : (o e : ℕ) (n c v : List ℕ) → length n + (length c + length v) < 4294967290
    → Takes (λ l. then (float_head l) a_string) (u32 o ++ (u32 e ++ (string n ++ (string c ++ string v))))
float_taken o e n c v h =
    takes_as (sym (simp append_assoc))
    (takes_then float_head a_string (u32 o ++ (u32 e ++ (string n ++ string c))) (string v)
    (takes_then an_address (λ m. then (an_address m) (λ k. then (a_string k) a_string)) (u32 o) (u32 e ++ (string n ++ string c)) (takes_address o)
    (takes_then an_address (λ k. then (a_string k) a_string) (u32 e) (string n ++ string c) (takes_address e)
    (takes_then a_string a_string (string n) (string c) (takes_string n (omega arith)) (takes_string c (omega arith)))))
    (takes_string v (omega arith)))

-- ---- an assertion: V, M, names and pool; hypotheses; target, pairs and rows
abbrev names : Full → List ℕ
names f =
    ((u16 (length f.variables) ++ u16 f.mandatory) ++ gather string f.variables) ++ string f.pool

abbrev hyps : Full → List ℕ
hyps f = u32 (length f.hyps) ++ gather hypothesis_bytes f.hyps

abbrev back : Full → List ℕ
back f =
    expression_bytes f.target
    ++ ((u32 (length f.pairs) ++ gather pair_bytes f.pairs) ++ gather row_bytes f.rows)

whole_payload : (f : Full) → full_payload f ≡ (u32 f.at ++ string f.label) ++ (names f ++ (hyps f ++ back f))
unfolding full_payload
whole_payload f = sym (simp append_assoc)

record Sizes (f : Full) : Type 0 where
  label : length f.label < 4294967296
  strings : length (gather string f.variables) < 4294967296
  pool : length f.pool < 4294967296
  hypotheses : length (gather hypothesis_bytes f.hyps) < 4294967295
  many : length f.hyps < 4294967296
  target : length (expression_bytes f.target) < 4294967296
  pairs : length f.pairs < 4294967296

-- a hypothesis has some bytes
hypothesis_some : (x : Hypothesis) → 1 ≤ length (hypothesis_bytes x)
unfolding hypothesis_bytes
hypothesis_some (of_float o v c) = simp (length-append, length_u16) (omega arith)
hypothesis_some (of_essential o x) = simp (length-append, length_u16) (omega arith)

hypotheses_many : (l : List Hypothesis) → length l ≤ length (gather hypothesis_bytes l)
unfolding gather
hypotheses_many [] = omega arith
hypotheses_many (x ∷ l) =
    omega (arith, length-append (hypothesis_bytes x) (gather hypothesis_bytes l), hypothesis_some x, hypotheses_many l)

sizes : (f : Full) → length (full_payload f) < 4294967294 → Sizes f
sizes f h =
    let m : length ((u32 f.at ++ string f.label) ++ (names f ++ (hyps f ++ back f))) < 4294967294 = rw (whole_payload f) at h in
    let k = simp (length-append, length_u16, length_u32, length_string) at m in
    record {
      label = omega (arith, k);
      strings = omega (arith, k);
      pool = omega (arith, k);
      hypotheses = omega (arith, k);
      many = omega (arith, k, hypotheses_many f.hyps);
      target = omega (arith, k);
      pairs = omega (arith, k, pairs_length f.pairs);
    }

module _ (f : Full) (r : RegularFull f) (z : Sizes f) where
  four : length (u16 (length f.variables) ++ u16 f.mandatory) ≡ 4
  four = simp (length-append, length_u16)

  names_u16 : (b : List ℕ) → u16_at (names f ++ b) 0 ≡ length f.variables
  names_u16 b =
      ap (λ x. u16_at x 0) (simp append_assoc)
      ∙ u16_read (length f.variables) (u16 f.mandatory ++ (gather string f.variables ++ (string f.pool ++ b))) r.few

  names_taken : Takes names_part (names f)
  unfolding names_part
  names_taken b =
      let v = length f.variables in
      let g : List ℕ → Cut = λ l. then (part 4 l) (times v a_string) in
      let t =
      takes_then (λ l. whole (g l)) a_string ((u16 v ++ u16 f.mandatory) ++ gather string f.variables) (string f.pool)
      (takes_whole g _
      (takes_then (part 4) (times v a_string) (u16 v ++ u16 f.mandatory) (gather string f.variables)
      (takes_part 4 _ four)
      (takes_times a_string string (each_short string (λ s. Takes a_string (string s)) (λ s h. takes_string s (omega (arith, length_string s))) f.variables z.strings))))
      (takes_string f.pool z.pool)
      b in
      record { parts = t.parts; is = rw (names_u16 b) t.is }

  hyps_taken : Takes hypotheses_part (hyps f)
  unfolding hypotheses_part
  hyps_taken b =
      let n = length f.hyps in
      let t =
      takes_then (part 4) (times n a_hypothesis) (u32 n) (gather hypothesis_bytes f.hyps)
      (takes_part 4 (u32 n) (length_u32 n))
      (takes_times a_hypothesis hypothesis_bytes (each_short hypothesis_bytes (λ x. Takes a_hypothesis (hypothesis_bytes x)) takes_hypothesis f.hyps (omega (arith, z.hypotheses))))
      b in
      let u : u32_at ((u32 n ++ gather hypothesis_bytes f.hyps) ++ b) 0 ≡ n =
      ap (λ x. u32_at x 0) (append_assoc (u32 n) (gather hypothesis_bytes f.hyps) b) ∙ u32_read n (gather hypothesis_bytes f.hyps ++ b) z.many in
      record { parts = t.parts; is = rw u t.is }

  back_taken : Takes (back_parts (length f.variables)) (back f)
  unfolding back_parts
  back_taken =
      let v = length f.variables in
      let w = v * ((v + 7) / 8) in
      takes_then an_expression (λ m. then (counted 4 m) (part w)) (expression_bytes f.target) _
      (takes_expression f.target z.target)
      (takes_then (counted 4) (part w) (u32 (length f.pairs) ++ gather pair_bytes f.pairs) (gather row_bytes f.rows)
      (takes_counted 4 (length f.pairs) (gather pair_bytes f.pairs) z.pairs (pairs_length f.pairs))
      (takes_part w (gather row_bytes f.rows) r.rows))

  tail_taken : Takes assertion_tail (names f ++ (hyps f ++ back f))
  unfolding assertion_tail
  tail_taken b =
      let v = length f.variables in
      let t =
      takes_then names_part (λ m. then (hypotheses_part m) (back_parts v)) (names f) (hyps f ++ back f) names_taken
      (takes_then hypotheses_part (back_parts v) (hyps f) (back f) hyps_taken back_taken)
      b in
      let u : u16_at ((names f ++ (hyps f ++ back f)) ++ b) 0 ≡ v =
      ap (λ x. u16_at x 0) (append_assoc (names f) (hyps f ++ back f) b) ∙ names_u16 ((hyps f ++ back f) ++ b) in
      record { parts = t.parts; is = rw u t.is }

  assertion_taken : Takes assertion_parts (full_payload f)
  unfolding assertion_parts
  assertion_taken =
      takes_as (whole_payload f)
      (takes_then label_part assertion_tail (u32 f.at ++ string f.label) (names f ++ (hyps f ++ back f))
      (takes_then an_address a_string (u32 f.at) (string f.label) (takes_address f.at) (takes_string f.label z.label))
      tail_taken)

-- ---- every regular frame
framed_length : (k : ℕ) (p : List ℕ) → length (framed k p) ≡ 6 + length p
unfolding framed
framed_length k p = simp (length-append, length_u16, length_u32) (omega arith)

assertion_kind : (k : ℕ) → or (eqb k 2) (eqb k 3) ≡ true → (k < 65536) × ((l : List ℕ) → payload_parts k l ≡ assertion_parts l)
unfolding payload_parts
assertion_kind k e =
    split (eqb k 2)
    (λ t. let z : k ≡ 2 = eqb-true k 2 t in (omega arith, λ l. rw z))
    (λ t. let z : k ≡ 3 = eqb-true k 3 (rw t at e) in (omega arith, λ l. rw z))

pub frame_fits : (x : Frame) → Regular x → fits (frame_record x) ≡ true
unfolding frame_record payload_parts
frame_fits (stub o e n c v) a =
    let p = u32 o ++ (u32 e ++ (string n ++ (string c ++ string v))) in
    let k : length p ≡ 20 + (length n + (length c + length v)) = simp (length-append, length_u32, length_string) (omega arith) in
    let l = framed_length 4 p in
    fits_framed 4 p (omega arith) (omega (arith, a.short))
    (takes_done (λ l. then (float_head l) a_string) p (float_taken o e n c v (omega (arith, a.short))))
frame_fits (full f) a =
    let r = a.shape in
    let l = framed_length f.kind (full_payload f) in
    let k = assertion_kind f.kind r.kind in
    fits_framed f.kind (full_payload f) k.0 (omega (arith, a.short))
    (ap done (k.1 (full_payload f)) ∙ takes_done assertion_parts (full_payload f) (assertion_taken f r (sizes f (omega (arith, a.short)))))
