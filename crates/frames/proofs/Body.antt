-- The parts, one after the other, are the definition's record of the frame.
-- Assumes nothing.
use mathlib.Core.Path.{◌≡◌, sym, ap, ◌∙◌}
use mathlib.Core.List.{List, ◌++◌, map, append_assoc}
use Prim.Native.Nat.{ℕ, ◌+◌}
use native.Mathlib.Omega.{arith}
use lib.ListN.{length}
use Rattle.paper.specs.Base.{gather}
use Rattle.paper.specs.Statements.{Statement}
use Rattle.paper.specs.Variables.{sights, mandatory}
use Rattle.paper.specs.Expressions.{pool_of, expression, hypotheses, pooled}
use Rattle.paper.specs.Pairs.{in_order, pairs, rows}
use Rattle.paper.specs.Frames.{full, frame_of, frame_as}
use Rattle.paper.specs.declared.Setting.TheVariants.{Short}
use Rattle.paper.specs.Records.{le, u16, u32, string, framed, expression_bytes, hypothesis_bytes, pair_bytes, row_bytes, full_payload, frame_record}
use Rattle.theorems.specs.Restricted.{short_of}
use Rattle.theorems.proofs.Restricted.{is_restricted}
use Rattle.reader.specs.Rows.{stmt}
use Rattle.sight.specs.Static.{static, row_hyp, row_disjoint, rows_state}
use Rattle.disjoint.specs.Written.{names_at}
use Rattle.frames.specs.Front.{record_kind, front}
use Rattle.frames.specs.InHand.{head, middle, body}

-- five parts, then two, then three, then three: nested to the right
regroup :
    (a b c d e f g h i j x y z : List ℕ)
    → ((a ++ (b ++ (c ++ (d ++ e)))) ++ (f ++ g)) ++ (((h ++ i) ++ j) ++ (x ++ (y ++ z)))
    ≡ a ++ (b ++ (c ++ (d ++ (e ++ (f ++ (g ++ (h ++ (i ++ (j ++ (x ++ (y ++ z)))))))))))
regroup a b c d e f g h i j x y z = simp append_assoc

-- the length of a record counts its kind
framed_body : (k : ℕ) (p : List ℕ) → framed k p ≡ u32 (length (u16 k ++ p)) ++ (u16 k ++ p)
unfolding framed u16 le
framed_body k p =
    let e : 2 + length p ≡ length (u16 k ++ p) = omega arith in
    ap (λ n. u32 n ++ (u16 k ++ p)) e

-- the record of a frame over any variables that come after the mandatory ones
record_body :
    (l : List Statement) (h d : List ℕ) (vs m : List (List ℕ)) (row : ℕ)
    → frame_record (full (record {
      kind = record_kind (stmt l row).kind;
      at = (stmt l row).at;
      label = (stmt l row).label;
      variables = vs;
      mandatory = length m;
      pool = gather pooled (map (row_hyp l) h) ++ pool_of (static l (stmt l row));
      hyps = hypotheses m (map (row_hyp l) h) 0;
      target = expression m (static l (stmt l row)) (length (gather pooled (map (row_hyp l) h)));
      pairs = pairs m (map (names_at l) d);
      rows = rows vs (map (names_at l) d);
    }))
    ≡ u32 (length (body l h d vs m row)) ++ body l h d vs m row
unfolding frame_record full_payload body head middle front
record_body l h d vs m row =
    framed_body (record_kind (stmt l row).kind) _
    ∙ ap (λ b. u32 (length b) ++ b)
    (sym
    (regroup (u16 (record_kind (stmt l row).kind)) (u32 (stmt l row).at) (string (stmt l row).label) (u16 (length vs))
    (u16 (length m)) (gather string vs)
    (string (gather pooled (map (row_hyp l) h) ++ pool_of (static l (stmt l row))))
    (u32 (length (hypotheses m (map (row_hyp l) h) 0))) (gather hypothesis_bytes (hypotheses m (map (row_hyp l) h) 0))
    (expression_bytes (expression m (static l (stmt l row)) (length (gather pooled (map (row_hyp l) h)))))
    (u32 (length (pairs m (map (names_at l) d)))) (gather pair_bytes (pairs m (map (names_at l) d)))
    (gather row_bytes (rows vs (map (names_at l) d)))))

-- the full frame, and the short one
pub frame_body :
    (l : List Statement) (h d : List ℕ) (vs m : List (List ℕ)) (row : ℕ)
    → in_order (map (row_disjoint l) d) ≡ map (names_at l) d
    → m ≡ mandatory (map (row_hyp l) h) (static l (stmt l row))
    → vs ≡ sights (gather (λ n. n) (map (names_at l) d)) m
    → frame_record (frame_of (record_kind (stmt l row).kind) (stmt l row) (rows_state l h d) (static l (stmt l row)))
    ≡ u32 (length (body l h d vs m row)) ++ body l h d vs m row
unfolding frame_of
frame_body l h d vs m row e f g = rw (e, ← f, ← g) (record_body l h d vs m row)

pub short_body :
    (l : List Statement) (h d : List ℕ) (m : List (List ℕ)) (row : ℕ)
    → in_order (map (row_disjoint l) d) ≡ map (names_at l) d
    → m ≡ mandatory (map (row_hyp l) h) (static l (stmt l row))
    → frame_record (frame_as Short (frame_of (record_kind (stmt l row).kind) (stmt l row) (rows_state l h d) (static l (stmt l row))))
    ≡ u32 (length (body l h d m m row)) ++ body l h d m m row
unfolding short_of
short_body l h d m row e f =
    ap frame_record (is_restricted (record_kind (stmt l row).kind) (stmt l row) (rows_state l h d) (static l (stmt l row)))
    ∙ rw (e, ← f) (record_body l h d m m row)
