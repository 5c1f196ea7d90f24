-- Frame records are short: what stands in one stands in the text, and a statement has at most one.
-- Where no frame has over 4,095 variables.
use mathlib.Core.Path.{◌≡◌, refl}
use mathlib.Core.Bool.{false}
use mathlib.Core.List.{List, [], ◌∷◌, ◌++◌}
use mathlib.Core.Option.{none}
use Prim.Native.Nat.{ℕ, ◌+◌, ◌<◌, ◌≤◌}
use native.Mathlib.Omega.{arith}
use lib.ListN.{length, length-append}
use Rattle.paper.specs.Base.{find, gather}
use Rattle.paper.specs.Statements.{Kind, $c, $v, $d, $f, $e, $a, $p, Statement, outermost}
use Rattle.paper.specs.Reader.{given, reading}
use Rattle.paper.specs.State.{State, nothing, view, plus}
use Rattle.paper.specs.Checks.{Diag, token, check_label, check_float, check_expression, check_disjoint}
use Rattle.paper.specs.Variables.{formula}
use Rattle.paper.specs.Frames.{Frame, stub, full, restricted, frame_as}
use Rattle.paper.specs.Give.{Given, accept, unless, give_c, give_v, give_d, give_f, give_e, give_assertion, give_by, give, gives, all_given}
use Rattle.paper.specs.Records.{u32, framed, frame_record, frame_records}
use Rattle.paper.specs.Answer.{crowded, frame_at}
use Rattle.paper.specs.declared.Setting.{Setting}
use Rattle.paper.specs.declared.Setting.TheVariants as setting
use Rattle.paper.proofs.Tests.{split}
use Rattle.paper.proofs.Sums.{total}
use Rattle.paper.proofs.Alls.{All, all_none, all_more, all_map, all_both, all_first}
use Rattle.paper.proofs.Searches.{find_none}
use Rattle.theorems.proofs.Gives.{statement_weight}
use Rattle.theorems.proofs.Weights.{statements_weight, text_weight, state_weight, view_weight, plus_weight, formula_light, two_light, light}
use Rattle.theorems.proofs.Lengths.{u16_length, u32_length, kind_of, rest_of, frame_framed, Short, stub_short, full_short}
use Rattle.theorems.proofs.Restricted.{restricted_length}
use Rattle.theorems.proofs.Refusals.{passed}

-- ---- each frame
abbrev pub Fit : Frame → Type 0
Fit x = crowded x ≡ false → Short x

accept_short : (d : List Diag) (r : State) {f : List Frame} → All Fit f → All Fit (accept d r f).frame
accept_short [] r a = a
accept_short (x ∷ d) r a = all_none

unless_short : (d : List Diag) (g : Given) → All Fit g.frame → All Fit (unless d g).frame
unless_short [] g a = a
unless_short (x ∷ d) g a = all_none

short_by : (k : Kind) (w : List Statement) (v : State) (s : Statement)
    → state_weight v + statement_weight s ≤ 16777217 → All Fit (give_by k w v s).frame
unfolding give_c give_v give_d give_f give_e give_assertion
short_by $c w v s h = split (outermost s) (λ e. rw e all_none) (λ e. rw e all_none)
short_by $v w v s h = split (outermost s) (λ e. rw e all_none) (λ e. rw e all_none)
short_by $d w v s h = accept_short (check_disjoint w v s) _ all_none
short_by $f w v s h =
    unless_short (check_label w s) _
    (accept_short (check_float w v s) _
    (all_more
    (λ c.
    stub_short s.at s.end s.label (token s 0).bytes (token s 1).bytes
    (omega (arith, two_light s s.math refl)))
    all_none))
short_by $e w v s h = unless_short (check_label w s) _ (accept_short (check_expression w v s) _ all_none)
short_by $a w v s h =
    unless_short (check_label w s) _
    (accept_short (check_expression w v s) _
    (all_more (full_short 2 s v (formula w v s) (omega (arith, formula_light w v s))) all_none))
short_by $p w v s h =
    unless_short (check_label w s) _
    (accept_short (check_expression w v s) _
    (all_more (full_short 3 s v (formula w v s) (omega (arith, formula_light w v s))) all_none))

pub gives_short : (w l : List Statement) (x : State) → state_weight x + statements_weight l ≤ 16777217
    → All (λ g. All Fit g.frame) (gives w l x)
unfolding gives give total
gives_short w [] x h = all_none
gives_short w (s ∷ l) x h =
    let v = view x s.at in
    let r = (give w v s).records in
    all_more (short_by s.kind w v s (omega (arith, view_weight x s.at)))
    (gives_short w l (plus x r) (omega (arith, plus_weight x r, light w v s)))

-- ---- a statement has at most one
pub data One : List Frame → Type 0 where
  no_frame : One []
  one_frame : {x : Frame} → One (x ∷ [])

accept_one : (d : List Diag) (r : State) {f : List Frame} → One f → One (accept d r f).frame
accept_one [] r a = a
accept_one (x ∷ d) r a = no_frame

unless_one : (d : List Diag) (g : Given) → One g.frame → One (unless d g).frame
unless_one [] g a = a
unless_one (x ∷ d) g a = no_frame

pub one_by : (k : Kind) (w : List Statement) (v : State) (s : Statement) → One (give_by k w v s).frame
unfolding give_c give_v give_d give_f give_e give_assertion
one_by $c w v s = split (outermost s) (λ e. rw e no_frame) (λ e. rw e no_frame)
one_by $v w v s = split (outermost s) (λ e. rw e no_frame) (λ e. rw e no_frame)
one_by $d w v s = accept_one (check_disjoint w v s) _ no_frame
one_by $f w v s = unless_one (check_label w s) _ (accept_one (check_float w v s) _ one_frame)
one_by $e w v s = unless_one (check_label w s) _ (accept_one (check_expression w v s) _ no_frame)
one_by $a w v s = unless_one (check_label w s) _ (accept_one (check_expression w v s) _ one_frame)
one_by $p w v s = unless_one (check_label w s) _ (accept_one (check_expression w v s) _ one_frame)

gives_one : (w l : List Statement) (x : State) → All (λ g. One g.frame) (gives w l x)
unfolding gives give
gives_one w [] x = all_none
gives_one w (s ∷ l) x =
    all_more (one_by s.kind w (view x s.at) s) (gives_one w l (plus x (give w (view x s.at) s).records))

-- ---- its record, whole or restricted
framed_length : (k : ℕ) (o : ℕ) (r : List ℕ) → 6 + length r < 4294967296 → length (framed k (u32 o ++ r)) ≤ 4294967300
unfolding framed
framed_length k o r h = simp (length-append, u16_length, u32_length) (omega (arith, h))

record_length : (c : Setting) (x : Frame) → Short x → length (frame_record (frame_as c x)) ≤ 4294967300
record_length setting.Full x h = rw (frame_framed x) (framed_length (kind_of x) (frame_at x) (rest_of x) h)
record_length setting.Short (stub o e n c v) h =
    rw (frame_framed (stub o e n c v)) (framed_length 4 o (rest_of (stub o e n c v)) h)
record_length setting.Short (full f) h =
    rw (frame_framed (full (restricted f)))
    (framed_length f.kind f.at (rest_of (full (restricted f))) (omega (arith, h, restricted_length f)))

records_length : (c : Setting) {f : List Frame} → One f → All Fit f → find crowded f ≡ none
    → length (gather (λ x. frame_record (frame_as c x)) f) ≤ 4294967300
unfolding gather
records_length c no_frame h e = omega arith
records_length c (one_frame {x = x}) h e =
    omega (
      arith,
      record_length c x (all_first h (all_first (find_none crowded (x ∷ []) e))),
      length-append (frame_record (frame_as c x)) [],
    )

abbrev pub Brief : Setting → Given → Type 0
Brief c g = find crowded g.frame ≡ none → length (frame_records c g) ≤ 4294967300

pub records_short : (c : Setting) (t : List ℕ) (w : ℕ) (l : List Statement) → reading t w ≡ given l → All (Brief c) (all_given l)
unfolding all_given frame_records total
records_short c t w l e =
    let h = passed t w l e in
    let b : statements_weight l ≤ 16777217 = rw h.statements (omega (arith, text_weight t h.read h.reads, h.small)) in
    all_map (λ g p. records_length c p.0 p.1) (all_both (gives_one l l nothing) (gives_short l l nothing (omega arith)))
