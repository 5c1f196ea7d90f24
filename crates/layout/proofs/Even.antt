-- Every frame that statements give is even: its kind is an assertion's, its rows are V by V, and M is at most V.
-- So it is regular, whole or restricted, where it has at most 4,095 variables and its record is short.
use mathlib.Core.Path.{◌≡◌, refl, sym, ◌∙◌}
use mathlib.Core.Bool.{Bool, true, false}
use mathlib.Core.List.{List, [], ◌∷◌, map}
use Prim.Native.Nat.{ℕ, zero, suc, ◌+◌, ◌*◌, ◌/◌, ◌≤◌}
use native.Mathlib.Nat.{zero-mul, suc-mul}
use native.Mathlib.Omega.{arith}
use lib.Dec.{eqb}
use lib.ListN.{length, take, length-append, length-map}
use lib.Seq.{length-take-le}
use borrow.Author.Tests.{ltb-false}
use Rattle.paper.specs.Base.{or, gather}
use Rattle.paper.specs.Statements.{Kind, $c, $v, $d, $f, $e, $a, $p, Statement, outermost}
use Rattle.paper.specs.State.{State, view, plus, Formula}
use Rattle.paper.specs.Checks.{Diag, check_label, check_float, check_expression, check_disjoint}
use Rattle.paper.specs.Variables.{sights, mandatory}
use Rattle.paper.specs.Pairs.{in_order, apart, row, rows}
use Rattle.paper.specs.Frames.{Full, Frame, stub, full, frame_of, restricted, frame_as}
use Rattle.paper.specs.Give.{Given, accept, unless, give_c, give_v, give_d, give_f, give_e, give_assertion, give_by, give, gives}
use Rattle.paper.specs.Records.{row_bytes}
use Rattle.paper.specs.Answer.{crowded}
use Rattle.paper.specs.declared.Setting.{Setting}
use Rattle.paper.specs.declared.Setting.TheVariants as setting
use Rattle.paper.proofs.Tests.{split}
use Rattle.paper.proofs.Alls.{All, all_none, all_more}
use Rattle.paper.proofs.Tables.{length_table}
use Rattle.theorems.proofs.Lengths.{sights_grow}
use Rattle.layout.specs.Regular.{RegularFull, RegularFrame}

pub record EvenFull (f : Full) : Type 0 where
  pub kind : or (eqb f.kind 2) (eqb f.kind 3) ≡ true
  pub square : length f.rows ≡ length f.variables
  pub wide : All (λ r. length r ≡ length f.variables) f.rows
  pub less : f.mandatory ≤ length f.variables

abbrev pub Even : Frame → Type 0
Even (stub o e n c v) = Unit
Even (full f) = EvenFull f

-- ---- the frame of an assertion
all_wide : (l : List (List ℕ)) (d : List (List (List ℕ))) (k : List (List ℕ)) → All (λ r. length r ≡ length l) (map (row l d) k)
all_wide l d [] = all_none
all_wide l d (x ∷ k) = all_more (length-map l (apart d x)) (all_wide l d k)

frame_even : (k : ℕ) (s : Statement) (v : State) (f : Formula) → or (eqb k 2) (eqb k 3) ≡ true → Even (frame_of k s v f)
unfolding frame_of rows
frame_even k s v f e =
    let m = mandatory v.hyps f in
    let d = in_order v.disjoints in
    let l = sights (gather (λ n. n) d) m in
    record { kind = e; square = length-map l (row l d); wide = all_wide l d l; less = sights_grow (gather (λ n. n) d) m }

-- ---- what statements give
accept_even : (d : List Diag) (r : State) {f : List Frame} → All Even f → All Even (accept d r f).frame
accept_even [] r a = a
accept_even (x ∷ d) r a = all_none

unless_even : (d : List Diag) (g : Given) → All Even g.frame → All Even (unless d g).frame
unless_even [] g a = a
unless_even (x ∷ d) g a = all_none

even_by : (k : Kind) (w : List Statement) (v : State) (s : Statement) → All Even (give_by k w v s).frame
unfolding give_c give_v give_d give_f give_e give_assertion
even_by $c w v s = split (outermost s) (λ e. rw e all_none) (λ e. rw e all_none)
even_by $v w v s = split (outermost s) (λ e. rw e all_none) (λ e. rw e all_none)
even_by $d w v s = accept_even (check_disjoint w v s) _ all_none
even_by $f w v s = unless_even (check_label w s) _ (accept_even (check_float w v s) _ (all_more tt all_none))
even_by $e w v s = unless_even (check_label w s) _ (accept_even (check_expression w v s) _ all_none)
even_by $a w v s = unless_even (check_label w s) _ (accept_even (check_expression w v s) _ (all_more (frame_even 2 s v _ refl) all_none))
even_by $p w v s = unless_even (check_label w s) _ (accept_even (check_expression w v s) _ (all_more (frame_even 3 s v _ refl) all_none))

pub gives_even : (w l : List Statement) (x : State) → All (λ g. All Even g.frame) (gives w l x)
unfolding gives give
gives_even w [] x = all_none
gives_even w (s ∷ l) x =
    all_more (even_by s.kind w (view x s.at) s) (gives_even w l (plus x (give w (view x s.at) s).records))

-- ---- whole or restricted
rows_size : (v : ℕ) {l : List (List Bool)} → All (λ r. length r ≡ v) l → length (gather row_bytes l) ≡ length l * ((v + 7) / 8)
unfolding gather row_bytes
rows_size v all_none = sym (zero-mul ((v + 7) / 8))
rows_size v (all_more {x = r} {l = l} e a) =
    let h : length (row_bytes r) ≡ (v + 7) / 8 = length_table _ ((length r + 7) / 8) ∙ rw e in
    length-append (row_bytes r) (gather row_bytes l) ∙ omega (arith, h, rows_size v a, suc-mul (length l) ((v + 7) / 8))

full_regular : (f : Full) → EvenFull f → length f.variables ≤ 4095 → RegularFull f
full_regular f e h =
    record { kind = e.kind; few = omega arith; rows = rows_size (length f.variables) e.wide ∙ rw e.square }

cut_wide : (m v : ℕ) → m ≤ v → {l : List (List Bool)} → All (λ r. length r ≡ v) l → (k : ℕ) → All (λ r. length r ≡ m) (map (take m) (take k l))
cut_wide m v h all_none zero = all_none
cut_wide m v h all_none (suc k) = all_none
cut_wide m v h (all_more e a) zero = all_none
cut_wide m v h (all_more {x = r} e a) (suc k) = all_more (length-take-le m r (omega arith)) (cut_wide m v h a k)

restricted_even : (f : Full) → EvenFull f → EvenFull (restricted f)
restricted_even f e =
    let m = f.mandatory in
    let n : length (take m f.variables) ≡ m = length-take-le m f.variables e.less in
    record {
      kind = e.kind;
      square = length-map (take m f.rows) (take m) ∙ length-take-le m f.rows (omega (arith, e.square, e.less)) ∙ sym n;
      wide = rw n (cut_wide m (length f.variables) e.less e.wide m);
      less = omega arith;
    }

pub even_regular : (c : Setting) (x : Frame) → Even x → crowded x ≡ false → RegularFrame (frame_as c x)
even_regular setting.Full (stub o e n c v) a h = tt
even_regular setting.Full (full f) a h = full_regular f a (ltb-false 4095 (length f.variables) h)
even_regular setting.Short (stub o e n c v) a h = tt
even_regular setting.Short (full f) a h =
    full_regular (restricted f) (restricted_even f a)
    (omega (arith, ltb-false 4095 (length f.variables) h, a.less, length-take-le f.mandatory f.variables a.less))
