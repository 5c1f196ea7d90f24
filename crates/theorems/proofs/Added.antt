-- Statements followed by others: each of the first asks the same of the whole text, so it records the same and has the same frame.
-- What is added owns no label that is borne, and a later declaration is not active; only a later `$c` would change a verdict.
use mathlib.Core.Path.{◌≡◌, refl, sym, ap, ◌∙◌}
use mathlib.Core.Bool.{Bool, true, false}
use mathlib.Core.List.{List, [], ◌∷◌, ◌++◌, map}
use mathlib.Core.Option.{Option, none, some}
use Prim.Native.Nat.{ℕ, ◌<◌, ◌≤◌}
use native.Mathlib.Omega.{arith}
use borrow.Author.Tests.{le-ltb}
use Rattle.paper.specs.Base.{any, find, or_else, gather}
use Rattle.paper.specs.Tokens.{Token}
use Rattle.paper.specs.Statements.{Kind, $c, $v, $d, $f, $e, $a, $p, Statement, outermost}
use Rattle.paper.specs.Names.{named, bearer, labels, owner, Declared, declared_by, declarations, declared, declares_name, global}
use Rattle.paper.specs.State.{State, nothing, view, Sense, by_global}
use Rattle.paper.specs.Checks.{Verdict, by_declared}
use Rattle.paper.specs.Frames.{frame_as}
use Rattle.paper.specs.Give.{give, gives, all_given}
use Rattle.paper.specs.Records.{frame_record, frame_records, frame_stream}
use Rattle.paper.specs.declared.Setting.{Setting}
use Rattle.paper.proofs.Tests.{split, clash}
use Rattle.paper.proofs.Lists.{gather_append, find_append}
use Rattle.paper.proofs.Alls.{All, all_none, all_more, all_map, all_both, all_of}
use Rattle.paper.proofs.Searches.{all_gather, all_ungather, find_any, find_none}
use Rattle.theorems.specs.Later.{variables_by, constants_by, nested_variables, outer_constants, names_nested, FollowedBy, LaterStatements}
use Rattle.theorems.proofs.Agree.{SameOwner, SameSense, SameVerdict, Agree, give_same}
use Rattle.theorems.proofs.Whole.{named_all}
use Rattle.theorems.proofs.Fold.{later, gives_append}

-- ---- lists
abbrev OnSome : {A : Type 0} → (A → Type 0) → Option A → Type 0
OnSome P none = Unit
OnSome P (some x) = P x

find_all : {A : Type 0} {P : A → Type 0} (p : A → Bool) {l : List A} → All (λ x. p x ≡ true → P x) l → OnSome P (find p l)
unfolding find
find_all p all_none = tt
find_all p (all_more {x = x} h a) = split (p x) (λ e. rw e (h e)) (λ e. rw e (find_all p a))

-- found in the first of two lists
find_first : {A : Type 0} (p : A → Bool) (l m : List A) → any p l ≡ true → find p l ≡ find p (l ++ m)
unfolding any find
find_first p [] m e = absurd (clash (sym e))
find_first p (x ∷ l) m e = split (p x) (λ h. rw h) (λ h. rw h (find_first p l m (rw h at e)))

none_passes : {A : Type 0} (p : A → Bool) (l : List A) → any p l ≡ false → All (λ x. p x ≡ false) l
none_passes p l e = find_none p l (find_any p l e)

all_mapped : {A B : Type 0} (Q : B → Type 0) (f : A → B) {l : List A} → All (λ x. Q (f x)) l → All Q (map f l)
all_mapped Q f all_none = all_none
all_mapped Q f (all_more h a) = all_more h (all_mapped Q f a)

-- ---- what statements declare
-- all stand where their tokens do
declared_at : (P : ℕ → Type 0) (k : Kind) {m : List Token} → All (λ t. P t.at) m → All (λ g. P g.at) (declared_by k m)
declared_at P $c a = all_mapped (λ g. P g.at) _ a
declared_at P $v a = all_mapped (λ g. P g.at) _ a
declared_at P $d a = all_none
declared_at P $f a = all_none
declared_at P $e a = all_none
declared_at P $a a = all_none
declared_at P $p a = all_none

declarations_at : (P : ℕ → Type 0) (s : Statement) → All (λ t. P t.at) s.math → All (λ g. P g.at) (declarations s)
declarations_at P s a = split (outermost s) (λ e. rw e (declared_at P s.kind a)) (λ e. rw e all_none)

-- a name that no `$c` among them names is declared by no constant
abbrev NotConstant : List ℕ → Declared → Type 0
NotConstant n g = declares_name n g ≡ true → g.constant ≡ false

constants_none : (n : List ℕ) (k : Kind) (m : List Token) → All (λ t. named n t ≡ false) (constants_by k m)
    → All (NotConstant n) (declared_by k m)
constants_none n $c m a = all_mapped (NotConstant n) _ (all_map (λ t h e. absurd (clash (sym e ∙ h))) a)
constants_none n $v m a = all_mapped (NotConstant n) _ (all_of m (λ t e. refl))
constants_none n $d m a = all_none
constants_none n $f m a = all_none
constants_none n $e m a = all_none
constants_none n $a m a = all_none
constants_none n $p m a = all_none

declarations_none : (n : List ℕ) (s : Statement) → All (λ t. named n t ≡ false) (outer_constants s)
    → All (NotConstant n) (declarations s)
declarations_none n s a =
    split (outermost s) (λ e. rw e (constants_none n s.kind s.math (rw e at a))) (λ e. rw e all_none)

-- ---- a later declaration is not active, and is no `$c`
later_sense : (o p : Option Declared) (a : ℕ) (r : Sense) → OnSome (λ g. a ≤ g.at) p
    → by_global o a r ≡ by_global (or_else o p) a r
later_sense (some g) p a r h = refl
later_sense none none a r h = refl
later_sense none (some g) a r h = rw (le-ltb g.at a h)

later_verdict : (o p : Option Declared) (a : ℕ) (r : Verdict) → OnSome (λ g. (a ≤ g.at) × (g.constant ≡ false)) p
    → by_declared o a r ≡ by_declared (or_else o p) a r
later_verdict (some g) p a r h = refl
later_verdict none none a r h = refl
later_verdict none (some g) a r h = rw (le-ltb g.at a h.0, h.1)

nested_all : {P : Token → Type 0} (s : Statement) → All P s.math → All P (nested_variables s)
nested_all {P} s a = split (outermost s) (λ e. rw e all_none) (λ e. rw e (by_kind s.kind))
  where
    by_kind : (k : Kind) → All P (variables_by k s.math)
    by_kind $c = all_none
    by_kind $v = a
    by_kind $d = all_none
    by_kind $f = all_none
    by_kind $e = all_none
    by_kind $a = all_none
    by_kind $p = all_none

module _ (l m : List Statement) where
  global_more : (n : List ℕ) → global (l ++ m) n ≡ or_else (global l n) (global m n)
  unfolding global declared
  global_more n =
      ap (find (declares_name n)) (gather_append declarations l m)
      ∙ find_append (declares_name n) (gather declarations l) (gather declarations m)

  owners_same : All (SameOwner l (l ++ m)) (labels l)
  unfolding owner labels
  owners_same =
      named_all (λ n. owner l n ≡ owner (l ++ m) n) (labels l)
      (λ n e. find_first (named n) (gather bearer l) (gather bearer m) e ∙ ap (find (named n)) (sym (gather_append bearer l m)))

  module _ (h : FollowedBy l m) where
    declared_late : All (λ g. h.between ≤ g.at) (declared m)
    unfolding declared
    declared_late = all_gather declarations (declarations_at (λ n. h.between ≤ n)) h.after

    sense_same : (t : Token) → t.at < h.between → SameSense l (l ++ m) t
    unfolding global
    sense_same t k r =
        rw (global_more t.bytes)
        (later_sense (global l t.bytes) (global m t.bytes) t.at r
        (find_all (declares_name t.bytes) (all_map (λ g e f. omega arith) declared_late)))

    -- by the tokens of outermost `$c` that are added
    verdict_same : (t : Token) → t.at < h.between → any (named t.bytes) (gather outer_constants m) ≡ false → SameVerdict l (l ++ m) t
    unfolding global declared
    verdict_same t k e r =
        let n = t.bytes in
        let c = none_passes (named n) (gather outer_constants m) e in
        let d : All (NotConstant n) (declared m) = all_gather declarations (declarations_none n) (all_ungather outer_constants m c) in
        rw (global_more n)
        (later_verdict (global l n) (global m n) t.at r
        (find_all (declares_name n) (all_map (λ g z f. (omega (arith, z.0), z.1 f)) (all_both declared_late d))))

    agreed : names_nested l m ≡ false → All (Agree l (l ++ m)) l
    unfolding labels names_nested
    agreed q =
        let p : Token → Bool = λ t. any (named t.bytes) (gather outer_constants m) in
        let a = all_ungather bearer l owners_same in
        let b = all_ungather nested_variables l (none_passes p (gather nested_variables l) q) in
        all_map
        (λ s z.
        record {
          label_owner = z.0;
          senses = all_map sense_same z.1.0;
          verdicts = all_map (λ t e. verdict_same t e.0 e.1) (all_both (nested_all s z.1.0) z.1.1);
        })
        (all_both a (all_both h.before b))

-- ---- the fold
frames_same : (c : Setting) {w x l : List Statement} → All (Agree w x) l → (y : State) → frame_stream c (gives w l y) ≡ frame_stream c (gives x l y)
unfolding gives frame_stream frame_records gather
frames_same c all_none y = refl
frames_same c {w} {x} (all_more {x = s} a b) y =
    let g = give_same a (view y s.at) in
    rw (g.framed, g.recorded) (ap (λ (r : List ℕ). gather (λ z. frame_record (frame_as c z)) (give x (view y s.at) s).frame ++ r) (frames_same c b _))

pub later_statements : LaterStatements
unfolding all_given frame_stream
later_statements c l m h q =
    record {
      more = frame_stream c (gives (l ++ m) m (later (l ++ m) l nothing));
      whole =
          ap (frame_stream c) (gives_append (l ++ m) l m nothing)
          ∙ (gather_append (frame_records c) (gives (l ++ m) l nothing) (gives (l ++ m) m (later (l ++ m) l nothing))
          ∙ ap (λ (r : List ℕ). r ++ frame_stream c (gives (l ++ m) m (later (l ++ m) l nothing))) (sym (frames_same c (agreed l m h q) nothing)));
    }
