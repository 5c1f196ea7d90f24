-- The searches of the definitions over one list after another.
-- For every crate; nothing here is about Metamath.
use mathlib.Core.Path.{◌≡◌, refl, sym, ap, ◌∙◌}
use mathlib.Core.Bool.{Bool}
use mathlib.Core.List.{List, [], ◌∷◌, ◌++◌, append_assoc}
use mathlib.Core.Option.{Option, none, some}
use Rattle.paper.specs.Base.{choose, keep, find, or_else, latest, gather}
use Rattle.paper.proofs.Tests.{split}

pub gather_append : {A B : Type 0} (f : A → List B) (l m : List A) → gather f (l ++ m) ≡ gather f l ++ gather f m
unfolding gather
gather_append f [] m = refl
gather_append f (x ∷ l) m =
    ap (λ r. f x ++ r) (gather_append f l m) ∙ sym (append_assoc (f x) (gather f l) (gather f m))

pub keep_append : {A : Type 0} (p : A → Bool) (l m : List A) → keep p (l ++ m) ≡ keep p l ++ keep p m
unfolding keep
keep_append p [] m = refl
keep_append p (x ∷ l) m =
    split (p x) (λ e. rw (e, keep_append p l m)) (λ e. rw (e, keep_append p l m))

pub find_append : {A : Type 0} (p : A → Bool) (l m : List A) → find p (l ++ m) ≡ or_else (find p l) (find p m)
unfolding find
find_append p [] m = refl
find_append p (x ∷ l) m = split (p x) (λ e. rw e) (λ e. rw e (find_append p l m))

or_else_assoc : {A : Type 0} (x y z : Option A) → or_else x (or_else y z) ≡ or_else (or_else x y) z
or_else_assoc (some x) y z = refl
or_else_assoc none y z = refl

pub latest_append : {A : Type 0} (p : A → Bool) (l m : List A) → latest p (l ++ m) ≡ or_else (latest p m) (latest p l)
unfolding latest
latest_append p [] m = or_else_none (latest p m)
  where
    or_else_none : {A : Type 0} (x : Option A) → x ≡ or_else x none
    or_else_none (some x) = refl
    or_else_none none = refl
latest_append p (x ∷ l) m =
    ap (λ r. or_else r (choose (p x) (some x) none)) (latest_append p l m)
    ∙ sym (or_else_assoc (latest p m) (latest p l) (choose (p x) (some x) none))
