-- The tokens outside comments, of one list after another; there are no more of them than tokens.
-- Assumes nothing.
use mathlib.Core.Path.{◌≡◌, refl, sym, ap, ◌∙◌}
use mathlib.Core.List.{List, [], ◌∷◌, ◌++◌, append_assoc}
use Prim.Native.Nat.{◌≤◌}
use native.Mathlib.Omega.{arith}
use lib.ListN.{length, length-append}
use Rattle.paper.specs.Tokens.{Token, key}
use Rattle.paper.specs.Comments.{Place, outside, inside, next, after, marked, shown, visible}
use Rattle.paper.proofs.Tests.{split}

pub after_append : (l m : List Token) (p : Place) → after (l ++ m) p ≡ after m (after l p)
unfolding after
after_append [] m p = refl
after_append (x ∷ l) m p = after_append l m (next p x)

pub visible_append : (l m : List Token) (p : Place) → visible (l ++ m) p ≡ visible l p ++ visible m (after l p)
unfolding after visible
visible_append [] m p = refl
visible_append (x ∷ l) m p =
    ap (λ r. shown p x ++ r) (visible_append l m (next p x))
    ∙ sym (append_assoc (shown p x) (visible l (next p x)) (visible m (after l (next p x))))

shown_few : (p : Place) (x : Token) → length (shown p x) ≤ 1
shown_few outside x = split (key 40 x) (λ e. rw e (omega arith)) (λ e. rw e (omega arith))
shown_few (inside o) x = split (marked x) (λ e. rw e (omega arith)) (λ e. rw e (omega arith))

pub visible_few : (l : List Token) (p : Place) → length (visible l p) ≤ length l
unfolding visible
visible_few [] p = omega arith
visible_few (x ∷ l) p =
    omega (arith, shown_few p x, visible_few l (next p x), length-append (shown p x) (visible l (next p x)))
