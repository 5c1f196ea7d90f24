-- Comments: the visible tokens of one part after another, and the place at a token that is visible.
-- The lemmas V1 and V2 of the proof on paper; V3 is both of them twice.
use mathlib.Core.Path.{◌≡◌, refl, sym, ap, ◌∙◌}
use mathlib.Core.Bool.{true, false}
use mathlib.Core.List.{List, [], ◌∷◌, ◌++◌, append_assoc}
use Prim.Native.Nat.{ℕ}
use Rattle.paper.specs.Tokens.{Token, key}
use Rattle.paper.specs.Comments.{Place, outside, inside, next, after, bracketed, marked, shown, visible}
use Rattle.paper.proofs.Tests.{split, clash, same_eq}
use Rattle.paper.proofs.Alls.{All, all_none, all_more}
use Rattle.paper.proofs.Searches.{not_nil}

-- ---- V1
pub after_append : (x y : List Token) (m : Place) → after (x ++ y) m ≡ after y (after x m)
unfolding after
after_append [] y m = refl
after_append (t ∷ x) y m = after_append x y (next m t)

pub visible_append : (x y : List Token) (m : Place) → visible (x ++ y) m ≡ visible x m ++ visible y (after x m)
unfolding visible after
visible_append [] y m = refl
visible_append (t ∷ x) y m =
    ap (λ (r : List Token). shown m t ++ r) (visible_append x y (next m t))
    ∙ sym (append_assoc (shown m t) (visible x (next m t)) (visible y (after x (next m t))))

-- what holds of tokens holds of the visible ones
pub visible_all : {P : Token → Type 0} {l : List Token} (m : Place) → All P l → All P (visible l m)
unfolding visible
visible_all m all_none = all_none
visible_all outside (all_more {x = x} h a) =
    split (key 40 x) (λ k. rw k (visible_all _ a)) (λ k. rw k (all_more h (visible_all _ a)))
visible_all (inside o) (all_more {x = x} h a) =
    split (marked x) (λ k. rw k (all_more h (visible_all _ a))) (λ k. rw k (visible_all _ a))

-- ---- V2: at a visible token that may stand in a comment none is open
pub record Shown (l : List Token) (m : Place) (u : List Token) (t : Token) (v : List Token) : Type 0 where
  pub before : List Token
  pub behind : List Token
  pub tokens : l ≡ before ++ (t ∷ behind)
  pub left : visible before m ≡ u
  pub out : after before m ≡ outside
  pub plain : key 40 t ≡ false
  pub right : visible behind outside ≡ v

hidden : {m n : Place} {x : Token} {l : List Token} {u : List Token} {t : Token} {v : List Token} → next m x ≡ n
    → shown m x ≡ [] → Shown l n u t v → Shown (x ∷ l) m u t v
unfolding visible after
hidden {x = x} a b c =
    record {
      before = x ∷ c.before;
      behind = c.behind;
      tokens = ap (λ (r : List Token). x ∷ r) c.tokens;
      left = rw (a, b) c.left;
      out = rw a c.out;
      plain = c.plain;
      right = c.right;
    }

-- the token x is visible: it is t, or one before it
first : (x : Token) (l u : List Token) (t : Token) (v : List Token) → key 40 x ≡ false
    → ((y : List Token) → visible l outside ≡ y ++ (t ∷ v) → Shown l outside y t v)
    → x ∷ visible l outside ≡ u ++ (t ∷ v) → Shown (x ∷ l) outside u t v
unfolding visible after
first x l [] t v k f e =
    let a : x ≡ t = cc in
    record {
      before = [];
      behind = l;
      tokens = rw a;
      left = refl;
      out = refl;
      plain = rw (← a) k;
      right = cc;
    }
first x l (y ∷ u) t v k f e =
    let a : x ≡ y = cc in
    let c = f u (cc) in
    record {
      before = x ∷ c.before;
      behind = c.behind;
      tokens = ap (λ (r : List Token). x ∷ r) c.tokens;
      left = rw k (ap (λ (r : List Token). x ∷ r) c.left ∙ rw a);
      out = rw k c.out;
      plain = c.plain;
      right = c.right;
    }

-- a keyword that may stand in a comment
pub plain_key : (k : ℕ) (t : Token) → bracketed (36 ∷ k ∷ []) ≡ false → key k t ≡ true → bracketed t.bytes ≡ false
unfolding key
plain_key k t n e = ap bracketed (same_eq t.bytes (36 ∷ k ∷ []) e) ∙ n

-- the token x may not stand in the comment, and is visible: it is one before t
spoilt : (x : Token) (l : List Token) (o : ℕ) (u : List Token) (t : Token) (v : List Token) → key 41 x ≡ false → bracketed x.bytes ≡ true
    → bracketed t.bytes ≡ false → ((y : List Token) → visible l (inside o) ≡ y ++ (t ∷ v) → Shown l (inside o) y t v)
    → x ∷ visible l (inside o) ≡ u ++ (t ∷ v) → Shown (x ∷ l) (inside o) u t v
unfolding visible after
spoilt x l o [] t v k b n f e =
    let a : x ≡ t = cc in
    absurd (clash (sym b ∙ ap (λ (y : Token). bracketed y.bytes) a ∙ n))
spoilt x l o (y ∷ u) t v k b n f e =
    let a : x ≡ y = cc in
    let c = f u (cc) in
    record {
      before = x ∷ c.before;
      behind = c.behind;
      tokens = ap (λ (r : List Token). x ∷ r) c.tokens;
      left = rw (b, k) (ap (λ (r : List Token). x ∷ r) c.left ∙ rw a);
      out = rw k c.out;
      plain = c.plain;
      right = c.right;
    }

pub shown_cut : (l : List Token) (m : Place) (u : List Token) (t : Token) (v : List Token) → bracketed t.bytes ≡ false
    → visible l m ≡ u ++ (t ∷ v) → Shown l m u t v
unfolding visible
shown_cut [] m u t v n e = absurd (not_nil u t v e)
shown_cut (x ∷ l) outside u t v n e =
    split (key 40 x)
    (λ k. hidden {n = inside x.at} (rw k) (rw k) (shown_cut l (inside x.at) u t v n (rw k at e)))
    (λ k. first x l u t v k (λ y. shown_cut l outside y t v n) (rw k at e))
shown_cut (x ∷ l) (inside o) u t v n e =
    split (bracketed x.bytes)
    (λ b. split (key 41 x)
    (λ k. hidden {n = outside} (rw k) (rw (b, k)) (shown_cut l outside u t v n (rw (b, k) at e)))
    (λ k. spoilt x l o u t v k b n (λ y. shown_cut l (inside o) y t v n) (rw (b, k) at e)))
    (λ b. split (key 41 x)
    (λ k. hidden {n = outside} (rw k) (rw b) (shown_cut l outside u t v n (rw (b, k) at e)))
    (λ k. hidden {n = inside o} (rw k) (rw b) (shown_cut l (inside o) u t v n (rw (b, k) at e))))

pub shown_after : {l : List Token} {m : Place} {u : List Token} {t : Token} {v : List Token} (c : Shown l m u t v)
    → after l m ≡ after c.behind outside
unfolding after
shown_after {m = m} {t = t} c =
    ap (λ (r : List Token). after r m) c.tokens
    ∙ (after_append c.before (t ∷ c.behind) m ∙ rw (c.out, c.plain))
