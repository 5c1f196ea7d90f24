-- Tokens under blanking: the bytes of a text cut at one of its tokens, and bytes with white space in their middle.
-- The lemmas T1 to T7 of the proof on paper, the first three by one induction.
use mathlib.Core.Path.{◌≡◌, refl, sym, ap, ◌∙◌}
use mathlib.Core.Bool.{true}
use mathlib.Core.List.{List, [], ◌∷◌, ◌++◌}
use Prim.Native.Nat.{ℕ, zero, suc, ◌+◌, ◌<◌, ◌≤◌}
use native.Mathlib.Nat.{add-zero, add-suc, suc-add}
use native.Mathlib.Omega.{arith}
use lib.ListN.{length, take, drop, replicate, length-replicate}
use lib.Seq.{take_at, drop-append-add}
use Rattle.paper.specs.Bytes.{white}
use Rattle.paper.specs.Answer.{laid}
use Rattle.paper.specs.Tokens.{Token, put, run, toks}
use Rattle.paper.proofs.Tests.{split}
use Rattle.theorems.specs.Groups.{span, blanked}
use Rattle.paper.proofs.Alls.{All, all_none, all_more, all_map}
use Rattle.paper.proofs.Searches.{not_nil}

-- ---- T1, T2: cut at white space
put_append : (o : ℕ) (h : List ℕ) (x y : List Token) → put o h (x ++ y) ≡ put o h x ++ y
put_append o [] x y = refl
put_append o (b ∷ h) x y = refl

pub run_white : (a : List ℕ) (c : ℕ) (b : List ℕ) (o : ℕ) → white c ≡ true
    → run (a ++ (c ∷ b)) o ≡ record { head = (run a o).head; rest = (run a o).rest ++ toks b (suc (o + length a)) }
unfolding run toks
run_white [] c b o e = rw (e, add-zero)
run_white (x ∷ a) c b o e =
    rw (run_white a c b (suc o) e, add-suc, suc-add)
    (split (white x)
    (λ w. rw (w, put_append (suc o) (run a (suc o)).head (run a (suc o)).rest (toks b (suc (suc (o + length a))))))
    (λ w. rw w))

pub toks_white : (a : List ℕ) (c : ℕ) (b : List ℕ) (o : ℕ) → white c ≡ true
    → toks (a ++ (c ∷ b)) o ≡ toks a o ++ toks b (suc (o + length a))
unfolding toks
toks_white a c b o e = rw (run_white a c b o e) (put_append o (run a o).head (run a o).rest (toks b (suc (o + length a))))

-- ---- T3: blanks give no token
pub white_32 : white 32 ≡ true
unfolding white
white_32 = refl

pub toks_blank : (n : ℕ) (b : List ℕ) (o : ℕ) → toks (replicate n 32 ++ b) o ≡ toks b (o + n)
unfolding run toks
toks_blank zero b o = rw add-zero
toks_blank (suc n) b o =
    toks_white [] 32 (replicate n 32 ++ b) o white_32
    ∙ rw (add-zero, toks_blank n b (suc o), add-suc, suc-add)

-- ---- T4 to T6: cut at a token. The run at the front first
record Front (l : List ℕ) (o : ℕ) : Type 0 where
  behind : List ℕ
  bytes : l ≡ (run l o).head ++ behind
  right : toks behind (o + length (run l o).head) ≡ (run l o).rest

front : (l : List ℕ) (o : ℕ) → Front l o
unfolding run toks
front [] o = record { behind = []; bytes = refl; right = refl }
front (b ∷ l) o =
    let f = front l (suc o) in
    split (white b)
    (λ e. record { behind = b ∷ l; bytes = rw e; right = rw (e, add-zero) })
    (λ e.
    record {
      behind = f.behind;
      bytes = rw e (ap (λ (x : List ℕ). b ∷ x) f.bytes);
      right = rw (e, add-suc, ← suc-add) f.right;
    })

-- the tokens x, then t, then z: the bytes before t have the tokens x, those after it the tokens z
pub record Cut (l : List ℕ) (o : ℕ) (x : List Token) (t : Token) (z : List Token) : Type 0 where
  pub before : List ℕ
  pub behind : List ℕ
  pub bytes : l ≡ before ++ (t.bytes ++ behind)
  pub at : t.at ≡ o + length before
  pub left : toks before o ≡ x
  pub right : toks behind ((o + length before) + length t.bytes) ≡ z

-- the same for the tokens after the run at the front
record CutLater (l : List ℕ) (o : ℕ) (x : List Token) (t : Token) (z : List Token) : Type 0 where
  before : List ℕ
  behind : List ℕ
  bytes : l ≡ before ++ (t.bytes ++ behind)
  at : t.at ≡ o + length before
  head : (run before o).head ≡ (run l o).head
  left : (run before o).rest ≡ x
  right : toks behind ((o + length before) + length t.bytes) ≡ z

later_cut : {l : List ℕ} {o : ℕ} {x : List Token} {t : Token} {z : List Token} → CutLater l o x t z
    → Cut l o (put o (run l o).head x) t z
unfolding toks
later_cut c =
    record {
      before = c.before;
      behind = c.behind;
      bytes = c.bytes;
      at = c.at;
      left = rw (c.head, c.left);
      right = c.right;
    }

-- by the run at the front: none, or the first token
cut_by : (l : List ℕ) (o : ℕ) (h : List ℕ) (x : List Token) (t : Token) (z : List Token) → (run l o).head ≡ h
    → ((y : List Token) → (run l o).rest ≡ y ++ (t ∷ z) → CutLater l o y t z) → put o h (run l o).rest ≡ x ++ (t ∷ z)
    → Cut l o x t z
unfolding run toks
cut_by l o [] x t z e f g = let c = later_cut (f x g) in rw e at c
cut_by l o (b ∷ h) [] t z e f g =
    let u : record { at = o; bytes = b ∷ h } ≡ t = cc in
    let v : (run l o).rest ≡ z = cc in
    let k = front l o in
    let i : (run l o).head ≡ t.bytes = e ∙ ap (λ (r : Token). r.bytes) u in
    record {
      before = [];
      behind = k.behind;
      bytes = k.bytes ∙ ap (λ (r : List ℕ). r ++ k.behind) i;
      at = sym (ap (λ (r : Token). r.at) u) ∙ sym (add-zero o);
      left = refl;
      right = rw (add-zero, ← i) (k.right ∙ v);
    }
cut_by l o (b ∷ h) (y ∷ x) t z e f g =
    let u : record { at = o; bytes = b ∷ h } ≡ y = cc in
    let v : (run l o).rest ≡ x ++ (t ∷ z) = cc in
    let c = later_cut (f x v) in
    rw (e, u) at c

cut_later : (l : List ℕ) (o : ℕ) (x : List Token) (t : Token) (z : List Token) → (run l o).rest ≡ x ++ (t ∷ z)
    → CutLater l o x t z
unfolding run toks
cut_later [] o x t z g = absurd (not_nil x t z g)
cut_later (b ∷ l) o x t z g =
    split (white b)
    (λ w.
    let c = cut_by l (suc o) (run l (suc o)).head x t z refl (λ y. cut_later l (suc o) y t z) (rw w at g) in
    let q : suc o + length c.before ≡ o + suc (length c.before) = omega arith in
    record {
      before = b ∷ c.before;
      behind = c.behind;
      bytes = ap (λ (r : List ℕ). b ∷ r) c.bytes;
      at = c.at ∙ q;
      head = rw w;
      left = rw w c.left;
      right = rw (← q) c.right;
    })
    (λ w.
    let c = cut_later l (suc o) x t z (rw w at g) in
    let q : suc o + length c.before ≡ o + suc (length c.before) = omega arith in
    record {
      before = b ∷ c.before;
      behind = c.behind;
      bytes = ap (λ (r : List ℕ). b ∷ r) c.bytes;
      at = c.at ∙ q;
      head = rw w (ap (λ (r : List ℕ). b ∷ r) c.head);
      left = rw w c.left;
      right = rw (← q) c.right;
    })

pub cut : (l : List ℕ) (o : ℕ) (x : List Token) (t : Token) (z : List Token) → toks l o ≡ x ++ (t ∷ z) → Cut l o x t z
unfolding toks
cut l o x t z g = cut_by l o (run l o).head x t z refl (λ y. cut_later l o y t z) g

-- ---- where tokens stand
abbrev pub Within : ℕ → ℕ → Token → Type 0
Within lo hi t = (lo ≤ t.at) × (t.at < hi)

record RunWithin (l : List ℕ) (o : ℕ) : Type 0 where
  short : length (run l o).head ≤ length l
  later : All (Within (suc o) (o + length l)) (run l o).rest

wider : {lo hi lo' hi' : ℕ} {l : List Token} → lo' ≤ lo → hi ≤ hi' → All (Within lo hi) l → All (Within lo' hi') l
wider a b h = all_map (λ t k. (omega arith, omega arith)) h

put_within : (o n : ℕ) (h : List ℕ) (l : List Token) → length h ≤ n → All (Within (suc o) (o + n)) l
    → All (Within o (o + n)) (put o h l)
put_within o n [] l a b = wider (omega arith) (omega arith) b
put_within o n (x ∷ h) l a b =
    all_more {x = record { at = o; bytes = x ∷ h }} (omega arith, omega arith) (wider (omega arith) (omega arith) b)

run_within : (l : List ℕ) (o : ℕ) → RunWithin l o
unfolding run
run_within [] o = record { short = omega arith; later = all_none }
run_within (b ∷ l) o =
    let r = run_within l (suc o) in
    split (white b)
    (λ w.
    record {
      short = rw w (omega arith);
      later = rw (w, add-suc, ← suc-add) (put_within (suc o) (length l) (run l (suc o)).head (run l (suc o)).rest r.short r.later);
    })
    (λ w.
    record {
      short = rw w (omega (arith, r.short));
      later = rw (w, add-suc, ← suc-add) (wider (omega arith) (omega arith) r.later);
    })

pub toks_within : (l : List ℕ) (o : ℕ) → All (Within o (o + length l)) (toks l o)
unfolding toks
toks_within l o =
    put_within o (length l) (run l o).head (run l o).rest (run_within l o).short (run_within l o).later

-- ---- a text in three parts, and with the middle one blanked
pub record Parts (t : List ℕ) (p q : ℕ) : Type 0 where
  pub front : List ℕ
  pub body : List ℕ
  pub back : List ℕ
  pub text : t ≡ front ++ (36 ∷ 123 ∷ (body ++ (36 ∷ 125 ∷ back)))
  pub from : p ≡ length front
  pub to : q ≡ (p + 2) + length body

pub blanked_parts : {t : List ℕ} {p q : ℕ} (x : Parts t p q)
    → blanked t p q ≡ x.front ++ (replicate (4 + length x.body) 32 ++ x.back)
unfolding blanked laid
blanked_parts {t} {p} {q} x =
    let n : span p q ≡ 4 + length x.body = omega (arith, x.to) in
    let i : p + (4 + length x.body) ≡ length x.front + suc (suc (length x.body + 2)) = omega (arith, x.from) in
    let a : take p t ≡ x.front = ap (take p) x.text ∙ take_at x.front _ p (sym x.from) in
    let b : drop (p + (4 + length x.body)) t ≡ x.back =
    rw (i, x.text) (drop-append-add x.front _ _ ∙ drop-append-add x.body (36 ∷ 125 ∷ x.back) 2) in
    rw (n, length-replicate {A = ℕ} (4 + length x.body) 32, a, b)

-- T6, the blanked side: the tokens before and after
pub toks_parts : (a : List ℕ) (n : ℕ) (b : List ℕ) (o : ℕ)
    → toks (a ++ (replicate (suc n) 32 ++ b)) o ≡ toks a o ++ toks b (suc (o + length a) + n)
toks_parts a n b o =
    toks_white a 32 (replicate n 32 ++ b) o white_32 ∙ rw (toks_blank n b (suc (o + length a)))
