-- What the grammar makes of tokens in the order of the text: items in that order, each statement shaped as its kind asks,
-- and no token counted twice.
use mathlib.Core.Path.{◌≡◌, refl, sym, ◌∙◌}
use mathlib.Core.Bool.{Bool, true, false}
use mathlib.Core.List.{List, [], ◌∷◌, ◌++◌}
use mathlib.Core.Option.{Option, none, some}
use Prim.Native.Nat.{ℕ, zero, suc, ◌+◌, ◌<◌, ◌≤◌}
use native.Mathlib.Nat.{le_refl, le_trans}
use native.Mathlib.Omega.{arith}
use lib.Dec.{leb}
use lib.ListN.{length, length-append}
use borrow.Author.Tests.{ltb-true, leb-true}
use Rattle.paper.specs.Base.{choose, and, all}
use Rattle.paper.specs.Bytes.{label_byte}
use Rattle.paper.specs.Tokens.{Token, label_token, math_token, key}
use Rattle.paper.specs.Statements.{Kind, $c, $v, $d, $f, $e, $a, $p, labelled, Statement, Item, opens, closes, states}
use Rattle.paper.specs.Names.{bearer}
use Rattle.paper.specs.Reader.{Mode, start, named, math, proof, room, least, closing, Step, go, stop, shut, begin, keyword, statement, closed, allow, with_items, many}
use Rattle.paper.proofs.Tests.{split, clash}
use Rattle.facts.proofs.Rise.{Rise, rise_none, rise_more, rise_le, rise_to, rise_snoc}

-- ---- a statement, or what there is of it: its math tokens stand after its first token and up to offset b
pub record Part (b : ℕ) (k : Kind) (o : ℕ) (n : List ℕ) (m : List Token) : Type 0 where
  pub tokens : Rise (suc o) b m
  pub bytes : all math_token m ≡ true
  pub most : k ≡ $f → length m ≤ 2
  pub label : labelled k ≡ true → 0 < length n
  pub no_label : labelled k ≡ false → n ≡ []
  pub label_bytes : all label_byte n ≡ true

pub record Whole (b : ℕ) (s : Statement) : Type 0 where
  pub part : Part b s.kind s.at s.label s.math
  pub enough : least s.kind ≤ length s.math

-- items from offset a up to offset b
pub data Items : ℕ → ℕ → List Item → Type 0 where
  items_none : {a b : ℕ} → a ≤ b → Items a b []
  items_open : {a b p : ℕ} {i : List Item} → a ≤ p → Items (suc p) b i → Items a b (opens p ∷ i)
  items_close : {a b q : ℕ} {i : List Item} → a ≤ q → Items (suc q) b i → Items a b (closes q ∷ i)
  items_state :
      {a b c : ℕ} {s : Statement} {i : List Item} → a ≤ s.at → Whole c s → Items c b i → Items a b (states s ∷ i)

pub items_le : {a b : ℕ} {i : List Item} → Items a b i → a ≤ b
items_le (items_none h) = h
items_le (items_open h r) = omega (arith, items_le r)
items_le (items_close h r) = omega (arith, items_le r)
items_le (items_state h w r) = omega (arith, rise_le w.part.tokens, items_le r)

pub items_to : {a b c : ℕ} {i : List Item} → b ≤ c → Items a b i → Items a c i
items_to g (items_none h) = items_none (le_trans h g)
items_to g (items_open h r) = items_open h (items_to g r)
items_to g (items_close h r) = items_close h (items_to g r)
items_to g (items_state h w r) = items_state h w (items_to g r)

items_append : {a b c : ℕ} {i j : List Item} → Items a b i → Items b c j → Items a c (i ++ j)
items_append (items_none h) (items_none g) = items_none (le_trans h g)
items_append (items_none h) (items_open g r) = items_open (le_trans h g) r
items_append (items_none h) (items_close g r) = items_close (le_trans h g) r
items_append (items_none h) (items_state g w r) = items_state (le_trans h g) w r
items_append (items_open h r) y = items_open h (items_append r y)
items_append (items_close h r) y = items_close h (items_append r y)
items_append (items_state h w r) y = items_state h w (items_append r y)

-- what is in hand, from offset a up to offset b
pub data Held : ℕ → ℕ → Mode → Type 0 where
  held_start : {a b : ℕ} → a ≤ b → Held a b start
  held_name :
      {a b : ℕ} {n : Token}
      → a ≤ n.at → 0 < length n.bytes → n.at < b → label_token n ≡ true → Held a b (named n)
  held_math : {a b o : ℕ} {k : Kind} {n : List ℕ} {m : List Token} → a ≤ o → Part b k o n m → Held a b (math k o n m)
  held_proof :
      {a b o : ℕ} {n : List ℕ} {m p : List Token}
      → a ≤ o → Part b $p o n m → 1 ≤ length m → Held a b (proof o n m p)

-- ---- tokens counted: math tokens, labels, and two keywords for each statement
abbrev pub cost : Item → ℕ
cost (opens p) = 0
cost (closes q) = 0
cost (states s) = length s.math + length (bearer s) + 2

unfoldable pub total : List Item → ℕ
total [] = 0
total (x ∷ i) = cost x + total i

total_append : (i j : List Item) → total (i ++ j) ≡ total i + total j
unfolding total
total_append [] j = omega arith
total_append (x ∷ i) j = omega (arith, total_append i j)

abbrev bears : Kind → ℕ
bears k = choose (labelled k) 1 0

abbrev pub spent : Mode → ℕ
spent start = 0
spent (named n) = 1
spent (math k o n m) = suc (bears k + length m)
spent (proof o n m p) = suc (suc (length m))

-- ---- one token: what it gives for what was in hand from offset a, where c tokens were spent
pub data Gives (a b c : ℕ) : Step → Type 0 where
  goes :
      {f d : ℕ} {m : Mode} {j : List Item} → Items a f j → Held f b m → total j + spent m ≤ c → Gives a b c (go m d j)
  stops : {o : ℕ} → Gives a b c (stop o)

and_left : (x y : Bool) → and x y ≡ true → x ≡ true
and_left true y e = refl
and_left false y e = e

and_right : (x y : Bool) → and x y ≡ true → y ≡ true
and_right true y e = e
and_right false y e = let z : false ≡ true = e in cc

all_snoc : {A : Type 0} (p : A → Bool) (l : List A) (x : A) → all p l ≡ true → p x ≡ true → all p (l ++ (x ∷ [])) ≡ true
unfolding all
all_snoc p [] x e q = rw q
all_snoc p (y ∷ l) x e q =
    split (p y)
    (λ r. rw r (all_snoc p l x (rw r at e) q))
    (λ r. let z : false ≡ true = rw r at e in cc)

part_to : {b c o : ℕ} {k : Kind} {n : List ℕ} {m : List Token} → b ≤ c → Part b k o n m → Part c k o n m
part_to g h =
    record {
      tokens = rise_to g h.tokens;
      bytes = h.bytes;
      most = h.most;
      label = h.label;
      no_label = h.no_label;
      label_bytes = h.label_bytes;
    }

-- by the kinds that a keyword can begin
plain_by :
    (P : Option Kind → Type 0) (x y z : Bool)
    → ((k : Kind) → labelled k ≡ false → P (some k)) → P none
    → P (choose x (some $c) (choose y (some $v) (choose z (some $d) none)))
plain_by P true y z f n = f $c refl
plain_by P false true z f n = f $v refl
plain_by P false false true f n = f $d refl
plain_by P false false false f n = n

label_by :
    (P : Option Kind → Type 0) (x y z u : Bool)
    → ((k : Kind) → labelled k ≡ true → P (some k)) → P none
    → P (choose x (some $f) (choose y (some $e) (choose z (some $a) (choose u (some $p) none))))
label_by P true y z u f n = f $f refl
label_by P false true z u f n = f $e refl
label_by P false false true u f n = f $a refl
label_by P false false false true f n = f $p refl
label_by P false false false false f n = n

-- ---- by what is in hand, for a token t that stands at or after b
module _ (a b d : ℕ) (t : Token) (g : b ≤ t.at) (s : 0 < length t.bytes) where
  past : suc t.at ≤ t.at + length t.bytes
  past = omega arith

  plain_part : (k : Kind) → labelled k ≡ false → Part (t.at + length t.bytes) k t.at [] []
  unfolding all
  plain_part k e =
      record {
        tokens = rise_none past;
        bytes = refl;
        most = λ q. omega arith;
        label = λ q. absurd (clash (sym q ∙ e));
        no_label = λ q. refl;
        label_bytes = refl;
      }

  shut_gives : a ≤ b → (n : ℕ) → Gives a (t.at + length t.bytes) 1 (shut n t)
  unfolding total
  shut_gives h zero = stops
  shut_gives h (suc n) = goes (items_close (le_trans h g) (items_none (le_refl _))) (held_start past) (omega arith)

  start_gives : a ≤ b → Gives a (t.at + length t.bytes) 1 (allow start d t)
  unfolding allow total label_token
  start_gives h =
      let e : a ≤ t.at = le_trans h g in
      split (key 123 t)
      (λ p. rw p (goes (items_open e (items_none (le_refl _))) (held_start past) (omega arith)))
      (λ p. split (key 125 t)
      (λ q. rw (p, q) (shut_gives h d))
      (λ q. rw (p, q)
      (plain_by (λ k. Gives a (t.at + length t.bytes) 1 (begin k d t)) (key 99 t) (key 118 t) (key 100 t)
      (λ k f. goes (items_none (le_refl a)) (held_math e (plain_part k f)) (rw f (omega arith)))
      (split (label_token t)
      (λ r. rw r (goes (items_none (le_refl a)) (held_name e s past r) (omega arith)))
      (λ r. rw r stops)))))

  name_gives :
      (n : Token) → a ≤ n.at → 0 < length n.bytes → n.at < b → label_token n ≡ true
      → Gives a (t.at + length t.bytes) 2 (allow (named n) d t)
  unfolding allow total label_token all
  name_gives n h m l e =
      let p : suc n.at ≤ t.at + length t.bytes = omega arith in
      label_by (λ k. Gives a (t.at + length t.bytes) 2 (keyword k d n t)) (key 102 t) (key 101 t) (key 97 t) (key 112 t)
      (λ k f. goes (items_none (le_refl a))
      (held_math h (record {
        tokens = rise_none p;
        bytes = refl;
        most = λ q. omega arith;
        label = λ q. m;
        no_label = λ q. absurd (clash (sym f ∙ q));
        label_bytes = e;
      }))
      (rw f (omega arith)))
      stops

  math_part :
      (k : Kind) (o : ℕ) (n : List ℕ) (m : List Token)
      → math_token t ≡ true → room k (length m) ≡ true → Part b k o n m
      → Part (t.at + length t.bytes) k o n (m ++ (t ∷ []))
  math_part k o n m e f h =
      record {
        tokens = rise_snoc t h.tokens g s;
        bytes = all_snoc math_token m t h.bytes e;
        most = λ q. let r : length m < 2 = ltb-true (length m) 2 (rw q at f) in omega (arith, length-append m (t ∷ []));
        label = h.label;
        no_label = h.no_label;
        label_bytes = h.label_bytes;
      }

  state_gives :
      (c : ℕ) (k : Kind) (o : ℕ) (n : List ℕ) (m p : List Token)
      → a ≤ o → Part b k o n m → least k ≤ length m
      → total (statement k o n m p) ≤ c → Gives a (t.at + length t.bytes) c (go start d (statement k o n m p))
  state_gives c k o n m p h x e q =
      let w : b ≤ t.at + length t.bytes = omega arith in
      let r : total (statement k o n m p) + 0 ≤ c = omega arith in
      goes (items_state h (record { part = part_to w x; enough = e }) (items_none (le_refl _))) (held_start (le_refl _)) r

  closed_gives :
      (k : Kind) (o : ℕ) (n : List ℕ) (m : List Token)
      → a ≤ o → Part b k o n m → least k ≤ length m
      → Gives a (t.at + length t.bytes) (suc (suc (bears k + length m))) (closed k d o n m)
  unfolding total
  closed_gives $c o n m h x e = state_gives _ $c o n m [] h x e (omega arith)
  closed_gives $v o n m h x e = state_gives _ $v o n m [] h x e (omega arith)
  closed_gives $d o n m h x e = state_gives _ $d o n m [] h x e (omega arith)
  closed_gives $f o n m h x e = state_gives _ $f o n m [] h x e (omega arith)
  closed_gives $e o n m h x e = state_gives _ $e o n m [] h x e (omega arith)
  closed_gives $a o n m h x e = state_gives _ $a o n m [] h x e (omega arith)
  closed_gives $p o n m h x e =
      let w : b ≤ t.at + length t.bytes = omega arith in
      goes (items_none (le_refl a)) (held_proof {p = []} h (part_to w x) e) (omega arith)

  math_gives :
      (k : Kind) (o : ℕ) (n : List ℕ) (m : List Token)
      → a ≤ o → Part b k o n m
      → Gives a (t.at + length t.bytes) (suc (suc (bears k + length m))) (allow (math k o n m) d t)
  unfolding allow total
  math_gives k o n m h x =
      split (and (math_token t) (room k (length m)))
      (λ e. rw e
      (goes (items_none (le_refl a))
      (held_math h (math_part k o n m (and_left (math_token t) (room k (length m)) e) (and_right (math_token t) (room k (length m)) e) x))
      (omega (arith, length-append m (t ∷ [])))))
      (λ e. split (and (key (closing k) t) (leb (least k) (length m)))
      (λ f. rw (e, f) (closed_gives k o n m h x (leb-true _ _ (and_right (key (closing k) t) (leb (least k) (length m)) f))))
      (λ f. rw (e, f) stops))

  proof_gives :
      (o : ℕ) (n : List ℕ) (m p : List Token)
      → a ≤ o → Part b $p o n m → 1 ≤ length m
      → Gives a (t.at + length t.bytes) (suc (suc (suc (length m)))) (allow (proof o n m p) d t)
  unfolding allow total
  proof_gives o n m p h x l =
      let w : b ≤ t.at + length t.bytes = omega arith in
      split (math_token t)
      (λ e. rw e (goes (items_none (le_refl a)) (held_proof {p = p ++ (t ∷ [])} h (part_to w x) l) (omega arith)))
      (λ e. split (and (key 46 t) (leb 1 (length p)))
      (λ f. rw (e, f) (state_gives _ $p o n m p h x l (omega arith)))
      (λ f. rw (e, f) stops))

gives :
    {a b : ℕ} {m : Mode} (d : ℕ) (t : Token)
    → Held a b m → b ≤ t.at → 0 < length t.bytes → Gives a (t.at + length t.bytes) (suc (spent m)) (allow m d t)
gives {a} {b} d t (held_start h) g s = start_gives a b d t g s h
gives {a} {b} d t (held_name {n = n} h l p e) g s = name_gives a b d t g s n h l p e
gives {a} {b} d t (held_math {o = o} {k = k} {n = n} {m = m} h x) g s = math_gives a b d t g s k o n m h x
gives {a} {b} d t (held_proof {o = o} {n = n} {m = m} {p = p} h x l) g s = proof_gives a b d t g s o n m p h x l

-- ---- all tokens: of `most` tokens, `left` are not read yet
pub data Inv (most b left : ℕ) : Step → Type 0 where
  going :
      {a d : ℕ} {m : Mode} {i : List Item}
      → Items 0 a i → Held a b m → total i + spent m + left ≤ most → Inv most b left (go m d i)
  halted : {o : ℕ} → Inv most b left (stop o)

held_to : {a b c : ℕ} {m : Mode} → b ≤ c → Held a b m → Held a c m
held_to g (held_start h) = held_start (le_trans h g)
held_to g (held_name h l p e) = held_name h l (le_trans p g) e
held_to g (held_math h x) = held_math h (part_to g x)
held_to g (held_proof h x l) = held_proof h (part_to g x) l

step :
    {most a b c left : ℕ} {i : List Item} {z : Step}
    → Items 0 a i → total i + c + left ≤ most → Gives a b c z → Inv most b left (with_items i z)
step {i = i} x q (goes {j = j} y h r) = going (items_append x y) h (omega (arith, total_append i j))
step x q stops = halted

pub reads : {most b e : ℕ} {l : List Token} → Rise b e l → (z : Step) → Inv most b (length l) z → Inv most e 0 (many l z)
unfolding many
reads (rise_none g) (stop o) x = halted
reads (rise_none g) (go m d i) (going y h q) = going y (held_to g h) q
reads (rise_more g n r) (stop o) x = halted
reads (rise_more {x = t} g n r) (go m d i) (going y h q) =
    reads r (with_items i (allow m d t)) (step y (omega arith) (gives d t h g n))
