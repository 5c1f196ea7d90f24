-- The three parts of a text with a group: before it, in it, after it; as items, as tokens and as bytes.
-- With the group blanked the reader reads the items before it and after it: the lemmas T6, V3, R5 and R7 of the proof on paper.
use mathlib.Core.Path.{◌≡◌, refl, sym, ap, ◌∙◌}
use mathlib.Core.Bool.{true}
use mathlib.Core.List.{List, [], ◌∷◌, ◌++◌}
use mathlib.Core.Option.{some}
use Prim.Native.Nat.{ℕ, suc, ◌+◌, ◌<◌, ◌≤◌}
use native.Mathlib.Omega.{arith}
use lib.ListN.{length, replicate, length-append}
use Rattle.paper.specs.Tokens.{Token, key, toks, tokens}
use Rattle.paper.specs.Comments.{outside, after, bracketed, visible}
use Rattle.paper.specs.Statements.{Item, opens, closes}
use Rattle.paper.specs.Reader.{Mode, start, given, items}
use Rattle.paper.proofs.Tests.{same_eq}
use Rattle.theorems.specs.Groups.{closer, blanked}
use Rattle.paper.proofs.Alls.{All}
use Rattle.theorems.proofs.Tokens.{cut, Parts, blanked_parts, toks_parts}
use Rattle.theorems.proofs.Comments.{after_append, visible_append, plain_key, shown_cut, shown_after}
use Rattle.theorems.proofs.Reader.{Reads, reads_many, reads_append, Level, reads_level, level_shift}
use Rattle.theorems.proofs.Stands.{ItemAt, reads_at}
use Rattle.theorems.proofs.Cuts.{reads_cut, brace_opened, brace_closed}
use Rattle.theorems.proofs.Texts.{Read, items_read, read_items, read_reads, shown_at}
use Rattle.theorems.proofs.Ends.{Owned, owned}

-- ---- R5: the visible tokens
record Braces (u : List Token) (x b y : List Item) (p q : ℕ) : Type 0 where
  before : List Token
  left_brace : Token
  middle : List Token
  right_brace : Token
  behind : List Token
  depth : ℕ
  tokens : u ≡ before ++ (left_brace ∷ (middle ++ (right_brace ∷ behind)))
  opens_here : key 123 left_brace ≡ true
  from : left_brace.at ≡ p
  closes_here : key 125 right_brace ≡ true
  to : right_brace.at ≡ q
  read_before : Reads before start 0 x start depth
  read_middle : Reads middle start (suc depth) b start (suc depth)
  read_behind : Reads behind start depth y start 0

-- depths that are equal
at_depths : {u : List Token} {m n : Mode} {d e f g : ℕ} {i : List Item} → d ≡ f → e ≡ g → Reads u m d i n e
    → Reads u m f i n g
at_depths a b r = rw (← a, ← b) r

braces : {u : List Token} {i : List Item} {p q : ℕ} → Reads u start 0 i start 0 → (o : Owned i p q)
    → Braces u o.front o.body o.back p q
braces {u} {i} {p} {q} r o =
    let c = reads_cut o.front (opens p) (o.body ++ (closes q ∷ o.back)) tt r o.items in
    let a = brace_opened c.brace c.above c.below p c.here in
    let k = reads_cut o.body (closes q) o.back tt c.right refl in
    let b = brace_closed k.brace k.above k.below q k.here in
    let z : k.above ≡ c.below = level_shift c.below o.level (omega arith) (reads_level k.left) ∙ omega arith in
    let v : k.below ≡ c.above = omega (arith, a.deeper, b.deeper) in
    let w : k.above ≡ suc c.above = z ∙ a.deeper in
    record {
      before = c.before;
      left_brace = c.brace;
      middle = k.before;
      right_brace = k.brace;
      behind = k.behind;
      depth = c.above;
      tokens = c.tokens ∙ ap (λ (l : List Token). c.before ++ (c.brace ∷ l)) k.tokens;
      opens_here = a.key_is;
      from = a.stands;
      closes_here = b.key_is;
      to = b.stands;
      read_before = c.left;
      read_middle = at_depths a.deeper w k.left;
      read_behind = at_depths v refl k.right;
    }

-- ---- V3: the tokens
record Places (l u1 : List Token) (tp : Token) (u2 : List Token) (tq : Token) (u3 : List Token) : Type 0 where
  before : List Token
  middle : List Token
  behind : List Token
  tokens : l ≡ before ++ (tp ∷ (middle ++ (tq ∷ behind)))
  shown_before : visible before outside ≡ u1
  out_before : after before outside ≡ outside
  shown_middle : visible middle outside ≡ u2
  shown_behind : visible behind outside ≡ u3
  out_behind : after l outside ≡ after behind outside

places : (l u1 : List Token) (tp : Token) (u2 : List Token) (tq : Token) (u3 : List Token)
    → key 123 tp ≡ true → key 125 tq ≡ true → visible l outside ≡ u1 ++ (tp ∷ (u2 ++ (tq ∷ u3))) → Places l u1 tp u2 tq u3
unfolding bracketed
places l u1 tp u2 tq u3 a b e =
    let s = shown_cut l outside u1 tp (u2 ++ (tq ∷ u3)) (plain_key 123 tp refl a) e in
    let v = shown_cut s.behind outside u2 tq u3 (plain_key 125 tq refl b) s.right in
    record {
      before = s.before;
      middle = v.before;
      behind = v.behind;
      tokens = s.tokens ∙ ap (λ (r : List Token). s.before ++ (tp ∷ r)) v.tokens;
      shown_before = s.left;
      out_before = s.out;
      shown_middle = v.left;
      shown_behind = v.right;
      out_behind = shown_after s ∙ shown_after v;
    }

-- ---- T6: the bytes
record Bytes (t : List ℕ) (x y z : List Token) (p q : ℕ) : Type 0 where
  parts : Parts t p q
  toks_front : toks parts.front 0 ≡ x
  toks_body : toks parts.body (p + 2) ≡ y
  toks_back : toks parts.back (q + 2) ≡ z

bytes_of : (t : List ℕ) (x y z : List Token) (tp tq : Token) (p q : ℕ) → toks t 0 ≡ x ++ (tp ∷ (y ++ (tq ∷ z)))
    → tp.bytes ≡ 36 ∷ 123 ∷ [] → tp.at ≡ p → tq.bytes ≡ 36 ∷ 125 ∷ [] → tq.at ≡ q → Bytes t x y z p q
bytes_of t x y z tp tq p q e a b c d =
    let k = cut t 0 x tp (y ++ (tq ∷ z)) e in
    let v = cut k.behind _ y tq z k.right in
    let m : length tp.bytes ≡ 2 = ap length a in
    let n : length tq.bytes ≡ 2 = ap length c in
    let f : p ≡ length k.before = omega (arith, b, k.at) in
    let g : (0 + length k.before) + length tp.bytes ≡ p + 2 = omega arith in
    let h : q ≡ (p + 2) + length v.before = omega (arith, d, v.at, g) in
    let j : ((0 + length k.before) + length tp.bytes) + length v.before + length tq.bytes ≡ q + 2 = omega arith in
    record {
      parts =
          record {
            front = k.before;
            body = v.before;
            back = v.behind;
            text =
                k.bytes
                ∙ ap (λ (r : List ℕ). k.before ++ (r ++ k.behind)) a
                ∙ ap (λ (r : List ℕ). k.before ++ (36 ∷ 123 ∷ r)) v.bytes
                ∙ ap (λ (r : List ℕ). k.before ++ (36 ∷ 123 ∷ (v.before ++ (r ++ v.behind)))) c;
            from = f;
            to = h;
          };
      toks_front = k.left;
      toks_body = ap (toks v.before) (sym g) ∙ v.left;
      toks_back = ap (toks v.behind) (sym j) ∙ v.right;
    }

-- the tokens of the blanked text are those before and after
blanked_tokens : {t : List ℕ} {x y z : List Token} {p q : ℕ} → Bytes t x y z p q → tokens (blanked t p q) ≡ x ++ z
unfolding tokens
blanked_tokens {p = p} {q = q} b =
    let n : 4 + length b.parts.body ≡ suc (3 + length b.parts.body) = omega arith in
    let m : suc (0 + length b.parts.front) + (3 + length b.parts.body) ≡ q + 2 = omega (arith, b.parts.from, b.parts.to) in
    ap (λ (r : List ℕ). toks r 0) (blanked_parts b.parts)
    ∙ (ap (λ (r : ℕ). toks (b.parts.front ++ (replicate r 32 ++ b.parts.back)) 0) n
    ∙ (toks_parts b.parts.front (3 + length b.parts.body) b.parts.back 0
    ∙ rw (m, b.toks_front, b.toks_back)))

-- ---- R7: a group's text in three parts, and what the reader reads with the group blanked
pub record Split (t : List ℕ) (p q : ℕ) (i : List Item) : Type 0 where
  pub parts : Parts t p q
  pub front : List Item
  pub body : List Item
  pub back : List Item
  pub items_are : i ≡ front ++ (opens p ∷ (body ++ (closes q ∷ back)))
  pub level : Level body 0 0
  pub front_at : All (ItemAt (λ n. n < p)) front
  pub body_at : All (ItemAt (λ n. (p ≤ n) × (n < q))) body
  pub back_at : All (ItemAt (λ n. q < n)) back
  pub fewer : length (tokens (blanked t p q)) ≤ length (tokens t)
  pub blanked_read : (n : ℕ) → items (tokens (blanked t p q)) n ≡ given (front ++ back)

fewer_tokens : (x m z : List Token) (tp tq : Token) → length (x ++ z) ≤ length (x ++ (tp ∷ (m ++ (tq ∷ z))))
fewer_tokens x m z tp tq =
    omega (arith, length-append x z, length-append x (tp ∷ (m ++ (tq ∷ z))), length-append m (tq ∷ z))

joined : (x z : List Token) {u1 u3 : List Token} {i j : List Item} {d : ℕ} → visible x outside ≡ u1
    → after x outside ≡ outside → visible z outside ≡ u3 → after z outside ≡ outside → Reads u1 start 0 i start d
    → Reads u3 start d j start 0 → Read (x ++ z) (i ++ j)
joined x z a b c d r s =
    record {
      all = rw (visible_append x z outside, b, a, c) (reads_many (reads_append r s) []);
      out = after_append x z outside ∙ rw b d;
    }

split_by : (t : List ℕ) (p q : ℕ) (i : List Item) (o : Owned i p q) (b : Braces (visible (tokens t) outside) o.front o.body o.back p q) (l : Places (tokens t) b.before b.left_brace b.middle b.right_brace b.behind)
    → Bytes t l.before l.middle l.behind p q → after (tokens t) outside ≡ outside → Split t p q i
split_by t p q i o b l y out =
    let k = y.parts in
    let z : tokens (blanked t p q) ≡ l.before ++ l.behind = blanked_tokens y in
    record {
      parts = k;
      front = o.front;
      body = o.body;
      back = o.back;
      items_are = o.items;
      level = o.level;
      front_at =
          reads_at (λ n. n < p) b.read_before
          (shown_at k.front 0 (λ n. n < p) (λ n g h. omega (arith, k.from)) y.toks_front l.shown_before)
          (λ n g. g);
      body_at =
          reads_at (λ n. (p ≤ n) × (n < q)) b.read_middle
          (shown_at k.body (p + 2) (λ n. (p ≤ n) × (n < q)) (λ n g h. (omega arith, omega (arith, k.to))) y.toks_body l.shown_middle)
          (λ n g. g);
      back_at =
          reads_at (λ n. q < n) b.read_behind
          (shown_at k.back (q + 2) (λ n. q < n) (λ n g h. omega arith) y.toks_back l.shown_behind)
          (λ n g. g);
      fewer =
          rw (z, l.tokens) (fewer_tokens l.before l.middle l.behind b.left_brace b.right_brace);
      blanked_read =
          λ n.
          rw z
          (read_items n
          (joined l.before l.behind l.shown_before l.out_before l.shown_behind (sym l.out_behind ∙ out) b.read_before b.read_behind));
    }

key_bytes : (k : ℕ) (t : Token) → key k t ≡ true → t.bytes ≡ 36 ∷ k ∷ []
unfolding key
key_bytes k t e = same_eq t.bytes (36 ∷ k ∷ []) e

pub split_group : (t : List ℕ) (p q : ℕ) (i : List Item) → items (tokens t) (length t) ≡ given i → closer i p ≡ some q
    → Split t p q i
unfolding tokens
split_group t p q i e c =
    let h = items_read (tokens t) (length t) i e in
    let o = owned i p q c in
    let b = braces (read_reads h) o in
    let l = places (tokens t) b.before b.left_brace b.middle b.right_brace b.behind b.opens_here b.closes_here b.tokens in
    let y = bytes_of t l.before l.middle l.behind b.left_brace b.right_brace p q l.tokens (key_bytes 123 b.left_brace b.opens_here) b.from (key_bytes 125 b.right_brace b.closes_here) b.to in
    split_by t p q i o b l y h.out
