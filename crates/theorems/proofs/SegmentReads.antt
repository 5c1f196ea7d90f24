-- Segments that are read: one part read after another is read as a whole, further segments come behind, and all bytes are good.
-- What the segments give is taken apart by segment.
use mathlib.Core.Path.{◌≡◌, refl, sym, ap, ◌∙◌}
use mathlib.Core.List.{List, [], ◌∷◌, ◌++◌, append_assoc}
use mathlib.Core.Option.{Option, none, some}
use Prim.Native.Nat.{ℕ, suc, ◌+◌}
use native.Mathlib.Omega.{arith}
use lib.ListN.{length}
use Rattle.paper.specs.Base.{or_else}
use Rattle.paper.specs.Bytes.{white, printable}
use Rattle.paper.specs.Tokens.{Token, toks, bad_from}
use Rattle.paper.specs.Comments.{outside, after, visible}
use Rattle.paper.specs.Statements.{Statement, Item, ends}
use Rattle.paper.specs.Reader.{start, go, many, Outcome, refused, given, items}
use Rattle.paper.specs.Segments.{base, segment_tokens, segment_bad, and_then, segment_items, looking}
use Rattle.paper.proofs.Tests.{by_option}
use Rattle.paper.proofs.Alls.{All, all_none, all_more, all_append}
use Rattle.paper.proofs.Options.{none_some}
use Rattle.theorems.specs.Joined.{joined}
use Rattle.theorems.proofs.Comments.{after_append, visible_append}
use Rattle.theorems.proofs.Reader.{many_append, reads_many}
use Rattle.theorems.proofs.Texts.{Read, items_read, read_reads}
use Rattle.theorems.proofs.Refusals.{not_given, Good, clean_good, ended_given}

-- ---- one part read after another
read_append : {x y : List Token} {i j : List Item} → Read x i → Read y j → Read (x ++ y) (i ++ j)
read_append {x} {y} {i} r s =
    record {
      all =
          ap (λ (l : List Token). many l (go start 0 [])) (visible_append x y outside ∙ rw r.out)
          ∙ (many_append (visible x outside) (visible y outside) (go start 0 []) ∙ rw r.all (reads_many (read_reads s) i));
      out = after_append x y outside ∙ rw r.out s.out;
    }

pub record Both (a b : Outcome (List Item)) (i : List Item) : Type 0 where
  pub first : List Item
  pub second : List Item
  pub first_is : a ≡ given first
  pub second_is : b ≡ given second
  pub sum : i ≡ first ++ second

pub both_given : (a b : Outcome (List Item)) {i : List Item} → and_then a b ≡ given i → Both a b i
both_given (refused r) b e = not_given e
both_given (given x) (refused r) e = not_given e
both_given (given x) (given y) {i} e = record { first = x; second = y; first_is = refl; second_is = refl; sum = cc }

pub segments_read : (s : List (List ℕ)) (k : ℕ) (i : List Item) → segment_items s k ≡ given i → Read (segment_tokens s k) i
unfolding segment_items segment_tokens visible after many
segments_read [] k i e = let c : [] ≡ i = cc in rw (← c) (record { all = refl; out = refl })
segments_read (s ∷ l) k i e =
    let b = both_given (items (toks s (base k)) (base k + length s)) (segment_items l (suc k)) e in
    rw b.sum
    (read_append (items_read (toks s (base k)) (base k + length s) b.first b.first_is) (segments_read l (suc k) b.second b.second_is))

-- ---- further segments
then_assoc : (a b c : Outcome (List Item)) → and_then (and_then a b) c ≡ and_then a (and_then b c)
then_assoc (refused r) b c = refl
then_assoc (given i) (refused r) c = refl
then_assoc (given i) (given j) (refused r) = refl
then_assoc (given i) (given j) (given k) = rw (append_assoc i j k)

none_then : (a : Outcome (List Item)) → and_then (given []) a ≡ a
none_then (refused r) = refl
none_then (given i) = refl

pub items_append : (s m : List (List ℕ)) (k : ℕ)
    → segment_items (s ++ m) k ≡ and_then (segment_items s k) (segment_items m (length s + k))
unfolding segment_items
items_append [] m k =
    let z : k ≡ 0 + k = omega arith in
    ap (segment_items m) z ∙ sym (none_then (segment_items m (0 + k)))
items_append (s ∷ l) m k =
    let x = items (toks s (base k)) (base k + length s) in
    let z : length l + suc k ≡ suc (length l) + k = omega arith in
    ap (and_then x) (items_append l m (suc k) ∙ ap (λ (n : ℕ). and_then (segment_items l (suc k)) (segment_items m n)) z)
    ∙ sym (then_assoc x (segment_items l (suc k)) (segment_items m (suc (length l) + k)))

-- ---- bytes
or_none : {A : Type 0} (a b : Option A) → or_else a b ≡ none → (a ≡ none) × (b ≡ none)
or_none (some x) b e = absurd (none_some (sym e))
or_none none b e = (refl, e)

pub segments_good : (s : List (List ℕ)) (k : ℕ) → segment_bad s k ≡ none → All (All Good) s
unfolding segment_bad
segments_good [] k e = all_none
segments_good (s ∷ l) k e =
    let c = or_none (bad_from s (base k)) (segment_bad l (suc k)) e in
    all_more (clean_good s (base k) c.0) (segments_good l (suc k) c.1)

pub joined_good : {s : List (List ℕ)} → All (All Good) s → All Good (joined s)
unfolding joined white printable
joined_good all_none = all_none
joined_good (all_more a all_none) = a
joined_good (all_more a (all_more {x = r} {l = l} b c)) = all_append a (all_more refl (joined_good (all_more {x = r} {l = l} b c)))

-- ---- numbers 3 to 6
pub looked : (s : List (List ℕ)) {l : List Statement} → looking s ≡ given l
    → (segment_bad s 0 ≡ none) × (i : List Item) × (segment_items s 0 ≡ given i) × (l ≡ ends i [])
unfolding looking
looked s {l} e =
    by_option (segment_bad s 0)
    (λ o c. not_given {A = List Statement} {a = l} (rw c at e))
    (λ c. let k = ended_given (segment_items s 0) (rw c at e) in (c, k.0, k.1, k.2))
