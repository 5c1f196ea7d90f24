-- Expressions and hypotheses as they are written: cuts take them, whatever stands behind them, if they are short.
-- For the records of assertions.
use mathlib.Core.Path.{◌≡◌, refl, sym, ap, ◌∙◌}
use mathlib.Core.List.{List, [], ◌∷◌, ◌++◌, append_assoc}
use Prim.Native.Nat.{ℕ, ◌*◌, ◌<◌}
use native.Mathlib.Omega.{arith}
use lib.ListN.{length, length-append}
use Rattle.paper.specs.Base.{gather}
use Rattle.paper.specs.Expressions.{Fragment, Expression, Hypothesis, of_float, of_essential}
use Rattle.paper.specs.Pairs.{Pair}
use Rattle.paper.specs.Records.{u16, u32, string, fragment_bytes, expression_bytes, hypothesis_bytes, pair_bytes}
use Rattle.paper.specs.Layout.{part, then, counted, a_string, an_address, an_expression, hypothesis_tail, a_hypothesis}
use Rattle.paper.proofs.Alls.{All, all_none, all_more}
use Rattle.stream.proofs.Records.{length_u16, length_u32, length_string}
use Rattle.layout.proofs.Takes.{Takes, u16_read, takes_part, takes_counted, takes_string, takes_then, takes_whole, takes_skipped, takes_as}

-- ---- an expression, if it is short
fragments_length : (l : List Fragment) → length (gather fragment_bytes l) ≡ 10 * length l
unfolding gather fragment_bytes
fragments_length [] = refl
fragments_length (x ∷ l) = simp (length-append, length_u16, length_u32) (omega (arith, fragments_length l))

pub pairs_length : (l : List Pair) → length (gather pair_bytes l) ≡ 4 * length l
unfolding gather pair_bytes
pairs_length [] = refl
pairs_length (x ∷ l) = simp (length-append, length_u16) (omega (arith, pairs_length l))

pub takes_expression : (x : Expression) → length (expression_bytes x) < 4294967296 → Takes an_expression (expression_bytes x)
unfolding expression_bytes an_expression
takes_expression x h =
    let n = length x.fragments in
    let g = gather fragment_bytes x.fragments in
    let r = u32 x.from ++ u32 x.to in
    let m : length (string x.typecode ++ (u32 n ++ (g ++ r))) < 4294967296 = h in
    let k = simp (length-append, length_u32, length_string) at m in
    takes_whole (λ l. then (a_string l) (λ i. then (counted 10 i) (part 8))) _
    (takes_as (ap (λ i. string x.typecode ++ i) (sym (append_assoc (u32 n) g r)))
    (takes_then a_string (λ i. then (counted 10 i) (part 8)) (string x.typecode) ((u32 n ++ g) ++ r)
    (takes_string x.typecode (omega (arith, k)))
    (takes_then (counted 10) (part 8) (u32 n ++ g) r
    (takes_counted 10 n g (omega (arith, k, fragments_length x.fragments)) (fragments_length x.fragments))
    (takes_part 8 r (length-append (u32 x.from) (u32 x.to) ∙ rw (length_u32 x.from, length_u32 x.to))))))

-- ---- a hypothesis
pub takes_address : (o : ℕ) → Takes an_address (u32 o)
takes_address o = takes_skipped (part 4) (u32 o) (takes_part 4 (u32 o) (length_u32 o))

tagged : (t : ℕ) (c : List ℕ) → t < 65536 → Takes (hypothesis_tail t) c → Takes a_hypothesis (u16 t ++ c)
unfolding a_hypothesis
tagged t c h x b =
    let s = takes_part 2 (u16 t) (length_u16 t) (c ++ b) in
    let y = x b in
    record {
      parts = gather (λ p. p) (s.parts ++ y.parts) ∷ [];
      is = rw (append_assoc (u16 t) c b, u16_read t (c ++ b) h, s.is, y.is);
    }

pub takes_hypothesis : (x : Hypothesis) → length (hypothesis_bytes x) < 4294967296 → Takes a_hypothesis (hypothesis_bytes x)
unfolding hypothesis_bytes hypothesis_tail
takes_hypothesis (of_float o v c) h =
    let m : length (u16 1 ++ (u32 o ++ (u16 v ++ string c))) < 4294967296 = h in
    let k = simp (length-append, length_u16, length_u32, length_string) at m in
    tagged 1 (u32 o ++ (u16 v ++ string c)) (omega arith)
    (takes_then an_address (λ i. then (part 2 i) a_string) (u32 o) (u16 v ++ string c) (takes_address o)
    (takes_then (part 2) a_string (u16 v) (string c) (takes_part 2 (u16 v) (length_u16 v)) (takes_string c (omega (arith, k)))))
takes_hypothesis (of_essential o x) h =
    let m : length (u16 2 ++ (u32 o ++ expression_bytes x)) < 4294967296 = h in
    let k = simp (length-append, length_u16, length_u32) at m in
    tagged 2 (u32 o ++ expression_bytes x) (omega arith)
    (takes_then an_address an_expression (u32 o) (expression_bytes x) (takes_address o) (takes_expression x (omega (arith, k))))

-- ---- each of many is as short as all of them
pub each_short : {A : Type 0} (g : A → List ℕ) (P : A → Type 0) → ((x : A) → length (g x) < 4294967296 → P x) → (l : List A) → length (gather g l) < 4294967296 → All P l
unfolding gather
each_short g P f [] h = all_none
each_short g P f (x ∷ l) h =
    all_more (f x (omega (arith, length-append (g x) (gather g l)))) (each_short g P f l (omega (arith, length-append (g x) (gather g l))))
