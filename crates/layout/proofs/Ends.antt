-- What is left after a part is an end of the bytes that it is cut from: some number of them is dropped, at most all.
-- For every part that a function passes over.
use mathlib.Core.Path.{◌≡◌, refl, sym, ap, ◌∙◌}
use mathlib.Core.List.{List, [], ◌∷◌}
use Prim.Native.Nat.{ℕ, zero, suc, ◌+◌, ◌-◌, ◌*◌, ◌/◌, zero-le}
use native.Mathlib.Omega.{arith}
use denote.Ref.{Bor}
use lib.Dec.{eqb, ltb}
use lib.ListN.{length, drop, length-drop}
use lib.Seq.{drop-drop}
use Rattle.std.specs.Prelude.{Option, Some, None, option_copied, IfSome}
use Rattle.std.proofs.lemmas.Option.{none-some}
use Rattle.paper.specs.Base.{or}
use Rattle.paper.specs.Lookup.{u16_at, u32_at, stub_string}
use Rattle.paper.specs.Layout.{Cut, short, cut, part, then, whole, times, counted, a_string, an_address, an_expression, hypothesis_tail, a_hypothesis, unstubbed, a_stub, float_head, label_part, names_part, hypotheses_part, back_parts}
use Rattle.paper.proofs.Tests.{split}
use Rattle.layout.specs.Cuts.{left, Ends, assertion_tail, assertion_parts, payload_parts}
use Rattle.layout.proofs.Left.{parted, left_then, left_whole, left_skipped}

-- what is left after f is an end
abbrev pub Ending : (List ℕ → Cut) → Type 0
Ending f = (l r : List ℕ) → left (f l) ≡ Some r → Ends l r

-- ---- no byte dropped; and an end of an end
ends_all : (l : List ℕ) → Ends l l
ends_all l = record { dropped = 0; within = zero-le; rest = refl }

ends_more : {l m r : List ℕ} → Ends l m → Ends m r → Ends l r
ends_more {l} x y =
    let d : length (drop x.dropped l) ≡ length l - x.dropped = length-drop x.dropped l in
    record {
      dropped = x.dropped + y.dropped;
      within = omega (arith, x.within, y.within, ap length x.rest, d);
      rest = y.rest ∙ ap (drop y.dropped) x.rest ∙ drop-drop y.dropped x.dropped l;
    }

-- ---- one part; a part and then others; so many times the same
pub ends_part : (n : ℕ) → Ending (part n)
ends_part n l r z = let p = parted n l r z in record { dropped = n; within = p.room; rest = p.rest }

pub ends_then : {l : List ℕ} (c : Cut) (f : List ℕ → Cut) {r : List ℕ} → ((m : List ℕ) → left c ≡ Some m → Ends l m) → Ending f
    → left (then c f) ≡ Some r → Ends l r
ends_then short f {r} a b z = absurd (none-some r z)
ends_then (cut p q) f {r} a b z = ends_more (a q refl) (b q r (sym (left_then (cut p q) f refl) ∙ z))

pub ends_times : (n : ℕ) (f : List ℕ → Cut) → Ending f → Ending (times n f)
unfolding times
ends_times zero f a l r z = let e : l ≡ r = cc in rw (sym e) (ends_all l)
ends_times (suc n) f a l r z = ends_then (f l) (times n f) (a l) (ends_times n f a) z

-- ---- a count, and so many times k bytes
pub ends_counted : (k : ℕ) → Ending (counted k)
unfolding counted
ends_counted k l r z =
    split (ltb (length l) 4) (λ q. absurd (none-some r (rw q at z))) (λ q. ends_part (4 + k * u32_at l 0) l r (rw q at z))

-- ---- the parts of a record
ends_unstubbed : {l : List ℕ} (c : Cut) {r : List ℕ} → ((m : List ℕ) → left c ≡ Some m → Ends l m) → left (unstubbed c) ≡ Some r → Ends l r
ends_unstubbed short {r} a z = absurd (none-some r z)
ends_unstubbed (cut [] q) {r} a z = absurd (none-some r z)
ends_unstubbed (cut (s ∷ p) q) {r} a z =
    split (stub_string (drop 4 s)) (λ t. a r (rw t at z)) (λ t. absurd (none-some r (rw t at z)))

pub ends_stub : Ending a_stub
unfolding a_stub
ends_stub l r z = ends_unstubbed (a_string l) (ends_counted 1 l) z

pub ends_expression : Ending an_expression
unfolding an_expression
ends_expression l r z =
    ends_then (a_string l) (λ m. then (counted 10 m) (part 8)) (ends_counted 1 l)
    (λ m s y. ends_then (counted 10 m) (part 8) (ends_counted 10 m) (ends_part 8) y)
    (sym (left_whole _) ∙ z)

ends_address : Ending an_address
ends_address l r z = ends_part 4 l r (sym (left_skipped (part 4 l)) ∙ z)

pub ends_tail : (t : ℕ) → Ending (hypothesis_tail t)
unfolding hypothesis_tail
ends_tail t l r z =
    split (eqb t 1)
    (λ q.
    ends_then (an_address l) (λ m. then (part 2 m) a_string) (ends_address l)
    (λ m s y. ends_then (part 2 m) a_string (ends_part 2 m) (ends_counted 1) y)
    (rw q at z))
    (λ q.
    split (eqb t 2)
    (λ s. ends_then (an_address l) an_expression (ends_address l) ends_expression (rw (q, s) at z))
    (λ s. absurd (none-some r (rw (q, s) at z))))

pub ends_hypothesis : Ending a_hypothesis
unfolding a_hypothesis
ends_hypothesis l r z =
    ends_then (part 2 l) (hypothesis_tail (u16_at l 0)) (ends_part 2 l) (ends_tail (u16_at l 0)) (sym (left_whole _) ∙ z)

pub ends_hypotheses : Ending hypotheses_part
unfolding hypotheses_part
ends_hypotheses l r z =
    ends_then (part 4 l) (times (u32_at l 0) a_hypothesis) (ends_part 4 l) (ends_times (u32_at l 0) a_hypothesis ends_hypothesis) z

pub ends_names : Ending names_part
unfolding names_part
ends_names l r z =
    ends_then (whole (then (part 4 l) (times (u16_at l 0) a_string))) a_string
    (λ m y.
    ends_then (part 4 l) (times (u16_at l 0) a_string) (ends_part 4 l) (ends_times (u16_at l 0) a_string (ends_counted 1))
    (sym (left_whole _) ∙ y))
    (ends_counted 1) z

-- ---- a whole payload
ends_head : Ending float_head
ends_head l r z =
    ends_then (an_address l) (λ m. then (an_address m) (λ k. then (a_string k) a_string)) (ends_address l)
    (λ m s y.
    ends_then (an_address m) (λ k. then (a_string k) a_string) (ends_address m)
    (λ k q x. ends_then (a_string k) a_string (ends_counted 1 k) (ends_counted 1) x)
    y)
    z

ends_back : (v : ℕ) → Ending (back_parts v)
unfolding back_parts
ends_back v l r z =
    ends_then (an_expression l) (λ m. then (counted 4 m) (part (v * ((v + 7) / 8)))) (ends_expression l)
    (λ m s y. ends_then (counted 4 m) (part (v * ((v + 7) / 8))) (ends_counted 4 m) (ends_part (v * ((v + 7) / 8))) y)
    z

ends_after_label : Ending assertion_tail
unfolding assertion_tail
ends_after_label l r z =
    ends_then (names_part l) (λ m. then (hypotheses_part m) (back_parts (u16_at l 0))) (ends_names l)
    (λ m s y. ends_then (hypotheses_part m) (back_parts (u16_at l 0)) (ends_hypotheses m) (ends_back (u16_at l 0)) y)
    z

ends_assertion : Ending assertion_parts
unfolding assertion_parts
ends_assertion l r z =
    ends_then (label_part l) assertion_tail
    (λ m y. ends_then (an_address l) a_string (ends_address l) (ends_counted 1) y)
    ends_after_label z

pub ends_payload : (k : ℕ) → Ending (payload_parts k)
unfolding payload_parts
ends_payload k l r z =
    split (eqb k 4)
    (λ q. ends_then (float_head l) a_string (ends_head l) (ends_counted 1) (rw q at z))
    (λ q.
    split (eqb k 1)
    (λ s. ends_then (float_head l) a_stub (ends_head l) ends_stub (rw (q, s) at z))
    (λ s.
    split (or (eqb k 2) (eqb k 3))
    (λ t. ends_assertion l r (rw (q, s, t) at z))
    (λ t. absurd (none-some r (rw (q, s, t) at z)))))

-- ---- what a function answers
pub ends_of : (f : List ℕ → Cut) (l : List ℕ) (r : Option (Bor (List ℕ))) → Ending f → option_copied r ≡ left (f l)
    → IfSome r (λ x. Ends l x.now)
ends_of f l None a e = tt
ends_of f l (Some x) a e = a l x.now (sym e)
