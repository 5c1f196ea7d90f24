-- The parts of a frame's record, one writer after the other.
-- For all that the words stand for.
use mathlib.Core.Path.{◌≡◌, sym, ap, ◌∙◌}
use mathlib.Core.List.{List, map}
use Prim.Native.Nat.{ℕ, ◌+◌, ◌-◌, ◌<◌, ◌≤◌, ◌^◌}
use native.Mathlib.Omega.{arith}
use lib.ListN.{length, take}
use lib.Seq.{take-append_seam, length-take-le}
use Rattle.paper.specs.Base.{gather}
use Rattle.paper.specs.Statements.{Statement}
use Rattle.paper.specs.Expressions.{pooled}
use Rattle.paper.specs.Records.{u32}
use Rattle.paper.proofs.Names.{Grown}
use Rattle.area.specs.Cells.{statement_cell, word}
use Rattle.stream.specs.Wrote.{Wrote}
use Rattle.stream.proofs.Wrote.{wrote_then, wrote_as}
use Rattle.stream.proofs.Front.{wrote_front}
use Rattle.reader.specs.Rows.{stmt}
use Rattle.sight.specs.Static.{row_hyp, stack}
use Rattle.forms.specs.Words.{RowWords, RowNumbers, VarWords, Before, StackWords, SomeStack}
use Rattle.forms.specs.Ready.{Spelled}
use Rattle.forms.specs.Puts.{PutNames, PutPool, StackLength}
use Rattle.forms.specs.Spelling.{PutExpression}
use Rattle.forms.specs.HypPuts.{HypWords, PutHyps}
use Rattle.forms.proofs.Read.{row_words}
use Rattle.forms.proofs.Variables.{var_words}
use Rattle.forms.proofs.Spelled.{row_numbers}
use Rattle.forms.proofs.Essentials.{stack_sizes, stack_is}
use Rattle.forms.proofs.StackRows.{essential_inside, stack_words, stack_before, hyp_words, pool_is}
use Rattle.disjoint.specs.Written.{CanPutDisjoint, PutsDisjoint}
use Rattle.frames.specs.Front.{front, CanFront, Fronts}
use Rattle.frames.specs.InHand.{head, middle, body, InHand, Whole, SomeInHand, SomeWhole, PutHead, PutMiddle, PutFrame}

-- ---- what the writers ask
module _ {t w : List ℕ} {n row es v k : ℕ} (c : SomeInHand t w n row es v k) where
  pub hand_front : CanFront t w n row
  hand_front = record { l = c.l; holds = c.holds.assertion }

  pub hand_names : VarWords t w n v
  hand_names = var_words c.holds.hyps.ready v c.holds.most

  pub hand_stack : StackWords t w n es
  hand_stack = stack_words c.holds.hyps

  pub hand_row : RowWords t w n row
  hand_row = row_words c.holds.hyps.ready row c.holds.hyps.here

  pub hand_before : Before w es (word w (statement_cell row 5))
  hand_before = stack_before c.holds.hyps

  pub hand_hyps : HypWords t w n k es row
  hand_hyps = hyp_words c.holds.hyps

  pub hand_some : SomeStack w n es
  hand_some = record { t = t; words = hand_stack }

  pub hand_numbers : RowNumbers w n row
  hand_numbers = row_numbers (spelled c.l c.h c.vs c.m c.holds)
    where
      spelled : (l : List Statement) (h : List ℕ) (vs m : List (List ℕ)) → InHand t w n l h vs m row es v k → Spelled t w n l vs m row
      spelled l h vs m x =
          record { ready = x.hyps.ready; grown = x.hyps.grown; here = x.hyps.here; covers = x.covers }

  pub hand_small : n ≤ 16777217
  hand_small = c.holds.assertion.small

  pub hand_few : v ≤ 4095
  hand_few = omega (arith, c.holds.most, c.holds.few)

-- ---- variables and pool
pub head_put :
    {t w b b₁ b₂ b₃ : List ℕ} {n row es v k at p q r : ℕ} → SomeInHand t w n row es v k
    → Fronts t w n row v k b b₁ at p → PutNames t w n v b₁ b₂ p q → PutPool t w n es row b₂ b₃ q r
    → PutHead t w n row es v k b b₃ at r
unfolding head
head_put {t} {w} {n = n} {row = row} {es = es} {v = v} {k = k} c f g h =
    record {
      few = omega (arith, f.few, g.few, h.few, hand_small c, hand_few c);
      sim = λ l hs vs m x.
          let a : Wrote _ _ _ _ (front (stmt l row) v k) = f.sim l x.assertion in
          let d = g.sim l vs x.hyps.ready x.most in
          let e = h.sim l vs x.hyps.ready x.hyps.here (λ j i. essential_inside x.hyps j i) in
          wrote_as (wrote_then a (wrote_then d e))
          (rw (length-take-le v vs x.most, ← x.hyps.count, pool_is x.hyps));
    }

-- ---- hypotheses and target
pub middle_put :
    {t w b b₁ b₂ : List ℕ} {n row es v k at p r s : ℕ} → SomeInHand t w n row es v k
    → PutHyps t w n k es row b b₁ at p → StackLength w n es s → PutExpression t w n row s b₁ b₂ p r
    → PutMiddle t w n row es v k b b₂ at r
unfolding middle
middle_put {t} {w} {n = n} {row = row} {es = es} {s = s} c f g h =
    record {
      few = omega (arith, f.few, h.few, hand_small c);
      sim = λ l hs vs m x.
          let y : Spelled t w n l vs m row =
          record { ready = x.hyps.ready; grown = x.hyps.grown; here = x.hyps.here; covers = x.covers } in
          let z : s ≡ length (gather pooled (map (row_hyp l) hs)) =
          g.is ∙ stack_sizes (hand_stack c)
          ∙ ap length (stack_is x.hyps.ready es (λ j i. essential_inside x.hyps j i) ∙ sym (pool_is x.hyps)) in
          wrote_as (wrote_then (f.sim l vs m hs x.hyps) (h.sim l vs m y)) (rw (← z));
    }

-- ---- the whole record
pub whole_hand : {t w : List ℕ} {n row es ds v k : ℕ} → SomeWhole t w n row es ds v k → SomeInHand t w n row es v k
whole_hand c = record { l = c.l; h = c.h; vs = c.vs; m = c.m; holds = c.holds.hand }

pub whole_disjoint :
    {t w : List ℕ} {n row es ds v k at : ℕ} → SomeWhole t w n row es ds v k → at < 2 ^ 59 → CanPutDisjoint w n at v k ds
whole_disjoint {t} c h =
    record {
      t = t;
      l = c.l;
      vs = c.vs;
      k = length c.vs;
      active = c.holds.active;
      few = c.holds.hand.few;
      least = c.holds.least;
      most = c.holds.hand.most;
      place = h;
      marks = c.holds.marks;
    }

pub grown_front : {m vs : List (List ℕ)} {k : ℕ} → Grown m vs → k ≡ length m → take k vs ≡ m
grown_front {m} {vs} {k} g e = rw (e, g.is) (take-append_seam m g.more)

body_put :
    {t w u b b₁ b₂ b₃ : List ℕ} {n row es ds v k at p q r : ℕ} (l : List Statement) (h : List ℕ) (vs m : List (List ℕ))
    → Whole t w n l h vs m row es ds v k → PutHead t w n row es v k b b₁ at p → PutMiddle t w n row es v k b₁ b₂ p q
    → PutsDisjoint w u b₂ b₃ n q r v k ds → Wrote b b₃ at r (body l h (stack w 11 ds) (take v vs) m row)
unfolding body
body_put {t} {w} {ds = ds} l h vs m x f g d =
    wrote_as
    (wrote_then (f.sim l h vs m x.hand) (wrote_then (g.sim l h vs m x.hand) (d.sim t l vs (length vs) x.active x.hand.most)))
    (rw (grown_front x.hand.hyps.grown x.hand.hyps.count))

pub frame_after :
    {t w u b b₁ b₂ b₃ : List ℕ} {n row es ds v k at p q r : ℕ} → SomeWhole t w n row es ds v k
    → PutHead t w n row es v k b b₁ at p → PutMiddle t w n row es v k b₁ b₂ p q → PutsDisjoint w u b₂ b₃ n q r v k ds
    → at ≤ r
frame_after c f g d = omega (arith, (body_put c.l c.h c.vs c.m c.holds f g d).place)

pub frame_put :
    {t w u b b₁ b₂ b₃ b₄ : List ℕ} {n row es ds v k at p q r z : ℕ} → SomeWhole t w n row es ds v k
    → PutHead t w n row es v k b b₁ (at + 4) p → PutMiddle t w n row es v k b₁ b₂ p q → PutsDisjoint w u b₂ b₃ n q r v k ds
    → (z ≡ at + 4) × Wrote b₃ b₄ at z (u32 (r - (at + 4))) → PutFrame t w u n row es ds v k b b₄ at r
frame_put {w = w} {row = row} {ds = ds} {v = v} {at = at} {r = r} c f g d y =
    record {
      words = d.words;
      few = omega (arith, f.few, g.few, d.few);
      sim = λ l h vs m x.
          let a = body_put l h vs m x f g d in
          let e : r - (at + 4) ≡ length (body l h (stack w 11 ds) (take v vs) m row) = omega (arith, a.place) in
          let z : Wrote _ _ at (at + 4) (u32 (r - (at + 4))) = rw y.0 at y.1 in
          wrote_as (wrote_front a z) (rw (← e));
    }
