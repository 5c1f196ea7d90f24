-- The walks over the part of the text that is a statement's math string, by the tokens that are done.
-- Assumes nothing.
use mathlib.Core.Path.{◌≡◌, refl, sym, ap, ◌∙◌}
use mathlib.Core.List.{List, [], ◌∷◌, ◌++◌, map, append-nil, append_assoc}
use Prim.Native.Nat.{ℕ, zero, suc, ◌+◌, ◌-◌, ◌*◌, ◌<◌, ◌≤◌}
use native.Mathlib.Nat.{not-suc-le-zero}
use native.Mathlib.Omega.{arith}
use lib.ListN.{length, get_or, take}
use Rattle.paper.specs.Base.{gather, keep}
use Rattle.paper.specs.Tokens.{Token}
use Rattle.paper.specs.Statements.{Statement}
use Rattle.paper.specs.State.{Nested, active_nested}
use Rattle.paper.specs.Checks.{each, no_token, token, outer_token, check_outer, records, nested_records, nested_diags}
use Rattle.paper.specs.Records.{diag_record}
use Rattle.paper.proofs.Lists.{keep_append}
use Rattle.area.specs.Cells.{math_cell, word}
use Rattle.reader.specs.Rows.{stmt}
use Rattle.stream.specs.Wrote.{Wrote}
use Rattle.token.specs.Words.{move}
use Rattle.slots.specs.Kept.{Kept}
use Rattle.slots.specs.Slots.{Nests, Apart}
use Rattle.slots.proofs.Kept.{kept_none, kept_then}
use Rattle.checks.specs.Tokens.{Outer, NestedToken}
use Rattle.checks.specs.Visible.{visible_from, Comes}
use Rattle.checks.specs.declared.part.MathToken.{MathToken}
use Rattle.checks.specs.Walks.{LastTwo, HerePart, WalkOuter, WalkNested}
use Rattle.checks.proofs.Told.{told_then, told_none}
use Rattle.checks.proofs.Ones.{same_told}
use Rattle.checks.proofs.Each.{each_snoc, firsts_more, firsts_length, nested_token, records_snoc, nested_snoc, records_live}
use Rattle.checks.proofs.OverRows.{here_kept, all_done}

-- ---- the math tokens are those of the part, as far on as it starts
pub map_at : (b : ℕ) (m : List Token) (i : ℕ) → i < length m → get_or (map (move b) m) i no_token ≡ move b (get_or m i no_token)
map_at b [] i h = absurd (not-suc-le-zero h)
map_at b (x ∷ m) zero h = refl
map_at b (x ∷ m) (suc i) h = map_at b m i (omega (arith, h))

pub math_at : {t w q q' : List ℕ} {n : ℕ} {l : List Statement} {k f b o i i' : ℕ} {x : MathToken} → HerePart t w q n l k f b o → Comes q i x q' i' → (token (stmt l k) i).at ≡ b + x.start
math_at {q = q} {b = b} {i = i} h x =
    ap (λ (m : List Token). (get_or m i no_token).at) h.math
    ∙ ap (λ (y : Token). y.at) (map_at b (visible_from q 0) i x.inside)
    ∙ omega (arith, x.start)

-- ---- `$f`
pub two_start : {w : List ℕ} {n f a b : ℕ} → LastTwo w n f 0 a b
two_start = record { typecode = λ h. absurd (omega arith); variable = λ h. absurd (omega arith) }

pub two_more : {w : List ℕ} {n f i a b x : ℕ} → LastTwo w n f i a b → x ≡ word w (math_cell n (f + i)) → LastTwo w n f (i + 1) b x
two_more {w} {n} {f} {i} h e =
    let p : i + 1 - 2 ≡ i - 1 = omega arith in
    let q : i + 1 - 1 ≡ i = omega arith in
    record { typecode = λ m. rw p (h.variable (omega arith)); variable = λ m. rw q e }

pub two_end : {w : List ℕ} {n f i c a b : ℕ} → c ≤ i → i ≤ c → LastTwo w n f i a b → LastTwo w n f c a b
two_end {i = i} {c} g k h = let e : c ≡ i = omega arith in rw e h

-- ---- outermost `$c`, `$v`
pub record InvOuter (w q out₀ out : List ℕ) (n at p f b s i : ℕ) : Type 0 where
  pub few : p ≤ at + 36 * i
  pub upto : i ≤ length (visible_from q 0)
  pub len : length out ≡ length out₀
  pub sim :
      {t : List ℕ} {l : List Statement} (k : ℕ) → HerePart t w q n l k f b s
      → Wrote out₀ out at p (gather diag_record (each (outer_token l s) (take i (stmt l k).math) 0))

pub outer_start : {w q out : List ℕ} {n at f b s : ℕ} → InvOuter w q out out n at at f b s 0
unfolding each
outer_start {out = out} {at = at} =
    record {
      few = omega arith;
      upto = omega arith;
      len = refl;
      sim = λ k h. told_none out at;
    }

pub outer_step : {w q q' out₀ out out' : List ℕ} {n at p r f b s i i' a : ℕ} {x : MathToken} → Comes q i x q' i' → a ≡ word w (math_cell n (f + i)) → Outer w out out' n p r a (b + x.start) s i → length out' ≡ length out
    → InvOuter w q out₀ out n at p f b s i → InvOuter w q out₀ out' n at r f b s (i + 1)
outer_step {b = b} {s} {i} {x = x₀} x ea o len h =
    record {
      few = omega (arith, h.few, o.few);
      upto = omega (arith, x.inside);
      len = len ∙ h.len;
      sim = λ {t} {l} k g.
          let ms = (stmt l k).math in
          let yt = token (stmt l k) i in
          let fn = outer_token l s in
          let lt : i < length ms = omega (arith, g.here.count, x.inside) in
          let z : 0 + length (take i ms) ≡ i = omega (arith, firsts_length ms i (omega arith)) in
          let at : yt.at ≡ b + x₀.start = math_at g x in
          let r : each fn (take (i + 1) ms) 0 ≡ each fn (take i ms) 0 ++ fn i yt =
          ap (λ (m : List Token). each fn m 0) (firsts_more ms i lt)
          ∙ each_snoc fn (take i ms) yt 0
          ∙ ap (λ (j : ℕ). each fn (take i ms) 0 ++ fn j yt) z in
          same_told
          (told_then (each fn (take i ms) 0) (fn i yt) (h.sim k g)
          (o.sim yt g.here.named (rw ea (g.here.atomic i x.inside)) at))
          r;
    }

pub outer_end : {w q out₀ out : List ℕ} {n at p f b s i : ℕ} → length (visible_from q 0) ≤ i → InvOuter w q out₀ out n at p f b s i → WalkOuter w q out₀ out n at p f b s
unfolding check_outer
outer_end {s = s} g h =
    record {
      few = omega (arith, h.few, h.upto);
      sim = λ {t} {l} k y.
          same_told (h.sim k y)
          (ap (λ (b : ℕ). each (outer_token l b) (stmt l k).math 0) (sym y.here.at)
          ∙ ap (λ (m : List Token). each (outer_token l s) m 0) (sym (all_done (stmt l k).math y.here.count g h.upto)));
    }

-- ---- nested `$v`
pub record InvNested (w v q out₀ out : List ℕ) (n at p f b e s i : ℕ) : Type 0 where
  pub kept : Kept n 12 12 2 4 w v
  pub few : p ≤ at + 36 * i
  pub upto : i ≤ length (visible_from q 0)
  pub len : length out ≡ length out₀
  pub sim :
      {t : List ℕ} {l : List Statement} (st : List Nested) (k : ℕ) → HerePart t w q n l k f b s → s < e → Apart l
      → Nests w n l st s
      → Nests v n l (st ++ nested_records l e (take i (stmt l k).math) (keep (active_nested s) st)) s
      × Wrote out₀ out at p (gather diag_record (nested_diags l s e (take i (stmt l k).math) 0 (keep (active_nested s) st)))

pub nested_start : {w q out : List ℕ} {n at f b e s : ℕ} → InvNested w w q out out n at at f b e s 0
unfolding nested_records nested_diags
nested_start {w} {out = out} {n} {at} =
    record {
      kept = kept_none n 12 12 2 4 w;
      few = omega arith;
      upto = omega arith;
      len = refl;
      sim = λ st k h g u d. (rw (append-nil st) d, told_none out at);
    }

-- what is active of the state so far
known_so_far : (l : List Statement) (st : List Nested) (m : List Token) (e s : ℕ) → s < e
    → keep (active_nested s) (st ++ nested_records l e m (keep (active_nested s) st)) ≡ keep (active_nested s) st ++ nested_records l e m (keep (active_nested s) st)
known_so_far l st m e s h =
    keep_append (active_nested s) st (nested_records l e m (keep (active_nested s) st))
    ∙ ap (λ (r : List Nested). keep (active_nested s) st ++ r) (records_live l s e m (keep (active_nested s) st) h)

pub nested_step : {w v u q q' out₀ out out' : List ℕ} {n at p r f b e s i i' a : ℕ} {x : MathToken} → Comes q i x q' i' → a ≡ word v (math_cell n (f + i))
    → NestedToken v u out out' n p r a (b + x.start) e s i → length out' ≡ length out → InvNested w v q out₀ out n at p f b e s i → InvNested w u q out₀ out' n at r f b e s (i + 1)
nested_step {n = n} {f = f} {b} {e} {s} {i} {x = x₀} x ea o len h =
    record {
      kept = kept_then h.kept o.kept;
      few = omega (arith, h.few, o.few);
      upto = omega (arith, x.inside);
      len = len ∙ h.len;
      sim = λ {t} {l} st k g lt u d.
          let ms = (stmt l k).math in
          let yt = token (stmt l k) i in
          let kn = keep (active_nested s) st in
          let rs = nested_records l e (take i ms) kn in
          let lm : i < length ms = omega (arith, g.here.count, x.inside) in
          let zz : 0 + length (take i ms) ≡ i = omega (arith, firsts_length ms i (omega arith)) in
          let at : yt.at ≡ b + x₀.start = math_at g x in
          let so = h.sim st k g lt u d in
          let g' = here_kept (omega arith) h.kept g.here in
          let on = o.sim yt g'.named u (rw ea (g'.atomic i x.inside)) at so.0 in
          let ks : keep (active_nested s) (st ++ rs) ≡ kn ++ rs = known_so_far l st (take i ms) e s lt in
          let re : nested_records l e (take (i + 1) ms) kn ≡ rs ++ records l e (kn ++ rs) yt =
          ap (λ (m : List Token). nested_records l e m kn) (firsts_more ms i lm) ∙ records_snoc l e (take i ms) yt kn in
          let de : nested_diags l s e (take (i + 1) ms) 0 kn ≡ nested_diags l s e (take i ms) 0 kn ++ nested_token l s i (kn ++ rs) yt =
          ap (λ (m : List Token). nested_diags l s e m 0 kn) (firsts_more ms i lm)
          ∙ nested_snoc l s e (take i ms) yt 0 kn
          ∙ ap (λ (j : ℕ). nested_diags l s e (take i ms) 0 kn ++ nested_token l s j (kn ++ rs) yt) zz in
          let se : st ++ nested_records l e (take (i + 1) ms) kn ≡ (st ++ rs) ++ records l e (keep (active_nested s) (st ++ rs)) yt =
          ap (λ (m : List Nested). st ++ m) re
          ∙ sym (append_assoc st rs (records l e (kn ++ rs) yt))
          ∙ ap (λ (m : List Nested). (st ++ rs) ++ records l e m yt) (sym ks) in (
            rw se on.nests,
            same_told
                (told_then (nested_diags l s e (take i ms) 0 kn) (nested_token l s i (kn ++ rs) yt) so.1
                (same_told on.wrote (ap (λ (m : List Nested). nested_token l s i m yt) (sym ks))))
                de,
          );
    }

pub nested_end : {w v q out₀ out : List ℕ} {n at p f b e s i : ℕ} → length (visible_from q 0) ≤ i → InvNested w v q out₀ out n at p f b e s i → WalkNested w v q out₀ out n at p f b e s
nested_end {e = e} {s} g h =
    record {
      kept = h.kept;
      few = omega (arith, h.few, h.upto);
      sim = λ {t} {l} st k y lt u d.
          let o = h.sim st k y lt u d in
          let a = all_done (stmt l k).math y.here.count g h.upto in
          record { nests = rw a at o.0; wrote = rw a at o.1 };
    }
