-- From what the code of one token did to what the definitions say of it.
-- Assumes nothing.
use mathlib.Core.Path.{◌≡◌, refl, sym, ap, ◌∙◌}
use mathlib.Core.Logic.{◌≢◌}
use mathlib.Core.List.{List, [], ◌∷◌, ◌++◌, append-nil}
use mathlib.Core.Option.{Option, none, some}
use Prim.Native.Nat.{ℕ, ◌+◌, ◌-◌, ◌<◌, ◌≤◌}
use native.Mathlib.Nat.{le_refl}
use native.Mathlib.Omega.{arith}
use lib.Dec.{eqb, ltb}
use lib.ListN.{length}
use Rattle.paper.specs.Base.{gather, keep}
use Rattle.paper.specs.Tokens.{Token}
use Rattle.paper.specs.Statements.{Statement}
use Rattle.paper.specs.Names.{owner, Declared, global}
use Rattle.paper.specs.State.{Nested, Hyp, State, active_nested, active_hyp, nested_of, float_of, view, sense, Sense}
use Rattle.paper.specs.Checks.{Diag, diag, token, check_label, clash, redeclared, by_known, by_declared, verdict, verdict_diags, records, against, record_it, typecode_diags, variable_diags, float_diags, if_none, check_float}
use Rattle.paper.specs.Records.{diag_record}
use Rattle.paper.proofs.Tests.{split, eqb_ne}
use Rattle.area.specs.Cells.{statement_cell, symbol_cell, word}
use Rattle.reader.specs.Rows.{stmt}
use Rattle.nameck.specs.Named.{Named}
use Rattle.nameck.specs.Lookups.{owner_answer, global_answer, Owned, DeclaredBy}
use Rattle.nameck.specs.declared.lookup.Global.{Global}
use Rattle.stream.specs.Wrote.{Wrote}
use Rattle.stream.proofs.Wrote.{wrote_as}
use Rattle.paper.specs.declared.TokenOffset.{TokenOffset}
use Rattle.paper.specs.declared.StatementRow.{StatementRow}
use Rattle.paper.specs.declared.StatementOffset.{StatementOffset}
use Rattle.paper.specs.declared.TokenIndex.{TokenIndex}
use Rattle.slots.specs.declared.CheckedToken.{CheckedToken}
use Rattle.slots.specs.Kept.{Room}
use Rattle.slots.specs.Slots.{nested_slot, nested_at, float_slot, float_at, with_nested, Floats, Atomic, Sensed}
use Rattle.slots.specs.Marks.{first_in, mark_slot, marked_by}
use Rattle.slots.proofs.Kept.{kept_none}
use Rattle.slots.proofs.Slots.{by_float, kept_nested, nests_put}
use Rattle.slots.proofs.Marks.{kept_mark, marks_see}
use Rattle.paper.specs.Checks as paper
use Rattle.std.specs.Prelude as code
use Rattle.checks.specs.declared.Breach.{Breach}
use Rattle.checks.specs.Breach.{number}
use Rattle.checks.specs.Found.{sense_of, label_by, found_by, redeclared_by, against_by, verdict_is, symbol_by, disjoint_by}
use Rattle.checks.specs.Tokens.{Clashes, Outer, Judged, NestedToken, Sees, EapToken, DvToken, earlier_slot, Float, Label}
use Rattle.checks.proofs.Told.{told_then}
use Rattle.checks.proofs.Found.{label_is, clash_is, redeclared_is, against_by_is, sense_checked, symbol_is, disjoint_is, float_at_is, told_length, none_told}

-- the bytes of diagnostics that are the same
pub same_told : {out out' : List ℕ} {at q : ℕ} {d e : List Diag} → Wrote out out' at q (gather diag_record d) → e ≡ d → Wrote out out' at q (gather diag_record e)
same_told w p = wrote_as w (ap (gather diag_record) p)

-- ---- labels
pub label_one : {w out out' : List ℕ} {n at q a s : ℕ} {o : code.Option StatementOffset} → Owned w n a o → (q ≤ at + 18) × Wrote out out' at q (gather diag_record (label_by o s))
    → Label w out out' n at q a s
unfolding check_label
label_one {s = s} {o} e r =
    record {
      few = r.0;
      sim = λ {t} {l} z h y p.
          let x : o ≡ owner_answer (owner l z.label) = e.is h y.below ∙ rw y.name in
          same_told r.1
          (sym (label_is (owner l z.label) z)
          ∙ ap (label_by (owner_answer (owner l z.label))) p
          ∙ ap (λ (b : code.Option StatementOffset). label_by b s) (sym x));
    }

pub clash_one : {w out out' : List ℕ} {n at q a s i : ℕ} {o : code.Option StatementOffset} → Owned w n a o → (q ≤ at + 18) × Wrote out out' at q (gather diag_record (found_by 5 o s i))
    → Clashes w out out' n at q a s i
clash_one {s = s} {i} {o} e r =
    record {
      few = r.0;
      sim = λ {t} {l} y h z.
          let x : o ≡ owner_answer (owner l y.bytes) = e.is h z.below ∙ rw z.name in
          same_told r.1 (sym (ap (λ (b : code.Option StatementOffset). found_by 5 b s i) x ∙ clash_is (owner l y.bytes) s i));
    }

-- ---- a token of an outermost `$c` or `$v`
pub outer_one : {w out out₁ out₂ : List ℕ} {n at p q a o s i : ℕ} {g : code.Option Global} → Clashes w out out₁ n at p a s i → DeclaredBy w n a g
    → (q ≤ p + 18) × Wrote out₁ out₂ p q (gather diag_record (redeclared_by g o s i)) → Outer w out out₂ n at q a o s i
outer_one {o = o} {s} {i} {g} c e r =
    record {
      few = omega (arith, r.0, c.few);
      sim = λ {t} {l} y h z m.
          let x : g ≡ global_answer (global l y.bytes) = e.is h z.below ∙ rw z.name in
          told_then (clash (owner l y.bytes) s i) (redeclared (global l y.bytes) s i y) (c.sim y h z)
          (same_told r.1
          (sym (redeclared_is (global l y.bytes) y s i)
          ∙ ap (λ (b : ℕ). redeclared_by (global_answer (global l y.bytes)) b s i) m
          ∙ ap (λ (b : code.Option Global). redeclared_by b o s i) (sym x)));
    }

-- ---- a token of a nested `$v`
pub judged_one : {w : List ℕ} {n a o s : ℕ} {g : code.Option Global} {r : code.Option (Breach × TokenOffset)} → DeclaredBy w n a g → r ≡ against_by g o (nested_slot w n a s) → Judged w n a o s r
unfolding verdict
judged_one {w} {n} {a} {o} {s} {g} {r} x e =
    record {
      is = λ {t} {l} {st} y h z m k.
          let d = global l y.bytes in
          let f = nested_of (keep (active_nested s) st) y.bytes in
          let j : nested_slot w n a s ≡ nested_at f = k.looks a s z.below (le_refl s) ∙ rw z.name in
          let i : g ≡ global_answer d = x.is h z.below ∙ rw z.name in
          let q : r ≡ against_by (global_answer d) o (nested_at f) = e ∙ rw (i, j) in
          ap verdict_is q
          ∙ against_by_is d o f
          ∙ ap (λ (b : ℕ). by_declared d b (by_known f)) (sym m);
    }

known_none : (w : List Statement) (x : List Nested) (y : Token) → verdict w x y ≡ record_it → nested_of x y.bytes ≡ none
unfolding verdict
known_none w x y e = by_kind (global w y.bytes) (nested_of x y.bytes) e
  where
    no : {k o : ℕ} → against k o ≡ record_it → ⊥
    no e = let z : ◌≡◌ {A = ℕ} 0 1 = cc in omega arith

    by_kind : (d : Option Declared) (m : Option Nested) → by_declared d y.at (by_known m) ≡ record_it → m ≡ none
    by_kind d none e = refl
    by_kind none (some x) e = absurd (no e)
    by_kind (some d) (some x) e =
        absurd
        (split (ltb d.at y.at) (λ p. no (rw p at e))
        (λ p. split d.constant (λ q. no (rw (p, q) at e)) (λ q. no (rw (p, q) at e))))

-- something stands against it
pub nested_against : {w out out₁ out₂ : List ℕ} {n at p q a o e s i : ℕ} {k : Breach} {r : TokenOffset} → Clashes w out out₁ n at p a s i → Judged w n a o s (code.Some (k, r))
    → (q ≤ p + 18) × Wrote out₁ out₂ p q (gather diag_record (diag (number k) s i r.0)) → NestedToken w w out out₂ n at q a o e s i
unfolding records
nested_against {w} {n = n} {e = e} {s} {i} {k} {r} c j x =
    record {
      kept = kept_none n 12 12 2 4 w;
      few = omega (arith, x.0, c.few);
      sim = λ {t} {l} {st} y h u z m f.
          let d : against (number k) r.0 ≡ verdict l (keep (active_nested s) st) y = j.is y h z m f in
          record {
            nests = rw (← d) (rw (append-nil st) f);
            wrote =
                told_then (clash (owner l y.bytes) s i) (verdict_diags (verdict l (keep (active_nested s) st) y) s i) (c.sim y h z)
                (same_told x.1 (ap (λ (b : paper.Verdict). verdict_diags b s i) (sym d)));
          };
    }

-- nothing does
pub nested_recorded : {w v out out' : List ℕ} {n at q a o e s i : ℕ} → Room w n → a < n → Clashes w out out' n at q a s i → Judged w n a o s code.None
    → v ≡ with_nested w n a o e → NestedToken w v out out' n at q a o e s i
unfolding records
nested_recorded {w} {v} {n = n} {a = a} {o} {e} {s} {i} r h₁ c j x =
    record {
      kept = rw x (kept_nested w n a o e r h₁);
      few = omega (arith, c.few);
      sim = λ {t} {l} {st} y h u z m f.
          let d : record_it ≡ verdict l (keep (active_nested s) st) y = j.is y h z m f in
          record {
            nests = rw (← d, m, x) (nests_put o e r (omega (arith, h.few)) u z f (known_none l (keep (active_nested s) st) y (sym d)));
            wrote = same_told (c.sim y h z) (rw (← d) (append-nil (clash (owner l y.bytes) s i)));
          };
    }

-- ---- a token of a `$e`, `$a` or `$p`
pub seen_sense : {t w : List ℕ} {n : ℕ} {l : List Statement} {x : State} {a s : ℕ} {y : Token} {c : CheckedToken} → Sensed w n a s c
    → Sees t w n l x a s y → sense_of c ≡ sense l (view x s) y
seen_sense {l = l} {x} {a} {s} {y} e h =
    ap sense_of (e.is x y h.named h.nests h.atomic h.alike) ∙ sense_checked (sense l (view x s) y) a

floats_view : (x : State) (s : ℕ) (b : List ℕ) → float_of (keep (active_hyp s) x.hyps) b ≡ float_of (view x s).hyps b
unfolding view
floats_view x s b = refl

pub seen_float : {w : List ℕ} {n : ℕ} {l : List Statement} {k a s : ℕ} {b : List ℕ} (x : State) → Atomic l a b → Floats w n l x.hyps k s
    → float_at l (float_slot w n a s) ≡ float_of (view x s).hyps b
seen_float {s = s} {b} x y f = f.looks _ s y.below (le_refl s) ∙ rw y.name (floats_view x s b)

pub eap_one : {w out out' : List ℕ} {n at q a s i : ℕ} {c : CheckedToken} {f : code.Option StatementRow} → Sensed w n a s c → f ≡ float_slot w n a s
    → (q ≤ at + 18) × Wrote out out' at q (gather diag_record (symbol_by (sense_of c) f s i)) → EapToken w out out' n at q a s i
eap_one {s = s} {i} {c} {f} e g r =
    record {
      few = r.0;
      sim = λ {t} {l} {x} {y} k h m.
          let p : sense_of c ≡ sense l (view x s) y = seen_sense e h in
          let o : float_at l f ≡ float_of (view x s).hyps y.bytes = ap (float_at l) g ∙ seen_float x h.atomic m in
          same_told r.1 (sym (symbol_is (sense_of c) l f s i ∙ rw (p, o)));
    }

-- ---- a token of a `$d`
pub dv_one : {w v out out' : List ℕ} {n at q a s i : ℕ} {c : CheckedToken} {k : code.Option TokenIndex} → Room w n → a < n → Sensed w n a s c
    → (k ≡ mark_slot w n a) × (v ≡ marked_by (mark_slot w n a) w n a i)
    → (q ≤ at + 18) × Wrote out out' at q (gather diag_record (disjoint_by (sense_of c) k s i)) → DvToken w v out out' n at q a s i
dv_one {w} {v} {n = n} {a = a} {s} {i} {c} {k} ro lt e g r =
    record {
      kept = rw g.1 (kept_mark w n a i ro lt (mark_slot w n a));
      few = r.0;
      sim = λ {t} {l} {x} {y} {d} m h u f j.
          let p : sense_of c ≡ sense l (view x s) y = seen_sense e h in
          let o : k ≡ first_in d y.bytes 0 = g.0 ∙ f.sees a h.atomic.below ∙ rw h.atomic.name in
          record {
            marks = rw g.1 (rw j at (marks_see y ro (omega (arith, h.named.few)) u h.atomic f));
            wrote = same_told r.1 (sym (rw (p, o) (disjoint_is (sense l (view x s) y) d m y s i j)));
          };
    }

-- ---- a `$f`
pub float_row : (w : List ℕ) (n a p : ℕ) (r : StatementRow) → float_slot w n a p ≡ code.Some r → word w (symbol_cell n a 4) ≡ r.0 + 1
unfolding float_slot
float_row w n a p r e =
    split (eqb (word w (symbol_cell n a 4)) 0)
    (λ q. let z : code.None ≡ code.Some r = rw q at e in absurd (no_at z))
    (λ q. let m : word w (symbol_cell n a 4) ≢ 0 = eqb_ne q in
    split (ltb p (word w (statement_cell (word w (symbol_cell n a 4) - 1) 7)))
    (λ i. let z : code.Some (record { 0 = word w (symbol_cell n a 4) - 1 }) ≡ code.Some r = rw (q, i) at e in let y : ◌≡◌ {A = StatementRow} (record { 0 = word w (symbol_cell n a 4) - 1 }) r = cc in omega (arith, m, ap (λ (b : StatementRow). b.0) y))
    (λ i. let z : code.None ≡ code.Some r = rw (q, i) at e in absurd (no_at z)))
  where
    no_at : ◌≡◌ {A = code.Option StatementRow} code.None (code.Some r) → ⊥
    no_at z = let y : ◌≡◌ {A = ℕ} 0 1 = cc in omega arith

-- the earlier `$f`
float_told : {t w : List ℕ} {n : ℕ} {l : List Statement} {k a s : ℕ} {b : List ℕ} {e : code.Option StatementOffset} (x : State) → Named t w n l → Atomic l a b → k ≤ length l → Floats w n l x.hyps k s
    → e ≡ earlier_slot w n a s → found_by 11 e s 0 ≡ float_diags (float_of (view x s).hyps b) s
unfolding earlier_slot
float_told {w = w} {n} {l} {k} {a} {s} {b} {e} x h y g f p =
    by_float (float_slot w n a s)
    (λ r q.
    let i : word w (symbol_cell n a 4) ≡ r.0 + 1 = float_row w n a s r q in
    let j : word w (statement_cell r.0 1) ≡ (stmt l r.0).at = h.shape.at r.0 (omega (arith, f.rows a y.below)) in
    let o : e ≡ code.Some (record { 0 = (stmt l r.0).at }) = p ∙ rw (q, j) in
    rw o (sym (ap (λ (z : Option Hyp). float_diags z s) (sym (seen_float x y f) ∙ ap (float_at l) q) ∙ float_at_is l r s)))
    (λ q.
    let o : e ≡ code.None = p ∙ rw q in
    rw o (sym (ap (λ (z : Option Hyp). float_diags z s) (sym (seen_float x y f) ∙ ap (float_at l) q))))

if_none_some : (d e : List Diag) → length d ≢ 0 → if_none d e ≡ d
if_none_some [] e h = absurd (h refl)
if_none_some (x ∷ d) e h = refl

module _ {w out out₁ out₂ : List ℕ} {n at p q b a s : ℕ} {c d : CheckedToken} (ec : Sensed w n b s c) (ed : Sensed w n a s d)
    (x : (p ≤ at + 18) × Wrote out out₁ at p (gather diag_record (typecode_diags (sense_of c) s))) (y : (q ≤ p + 18) × Wrote out₁ out₂ p q (gather diag_record (variable_diags (sense_of d) s))) where
  two : {t : List ℕ} {l : List Statement} {st : State} (z : Statement) → z.at ≡ s → Sees t w n l st b s (token z 0) → Sees t w n l st a s (token z 1)
      → Wrote out out₂ at q (gather diag_record (typecode_diags (sense l (view st s) (token z 0)) z.at ++ variable_diags (sense l (view st s) (token z 1)) z.at))
  two {l = l} {st} z e f g =
      let i : sense_of c ≡ sense l (view st s) (token z 0) = seen_sense ec f in
      let j : sense_of d ≡ sense l (view st s) (token z 1) = seen_sense ed g in
      told_then _ _
      (same_told x.1 (ap (λ (k : ℕ). typecode_diags (sense l (view st s) (token z 0)) k) e ∙ ap (λ (k : Sense). typecode_diags k s) (sym i)))
      (same_told y.1 (ap (λ (k : ℕ). variable_diags (sense l (view st s) (token z 1)) k) e ∙ ap (λ (k : Sense). variable_diags k s) (sym j)))

  pub float_failed : q ≢ at → Float w out out₂ n at q b a s
  unfolding check_float
  float_failed ne =
      record {
        few = omega (arith, x.0, y.0);
        sim = λ {t} {l} {x = st} k z m e f g h.
            let r = two z e f g in
            let ds = typecode_diags (sense l (view st s) (token z 0)) z.at ++ variable_diags (sense l (view st s) (token z 1)) z.at in
            same_told r (if_none_some ds _ (λ o. ne (omega (arith, r.place, told_length ds, o))));
      }

  pub float_passed : {out₃ : List ℕ} {r : ℕ} {o : code.Option StatementOffset} → q ≡ at → o ≡ earlier_slot w n a s → (r ≤ q + 18) × Wrote out₂ out₃ q r (gather diag_record (found_by 11 o s 0)) → Float w out out₃ n at r b a s
  unfolding check_float
  float_passed {o = o} eq eo v =
      record {
        few = omega (arith, v.0);
        sim = λ {t} {l} {x = st} k z m e f g h.
            let u = two z e f g in
            let ds = typecode_diags (sense l (view st s) (token z 0)) z.at ++ variable_diags (sense l (view st s) (token z 1)) z.at in
            let n₀ : ds ≡ [] = none_told ds (omega (arith, u.place, told_length ds)) in
            let fd = float_diags (float_of (view st s).hyps (token z 1).bytes) in
            let i : found_by 11 o s 0 ≡ fd s = float_told st g.named g.atomic m h eo in
            same_told (told_then ds (fd z.at) u (same_told v.1 (ap fd e ∙ sym i)))
            (ap (λ (b : List Diag). if_none b (fd z.at)) n₀ ∙ ap (λ (b : List Diag). b ++ fd z.at) (sym n₀));
      }
