-- The `$f` of the variables of an accepted assertion: each mandatory one has one among the active rows, and its word says which.
-- From what the slots answer, and from at most one active `$f` for each variable.
use mathlib.Core.Path.{◌≡◌, refl, sym, ap, ◌∙◌}
use mathlib.Core.Logic.{◌≢◌}
use mathlib.Core.Bool.{true}
use mathlib.Core.List.{List, [], ◌∷◌, map}
use mathlib.Core.Option.{none, some}
use Prim.Native.Nat.{ℕ, ◌+◌, ◌-◌, ◌<◌}
use native.Mathlib.Omega.{arith}
use lib.Dec.{eqb, ltb}
use lib.ListN.{length}
use borrow.Author.Tests.{ltb-true}
use Rattle.paper.specs.Base.{keep}
use Rattle.paper.specs.Statements.{$f, Statement}
use Rattle.paper.specs.State.{Hyp, hyp_at, hyp_end, view, float_name, float_of}
use Rattle.paper.specs.Checks.{token}
use Rattle.paper.specs.Variables.{member}
use Rattle.paper.proofs.Tests.{split, by_option, eqb_ne, same_refl}
use Rattle.paper.proofs.Options.{none_some, some_same}
use Rattle.paper.proofs.Alls.{All, all_keep, all_kept, all_none, all_more, Two, two_none, two_more, two_keep}
use Rattle.area.specs.Cells.{statement_cell, symbol_cell, word}
use Rattle.reader.specs.Rows.{stmt}
use Rattle.facts.specs.Facts.{Facts}
use Rattle.facts.specs.States.{state_at}
use Rattle.facts.proofs.Order.{ahead}
use Rattle.facts.proofs.Single.{Past, single}
use Rattle.nameck.specs.Atoms.{atoms, atom_of}
use Rattle.nameck.proofs.Atoms.{token_in, atom_below, name_of_atom}
use Rattle.sight.specs.Static.{row_hyp}
use Rattle.slots.specs.Slots.{float_slot, float_hyp, float_at, Floats}
use Rattle.slots.specs.Stack.{row_active}
use Rattle.history.specs.Accepted.{is_hyp, rows_of}
use Rattle.history.proofs.Rows.{hyps_by_rows}
use Rattle.history.proofs.Active.{hyps_active, rows_below}
use Rattle.history.proofs.Framed.{same_row, float_row}
use Rattle.forms.specs.HypRows.{among, floating, is_float, variable_at, FloatRow}
use Rattle.forms.proofs.Counted as counted
use Rattle.fold.proofs.Rows.{all_among, any_found, Apart, one, earlier, later, two_among}

-- ---- the slot of a name, where it answers
slot_said : (w : List ℕ) (n : ℕ) (l : List Statement) (a p : ℕ) {y : Hyp} → float_at l (float_slot w n a p) ≡ some y
    → (word w (symbol_cell n a 4) ≢ 0) × (float_hyp l (word w (symbol_cell n a 4) - 1) ≡ y)
unfolding float_slot
slot_said w n l a p e =
    split (eqb (word w (symbol_cell n a 4)) 0)
    (λ q. absurd (none_some (rw q at e)))
    (λ q.
    split (ltb p (word w (statement_cell (word w (symbol_cell n a 4) - 1) 7)))
    (λ z. (eqb_ne q, some_same (rw (q, z) at e)))
    (λ z. absurd (none_some (rw (q, z) at e))))

two_unmap : {A B : Type 0} {R : B → B → Type 0} (f : A → B) (h : List A) → Two R (map f h) → Two (λ x y. R (f x) (f y)) h
two_unmap f [] t = two_none
two_unmap {R = R} f (x ∷ h) (two_more p t) = two_more (all_unmap h p) (two_unmap f h t)
  where
    all_unmap : (m : List _) → All (R (f x)) (map f m) → All (λ y. R (f x) (f y)) m
    all_unmap [] a = all_none
    all_unmap (y ∷ m) (all_more q a) = all_more q (all_unmap m a)

-- ---- k statements are done; what is active at the k-th
unfoldable pub active_rows : List Statement → ℕ → List ℕ
active_rows l k = keep (row_active l (stmt l k).at) (rows_of is_hyp l k)

module _ {t w : List ℕ} {n : ℕ} {l : List Statement} {k : ℕ} (facts : Facts t l) (here : k < length l)
    (floats : Floats w n l (state_at l k).hyps (k + 1) (stmt l k).at) where
  active_below : (r : ℕ) → among r (active_rows l k) ≡ true → r < k
  unfolding active_rows
  active_below r i = all_among (all_keep (row_active l (stmt l k).at) (rows_below is_hyp l k)) r i

  float_offset : (s r : ℕ) → (stmt l r).kind ≡ $f → float_hyp l s ≡ row_hyp l r → (stmt l s).at ≡ (stmt l r).at
  unfolding float_hyp row_hyp
  float_offset s r e q = rw e at (ap hyp_at q)

  -- a variable with an active `$f` has it among the rows, and its word says so
  pub float_found : (x : List ℕ) → (float_of (view (state_at l k) (stmt l k).at).hyps x ≡ none → ⊥) → FloatRow w n l (active_rows l k) x
  unfolding active_rows view
  float_found x f =
      by_option (float_of (view (state_at l k) (stmt l k).at).hyps x)
      (λ y e.
      let b = any_found (float_row l x (active_rows l k) (ap (λ h. float_of h x) (sym (hyps_active l k (stmt l k).at)) ∙ e)) in
      let r = b.row in
      let i = b.holds in
      let low : r < k = active_below r b.inside in
      let v : (token (stmt l r) 1).bytes ≡ x = i.variable in
      let two = (facts.shaped r (omega arith)).two i.kind in
      let occurs : member x (atoms l) ≡ true = rw v at (token_in l r 1 (omega arith) (omega (arith, two))) in
      let said = slot_said w n l (atom_of l x) (stmt l k).at
      (floats.looks (atom_of l x) (stmt l k).at (atom_below l x occurs) (omega arith)
      ∙ rw (name_of_atom l x occurs) e) in
      let few = floats.rows (atom_of l x) (atom_below l x occurs) in
      let same : float_hyp l (word w (symbol_cell n (atom_of l x) 4) - 1) ≡ row_hyp l r = said.1 ∙ i.same in
      let at : (stmt l (word w (symbol_cell n (atom_of l x) 4) - 1)).at ≡ (stmt l r).at = float_offset _ r i.kind same in
      let row = same_row facts _ r (omega (arith, said.0)) (omega arith) at in
      record {
        row = r;
        inside = b.inside;
        float = ap floating i.kind;
        variable = v;
        said = omega (arith, row, said.0);
      })
      (λ e. absurd (f e))

  -- two active `$f` of one variable are one
  pub float_one : (r s : ℕ) → among r (active_rows l k) ≡ true → among s (active_rows l k) ≡ true → is_float l r ≡ true → is_float l s ≡ true
      → variable_at l r ≡ variable_at l s → r ≡ s
  unfolding active_rows
  float_one r s i j a b e = by_apart (two_among past r s i j)
    where
      o : ℕ
      o = (stmt l k).at

      past : Two (λ x y. Past float_name hyp_end o (row_hyp l x) (row_hyp l y)) (active_rows l k)
      past =
          two_keep (row_active l o)
          (two_unmap (row_hyp l) (rows_of is_hyp l k)
          (rw (hyps_by_rows l k) at (single l k o (ahead facts k here)).hyps))

      alive : (x : ℕ) → among x (active_rows l k) ≡ true → o < (stmt l x).end
      alive x q = ltb-true o (stmt l x).end (all_among (all_kept (row_active l o) (rows_of is_hyp l k)) x q)

      named : (x : ℕ) (y : List ℕ) → is_float l x ≡ true → variable_at l x ≡ y → float_name y (row_hyp l x) ≡ true
      named x y q z = rw (counted.row_float l x q, z) (same_refl y)

      ended : (x : ℕ) → is_float l x ≡ true → hyp_end (row_hyp l x) ≡ (stmt l x).end
      ended x q = ap hyp_end (counted.row_float l x q)

      by_apart : Apart (λ x y. Past float_name hyp_end o (row_hyp l x) (row_hyp l y)) r s → r ≡ s
      by_apart (one q) = q
      by_apart (earlier p) = absurd (omega (arith, p (variable_at l s) (named r _ a e) (named s _ b refl), ended r a, alive r i))
      by_apart (later p) = absurd (omega (arith, p (variable_at l s) (named s _ b refl) (named r _ a e), ended s b, alive s j))
