-- From the words between statements to those while the frame is written: numbered variables, hypotheses, `$d`.
-- For all that the words stand for.
use mathlib.Core.Path.{◌≡◌, refl, sym, ap, ◌∙◌}
use mathlib.Core.Bool.{true, false}
use mathlib.Core.List.{List, [], ◌∷◌, map}
use Prim.Native.Nat.{ℕ, zero, suc, ◌*◌, ◌<◌, ◌≤◌}
use native.Mathlib.Omega.{arith}
use lib.Dec.{ltb}
use lib.ListN.{length, get_or, drop}
use Rattle.paper.specs.Base.{sameb, gather}
use Rattle.paper.specs.Statements.{Statement}
use Rattle.paper.specs.Variables.{member, index, sights, variables_of}
use Rattle.paper.specs.Frames.{frame_of}
use Rattle.paper.specs.Answer.{crowded}
use Rattle.paper.proofs.Tests.{split}
use Rattle.paper.proofs.Names.{grown_member, grown_length}
use Rattle.paper.proofs.Alls.{All, all_none, all_more}
use Rattle.area.specs.Cells.{statement_cell, symbol_cell, word}
use Rattle.reader.specs.Rows.{stmt}
use Rattle.nameck.specs.Atoms.{atoms, atom_of}
use Rattle.nameck.proofs.Kept.{named_kept}
use Rattle.sight.specs.Static.{constant_name, static, row_disjoint, stack}
use Rattle.sight.specs.Numbered.{Renumbered, scanned, scanned_rows, Holds}
use Rattle.sight.proofs.Walks.{kept_renumbered}
use Rattle.sight.proofs.Stacks.{stack_length}
use Rattle.forms.proofs.StackRows.{among_keep}
use Rattle.forms.specs.HypRows.{among, is_essential, HypRows}
use Rattle.disjoint.specs.Written.{names_at, Names}
use Rattle.frames.specs.Front.{OfAssertion}
use Rattle.frames.specs.InHand.{Whole}
use Rattle.frames.specs.Assert.{frame_at, needed, Apart, Framing}
use Rattle.frames.proofs.Variables.{mandatory_scanned, optional_scanned}
use Rattle.frames.proofs.Scanned.{all_at, scanned_grown, rows_grown, static_member, rows_member, names_member}

-- ---- what a numbering leaves alone
pub stack_renumbered :
    {n : ℕ} {w v : List ℕ} (c d : ℕ) → Renumbered n w v → c < 12 → 3 * d ≤ n → stack v c d ≡ stack w c d
unfolding stack
stack_renumbered c zero x h k = refl
stack_renumbered {n} c (suc d) x h k =
    rw (stack_renumbered c d x h (omega arith), x.low (statement_cell d c) (omega arith))

index_few : (l : List (List ℕ)) (x : List ℕ) → index l x ≤ length l
unfolding index
index_few [] x = omega arith
index_few (y ∷ l) x = split (sameb y x) (λ e. rw e (omega arith)) (λ e. rw e (omega (arith, index_few l x)))

atom_few : (l : List Statement) (x : List ℕ) → atom_of l x ≤ length (atoms l)
unfolding atom_of
atom_few l x = index_few (atoms l) x

pub hyps_renumbered :
    {n : ℕ} {w v : List ℕ} {l : List Statement} {m : List (List ℕ)} {h : List ℕ} {es row : ℕ} → Renumbered n w v
    → length (atoms l) < n → 3 * es ≤ n → HypRows w n l m h es row → HypRows v n l m h es row
hyps_renumbered {n} {w} {v} {l} {m} {h} {es} {row} x a d y =
    record {
      rises = y.rises;
      below = y.below;
      kinds = y.kinds;
      essentials = y.essentials ∙ sym (stack_renumbered 10 es x (omega arith) d);
      floats = λ z e.
          let f = y.floats z e in
          record { row = f.row; inside = f.inside; float = f.float; variable = f.variable; said = said_still z ∙ f.said };
      only = λ r i f e. said_still _ ∙ y.only r i f e;
    }
  where
    said_still : (z : List ℕ) → word v (symbol_cell n (atom_of l z) 4) ≡ word w (symbol_cell n (atom_of l z) 4)
    said_still z = x.symbols (atom_of l z) 4 (omega (arith, a, atom_few l z)) (omega arith)

pub assertion_renumbered :
    {t w v : List ℕ} {n row : ℕ} {l : List Statement} → Renumbered n w v → OfAssertion t w n l row → OfAssertion t v n l row
assertion_renumbered x y =
    record {
      named = named_kept (kept_renumbered x) y.named;
      facts = y.facts;
      small = y.small;
      here = y.here;
      kind = y.kind;
    }

-- ---- the variables
abbrev numbered_first : List Statement → List ℕ → ℕ → ℕ → List (List ℕ)
numbered_first l w es row = scanned l (drop 1 (stmt l row).math) (scanned_rows l 1 (stack w 10 es) [])

module _ {t w : List ℕ} {n : ℕ} {l : List Statement} {h : List ℕ} {row es ds : ℕ} (f : Framing t w n l h row es ds) where
  pub needed_is : numbered_first l w es row ≡ needed l h row
  unfolding needed
  needed_is =
      sym
      (mandatory_scanned l h (stmt l row) f.kinds
      ∙ ap (λ e. scanned l (drop 1 (stmt l row).math) (scanned_rows l 1 e [])) f.hyps.essentials)

  names_free : {d : List ℕ} → All (Apart l) d → All (λ r. All (λ x. constant_name l x.bytes ≡ false) (stmt l r).math) d
  names_free all_none = all_none
  names_free (all_more a b) = all_more a.variables (names_free b)

  pub all_variables : sights (gather (λ x. x) (map (names_at l) (stack w 11 ds))) (needed l h row) ≡ scanned_rows l 0 (stack w 11 ds) (needed l h row)
  unfolding row_disjoint
  all_variables = optional_scanned l (stack w 11 ds) (needed l h row) (names_free f.apart)

  pub crowded_is : crowded (frame_at l h (stack w 11 ds) row) ≡ ltb 4095 (length (scanned_rows l 0 (stack w 11 ds) (needed l h row)))
  unfolding frame_at frame_of needed
  crowded_is = rw f.ordered (ap (λ x. ltb 4095 (length x)) all_variables)

  -- ---- while it is written
  names_few : length (atoms l) < n
  names_few = omega (arith, f.assertion.named.few)

  statements_few : 3 * length l < n
  statements_few = f.assertion.named.shape.few

  covered : (z : List ℕ) → member z (numbered_first l w es row) ≡ true → member z (needed l h row) ≡ true
  covered z q = rw needed_is at q

  cover :
      (r : ℕ) → among r h ≡ true → is_essential l r ≡ true → (z : List ℕ)
      → member z (variables_of (static l (stmt l r))) ≡ true → member z (needed l h row) ≡ true
  cover r i s z q =
      covered z
      (grown_member (scanned_grown l (drop 1 (stmt l row).math) (scanned_rows l 1 (stack w 10 es) [])) z
      (rows_member l (stack w 10 es) [] r z (rw f.hyps.essentials at (among_keep (is_essential l) h r i s)) q))

  named_at : {v : List ℕ} → Renumbered n w v → (j : ℕ) → j < ds → Names l (scanned_rows l 0 (stack w 11 ds) (needed l h row)) (get_or (stack v 11 ds) j 0)
  named_at x j q =
      let g : j < length (stack w 11 ds) = omega (arith, stack_length w 11 ds, q) in
      let a = all_at f.apart j g in
      rw (stack_renumbered 11 ds x (omega arith) (omega (arith, statements_few, f.depth)))
      (record {
        here = a.here;
        known = λ i k. names_member l (stack w 11 ds) (needed l h row) j i (names_free f.apart) g k;
        differ = a.differ;
      })

  pub whole_of :
      {v : List ℕ} {k c z : ℕ} → Renumbered n w v → Holds t v n l (scanned_rows l 0 (stack w 11 ds) (needed l h row)) c
      → k ≡ length (needed l h row) → c ≤ 4095 → k ≤ z → z ≤ c
      → Whole t v n l h (scanned_rows l 0 (stack w 11 ds) (needed l h row)) (needed l h row) row es ds z k
  whole_of {v} {k} {c} x y e few least most =
      let g = rows_grown l 0 (stack w 11 ds) (needed l h row) in
      record {
        hand =
            record {
              assertion = assertion_renumbered x f.assertion;
              hyps =
                  record {
                    ready =
                        record {
                          holds = record { named = y.named; small = y.small; numbered = y.numbered; count = refl };
                          facts = f.assertion.facts;
                        };
                    grown = g;
                    count = e;
                    here = f.assertion.here;
                    rows = hyps_renumbered x names_few (omega (arith, statements_few, f.deep)) f.hyps;
                    covers = cover;
                  };
              covers = λ z q. covered z (static_member l (stmt l row) (scanned_rows l 1 (stack w 10 es) []) z q);
              most = omega (arith, most, y.count);
              few = omega (arith, few, y.count);
            };
        active =
            record {
              holds = record { named = y.named; small = y.small; numbered = y.numbered; count = refl };
              mandatory = omega (arith, e, grown_length g);
              depth = f.depth;
              row = λ j q. named_at x j q;
            };
        least = least;
        marks = λ a q. x.marks a (omega (arith, q, names_few)) ∙ f.marks a q;
      }
