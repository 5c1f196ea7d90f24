-- The expression of a row: what the words spell is what the definition says of its formula.
-- For every statement list and every variables that the words stand for.
use mathlib.Core.Path.{◌≡◌, refl, sym, ap, ◌∙◌}
use mathlib.Core.Bool.{true, false}
use mathlib.Core.List.{List, ◌++◌}
use Prim.Native.Nat.{ℕ, zero, suc, ◌+◌, ◌-◌, ◌<◌, ◌≤◌}
use native.Mathlib.Omega.{arith}
use lib.Dec.{eqb}
use lib.ListN.{length}
use Rattle.paper.specs.Base.{choose, gather, table}
use Rattle.paper.specs.Statements.{Statement, none_end}
use Rattle.paper.specs.State.{Symbol}
use Rattle.paper.specs.Variables.{index, variable_in, variables_of}
use Rattle.paper.specs.Expressions.{constant_in, pool_of, fragments, rump, expression}
use Rattle.paper.specs.Records.{u32, string, expression_bytes}
use Rattle.paper.specs.Checks.{token}
use Rattle.paper.proofs.Tests.{split, clash}
use Rattle.paper.proofs.Names.{grown_member}
use Rattle.area.specs.Cells.{statement_cell, symbol_cell, word}
use Rattle.stream.specs.Wrote.{Wrote}
use Rattle.stream.proofs.Wrote.{wrote_then, wrote_to, wrote_as}
use Rattle.stream.proofs.Front.{wrote_front}
use Rattle.reader.specs.Rows.{stmt}
use Rattle.sight.specs.Static.{constant_name, static}
use Rattle.sight.proofs.Sums.{sum_same}
use Rattle.forms.specs.Words.{name_bytes, atom_at, word_symbol, body_of, count_of, sizes_to, variable_size, variables_to, starts, piece_by, pieces, RowWords, RowNumbers}
use Rattle.forms.specs.Ready.{Spelled}
use Rattle.forms.specs.Spelling.{spelling, PutFragments, PutExpression}
use Rattle.forms.specs.declared.expression.Reached.{Reached}
use Rattle.forms.proofs.Read.{name_at, number_at, number_constant, number_variable, count_is, body_is, constants_are}
use Rattle.forms.proofs.Constants.{sum_gather, sizes_at, sizes_are}
use Rattle.forms.proofs.Formulas.{rump_more, fragments_more, begun_by, fragment_by, variable_by, length_fragments, fragments_grown, token_variable}

-- ---- the words' own symbols
module _ {t w : List ℕ} {n row : ℕ} (h : RowWords t w n row) (a : ℕ) where
  abbrev symbol_at : ℕ → Symbol
  symbol_at j = word_symbol t w n (atom_at w n row (j + 1))

  starts_are : (j : ℕ) → j < word w (statement_cell row 6) → starts w n row a j ≡ rump (table symbol_at j) a a
  unfolding starts table rump word_symbol
  starts_are zero l = refl
  starts_are (suc j) l =
      let x = atom_at w n row (j + 1) in
      let k : ℕ = word w (symbol_cell n x 5) in
      ap (λ z. choose (eqb k none_end) z (a + sizes_to w n row (j + 1))) (starts_are j (omega arith))
      ∙ ap (λ z. choose (eqb k none_end) (rump (table symbol_at j) a a) (a + z)) (sizes_at h j (omega arith))
      ∙ sym (begun_by k (name_bytes t w n x) (rump (table symbol_at j) a a) (a + length (gather constant_in (table symbol_at j))))
      ∙ sym (rump_more (table symbol_at j) (symbol_at j) a a)

  pieces_are : (vs : List (List ℕ))
      → ((i : ℕ) → 1 ≤ i → i < word w (statement_cell row 6) → eqb (word w (symbol_cell n (atom_at w n row i) 5)) none_end ≡ false
      → word w (symbol_cell n (atom_at w n row i) 5) - 1 ≡ index vs (name_bytes t w n (atom_at w n row i)))
      → (j : ℕ) → j < word w (statement_cell row 6) → pieces w n row a j ≡ fragments vs (table symbol_at j) a a
  unfolding pieces table fragments word_symbol
  pieces_are vs q zero l = refl
  pieces_are vs q (suc j) l =
      let x = atom_at w n row (j + 1) in
      let k : ℕ = word w (symbol_cell n x 5) in
      ap (λ z. z ++ piece_by k (starts w n row a j) (a + sizes_to w n row (j + 1))) (pieces_are vs q j (omega arith))
      ∙ ap (λ z. fragments vs (table symbol_at j) a a ++ piece_by k z (a + sizes_to w n row (j + 1))) (starts_are j (omega arith))
      ∙ ap (λ z. fragments vs (table symbol_at j) a a ++ piece_by k (rump (table symbol_at j) a a) (a + z)) (sizes_at h j (omega arith))
      ∙ ap (λ z. fragments vs (table symbol_at j) a a ++ z)
      (fragment_by vs k (name_bytes t w n x) (rump (table symbol_at j) a a) (a + length (gather constant_in (table symbol_at j))) (q (j + 1) (omega arith) (omega arith)))
      ∙ sym (fragments_more vs (table symbol_at j) (symbol_at j) a a)

  variables_are : variables_to w n row (count_of w row) ≡ length (gather variable_in (body_of t w n row (count_of w row)))
  unfolding variables_to body_of word_symbol
  variables_are =
      sum_same (λ j. variable_size (word w (symbol_cell n (atom_at w n row (j + 1)) 5))) (λ j. length (variable_in (symbol_at j))) (count_of w row - 1)
      (λ j l. variable_by (word w (symbol_cell n (atom_at w n row (j + 1)) 5)) (name_bytes t w n (atom_at w n row (j + 1))))
      ∙ sum_gather variable_in symbol_at (count_of w row - 1)

-- ---- numbers
module _ {t w : List ℕ} {n row : ℕ} {l : List Statement} {vs m : List (List ℕ)} (s : Spelled t w n l vs m row) where
  number_here : (i : ℕ) → 1 ≤ i → i < length (stmt l row).math → constant_name l (token (stmt l row) i).bytes ≡ false
      → word w (symbol_cell n (atom_at w n row i) 5) ≡ index vs (token (stmt l row) i).bytes + 1
  number_here i g k e =
      let x = (token (stmt l row) i).bytes in
      number_at s.ready row s.here i k
      ∙ number_variable s.ready x e (grown_member s.grown x (s.covers x (token_variable l (stmt l row) i g k e)))

  constant_here : (i : ℕ) → i < length (stmt l row).math
      → eqb (word w (symbol_cell n (atom_at w n row i) 5)) none_end ≡ constant_name l (token (stmt l row) i).bytes
  constant_here i k =
      ap (λ z. eqb z none_end) (number_at s.ready row s.here i k)
      ∙ number_constant s.ready (token (stmt l row) i).bytes

  numbers_are : (i : ℕ) → 1 ≤ i → i < word w (statement_cell row 6) → eqb (word w (symbol_cell n (atom_at w n row i) 5)) none_end ≡ false
      → word w (symbol_cell n (atom_at w n row i) 5) - 1 ≡ index vs (name_bytes t w n (atom_at w n row i))
  numbers_are i g k e =
      let o : i < length (stmt l row).math = omega (arith, count_is s.ready row s.here) in
      let z : index vs (name_bytes t w n (atom_at w n row i)) ≡ index vs (token (stmt l row) i).bytes = ap (index vs) (name_at s.ready row s.here i o) in
      omega (arith, z, number_here i g o (sym (constant_here i o) ∙ e))

  pub row_numbers : RowNumbers w n row
  row_numbers =
      record {
        some = λ i g k z.
            let o : i < length (stmt l row).math = omega (arith, count_is s.ready row s.here) in
            split (constant_name l (token (stmt l row) i).bytes)
            (λ e. let q : eqb 0 none_end ≡ true = ap (λ y. eqb y none_end) (sym z) ∙ constant_here i o ∙ e in absurd (clash (sym q)))
            (λ e. omega (arith, z, number_here i g o e));
      }

-- ---- the expression
module _ {t w : List ℕ} {n row : ℕ} {l : List Statement} {vs m : List (List ℕ)} (h : RowWords t w n row) (s : Spelled t w n l vs m row) (a : ℕ) where
  abbrev body : List Symbol
  body = (static l (stmt l row)).body

  spelled_variables : variables_to w n row (count_of w row) ≡ length (fragments m body a a)
  spelled_variables =
      variables_are h a
      ∙ ap (λ b. length (gather variable_in b)) (body_is s.ready row s.here)
      ∙ sym (length_fragments m body a a)

  spelled_pieces : pieces w n row a (count_of w row - 1) ≡ fragments m body a a
  unfolding body_of variables_of
  spelled_pieces =
      pieces_are h a vs (numbers_are s) (count_of w row - 1) (omega (arith, h.some))
      ∙ ap (λ b. fragments vs b a a) (body_is s.ready row s.here)
      ∙ fragments_grown s.grown body a a s.covers

  spelled_rump : starts w n row a (count_of w row - 1) ≡ rump body a a
  unfolding body_of
  spelled_rump =
      starts_are h a (count_of w row - 1) (omega (arith, h.some))
      ∙ ap (λ b. rump b a a) (body_is s.ready row s.here)

  spelled_typecode : name_bytes t w n (atom_at w n row 0) ≡ (token (stmt l row) 0).bytes
  spelled_typecode = name_at s.ready row s.here 0 (omega (arith, h.some, count_is s.ready row s.here))

  spelled_pool : sizes_to w n row (count_of w row) ≡ length (pool_of (static l (stmt l row)))
  spelled_pool = sizes_are h ∙ ap length (constants_are s.ready row s.here)

  spelled_as : expression_bytes (expression m (static l (stmt l row)) a)
      ≡ string (name_bytes t w n (atom_at w n row 0)) ++ (u32 (variables_to w n row (count_of w row)) ++ spelling w n row a)
  unfolding expression_bytes expression spelling static
  spelled_as = rw (spelled_typecode, spelled_variables, spelled_pieces, spelled_rump, spelled_pool)

pub expression_put : {t w b b₁ b₂ b₃ : List ℕ} {n row a x at p v : ℕ} {r : Reached} → RowWords t w n row → x ≡ atom_at w n row 0
    → (p ≤ at + 16777220) × Wrote b b₁ at p (string (name_bytes t w n x))
    → PutFragments w n row a b₁ b₂ (p + 4) r
    → (v ≡ p + 4) × Wrote b₂ b₃ p v (u32 r.variables)
    → PutExpression t w n row a b b₃ at r.at
expression_put {t} {w} {n = n} {a = a} h e y z u =
    record {
      few = omega (arith, y.0, z.few);
      sim = λ l vs m s.
          wrote_as
          (wrote_then (wrote_as y.1 (ap (λ k. string (name_bytes t w n k)) (sym e)))
          (wrote_front z.wrote (wrote_to (wrote_as u.1 (ap u32 (sym z.counted))) (sym u.0))))
          (spelled_as h s a);
    }
