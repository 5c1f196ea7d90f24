-- The walks over the math tokens of a row that count its variables and write its fragments, by the tokens done so far.
-- In the words alone, without the text.
use mathlib.Core.Path.{◌≡◌, refl, sym, ap, ◌∙◌}
use mathlib.Core.Bool.{true, false}
use mathlib.Core.List.{List, ◌++◌}
use Prim.Native.Nat.{ℕ, suc, ◌+◌, ◌-◌, ◌*◌, ◌≤◌}
use native.Mathlib.Omega.{arith}
use native.Mathlib.Nat.{add-zero}
use lib.Dec.{eqb}
use Rattle.paper.specs.Base.{choose, gather}
use Rattle.paper.specs.Statements.{none_end}
use Rattle.paper.specs.Records.{u16, u32, fragment_bytes}
use Rattle.paper.proofs.Tests.{split}
use Rattle.paper.proofs.Lists.{gather_append}
use Rattle.paper.proofs.Gather.{gather_one}
use Rattle.area.specs.Cells.{symbol_cell, word}
use Rattle.stream.specs.Wrote.{Wrote}
use Rattle.stream.proofs.Wrote.{wrote_none, wrote_then, wrote_as}
use Rattle.sight.specs.Sums.{sum}
use Rattle.forms.specs.declared.expression.Reached.{Reached}
use Rattle.forms.specs.Words.{atom_at, count_of, constant_size, sizes_to, variable_size, variables_to, starts, piece_by, pieces, SomeRow}
use Rattle.forms.specs.Spelling.{CanPutSymbol, PutSymbol, spelling, PutFragments}
use Rattle.forms.proofs.Constants.{sum_from}

-- ---- one fragment, one symbol
pub fragment_put : {b b₁ b₂ b₃ : List ℕ} {at p q r : ℕ} (from to k : ℕ) → (p ≡ at + 4) × Wrote b b₁ at p (u32 from) → (q ≡ p + 4) × Wrote b₁ b₂ p q (u32 to)
    → (r ≡ q + 2) × Wrote b₂ b₃ q r (u16 k) → (r ≡ at + 10) × Wrote b b₃ at r (fragment_bytes (record { from = from; to = to; variable = k }))
unfolding fragment_bytes
fragment_put from to k x y z = (omega (arith, x.0, y.0, z.0), wrote_then x.1 (wrote_then y.1 z.1))

module _ {w : List ℕ} {n a s : ℕ} {p : Reached} (h : CanPutSymbol w n p a) (z : (s ≤ 16777216) × (s ≡ constant_size w n a)) where
  pub symbol_constant : (b : List ℕ) → eqb (word w (symbol_cell n a 5)) none_end ≡ true
      → PutSymbol w n b b p (record { at = p.at; from = p.from; to = p.to + s; variables = p.variables }) a
  unfolding gather
  symbol_constant b c =
      record {
        few = omega arith;
        starts_at = rw c;
        size = omega (arith, z.0, z.1);
        stops_at = ap (λ x. p.to + x) z.1;
        counted = rw c (omega arith);
        wrote = rw c (wrote_none b p.at);
      }

  pub symbol_variable : {b b' : List ℕ} {q v : ℕ} → v ≡ word w (symbol_cell n a 5) - 1 → eqb (word w (symbol_cell n a 5)) none_end ≡ false
      → (q ≡ p.at + 10) × Wrote b b' p.at q (fragment_bytes (record { from = p.from; to = p.to; variable = v }))
      → PutSymbol w n b b' p (record { at = q; from = p.to; to = p.to + s; variables = p.variables + 1 }) a
  symbol_variable e c x =
      record {
        few = omega (arith, x.0);
        starts_at = rw c;
        size = omega (arith, z.0, z.1);
        stops_at = ap (λ y. p.to + y) z.1;
        counted = rw c;
        wrote = rw c
            (wrote_as x.1
            (gather_one fragment_bytes (record { from = p.from; to = p.to; variable = word w (symbol_cell n a 5) - 1 })
            ∙ ap (λ y. fragment_bytes (record { from = p.from; to = p.to; variable = y })) (sym e)));
      }

one_most : (k : ℕ) → variable_size k ≤ 1
one_most k = split (eqb k none_end) (λ e. rw e (omega arith)) (λ e. rw e (omega arith))

-- ---- the walk
module _ (w : List ℕ) (n row a i : ℕ) (h : 1 ≤ i) where
  starts_next : starts w n row a (i + 1 - 1)
      ≡ choose (eqb (word w (symbol_cell n (atom_at w n row i) 5)) none_end) (starts w n row a (i - 1)) (a + sizes_to w n row i)
  unfolding starts
  starts_next =
      let p : i + 1 - 1 ≡ suc (i - 1) = omega arith in
      let q : i - 1 + 1 ≡ i = omega arith in
      rw p
      (ap
      (λ j. choose (eqb (word w (symbol_cell n (atom_at w n row j) 5)) none_end) (starts w n row a (i - 1)) (a + sizes_to w n row j))
      q)

  pieces_next : pieces w n row a (i + 1 - 1)
      ≡ pieces w n row a (i - 1) ++ piece_by (word w (symbol_cell n (atom_at w n row i) 5)) (starts w n row a (i - 1)) (a + sizes_to w n row i)
  unfolding pieces
  pieces_next =
      let p : i + 1 - 1 ≡ suc (i - 1) = omega arith in
      let q : i - 1 + 1 ≡ i = omega arith in
      rw p
      (ap
      (λ j. pieces w n row a (i - 1) ++ piece_by (word w (symbol_cell n (atom_at w n row j) 5)) (starts w n row a (i - 1)) (a + sizes_to w n row j))
      q)

  sizes_next : sizes_to w n row (i + 1) ≡ sizes_to w n row i + constant_size w n (atom_at w n row i)
  unfolding sizes_to
  sizes_next = sum_from (λ j. constant_size w n (atom_at w n row j)) i h

  variables_next : variables_to w n row (i + 1) ≡ variables_to w n row i + variable_size (word w (symbol_cell n (atom_at w n row i) 5))
  unfolding variables_to
  variables_next = sum_from (λ j. variable_size (word w (symbol_cell n (atom_at w n row j) 5))) i h

pub record InvFragments (w b₀ b : List ℕ) (n row a at : ℕ) (p : Reached) (i : ℕ) : Type 0 where
  pub few : p.at ≤ at + 10 * (i - 1)
  pub high : p.to ≤ a + 16777216 * i
  pub low : p.from ≤ p.to
  pub begins : p.from ≡ starts w n row a (i - 1)
  pub stops : p.to ≡ a + sizes_to w n row i
  pub rare : p.variables ≤ i - 1
  pub counted : p.variables ≡ variables_to w n row i
  pub wrote : Wrote b₀ b at p.at (gather fragment_bytes (pieces w n row a (i - 1)))

pub fragments_begin : (w b : List ℕ) (n row a at : ℕ) → InvFragments w b b n row a at (record { at = at; from = a; to = a; variables = 0 }) 1
unfolding starts sizes_to variables_to sum pieces gather
fragments_begin w b n row a at =
    record {
      few = omega arith;
      high = omega arith;
      low = omega arith;
      begins = refl;
      stops = sym (add-zero a);
      rare = omega arith;
      counted = refl;
      wrote = wrote_none b at;
    }

pub fragments_step : {w b₀ b b' : List ℕ} {n row a at i x : ℕ} {p r : Reached} → InvFragments w b₀ b n row a at p i → 1 ≤ i → x ≡ atom_at w n row i
    → PutSymbol w n b b' p r x → InvFragments w b₀ b' n row a at r (i + 1)
fragments_step {w} {n = n} {row = row} {a = a} {i = i} {x = x} {p = p} {r = r} h o e y =
    let k : ℕ = word w (symbol_cell n (atom_at w n row i) 5) in
    let d : constant_size w n x ≡ constant_size w n (atom_at w n row i) = ap (constant_size w n) e in
    let f : word w (symbol_cell n x 5) ≡ k = ap (λ z. word w (symbol_cell n z 5)) e in
    let s : r.from ≡ choose (eqb k none_end) p.from p.to = y.starts_at ∙ ap (λ z. choose (eqb z none_end) p.from p.to) f in
    record {
      few = omega (arith, h.few, o, y.few);
      high = omega (arith, h.high, y.stops_at, y.size);
      low = split (eqb k none_end)
          (λ q. let z : r.from ≡ p.from = s ∙ rw q in omega (arith, z, h.low, y.stops_at))
          (λ q. let z : r.from ≡ p.to = s ∙ rw q in omega (arith, z, y.stops_at));
      begins = s
          ∙ ap (λ z. choose (eqb k none_end) z p.to) h.begins
          ∙ ap (λ z. choose (eqb k none_end) (starts w n row a (i - 1)) z) h.stops
          ∙ sym (starts_next w n row a i o);
      stops = omega (arith, y.stops_at, d, h.stops, sizes_next w n row a i o);
      rare = omega (arith, h.rare, o, y.counted, one_most (word w (symbol_cell n x 5)));
      counted = omega (arith, y.counted, h.counted, ap variable_size f, variables_next w n row a i o);
      wrote = wrote_as (wrote_then h.wrote y.wrote)
          (ap (gather fragment_bytes) (pieces_next w n row a i o)
          ∙ gather_append fragment_bytes (pieces w n row a (i - 1)) (piece_by k (starts w n row a (i - 1)) (a + sizes_to w n row i))
          ∙ ap (λ z. gather fragment_bytes (pieces w n row a (i - 1)) ++ gather fragment_bytes (piece_by k z (a + sizes_to w n row i))) (sym h.begins)
          ∙ ap (λ z. gather fragment_bytes (pieces w n row a (i - 1)) ++ gather fragment_bytes (piece_by k p.from z)) (sym h.stops)
          ∙ ap (λ z. gather fragment_bytes (pieces w n row a (i - 1)) ++ gather fragment_bytes (piece_by z p.from p.to)) (sym f));
    }

pub fragments_end : {w b₀ b b₁ b₂ : List ℕ} {n row a at i q r : ℕ} {p : Reached} → SomeRow w n row → InvFragments w b₀ b n row a at p i → count_of w row ≡ i
    → (q ≡ p.at + 4) × Wrote b b₁ p.at q (u32 p.from) → (r ≡ q + 4) × Wrote b₁ b₂ q r (u32 p.to)
    → PutFragments w n row a b₀ b₂ at (record { at = r; from = p.from; to = p.to; variables = p.variables })
unfolding spelling
fragments_end g h e x y =
    record {
      few = omega (arith, x.0, y.0, h.few, e, g.words.tokens);
      pooled = record { is = rw e h.stops; few = omega (arith, e, h.high) };
      counted = rw e h.counted;
      wrote = rw e
          (wrote_then h.wrote
          (wrote_then (wrote_as x.1 (ap u32 (sym h.begins))) (wrote_as y.1 (ap u32 (sym h.stops)))));
    }
