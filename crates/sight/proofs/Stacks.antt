-- The walk over the rows on a stack, and the walk that takes the numbers away.
-- Assumes nothing.
use mathlib.Core.Path.{◌≡◌, refl, sym, ap, ◌∙◌}
use mathlib.Core.Logic.{◌≢◌}
use mathlib.Core.Bool.{true, false}
use mathlib.Core.List.{List, [], ◌∷◌, ◌++◌}
use Prim.Native.Nat.{ℕ, zero, suc, ◌+◌, ◌*◌, ◌<◌, ◌≤◌}
use native.Mathlib.Omega.{arith}
use native.Mathlib.Numerals.{add-one}
use lib.Dec.{eqb, ltb, leb}
use lib.ListN.{length, get_or, drop, set, length-append, length-set, get_or-append}
use lib.Seq.{get_or-append-add}
use borrow.Author.Tests.{eqb-true, ltb-true, ltb-false, le-leb, lt-leb, leb-true, leb-false}
use Rattle.paper.specs.Base.{choose, and, any}
use Rattle.paper.specs.Statements.{Statement, none_end}
use Rattle.paper.specs.Variables.{member, index}
use Rattle.paper.proofs.Tests.{split, eqb_ne}
use Rattle.paper.proofs.Names.{index_lt, index_at}
use Rattle.area.specs.Cells.{statement_cell, bucket_cell, symbol_cell, word}
use Rattle.area.proofs.Laws.{word_same, word_other}
use Rattle.reader.specs.Rows.{stmt}
use Rattle.nameck.specs.Atoms.{atoms, atom_of, name_of}
use Rattle.nameck.proofs.Atoms.{atom_below, atom_of_name, name_of_atom}
use Rattle.nameck.proofs.Kept.{named_kept}
use Rattle.sight.specs.Static.{stack, constant_name}
use Rattle.sight.specs.Sums.{one}
use Rattle.sight.specs.Numbered.{number_word, Renumbered, scanned, scanned_rows, Holds, SomeHold, CanScan, Scans, CanScanAll, ScansAll, Forgets}
use Rattle.sight.proofs.Sums.{sum_zero}
use Rattle.sight.proofs.Numbering.{few, renumbered_none, renumbered_then}
use Rattle.sight.proofs.Walks.{kept_renumbered, Bounds}

-- ---- stacks
pub stack_length : (w : List ℕ) (c d : ℕ) → length (stack w c d) ≡ d
unfolding stack
stack_length w c zero = refl
stack_length w c (suc d) = omega (arith, length-append (stack w c d) (word w (statement_cell d c) ∷ []), stack_length w c d)

pub stack_at : (w : List ℕ) (c d j : ℕ) → j < d → get_or (stack w c d) j 0 ≡ word w (statement_cell j c)
unfolding stack
stack_at w c zero j h = absurd (omega arith)
stack_at w c (suc d) j h =
    split (ltb j d)
    (λ q.
    let k : j < d = ltb-true j d q in
    get_or-append (stack w c d) (word w (statement_cell d c) ∷ []) 0 j (omega (arith, stack_length w c d)) ∙ stack_at w c d j k)
    (λ q.
    let e : j ≡ length (stack w c d) + 0 = omega (arith, ltb-false j d q, stack_length w c d) in
    let f : j ≡ d = omega (arith, ltb-false j d q) in
    ap (λ i. get_or (stack w c d ++ (word w (statement_cell d c) ∷ [])) i 0) e
    ∙ get_or-append-add (stack w c d) (word w (statement_cell d c) ∷ []) 0 0
    ∙ ap (λ i. word w (statement_cell i c)) (sym f))

rows_last :
    (l : List Statement) (i : ℕ) (h : List ℕ) (r : ℕ) (vs : List (List ℕ))
    → scanned_rows l i (h ++ (r ∷ [])) vs ≡ scanned l (drop i (stmt l r).math) (scanned_rows l i h vs)
unfolding scanned_rows
rows_last l i [] r vs = refl
rows_last l i (q ∷ h) r vs = rows_last l i h r (scanned l (drop i (stmt l q).math) vs)

rows_more :
    (l : List Statement) (i : ℕ) (w : List ℕ) (c j : ℕ) (vs : List (List ℕ))
    → scanned_rows l i (stack w c (j + 1)) vs ≡ scanned l (drop i (stmt l (word w (statement_cell j c))).math) (scanned_rows l i (stack w c j) vs)
unfolding stack
rows_more l i w c j vs = rw (add-one j) (rows_last l i (stack w c j) (word w (statement_cell j c)) vs)

-- ---- the walk over the rows
pub record InvAll (w₀ w : List ℕ) (n k v c d i j : ℕ) : Type 0 where
  pub kept : Renumbered n w₀ w
  pub upto : j ≤ d
  pub sim :
      (t : List ℕ) (l : List Statement) (vs : List (List ℕ)) → Holds t w₀ n l vs k
      → ((j : ℕ) → j < d → get_or (stack w₀ c d) j 0 < length l)
      → Holds t w n l (scanned_rows l i (stack w₀ c j) vs) v

pub all_start : (w : List ℕ) (n k c d i : ℕ) → InvAll w w n k k c d i 0
unfolding scanned_rows stack
all_start w n k c d i = record { kept = renumbered_none n w; upto = omega arith; sim = λ t l vs h rows. h }

-- the row on top of the first j
pub all_row :
    {w₀ w : List ℕ} {n k v c d i j : ℕ} → InvAll w₀ w n k v c d i j → CanScanAll w₀ n k c d i → j < d
    → word w (statement_cell j c) ≡ word w₀ (statement_cell j c)
all_row {w₀} {w} {n} {k} {v} {c} {d} {i} {j} x can h =
    x.kept.low (statement_cell j c) (omega (arith, can.some.holds.named.shape.few, can.depth, can.column))

pub all_can :
    {w₀ w : List ℕ} {n k v c d i j : ℕ} → InvAll w₀ w n k v c d i j → CanScanAll w₀ n k c d i → j < d
    → CanScan w n v (word w (statement_cell j c)) i
all_can {w₀} {w} {n} {k} {v} {c} {d} {i} {j} x can h =
    record {
      some =
          record {
            t = can.some.t;
            l = can.some.l;
            vs = scanned_rows can.some.l i (stack w₀ c j) can.some.vs;
            holds = x.sim can.some.t can.some.l can.some.vs can.some.holds can.rows;
          };
      here = rw (all_row x can h, ← stack_at w₀ c d j h) (can.rows j h);
      first = can.first;
    }

pub all_step :
    {w₀ w u : List ℕ} {n k v r c d i j row : ℕ} → InvAll w₀ w n k v c d i j → CanScanAll w₀ n k c d i → j < d
    → row ≡ word w (statement_cell j c) → Scans w u n v r row i → InvAll w₀ u n k r c d i (j + 1)
all_step {w₀} {w} {u} {n} {k} {v} {r} {c} {d} {i} {j} {row} x can h e y =
    record {
      kept = renumbered_then x.kept y.kept;
      upto = omega arith;
      sim = λ t l vs z rows.
          let q : row ≡ word w₀ (statement_cell j c) = e ∙ all_row x can h in
          rw (rows_more l i w₀ c j vs, ← q)
          (y.sim t l (scanned_rows l i (stack w₀ c j) vs) (x.sim t l vs z rows) (rw (q, ← stack_at w₀ c d j h) (rows j h)));
    }

pub all_end : {w₀ w : List ℕ} {n k v c d i j : ℕ} → InvAll w₀ w n k v c d i j → d ≤ j → ScansAll w₀ w n k v c d i
all_end {w₀} {w} {n} {k} {v} {c} {d} {i} {j} x h =
    let e : j ≡ d = omega (arith, x.upto) in
    record { kept = x.kept; sim = λ t l vs z rows. rw e at (x.sim t l vs z rows) }

pub all_bounds :
    {w₀ w : List ℕ} {n k v c d i j : ℕ} → InvAll w₀ w n k v c d i j → CanScanAll w₀ n k c d i → j < d → Bounds w n j
all_bounds x can h =
    record {
      row_fits = omega (arith, can.some.holds.named.shape.few, can.depth);
      room = omega (arith, can.some.holds.named.shape.room, x.kept.len);
      small = can.some.holds.small;
    }

-- ---- the numbers taken away, from the first on
-- the number word of a name once the first k are taken away
unfoldable pub fading : List Statement → List (List ℕ) → ℕ → List ℕ → ℕ
fading l vs k x = choose (constant_name l x) none_end (choose (and (member x vs) (leb k (index vs x))) (index vs x + 1) 0)

pub record InvForget (w₀ w : List ℕ) (n m k : ℕ) : Type 0 where
  pub kept : Renumbered n w₀ w
  pub upto : k ≤ m
  pub buckets : (i : ℕ) → i < n → word w (bucket_cell n i) ≡ word w₀ (bucket_cell n i)
  pub sim :
      (t : List ℕ) (l : List Statement) (vs : List (List ℕ)) → Holds t w₀ n l vs m
      → (a : ℕ) → a < length (atoms l) → word w (symbol_cell n a 5) ≡ fading l vs k (name_of l a)

fading_none : (l : List Statement) (vs : List (List ℕ)) (x : List ℕ) → number_word l vs x ≡ fading l vs 0 x
unfolding number_word fading
fading_none l vs x = rw (le-leb 0 (index vs x) (omega arith)) (split (member x vs) (λ e. rw e) (λ e. rw e))

fading_here : (l : List Statement) (vs : List (List ℕ)) (k : ℕ) (x : List ℕ) → constant_name l x ≡ false → index vs x ≡ k → 0 ≡ fading l vs (k + 1) x
unfolding fading
fading_here l vs k x c e = rw (c, lt-leb (k + 1) (index vs x) (omega (arith, e))) (split (member x vs) (λ q. rw q) (λ q. rw q))

fading_there : (l : List Statement) (vs : List (List ℕ)) (k : ℕ) (x : List ℕ) → (member x vs ≡ true → index vs x ≡ k → ⊥) → fading l vs k x ≡ fading l vs (k + 1) x
unfolding fading
fading_there l vs k x h =
    split (member x vs)
    (λ e.
    split (leb k (index vs x))
    (λ q.
    let z : k ≤ index vs x = leb-true k (index vs x) q in
    rw (e, q, le-leb (k + 1) (index vs x) (omega (arith, z, h e))))
    (λ q. let z : index vs x < k = leb-false k (index vs x) q in rw (e, q, lt-leb (k + 1) (index vs x) (omega (arith, z)))))
    (λ e. rw e)

fading_all : (l : List Statement) (vs : List (List ℕ)) (x : List ℕ) → fading l vs (length vs) x ≡ number_word l [] x
unfolding number_word fading any
fading_all l vs x =
    split (member x vs) (λ e. rw (e, lt-leb (length vs) (index vs x) (index_lt x vs e))) (λ e. rw e)

pub forget_start : (w : List ℕ) (n m : ℕ) → InvForget w w n m 0
forget_start w n m =
    record {
      kept = renumbered_none n w;
      upto = omega arith;
      buckets = λ i h. refl;
      sim = λ t l vs h a k. h.numbered.number a k ∙ fading_none l vs (name_of l a);
    }

-- the atom in bucket k
pub record Bucket (w : List ℕ) (n k a : ℕ) : Type 0 where
  pub room : 16 * n ≤ length w
  pub small : n ≤ 16777217
  pub fits : k < n
  pub below : a < n

pub forget_within : {w₀ w : List ℕ} {n m k : ℕ} → InvForget w₀ w n m k → SomeHold w₀ n m → k < m → Bucket w n k (word w (bucket_cell n k))
forget_within {w₀} {w} {n} {m} {k} x some h =
    let y = some.holds in
    let f : k < length some.vs = omega (arith, y.count) in
    let g : k < n = omega (arith, few y.numbered, y.named.few) in
    record {
      room = omega (arith, y.named.shape.room, x.kept.len);
      small = y.small;
      fits = g;
      below = rw (x.buckets k g, (y.numbered.entry k f).bucket)
          (omega (arith, atom_below some.l _ (y.numbered.entry k f).occurs, y.named.few));
    }

pub forget_step :
    {w₀ w : List ℕ} {n m k a i : ℕ} → InvForget w₀ w n m k → SomeHold w₀ n m → k < m → a ≡ word w (bucket_cell n k)
    → i ≡ symbol_cell n a 5 → InvForget w₀ (set w i 0) n m (k + 1)
forget_step {w₀} {w} {n} {m} {k} {a} {i} x some h e f =
    rw f
    (record {
      kept = renumbered_then x.kept step;
      upto = omega arith;
      buckets = λ j q. word_other w (symbol_cell n a 5) (bucket_cell n j) 0 (λ z. omega (arith, z, q)) ∙ x.buckets j q;
      sim = faded;
    })
  where
    b : Bucket w n k (word w (bucket_cell n k))
    b = forget_within x some h

    step : Renumbered n w (set w (symbol_cell n a 5) 0)
    step =
        record {
          len = length-set w (symbol_cell n a 5) 0;
          low = λ j q. word_other w (symbol_cell n a 5) j 0 (λ z. omega (arith, z, q));
          symbols = λ c d p q. word_other w (symbol_cell n a 5) (symbol_cell n c d) 0 (λ z. omega (arith, z, q));
          marks = λ c p. word_other w (symbol_cell n a 5) (symbol_cell n c 6) 0 (λ z. omega (arith, z));
          high = λ j q. word_other w (symbol_cell n a 5) j 0 (λ z. omega (arith, z, q, e, b.below));
        }

    faded :
        (t : List ℕ) (l : List Statement) (vs : List (List ℕ)) → Holds t w₀ n l vs m
        → (c : ℕ) → c < length (atoms l) → word (set w (symbol_cell n a 5) 0) (symbol_cell n c 5) ≡ fading l vs (k + 1) (name_of l c)
    faded t l vs y c q =
        let g : k < length vs = omega (arith, y.count) in
        let p : a ≡ atom_of l (get_or vs k []) = e ∙ x.buckets k b.fits ∙ (y.numbered.entry k g).bucket in
        split (eqb c a)
        (λ d.
        let u : c ≡ a = eqb-true c a d in
        let v : name_of l c ≡ get_or vs k [] = ap (name_of l) (u ∙ p) ∙ name_of_atom l _ (y.numbered.entry k g).occurs in
        ap (λ j. word (set w (symbol_cell n a 5) 0) (symbol_cell n j 5)) u
        ∙ word_same w (symbol_cell n a 5) 0 (omega (arith, e, b.below, b.room))
        ∙ rw v (fading_here l vs k (get_or vs k []) (y.numbered.entry k g).variable (y.numbered.place k g)))
        (λ d.
        let u : c ≢ a = eqb_ne d in
        word_other w (symbol_cell n a 5) (symbol_cell n c 5) 0 (λ z. u (omega (arith, z)))
        ∙ x.sim t l vs y c q
        ∙ fading_there l vs k (name_of l c)
        (λ r s. u (sym (atom_of_name l c q) ∙ ap (atom_of l) (sym (index_at (name_of l c) vs r) ∙ ap (λ j. get_or vs j []) s) ∙ sym p)))

pub forget_end : {w₀ w : List ℕ} {n m k : ℕ} → InvForget w₀ w n m k → m ≤ k → Forgets w₀ w n m
unfolding any
forget_end {w₀} {w} {n} {m} {k} x h =
    record {
      kept = x.kept;
      sim = λ t l vs y.
          record {
            named = named_kept (kept_renumbered x.kept) y.named;
            small = y.small;
            numbered =
                record {
                  entry = λ j q. absurd (omega (arith, q));
                  place = λ j q. absurd (omega (arith, q));
                  number = λ a q.
                      let z : k ≡ length vs = omega (arith, x.upto, y.count) in
                      x.sim t l vs y a q ∙ rw z (fading_all l vs (name_of l a));
                  counted = sym (sum_zero (λ a. one (member (name_of l a) [])) (length (atoms l)) (λ i q. refl));
                };
            count = refl;
          };
    }
