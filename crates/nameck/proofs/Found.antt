-- The search along the links: what it comes to is the place in the list of names, and where it ends no name is what it looks for.
-- Assumes nothing.
use mathlib.Core.Path.{◌≡◌, sym, ap, ◌∙◌}
use mathlib.Core.Logic.{◌≢◌, ⊎_elim}
use mathlib.Core.Bool.{true, false}
use mathlib.Core.List.{List}
use Prim.Native.Nat.{ℕ, zero, suc, ◌+◌, ◌-◌, ◌<◌, ◌≤◌}
use native.Mathlib.Nat.{eq-or-lt_of_le, le_of_suc-le-suc, not-suc-le-zero}
use native.Mathlib.Numerals.{add-one}
use native.Mathlib.Omega.{arith}
use Rattle.paper.specs.Base.{sameb}
use Rattle.paper.specs.Variables.{member}
use Rattle.paper.proofs.Tests.{clash, same_refl, ne_same}
use Rattle.area.specs.Cells.{word}
use Rattle.nameck.specs.Links.{hash, head_by, fork, link, way, Linked, Ends, Ended}
use Rattle.std.specs.Prelude.{Some, None}
use Rattle.nameck.specs.Table.{name_at, names_of, found}
use Rattle.nameck.proofs.Search.{none_yet, none_here, found_here, found_none}
use Rattle.nameck.proofs.Links.{at_bucket, leads, place_of}

-- ---- the search for s has come to a cell at depth d; the row + 1 that stands there is r
pub record Walk (w : List ℕ) (n m : ℕ) (x : ℕ → List ℕ) (s : List ℕ) (cell r d : ℕ) : Type 0 where
  pub at : cell ≡ way w n s d
  pub reads : r ≡ word w (way w n s d)
  pub passed : (e : ℕ) → e < d → word w (way w n s e) ≢ 0
  pub other : (e a : ℕ) → e < d → word w (way w n s e) ≡ a + 1 → x a ≡ s → ⊥
  pub deep : r ≢ 0 → d < r
  pub within : r ≤ m

module _ {w : List ℕ} {n m : ℕ} {x : ℕ → List ℕ} (h : Linked w n m x) (some : 0 < n) (s : List ℕ) where
  pub walk_begin : {c r : ℕ} → c ≡ head_by n (hash s) → r ≡ word w c → Walk w n m x s c r 0
  unfolding way
  walk_begin {c} {r} p q =
      let e : r ≡ word w (head_by n (hash s)) = q ∙ ap (word w) p in
      record {
        at = p;
        reads = e;
        passed = λ e l. absurd (not-suc-le-zero l);
        other = λ e a l. absurd (not-suc-le-zero l);
        deep = λ z. omega (arith, z);
        within = rw e (leads h some s (at_bucket n m s some));
      }

  module _ {c r d : ℕ} (k : Walk w n m x s c r d) (z : r ≢ 0) where
    row_few : r - 1 < m
    row_few = omega (arith, k.within, z)

    pub walk_step : {b v : ℕ} → sameb (x (r - 1)) s ≡ false → b ≡ link n (r - 1) (fork s d) → v ≡ word w b → Walk w n m x s b v (d + 1)
    unfolding way
    walk_step {b} {v} f p q =
        let e : b ≡ link n (word w (way w n s d) - 1) (fork s d) = p ∙ ap (λ i. link n (i - 1) (fork s d)) k.reads in
        let g : v ≡ word w (link n (r - 1) (fork s d)) = q ∙ ap (word w) p in
        record {
          at = rw add-one e;
          reads = rw add-one (q ∙ ap (word w) e);
          passed = λ i l. before i (omega arith);
          other = λ i a l. not_here i a (omega arith);
          deep = λ y. omega (arith, k.deep z, h.later (r - 1) (fork s d) row_few (λ o. y (g ∙ o)), g);
          within = rw g (h.links (r - 1) (fork s d) row_few);
        }
      where
        before : (i : ℕ) → i ≤ d → word w (way w n s i) ≢ 0
        before i l =
            ⊎_elim (λ y. rw y (λ o. z (k.reads ∙ o))) (λ y. k.passed i y) (eq-or-lt_of_le l)

        not_here : (i a : ℕ) → i ≤ d → word w (way w n s i) ≡ a + 1 → x a ≡ s → ⊥
        not_here i a l o y =
            ⊎_elim
            (λ u. let g : r ≡ a + 1 = k.reads ∙ ap (λ j. word w (way w n s j)) (sym u) ∙ o in
            let e : r - 1 ≡ a = omega arith in
            clash (sym (same_refl s) ∙ ap (λ j. sameb j s) (sym y) ∙ ap (λ j. sameb (x j) s) (sym e) ∙ f))
            (λ u. k.other i a u o y) (eq-or-lt_of_le l)

    -- words rise along the way
    rises : (e : ℕ) → d < e → ((f : ℕ) → f < e → word w (way w n s f) ≢ 0) → word w (way w n s e) ≢ 0 → r < word w (way w n s e)
    unfolding way
    rises zero l p q = absurd (not-suc-le-zero l)
    rises (suc e) l p q =
        let y : word w (way w n s e) ≢ 0 = p e (omega arith) in
        let g : word w (way w n s e) ≤ m = leads h some s (place_of h some s e (λ f b. p f (omega arith))) in
        let u = h.later (word w (way w n s e) - 1) (fork s e) (omega (arith, y)) q in
        ⊎_elim (λ o. omega (arith, u, k.reads, ap (λ j. word w (way w n s j)) o))
        (λ o. omega (arith, u, rises e o (λ f b. p f (omega arith)) y))
        (eq-or-lt_of_le (le_of_suc-le-suc l))

    -- a name equal to s stands in this row or later
    none_before : (b : ℕ) → b < r - 1 → x b ≡ s → ⊥
    none_before b l q =
        let g : b < m = omega (arith, k.within) in
        let c : word w (way w n s (h.depth b)) ≡ b + 1 = ap (λ y. word w (way w n y (h.depth b))) (sym q) ∙ h.comes b g in
        let p : h.depth b < d → ⊥ = λ f. k.other (h.depth b) b f c q in
        let u : d < h.depth b → ⊥ =
        λ f. omega (
          arith,
          c,
          rises (h.depth b) f (λ e o. ap_passes b g q e o) (λ o. omega (arith, c, o)),
        ) in
        let e : h.depth b ≡ d = omega (arith, p, u) in
        omega (arith, c, k.reads, ap (λ j. word w (way w n s j)) e)
      where
        ap_passes : (b : ℕ) → b < m → x b ≡ s → (e : ℕ) → e < h.depth b → word w (way w n s e) ≢ 0
        ap_passes b g q e o = rw q at (h.passes b e g o)

  module _ {c r d : ℕ} (k : Walk w n m x s c r d) (z : r ≡ 0) where
    pub walk_ends : Ends w n s d
    walk_ends = record { empty = sym k.reads ∙ z; passed = k.passed }

    -- where the search for s ends, no name is s
    nowhere : (a : ℕ) → a < m → x a ≡ s → ⊥
    nowhere a g q =
        let c : word w (way w n s (h.depth a)) ≡ a + 1 = ap (λ y. word w (way w n y (h.depth a))) (sym q) ∙ h.comes a g in
        let p : d < h.depth a → ⊥ = λ l. h.passes a d g l (ap (λ y. word w (way w n y d)) q ∙ walk_ends.empty) in
        let u : h.depth a < d → ⊥ = λ l. k.other (h.depth a) a l c q in
        let e : h.depth a ≡ d = omega (arith, p, u) in
        omega (arith, c, ap (λ j. word w (way w n s j)) e, walk_ends.empty)

-- ---- and so in the list of names
none_of : (t w : List ℕ) (n k : ℕ) (s : List ℕ) → ((a : ℕ) → a < k → name_at t w n a ≡ s → ⊥) → member s (names_of t w n k) ≡ false
none_of t w n zero s f = none_yet t w n s
none_of t w n (suc k) s f =
    rw (← (add-one k))
    (none_here t w n s k (none_of t w n k s (λ a l. f a (omega arith))) (ne_same (name_at t w n k) s (f k (omega arith))))

module _ (t : List ℕ) {w : List ℕ} {n m : ℕ} (h : Linked w n m (name_at t w n)) (some : 0 < n) {s : List ℕ} {c r d : ℕ} (k : Walk w n m (name_at t w n) s c r d) where
  pub walk_found : r ≢ 0 → sameb (name_at t w n (r - 1)) s ≡ true → found (names_of t w n m) s ≡ Some (r - 1)
  walk_found z e =
      found_here t w n s m (r - 1) (omega (arith, k.within, z)) (none_of t w n (r - 1) s (none_before h some s k z)) e

  pub walk_none : r ≡ 0 → found (names_of t w n m) s ≡ None
  walk_none z = found_none t w n s m (none_of t w n m s (nowhere h some s k z))

  pub walk_ended : r ≡ 0 → Ended w n s c
  walk_ended z = record { depth = d; ends = walk_ends h some s k z; at = k.at }
