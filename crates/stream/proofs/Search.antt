-- The walk over a frame stream, record by record: the framing is the definition's, and the answer so far with that of
-- the records to come is the definition's answer.
use mathlib.Core.Path.{◌≡◌, refl, sym, ap, ◌∙◌}
use mathlib.Core.Bool.{Bool, true, false}
use mathlib.Core.List.{List, [], ◌∷◌}
use mathlib.Core.Option.{Option, none, some}
use Prim.Native.Nat.{ℕ, zero, suc, ◌+◌, ◌-◌, ◌<◌, ◌≤◌}
use native.Mathlib.Nat.{add-zero, not-suc-le-zero}
use native.Mathlib.Omega.{arith}
use lib.Dec.{eqb, ltb}
use lib.ListN.{length, take, drop, length-drop, drop_of_length-le}
use lib.Seq.{drop-nil, drop-drop, get_or-drop}
use borrow.Author.Tests.{lt-ltb, ltb-true, ltb-false}
use Rattle.std.specs.declared.option.Option as declared
use Rattle.std.specs.Prelude.{Some, None, Ok, Err}
use Rattle.std.proofs.lemmas.Option.{none-some}
use Rattle.paper.specs.Base.{choose, not, sameb}
use Rattle.paper.specs.Lookup.{Found, u16_at, u32_at, label_place, stub_at, stub_after, stub_if, label_at, label_of, first_of, search_from, look_up}
use Rattle.paper.specs.declared.Malformed.{Malformed}
use Rattle.paper.proofs.Tests.{split}
use Rattle.stream.proofs.Past.{past}
use Rattle.stream.specs.Framing.{label_from, label_by, label_in, framing, kept}
use Rattle.stream.specs.declared.walk.Record.{Record}

-- ---- numbers after a place
u16_drop : (l : List ℕ) (at i : ℕ) → u16_at (drop at l) i ≡ u16_at l (at + i)
unfolding u16_at
u16_drop l at i =
    let e : at + (i + 1) ≡ (at + i) + 1 = omega arith in
    rw (get_or-drop at l i 0, get_or-drop at l (i + 1) 0, e)

pub u32_drop : (l : List ℕ) (at i : ℕ) → u32_at (drop at l) i ≡ u32_at l (at + i)
unfolding u32_at
u32_drop l at i =
    let e : at + (i + 2) ≡ (at + i) + 2 = omega arith in
    rw (u16_drop l at i, u16_drop l at (i + 2), e)

-- two tests that say the same
same_test : (a b c d : ℕ) → (a < b → c < d) → (c < d → a < b) → ltb a b ≡ ltb c d
same_test a b c d f g =
    split (ltb c d)
    (λ q. lt-ltb a b (g (ltb-true c d q)) ∙ sym q)
    (λ q.
    split (ltb a b)
    (λ p. let h : c < d = f (ltb-true a b p) in absurd (omega (arith, ltb-false c d q)))
    (λ p. p ∙ sym q))

-- ---- the label of the record that stands at a place
abbrev label_there : List ℕ → declared.Option Record → Option (List ℕ)
label_there l (Some r) = some (take (r.stop - r.label) (drop r.label l))
label_there l None = none

there : (l : List ℕ) (t : Bool) (x : declared.Option Record) → label_there l (choose t None x) ≡ choose t none (label_there l x)
there l true x = refl
there l false x = refl

under : (t s : Bool) (x y : Option (List ℕ)) → t ≡ s → x ≡ y → choose t none x ≡ choose s none y
under t s x y p q = rw (p, q)

-- ---- what a record of kind 1 needs after its label
under_false : (t s : Bool) (x y : Bool) → t ≡ s → x ≡ y → choose t false x ≡ choose s false y
under_false t s x y p q = rw (p, q)

module _ (l : List ℕ) (at n i : ℕ) where
  over : (k : ℕ) → ltb n (i + k) ≡ ltb (at + n) ((at + i) + k)
  over k = same_test n (i + k) (at + n) ((at + i) + k) (λ h. omega arith) (λ h. omega arith)

  further : ltb n ((i + 4) + u32_at (drop at l) i) ≡ ltb (at + n) (((at + i) + 4) + u32_at l (at + i))
  further =
      let w = u32_at l (at + i) in
      rw (u32_drop l at i)
      (same_test n ((i + 4) + w) (at + n) (((at + i) + 4) + w) (λ h. omega arith) (λ h. omega arith))

  stub_at_drop : stub_at (drop at l) i n ≡ stub_at l (at + i) (at + n)
  unfolding stub_at
  stub_at_drop =
      let j : at + (i + 4) ≡ (at + i) + 4 = omega arith in
      let d : drop (i + 4) (drop at l) ≡ drop ((at + i) + 4) l = drop-drop (i + 4) at l ∙ ap (λ (m : ℕ). drop m l) j in
      under_false _ _ _ _ (over 4) (under_false _ _ _ _ further (rw (u32_drop l at i, d)))

stub_after_drop : (l : List ℕ) (at n i : ℕ) → stub_after (drop at l) i n ≡ stub_after l (at + i) (at + n)
unfolding stub_after
stub_after_drop l at n i =
    let j : at + ((i + 4) + u32_at l (at + i)) ≡ ((at + i) + 4) + u32_at l (at + i) = omega arith in
    under_false _ _ _ _ (over l at n i 4)
    (under_false _ _ _ _ (further l at n i) (rw (u32_drop l at i) (stub_at_drop l at n ((i + 4) + u32_at l (at + i)) ∙ rw j)))

stub_if_drop : (l : List ℕ) (k at n i : ℕ) → stub_if k (drop at l) i n ≡ stub_if k l (at + i) (at + n)
unfolding stub_if
stub_if_drop l k at n i = rw (stub_after_drop l at n i)

label_same : (l : List ℕ) (at k u p : ℕ) → p ≡ label_place k → label_at (drop at l) k p (4 + u) ≡ label_there l (label_in l at k ((at + 4) + u))
unfolding label_in label_by label_from
label_same l at k u p e =
    let w = u32_at l (at + p) in
    let v : u32_at (drop at l) p ≡ w = u32_drop l at p in
    let d : drop (p + 4) (drop at l) ≡ drop ((at + p) + 4) l =
    drop-drop (p + 4) at l ∙ ap (λ (i : ℕ). drop i l) (index at p) in
    let m : (((at + p) + 4) + w) - ((at + p) + 4) ≡ w = omega arith in
    let t : stub_if k (drop at l) ((p + 4) + w) (4 + u) ≡ stub_if k l (((at + p) + 4) + w) ((at + 4) + u) =
    stub_if_drop l k at (4 + u) ((p + 4) + w) ∙ rw (behind at p w, after at u) in
    rw (v, d, ← e)
    (under (eqb p 0) (eqb p 0) _ _ refl
    (under (ltb (4 + u) (p + 4)) (ltb ((at + 4) + u) ((at + p) + 4)) _ _ (same_test (4 + u) (p + 4) ((at + 4) + u) ((at + p) + 4) (λ h. omega arith) (λ h. omega arith))
    (under (ltb (4 + u) ((p + 4) + w)) (ltb ((at + 4) + u) (((at + p) + 4) + w)) _ _ (same_test (4 + u) ((p + 4) + w) ((at + 4) + u) (((at + p) + 4) + w) (λ h. omega arith) (λ h. omega arith))
    (under (not (stub_if k (drop at l) ((p + 4) + w) (4 + u))) (not (stub_if k l (((at + p) + 4) + w) ((at + 4) + u))) _ _ (ap not t) (rw m))))
    ∙ sym
    (there l (eqb p 0) _
    ∙ ap (choose (eqb p 0) none)
    (there l (ltb ((at + 4) + u) ((at + p) + 4)) _
    ∙ ap (choose (ltb ((at + 4) + u) ((at + p) + 4)) none)
    (there l (ltb ((at + 4) + u) (((at + p) + 4) + w)) _
    ∙ ap (choose (ltb ((at + 4) + u) (((at + p) + 4) + w)) none) (there l (not (stub_if k l (((at + p) + 4) + w) ((at + 4) + u))) _)))))
  where
    index : (at p : ℕ) → at + (p + 4) ≡ (at + p) + 4
    index at p = omega arith

    behind : (at p w : ℕ) → at + ((p + 4) + w) ≡ ((at + p) + 4) + w
    behind at p w = omega arith

    after : (at u : ℕ) → at + (4 + u) ≡ (at + 4) + u
    after at u = omega arith

label_framing : (l : List ℕ) (at : ℕ) → at ≤ length l → label_of (drop at l) ≡ label_there l (framing l at)
unfolding label_of framing
label_framing l at h =
    let u = u32_at l at in
    let n = length l in
    let z : at + 0 ≡ at = omega arith in
    let e : u32_at (drop at l) 0 ≡ u = u32_drop l at 0 ∙ ap (u32_at l) z in
    let k : u16_at (drop at l) 4 ≡ u16_at l (at + 4) = u16_drop l at 4 in
    rw (e, k, length-drop at l)
    (under (ltb (n - at) 4) (ltb n (at + 4)) _ _ (same_test (n - at) 4 n (at + 4) (λ g. omega arith) (λ g. omega arith))
    (under (ltb u 2) (ltb u 2) _ _ refl
    (under (ltb (n - at) (4 + u)) (ltb n ((at + 4) + u)) _ _ (same_test (n - at) (4 + u) n ((at + 4) + u) (λ g. omega arith) (λ g. omega arith))
    (label_same l at (u16_at l (at + 4)) u (label_place (u16_at l (at + 4))) refl)))
    ∙ sym
    (there l (ltb n (at + 4)) _
    ∙ ap (choose (ltb n (at + 4)) none)
    (there l (ltb u 2) _ ∙ ap (choose (ltb u 2) none) (there l (ltb n ((at + 4) + u)) _))))

-- ---- what a well framed record says
pub record Stands (l : List ℕ) (at : ℕ) (r : Record) : Type 0 where
  pub after : r.after ≡ (at + 4) + u32_at l at
  pub size : 2 ≤ u32_at l at
  pub within : r.after ≤ length l
  pub label : r.label ≤ r.stop
  pub stop : r.stop ≤ r.after
  pub kind : r.kind ≡ u16_at l (at + 4)

pub stands : (l : List ℕ) (at : ℕ) (r : Record) → framing l at ≡ Some r → Stands l at r
unfolding framing label_in label_by label_from
stands l at r e =
    let n = length l in
    let u = u32_at l at in
    let k = u16_at l (at + 4) in
    let p = at + label_place k in
    let w = u32_at l p in
    let a = past (ltb n (at + 4)) _ _ _ (none-some r) e in
    let b = past (ltb u 2) _ _ _ (none-some r) a.rest in
    let c = past (ltb n ((at + 4) + u)) _ _ _ (none-some r) b.rest in
    let d = past (eqb (label_place k) 0) _ _ _ (none-some r) c.rest in
    let f = past (ltb ((at + 4) + u) (p + 4)) _ _ _ (none-some r) d.rest in
    let g = past (ltb ((at + 4) + u) ((p + 4) + w)) _ _ _ (none-some r) f.rest in
    let x = past (not (stub_if k l ((p + 4) + w) ((at + 4) + u))) _ _ _ (none-some r) g.rest in
    let q : r.after ≡ (at + 4) + u = cc in
    let s : r.label ≡ p + 4 = cc in
    let t : r.stop ≡ (p + 4) + w = cc in
    let i : r.kind ≡ k = cc in
    record {
      after = q;
      size = ltb-false u 2 b.test;
      within = omega (arith, ltb-false n ((at + 4) + u) c.test);
      label = omega arith;
      stop = omega (arith, ltb-false ((at + 4) + u) ((p + 4) + w) g.test);
      kind = i;
    }

-- ---- one record of the walk
search_skip : (n l : List ℕ) (o k : ℕ) → search_from n l o k ≡ search_from n (drop k l) (o + k) 0
unfolding search_from
search_skip n [] o k = rw (drop-nil {A = ℕ} k)
search_skip n (b ∷ l) o zero = rw (add-zero o)
search_skip n (b ∷ l) o (suc k) = let e : o + suc k ≡ suc o + k = omega arith in rw e (search_skip n l (suc o) k)

search_cons : (n l : List ℕ) (o : ℕ) → 0 < length l
    → search_from n l o 0 ≡ first_of (label_of l) n o (search_from n (drop 1 l) (suc o) (3 + u32_at l 0))
unfolding search_from
search_cons n [] o h = absurd (not-suc-le-zero h)
search_cons n (b ∷ l) o h = refl

unfoldable pub rest_of : List ℕ → List ℕ → ℕ → Found
rest_of n l at = search_from n (drop at l) at 0

rest_step : (n l : List ℕ) (at : ℕ) → at < length l → rest_of n l at ≡ first_of (label_there l (framing l at)) n at (rest_of n l ((at + 4) + u32_at l at))
unfolding rest_of
rest_step n l at h =
    let u = u32_at l at in
    let z : at + 0 ≡ at = omega arith in
    let e : u32_at (drop at l) 0 ≡ u = u32_drop l at 0 ∙ ap (u32_at l) z in
    let i : suc at + (3 + u) ≡ (at + 4) + u = omega arith in
    let j : (at + 1) + (3 + u) ≡ (at + 4) + u = omega arith in
    let d : drop (3 + u) (drop 1 (drop at l)) ≡ drop ((at + 4) + u) l =
    ap (drop (3 + u)) (drop-drop 1 at l) ∙ drop-drop (3 + u) (at + 1) l ∙ ap (λ (m : ℕ). drop m l) j in
    search_cons n (drop at l) at (simp length-drop (omega arith))
    ∙ rw (e, label_framing l at (omega arith), search_skip n (drop 1 (drop at l)) (suc at) (3 + u), i, d)

-- ---- the record found so far, with the answer of the records to come
abbrev joined : declared.Option ℕ → Found → Found
joined None r = r
joined (Some p) (Ok r) = Ok (Some p)
joined (Some p) (Err e) = Err e

joined_none : (f : declared.Option ℕ) → joined f (Ok None) ≡ Ok f
joined_none (Some p) = refl
joined_none None = refl

joined_bad : (f : declared.Option ℕ) (e : Malformed) → joined f (Err e) ≡ Err e
joined_bad (Some p) e = refl
joined_bad None e = refl

joined_first : (f : declared.Option ℕ) (m n : List ℕ) (o : ℕ) (r : Found) → joined f (first_of (some m) n o r) ≡ joined (kept f (sameb m n) o) r
joined_first f m n o r = by_test f (sameb m n) r refl
  where
    by_test : (f : declared.Option ℕ) (t : Bool) (r : Found) → sameb m n ≡ t → joined f (first_of (some m) n o r) ≡ joined (kept f t o) r
    by_test (Some p) true (Ok (Some q)) e = rw e
    by_test (Some p) true (Ok None) e = rw e
    by_test (Some p) true (Err x) e = refl
    by_test (Some p) false (Ok (Some q)) e = rw e
    by_test (Some p) false (Ok None) e = rw e
    by_test (Some p) false (Err x) e = refl
    by_test None true (Ok (Some q)) e = rw e
    by_test None true (Ok None) e = rw e
    by_test None true (Err x) e = refl
    by_test None false (Ok (Some q)) e = rw e
    by_test None false (Ok None) e = rw e
    by_test None false (Err x) e = refl

-- the walk has come to a place, with the record found so far
pub record Walked (f n : List ℕ) (x : declared.Option ℕ) (at : ℕ) : Type 0 where
  pub within : at ≤ length f
  pub same : joined x (rest_of n f at) ≡ look_up f n

pub walk_start : (f n : List ℕ) → Walked f n None 0
unfolding rest_of look_up
walk_start f n = record { within = omega arith; same = refl }

pub walk_bad : {f n : List ℕ} {x : declared.Option ℕ} {at : ℕ} → Walked f n x at → at < length f → framing f at ≡ None → Err (record { 0 = at }) ≡ look_up f n
walk_bad {f} {n} {x} {at} w h e =
    let r : rest_of n f at ≡ Err (record { 0 = at }) = rest_step n f at h ∙ rw e in
    sym (joined_bad x (record { 0 = at })) ∙ ap (joined x) (sym r) ∙ w.same

pub walk_step : {f n : List ℕ} {x y : declared.Option ℕ} {at : ℕ} {r : Record} → Walked f n x at → at < length f → framing f at ≡ Some r
    → y ≡ kept x (sameb (take (r.stop - r.label) (drop r.label f)) n) at → Walked f n y r.after
walk_step {f} {n} {x} {y} {at} {r} w h e k =
    let s = stands f at r e in
    let m = take (r.stop - r.label) (drop r.label f) in
    let q : rest_of n f at ≡ first_of (some m) n at (rest_of n f r.after) = rest_step n f at h ∙ rw (e, s.after) in
    record {
      within = s.within;
      same = rw k (sym (joined_first x m n at (rest_of n f r.after)) ∙ ap (joined x) (sym q) ∙ w.same);
    }

pub walk_end : {f n : List ℕ} {x : declared.Option ℕ} {at : ℕ} → Walked f n x at → length f ≤ at → Ok x ≡ look_up f n
unfolding rest_of search_from
walk_end {f} {n} {x} {at} w h =
    sym (joined_none x) ∙ ap (joined x) (sym (rw (drop_of_length-le f h))) ∙ w.same
