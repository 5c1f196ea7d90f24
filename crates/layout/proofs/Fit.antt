-- A record fits exactly when the parts of its payload end where it does.
-- For the function that answers the place after a record.
use mathlib.Core.Path.{◌≡◌, refl, sym, ap, ◌∙◌}
use mathlib.Core.Bool.{Bool, true, false}
use mathlib.Core.List.{List, [], ◌∷◌, ◌++◌}
use Prim.Native.Nat.{ℕ, ◌+◌, ◌-◌, ◌<◌, ◌≤◌}
use native.Mathlib.Omega.{arith}
use lib.Dec.{eqb, ltb}
use lib.ListN.{length, get_or, take, drop, length-take, length-drop}
use lib.Seq.{get_or-drop, get_or-take}
use borrow.Author.Tests.{lt-ltb, le-ltb, eq-eqb, ne_eqb, ltb-true, ltb-false}
use Rattle.paper.specs.Base.{or}
use Rattle.paper.specs.Lookup.{u16_at, u32_at}
use Rattle.paper.specs.Layout.{Cut, short, cut, with_parts, then, a_string, a_stub, finished, float_head, float_shape, label_part, names_part, hypotheses_part, back_parts, with_back, with_hyps, with_names, assertion_shape, shape_of, record_shape, is_some, fits}
use Rattle.paper.proofs.Tests.{split}
use Rattle.std.specs.Prelude.{Some, None}
use Rattle.std.proofs.lemmas.Option.{none-some, same_Some}
use Rattle.stream.specs.Framing.{string_stop}
use Rattle.stream.proofs.Strings.{stops}
use Rattle.layout.specs.Cuts.{left, assertion_tail, assertion_parts, payload_parts, record_from, fitting}
use Rattle.layout.proofs.Spans.{Within, span, span_drop, span_get, span_u32, span_length, span_part}

-- ---- all is cut and no byte is left
abbrev pub done : Cut → Bool
done short = false
done (cut p []) = true
done (cut p (b ∷ r)) = false

pub done_with : (p : List (List ℕ)) (c : Cut) → done (with_parts p c) ≡ done c
done_with p short = refl
done_with p (cut q []) = refl
done_with p (cut q (b ∷ r)) = refl

float_done : (c : Cut) → is_some (float_shape (finished c)) ≡ done c
float_done short = refl
float_done (cut p []) = refl
float_done (cut p (b ∷ r)) = refl

back_done : (k : ℕ) (b h : List (List ℕ)) (c : Cut) → is_some (with_back k b h (finished c)) ≡ done c
back_done k b h short = refl
back_done k b h (cut p []) = refl
back_done k b h (cut p (x ∷ r)) = refl

hyps_done : (k v : ℕ) (b : List (List ℕ)) (c : Cut) → is_some (with_hyps k v b c) ≡ done (then c (back_parts v))
hyps_done k v b short = refl
hyps_done k v b (cut h r) = back_done k b (drop 1 h) (back_parts v r) ∙ sym (done_with h (back_parts v r))

names_done : (k v : ℕ) (n : List (List ℕ)) (c : Cut) → is_some (with_names k v n c) ≡ done (then c (λ m. then (hypotheses_part m) (back_parts v)))
names_done k v n short = refl
names_done k v n (cut b r) = hyps_done k v (n ++ b) (hypotheses_part r) ∙ sym (done_with b (then (hypotheses_part r) (back_parts v)))

assertion_done : (k : ℕ) (c : Cut) → is_some (assertion_shape k c) ≡ done (then c assertion_tail)
unfolding assertion_tail
assertion_done k short = refl
assertion_done k (cut n r) =
    names_done k (u16_at r 0) n (names_part r)
    ∙ sym (done_with n (then (names_part r) (λ m. then (hypotheses_part m) (back_parts (u16_at r 0)))))

pub shape_done : (k : ℕ) (l : List ℕ) → is_some (shape_of k l) ≡ done (payload_parts k l)
unfolding shape_of payload_parts assertion_parts
shape_done k l =
    split (eqb k 4)
    (λ e. rw e (float_done (then (float_head l) a_string)))
    (λ e.
    split (eqb k 1)
    (λ d. rw (e, d) (float_done (then (float_head l) a_stub)))
    (λ d.
    split (or (eqb k 2) (eqb k 3))
    (λ g. rw (e, d, g) (assertion_done k (label_part l)))
    (λ g. rw (e, d, g))))

-- by what is left
none_done : (c : Cut) → left c ≡ None → done c ≡ false
none_done short z = refl
none_done (cut p r) z = absurd (none-some r (sym z))

some_done : (c : Cut) {r : List ℕ} → left c ≡ Some r → (length r ≡ 0 → ⊥) → done c ≡ false
some_done short {r} z n = refl
some_done (cut p []) {r} z n = let e : [] ≡ r = cc in absurd (n (ap length (sym e)))
some_done (cut p (b ∷ q)) z n = refl

all_done : (c : Cut) {r : List ℕ} → left c ≡ Some r → length r ≡ 0 → done c ≡ true
all_done short {r} z n = absurd (none-some r z)
all_done (cut p []) z n = refl
all_done (cut p (b ∷ q)) {r} z n = let e : (b ∷ q) ≡ r = cc in let k : length (b ∷ q) ≡ 0 = ap length e ∙ n in absurd (omega arith)

-- ---- the record at a place
module _ (l : List ℕ) (at : ℕ) where
  pub from_u32 : u32_at (record_from l at) 0 ≡ u32_at l at
  unfolding record_from u32_at u16_at
  from_u32 =
      let u = u32_at l at in
      let z : at + 0 ≡ at = omega arith in
      let t : at + 3 ≡ (at + 2) + 1 = omega arith in
      rw (get 0 (omega arith), get 1 (omega arith), get 2 (omega arith), get 3 (omega arith), z, t)
    where
      get : (i : ℕ) → i < 4 → get_or (take (4 + u32_at l at) (drop at l)) i 0 ≡ get_or l (at + i) 0
      get i h = get_or-take (4 + u32_at l at) (drop at l) i 0 (omega arith) ∙ get_or-drop at l i 0

  unfit : fits (record_from l at) ≡ false → None ≡ fitting l at
  unfolding fitting
  unfit e = sym (rw e)

  -- fewer than six bytes
  pub fitting_few : length l < at + 6 → None ≡ fitting l at
  unfolding fits record_shape record_from
  fitting_few h =
      unfit (rw (lt-ltb (length (record_from l at)) 6 (simp (length-take, length-drop) (omega arith))))

  -- a length under two
  pub fitting_small : u32_at l at < 2 → None ≡ fitting l at
  unfolding fits record_shape record_from
  fitting_small h =
      unfit (rw (lt-ltb (length (record_from l at)) 6 (simp (length-take, length-drop) (omega arith))))

  -- a length that does not fit the buffer
  cut_off : length l < (at + 4) + u32_at l at → length (record_from l at) ≡ length l - at
  unfolding record_from
  cut_off g = simp (length-take, length-drop) (omega arith)

  pub fitting_over : at + 6 ≤ length l → length l < (at + 4) + u32_at l at → None ≡ fitting l at
  unfolding fits record_shape
  fitting_over h g =
      let r = record_from l at in
      let n : length r ≡ length l - at = cut_off g in
      unfit
      (rw (le-ltb (length r) 6 (omega arith), ne_eqb (length r) (4 + u32_at r 0) (λ e. omega (arith, from_u32))))

  -- one that does: by its payload
  module _ (h : 2 ≤ u32_at l at) (g : (at + 4) + u32_at l at ≤ length l) where
    lies : Within l at ((at + 4) + u32_at l at)
    lies = record { order = omega arith; inside = g }

    from_span : record_from l at ≡ span l at ((at + 4) + u32_at l at)
    unfolding record_from
    from_span =
        let q : ((at + 4) + u32_at l at) - at ≡ 4 + u32_at l at = omega arith in
        sym (span_part lies ∙ ap (λ n. take n (drop at l)) q)

    from_kind : u16_at (span l at ((at + 4) + u32_at l at)) 4 ≡ u16_at l (at + 4)
    unfolding u16_at
    from_kind =
        let t : at + 5 ≡ (at + 4) + 1 = omega arith in
        rw (span_get l at ((at + 4) + u32_at l at) 4 (omega arith), span_get l at ((at + 4) + u32_at l at) 5 (omega arith), t)

    fits_by : fits (record_from l at) ≡ done (payload_parts (u16_at l (at + 4)) (span l (at + 6) ((at + 4) + u32_at l at)))
    unfolding fits record_shape
    fits_by =
        let e = (at + 4) + u32_at l at in
        let n : length (span l at e) ≡ e - at = span_length lies in
        let u : u32_at (span l at e) 0 ≡ u32_at l at = span_u32 l at e (omega arith) in
        rw (from_span, le-ltb (length (span l at e)) 6 (omega arith), eq-eqb (length (span l at e)) (4 + u32_at (span l at e) 0) (omega arith), from_kind, span_drop l at e 6)
        (shape_done (u16_at l (at + 4)) (span l (at + 6) e))

-- ---- by where the record stops, as a string does
module _ (l : List ℕ) (at : ℕ) where
  pub fitting_off : string_stop l at (length l) ≡ None → None ≡ fitting l at
  unfolding string_stop
  fitting_off z =
      split (ltb (length l) (at + 4))
      (λ a. fitting_few l at (omega (arith, ltb-true (length l) (at + 4) a)))
      (λ a.
      split (ltb (length l) ((at + 4) + u32_at l at))
      (λ b.
      split (ltb (u32_at l at) 2)
      (λ c. fitting_small l at (ltb-true (u32_at l at) 2 c))
      (λ c.
      split (ltb (length l) (at + 6))
      (λ d. fitting_few l at (ltb-true (length l) (at + 6) d))
      (λ d. fitting_over l at (ltb-false (length l) (at + 6) d) (ltb-true (length l) ((at + 4) + u32_at l at) b))))
      (λ b. absurd (none-some ((at + 4) + u32_at l at) (sym (rw (a, b) at z)))))

  module _ {e : ℕ} (stop : string_stop l at (length l) ≡ Some e) where
    pub fitting_none : e < at + 6 → None ≡ fitting l at
    fitting_none h = let s = stops l at (length l) e stop in fitting_small l at (omega (arith, s.is))

    module _ (h : at + 6 ≤ e) {k : ℕ} (kind : k ≡ u16_at l (at + 4)) where
      abbrev payload : List ℕ
      payload = take (e - (at + 6)) (drop (at + 6) l)

      fits_payload : fits (record_from l at) ≡ done (payload_parts k payload)
      fits_payload =
          let s = stops l at (length l) e stop in
          let w : Within l (at + 6) e = record { order = h; inside = s.within } in
          let p : span l (at + 6) ((at + 4) + u32_at l at) ≡ payload = ap (span l (at + 6)) (sym s.is) ∙ span_part w in
          fits_by l at (omega (arith, s.is)) (omega (arith, s.is, s.within)) ∙ rw (← kind, p)

      pub fitting_short : left (payload_parts k payload) ≡ None → None ≡ fitting l at
      fitting_short z = unfit l at (fits_payload ∙ none_done (payload_parts k payload) z)

      module _ {r : List ℕ} (z : left (payload_parts k payload) ≡ Some r) where
        pub fitting_left : (length r ≡ 0 → ⊥) → None ≡ fitting l at
        fitting_left n = unfit l at (fits_payload ∙ some_done (payload_parts k payload) z n)

        pub fitting_all : length r ≡ 0 → Some e ≡ fitting l at
        unfolding fitting
        fitting_all n =
            let s = stops l at (length l) e stop in
            let f : fits (record_from l at) ≡ true = fits_payload ∙ all_done (payload_parts k payload) z n in
            rw s.is (sym (rw f))

-- ---- what a record that fits is
pub record Fitting (l : List ℕ) (at q : ℕ) : Type 0 where
  pub after : q ≡ (at + 4) + u32_at l at
  pub fit : fits (record_from l at) ≡ true

pub fitting_stands : (l : List ℕ) (at : ℕ) {q : ℕ} → Some q ≡ fitting l at → Fitting l at q
unfolding fitting
fitting_stands l at {q} e =
    split (fits (record_from l at))
    (λ t. let z : q ≡ (at + 4) + u32_at l at = same_Some q ((at + 4) + u32_at l at) (rw t at e) in record { after = z; fit = t })
    (λ t. absurd (none-some q (sym (rw t at e))))

pub fitting_not : (l : List ℕ) (at : ℕ) → None ≡ fitting l at → fits (record_from l at) ≡ false
unfolding fitting
fitting_not l at e = split (fits (record_from l at)) (λ t. absurd (none-some ((at + 4) + u32_at l at) (rw t at e))) (λ t. t)
