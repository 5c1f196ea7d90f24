-- What is converted has the same content, has no kind 1 left and is as long; converting twice is converting once.
-- Record by record, and then for the records of a stream one after the other.
use mathlib.Core.Path.{◌≡◌, refl, sym, ap, ◌∙◌}
use mathlib.Core.Bool.{true}
use mathlib.Core.List.{List, [], ◌∷◌, ◌++◌, map}
use mathlib.Core.Option.{none}
use Prim.Native.Nat.{ℕ, ◌+◌, ◌≤◌}
use native.Mathlib.Omega.{arith}
use lib.Dec.{eqb}
use lib.ListN.{length, take, drop, length-append}
use lib.Seq.{take-append_seam, drop-append_seam, take_at, drop_at, drop-drop, get_or-drop, length-take-le}
use borrow.Author.Tests.{eq-eqb, eqb-true, le-ltb}
use Rattle.paper.specs.Base.{gather}
use Rattle.paper.specs.Records.{le, u16}
use Rattle.paper.specs.Lookup.{u16_at, u32_at}
use Rattle.paper.specs.Layout.{lowered, finished, float_shape, shape_of, record_shape, is_some, fits, records_after, stream_records}
use Rattle.paper.specs.Convert.{first_unfit, renewed, renewal}
use Rattle.paper.proofs.Tests.{split, eqb_ne}
use Rattle.paper.proofs.Alls.{All, all_none, all_more, all_map}
use Rattle.layout.specs.Renewal.{AllFit}
use Rattle.layout.specs.Converted.{Converting, Unchanged, OneConversion}
use Rattle.layout.proofs.Local.{u32_front}
use Rattle.layout.proofs.Stubs.{stubbed_plain}
use Rattle.layout.proofs.Streams.{records_skip, records_cons, records_whole, Sized, fits_sized}
use Rattle.layout.proofs.Renewing.{renewed_other, renewed_old, fits_shape, fits_stubbed, renewed_length, unfit_first, unfit_rest, renewal_length}

-- ---- a record of kind 1, renewed
module _ (r : List ℕ) (h : 6 ≤ length r) where
  four : length (take 4 r) ≡ 4
  four = length-take-le 4 r (omega arith)

  behind : drop 4 (take 4 r ++ (u16 4 ++ lowered (drop 6 r))) ≡ u16 4 ++ lowered (drop 6 r)
  behind = drop_at (take 4 r) (u16 4 ++ lowered (drop 6 r)) 4 four

  new_kind : u16_at (take 4 r ++ (u16 4 ++ lowered (drop 6 r))) 4 ≡ 4
  unfolding u16_at u16 le
  new_kind =
      let m = take 4 r ++ (u16 4 ++ lowered (drop 6 r)) in
      rw (sym (get_or-drop 4 m 0 0), sym (get_or-drop 4 m 1 0), behind)

  new_payload : drop 6 (take 4 r ++ (u16 4 ++ lowered (drop 6 r))) ≡ lowered (drop 6 r)
  unfolding u16 le
  new_payload =
      let m = take 4 r ++ (u16 4 ++ lowered (drop 6 r)) in
      sym (drop-drop 2 4 m) ∙ ap (drop 2) behind

-- ---- every record, renewed
renewed_size : (r : List ℕ) → 6 ≤ length r → u32_at (renewed r) 0 ≡ u32_at r 0
renewed_size r h =
    split (eqb (u16_at r 4) 1)
    (λ t.
    rw (renewed_old r (eqb-true (u16_at r 4) 1 t))
    (sym (u32_front _ 4 (omega arith))
    ∙ ap (λ x. u32_at x 0) (take_at (take 4 r) (u16 4 ++ lowered (drop 6 r)) 4 (four r h))
    ∙ u32_front r 4 (omega arith)))
    (λ t. ap (λ x. u32_at x 0) (renewed_other r (eqb_ne t)))

renewed_sized : (r : List ℕ) → fits r ≡ true → Sized (renewed r)
renewed_sized r e =
    let z = fits_sized r e in
    let n = renewed_length r z.room in
    record { room = omega (arith, z.room); size = n ∙ z.size ∙ ap (λ u. 4 + u) (sym (renewed_size r z.room)) }

sized_shape : (r : List ℕ) → Sized r → record_shape r ≡ shape_of (u16_at r 4) (drop 6 r)
unfolding record_shape
sized_shape r z = rw (le-ltb (length r) 6 z.room, eq-eqb (length r) (4 + u32_at r 0) z.size)

renewed_shape : (r : List ℕ) → fits r ≡ true → record_shape (renewed r) ≡ record_shape r
unfolding shape_of
renewed_shape r e =
    split (eqb (u16_at r 4) 1)
    (λ t.
    let k : u16_at r 4 ≡ 1 = eqb-true (u16_at r 4) 1 t in
    let h = (fits_sized r e).room in
    let a : u16_at (renewed r) 4 ≡ 4 = rw (renewed_old r k) (new_kind r h) in
    let b : drop 6 (renewed r) ≡ lowered (drop 6 r) = rw (renewed_old r k) (new_payload r h) in
    let x : record_shape (renewed r) ≡ shape_of 4 (lowered (drop 6 r)) = sized_shape (renewed r) (renewed_sized r e) ∙ rw (a, b) in
    let y : record_shape r ≡ shape_of 1 (drop 6 r) = fits_shape r e ∙ rw k in
    x ∙ ap (λ c. float_shape (finished c)) (stubbed_plain (drop 6 r) (fits_stubbed r e k)) ∙ sym y)
    (λ t. ap record_shape (renewed_other r (eqb_ne t)))

renewed_fits : (r : List ℕ) → fits r ≡ true → fits (renewed r) ≡ true
unfolding fits
renewed_fits r e = ap is_some (renewed_shape r e) ∙ e

renewed_plain : (r : List ℕ) → fits r ≡ true → u16_at (renewed r) 4 ≡ 1 → ⊥
renewed_plain r e k =
    split (eqb (u16_at r 4) 1)
    (λ t.
    let a : u16_at (renewed r) 4 ≡ 4 =
    rw (renewed_old r (eqb-true (u16_at r 4) 1 t)) (new_kind r (fits_sized r e).room) in
    omega arith)
    (λ t. eqb_ne t (ap (λ x. u16_at x 4) (sym (renewed_other r (eqb_ne t))) ∙ k))

-- ---- the records of records one after the other are these
joined : (r m : List ℕ) → Sized r → records_after (r ++ m) 0 ≡ r ∷ records_after m 0
joined r m z =
    let n = length r in
    let t : take n (r ++ m) ≡ r = take-append_seam r m in
    let u : u32_at (r ++ m) 0 ≡ u32_at r 0 = sym (u32_front (r ++ m) n (omega (arith, z.room))) ∙ ap (λ x. u32_at x 0) t in
    let i : 4 + u32_at r 0 ≡ n = omega (arith, z.size) in
    let j : 1 + (3 + u32_at r 0) ≡ n = omega (arith, z.size) in
    let d : drop (3 + u32_at r 0) (drop 1 (r ++ m)) ≡ m =
    drop-drop (3 + u32_at r 0) 1 (r ++ m) ∙ ap (λ (k : ℕ). drop k (r ++ m)) j ∙ drop-append_seam r m in
    records_cons (r ++ m) (omega (arith, length-append r m, z.room))
    ∙ rw (u, i, t, records_skip (drop 1 (r ++ m)) (3 + u32_at r 0), d)

records_joined : (l : List (List ℕ)) → All Sized l → stream_records (gather (λ x. x) l) ≡ l
unfolding stream_records gather records_after
records_joined [] all_none = refl
records_joined (r ∷ l) (all_more z a) = joined r (gather (λ x. x) l) z ∙ ap (λ x. r ∷ x) (records_joined l a)

-- ---- a stream
unfit_none : (l : List (List ℕ)) (o : ℕ) → first_unfit l o ≡ none → All (λ r. fits r ≡ true) l
unfit_none [] o e = all_none
unfit_none (r ∷ l) o e = all_more (unfit_first r l o e) (unfit_none l (o + length r) (unfit_rest r l o e))

none_unfit : (l : List (List ℕ)) (o : ℕ) → All (λ r. fits r ≡ true) l → first_unfit l o ≡ none
unfolding first_unfit
none_unfit [] o all_none = refl
none_unfit (r ∷ l) o (all_more e a) = rw e (none_unfit l (o + length r) a)

map_all : {A B : Type 0} {P : A → Type 0} {Q : B → Type 0} (f : A → B) → ((x : A) → P x → Q (f x)) → {l : List A} → All P l → All Q (map f l)
map_all f g all_none = all_none
map_all f g (all_more {x = x} h a) = all_more (g x h) (map_all f g a)

same_shapes : {l : List (List ℕ)} → All (λ r. fits r ≡ true) l → map record_shape (map renewed l) ≡ map record_shape l
same_shapes all_none = refl
same_shapes (all_more {x = r} e a) = rw (renewed_shape r e, same_shapes a)

again : {l : List (List ℕ)} → All (λ r. fits r ≡ true) l → gather renewed (map renewed l) ≡ gather renewed l
unfolding gather
again all_none = refl
again (all_more {x = r} e a) = rw (renewed_other (renewed r) (renewed_plain r e), again a)

joined_map : {A : Type 0} (g : A → List ℕ) (l : List A) → gather g l ≡ gather (λ x. x) (map g l)
unfolding gather
joined_map g [] = refl
joined_map g (x ∷ l) = ap (λ r. g x ++ r) (joined_map g l)

renewal_records : (s : List ℕ) → AllFit s → stream_records (renewal s) ≡ map renewed (stream_records s)
unfolding renewal
renewal_records s e =
    rw (joined_map renewed (stream_records s)) (records_joined _ (map_all renewed renewed_sized (unfit_none (stream_records s) 0 e)))

-- records that fit, one after the other
pub all_fit_joined : {A : Type 0} (g : A → List ℕ) {l : List A} → All (λ x. fits (g x) ≡ true) l → AllFit (gather g l)
all_fit_joined g {l} a =
    let b : All (λ r. fits r ≡ true) (map g l) = map_all g (λ x h. h) a in
    rw (joined_map g l, records_joined (map g l) (all_map (λ r h. fits_sized r h) b)) (none_unfit (map g l) 0 b)

pub converting : Converting
unfolding renewal
converting s e =
    let a = unfit_none (stream_records s) 0 e in
    let r = renewal_records s e in
    record {
      content = rw r (same_shapes a);
      fits = rw r (none_unfit _ 0 (map_all renewed renewed_fits a));
      plain = rw r (map_all renewed renewed_plain a);
      long = renewal_length s e;
      once = rw r (again a);
    }

-- ---- a stream without kind 1
kept : {l : List (List ℕ)} → All (λ r. u16_at r 4 ≡ 1 → ⊥) l → gather renewed l ≡ gather (λ x. x) l
unfolding gather
kept all_none = refl
kept (all_more {x = r} n a) = rw (renewed_other r n, kept a)

pub unchanged : Unchanged
unfolding renewal stream_records
unchanged s a = kept a ∙ records_whole s 0

-- ---- one result
pub one_conversion : OneConversion
one_conversion s l x y a b =
    λ i.
    record {
      answer = (a.answer ∙ sym b.answer) i;
      buffer = (a.exit ∙ sym b.exit) i;
    }
