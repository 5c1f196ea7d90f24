-- The short frame, proved to be the full one restricted; and that its record is no longer.
-- Variables by first sight only come after those that are there.
use mathlib.Core.Path.{◌≡◌, refl, sym, ap, ◌∙◌}
use mathlib.Core.Bool.{Bool}
use mathlib.Core.List.{List, [], ◌∷◌, ◌++◌, map, append_assoc, append-nil}
use Prim.Native.Nat.{ℕ, zero, suc, ◌≤◌}
use native.Mathlib.Omega.{arith}
use lib.ListN.{length, take, length-append}
use lib.Seq.{take-append_seam}
use Rattle.paper.specs.Base.{gather}
use Rattle.paper.specs.Variables.{member, see, sights, mandatory}
use Rattle.paper.specs.Pairs.{in_order, apart, row, rows}
use Rattle.paper.specs.Frames.{Full, full, frame_of, restricted}
use Rattle.paper.specs.Records.{string, row_bytes}
use Rattle.paper.proofs.Tests.{split}
use Rattle.theorems.specs.Restricted.{short_of, Restricted}
use Rattle.theorems.proofs.Lengths.{u16_length, row_length, rest_of}

-- ---- what is seen comes after what is there
record SeenAfter (l m : List (List ℕ)) : Type 0 where
  more : List (List ℕ)
  is : m ≡ l ++ more

see_after : (l : List (List ℕ)) (n : List ℕ) → SeenAfter l (see l n)
see_after l n =
    split (member n l)
    (λ e. rw e (record { more = []; is = sym (append-nil l) }))
    (λ e. rw e (record { more = n ∷ []; is = refl }))

sights_after : (n l : List (List ℕ)) → SeenAfter l (sights n l)
unfolding sights
sights_after [] l = record { more = []; is = sym (append-nil l) }
sights_after (x ∷ n) l =
    let a = see_after l x in
    let b = sights_after n (see l x) in
    record {
      more = a.more ++ b.more;
      is = b.is ∙ (ap (λ (k : List (List ℕ)). k ++ b.more) a.is ∙ append_assoc l a.more b.more);
    }

-- ---- rows over the first ones
take_map : {A B : Type 0} (f : A → B) (m r : List A) → take (length m) (map f (m ++ r)) ≡ map f m
take_map f [] r = refl
take_map f (x ∷ m) r = ap (λ l. f x ∷ l) (take_map f m r)

rows_cut : (m r : List (List ℕ)) (d : List (List (List ℕ))) (l : List (List ℕ))
    → map (take (length m)) (map (row (m ++ r) d) l) ≡ map (row m d) l
rows_cut m r d [] = refl
rows_cut m r d (x ∷ l) = rw (take_map (apart d x) m r, rows_cut m r d l)

rows_restricted : (m r : List (List ℕ)) (d : List (List (List ℕ))) → map (take (length m)) (take (length m) (rows (m ++ r) d)) ≡ rows m d
unfolding rows
rows_restricted m r d = rw (take_map (row (m ++ r) d) m r) (rows_cut m r d m)

pub is_restricted : Restricted
unfolding frame_of short_of
is_restricted k s v f =
    let m = mandatory v.hyps f in
    let d = in_order v.disjoints in
    let a = sights_after (gather (λ n. n) d) m in
    rw (a.is, take-append_seam m a.more, rows_restricted m a.more d)

-- ---- the lengths
gather_take : {A B : Type 0} (f : A → List B) (n : ℕ) (l : List A) → length (gather f (take n l)) ≤ length (gather f l)
unfolding gather
gather_take f zero l = omega arith
gather_take f (suc n) [] = omega arith
gather_take f (suc n) (x ∷ l) =
    omega (arith, gather_take f n l, length-append (f x) (gather f (take n l)), length-append (f x) (gather f l))

take_fewer : {A : Type 0} (n : ℕ) (l : List A) → length (take n l) ≤ length l
take_fewer zero l = omega arith
take_fewer (suc n) [] = omega arith
take_fewer (suc n) (x ∷ l) = omega (arith, take_fewer n l)

rows_shorter : (n : ℕ) (l : List (List Bool)) → length (gather row_bytes (map (take n) l)) ≤ length (gather row_bytes l)
unfolding gather
rows_shorter n [] = omega arith
rows_shorter n (r ∷ l) =
    omega (
      arith,
      rows_shorter n l,
      row_length (take n r),
      row_length r,
      take_fewer n r,
      length-append (row_bytes (take n r)) (gather row_bytes (map (take n) l)),
      length-append (row_bytes r) (gather row_bytes l),
    )

pub restricted_length : (f : Full) → length (rest_of (full (restricted f))) ≤ length (rest_of (full f))
restricted_length f =
    simp (length-append, u16_length)
    (omega (
      arith,
      gather_take string f.mandatory f.variables,
      rows_shorter f.mandatory (take f.mandatory f.rows),
      gather_take row_bytes f.mandatory f.rows,
    ))
