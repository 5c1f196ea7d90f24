-- A record renewed, and all records of a stream renewed one after the other.
-- For the converter's second pass, and for what it promises.
use mathlib.Core.Path.{◌≡◌, refl, sym, ap, ◌∙◌}
use mathlib.Core.Bool.{true}
use mathlib.Core.List.{List, [], ◌∷◌, ◌++◌, append_assoc, append-nil}
use mathlib.Core.Option.{none}
use Prim.Native.Nat.{ℕ, ◌+◌, ◌-◌, ◌<◌, ◌≤◌}
use native.Mathlib.Omega.{arith}
use lib.ListN.{length, take, drop, length-append, length-drop}
use lib.Seq.{length-take-le, take_all}
use lib.Dec.{eqb}
use borrow.Author.Tests.{eq-eqb, ne_eqb, eqb-true, le-ltb, lt-ltb}
use Rattle.paper.specs.Base.{gather}
use Rattle.paper.specs.Records.{u16}
use Rattle.paper.specs.Lookup.{u16_at, u32_at}
use Rattle.paper.specs.Layout.{lowered, shape_of, record_shape, is_some, fits, stream_records}
use Rattle.paper.specs.Convert.{first_unfit, renewed, renewal, convert, convert_exit}
use Rattle.std.specs.Prelude.{Ok, Err}
use Rattle.paper.specs.declared.Unconverted.TheVariants.{Unfit, NoRoom}
use Rattle.paper.proofs.Tests.{split, by_option, eqb_ne}
use Rattle.paper.proofs.Options.{none_some}
use Rattle.stream.specs.Wrote.{Wrote}
use Rattle.stream.proofs.Wrote.{wrote_none, wrote_then, wrote_as}
use Rattle.stream.proofs.Records.{length_u16}
use Rattle.layout.specs.Cuts.{record_from, payload_parts}
use Rattle.layout.specs.Lowers.{Renews}
use Rattle.layout.specs.Renewal.{unfit_of, unfit, AllFit, Converts}
use Rattle.std.specs.Prelude.{Some, None}
use Rattle.layout.proofs.Fit.{shape_done}
use Rattle.layout.proofs.Lowered.{lowered_length}
use Rattle.layout.proofs.Stubs.{Stubbed, stubbed, stubbed_lowers}
use Rattle.layout.proofs.Streams.{records_at, records_step, records_end, records_start, records_whole, fits_sized, stood, unfit_step}

-- ---- one record
pub renewed_other : (r : List ℕ) → (u16_at r 4 ≡ 1 → ⊥) → renewed r ≡ r
unfolding renewed
renewed_other r n = rw (ne_eqb (u16_at r 4) 1 n)

pub renewed_old : (r : List ℕ) → u16_at r 4 ≡ 1 → renewed r ≡ take 4 r ++ (u16 4 ++ lowered (drop 6 r))
unfolding renewed
renewed_old r e = rw (eq-eqb (u16_at r 4) 1 e)

-- the bytes from a place to the end, as a part of the list
pub part_rest : (l : List ℕ) (k : ℕ) → take (length l - k) (drop k l) ≡ drop k l
part_rest l k = take_all (length l - k) (drop k l) (simp length-drop (omega arith))

pub fits_shape : (r : List ℕ) → fits r ≡ true → record_shape r ≡ shape_of (u16_at r 4) (drop 6 r)
unfolding record_shape
fits_shape r e =
    let z = fits_sized r e in
    rw (le-ltb (length r) 6 z.room, eq-eqb (length r) (4 + u32_at r 0) z.size)

pub fits_stubbed : (r : List ℕ) → fits r ≡ true → u16_at r 4 ≡ 1 → Stubbed (drop 6 r)
unfolding fits payload_parts
fits_stubbed r e k =
    let s : is_some (shape_of 1 (drop 6 r)) ≡ true =
    ap (λ n. is_some (shape_of n (drop 6 r))) (sym k) ∙ ap is_some (sym (fits_shape r e)) ∙ e in
    stubbed (drop 6 r) (sym (shape_done 1 (drop 6 r)) ∙ s)

pub fits_renews : (r : List ℕ) → fits r ≡ true → Renews r
fits_renews r e =
    record { room = (fits_sized r e).room; old = λ k. stubbed_lowers (drop 6 r) (fits_stubbed r e k) }

pub renewed_length : (r : List ℕ) → 6 ≤ length r → length (renewed r) ≡ length r
renewed_length r h =
    split (eqb (u16_at r 4) 1)
    (λ t.
    ap length (renewed_old r (eqb-true (u16_at r 4) 1 t))
    ∙ simp (length-append, length_u16, lowered_length, length-drop) (omega (arith, length-take-le 4 r (omega arith))))
    (λ t. ap length (renewed_other r (eqb_ne t)))

-- ---- all of them
pub unfit_first : (r : List ℕ) (l : List (List ℕ)) (o : ℕ) → first_unfit (r ∷ l) o ≡ none → fits r ≡ true
unfolding first_unfit
unfit_first r l o e = split (fits r) (λ t. t) (λ t. absurd (none_some (sym (rw t at e))))

pub unfit_rest : (r : List ℕ) (l : List (List ℕ)) (o : ℕ) → first_unfit (r ∷ l) o ≡ none → first_unfit l (o + length r) ≡ none
unfolding first_unfit
unfit_rest r l o e = rw (unfit_first r l o e) at e

same_length : (l : List (List ℕ)) (o : ℕ) → first_unfit l o ≡ none → length (gather renewed l) ≡ length (gather (λ x. x) l)
unfolding gather
same_length [] o e = refl
same_length (r ∷ l) o e =
    let a = renewed_length r (fits_sized r (unfit_first r l o e)).room in
    let b = same_length l (o + length r) (unfit_rest r l o e) in
    omega (arith, length-append (renewed r) (gather renewed l), length-append r (gather (λ x. x) l))

pub renewal_length : (s : List ℕ) → AllFit s → length (renewal s) ≡ length s
unfolding renewal stream_records
renewal_length s e = same_length (stream_records s) 0 e ∙ ap length (records_whole s 0)

-- ---- the walk has come to a place
pub record Putting (s l m : List ℕ) (at : ℕ) : Type 0 where
  pub acc : List ℕ
  pub wrote : Wrote l m 0 at acc
  pub rest : acc ++ gather renewed (records_at s at) ≡ renewal s
  pub fit : first_unfit (records_at s at) at ≡ none
  pub within : at ≤ length s

pub put_start : (s l : List ℕ) → AllFit s → Putting s l l 0
unfolding renewal
put_start s l e =
    record { acc = []; wrote = wrote_none l 0; rest = rw (records_start s); fit = rw (records_start s) e; within = omega arith }

pub put_fits : {s l m : List ℕ} {at : ℕ} → Putting s l m at → at < length s → fits (record_from s at) ≡ true
put_fits {s} {at = at} p h =
    unfit_first (record_from s at) (records_at s ((at + 4) + u32_at s at)) at (rw (records_step s at h) at p.fit)

pub from_slice : (s : List ℕ) (at e : ℕ) → e ≡ (at + 4) + u32_at s at → take (e - at) (drop at s) ≡ record_from s at
unfolding record_from
from_slice s at e z = let q : e - at ≡ 4 + u32_at s at = omega arith in rw q

pub put_next : {s l m o : List ℕ} {at e : ℕ} → Putting s l m at → at < length s → e ≡ (at + 4) + u32_at s at → Wrote m o at e (renewed (record_from s at)) → Putting s l o e
unfolding gather
put_next {s} {at = at} {e} p h z w =
    let f = put_fits p h in
    record {
      acc = p.acc ++ renewed (record_from s at);
      wrote = wrote_then p.wrote w;
      rest =
          append_assoc p.acc (renewed (record_from s at)) (gather renewed (records_at s e))
          ∙ ap (λ x. p.acc ++ x) (sym (rw (records_step s at h, z)))
          ∙ p.rest;
      fit = rw z (sym (unfit_step s at h f) ∙ p.fit);
      within = omega (arith, (stood s at f).within);
    }

pub put_end : {s l m : List ℕ} {at : ℕ} → Putting s l m at → length s ≤ at → Wrote l m 0 at (renewal s)
unfolding gather
put_end {s} {at = at} p h =
    wrote_as p.wrote (sym p.rest ∙ ap (λ x. p.acc ++ gather renewed x) (records_end s at h) ∙ append-nil p.acc)

-- ---- what the converter answers
pub converts_unfit : {s l : List ℕ} {o : ℕ} → Some o ≡ unfit s → Converts s l l (Err (Unfit o))
unfolding unfit convert convert_exit
converts_unfit {s} {l} {o} e = by_option (first_unfit (stream_records s) 0)
    (λ p z. let q : Some o ≡ Some p = e ∙ ap unfit_of z in let y : o ≡ p = cc in record { answer = rw (z, y); exit = rw z })
    (λ z. let q : Some o ≡ None = e ∙ ap unfit_of z in let y : ◌≡◌ {A = ℕ} 0 1 = cc in absurd (omega (arith, y)))

pub all_fit : (s : List ℕ) → None ≡ unfit s → AllFit s
unfolding unfit
all_fit s e = by_option (first_unfit (stream_records s) 0)
    (λ p z. let q : None ≡ Some p = e ∙ ap unfit_of z in let y : ◌≡◌ {A = ℕ} 0 1 = cc in absurd (omega (arith, y)))
    (λ z. z)

pub converts_short : (s l : List ℕ) → AllFit s → length l < length s → Converts s l l (Err (NoRoom (length s)))
unfolding convert convert_exit
converts_short s l e h =
    let n = renewal_length s e in
    let t = lt-ltb (length l) (length (renewal s)) (omega arith) in
    record { answer = rw (e, t, n); exit = rw (e, t) }

pub converts_all : {s l m : List ℕ} {n : ℕ} → AllFit s → length s ≤ length l → n ≡ length s → Wrote l m 0 n (renewal s) → Converts s l m (Ok n)
unfolding convert convert_exit
converts_all {s} {l} {m} {n} e h z w =
    let k = renewal_length s e in
    let t = le-ltb (length l) (length (renewal s)) (omega arith) in
    record { answer = rw (e, t, k, z); exit = rw (e, t) (w.bytes (omega arith)) }
