-- What is asked of a record, as the code finds it: where V and M stand, and what follows a number of strings.
-- For the functions that answer it.
use mathlib.Core.Path.{◌≡◌, refl, sym}
use mathlib.Core.Bool.{true, false}
use mathlib.Core.Logic.{◌⊎◌, inl, inr}
use mathlib.Core.List.{List}
use Prim.Native.Nat.{ℕ, zero, suc, ◌+◌, ◌-◌, ◌<◌, ◌≤◌}
use native.Mathlib.Nat.{not-suc-le-zero}
use native.Mathlib.Omega.{arith}
use lib.Dec.{eqb, ltb}
use lib.ListN.{length}
use borrow.Author.Tests.{ltb-false, ne_eqb}
use Rattle.std.specs.Prelude.{Option, Some, None}
use Rattle.paper.specs.Base.{or}
use Rattle.paper.specs.Lookup.{u32_at}
use Rattle.stream.specs.Framing.{framing, string_stop}
use Rattle.stream.specs.Fields.{counts_in, counts_at, after_strings}
use Rattle.stream.specs.declared.walk.Record.{Record}
use Rattle.stream.specs.declared.field.Part.{Part}
use Rattle.std.proofs.lemmas.Option.{none-some}
use Rattle.stream.proofs.Past.{past}
use Rattle.stream.proofs.Strings.{stops, no_string, a_string}
use Rattle.stream.proofs.Search.{stands}

-- ---- the kinds that have no V and M
pub of_float : (k : ℕ) → (k ≡ 1) ⊎ (k ≡ 4) → or (eqb k 1) (eqb k 4) ≡ true
of_float k h = elim h [ inl e ↦ rw e | inr e ↦ rw e ]

pub of_other : (k : ℕ) → (k ≡ 1 → ⊥) → (k ≡ 4 → ⊥) → or (eqb k 1) (eqb k 4) ≡ false
of_other k a b = rw (ne_eqb k 1 a, ne_eqb k 4 b)

-- ---- V and M stand within the record
pub record Counted (l : List ℕ) (c : Part) : Type 0 where
  pub room : c.from + 4 ≤ c.end
  pub within : c.end ≤ length l

counted_in : (l : List ℕ) (at : ℕ) (x : Option Record) (c : Part) → framing l at ≡ x → counts_in x ≡ Some c → Counted l c
counted_in l at None c f q = absurd (none-some c q)
counted_in l at (Some r) c f q =
    let a = past (or (eqb r.kind 1) (eqb r.kind 4)) _ _ _ (none-some c) q in
    let b = past (ltb r.after (r.stop + 4)) _ _ _ (none-some c) a.rest in
    let s : r.stop ≡ c.from = cc in
    let t : r.after ≡ c.end = cc in
    record {
      room = omega (arith, ltb-false r.after (r.stop + 4) b.test);
      within = omega (arith, (stands l at r f).within);
    }

pub counted : (l : List ℕ) (at : ℕ) (c : Part) → counts_at l at ≡ Some c → Counted l c
unfolding counts_at
counted l at c q = counted_in l at (framing l at) c refl q

-- ---- strings one after the other
module _ (l : List ℕ) (e p : ℕ) where
  pub strings_none : (n : ℕ) → n ≤ 0 → Some p ≡ after_strings l e n p
  unfolding after_strings
  strings_none zero h = refl
  strings_none (suc n) h = absurd (not-suc-le-zero h)

  pub strings_short : (n : ℕ) → 0 < n → string_stop l p e ≡ None → None ≡ after_strings l e n p
  unfolding after_strings
  strings_short zero h z = absurd (not-suc-le-zero h)
  strings_short (suc n) h z = sym (no_string l p e None _ z)

  pub strings_more : {q : ℕ} (n : ℕ) → 0 < n → string_stop l p e ≡ Some q → after_strings l e (n - 1) q ≡ after_strings l e n p
  unfolding after_strings
  strings_more zero h z = absurd (not-suc-le-zero h)
  strings_more {q} (suc n) h z =
      let m : suc n - 1 ≡ n = omega arith in
      let s = stops l p e q z in
      rw (m, s.is) (sym (a_string l p e None _ z))

-- what follows them stands within the part
pub strings_end : (l : List ℕ) (e n p q : ℕ) → p ≤ e → after_strings l e n p ≡ Some q → q ≤ e
unfolding after_strings
strings_end l e zero p q h z = let a : p ≡ q = cc in omega arith
strings_end l e (suc n) p q h z =
    let a = past (ltb e (p + 4)) _ _ _ (none-some q) z in
    let b = past (ltb e ((p + 4) + u32_at l p)) _ _ _ (none-some q) a.rest in
    strings_end l e n ((p + 4) + u32_at l p) q (ltb-false e ((p + 4) + u32_at l p) b.test) b.rest
