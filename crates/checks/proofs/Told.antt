-- One diagnostic written, or none: what a function that writes by what it found promises.
-- Assumes nothing.
use mathlib.Core.Path.{◌≡◌, ap}
use mathlib.Core.List.{List, [], ◌++◌}
use Prim.Native.Nat.{ℕ, ◌+◌, ◌≤◌}
use native.Mathlib.Omega.{arith}
use Rattle.paper.specs.Base.{gather}
use Rattle.paper.specs.Checks.{Diag, diag}
use Rattle.paper.specs.Records.{diag_record}
use Rattle.paper.proofs.Lists.{gather_append}
use Rattle.stream.specs.Wrote.{Wrote, WroteOrKept}
use Rattle.stream.specs.Diagnostic.{diagnostic}
use Rattle.stream.proofs.Wrote.{wrote_none, wrote_then, wrote_as}
use Rattle.stream.proofs.Records.{wrote_diag}

pub told :
    {out out' : List ℕ} {at q : ℕ} {d : List Diag} (k s i o : ℕ)
    → (q ≡ at + 18) × WroteOrKept out out' at q (diag_record (diagnostic k s i o)) → d ≡ diag k s i o
    → (q ≤ at + 18) × Wrote out out' at q (gather diag_record d)
told k s i o w e = (omega (arith, w.0), wrote_as (wrote_diag k s i o w.1.wrote) (ap (gather diag_record) e))

pub silent : {out : List ℕ} {at : ℕ} {d : List Diag} → d ≡ [] → (at ≤ at + 18) × Wrote out out at at (gather diag_record d)
unfolding gather
silent {out} {at} e = (omega arith, rw e (wrote_none out at))

-- some diagnostics and then others
pub told_then : {out out₁ out₂ : List ℕ} {at p q : ℕ} (d e : List Diag) → Wrote out out₁ at p (gather diag_record d) → Wrote out₁ out₂ p q (gather diag_record e)
    → Wrote out out₂ at q (gather diag_record (d ++ e))
told_then d e x y = wrote_as (wrote_then x y) (gather_append diag_record d e)

pub told_none : (out : List ℕ) (at : ℕ) → Wrote out out at at (gather diag_record [])
unfolding gather
told_none out at = wrote_none out at
