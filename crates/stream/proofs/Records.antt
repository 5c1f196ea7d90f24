-- How many bytes records have, and records put together from their parts.
-- For the writers of records.
use mathlib.Core.Path.{◌≡◌, refl}
use mathlib.Core.List.{List, ◌++◌, append-nil}
use Prim.Native.Nat.{ℕ, ◌+◌}
use native.Mathlib.Omega.{arith}
use lib.ListN.{length, length-append}
use Rattle.paper.specs.Base.{gather}
use Rattle.paper.specs.Checks.{diag}
use Rattle.paper.specs.Frames.{stub}
use Rattle.paper.specs.Records.{le, u16, u32, string, diag_record, frame_record}
use Rattle.stream.specs.Wrote.{Wrote}
use Rattle.stream.specs.Diagnostic.{diagnostic}
use Rattle.stream.proofs.Wrote.{wrote_as, wrote_framed}

pub length_u16 : (n : ℕ) → length (u16 n) ≡ 2
unfolding u16 le
length_u16 n = refl

pub length_u32 : (n : ℕ) → length (u32 n) ≡ 4
unfolding u32 le
length_u32 n = refl

pub length_string : (b : List ℕ) → length (string b) ≡ 4 + length b
unfolding string
length_string b = simp (length-append, length_u32)

-- the payload of a stub frame
abbrev pub stub_payload : ℕ → ℕ → List ℕ → List ℕ → List ℕ → List ℕ
stub_payload o e n c v = u32 o ++ (u32 e ++ (string n ++ (string c ++ string v)))

length_stub : (o e : ℕ) (n c v : List ℕ) → length (stub_payload o e n c v) ≡ 20 + (length n + (length c + length v))
length_stub o e n c v = simp (length-append, length_u32, length_string) (omega arith)

pub wrote_stub : {l m k : List ℕ} {at p r s : ℕ} (o e : ℕ) (n c v : List ℕ) → s ≡ 22 + length n + length c + length v
    → Wrote l m at p (u32 s) → Wrote m k p r (u16 4 ++ stub_payload o e n c v) → Wrote l k at r (frame_record (stub o e n c v))
unfolding frame_record
wrote_stub o e n c v q x y = wrote_framed 4 (stub_payload o e n c v) x y (omega (arith, length_stub o e n c v))

-- one diagnostic as a list of them
pub wrote_diag : {l m : List ℕ} {at r : ℕ} (k s i o : ℕ) → Wrote l m at r (diag_record (diagnostic k s i o)) → Wrote l m at r (gather diag_record (diag k s i o))
unfolding gather
wrote_diag k s i o w = wrote_as w (append-nil (diag_record (diagnostic k s i o)))
