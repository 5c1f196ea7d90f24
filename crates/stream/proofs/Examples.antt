-- What is asked of a record, on closed bytes: two stub frames, and an assertion whose V is 2 and whose M is 1.
-- They are the frames of `$c wff $. $v x y z $. wx $f wff x $. wy $f wff y $. $d x y $. ax $a wff x $.`
use mathlib.Core.Path.{◌≡◌, refl}
use mathlib.Core.Bool.{true, false}
use mathlib.Core.List.{List, [], ◌∷◌, ◌++◌}
use Prim.Native.Nat.{ℕ}
use Rattle.std.specs.Prelude.{Some, None, Ok, Err}
use Rattle.paper.specs.Base.{codes, sameb, gather, table}
use Rattle.paper.specs.Expressions.{of_float}
use Rattle.paper.specs.Frames.{Full, stub, full}
use Rattle.paper.specs.Records.{le, u16, u32, string, framed, fragment_bytes, expression_bytes, hypothesis_bytes, pair_bytes, octet, row_bytes, full_payload, frame_record}
use Rattle.paper.specs.Lookup.{u16_at, u32_at, stub_if, label_of, search_from, look_up}
use Rattle.stream.specs.Framing.{label_from, label_by, label_in, framing}
use Rattle.stream.specs.Fields.{label_at, kind_at, counts_at, variables_at, mandatory_at, hypotheses_at, after_strings}
use Rattle.stream.specs.Facts.{facts_at}

abbrev assertion : Full
assertion =
    record {
      kind = 2;
      at = 62;
      label = codes "ax";
      variables = codes "x" ∷ codes "y" ∷ [];
      mandatory = 1;
      pool = [];
      hyps = of_float 22 0 (codes "wff") ∷ [];
      target = record { typecode = codes "wff"; fragments = record { from = 0; to = 0; variable = 0 } ∷ []; from = 0; to = 0 };
      pairs = [];
      rows = (false ∷ true ∷ []) ∷ (true ∷ false ∷ []) ∷ [];
    }

abbrev frames : List ℕ
frames =
    frame_record (stub 22 4294967295 (codes "wx") (codes "wff") (codes "x"))
    ++ (frame_record (stub 37 4294967295 (codes "wy") (codes "wff") (codes "y")) ++ frame_record (full assertion))

-- the bytes of the assertion
bytes : frame_record (full assertion) ≡
    84 ∷ 0 ∷ 0 ∷ 0 ∷ 2 ∷ 0 ∷ 62 ∷ 0 ∷ 0 ∷ 0 ∷ 2 ∷ 0 ∷ 0 ∷ 0 ∷ 97 ∷ 120 ∷ 2 ∷ 0 ∷ 1 ∷ 0 ∷ 1 ∷ 0 ∷ 0 ∷ 0 ∷ 120 ∷ 1 ∷ 0 ∷ 0
    ∷ 0 ∷ 121 ∷ 0 ∷ 0 ∷ 0 ∷ 0 ∷ 1 ∷ 0 ∷ 0 ∷ 0 ∷ 1 ∷ 0 ∷ 22 ∷ 0 ∷ 0 ∷ 0 ∷ 0 ∷ 0 ∷ 3 ∷ 0 ∷ 0 ∷ 0 ∷ 119 ∷ 102 ∷ 102 ∷ 3 ∷ 0 ∷ 0
    ∷ 0 ∷ 119 ∷ 102 ∷ 102 ∷ 1 ∷ 0 ∷ 0 ∷ 0 ∷ 0 ∷ 0 ∷ 0 ∷ 0 ∷ 0 ∷ 0 ∷ 0 ∷ 0 ∷ 0 ∷ 0 ∷ 0 ∷ 0 ∷ 0 ∷ 0 ∷ 0 ∷ 0 ∷ 0 ∷ 0 ∷ 0 ∷ 0
    ∷ 0 ∷ 0 ∷ 2 ∷ 1 ∷ []
unfolding le u16 u32 string framed gather table fragment_bytes expression_bytes hypothesis_bytes pair_bytes octet row_bytes full_payload frame_record
bytes = refl

-- what is asked of an assertion, of a stub frame, and where no record stands
asked : (facts_at frames 64 ≡ record { kind = Some 2; variables = Some 2; mandatory = Some 1; hypotheses = Some 1 })
    × (facts_at frames 32 ≡ record { kind = Some 4; variables = None; mandatory = None; hypotheses = None })
    × (facts_at frames 33 ≡ record { kind = None; variables = None; mandatory = None; hypotheses = None })
    × (label_at frames 32 ++ (label_at frames 33 ++ label_at frames 64) ≡ codes "wyax")
unfolding le u16 u32 string framed gather table fragment_bytes expression_bytes hypothesis_bytes pair_bytes octet row_bytes full_payload frame_record u16_at u32_at stub_if label_from label_by label_in framing label_at kind_at counts_at variables_at mandatory_at hypotheses_at after_strings
asked = (refl, refl, refl, refl)

-- look-up: a label that is there, one that is not, and a stream with a byte too many
answers : (look_up frames (codes "ax") ≡ Ok (Some 64)) × (look_up frames (codes "wx0") ≡ Ok None) × (look_up (frames ++ (0 ∷ [])) (codes "wx") ≡ Err (record { 0 = 152 }))
unfolding le u16 u32 string framed gather table fragment_bytes expression_bytes hypothesis_bytes pair_bytes octet row_bytes full_payload frame_record u16_at u32_at stub_if label_of sameb search_from look_up
answers = (refl, refl, refl)
