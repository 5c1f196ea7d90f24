-- Record streams. Numbers are little-endian, length first. Record: u32 length of what follows, u16 kind, payload.
-- String: u32 length, bytes.
use Rattle.std.specs.Prelude.{Bool, List, [], ◌∷◌, ◌++◌, ℕ, zero, suc, ◌+◌, ◌*◌, ◌/◌, ◌%◌, length, take, drop}
use Rattle.paper.specs.Base.{choose, gather, table}
use Rattle.paper.specs.Checks.{Diag}
use Rattle.paper.specs.Expressions.{Fragment, Expression, Hypothesis, of_float, of_essential}
use Rattle.paper.specs.Pairs.{Pair}
use Rattle.paper.specs.Frames.{Full, Frame, stub, full, frame_as}
use Rattle.paper.specs.Give.{Given}
use Rattle.paper.specs.Steps.{Ending, right, wrong, incomplete, exceeds}
use Rattle.paper.specs.Verdicts.{ProofEnd}
use Rattle.paper.specs.declared.Setting.{Setting}

-- the k lowest bytes of n
unfoldable pub le : ℕ → ℕ → List ℕ
le zero n = []
le (suc k) n = n % 256 ∷ le k (n / 256)

unfoldable pub u16 : ℕ → List ℕ
u16 n = le 2 n

unfoldable pub u32 : ℕ → List ℕ
u32 n = le 4 n

unfoldable pub string : List ℕ → List ℕ
string b = u32 (length b) ++ b

unfoldable pub framed : ℕ → List ℕ → List ℕ
framed k p = u32 (2 + length p) ++ (u16 k ++ p)

-- ---- Diagnostic: length 14, u16 kind, u32 statement, u32 token index, u32 other
unfoldable pub diag_record : Diag → List ℕ
diag_record d = framed d.kind (u32 d.statement ++ (u32 d.index ++ u32 d.other))

-- ---- Expression: typecode, u32 fragment count, per fragment u32 prefix start, u32 prefix end, u16 variable; then u32
-- rump start, u32 rump end
unfoldable pub fragment_bytes : Fragment → List ℕ
fragment_bytes f = u32 f.from ++ (u32 f.to ++ u16 f.variable)

unfoldable pub expression_bytes : Expression → List ℕ
expression_bytes x =
    string x.typecode
    ++ (u32 (length x.fragments) ++ (gather fragment_bytes x.fragments ++ (u32 x.from ++ u32 x.to)))

-- ---- Hypothesis: u16 1, u32 offset, u16 variable, typecode; or u16 2, u32 offset, expression
unfoldable pub hypothesis_bytes : Hypothesis → List ℕ
hypothesis_bytes (of_float o v c) = u16 1 ++ (u32 o ++ (u16 v ++ string c))
hypothesis_bytes (of_essential o x) = u16 2 ++ (u32 o ++ expression_bytes x)

unfoldable pub pair_bytes : Pair → List ℕ
pair_bytes p = u16 p.left ++ u16 p.right

-- ---- rows of V/8 bytes rounded up (bit j mod 8, lowest first, of byte j/8; spare bits 0)
unfoldable pub octet : List Bool → ℕ
octet [] = 0
octet (b ∷ l) = choose b 1 0 + 2 * octet l

unfoldable pub row_bytes : List Bool → List ℕ
row_bytes r = table (λ k. octet (take 8 (drop (8 * k) r))) ((length r + 7) / 8)

-- ---- Kind 2 (`$a`), 3 (`$p`): u32 offset, label, u16 V, u16 M, V variable strings, pool string, u32 hypothesis count,
-- hypotheses, target expression, u32 pair count, pairs of u16, V rows
unfoldable pub full_payload : Full → List ℕ
full_payload f =
    u32 f.at
    ++ (string f.label
    ++ (u16 (length f.variables)
    ++ (u16 f.mandatory
    ++ (gather string f.variables
    ++ (string f.pool
    ++ (u32 (length f.hyps)
    ++ (gather hypothesis_bytes f.hyps
    ++ (expression_bytes f.target
    ++ (u32 (length f.pairs)
    ++ (gather pair_bytes f.pairs ++ gather row_bytes f.rows))))))))))

-- ---- Kind 4 (`$f`): u32 start, u32 end, label, typecode, plain variable string (A10 of document 02)
unfoldable pub frame_record : Frame → List ℕ
frame_record (stub o e n c v) = framed 4 (u32 o ++ (u32 e ++ (string n ++ (string c ++ string v))))
frame_record (full f) = framed f.kind (full_payload f)

-- ---- Both streams go in text order, diagnostics of one statement in order of discovery
-- with the frames as the setting c has them
unfoldable pub frame_records : Setting → Given → List ℕ
frame_records c g = gather (λ x. frame_record (frame_as c x)) g.frame

unfoldable pub diag_records : Given → List ℕ
diag_records g = gather diag_record g.diags

unfoldable pub frame_stream : Setting → List Given → List ℕ
frame_stream c l = gather (frame_records c) l

unfoldable pub diag_stream : List Given → List ℕ
diag_stream l = gather diag_records l

-- ---- Verdict (document 02, A1): length 10, u16 1 right, 2 wrong, 3 incomplete (`?`), u32 statement, u32 step from 1 (0 if
-- right). A proof that exceeds the stack has none
abbrev pub verdict_bytes : ℕ → Ending → List ℕ
verdict_bytes o right = framed 1 (u32 o ++ u32 0)
verdict_bytes o (wrong i) = framed 2 (u32 o ++ u32 i)
verdict_bytes o (incomplete i) = framed 3 (u32 o ++ u32 i)
verdict_bytes o exceeds = []

unfoldable pub verdict_record : ProofEnd → List ℕ
verdict_record x = verdict_bytes x.at x.ending

unfoldable pub verdict_stream : List ProofEnd → List ℕ
verdict_stream l = gather verdict_record l
