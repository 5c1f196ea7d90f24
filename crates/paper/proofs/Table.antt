-- How the tables of texts are written: a text with the buffers that are lent, and what is to come of it.
-- Bytes are written in hex, as in document 01.
use mathlib.Core.List.{List, [], ◌∷◌}
use Prim.Native.Nat.{ℕ, ◌+◌, ◌-◌, ◌*◌}
use Prim.Native.String.{String}
use lib.Dec.{eqb, ltb}
use lib.ListN.{length, replicate}
use Rattle.paper.specs.Answer.{number, place, frames_used, diags_used, written, outcome, answer, laid, frames_exit, diags_exit, work_exit}
use Rattle.paper.specs.Base.{choose, not, codes, sameb, all, any, keep, find, latest, gather, table}
use Rattle.paper.specs.Bytes.{white, printable, label_byte, math_byte}
use Rattle.paper.specs.Checks.{each, check_label, check_outer, verdict, records, nested_records, nested_diags, check_float, check_expression, first_index, check_disjoint}
use Rattle.paper.specs.Comments.{after, bracketed, visible}
use Rattle.paper.specs.Variables.{formula, sights, variables_of, index, mandatory}
use Rattle.paper.specs.Expressions.{raised, pool_of, fragments, rump, expression, hypotheses}
use Rattle.paper.specs.Pairs.{in_order, pairs_in, new_pairs, pairs, rows}
use Rattle.paper.specs.Frames.{frame_of}
use Rattle.paper.specs.Give.{give_c, give_v, give_d, give_f, give_e, give_assertion, give, gives, all_given}
use Rattle.paper.specs.Names.{labels, owner, declared, global}
use Rattle.paper.specs.Reader.{allow, many, items, words, reading}
use Rattle.paper.specs.Records.{le, u16, u32, string, framed, diag_record, fragment_bytes, expression_bytes, hypothesis_bytes, pair_bytes, octet, row_bytes, full_payload, frame_record, frame_records, diag_records, frame_stream, diag_stream}
use Rattle.paper.specs.State.{view, nested_of, float_of, sense}
use Rattle.paper.specs.Statements.{outermost, closers, ends}
use Rattle.paper.specs.declared.Setting.{Setting}
use Rattle.paper.specs.declared.Setting.TheVariants.{Full}
use Rattle.paper.specs.Tokens.{run, toks, tokens, label_token, math_token, key, bad_from}

-- a text, and at entry the work area, the frame buffer and the diagnostics buffer
pub data Lent : Type 0 where
  lent : List ℕ → List ℕ → List ℕ → List ℕ → Lent

-- number, place, used lengths of frames and of diagnostics; and at exit the frame buffer, the diagnostics buffer and
-- the work area
pub data Result : Type 0 where
  result : ℕ → ℕ → ℕ → ℕ → List ℕ → List ℕ → List ℕ → Result

infix 20 ◌gives◌
pub data Case : Type 0 where
  ◌gives◌ : Lent → Result → Case

abbrev pub expected : Case → Result
expected (l gives r) = r

-- what the definitions say. Whoever unfolds this unfolds every definition on the way
unfoldable pub operation : Setting → Lent → Result
unfolding written outcome answer laid frames_exit diags_exit work_exit sameb all any keep find latest gather
    table white printable label_byte math_byte each check_label check_outer verdict records nested_records
    nested_diags check_float check_expression first_index check_disjoint after bracketed visible formula sights
    variables_of index raised pool_of fragments rump expression hypotheses in_order pairs_in new_pairs pairs
    rows mandatory frame_of give_c give_v give_d give_f give_e give_assertion give gives all_given labels
    owner declared global allow many items words reading le u16 u32 string framed diag_record fragment_bytes
    expression_bytes hypothesis_bytes pair_bytes octet row_bytes full_payload frame_record frame_records
    diag_records frame_stream diag_stream view nested_of float_of sense outermost closers ends run toks tokens
    label_token math_token key bad_from
operation c (lent t w f d) =
    let a = answer c t (length w) (length f) (length d) in
    result (number a) (place a) (frames_used a) (diags_used a) (frames_exit c t w f d) (diags_exit c t w f d) (work_exit w)

-- under a setting; document 01's own frames are the full ones
abbrev pub computed_as : Setting → Case → Result
computed_as c (l gives r) = operation c l

abbrev pub computed : Case → Result
computed x = computed_as Full x

-- a buffer at entry: n bytes or words that are no zeros
abbrev pub old : ℕ → List ℕ
old n = replicate n 7

abbrev pub zeros : ℕ → List ℕ
zeros n = replicate n 0

-- the value of a digit 0 to 9 or A to F, by its code
abbrev digit : ℕ → ℕ
digit c = choose (ltb c 58) (c - 48) (c - 55)

abbrev pub hex_pairs : List ℕ → List ℕ
hex_pairs [] = []
hex_pairs (a ∷ []) = []
hex_pairs (a ∷ b ∷ l) = (16 * digit a + digit b) ∷ hex_pairs l

-- the bytes of some lines of hex; blanks only part the fields
unfoldable pub hex : List String → List ℕ
unfolding keep gather
hex l = hex_pairs (keep (λ c. not (eqb c 32)) (gather codes l))
