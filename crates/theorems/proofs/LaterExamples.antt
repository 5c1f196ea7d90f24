-- The closed examples of A13, computed.
-- Every shut definition on the way is opened here.
use mathlib.Core.Path.{◌≡◌, refl, ap}
use mathlib.Core.List.{List}
use Prim.Native.Nat.{ℕ, ◌<◌}
use native.Mathlib.Omega.{arith}
use lib.ListN.{get_or, length, length-append}
use Rattle.paper.specs.Base.{sameb, all, any, keep, find, latest, gather, table}
use Rattle.paper.specs.Bytes.{white, printable, label_byte, math_byte}
use Rattle.paper.specs.Tokens.{run, toks, tokens, label_token, math_token, key, bad_from}
use Rattle.paper.specs.Lines.{feeds, line_at}
use Rattle.paper.specs.Comments.{after, bracketed, visible}
use Rattle.paper.specs.Statements.{outermost, closers, ends}
use Rattle.paper.specs.Reader.{allow, many, items, words, reading}
use Rattle.paper.specs.Names.{labels, owner, declared, global}
use Rattle.paper.specs.State.{view, nested_of, float_of, sense}
use Rattle.paper.specs.Checks.{each, check_label, check_outer, verdict, records, nested_records, nested_diags, check_float, check_expression, first_index, check_disjoint}
use Rattle.paper.specs.Variables.{formula, sights, variables_of, index, mandatory}
use Rattle.paper.specs.Expressions.{raised, pool_of, fragments, rump, expression, hypotheses}
use Rattle.paper.specs.Pairs.{in_order, pairs_in, new_pairs, pairs, rows}
use Rattle.paper.specs.Frames.{frame_of}
use Rattle.paper.specs.Give.{give_c, give_v, give_d, give_f, give_e, give_assertion, give, gives, all_given}
use Rattle.paper.specs.Records.{le, u16, u32, string, framed, diag_record, fragment_bytes, expression_bytes, hypothesis_bytes, pair_bytes, octet, row_bytes, full_payload, frame_record, frame_records, diag_records, frame_stream, diag_stream}
use Rattle.paper.specs.Answer.{written, outcome, answer, laid}
use Rattle.paper.specs.Lookup.{u16_at, u32_at}
use Rattle.paper.specs.declared.Setting.{Setting}
use Rattle.paper.proofs.Tests.{clash}
use Rattle.theorems.specs.Later.{names_nested, Initial, Undisturbed}
use Rattle.theorems.specs.LaterExamples.{frames_out, LaterExamples}

-- an initial part is no longer than the whole
no_longer : {x y : List ℕ} → Initial x y → length y < length x → ⊥
no_longer {x} {y} i h = omega (arith, ap length i.whole, length-append x i.more)

undisturbed : {c : Setting} {t u : List ℕ} {w f d w' f' d' : ℕ} → Undisturbed c t u w f d w' f' d'
    → Initial (frames_out (outcome c t w f d)) (frames_out (outcome c u w' f' d'))
undisturbed x = rw (x.first_are, x.second_are) x.frames

pub later_examples : LaterExamples
unfolding sameb all any keep find latest gather table white printable label_byte math_byte run toks tokens label_token math_token key bad_from feeds line_at after bracketed visible outermost closers ends allow many items words reading labels owner declared global view nested_of float_of sense each check_label check_outer verdict records nested_records nested_diags check_float check_expression first_index check_disjoint formula sights variables_of index raised pool_of fragments rump expression hypotheses in_order pairs_in new_pairs pairs rows mandatory frame_of give_c give_v give_d give_f give_e give_assertion give gives all_given le u16 u32 string framed diag_record fragment_bytes expression_bytes hypothesis_bytes pair_bytes octet row_bytes full_payload frame_record frame_records diag_records frame_stream diag_stream written outcome answer laid u16_at u32_at names_nested
later_examples =
    record {
      constant_needed =
          record {
            follows = record { space = 32; is_white = refl; more = _; text = refl; done = refl; done_too = refl };
            not_quiet = λ e. clash e;
            fails = λ x. no_longer (undisturbed x) (omega arith);
          };
      space_left_out =
          record {
            follows = record { space = 32; is_white = refl; more = _; text = refl; done = refl; done_too = refl };
            is_quiet = refl;
            is_refused = refl;
          };
      diags_not_covered =
          record {
            follows = record { space = 32; is_white = refl; more = _; text = refl; done = refl; done_too = refl };
            is_quiet = refl;
            fails = λ i. let z : ◌≡◌ {A = ℕ} 5 2 = ap (λ (l : List ℕ). get_or l 4 0) i.whole in omega arith;
          };
      group_added =
          record {
            follows = record { space = 32; is_white = refl; more = _; text = refl; done = refl; done_too = refl };
            is_quiet = refl;
            before = refl;
            after = refl;
            frames = record { more = _; whole = refl };
          };
      variable_added =
          record {
            follows = record { space = 32; is_white = refl; more = _; text = refl; done = refl; done_too = refl };
            is_quiet = refl;
            before = refl;
            after = refl;
            frames = record { more = _; whole = refl };
          };
      nothing_added =
          record {
            follows = record { space = 32; is_white = refl; more = _; text = refl; done = refl; done_too = refl };
            is_quiet = refl;
            before = refl;
            after = refl;
            frames = record { more = _; whole = refl };
          };
    }
