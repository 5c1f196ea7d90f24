-- The closed examples of demand 3, computed.
-- Every shut definition on the way is opened here.
use mathlib.Core.Path.{◌≡◌, refl, sym, ap, ◌∙◌}
use mathlib.Core.List.{List, []}
use Prim.Native.Nat.{ℕ}
use native.Mathlib.Omega.{arith}
use lib.ListN.{get_or, length}
use Rattle.paper.specs.Base.{sameb, all, any, keep, find, latest, gather, table}
use Rattle.paper.specs.Bytes.{white, printable, label_byte, math_byte}
use Rattle.paper.specs.Tokens.{run, toks, tokens, label_token, math_token, key, bad_from}
use Rattle.paper.specs.Comments.{after, bracketed, visible}
use Rattle.paper.specs.Statements.{outermost, Item, closers, ends}
use Rattle.paper.specs.Reader.{Outcome, refused, given, allow, many, items, words, reading}
use Rattle.paper.specs.Names.{labels, owner, declared, global}
use Rattle.paper.specs.State.{view, nested_of, float_of, sense}
use Rattle.paper.specs.Checks.{each, check_label, check_outer, verdict, records, nested_records, nested_diags, check_float, check_expression, first_index, check_disjoint}
use Rattle.paper.specs.Variables.{formula, sights, variables_of, index, mandatory}
use Rattle.paper.specs.Expressions.{raised, pool_of, fragments, rump, expression, hypotheses}
use Rattle.paper.specs.Pairs.{in_order, pairs_in, new_pairs, pairs, rows}
use Rattle.paper.specs.Frames.{frame_of}
use Rattle.paper.specs.Give.{give_c, give_v, give_d, give_f, give_e, give_assertion, give, gives, all_given}
use Rattle.paper.specs.Records.{le, u16, u32, string, framed, diag_record, fragment_bytes, expression_bytes, hypothesis_bytes, pair_bytes, octet, row_bytes, full_payload, frame_record, frame_records, diag_records, frame_stream, diag_stream}
use Rattle.paper.specs.Answer.{Streams, written, outcome, answer, laid}
use Rattle.paper.specs.Lookup.{u16_at, u32_at}
use Rattle.paper.specs.declared.Setting.TheVariants.{Full}
use Rattle.theorems.specs.Groups.{closer, blanked}
use Rattle.theorems.specs.TakenOut.{walk, taken_out, records_from, records_in}
use Rattle.theorems.specs.Demand3.{Blanked}
use Rattle.theorems.specs.Examples.{buffer, outcome_of, label_text, symbol_text, without, nested_text, variable_text, comment_text, Examples}

-- the items of a text that is read
abbrev read_of : Outcome (List Item) → List Item
read_of (refused r) = []
read_of (given i) = i

abbrev items_of : List ℕ → List Item
items_of t = read_of (items (tokens t) (length t))

-- the kind of the first diagnostic
abbrev first_kind : Outcome Streams → ℕ
first_kind (refused r) = 0
first_kind (given s) = get_or s.diags 4 0

same_kind : {t : List ℕ} {p q : ℕ} → Blanked Full t buffer buffer buffer p q
    → first_kind (outcome_of (blanked t p q)) ≡ first_kind (without p q (outcome_of t))
same_kind {p = p} {q = q} b = ap first_kind (b.are ∙ sym (ap (without p q) b.were))

pub examples : Examples
unfolding sameb all any keep find latest gather table white printable label_byte math_byte run toks tokens label_token math_token key bad_from after bracketed visible outermost closers ends allow many items words reading labels owner declared global view nested_of float_of sense each check_label check_outer verdict records nested_records nested_diags check_float check_expression first_index check_disjoint formula sights variables_of index raised pool_of fragments rump expression hypotheses in_order pairs_in new_pairs pairs rows mandatory frame_of give_c give_v give_d give_f give_e give_assertion give gives all_given le u16 u32 string framed diag_record fragment_bytes expression_bytes hypothesis_bytes pair_bytes octet row_bytes full_payload frame_record frame_records diag_records frame_stream diag_stream written outcome answer laid u16_at u32_at closer blanked walk taken_out records_from records_in
examples =
    record {
      labels_needed =
          record {
            done = refl;
            group = record { read = items_of label_text; reads = refl; own = refl };
            half = λ n e. refl;
            fails = λ b. let z : ◌≡◌ {A = ℕ} 2 1 = same_kind b in omega arith;
          };
      symbols_needed =
          record {
            done = refl;
            group = record { read = items_of symbol_text; reads = refl; own = refl };
            half = λ n e. refl;
            fails = λ b. let z : ◌≡◌ {A = ℕ} 0 5 = same_kind b in omega arith;
          };
      inner_group =
          record {
            group = record { read = items_of nested_text; reads = refl; own = refl };
            before = refl;
            after = refl;
            streams = refl;
          };
      outer_group =
          record {
            group = record { read = items_of nested_text; reads = refl; own = refl };
            before = refl;
            after = refl;
            streams = refl;
          };
      nested_variable =
          record {
            group = record { read = items_of variable_text; reads = refl; own = refl };
            before = refl;
            after = refl;
            streams = refl;
          };
      comment_group =
          record {
            group = record { read = items_of comment_text; reads = refl; own = refl };
            before = refl;
            after = refl;
            streams = refl;
          };
      empty_group =
          record {
            group = record { read = items_of comment_text; reads = refl; own = refl };
            before = refl;
            after = refl;
            streams = refl;
          };
    }
