use mathlib.Core.Path.{◌≡◌, sym, ◌∙◌}
use native.Mathlib.Omega.{arith}
use Rattle.std.specs.Prelude.{option_copied}
use Rattle.paper.specs.Layout.{part, times, a_string, names_part}
use Rattle.layout.specs.Cuts.{left}
use Rattle.layout.proofs.Left.{some_left, none_left, parted, left_then, none_then, left_whole, names_passed}
use Rattle.layout.proofs.Ends.{ends_names, ends_of}
use Rattle.layout.proofs.cut.after_names.Goals as goal

pub returns-in_err-rest : goal.returns-in_err-rest
unfolding names_part
returns-in_err-rest c =
    record {
      value = rw c.from_residual.ensures
          (sym (none_then _ a_string (left_whole _ ∙ none_then (part 4 c.args.bytes.now) _ (none_left _ c.after_part.ensures.value c.in_err-rest.was))));
      ends = rw c.from_residual.ensures tt;
    }

pub u16_at-requires : goal.u16_at-requires
u16_at-requires c = let p = parted 4 c.args.bytes.now c.in_ok-rest.rest.now (some_left _ c.after_part.ensures.value c.in_ok-rest.was) in omega (arith, p.room)

pub returns-in_err-pool : goal.returns-in_err-pool
unfolding names_part
returns-in_err-pool c =
    record {
      value = rw c.from_residual-in_err-pool.ensures
          (sym (none_then _ a_string
          (names_passed c.args.bytes.now c.u16_at.result c.u16_at.ensures.1 (some_left _ c.after_part.ensures.value c.in_ok-rest.was)
          ∙ none_left (times c.u16_at.result a_string c.in_ok-rest.rest.now) c.after_strings.ensures.value c.in_err-pool.was)));
      ends = rw c.from_residual-in_err-pool.ensures tt;
    }

pub returns : goal.returns
unfolding names_part
returns c =
    let e : option_copied c.after_string.result ≡ left (names_part c.args.bytes.now) =
    c.after_string.ensures.value
    ∙ sym (left_then _ a_string
    (names_passed c.args.bytes.now c.u16_at.result c.u16_at.ensures.1 (some_left _ c.after_part.ensures.value c.in_ok-rest.was)
    ∙ some_left (times c.u16_at.result a_string c.in_ok-rest.rest.now) c.after_strings.ensures.value c.in_ok-pool.was)) in
    record { value = e; ends = ends_of names_part c.args.bytes.now c.after_string.result ends_names e }
