use mathlib.Core.Path.{◌≡◌, sym, ◌∙◌}
use native.Mathlib.Omega.{arith}
use Rattle.std.specs.Prelude.{option_copied}
use Rattle.paper.specs.Layout.{a_stub}
use Rattle.stream.proofs.Strings.{stops}
use Rattle.layout.specs.Cuts.{left}
use Rattle.layout.proofs.StubString.{stub_off, stub_not, stub_left}
use Rattle.layout.proofs.Ends.{ends_stub, ends_of}
use Rattle.layout.proofs.cut.after_stub.Goals as goal

pub returns-in_err-stop : goal.returns-in_err-stop
returns-in_err-stop c =
    record {
      value = rw c.from_residual.ensures (stub_off c.args.bytes.now (sym c.string_stop.ensures ∙ c.in_err-stop.was));
      ends = rw c.from_residual.ensures tt;
    }

pub slice_bounds-is_stub-count : goal.slice_bounds-is_stub-count
slice_bounds-is_stub-count c = let s = stops c.args.bytes.now 0 _ _ (sym c.string_stop.ensures ∙ c.in_ok-stop.was) in omega arith

pub slice_bounds-is_stub-start : goal.slice_bounds-is_stub-start
slice_bounds-is_stub-start c = let s = stops c.args.bytes.now 0 _ _ (sym c.string_stop.ensures ∙ c.in_ok-stop.was) in omega arith

pub slice_bounds-is_stub-end : goal.slice_bounds-is_stub-end
slice_bounds-is_stub-end c = let s = stops c.args.bytes.now 0 _ _ (sym c.string_stop.ensures ∙ c.in_ok-stop.was) in omega arith

pub returns-then-not-is_stub : goal.returns-then-not-is_stub
returns-then-not-is_stub c =
    record {
      value = stub_not c.args.bytes.now (sym c.string_stop.ensures ∙ c.in_ok-stop.was) (sym c.is_stub.ensures ∙ c.if-not-is_stub.true);
      ends = tt;
    }

pub returns : goal.returns
returns c =
    let e : option_copied c.after_part.result ≡ left (a_stub c.args.bytes.now) =
    c.after_part.ensures.value
    ∙ stub_left c.args.bytes.now (sym c.string_stop.ensures ∙ c.in_ok-stop.was) (sym c.is_stub.ensures ∙ c.if-not-is_stub.false) in
    record { value = e; ends = ends_of a_stub c.args.bytes.now c.after_part.result ends_stub e }
