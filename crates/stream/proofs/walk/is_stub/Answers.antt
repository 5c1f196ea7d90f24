use mathlib.Core.Path.{◌≡◌, sym, ap, ◌∙◌}
use mathlib.Core.List.{[], ◌∷◌, ◌++◌}
use Rattle.std.proofs.lemmas.List.{drop_all}
use Rattle.std.proofs.lemmas.List.Folds.{list_all_at}
use Rattle.std.specs.List.{list_all}
use borrow.Author.Tests.{le-ltb}
use Rattle.stream.proofs.Stubs.{low, stub_part, stub_last, stub_none}
use Rattle.stream.proofs.walk.is_stub.Goals as goal

pub returns-in_default : goal.returns-in_default
returns-in_default c = stub_none c.args.bytes.now c.in_default.ensures.cases

pub returns-then-byte-ge128 : goal.returns-then-byte-ge128
returns-then-byte-ge128 c =
    let front = c.in-Some.front.now in
    let last = c.in-Some.last.now in
    let e : c.args.bytes.now ≡ front ++ (last ∷ []) = c.in-Some.ensures.cases.0 in
    rw e (stub_part front last (list_all_at low front c.loop-byte.byte-index 0 c.loop-byte-test.true (le-ltb _ 128 c.if-byte-ge128.true)))

pub returns : goal.returns
returns c =
    let front = c.in-Some.front.now in
    let last = c.in-Some.last.now in
    let e : c.args.bytes.now ≡ front ++ (last ∷ []) = c.in-Some.ensures.cases.0 in
    rw e (stub_last front last (sym c.loop-byte.invariant ∙ ap (list_all low) (drop_all c.loop-byte.byte-index front c.loop-byte-test.false)))
