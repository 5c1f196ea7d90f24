use mathlib.Core.Path.{sym, ◌∙◌}
use Prim.Native.Nat.{◌+◌}
use native.Mathlib.Omega.{arith}
use borrow.Author.Tests.{lt-ltb, le-ltb}
use Rattle.stream.specs.Fields.{hypotheses_at}
use Rattle.stream.proofs.Fields.{counted, strings_end}
use Rattle.stream.proofs.field.hypotheses_at.Goals as goal

pub returns-in_err-counts : goal.returns-in_err-counts
unfolding hypotheses_at
returns-in_err-counts c = rw (sym c.counts_at.ensures ∙ c.in_err-counts.was) c.from_residual.ensures

pub u16_at-strings-requires : goal.u16_at-strings-requires
u16_at-strings-requires c = let h = counted _ _ _ (sym c.counts_at.ensures ∙ c.in_ok-counts.was) in omega arith

pub overflow_add-counts : goal.overflow_add-counts
overflow_add-counts c = let h = counted _ _ _ (sym c.counts_at.ensures ∙ c.in_ok-counts.was) in omega arith

pub after_strings-requires : goal.after_strings-requires
after_strings-requires c = let h = counted _ _ _ (sym c.counts_at.ensures ∙ c.in_ok-counts.was) in (h.room, h.within)

pub returns-in_err-place : goal.returns-in_err-place
unfolding hypotheses_at
returns-in_err-place c =
    rw (sym c.counts_at.ensures ∙ c.in_ok-counts.was, ← c.u16_at-strings.ensures.1, sym c.after_strings.ensures ∙ c.in_err-place.was)
    c.from_residual-in_err-place.ensures

pub overflow_sub-counts : goal.overflow_sub-counts
overflow_sub-counts c =
    let h = counted _ _ _ (sym c.counts_at.ensures ∙ c.in_ok-counts.was) in
    strings_end _ _ _ _ _ h.room (sym c.after_strings.ensures ∙ c.in_ok-place.was)

pub returns-then-counts-place-lt4 : goal.returns-then-counts-place-lt4
unfolding hypotheses_at
returns-then-counts-place-lt4 c =
    let h = counted _ _ _ (sym c.counts_at.ensures ∙ c.in_ok-counts.was) in
    let s = strings_end _ _ _ _ _ h.room (sym c.after_strings.ensures ∙ c.in_ok-place.was) in
    rw (
      sym c.counts_at.ensures ∙ c.in_ok-counts.was,
      ← c.u16_at-strings.ensures.1,
      sym c.after_strings.ensures ∙ c.in_ok-place.was,
      lt-ltb c.in_ok-counts.counts.end (c.in_ok-place.place + 4) (omega arith),
    )

pub u32_at-requires : goal.u32_at-requires
u32_at-requires c =
    let h = counted _ _ _ (sym c.counts_at.ensures ∙ c.in_ok-counts.was) in
    let s = strings_end _ _ _ _ _ h.room (sym c.after_strings.ensures ∙ c.in_ok-place.was) in
    omega arith

pub returns : goal.returns
unfolding hypotheses_at
returns c =
    let h = counted _ _ _ (sym c.counts_at.ensures ∙ c.in_ok-counts.was) in
    let s = strings_end _ _ _ _ _ h.room (sym c.after_strings.ensures ∙ c.in_ok-place.was) in
    rw (
      sym c.counts_at.ensures ∙ c.in_ok-counts.was,
      ← c.u16_at-strings.ensures.1,
      sym c.after_strings.ensures ∙ c.in_ok-place.was,
      le-ltb c.in_ok-counts.counts.end (c.in_ok-place.place + 4) (omega arith),
      c.u32_at.ensures.1,
    )
