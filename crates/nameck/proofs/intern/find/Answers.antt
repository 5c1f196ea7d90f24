use mathlib.Core.Path.{◌≡◌, refl, sym, ◌∙◌}
use Prim.Native.Nat.{ℕ, ◌-◌, ◌*◌, ◌<◌}
use mathlib.Core.Bool.{Bool}
use native.Mathlib.Omega.{arith}
use Rattle.area.specs.Cells.{word}
use Rattle.nameck.specs.Links.{link}
use Rattle.nameck.proofs.Search.{spans_fewer}
use Rattle.nameck.proofs.Links.{link_in, head_in}
use Rattle.nameck.proofs.Found.{walk_begin, walk_step, walk_found, walk_none, walk_ended}
use Rattle.nameck.proofs.intern.find.Goals as goal

-- a link's cell is inside the area
link_below : (n i : ℕ) (f : Bool) {x : ℕ} → i < n → x ≡ link n i f → x < 15 * n
link_below n i f a e = rw e (link_in n i f a).1

pub loop-before-init : goal.loop-before-init
loop-before-init c = (
  omega (arith, c.head-cell.ensures, head_in c.args.n c.args.name.bytes.now c.requires.2),
  walk_begin c.requires.1 c.requires.2 _ c.head-cell.ensures refl,
)

pub offset_bounds-work-cell : goal.offset_bounds-work-cell
offset_bounds-work-cell c = omega (arith, c.requires.0.small)

pub bounds-work-cell : goal.bounds-work-cell
bounds-work-cell c = omega (arith, c.requires.0.room)

pub is_named-requires : goal.is_named-requires
unfolding word
is_named-requires c =
    spans_fewer (omega (arith, c.in-Some.ensures, c.loop-before.invariant.1.within)) c.requires.0

pub returns-then-is_named : goal.returns-then-is_named
unfolding word
returns-then-is_named c =
    let e : c.in-Some.before ≡ word c.args.work.now c.loop-before.cell - 1 =
    omega (arith, c.in-Some.ensures, c.loop-before.invariant.1.within, c.requires.0.rows, c.requires.0.small) in
    rw e
    (walk_found _ c.requires.1 c.requires.2 c.loop-before.invariant.1 (λ z. omega (arith, z, c.in-Some.ensures.0))
    (rw e at (sym c.is_named.ensures ∙ c.if-is_named.true)))

pub overflow_add-d : goal.overflow_add-d
unfolding word
overflow_add-d c =
    omega (
      arith,
      c.loop-before.invariant.1.deep (λ z. omega (arith, z, c.in-Some.ensures.0)),
      c.loop-before.invariant.1.within,
      c.requires.0.rows,
      c.requires.0.small,
    )

pub loop-before-smaller : goal.loop-before-smaller
unfolding word
loop-before-smaller c =
    omega (
      arith,
      c.loop-before.invariant.1.deep (λ z. omega (arith, z, c.in-Some.ensures.0)),
      c.loop-before.invariant.1.within,
    )

pub loop-before-preserved : goal.loop-before-preserved
unfolding word
loop-before-preserved c =
    let e : c.in-Some.before ≡ word c.args.work.now c.loop-before.cell - 1 =
    omega (arith, c.in-Some.ensures, c.loop-before.invariant.1.within, c.requires.0.rows, c.requires.0.small) in (
      link_below c.args.n _ _ (omega (arith, c.in-Some.ensures, c.loop-before.invariant.1.within, c.requires.0.rows)) c.link_of-cell.ensures,
      walk_step c.requires.1 c.requires.2 _ c.loop-before.invariant.1 (λ z. omega (arith, z, c.in-Some.ensures.0))
          (rw e at (sym c.is_named.ensures ∙ c.if-is_named.false))
          (c.link_of-cell.ensures ∙ rw (e, c.fork_at.ensures)) refl,
    )

pub returns : goal.returns
unfolding word
returns c = (
  walk_none _ c.requires.1 c.requires.2 c.loop-before.invariant.1 (omega (arith, c.in_default.ensures)),
  walk_ended _ c.requires.1 c.requires.2 c.loop-before.invariant.1 (omega (arith, c.in_default.ensures)),
)
