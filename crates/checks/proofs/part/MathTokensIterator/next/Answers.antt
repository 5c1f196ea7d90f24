use mathlib.Core.Path.{refl, ap}
use native.Mathlib.Omega.{arith}
use Rattle.paper.specs.Tokens.{Token}
use Rattle.checks.proofs.Comments.{first_of, none_more, none_refused}
use Rattle.checks.proofs.Each.{take_one, going_few, going_on}
use Rattle.checks.proofs.part.MathTokensIterator.next.Goals as goal

pub returns-in-Ok-None-clause-steps : goal.returns-in-Ok-None-clause-steps
returns-in-Ok-None-clause-steps c =
    let g = c.args.self.now.going in
    none_more g.left (rw c.in-Ok-None.field-0-is at c.in-Ok-None.ensures)

pub returns-in-Err-clause-steps : goal.returns-in-Err-clause-steps
returns-in-Err-clause-steps c =
    let g = c.args.self.now.going in
    none_refused g.calm g.left (rw c.in-Err.is at c.next_visible.ensures)

pub overflow_add-self : goal.overflow_add-self
overflow_add-self c = omega (arith, going_few c.args.self.now.going (first_of (rw c.in-Ok-Some.field-0-is at c.in-Ok-Some.ensures)))

pub invariant_of-self : goal.invariant_of-self
invariant_of-self c =
    let h = rw c.in-Ok-Some.field-0-is at c.in-Ok-Some.ensures in
    record { going = going_on c.args.self.now.going (first_of h) h.lined }

pub returns-in-Ok-Some-clause-steps : goal.returns-in-Ok-Some-clause-steps
returns-in-Ok-Some-clause-steps c =
    let f = first_of (rw c.in-Ok-Some.field-0-is at c.in-Ok-Some.ensures) in
    let x = take_one c.args.self.now.going.left f in
    record {
      inside = x.inside;
      index = refl;
      start = ap (λ (y : Token). y.at) x.is;
      within = omega (arith, f.some, f.within);
      same = refl;
      next = refl;
    }

pub returns-in-Ok-Some-clause-goes : goal.returns-in-Ok-Some-clause-goes
returns-in-Ok-Some-clause-goes c =
    let x = take_one c.args.self.now.going.left (first_of (rw c.in-Ok-Some.field-0-is at c.in-Ok-Some.ensures)) in
    record { on = λ f. (tt, f, omega (arith, x.inside)); keeps = tt; rests = λ f. tt }
