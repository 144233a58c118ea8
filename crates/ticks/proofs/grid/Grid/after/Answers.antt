use Rattle.std.proofs.Common.{rules, pos, arith}
use Rattle.std.proofs.lemmas.Int.{ints}
use Rattle.ticks.specs.Grids.{IsOnGrid}
use Rattle.ticks.specs.Steps.{HasNoStep, IsStepAfter}
use Rattle.ticks.proofs.grid.Grid.after.Goals as goal

pub returns-then-t-self-clause-instant : goal.returns-then-t-self-clause-instant
returns-then-t-self-clause-instant c =
    let r = c.args.self.now.in_range in
    record { from_start = omega (arith, ints); to_end = omega (arith, ints, r.ordered); on_step = (pos 0, omega (arith, ints)) }

pub returns-in-None-clause-none : goal.returns-in-None-clause-none
returns-in-None-clause-none c = λ u g later.
    let n : HasNoStep c.args.self.now.start.0 c.args.self.now.step.0 c.args.t.0 c.args.self.now.end.0 = search rules in
    n.none u g.on_step later g.to_end

pub returns-in-Some-clause-instant : goal.returns-in-Some-clause-instant
returns-in-Some-clause-instant c =
    let s : IsStepAfter c.args.self.now.start.0 c.args.self.now.step.0 c.args.t.0 c.in-Some.at = search rules in
    let on : IsOnGrid c.args.self.now.start.0 c.args.self.now.end.0 c.args.self.now.step.0 c.in-Some.at =
    record { from_start = omega (arith, ints, s.above); to_end = omega (arith, ints, c.in-Some.ensures.within); on_step = s.on_step } in
    search (rules, on)

pub returns-in-Some-clause-later : goal.returns-in-Some-clause-later
returns-in-Some-clause-later c =
    let s : IsStepAfter c.args.self.now.start.0 c.args.self.now.step.0 c.args.t.0 c.in-Some.at = search rules in
    omega (arith, ints, s.above)

pub returns-in-Some-clause-least : goal.returns-in-Some-clause-least
returns-in-Some-clause-least c = λ u g later.
    let s : IsStepAfter c.args.self.now.start.0 c.args.self.now.step.0 c.args.t.0 c.in-Some.at = search rules in
    let l = s.least u g.on_step later in
    omega (arith, ints, l)
