use Rattle.std.proofs.Common.{rules, ℤ, ◌≡◌, ◌+ℤ◌, arith, subst, sym, to_z, of_z, w64}
use Rattle.std.proofs.lemmas.Int.{ints}
use Rattle.ticks.specs.Steps.{IsNeed, IsStepAfter}
use Rattle.ticks.proofs.step.step_after.Goals as goal

pub returns-then-need-high-clause-none : goal.returns-then-need-high-clause-none
returns-then-need-high-clause-none c =
    let n : IsNeed c.args.base c.args.step c.args.low c.need_after-need.result = search rules in
    record { none = λ u on above below. let least = n.least u on above in omega (arith, ints, least, below, n.some, n.short) }

pub returns-else-need-high-clause-found : goal.returns-else-need-high-clause-found
returns-else-need-high-clause-found c =
    let n : IsNeed c.args.base c.args.step c.args.low c.need_after-need.result = search rules in
    let e : to_z w64 (of_z w64 (to_z w64 (of_z w64 c.args.low) +ℤ to_z w64 (of_z w64 c.need_after-need.result))) ≡ c.args.low +ℤ c.need_after-need.result =
    omega (arith, ints, n.some, n.short) in
    let found : IsStepAfter c.args.base c.args.step c.args.low (c.args.low +ℤ c.need_after-need.result) =
    record { on_step = n.on_step; above = omega (arith, ints, n.some); least = n.least } in
    subst (λ (z : ℤ). IsStepAfter c.args.base c.args.step c.args.low z) (sym e) found

pub returns-else-need-high-clause-within : goal.returns-else-need-high-clause-within
returns-else-need-high-clause-within c =
    let n : IsNeed c.args.base c.args.step c.args.low c.need_after-need.result = search rules in
    omega (arith, ints, n.some, n.short)
