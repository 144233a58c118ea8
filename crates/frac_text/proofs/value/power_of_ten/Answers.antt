use Rattle.std.proofs.Common.{◌^◌, ◌≤◌, arith}
use Rattle.xfrac.specs.Fractions.{limit}
use Rattle.frac_text.proofs.Ends.{ten_below}
use Rattle.frac_text.proofs.value.power_of_ten.Goals as goal

pub overflow_mul-power : goal.overflow_mul-power
overflow_mul-power c =
    let below : 10 ^ c.loop.counter ≤ limit = ten_below c.loop.counter (omega arith) in
    omega (arith, c.loop.invariant.is, below)

pub returns-clause-within : goal.returns-clause-within
returns-clause-within c =
    let below : 10 ^ c.loop.counter ≤ limit = ten_below c.loop.counter (omega arith) in
    omega (arith, c.loop.invariant.is, below)
