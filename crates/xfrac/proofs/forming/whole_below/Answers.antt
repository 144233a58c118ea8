use Rattle.std.proofs.Common.{◌<◌, ◌≤◌, ◌-◌, ◌/◌, arith}
use Rattle.std.proofs.Math.Nat.{div-le_self}
use Rattle.std.proofs.lemmas.Int.{ints}
use Rattle.std.specs.Prelude.{pos, ◌<ℤ◌}
use Rattle.xfrac.specs.Reduced.{whole_is_reduced}
use Rattle.xfrac.proofs.forming.whole_below.Goals as goal

pub with_parts-requires : goal.with_parts-requires
with_parts-requires c =
    let negative : c.args.f.now.0 <ℤ pos 0 = c.is_negative.ensures.0 c.if-is_negative.true in
    let some : 0 < c.magnitude-m.result = omega (arith, ints, c.magnitude-m.ensures.value) in
    let below : (c.magnitude-m.result - 1) / c.denominator-d.result ≤ c.magnitude-m.result - 1 = div-le_self (c.magnitude-m.result - 1) c.denominator-d.result in
    whole_is_reduced _ (omega (arith, c.quotient.ensures, c.magnitude-m.ensures.within))
