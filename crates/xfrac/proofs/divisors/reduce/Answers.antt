use Rattle.std.proofs.Common.{◌≡◌, ◌/◌}
use Rattle.xfrac.specs.Divisors.{gcd as gcd_of}
use Rattle.xfrac.specs.Formed.{reduced_whole}
use Rattle.xfrac.proofs.divisors.reduce.Goals as goal

pub returns-then-d-eq1 : goal.returns-then-d-eq1
returns-then-d-eq1 c =
    let h : (c.args.m / gcd_of c.args.m c.args.d ≡ c.args.m) × (c.args.d / gcd_of c.args.m c.args.d ≡ 1) = reduced_whole _ _ c.if-d-eq1.true in
    cc
