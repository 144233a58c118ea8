use Rattle.std.proofs.Common.{◌≡◌, ◌*◌, arith}
use Rattle.frac_text.proofs.Ends.{one_more}
use Rattle.frac_text.proofs.write.without_fives.Goals as goal

pub loop-rest-preserved : goal.loop-rest-preserved
loop-rest-preserved c =
    let whole : c.fifth-rest.result * 5 ≡ c.loop-rest.rest = omega (arith, c.loop-rest-test.true, c.fifth.ensures, c.fifth-rest.ensures) in
    record { positive = omega (arith, whole, c.loop-rest.invariant.positive); so_far = one_more 5 c.args.d c.loop-rest.rest c.fifth-rest.result c.loop-rest.invariant.so_far whole }
