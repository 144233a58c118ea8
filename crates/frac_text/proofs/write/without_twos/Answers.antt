use Rattle.std.proofs.Common.{◌≡◌, ◌*◌, ◌/◌, arith}
use Rattle.frac_text.proofs.Ends.{one_more}
use Rattle.frac_text.proofs.write.without_twos.Goals as goal

pub loop-rest-preserved : goal.loop-rest-preserved
loop-rest-preserved c =
    let whole : (c.loop-rest.rest / 2) * 2 ≡ c.loop-rest.rest = omega (arith, c.loop-rest-test.true) in
    record { positive = omega (arith, whole, c.loop-rest.invariant.positive); so_far = one_more 2 c.args.d c.loop-rest.rest (c.loop-rest.rest / 2) c.loop-rest.invariant.so_far whole }
