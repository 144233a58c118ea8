use Rattle.std.proofs.Common.{arith}
use Rattle.opt_remote.proofs.Numbers.{engines_are, engines_more}
use Rattle.opt_remote.proofs.gathering.all_engines.Goals as goal

pub loop-engine-preserved : goal.loop-engine-preserved
loop-engine-preserved c = engines_more c.loop-engine.engines c.push.new.self c.loop-engine.engine c.loop-engine.invariant c.in_ok-push.ensures.ok

pub returns : goal.returns
returns c =
    let over = c.loop-engine-test.false in
    let within = c.loop-engine.auto.engine-end in
    engines_are c.loop-engine.engines c.loop-engine.engine c.args.count c.loop-engine.invariant (omega (arith, over, within))
