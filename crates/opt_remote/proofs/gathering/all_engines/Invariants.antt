use Rattle.std.proofs.Common.{◌≡◌}
use Rattle.opt_remote.specs.Gathering.{all_engines}
use Rattle.opt_remote.proofs.gathering.all_engines.Given as goal

abbrev pub invariant-loop-engine : goal.invariant-loop-engine
invariant-loop-engine l = l.engines ≡ all_engines l.engine
