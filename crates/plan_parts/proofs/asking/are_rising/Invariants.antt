use Rattle.std.proofs.Common.{◌≡◌, length}
use Rattle.plan_serving.specs.Asking.{is_rising}
use Rattle.plan_parts.proofs.asking.are_rising.Given as goal

abbrev pub invariant-loop-rest : goal.invariant-loop-rest
invariant-loop-rest l = is_rising l.rest ≡ is_rising l.fn.numbers

abbrev pub decreases-loop-rest : goal.decreases-loop-rest
decreases-loop-rest l = length l.rest
