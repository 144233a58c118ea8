use Rattle.test_runner.proofs.Standing.{same_left}
use Rattle.test_runner.proofs.laws.engines_leave_the_same.Goals as goal

pub returns : goal.returns
returns c = same_left
