use Rattle.test_runner.proofs.Standing.{load_puts}
use Rattle.test_runner.proofs.laws.loads_put_their_samples.Goals as goal

pub returns : goal.returns
returns c = load_puts
