use Rattle.window_fn.proofs.Plain.{plain_increase}
use Rattle.window_fn.proofs.laws.increase_without_resets.Goals as goal

pub returns : goal.returns
returns c = plain_increase
