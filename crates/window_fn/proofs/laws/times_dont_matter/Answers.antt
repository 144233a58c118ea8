use Rattle.window_fn.proofs.Plain.{any_times}
use Rattle.window_fn.proofs.laws.times_dont_matter.Goals as goal

pub returns : goal.returns
returns c = any_times
