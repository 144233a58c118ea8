use Rattle.ticks.specs.Summed.{duration_in-IsDuration, IsDuration-duration_in}
use Rattle.ticks.proofs.laws.durations_are_found.Goals as goal

pub returns : goal.returns
returns c = λ text n. (duration_in-IsDuration text n, IsDuration-duration_in text n)
