use Rattle.ticks.specs.Written.{IsDuration-spelling}
use Rattle.ticks.proofs.laws.spellings_are_durations.Goals as goal

pub returns : goal.returns
returns c = IsDuration-spelling
