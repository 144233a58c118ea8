use Rattle.frac_text.proofs.Durations.{duration-time}
use Rattle.frac_text.proofs.laws.durations_are_times.Goals as goal

pub returns : goal.returns
returns c = duration-time
