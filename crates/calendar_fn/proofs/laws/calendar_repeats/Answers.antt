use Rattle.calendar_fn.proofs.Repeating.{calendar_repeats as law}
use Rattle.calendar_fn.proofs.laws.calendar_repeats.Goals as goal

pub returns : goal.returns
returns c = law
