use Rattle.calendar_fn.proofs.Ends.{ends_are_those_of_years as law}
use Rattle.calendar_fn.proofs.laws.ends_are_those_of_years.Goals as goal

pub returns : goal.returns
returns c = law
