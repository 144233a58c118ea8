use Rattle.calendar_fn.proofs.Ranges.{parts_are_within as law}
use Rattle.calendar_fn.proofs.laws.parts_are_within.Goals as goal

pub returns : goal.returns
returns c = law
