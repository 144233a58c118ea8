use Rattle.calendar_fn.proofs.DayNumbers.{next_day_is_next_date as law}
use Rattle.calendar_fn.proofs.laws.next_day_is_next_date.Goals as goal

pub returns : goal.returns
returns c = law
