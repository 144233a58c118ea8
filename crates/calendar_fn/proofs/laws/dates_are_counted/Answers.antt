use Rattle.calendar_fn.proofs.DayNumbers.{dates_are_counted as counted, each_date_is_found, epoch_is_day_zero}
use Rattle.calendar_fn.proofs.laws.dates_are_counted.Goals as goal

pub returns-clause-counted : goal.returns-clause-counted
returns-clause-counted c = counted

pub returns-clause-found : goal.returns-clause-found
returns-clause-found c = each_date_is_found

pub returns-clause-epoch : goal.returns-clause-epoch
returns-clause-epoch c = epoch_is_day_zero
