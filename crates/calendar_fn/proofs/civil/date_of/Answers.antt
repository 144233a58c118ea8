use Rattle.std.proofs.Common.{rules, ◌≡◌}
use Rattle.jiff_core.specs.Date.{epoch_day}
use Rattle.calendar_fn.proofs.SameDates.{same_date}
use Rattle.calendar_fn.proofs.civil.date_of.Goals as goal

pub returns : goal.returns
returns c =
    let same : epoch_day c.from_plain.result ≡ c.args.day = search rules in
    same_date c.from_plain.result c.args.day same c.requires.0
