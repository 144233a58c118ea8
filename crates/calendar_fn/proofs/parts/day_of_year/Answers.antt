use Rattle.std.proofs.Common.{rules, ◌≡◌, Some, arith, ap, sym, ◌∙◌, w16, w64, FitsSigned, to_z, of_z}
use Rattle.std.specs.Prelude.{unsigned_abs}
use Rattle.std.proofs.lemmas.Int.{ints, to_z-of_z}
use Rattle.jiff_core.specs.Date.{ordinal}
use Rattle.calendar_fn.specs.Calendar.{place_in_year}
use Rattle.calendar_fn.specs.Parts.{date_at}
use Rattle.calendar_fn.proofs.SameDates.{same_place}
use Rattle.calendar_fn.proofs.Ranges.{within_is}
use Rattle.calendar_fn.proofs.parts.day_of_year.Goals as goal

pub returns-in-Some-clause-part : goal.returns-in-Some-clause-part
returns-in-Some-clause-part c =
    let seconds_fit : FitsSigned w64 c.args.seconds = c.ranges.seconds in
    let is = simp to_z-of_z at c.in-Some.ensures in
    let same : ordinal c.in-Some.date ≡ place_in_year (date_at c.args.seconds) = same_place c.in-Some.date (date_at c.args.seconds) is.1 in
    let fits : FitsSigned w16 c.day_of_year.result = search rules in
    let number : unsigned_abs (to_z w16 (of_z w16 c.day_of_year.result)) ≡ ordinal c.in-Some.date = omega (arith, ints, c.day_of_year.ensures) in
    ap Some (number ∙ same) ∙ sym (within_is c.args.seconds (place_in_year (date_at c.args.seconds)) is.0)
