use Rattle.plan_work.proofs.Stays.{besides_stay, gathers_stay, given_windows_stay, numbers_stay, onces_stay, overs_numbers_stay, overs_stay, sames_stay, selectors_stay, subqueries_stay, threes_stay, windows_stay}
use Rattle.plan_work.proofs.laws.trees_stay_within.Goals as goal

pub returns-clause-number : goal.returns-clause-number
returns-clause-number c = numbers_stay

pub returns-clause-gather : goal.returns-clause-gather
returns-clause-gather c = gathers_stay

pub returns-clause-selector : goal.returns-clause-selector
returns-clause-selector c = selectors_stay c.walk_moments_are_moments.ensures

pub returns-clause-over : goal.returns-clause-over
returns-clause-over c = overs_stay

pub returns-clause-same : goal.returns-clause-same
returns-clause-same c = sames_stay

pub returns-clause-over_number : goal.returns-clause-over_number
returns-clause-over_number c = overs_numbers_stay

pub returns-clause-beside : goal.returns-clause-beside
returns-clause-beside c = besides_stay

pub returns-clause-three : goal.returns-clause-three
returns-clause-three c = threes_stay

pub returns-clause-window : goal.returns-clause-window
returns-clause-window c = windows_stay c.walk_moments_are_moments.ensures

pub returns-clause-given : goal.returns-clause-given
returns-clause-given c = given_windows_stay

pub returns-clause-subquery : goal.returns-clause-subquery
returns-clause-subquery c = subqueries_stay c.inner_times_are_listed.ensures

pub returns-clause-once : goal.returns-clause-once
returns-clause-once c = onces_stay
