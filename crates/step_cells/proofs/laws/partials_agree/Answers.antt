use Rattle.step_cells.proofs.Agreeing.{partials}
use Rattle.step_cells.proofs.Extremes.{extremes}
use Rattle.step_cells.proofs.Itself.{one_engine}
use Rattle.step_cells.proofs.laws.partials_agree.Goals as goal

pub returns-clause-engines : goal.returns-clause-engines
returns-clause-engines c =
    partials c.joined_sums_stand_for_both.ensures.joined c.sums_of_any_size.ensures.overflow c.lcm_is_least.ensures.least c.order_of_any_size_doesnt_matter.ensures c.unions_are_sets.ensures.marks
    (extremes c.order_of_any_size.ensures.equal c.order_is_total.ensures.reversed c.order_of_any_size.ensures.transitive c.numbers_are_lowest.ensures.denominator)

pub returns-clause-one : goal.returns-clause-one
returns-clause-one c =
    one_engine (partials c.joined_sums_stand_for_both.ensures.joined c.sums_of_any_size.ensures.overflow c.lcm_is_least.ensures.least c.order_of_any_size_doesnt_matter.ensures c.unions_are_sets.ensures.marks
    (extremes c.order_of_any_size.ensures.equal c.order_is_total.ensures.reversed c.order_of_any_size.ensures.transitive c.numbers_are_lowest.ensures.denominator))
