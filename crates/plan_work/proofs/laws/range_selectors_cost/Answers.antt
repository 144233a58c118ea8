use Rattle.plan_work.proofs.Fewer.{filters_cost, ranges_cost}
use Rattle.plan_work.proofs.laws.range_selectors_cost.Goals as goal

pub returns-clause-range : goal.returns-clause-range
returns-clause-range c = ranges_cost

pub returns-clause-filter : goal.returns-clause-filter
returns-clause-filter c = filters_cost
