use Rattle.ticks.proofs.Near.{grids-near, subqueries-near}
use Rattle.ticks.proofs.Walks.{instant-is_time}
use Rattle.ticks.proofs.laws.walks_keep_to_times.Goals as goal

pub returns-clause-times : goal.returns-clause-times
returns-clause-times c = instant-is_time

pub returns-clause-grids : goal.returns-clause-grids
returns-clause-grids c = grids-near

pub returns-clause-subqueries : goal.returns-clause-subqueries
returns-clause-subqueries c = subqueries-near
