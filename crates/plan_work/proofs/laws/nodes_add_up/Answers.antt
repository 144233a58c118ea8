use Rattle.plan_work.proofs.Nodes.{bare, beside, once, over, subqueries, three, windows}
use Rattle.plan_work.proofs.laws.nodes_add_up.Goals as goal

pub returns-clause-none : goal.returns-clause-none
returns-clause-none c = bare

pub returns-clause-over : goal.returns-clause-over
returns-clause-over c = over

pub returns-clause-beside : goal.returns-clause-beside
returns-clause-beside c = beside

pub returns-clause-three : goal.returns-clause-three
returns-clause-three c = three

pub returns-clause-window : goal.returns-clause-window
returns-clause-window c = windows

pub returns-clause-subquery : goal.returns-clause-subquery
returns-clause-subquery c = subqueries

pub returns-clause-once : goal.returns-clause-once
returns-clause-once c = once
