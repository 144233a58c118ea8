use Rattle.step_table.proofs.Reordered.{groups_have_all, groups_ignore_order, is_permutation}
use Rattle.step_table.proofs.order_laws.groups_ignore_order.Goals as goal

pub returns-clause-groups : goal.returns-clause-groups
returns-clause-groups c = groups_ignore_order

pub returns-clause-all : goal.returns-clause-all
returns-clause-all c = groups_have_all

pub returns-clause-permutation : goal.returns-clause-permutation
returns-clause-permutation c = is_permutation
