use Rattle.ticks.proofs.Listing.{each_walk_listed, first_is_head, lists_are_one, next_is_behind}
use Rattle.ticks.proofs.laws.walks_are_listed.Goals as goal

pub returns-clause-one : goal.returns-clause-one
returns-clause-one c = each_walk_listed

pub returns-clause-no_other : goal.returns-clause-no_other
returns-clause-no_other c = lists_are_one

pub returns-clause-first : goal.returns-clause-first
returns-clause-first c = first_is_head

pub returns-clause-next : goal.returns-clause-next
returns-clause-next c = next_is_behind
