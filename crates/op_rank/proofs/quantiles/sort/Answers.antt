use Rattle.std.proofs.Common.{rules}
use Rattle.std.proofs.lemmas.List.Sorted.{IsNonDecreasingBy-from_sort_by_key}
use Rattle.op_rank.specs.declared.entries.Entry.{Entry}
use Rattle.op_rank.proofs.Splitting.{groups_rise, numbers_moved}
use Rattle.op_rank.proofs.quantiles.sort.Goals as goal

pub returns-clause-rise : goal.returns-clause-rise
returns-clause-rise c =
    let es = c.sort_unstable_by_key.new.self.items in
    groups_rise es (IsNonDecreasingBy-from_sort_by_key (λ (e : Entry). e.group) es c.sort_unstable_by_key.ensures.sorted (λ a r q k. search rules))

pub returns-clause-numbers : goal.returns-clause-numbers
returns-clause-numbers c = numbers_moved c.args.entries.now.items c.sort_unstable_by_key.new.self.items c.sort_unstable_by_key.ensures.permutation c.requires
