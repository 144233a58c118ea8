use Rattle.std.proofs.Common.{rules}
use Rattle.std.proofs.lemmas.List.Sorted.{IsNonDecreasingBy-from_sort_by_key}
use Rattle.op_rank.specs.declared.value_counts.Count.{Count}
use Rattle.op_rank.proofs.Runs.{places_rise}
use Rattle.op_rank.proofs.value_counts.sort_counts.Goals as goal

pub returns-clause-rise : goal.returns-clause-rise
returns-clause-rise c =
    let counts = c.sort_unstable_by_key.new.self.items in
    places_rise counts (IsNonDecreasingBy-from_sort_by_key (λ (n : Count). n.place) counts c.sort_unstable_by_key.ensures.sorted (λ a r q k. search rules))
