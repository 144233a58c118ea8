use Rattle.step_table.specs.Shuffles.{joined}
use Rattle.step_table.specs.Shuffling.{from_permutation}
use Rattle.op_aggregate.specs.Places.{places_of}
use Rattle.op_aggregate.proofs.groups.Groups.sort.Goals as goal

pub returns-then-not-do_rise-clause-tallied : goal.returns-then-not-do_rise-clause-tallied
returns-then-not-do_rise-clause-tallied c = λ items t. record {
  numbers = t.numbers;
  within = t.within;
  kept = t.kept;
  filled = joined (places_of items) c.args.self.now.filled.items c.sort_unstable.new.self.items t.filled (from_permutation c.args.self.now.filled.items c.sort_unstable.new.self.items c.sort_unstable.ensures.permutation);
}
