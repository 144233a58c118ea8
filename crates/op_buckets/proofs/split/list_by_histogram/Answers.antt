use Rattle.std.specs.List.{filter_map}
use Rattle.std.proofs.lemmas.List.Sorted.{IsPermutation-trans}
use Rattle.op_buckets.specs.Splits.{entry_of}
use Rattle.op_buckets.proofs.split.list_by_histogram.Goals as goal

pub returns-clause-moved : goal.returns-clause-moved
returns-clause-moved c = IsPermutation-trans (filter_map (entry_of c.args.groups.now c.args.bounds.now) c.args.slots.now) c.list.new.entries.items c.sort.new.entries.items c.in_ok-list.ensures.moved c.sort.ensures.moved
