use Rattle.std.proofs.Common.{rules}
use Rattle.std.specs.List.Sorted.{IsSortedBy}
use Rattle.std.proofs.lemmas.List.Sorted.{answers_always}
use Rattle.op_rank.proofs.LabelsInOrder.{is_below, is_below_is_weak, places_are}
use Rattle.op_rank.proofs.label_order.sorted.Goals as goal

pub returns : goal.returns
returns c =
    let sorted : IsSortedBy is_below c.sort_unstable_by.new.self.items = c.sort_unstable_by.ensures.sorted is_below is_below_is_weak (answers_always _ _ _ (λ f a r f' k. search rules)) in
    places_are c.args.labels.now c.in_ok-all.all.items c.sort_unstable_by.new.self.items c.requires c.in_ok-all.ensures c.sort_unstable_by.ensures.permutation sorted
