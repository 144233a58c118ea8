use Rattle.std.proofs.Common.{rules, subst}
use Rattle.std.proofs.lemmas.List.Sorted.{IsNonDecreasingBy-from_sort_by_key}
use Rattle.step_batch.specs.declared.steps.Slot.{Slot}
use Rattle.step_table.specs.Shuffling.{from_permutation, itself}
use Rattle.op_set.specs.Rising.{DoRise}
use Rattle.op_set.proofs.Rises.{apart_shuffled, rise_all, sorted_rise, within_shuffled}
use Rattle.op_set.proofs.rising.rise.Goals as goal

pub returns-then-do_rise-clause-shuffled : goal.returns-then-do_rise-clause-shuffled
returns-then-do_rise-clause-shuffled c = itself _

pub returns-then-do_rise-clause-rising : goal.returns-then-do_rise-clause-rising
returns-then-do_rise-clause-rising c = λ high a p. rise_all high c.args.slots.now.items a (subst DoRise c.as_slice.ensures.value (c.do_rise.ensures c.if-do_rise.true))

pub returns-clause-shuffled : goal.returns-clause-shuffled
returns-clause-shuffled c = from_permutation _ _ c.sort_unstable_by_key.ensures.permutation

pub returns-clause-rising : goal.returns-clause-rising
returns-clause-rising c = λ high a p.
    let s = from_permutation _ _ c.sort_unstable_by_key.ensures.permutation in
    rise_all high _ (within_shuffled high _ _ s a) (sorted_rise _ (IsNonDecreasingBy-from_sort_by_key (λ (s : Slot). s.place) _ c.sort_unstable_by_key.ensures.sorted (λ a r q k. search rules)) (apart_shuffled _ _ s p))
