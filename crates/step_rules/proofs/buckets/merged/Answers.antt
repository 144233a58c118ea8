use Rattle.std.proofs.Common.{rules, ◌∙◌, sym}
use Rattle.std.specs.List.Sorted.{IsSortedBy, IsStableBy}
use Rattle.std.proofs.lemmas.List.Sorted.{answers_always}
use Rattle.promql_meaning.specs.Buckets.{merged}
use Rattle.step_rules.proofs.Merging.{below, below_weak}
use Rattle.step_rules.proofs.Turns.{starts_at, turn_goes_on, turn_stops}
use Rattle.step_rules.proofs.buckets.merged.Goals as goal

pub loop-rest-init : goal.loop-rest-init
loop-rest-init c =
    let order = c.order_is_total.ensures in
    let weak = below_weak order.equal order.reversed order.transitive in
    let sorted : IsSortedBy below c.sort_by.new.self.items = c.in_ok-sort_by.ensures.sorted below weak (answers_always _ _ _ (λ f a r f' k. search rules)) in
    let stable : IsStableBy below c.into_vec-sorted.result.items c.sort_by.new.self.items = c.in_ok-sort_by.ensures.stable below weak (answers_always _ _ _ (λ f a r f' k. search rules)) in
    starts_at order.equal order.reversed order.transitive c.args.buckets c.into_vec-sorted.result.items c.sort_by.new.self.items c.new-all.result c.as_slice-rest.result.now
    c.into_vec-sorted.ensures c.new-all.ensures c.as_slice-rest.ensures.value c.requires.bounds c.requires.finite c.in_ok-sort_by.ensures.permutation sorted stable

pub returns-in-Err-clause-merged : goal.returns-in-Err-clause-merged
returns-in-Err-clause-merged c =
    let order = c.order_is_total.ensures in
    turn_stops order.equal order.reversed order.transitive (merged c.args.buckets) c.loop-rest.all c.loop-rest.rest.now c.first-item.result c.split_at.result.0.now c.split_at.result.1.now c.same_bound.result
    c.loop-rest.invariant c.in-len1-up.len_at_least c.first-item.is c.same_bound.ensures.size c.split_at.ensures.front c.split_at.ensures.back c.in-Err.fault (sym c.in_ok-fault.ensures ∙ c.in-Err.is)

pub loop-rest-preserved : goal.loop-rest-preserved
loop-rest-preserved c =
    let order = c.order_is_total.ensures in
    turn_goes_on order.equal order.reversed order.transitive (merged c.args.buckets) c.loop-rest.all c.loop-rest.rest.now c.first-item.result c.split_at.result.0.now c.split_at.result.1.now c.same_bound.result
    c.loop-rest.invariant c.in-len1-up.len_at_least c.first-item.is c.same_bound.ensures.size c.split_at.ensures.front c.split_at.ensures.back c.in-Ok.count c.push.new.self (sym c.in_ok-fault.ensures ∙ c.in-Ok.is) c.is_number.ensures c.in_ok-push-in-Ok.ensures.ok
