use Rattle.std.proofs.Common.{rules, true}
use Rattle.std.specs.List.Sorted.{IsSortedBy, IsStableBy}
use Rattle.std.proofs.lemmas.List.Sorted.{answers_always}
use Rattle.step_rules.specs.Ranked.{ranked_below}
use Rattle.step_rules.proofs.Sorting.{ranked_weak}
use Rattle.step_rules.proofs.Stable.{sorted_is}
use Rattle.step_rules.proofs.orders.from_greatest.Goals as goal

pub returns : goal.returns
returns c =
    let order = c.order_is_total.ensures in
    let weak = ranked_weak order.equal order.reversed order.transitive true in
    let sorted : IsSortedBy (ranked_below true) c.sort_by.new.self.items = c.in_ok-sort_by.ensures.sorted (ranked_below true) weak (answers_always _ _ _ (λ f a r f' k. search rules)) in
    let stable : IsStableBy (ranked_below true) c.args.ranked.items c.sort_by.new.self.items = c.in_ok-sort_by.ensures.stable (ranked_below true) weak (answers_always _ _ _ (λ f a r f' k. search rules)) in
    sorted_is (ranked_below true) weak c.args.ranked.items c.sort_by.new.self.items sorted stable
