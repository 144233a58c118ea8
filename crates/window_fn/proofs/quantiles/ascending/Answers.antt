use Rattle.std.proofs.Common.{rules, ◌∙◌, ap, sym, subst}
use Rattle.std.specs.List.{All}
use Rattle.std.specs.List.Sorted.{IsSortedBy}
use Rattle.std.proofs.lemmas.List.Sorted.{answers_always}
use Rattle.xfrac.specs.Laws.{IsNumber}
use Rattle.window_fn.specs.Aggregates.{ascending}
use Rattle.window_fn.proofs.Sorting.{ascending_is, below, below_is_weak, below-number}
use Rattle.window_fn.proofs.quantiles.ascending.Goals as goal

pub returns-clause-items : goal.returns-clause-items
returns-clause-items c =
    let order = c.order_is_total.ensures in
    let numbers : All IsNumber c.in_ok-sorted.sorted.items = subst (All IsNumber) (sym c.in_ok-sorted.ensures.items) c.in_ok-sorted.ensures.numbers in
    let sorted : IsSortedBy below c.sort_unstable_by.new.self.items = c.sort_unstable_by.ensures.sorted below (below_is_weak order.reversed) (answers_always _ _ _ (λ f a r f' k. search (rules, below-number))) in
    ascending_is order.equal order.reversed order.transitive c.in_ok-sorted.sorted.items c.sort_unstable_by.new.self.items numbers c.sort_unstable_by.ensures.permutation sorted
    ∙ ap ascending c.in_ok-sorted.ensures.items
