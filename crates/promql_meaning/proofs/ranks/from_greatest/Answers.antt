use Rattle.std.proofs.Common.{rules, true, refl}
use Rattle.std.specs.List.Sorted.{IsSortedBy}
use Rattle.std.proofs.lemmas.List.Sorted.{answers_always}
use Rattle.promql_meaning.specs.RankedGroups.{seen}
use Rattle.promql_meaning.proofs.Ranked.{below, below_is, below_is_weak, by_value_is}
use Rattle.promql_meaning.proofs.ranks.from_greatest.Goals as goal

pub returns : goal.returns
returns c =
    let order = c.order_is_total.ensures in
    let weak = below_is_weak order.equal order.reversed order.transitive true in
    let sorted : IsSortedBy (below true) c.sort_unstable_by.new.self.items = c.sort_unstable_by.ensures.sorted (below true) weak (answers_always _ _ _ (λ f a r f' k. search (rules, below_is))) in
    by_value_is true (seen c.args.rows.items) c.args.rows.items c.sort_unstable_by.new.self.items weak refl c.requires c.sort_unstable_by.ensures.permutation sorted
