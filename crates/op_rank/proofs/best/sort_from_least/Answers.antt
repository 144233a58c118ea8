use Rattle.std.proofs.Common.{rules, false}
use Rattle.std.proofs.lemmas.List.Sorted.{answers_always}
use Rattle.op_rank.specs.Contenders.{before}
use Rattle.op_rank.proofs.Firsts.{before_is, before_is_weak}
use Rattle.op_rank.proofs.best.sort_from_least.Goals as goal

pub returns-clause-sorted : goal.returns-clause-sorted
returns-clause-sorted c =
    let order = c.order_is_total.ensures in
    let weak = before_is_weak order.equal order.reversed order.transitive false in
    c.sort_unstable_by.ensures.sorted (before false) weak (answers_always _ _ _ (λ f a r f' k. search (rules, before_is)))
