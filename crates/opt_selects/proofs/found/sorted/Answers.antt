use Rattle.std.proofs.Common.{rules}
use Rattle.std.specs.List.Sorted.{IsSortedBy, IsStableBy}
use Rattle.std.proofs.lemmas.List.Sorted.{answers_always}
use Rattle.plan_rewrite.specs.Insertion.{sorted_is}
use Rattle.opt_selects.specs.Selectors.{precedes}
use Rattle.opt_selects.proofs.Orders.{precedes_weak}
use Rattle.opt_selects.proofs.found.sorted.Goals as goal

pub returns : goal.returns
returns c =
    let up : IsSortedBy precedes c.sort_by.new.self.items = c.in_ok-sort_by.ensures.sorted precedes precedes_weak (answers_always _ _ _ (λ f a r f' k. search rules)) in
    let stable : IsStableBy precedes c.args.found.items c.sort_by.new.self.items = c.in_ok-sort_by.ensures.stable precedes precedes_weak (answers_always _ _ _ (λ f a r f' k. search rules)) in
    sorted_is precedes precedes_weak c.args.found.items c.sort_by.new.self.items up stable
