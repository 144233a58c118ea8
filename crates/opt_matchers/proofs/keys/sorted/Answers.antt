use Rattle.std.proofs.Common.{rules}
use Rattle.std.specs.List.Sorted.{IsSortedBy, IsStableBy}
use Rattle.std.proofs.lemmas.List.Sorted.{answers_always}
use Rattle.opt_matchers.specs.Keys.{keyed_below}
use Rattle.opt_matchers.proofs.Ordered.{keyed_weak}
use Rattle.plan_rewrite.specs.Insertion.{sorted_is}
use Rattle.opt_matchers.proofs.keys.sorted.Goals as goal

pub returns : goal.returns
returns c =
    let up : IsSortedBy keyed_below c.sort_by.new.self.items = c.in_ok-sort_by.ensures.sorted keyed_below keyed_weak (answers_always _ _ _ (λ f a r f' k. search rules)) in
    let stable : IsStableBy keyed_below c.args.keyed.items c.sort_by.new.self.items = c.in_ok-sort_by.ensures.stable keyed_below keyed_weak (answers_always _ _ _ (λ f a r f' k. search rules)) in
    sorted_is keyed_below keyed_weak c.args.keyed.items c.sort_by.new.self.items up stable
