use Rattle.std.proofs.Common.{◌∙◌, Option, refl, subst, sym, ap}
use Rattle.std.specs.Prelude.{IsSomeAnd, Some}
use Rattle.logical_plan.specs.declared.nodes.Plan.{Plan}
use Rattle.logical_plan.specs.declared.nodes.PlanNode.TheVariants as node
use Rattle.window_parts.specs.Engines.{IsGatherUnder, IsGathered, IsGatheringWithin, with_rules}
use Rattle.window_parts.specs.Over.{IsRangePlan}
use Rattle.window_parts.specs.declared.asked.Gathering.{Gathering}
use Rattle.window_parts.proofs.Beneath.{below_filter, not_gathered}
use Rattle.window_parts.proofs.Made.{some_at}
use Rattle.window_parts.proofs.Ranges.{filter_base, filter_rules, gather_limits, gather_range, gather_rising, gather_rules, within_bare, within_filter}
use Rattle.window_parts.proofs.asked.+gathering_of.Goals as goal

pub returns-in_ok-bare-in-Gather-clause-gather : goal.returns-in_ok-bare-in-Gather-clause-gather
returns-in_ok-bare-in-Gather-clause-gather t c =
    let made = c.in_ok-bare-in-Gather.ensures in
    let it = c.in-Gather in
    let g = c.in_ok-bare-in-Gather.field-0 in
    IsGatherUnder.itself g.rules c.args.p.now (it.is ∙ (λ j. node.Gather (sym made.expr j) (sym made.kind j) (sym made.asked j))) made.rules

pub returns-in_ok-filtered-in-Some-clause-gather : goal.returns-in_ok-filtered-in-Some-clause-gather
returns-in_ok-filtered-in-Some-clause-gather t c =
    let below = c.in-Some.below in
    let it = c.in-Filter in
    let made = c.in_ok-filtered-in-Some.ensures in
    let g = c.in_ok-filtered-in-Some.field-0 in
    let found = some_at (λ (g : Gathering). IsGatherUnder g.part g.asked g.rules c.get.result.now) _ below c.in-Some.is c.in_ok-below-in-Filter.ensures.gather in
    IsGatherUnder.under g.rules below.rules c.args.p.now it.base it.rules it.is made.rules
    (coe 1 0 (j. IsGatherUnder (made.part j) (made.asked j) below.rules it.base) (subst (λ (q : Plan). IsGatherUnder below.part below.asked below.rules q) c.get.ensures found))

pub returns-in_ok-bare-in-Gather-clause-total : goal.returns-in_ok-bare-in-Gather-clause-total
returns-in_ok-bare-in-Gather-clause-total t c = λ kept is gathered.
    let p = c.args.p.now in
    let it = c.in-Gather in
    let g = c.in_ok-bare-in-Gather.field-0 in
    let made = c.in_ok-bare-in-Gather.ensures in
    let e = it.is ∙ (λ j. node.Gather (sym made.expr j) (sym made.kind j) (sym made.asked j)) in
    let range = gather_range kept p g.part.expr g.part.kind g.asked e is in
    let limits = gather_limits kept p g.part.expr g.part.kind g.asked e is range.0 range.1 in
    within_bare kept g range.0 range.1 (gather_rising kept p g.part.expr g.part.kind g.asked e is) (gather_rules kept p g.part.expr g.part.kind g.asked e is range.0 range.1) made.rules limits.0 limits.1

pub returns-in_ok-filtered-in-Some-clause-total : goal.returns-in_ok-filtered-in-Some-clause-total
returns-in_ok-filtered-in-Some-clause-total t c = λ kept is gathered.
    let p = c.args.p.now in
    let it = c.in-Filter in
    let below : IsRangePlan kept c.get.result.now = subst (IsRangePlan kept) (sym c.get.ensures) (filter_base kept p it.base it.rules it.is is) in
    let under : IsGathered c.get.result.now = subst IsGathered (sym c.get.ensures) (below_filter it.base it.rules gathered it.is) in
    let found : IsGatheringWithin kept c.in-Some.below = subst (λ (o : Option Gathering). IsSomeAnd o (IsGatheringWithin kept)) c.in-Some.is (c.in_ok-below-in-Filter.ensures.total kept below under) in
    let made = c.in_ok-filtered-in-Some.ensures in
    within_filter kept c.in-Some.below c.in_ok-filtered-in-Some.field-0 it.rules made.part made.asked made.rules (filter_rules kept p it.base it.rules it.is is) found

pub returns-in-None-clause-total : goal.returns-in-None-clause-total
returns-in-None-clause-total t c = λ kept is gathered.
    let p = c.args.p.now in
    let it = c.in-Filter in
    let below : IsRangePlan kept c.get.result.now = subst (IsRangePlan kept) (sym c.get.ensures) (filter_base kept p it.base it.rules it.is is) in
    let under : IsGathered c.get.result.now = subst IsGathered (sym c.get.ensures) (below_filter it.base it.rules gathered it.is) in
    subst (λ (o : Option Gathering). IsSomeAnd o (IsGatheringWithin kept)) c.in-None.is (c.in_ok-below-in-Filter.ensures.total kept below under)

pub returns-in_default-clause-total : goal.returns-in_default-clause-total
returns-in_default-clause-total t c = λ kept is gathered. absurd (not_gathered gathered c.in_default.not-Gather c.in_default.not-Filter)
