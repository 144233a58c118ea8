use Rattle.std.proofs.Common.{◌∙◌, Option, subst, sym}
use Rattle.std.specs.Prelude.{IsSomeAnd}
use Rattle.holders.specs.Joins.{both_of}
use Rattle.label_set.specs.declared.rules.Rule.{Rule}
use Rattle.logical_plan.specs.Lowering.{planned}
use Rattle.logical_plan.specs.PlanMeaning.{plan_meaning}
use Rattle.logical_plan.specs.declared.nodes.Plan.{Plan}
use Rattle.logical_plan.specs.declared.nodes.PlanNode.TheVariants as node
use Rattle.match_rule.specs.Patterns.{HasItsPattern, HaveTheirPatterns}
use Rattle.plan_parts.specs.Courses.{IsLength, IsMomentWithin}
use Rattle.plan_bases.specs.LeafLaws.{filter_is_leaf, range_is_leaf}
use Rattle.plan_bases.specs.Leaves.{IsLeafOf}
use Rattle.plan_work.specs.PlanLaws.{CostsAtMost}
use Rattle.promql_meaning.specs.Selecting.{Asked}
use Rattle.window_parts.specs.Engines.{IsGathered}
use Rattle.window_parts.specs.Over.{IsRangeOf, IsRangePlan, IsSelectorWithin}
use Rattle.window_parts.specs.declared.selectors.RangeSelector.{RangeSelector}
use Rattle.window_parts.proofs.Giving.{filter_gives, range_gives}
use Rattle.window_parts.proofs.Made.{some_at}
use Rattle.window_parts.proofs.Ranges.{filter_base, filter_rules, no_range, range_limits, range_rules}
use Rattle.window_parts.proofs.selectors.+range_selector.Goals as goal

pub returns-in_ok-copy-in-Range-clause-range : goal.returns-in_ok-copy-in-Range-clause-range
returns-in_ok-copy-in-Range-clause-range t c = λ asked.
    let p = c.args.p.now in
    let rules = c.in-Range.rules in
    let moment = c.in-Range.moment in
    let range = c.in-Range.range in
    let same = c.in_ok-copy-in-Range.ensures in
    record {
      gives = λ u. range_gives asked p rules moment range c.in-Range.is u ∙ (λ j. plan_meaning asked (planned p.at (node.Range (sym same j) moment range)) u);
      within = subst (λ rs. CostsAtMost asked rs moment range p) (sym same) (c.range_selectors_cost.ensures.range asked p rules moment range c.in-Range.is);
    }

pub returns-in_ok-filtered-in-Some-clause-range : goal.returns-in_ok-filtered-in-Some-clause-range
returns-in_ok-filtered-in-Some-clause-range t c = λ asked.
    let p = c.args.p.now in
    let base = c.in-Filter.base in
    let more = c.in-Filter.rules in
    let selector = c.in-Some.selector in
    let made = c.in_ok-filtered-in-Some.ensures in
    let found = some_at (λ (s : RangeSelector). (asked : Asked) → IsRangeOf asked c.get.result.now s) _ selector c.in-Some.is c.in_ok-selector-in-Filter.ensures.range asked in
    let below = subst (λ (q : Plan). IsRangeOf asked q selector) c.get.ensures found in
    record {
      gives = λ u.
          filter_gives asked c.more_rules_filter.ensures.windows p base selector.rules more selector.moment selector.range c.in-Filter.is below.gives u
          ∙ (λ j. plan_meaning asked (planned p.at (node.Range (sym made.rules j) (sym made.moment j) (sym made.range j))) u);
      within = coe 1 0 (j. CostsAtMost asked (made.rules j) (made.moment j) (made.range j) p)
          (c.range_selectors_cost.ensures.filter asked p base selector.rules more selector.moment selector.range c.in-Filter.is below.within);
    }

pub returns-in_ok-copy-in-Range-clause-leaf : goal.returns-in_ok-copy-in-Range-clause-leaf
returns-in_ok-copy-in-Range-clause-leaf t c =
    let r = c.in-Range in
    subst (IsLeafOf c.args.p.now) (sym c.in_ok-copy-in-Range.ensures) (range_is_leaf c.args.p.now r.rules r.moment r.range r.is)

pub returns-in_ok-filtered-in-Some-clause-leaf : goal.returns-in_ok-filtered-in-Some-clause-leaf
returns-in_ok-filtered-in-Some-clause-leaf t c =
    let selector = c.in-Some.selector in
    let found = some_at (λ (s : RangeSelector). IsLeafOf c.get.result.now s.rules) _ selector c.in-Some.is c.in_ok-selector-in-Filter.ensures.leaf in
    let below = subst (λ (q : Plan). IsLeafOf q selector.rules) c.get.ensures found in
    subst (IsLeafOf c.args.p.now) (sym c.in_ok-filtered-in-Some.ensures.rules) (filter_is_leaf c.args.p.now c.in-Filter.base selector.rules c.in-Filter.rules c.in-Filter.is below)

pub returns-in_ok-copy-in-Range-clause-total : goal.returns-in_ok-copy-in-Range-clause-total
returns-in_ok-copy-in-Range-clause-total t c = λ kept is none.
    let p = c.args.p.now in
    let r = c.in-Range in
    let limits = range_limits kept p r.rules r.moment r.range r.is is in
    record {
      rules = subst (HaveTheirPatterns kept) (sym c.in_ok-copy-in-Range.ensures) (range_rules kept p r.rules r.moment r.range r.is is);
      timed = limits.0;
      long = limits.1;
    }

pub returns-in_ok-filtered-in-Some-clause-total : goal.returns-in_ok-filtered-in-Some-clause-total
returns-in_ok-filtered-in-Some-clause-total t c = λ kept is none.
    let p = c.args.p.now in
    let base = c.in-Filter.base in
    let more = c.in-Filter.rules in
    let selector = c.in-Some.selector in
    let made = c.in_ok-filtered-in-Some.ensures in
    let below : IsRangePlan kept c.get.result.now = subst (IsRangePlan kept) (sym c.get.ensures) (filter_base kept p base more c.in-Filter.is is) in
    let found : IsSelectorWithin kept selector = subst (λ (o : Option RangeSelector). IsSomeAnd o (IsSelectorWithin kept)) c.in-Some.is (c.in_ok-selector-in-Filter.ensures.total kept below (λ g. none (IsGathered.under p c.in-Filter.base c.in-Filter.rules c.in-Filter.is (subst IsGathered c.get.ensures g)))) in
    record {
      rules = subst (HaveTheirPatterns kept) (sym made.rules) (both_of (λ (rule : Rule). HasItsPattern kept rule.kind) selector.rules more found.rules (filter_rules kept p base more c.in-Filter.is is));
      timed = subst IsMomentWithin (sym made.moment) found.timed;
      long = subst IsLength (sym made.range) found.long;
    }

pub returns-in-None-clause-total : goal.returns-in-None-clause-total
returns-in-None-clause-total t c = λ kept is none.
    let p = c.args.p.now in
    let below : IsRangePlan kept c.get.result.now = subst (IsRangePlan kept) (sym c.get.ensures) (filter_base kept p c.in-Filter.base c.in-Filter.rules c.in-Filter.is is) in
    subst (λ (o : Option RangeSelector). IsSomeAnd o (IsSelectorWithin kept)) c.in-None.is (c.in_ok-selector-in-Filter.ensures.total kept below (λ g. none (IsGathered.under p c.in-Filter.base c.in-Filter.rules c.in-Filter.is (subst IsGathered c.get.ensures g))))

pub returns-in_default-clause-total : goal.returns-in_default-clause-total
returns-in_default-clause-total t c = λ kept is none. absurd (no_range kept c.args.p.now c.in_default.not-Range c.in_default.not-Filter (λ expr kind engines e. none (IsGathered.itself c.args.p.now expr kind engines e)) is)
