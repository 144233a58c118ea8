use Rattle.std.proofs.Common.{◌≡◌, ◌∙◌, ◌<◌, Bool, List, ap, false, subst, sym}
use Rattle.label_set.specs.declared.rules.Rule.{Rule}
use Rattle.logical_plan.specs.Validity.{measured}
use Rattle.logical_plan.specs.declared.nodes.Plan.{Plan}
use Rattle.logical_plan.specs.declared.nodes.PlanNode.TheVariants as node
use Rattle.match_rule.specs.Patterns.{HaveTheirPatterns}
use Rattle.plan_bases.specs.LeafLaws.{filter_is_leaf, select_is_leaf}
use Rattle.plan_bases.specs.Leaves.{IsLeafOf}
use Rattle.plan_serving.specs.Serving.{serving_over as serving}
use Rattle.promql_meaning.specs.Selecting.{Asked}
use Rattle.plan_parts.specs.Parts.{IsReadable, IsSelectorOf}
use Rattle.plan_parts.specs.declared.selectors.InstantSelector.{InstantSelector}
use Rattle.plan_parts.proofs.SelectorRows.{Within, base_patterns, base_within, filter_deep, filter_is_selector, filter_readable, select_deep, select_is_selector, select_readable, some_at}
use Rattle.plan_parts.proofs.selectors.+instant_selector.Goals as goal

pub returns-in_ok-copy-in-Select-default-default-false-clause-selector : goal.returns-in_ok-copy-in-Select-default-default-false-clause-selector
returns-in_ok-copy-in-Select-default-default-false-clause-selector t c = λ asked.
    let s = c.in-Select-default-default-false in
    let plain : s.stamped ≡ false = rw s.stamped-is at s.stamped-test in
    let is : c.args.p.now.node ≡ node.Select s.rules s.moment false = s.is ∙ ap (λ (stamped : Bool). node.Select s.rules s.moment stamped) plain in
    subst (λ (rules : List Rule). IsSelectorOf asked c.args.p.now rules s.moment false) (sym c.in_ok-copy-in-Select-default-default-false.ensures) (select_is_selector asked c.args.p.now s.rules s.moment false is)

pub returns-in_ok-copy-in-Select-default-default-false-clause-leaf : goal.returns-in_ok-copy-in-Select-default-default-false-clause-leaf
returns-in_ok-copy-in-Select-default-default-false-clause-leaf t c =
    let s = c.in-Select-default-default-false in
    let plain : s.stamped ≡ false = rw s.stamped-is at s.stamped-test in
    let is : c.args.p.now.node ≡ node.Select s.rules s.moment false = s.is ∙ ap (λ (stamped : Bool). node.Select s.rules s.moment stamped) plain in
    subst (IsLeafOf c.args.p.now) (sym c.in_ok-copy-in-Select-default-default-false.ensures) (select_is_leaf c.args.p.now s.rules s.moment is)

pub returns-in_ok-copy-in-Select-default-default-false-clause-deep : goal.returns-in_ok-copy-in-Select-default-default-false-clause-deep
returns-in_ok-copy-in-Select-default-default-false-clause-deep t c =
    let s = c.in-Select-default-default-false in
    let plain : s.stamped ≡ false = rw s.stamped-is at s.stamped-test in
    let is : c.args.p.now.node ≡ node.Select s.rules s.moment false = s.is ∙ ap (λ (stamped : Bool). node.Select s.rules s.moment stamped) plain in
    select_deep c.args.p.now s.rules s.moment false is

pub returns-in_ok-copy-in-Select-default-default-false-clause-total : goal.returns-in_ok-copy-in-Select-default-default-false-clause-total
returns-in_ok-copy-in-Select-default-default-false-clause-total t c = λ kept have within.
    let s = c.in-Select-default-default-false in
    let plain : s.stamped ≡ false = rw s.stamped-is at s.stamped-test in
    let is : c.args.p.now.node ≡ node.Select s.rules s.moment false = s.is ∙ ap (λ (stamped : Bool). node.Select s.rules s.moment stamped) plain in
    subst (λ (rules : List Rule). IsReadable kept rules s.moment) (sym c.in_ok-copy-in-Select-default-default-false.ensures) (select_readable kept c.args.p.now s.rules s.moment false is have within)

pub returns-in_ok-filtered-in-Some-clause-deep : goal.returns-in_ok-filtered-in-Some-clause-deep
returns-in_ok-filtered-in-Some-clause-deep t c =
    let found = some_at (λ (s : InstantSelector). 0 < (measured c.get.result.now).depth) _ c.in-Some.below c.in-Some.is c.in_ok-below-in-Filter.ensures.deep in
    filter_deep c.args.p.now c.in-Filter.base c.in-Filter.rules c.in-Filter.is (subst (λ (q : Plan). 0 < (measured q).depth) c.get.ensures found)

pub returns-in_ok-filtered-in-Some-clause-selector : goal.returns-in_ok-filtered-in-Some-clause-selector
returns-in_ok-filtered-in-Some-clause-selector t c = λ asked.
    let p = c.args.p.now in
    let base = c.in-Filter.base in
    let more = c.in-Filter.rules in
    let below = c.in-Some.below in
    let made = c.in_ok-filtered-in-Some.ensures in
    let found = some_at (λ (s : InstantSelector). (asked : Asked) → IsSelectorOf asked c.get.result.now s.rules s.moment false) _ below c.in-Some.is c.in_ok-below-in-Filter.ensures.selector asked in
    let known = subst (λ (q : Plan). IsSelectorOf asked q below.rules below.moment false) c.get.ensures found in
    coe 1 0 (j. IsSelectorOf asked p (made.rules j) (made.moment j) false)
    (filter_is_selector asked c.more_rules_filter.ensures.rows c.range_selectors_cost.ensures.filter p base below.rules more below.moment c.in-Filter.is known)

pub returns-in_ok-filtered-in-Some-clause-leaf : goal.returns-in_ok-filtered-in-Some-clause-leaf
returns-in_ok-filtered-in-Some-clause-leaf t c =
    let below = c.in-Some.below in
    let found = some_at (λ (s : InstantSelector). IsLeafOf c.get.result.now s.rules) _ below c.in-Some.is c.in_ok-below-in-Filter.ensures.leaf in
    let known = subst (λ (q : Plan). IsLeafOf q below.rules) c.get.ensures found in
    subst (IsLeafOf c.args.p.now) (sym c.in_ok-filtered-in-Some.ensures.rules) (filter_is_leaf c.args.p.now c.in-Filter.base below.rules c.in-Filter.rules c.in-Filter.is known)

pub returns-in_ok-filtered-in-Some-clause-total : goal.returns-in_ok-filtered-in-Some-clause-total
returns-in_ok-filtered-in-Some-clause-total t c = λ kept have within.
    let p = c.args.p.now in
    let base = c.in-Filter.base in
    let more = c.in-Filter.rules in
    let below = c.in-Some.below in
    let made = c.in_ok-filtered-in-Some.ensures in
    let q = c.get.result.now in
    let found = c.in_ok-below-in-Filter.ensures.total kept
    (subst (λ (r : Plan). HaveTheirPatterns kept (serving r).rules) (sym c.get.ensures) (base_patterns kept p base more c.in-Filter.is have))
    (subst Within (sym c.get.ensures) (base_within kept p base more c.in-Filter.is within)) in
    let known : IsReadable kept below.rules below.moment = some_at (λ (s : InstantSelector). IsReadable kept s.rules s.moment) _ below c.in-Some.is found in
    coe 1 0 (j. IsReadable kept (made.rules j) (made.moment j)) (filter_readable kept p base more c.in-Filter.is below.rules below.moment have known)
