-- How many series the builds of the plans of small queries test, beside other series. (The query is that of thanos-io/promql-engine for
-- merged selectors, with sums; the numbers are this project's own.)
use Rattle.std.specs.Prelude.{◌≡◌, ◌++◌, false, List, [], ◌∷◌, codes}
use Rattle.std.specs.List.{AllByRecursion}
use Rattle.label_set.specs.Labels.{metric_name}
use Rattle.label_set.specs.declared.rules.Pairing.{Pairing}
use Rattle.label_set.specs.declared.rules.Rule.{Rule}
use Rattle.label_set.specs.declared.rules.RuleKind.TheVariants as rule
use Rattle.logical_plan.specs.declared.nodes.Plan.{Plan}
use Rattle.logical_plan.specs.declared.nodes.PlanNode.TheVariants as node
use Rattle.plan_bases.specs.Bases.{Kept}
use Rattle.plan_bases.specs.Looks.{plan_looks}
use Rattle.sample_store.specs.Samples.{AllSeries, Pair, Samples, has_pair}
use Rattle.xfrac.specs.declared.value.PairOp.{PairOp}
use Rattle.work_rows.specs.Rows.{select, sum_of}
use Rattle.work_rows.specs.Samples.{instant, plan}

abbrev pub named_metric : Pair
named_metric = (metric_name, codes "metric")

abbrev pub a_is_b : Pair
a_is_b = (codes "a", codes "b")

abbrev pub c_is_d : Pair
c_is_d = (codes "c", codes "d")

-- the rule that a label has a text
abbrev pub asks : Pair → Rule
asks pair = record { label = pair.0; kind = rule.Eq pair.1 }

-- the series `metric{a="b",c="d"}` and `metric{a="b"}` with any samples, and others
abbrev pub beside : (narrow wide : Samples) → AllSeries → AllSeries
beside narrow wide others = (named_metric ∷ a_is_b ∷ c_is_d ∷ [], narrow) ∷ (named_metric ∷ a_is_b ∷ [], wide) ∷ others

-- no series of some has a label with a text
abbrev pub NoneHas : Pair → AllSeries → Type 0
NoneHas pair series = AllByRecursion (λ s. has_pair pair s.0 ≡ false) series

-- `metric{a="b"}`, and the rule that `metric{a="b",c="d"}` has besides
abbrev pub wide_rules : List Rule
wide_rules = asks named_metric ∷ asks a_is_b ∷ []

abbrev pub more_rules : List Rule
more_rules = asks c_is_d ∷ []

-- `sum` of some rows by `scalar(sum(metric{a="b"}))`
abbrev pub by_all : PairOp → Pairing → Plan → Plan
by_all op pairing part = plan (node.Pair op (sum_of part) (plan (node.ScalarOf (sum_of (select wide_rules instant)))) pairing)

-- two selectors, as the query is written
abbrev pub WrittenSelectorsTestThree : Type 0
WrittenSelectorsTestThree = (kept : Kept) (narrow wide : Samples) (others : AllSeries) (op : PairOp) (pairing : Pairing)
    → NoneHas named_metric others → NoneHas c_is_d others
    → plan_looks kept (beside narrow wide others) (by_all op pairing (select (wide_rules ++ more_rules) instant)) ≡ 3

-- a filter over the wider selector in the narrower one's place
abbrev pub MergedSelectorsTestThree : Type 0
MergedSelectorsTestThree = (kept : Kept) (narrow wide : Samples) (others : AllSeries) (op : PairOp) (pairing : Pairing)
    → NoneHas named_metric others → NoneHas c_is_d others
    → plan_looks kept (beside narrow wide others) (by_all op pairing (plan (node.Filter (select wide_rules instant) more_rules))) ≡ 3

abbrev pub EqualSelectorsAreSelectedOnce : Type 0
EqualSelectorsAreSelectedOnce = (kept : Kept) (narrow wide : Samples) (others : AllSeries) (op : PairOp) (pairing : Pairing)
    → NoneHas named_metric others
    → plan_looks kept (beside narrow wide others) (plan (node.Pair op (select wide_rules instant) (select wide_rules instant) pairing)) ≡ 2
