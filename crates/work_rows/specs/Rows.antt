-- What the plans of small queries may spend. (The queries are promqltest's and this project's own.)
use Rattle.std.specs.Prelude.{◌≡◌, ◌++◌, ℕ, false, List, [], ◌∷◌, Some, codes}
use Rattle.func_table.specs.declared.table.Aggregate.TheVariants as aggregate
use Rattle.func_table.specs.declared.table.Window.TheVariants as window
use Rattle.label_set.specs.declared.rules.Pairing.{Pairing}
use Rattle.label_set.specs.declared.rules.Rule.{Rule}
use Rattle.logical_plan.specs.declared.nodes.Plan.{Plan}
use Rattle.logical_plan.specs.declared.nodes.PlanNode.TheVariants as node
use Rattle.plan_tree.specs.Spending.{Cost}
use Rattle.plan_work.specs.PlanBounds.{plan_bound}
use Rattle.promql_ast.specs.declared.tree.Fixed.TheVariants as fixed
use Rattle.promql_ast.specs.declared.tree.Moment.{Moment}
use Rattle.promql_meaning.specs.Selecting.{AllSeries}
use Rattle.xfrac.specs.declared.value.Held.{Held}
use Rattle.xfrac.specs.declared.value.PairOp.{PairOp}
use Rattle.work_rows.specs.Samples.{asked_to, has_number, instant, is_metric, minutes, moment_before, one_series, plan, series_of, up_to}

-- what a plan without patterns may spend over some series, at the instants from 0 to a minute
abbrev pub bound_over : AllSeries → (end step : ℕ) → Plan → Cost
bound_over samples end step p = plan_bound (asked_to end samples) p (up_to end step)

abbrev pub select : List Rule → Moment → Plan
select rules moment = plan (node.Select rules moment false)

abbrev pub sum_of : Plan → Plan
sum_of rows = plan (node.Group aggregate.Sum (record { without = false; names = [] }) (rows ∷ []) [])

abbrev pub x : List Rule
x = is_metric (codes "x") ∷ []

abbrev pub SlidingSumsFetchEachSampleOnce : Type 0
SlidingSumsFetchEachSampleOnce = (value : ℕ → Held)
    → bound_over (one_series value 61) 60 1 (plan (node.Window window.SumOver (plan (node.Range x instant (minutes 10))) [])) ≡ record { fetched = 61; probed = 64 }

abbrev pub SumsSeekOnce : Type 0
SumsSeekOnce = (value : ℕ → Held) → bound_over (one_series value 61) 61 7 (sum_of (select x instant)) ≡ record { fetched = 57; probed = 64 }

abbrev pub FixedEndsFetchFour : Type 0
FixedEndsFetchFour = (value : ℕ → Held) → bound_over (one_series value 11) 4 1 (select x (moment_before (Some fixed.End) 1)) ≡ record { fetched = 4; probed = 64 }

abbrev pub ten : List ℕ
ten = 0 ∷ 1 ∷ 2 ∷ 3 ∷ 4 ∷ 5 ∷ 6 ∷ 7 ∷ 8 ∷ 9 ∷ []

-- ten series of `a`, and ten of `b`
abbrev pub ten_of_each : (ℕ → Held) → AllSeries
ten_of_each value = series_of (codes "a") value ten ++ series_of (codes "b") value ten

abbrev pub first_of_a : Plan
first_of_a = select (is_metric (codes "a") ∷ has_number 1 ∷ []) instant

abbrev pub UnmatchedRulesFetchEleven : Type 0
UnmatchedRulesFetchEleven = (value : ℕ → Held) (op : PairOp) (pairing : Pairing)
    → bound_over (ten_of_each value) 0 1 (plan (node.Pair op first_of_a (select (is_metric (codes "b") ∷ []) instant) pairing)) ≡ record { fetched = 11; probed = 704 }

abbrev pub MatchingRulesFetchTwo : Type 0
MatchingRulesFetchTwo = (value : ℕ → Held) (op : PairOp) (pairing : Pairing)
    → bound_over (ten_of_each value) 0 1 (plan (node.Pair op first_of_a (select (is_metric (codes "b") ∷ has_number 1 ∷ []) instant) pairing)) ≡ record { fetched = 2; probed = 128 }
