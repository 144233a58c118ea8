-- What a plan means at an instant: a fold over its nodes by the rules of the meaning of expressions, with the meaning of each
-- child in the child's place. (Prometheus querying; filters and ratios are those of thanos-io/promql-engine.)
use Rattle.std.specs.Prelude.{ℕ, Bool, false, List, [], ◌∷◌, ℤ}
use Rattle.func_table.specs.declared.table.Element.{Element}
use Rattle.func_table.specs.declared.table.Element.TheVariants.{Neg}
use Rattle.func_table.specs.declared.table.Window.{Window as WindowFunction}
use Rattle.func_table.specs.declared.table.Aggregate.{Aggregate}
use Rattle.func_table.specs.declared.table.Aggregate.TheVariants.{CountValues}
use Rattle.label_set.specs.declared.rules.Grouping.{Grouping}
use Rattle.label_set.specs.declared.rules.Relabel.{Relabel as Relabelling}
use Rattle.label_set.specs.declared.rules.Relabel.TheVariants as relabel
use Rattle.promql_meaning.specs.Buckets.{bucket_quantiles}
use Rattle.promql_meaning.specs.Elements.{time_step}
use Rattle.promql_meaning.specs.Givens.{barren, no_marks, scalar_step, step_of, with_scalar}
use Rattle.promql_meaning.specs.Meaning.{aggregated_with, aggregation, applied, as_scalar, negation, operation, step_at, windowed_by}
use Rattle.promql_meaning.specs.Relabels.{label_joined, label_replaced}
use Rattle.promql_meaning.specs.Selecting.{Asked, moment_of, selected, selected_windows}
use Rattle.promql_meaning.specs.Subqueries.{points_of}
use Rattle.promql_meaning.specs.declared.given.Given.{Given}
use Rattle.promql_meaning.specs.declared.given.Given.TheVariants as given
use Rattle.step_table.specs.Sets.{combined}
use Rattle.step_table.specs.declared.step.Step.{Step}
use Rattle.logical_plan.specs.declared.nodes.Plan.{Plan}
use Rattle.logical_plan.specs.declared.nodes.PlanNode.TheOpen.{PlanNode-F}
use Rattle.logical_plan.specs.declared.nodes.PlanNode.TheFolds.{fold-Plan}
use Rattle.logical_plan.specs.Gathers.{gathered}
use Rattle.logical_plan.specs.PlanRules.{absent_under, filtered, newest_of, pattern_text, ratio, selector_of, stamp}

-- what a plan gives at each instant, and whether the values of its rows are the samples' own times
pub record Meant : Type 0 where
  pub own : Bool
  pub gives : ℤ → Given

abbrev pub plain : (ℤ → Given) → Meant
plain gives = record { own = false; gives = gives }

-- what each argument gives at an instant
abbrev pub givens_at : List Meant → ℤ → List Given
givens_at [] t = []
givens_at (m ∷ ms) t = m.gives t ∷ givens_at ms t

-- minus keeps the type; any other function gives a vector
abbrev pub element_given : Element → List Given → Given → Given
element_given Neg arguments g = negation g
element_given f arguments g = given.Vector (applied f (g ∷ arguments))

-- a function of windows, and of the scalar that it takes
abbrev pub window_given : WindowFunction → ℤ → List Given → Given → Step
window_given f t arguments (given.Windows windows) = windowed_by f t (step_at arguments 0) windows
window_given f t arguments g = barren no_marks

abbrev pub relabel_given : Asked → Relabelling → Given → Given
relabel_given asked (relabel.Replace target template source pattern) g =
    given.Vector (label_replaced target template source (pattern_text asked.kept pattern) (step_of g))
relabel_given asked (relabel.Join target separator sources) g = given.Vector (label_joined target separator sources (step_of g))
relabel_given asked (relabel.Filter rules) g = filtered asked.kept rules g

-- count_values takes its label from the node; the other aggregations take their arguments as an expression does
abbrev pub group_given : Aggregate → Grouping → List ℕ → List Given → Step
group_given CountValues by label arguments = aggregated_with CountValues by label (step_at arguments 0) (step_at arguments 0)
group_given f by label arguments = aggregation f by arguments

abbrev pub node_meant : Asked → PlanNode-F Meant Meant → Meant
node_meant asked (PlanNode-F.Number value) = plain (λ t. given.Scalar (scalar_step value))
node_meant asked PlanNode-F.Time = plain (λ t. given.Scalar (time_step t))
node_meant asked (PlanNode-F.Select rules moment stamped) =
    record { own = stamped; gives = λ t. given.Vector (newest_of stamped (selected asked (selector_of rules moment) t)) }
node_meant asked (PlanNode-F.Range rules moment range) = plain (λ t. given.Windows (record {
  moment = record { 0 = moment_of asked moment t };
  range = range;
  rules = [];
  rows = selected_windows asked (selector_of rules moment) range.0 t;
  marks = no_marks;
}))
node_meant asked (PlanNode-F.Subquery inner range step moment) =
    plain (λ t. given.Windows (points_of moment.closed (λ u. step_of (inner.gives u)) range step (moment_of asked moment t)))
node_meant asked (PlanNode-F.Element f inner arguments) = plain (λ t. element_given f (givens_at arguments t) (inner.gives t))
node_meant asked (PlanNode-F.Stamp inner) = plain (λ t. given.Vector (stamp inner.own t (step_of (inner.gives t))))
node_meant asked (PlanNode-F.Window f inner arguments) = plain (λ t. given.Vector (window_given f t (givens_at arguments t) (inner.gives t)))
node_meant asked (PlanNode-F.Absent labels inner) = plain (λ t. given.Vector (absent_under labels (inner.gives t)))
node_meant asked (PlanNode-F.Buckets quantile inner) =
    plain (λ t. given.Vector (with_scalar bucket_quantiles (step_of (quantile.gives t)) (step_of (inner.gives t))))
node_meant asked (PlanNode-F.Relabel rule inner) = plain (λ t. relabel_given asked rule (inner.gives t))
node_meant asked (PlanNode-F.Sort down inner) = plain (λ t. given.Vector (step_of (inner.gives t)))
node_meant asked (PlanNode-F.ScalarOf inner) = plain (λ t. given.Scalar (as_scalar (step_of (inner.gives t))))
node_meant asked (PlanNode-F.VectorOf inner) = plain (λ t. given.Vector (step_of (inner.gives t)))
node_meant asked (PlanNode-F.Group f by arguments label) = plain (λ t. given.Vector (group_given f by label (givens_at arguments t)))
node_meant asked (PlanNode-F.Pair op left right pairing) = plain (λ t. operation op pairing (left.gives t) (right.gives t))
node_meant asked (PlanNode-F.Set op left right pairing) =
    plain (λ t. given.Vector (combined (step_of (left.gives t)) (step_of (right.gives t)) op pairing))
node_meant asked (PlanNode-F.Filter base rules) = plain (λ t. filtered asked.kept rules (base.gives t))
node_meant asked (PlanNode-F.Ratio sum count) = plain (λ t. given.Vector (ratio (step_of (sum.gives t)) (step_of (count.gives t))))
node_meant asked (PlanNode-F.Once inner) = inner
node_meant asked (PlanNode-F.Gather expr kind engines) = plain (gathered asked expr kind engines)

abbrev pub plan_meant : Asked → Plan → Meant
plan_meant asked = fold-Plan Meant Meant (node_meant asked) (λ p. p.node)

-- what a plan gives at an instant
abbrev pub plan_meaning : Asked → Plan → ℤ → Given
plan_meaning asked p t = (plan_meant asked p).gives t

-- the step of a plan that gives a scalar or a vector, at an instant
abbrev pub plan_step : Asked → Plan → ℤ → Step
plan_step asked p t = step_of (plan_meaning asked p t)
