-- The bound of what a plan costs at some instants: a sum over the selectors of the plan, which a reader can work out by hand. (This
-- project's own.)
use Rattle.std.specs.Prelude.{◌*◌, ◌-ℤ◌, ◌&&◌, ℕ, ℤ, pos, Bool, List, [], ◌∷◌, filter, int_le, length, sum_by}
use Rattle.std.specs.List.{list_any}
use Rattle.label_set.specs.declared.rules.Rule.{Rule}
use Rattle.logical_plan.specs.declared.nodes.Plan.{Plan}
use Rattle.plan_tree.specs.Spending.{Cost, both, nothing}
use Rattle.promql_ast.specs.declared.tree.Moment.{Moment}
use Rattle.promql_meaning.specs.Selecting.{Asked, Samples, moment_of, passing}
use Rattle.promql_meaning.specs.Subqueries.{as_times, first_multiple, instants_up_to}
use Rattle.series_marks.specs.Reaches.{last_instant, window_edge}
use Rattle.series_marks.specs.Reads.{span_bound}
use Rattle.step_table.specs.Groups.{Names}
use Rattle.ticks.specs.Edges.{is_from}
use Rattle.ticks.specs.declared.moment.Ms.{Ms}
use Rattle.plan_work.specs.Measures.{Measure, arguments_measure, plan_measure}

-- what a part of a plan costs at most at some instants
abbrev pub Bounding : Type 0
Bounding = List Ms → Cost

-- a selector whose windows reach back by a length: of each series that passes its rules, the samples in the span from the left edge of
-- the first instant's window to the last moment, one more where none stands at the span's right end, and 64 times; at no instant the
-- span is empty
abbrev pub fetched_by : ℤ → Asked → List Rule → Moment → List Ms → ℕ
fetched_by back asked rules moment [] = 0
fetched_by back asked rules moment (t ∷ at) =
    sum_by (λ (s : Names × Samples). span_bound (window_edge moment.closed back (moment_of asked moment t.0)) (moment_of asked moment (last_instant t at).0) s.1) (passing asked.samples asked.kept rules)

abbrev pub selector_bound : ℤ → Asked → List Rule → Moment → Bounding
selector_bound back asked rules moment at = record { fetched = fetched_by back asked rules moment at; probed = 64 * length (passing asked.samples asked.kept rules) }

-- a time lies in the range that ends at the moment of an instant
abbrev pub is_in_range : Asked → Moment → (range : Ms) → ℤ → Ms → Bool
is_in_range asked moment range u t = is_from moment.closed (moment_of asked moment t.0 -ℤ range.0) u && int_le u (moment_of asked moment t.0)

-- the multiples of a subquery's step that lie in the range of an instant: of those from the left edge of the first range up to the last
-- moment
abbrev pub inner_times : Asked → Moment → (range step : Ms) → List Ms → List Ms
inner_times asked moment range step [] = []
inner_times asked moment range step (t ∷ at) =
    as_times (filter (λ (u : ℤ). list_any (is_in_range asked moment range u) (t ∷ at))
    (instants_up_to (first_multiple moment.closed step.0 (moment_of asked moment t.0 -ℤ range.0)) (moment_of asked moment (last_instant t at).0) step.0))

-- the first instant; where there is none, the time 0
abbrev pub first_of : List Ms → Ms
first_of [] = record { 0 = pos 0 }
first_of (t ∷ at) = t

-- the one instant at which a part is asked that is computed once
abbrev pub first_alone : List Ms → List Ms
first_alone at = first_of at ∷ []

-- costs at some instants: those of parts add up, a subquery's inner expression is asked at the inner instants, and a part that is computed
-- once at the first one
abbrev pub costs : Asked → Measure Bounding
costs asked = record {
  none = λ at. nothing;
  beside = λ left right at. both (left at) (right at);
  selector = λ back rules moment. selector_bound back asked rules moment;
  inside = λ moment range step inner at. inner (inner_times asked moment range step at);
  once = λ inner at. inner (first_alone at);
}

-- what a plan costs at most at some instants
abbrev pub plan_bound : Asked → Plan → Bounding
plan_bound asked p = plan_measure (costs asked) p

-- all arguments of a function
abbrev pub arguments_bound : Asked → List Plan → Bounding
arguments_bound asked arguments = arguments_measure (costs asked) arguments
