-- Samples, selectors and instants of the rows, in minutes. (This project's own.)
use Rattle.std.specs.Prelude.{◌+◌, ◌*◌, ℕ, zero, suc, pos, false, List, [], ◌∷◌, Option, None, map, codes}
use Rattle.label_set.specs.Labels.{metric_name}
use Rattle.label_set.specs.declared.rules.Rule.{Rule}
use Rattle.label_set.specs.declared.rules.RuleKind.TheVariants as rule
use Rattle.logical_plan.specs.declared.nodes.Plan.{Plan}
use Rattle.logical_plan.specs.declared.nodes.PlanNode.{PlanNode}
use Rattle.promql_ast.specs.declared.tree.Fixed.{Fixed}
use Rattle.promql_ast.specs.declared.tree.Moment.{Moment}
use Rattle.promql_meaning.specs.Selecting.{AllSeries, Asked, Samples}
use Rattle.promql_meaning.specs.Subqueries.{as_times, instants_up_to}
use Rattle.step_table.specs.Groups.{Names}
use Rattle.ticks.specs.declared.moment.Ms.{Ms}
use Rattle.xfrac.specs.declared.value.Held.{Held}

abbrev pub minutes : ℕ → Ms
minutes n = record { 0 = pos (n * 60000) }

-- so many samples, one a minute, the first at some minute
abbrev pub each_minute : (ℕ → Held) → (first : ℕ) → (count : ℕ) → Samples
each_minute value first zero = []
each_minute value first (suc count) = (minutes first, value first) ∷ each_minute value (suc first) count

-- the labels of a metric without others, and with the label `x`
abbrev pub metric : List ℕ → Names
metric name = (metric_name, name) ∷ []

-- a digit as a text
abbrev pub digit : ℕ → List ℕ
digit i = (i + 48) ∷ []

abbrev pub numbered : List ℕ → ℕ → Names
numbered name i = (metric_name, name) ∷ (codes "x", digit i) ∷ []

-- the one series `x`
abbrev pub one_series : (ℕ → Held) → (count : ℕ) → AllSeries
one_series value count = (metric (codes "x"), each_minute value 0 count) ∷ []

-- the series of a metric whose label `x` is one of some digits, with a sample at 0 each
abbrev pub series_of : List ℕ → (ℕ → Held) → List ℕ → AllSeries
series_of name value digits = map (λ (i : ℕ). (numbered name i, each_minute value 0 1)) digits

abbrev pub is_metric : List ℕ → Rule
is_metric name = record { label = metric_name; kind = rule.Eq name }

abbrev pub has_number : ℕ → Rule
has_number i = record { label = codes "x"; kind = rule.Eq (digit i) }

-- the instant, or a fixed time, some minutes before
abbrev pub moment_before : Option Fixed → (offset : ℕ) → Moment
moment_before fixed offset = record { fixed = fixed; offset = minutes offset; closed = false }

abbrev pub instant : Moment
instant = moment_before None 0

abbrev pub plan : PlanNode → Plan
plan node = record { at = 0; node = node }

-- the instants from 0 to a minute, so many minutes apart
abbrev pub up_to : (end step : ℕ) → List Ms
up_to end step = as_times (instants_up_to (pos 0) (pos (end * 60000)) (pos (step * 60000)))

-- a query without patterns over some series, from 0 to a minute
abbrev pub asked_to : ℕ → AllSeries → Asked
asked_to end samples = record { samples = samples; kept = []; start = pos 0; end = pos (end * 60000); engines = [] }
