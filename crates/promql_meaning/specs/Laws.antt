-- What users of a meaning rely on.
use Rattle.std.specs.Prelude.{◌≡◌, ℕ, Bool, List, filter, map, None, Some, Ok, ℤ, pos, ◌-ℤ◌, ◌<ℤ◌, ◌≤ℤ◌, ◌↔◌}
use Rattle.std.specs.List.{AllByRecursion, Contains}
use Rattle.func_table.specs.declared.table.Aggregate.TheVariants.{Sum}
use Rattle.func_table.specs.declared.table.Element.TheVariants.{Neg}
use Rattle.label_set.specs.declared.rules.Grouping.{Grouping}
use Rattle.promql_ast.specs.declared.tree.Expr.{Expr}
use Rattle.promql_ast.specs.declared.tree.Fixed.{Fixed}
use Rattle.promql_ast.specs.declared.tree.Node.TheVariants.{Select}
use Rattle.promql_ast.specs.declared.tree.Selector.{Selector}
use Rattle.ticks.specs.Edges.{IsFrom}
use Rattle.ticks.specs.Steps.{IsMultiple}
use Rattle.window_fn.specs.Aggregates.{total}
use Rattle.xfrac.specs.Laws.{IsNumber}
use Rattle.xfrac.specs.declared.value.XFrac.{XFrac}
use Rattle.step_table.specs.WellFormed.{IsTable, IsWellFormed}
use Rattle.step_table.specs.declared.step.Row.{Row}
use Rattle.step_table.specs.declared.step.Step.{Step}
use Rattle.promql_meaning.specs.Aggregations.{aggregated}
use Rattle.promql_meaning.specs.Elements.{mapped, nameless}
use Rattle.step_table.specs.Sets.{step_of_rows}
use Rattle.promql_meaning.specs.Meaning.{meaning, meaning_step, zero_number}
use Rattle.promql_meaning.specs.Orders.{ungrouped}
use Rattle.promql_meaning.specs.Ranks.{kept_labels, ranked}
use Rattle.promql_meaning.specs.Selecting.{Asked}
use Rattle.promql_meaning.specs.Subqueries.{multiples}

-- the sum by a grouping that keeps all labels of each row is each row
abbrev pub SumOfEachRow : Type 0
SumOfEachRow =
    (by : Grouping) (arg : XFrac) (label : List ℕ) (v : Step)
    → IsTable v.table.rows
    → AllByRecursion (λ (row : Row). kept_labels by row.labels ≡ row.labels) v.table.rows
    → AllByRecursion (λ (row : Row). IsNumber row.value) v.table.rows
    → aggregated Sum by arg label v ≡ v

-- where the values of a vector have a sum, it is the sum of their sums by any grouping
abbrev pub SumsOfSums : Type 0
SumsOfSums =
    (by : Grouping) (arg s : XFrac) (label : List ℕ) (v : Step)
    → AllByRecursion (λ (row : Row). IsNumber row.value) v.table.rows
    → total (map (λ (row : Row). row.value) v.table.rows) ≡ Ok s
    → aggregated Sum ungrouped arg label (aggregated Sum by arg label v) ≡ aggregated Sum ungrouped arg label v

-- a row without the metric's name
abbrev pub unnamed_row : Row → Row
unnamed_row row = record { labels = nameless row.labels; value = row.value }

-- minus twice gives the rows without their names, where these are a table: no two share labels
abbrev pub MinusTwice : Type 0
MinusTwice =
    (v : Step) → IsTable (map unnamed_row v.table.rows)
    → mapped Neg zero_number zero_number (mapped Neg zero_number zero_number v) ≡ step_of_rows (map unnamed_row v.table.rows) v.marks

-- topk and bottomk give a part of the vector: some of its rows, in its order
abbrev pub RanksArePart : Type 0
RanksArePart =
    (down : Bool) (by : Grouping) (arg : XFrac) (v : Step)
    → (wanted : Row → Bool) × ((ranked down by arg v).table.rows ≡ filter wanted v.table.rows)

-- a selector without its offset
abbrev pub without_offset : Selector → Selector
without_offset selector = record selector { moment = record selector.moment { offset = record { 0 = pos 0 } } }

-- a selector under `@` means the same at each instant
abbrev pub FixedSelectorStays : Type 0
FixedSelectorStays =
    (asked : Asked) (e : Expr) (selector : Selector) (at : Fixed) (t u : ℤ)
    → e.node ≡ Select selector → selector.moment.fixed ≡ Some at → meaning asked e t ≡ meaning asked e u

-- a selector with an offset means what it means without it, that much earlier
abbrev pub OffsetIsEarlier : Type 0
OffsetIsEarlier =
    (asked : Asked) (e plain : Expr) (selector : Selector) (t : ℤ)
    → e.node ≡ Select selector → plain.node ≡ Select (without_offset selector) → selector.moment.fixed ≡ None
    → meaning asked e t ≡ meaning asked plain (t -ℤ selector.moment.offset.0)

-- a multiple of a step behind the left edge of a range, or on it where it is closed, up to its moment
pub record IsMultipleIn (closed : Bool) (edge m step u : ℤ) : Type 0 where
  pub from_edge : IsFrom closed edge u
  pub up_to : u ≤ℤ m
  pub multiple : IsMultiple step u

-- a subquery asks what its inner expression means at these, and at no others
abbrev pub MultiplesAreAll : Type 0
MultiplesAreAll =
    (closed : Bool) (m range step u : ℤ) → pos 0 <ℤ step → Contains (multiples closed m range step) u ↔ IsMultipleIn closed (m -ℤ range) m step u

-- each step of a meaning is a table in the order of its labels, with notes and marks as sets
abbrev pub MeaningIsWellFormed : Type 0
MeaningIsWellFormed = (asked : Asked) (e : Expr) (t : ℤ) → IsWellFormed (meaning_step asked e t)
