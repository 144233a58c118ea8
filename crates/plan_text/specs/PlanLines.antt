-- The lines that explain a plan: one for each node, behind two blanks for each node above it, and those of its children below it.
-- (This project's own. The selectors, operators and groupings on them are those of a query's canonical text.)
use Rattle.std.specs.Prelude.{ℕ, ◌+◌, Bool, true, false, if◌then◌else◌, List, [], ◌∷◌, ◌++◌, map, codes, decimal}
use Rattle.func_table.specs.Naming.{aggregate_name, function_name}
use Rattle.func_table.specs.declared.table.Aggregate.{Aggregate as AggregateFunction}
use Rattle.func_table.specs.declared.table.Func.{Func}
use Rattle.func_table.specs.declared.table.Func.TheVariants as func
use Rattle.func_table.specs.declared.table.Window.{Window as WindowFunction}
use Rattle.func_table.specs.declared.table.Window.TheVariants.{QuantileOver}
use Rattle.label_set.specs.LabelText.{quoted}
use Rattle.label_set.specs.declared.rules.Grouping.{Grouping}
use Rattle.label_set.specs.declared.rules.Relabel.{Relabel as Relabelling}
use Rattle.label_set.specs.declared.rules.Relabel.TheVariants as relabel
use Rattle.label_set.specs.declared.rules.Rule.{Rule}
use Rattle.logical_plan.specs.declared.nodes.Plan.{Plan}
use Rattle.logical_plan.specs.declared.nodes.PlanNode.{PlanNode}
use Rattle.logical_plan.specs.declared.nodes.PlanNode.TheOpen.{Plan-F, PlanNode-F}
use Rattle.logical_plan.specs.declared.nodes.PlanNode.TheFolds.{fold-Plan, fold-PlanNode}
use Rattle.promql_ast.specs.declared.tree.Expr.{Expr}
use Rattle.promql_print.specs.Canonical.{canonical, number_text, range_text, select_text, steps_text}
use Rattle.promql_print.specs.Labels.{braced_rules, in_parens, pattern_text}
use Rattle.promql_print.specs.Operators.{grouping_words, pair_words, pairing_words, set_word}
use Rattle.step_table.specs.declared.cells.PartKind.{PartKind}
use Rattle.step_table.specs.declared.cells.PartKind.TheVariants as part

-- ---- the words of a node

-- a function, a stamp or a sign
abbrev pub call_words : Func → List ℕ
call_words f = codes "call " ++ function_name f

abbrev pub selector_word : Bool → List ℕ
selector_word stamped = if stamped then codes "stamped " else codes "select "

abbrev pub sort_function : Bool → Func
sort_function down = if down then func.SortDesc else func.Sort

abbrev pub filter_words : List (Bool × List ℕ) → List Rule → List ℕ
filter_words kept rules = codes "filter " ++ braced_rules kept rules

-- strings as in a call, without the vector that they stand behind
abbrev pub strings_text : List (List ℕ) → List ℕ
strings_text strings = in_parens (map quoted strings)

abbrev pub relabel_words : List (Bool × List ℕ) → Relabelling → List ℕ
relabel_words kept (relabel.Replace target template source pattern) =
    call_words func.LabelReplace ++ strings_text (target ∷ template ∷ source ∷ pattern_text kept pattern ∷ [])
relabel_words kept (relabel.Join target separator sources) = call_words func.LabelJoin ++ strings_text (target ∷ separator ∷ sources)
relabel_words kept (relabel.Filter rules) = filter_words kept rules

abbrev pub aggregate_words : AggregateFunction → Grouping → List ℕ
aggregate_words f grouping = codes "aggregate " ++ (aggregate_name f ++ grouping_words grouping)

-- rows, windows, or an aggregation as engines do it in part
abbrev pub part_words : PartKind → List ℕ
part_words part.Rows = codes "rows"
part_words part.Windows = codes "windows"
part_words (part.Partial f grouping) = aggregate_name f ++ grouping_words grouping

-- engines are counted from 1
abbrev pub engine_text : ℕ → List ℕ
engine_text engine = decimal (engine + 1)

abbrev pub more_engines : List ℕ → List ℕ
more_engines [] = []
more_engines (engine ∷ engines) = codes "," ++ (engine_text engine ++ more_engines engines)

abbrev pub engines_text : List ℕ → List ℕ
engines_text [] = codes "none"
engines_text (engine ∷ engines) = engine_text engine ++ more_engines engines

-- what engines are asked for
abbrev pub gather_words : List (Bool × List ℕ) → Expr → PartKind → List ℕ → List ℕ
gather_words kept expr kind engines =
    codes "gather " ++ (part_words kind ++ (codes " from " ++ (engines_text engines ++ (codes ": " ++ canonical kept expr))))

-- ---- lines

-- the lines of a plan, behind what stands before the first one's words
abbrev pub Lines : Type 0
Lines = List ℕ → List ℕ

-- one plan's after another's
abbrev pub both : Lines → Lines → Lines
both first second front = first front ++ second front

abbrev pub all_lines : List Lines → Lines
all_lines [] front = []
all_lines (first ∷ others) front = first front ++ all_lines others front

-- what is told of a node: its own words, and the lines of its children
pub record Told : Type 0 where
  pub words : List ℕ
  pub below : Lines

abbrev pub alone : List ℕ → Told
alone words = record { words = words; below = λ front. [] }

abbrev pub over : List ℕ → Lines → Told
over words below = record { words = words; below = below }

-- a scalar that stands before the windows in a call
abbrev pub takes_scalar_first : WindowFunction → Bool
takes_scalar_first QuantileOver = true
takes_scalar_first f = false

abbrev pub in_order : Bool → Lines → Lines → Lines
in_order scalar_first inner scalars = if scalar_first then both scalars inner else both inner scalars

-- one node, with the lines of its children, which stand in the order of the query
abbrev pub node_told : List (Bool × List ℕ) → PlanNode-F Told Lines → Told
node_told kept (PlanNode-F.Number value) = alone (codes "number " ++ number_text value)
node_told kept PlanNode-F.Time = alone (codes "time")
node_told kept (PlanNode-F.Select rules moment stamped) = alone (selector_word stamped ++ select_text kept rules moment)
node_told kept (PlanNode-F.Range rules moment range) = alone (codes "range " ++ range_text kept rules range moment)
node_told kept (PlanNode-F.Subquery inner range step moment) = over (codes "subquery " ++ steps_text range step moment) inner
node_told kept (PlanNode-F.Element f inner arguments) = over (call_words (func.Element f)) (both inner (all_lines arguments))
node_told kept (PlanNode-F.Stamp inner) = over (call_words func.Timestamp) inner
node_told kept (PlanNode-F.Window f inner arguments) = over (call_words (func.Window f)) (in_order (takes_scalar_first f) inner (all_lines arguments))
node_told kept (PlanNode-F.Absent labels inner) = over (call_words func.Absent) inner
node_told kept (PlanNode-F.Buckets quantile inner) = over (call_words func.HistogramQuantile) (both quantile inner)
node_told kept (PlanNode-F.Relabel rule inner) = over (relabel_words kept rule) inner
node_told kept (PlanNode-F.Sort down inner) = over (call_words (sort_function down)) inner
node_told kept (PlanNode-F.ScalarOf inner) = over (call_words func.Scalar) inner
node_told kept (PlanNode-F.VectorOf inner) = over (call_words func.Vector) inner
node_told kept (PlanNode-F.Group f grouping arguments label) = over (aggregate_words f grouping) (all_lines arguments)
node_told kept (PlanNode-F.Pair op left right pairing) = over (codes "binary " ++ (pair_words op ++ pairing_words pairing)) (both left right)
node_told kept (PlanNode-F.Set op left right pairing) = over (codes "binary " ++ (set_word op ++ pairing_words pairing)) (both left right)
node_told kept (PlanNode-F.Filter base rules) = over (filter_words kept rules) base
node_told kept (PlanNode-F.Ratio sum count) = over (codes "ratio") (both sum count)
node_told kept (PlanNode-F.Once inner) = over (codes "once") inner
node_told kept (PlanNode-F.Gather expr kind engines) = alone (gather_words kept expr kind engines)

-- a node's line, and those below it
abbrev pub plan_lines : Plan-F Told Lines → Lines
plan_lines p front = front ++ (p.node.words ++ (codes "\n" ++ p.node.below (front ++ codes "  ")))

abbrev pub told : List (Bool × List ℕ) → PlanNode → Told
told kept = fold-PlanNode Told Lines (node_told kept) plan_lines

-- the lines of a plan whose patterns are kept under their numbers
abbrev pub lines_of : List (Bool × List ℕ) → Plan → Lines
lines_of kept = fold-Plan Told Lines (node_told kept) plan_lines
