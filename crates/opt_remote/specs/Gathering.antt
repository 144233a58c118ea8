-- Selectors as parts that engines are asked for. (thanos-io/promql-engine, distributed queries. That the timestamp of a selector is one part
-- is this project's own.)
use Rattle.std.specs.Prelude.{ℕ, Bool, false, List, if◌then◌else◌}
use Rattle.std.specs.List.{range_with_len}
use Rattle.promql_type.specs.Replacements.{Kept}
use Rattle.step_table.specs.declared.cells.PartKind.{PartKind}
use Rattle.step_table.specs.declared.cells.PartKind.TheVariants as part
use Rattle.logical_plan.specs.Lowering.{planned}
use Rattle.logical_plan.specs.PartExprs.{expression_of}
use Rattle.logical_plan.specs.declared.nodes.Plan.{Plan}
use Rattle.logical_plan.specs.declared.nodes.PlanNode.{PlanNode}
use Rattle.logical_plan.specs.declared.nodes.PlanNode.TheVariants.{Gather, Once, Range, Select, Stamp}
use Rattle.logical_plan.specs.declared.nodes.PlanNode.TheOpen.{PlanNode-F}
use Rattle.logical_plan.specs.declared.nodes.PlanNode.TheViews.{out-PlanNode, roll-PlanNode}
use Rattle.plan_rewrite.specs.Rebuilding.{Change, rebuilt}

-- the engines of these numbers are asked for the expression of a node at a place
abbrev pub gather : List ℕ → Kept → PartKind → ℕ → PlanNode → PlanNode
gather engines kept kind at n = Gather (expression_of kept (planned at n)) kind engines

-- a selector whose samples' own times a timestamp reads
abbrev pub is_stamped_selector : {A B : Type 0} → PlanNode-F A B → Bool
is_stamped_selector (PlanNode-F.Select rules moment stamped) = stamped
is_stamped_selector y = false

-- a timestamp over a plan; the timestamp of a selector is a part
abbrev pub timestamp_over : List ℕ → Kept → ℕ → Plan → PlanNode
timestamp_over engines kept at inner = if is_stamped_selector (out-PlanNode inner.node) then gather engines kept part.Rows at (Stamp inner) else Stamp inner

-- a Once node over a plan; a selector whose own times are read stands under its timestamp itself
abbrev pub once_over : Plan → PlanNode
once_over inner = if is_stamped_selector (out-PlanNode inner.node) then inner.node else Once inner

-- A selector becomes a part that these engines are asked for: an instant selector, or the timestamp of one, for its rows, and a range
-- selector for its windows. No other node changes, but for a Once node between a timestamp and its selector, which goes.
abbrev pub gather_selector : List ℕ → Kept → Change
gather_selector engines kept at (PlanNode-F.Select rules moment false) = gather engines kept part.Rows at (Select rules moment false)
gather_selector engines kept at (PlanNode-F.Range rules moment range) = gather engines kept part.Windows at (Range rules moment range)
gather_selector engines kept at (PlanNode-F.Stamp inner) = timestamp_over engines kept at inner
gather_selector engines kept at (PlanNode-F.Once inner) = once_over inner
gather_selector engines kept at y = roll-PlanNode y

-- the numbers of so many engines, which rise from 0
abbrev pub all_engines : ℕ → List ℕ
all_engines count = range_with_len 0 count

-- a plan whose selectors all of so many engines are asked for
abbrev pub gathered_selectors : ℕ → Kept → Plan → Plan
gathered_selectors count kept = rebuilt (gather_selector (all_engines count) kept)
