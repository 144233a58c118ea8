-- The parts of a plan that engines are asked for, and plans in which no selector stands beside them. (This project's own.)
use Rattle.std.specs.Prelude.{◌≡◌, ℕ, Bool, false, List, [], ◌∷◌, ◌++◌}
use Rattle.std.specs.List.{AllByRecursion}
use Rattle.func_table.specs.declared.table.Func.TheVariants.{Timestamp}
use Rattle.promql_ast.specs.declared.tree.Expr.{Expr}
use Rattle.promql_ast.specs.declared.tree.Node.TheVariants.{Call, Range, Select}
use Rattle.promql_ast.specs.declared.tree.Selector.{Selector}
use Rattle.promql_meaning.specs.Steadiness.{all_hold}
use Rattle.step_table.specs.declared.cells.PartKind.{PartKind}
use Rattle.step_table.specs.declared.cells.PartKind.TheVariants as part
use Rattle.ticks.specs.declared.moment.Ms.{Ms}
use Rattle.logical_plan.specs.Validity.{children}
use Rattle.logical_plan.specs.declared.nodes.Plan.{Plan}
use Rattle.logical_plan.specs.declared.nodes.PlanNode.TheOpen.{PlanNode-F}
use Rattle.logical_plan.specs.declared.nodes.PlanNode.TheFolds.{fold-Plan}

-- ---- the parts

-- an expression, as what it is asked for, and the engines that are asked
pub record Part : Type 0 where
  pub expr : Expr
  pub kind : PartKind
  pub engines : List ℕ

abbrev pub all_parts : List (List Part) → List Part
all_parts [] = []
all_parts (parts ∷ more) = parts ++ all_parts more

abbrev pub node_parts : {A : Type 0} → PlanNode-F A (List Part) → List Part
node_parts (PlanNode-F.Gather expr kind engines) = record { expr = expr; kind = kind; engines = engines } ∷ []
node_parts y = all_parts (children y)

-- the parts of a plan, from left to right
abbrev pub parts_asked : Plan → List Part
parts_asked = fold-Plan (List Part) (List Part) node_parts (λ p. p.node)

-- ---- selectors

-- an instant selector or the timestamp of one, as rows, or a range selector, as windows
pub data IsSelector : Expr → PartKind → Type 0 where
  rows : (e : Expr) (selector : Selector) → e.node ≡ Select selector → IsSelector e part.Rows
  times : (e inner : Expr) (selector : Selector) → e.node ≡ Call Timestamp (inner ∷ []) → inner.node ≡ Select selector → IsSelector e part.Rows
  windows : (e : Expr) (selector : Selector) (range : Ms) → e.node ≡ Range selector range → IsSelector e part.Windows

-- a part that is a selector, of which these engines are asked
pub record IsAskedOf (engines : List ℕ) (p : Part) : Type 0 where
  pub selector : IsSelector p.expr p.kind
  pub all : p.engines ≡ engines

-- each part of a plan is such a part
abbrev pub AreAskedOf : List ℕ → List Part → Type 0
AreAskedOf engines parts = AllByRecursion (IsAskedOf engines) parts

-- ---- no selector is left

abbrev pub node_gathered : {A : Type 0} → PlanNode-F A Bool → Bool
node_gathered (PlanNode-F.Select rules moment stamped) = false
node_gathered (PlanNode-F.Range rules moment range) = false
node_gathered y = all_hold (children y)

-- no selector stands in a plan but in the parts that engines are asked for, so that it reads no samples itself
abbrev pub is_gathered : Plan → Bool
is_gathered = fold-Plan Bool Bool node_gathered (λ p. p.node)
