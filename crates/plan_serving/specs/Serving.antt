-- Which plans kernels serve: functions of windows stand over range selectors, here or at engines, which filters may stand over, or over
-- subqueries, engines are asked for no part, or for the rows of selectors and the windows of range selectors alone, and the patterns that a
-- plan names are kept. (This project's own.)
use Rattle.std.specs.Prelude.{◌≡◌, ◌&&◌, ◌||◌, ◌++◌, ℕ, Bool, true, false, List, [], ◌∷◌}
use Rattle.std.specs.List.{AllByRecursion}
use Rattle.label_set.specs.declared.rules.PatternId.{PatternId}
use Rattle.label_set.specs.declared.rules.Relabel.TheVariants as relabel
use Rattle.label_set.specs.declared.rules.Rule.{Rule}
use Rattle.logical_plan.specs.Validity.{children}
use Rattle.logical_plan.specs.declared.nodes.Plan.{Plan}
use Rattle.logical_plan.specs.declared.nodes.PlanNode.TheOpen.{PlanNode-F}
use Rattle.logical_plan.specs.declared.nodes.PlanNode.TheFolds.{fold-Plan}
use Rattle.match_rule.specs.Patterns.{HaveTheirPatterns, IsWholeId}
use Rattle.promql_ast.specs.declared.tree.Expr.{Expr}
use Rattle.promql_type.specs.Replacements.{Kept}
use Rattle.step_table.specs.declared.cells.PartKind.{PartKind}
use Rattle.plan_serving.specs.Asking.{asked_rules, is_range_part, is_rising, is_served_part}

-- Whether a plan gives the windows of a range selector, here or at engines, and whether those of a subquery; whether each function of windows in it stands
-- over one of these and kernels serve the parts that engines are asked for; the rules of its selectors and filters; and the patterns of its
-- label_replace nodes.
pub record Serving : Type 0 where
  pub ranges : Bool
  pub points : Bool
  pub served : Bool
  pub rules : List Rule
  pub patterns : List PatternId

-- whether kernels serve a part that engines under some numbers are asked for
abbrev pub Asks : Type 0
Asks = Expr → PartKind → List ℕ → Bool

-- none is served
abbrev pub asks_none : Asks
asks_none expr kind engines = false

-- the rows of a selector are, or of its timestamp, and the windows of a range selector, of engines whose numbers rise
abbrev pub asks_selectors : Asks
asks_selectors expr kind engines = is_served_part kind expr && is_rising engines

-- ---- what a node has of its own

abbrev pub node_ranges : {A : Type 0} → PlanNode-F A Serving → Bool
node_ranges (PlanNode-F.Range rules moment range) = true
node_ranges (PlanNode-F.Filter base rules) = base.ranges
node_ranges (PlanNode-F.Gather expr kind engines) = is_range_part kind expr
node_ranges _ = false

abbrev pub node_points : {A : Type 0} → PlanNode-F A Serving → Bool
node_points (PlanNode-F.Subquery inner range step moment) = true
node_points _ = false

abbrev pub own_served : {A : Type 0} → Asks → PlanNode-F A Serving → Bool
own_served asks (PlanNode-F.Window f inner arguments) = inner.ranges || inner.points
own_served asks (PlanNode-F.Gather expr kind engines) = asks expr kind engines
own_served asks _ = true

abbrev pub own_rules : {A B : Type 0} → PlanNode-F A B → List Rule
own_rules (PlanNode-F.Select rules moment stamped) = rules
own_rules (PlanNode-F.Range rules moment range) = rules
own_rules (PlanNode-F.Filter base rules) = rules
own_rules (PlanNode-F.Gather expr kind engines) = asked_rules kind expr
own_rules _ = []

abbrev pub own_patterns : {A B : Type 0} → PlanNode-F A B → List PatternId
own_patterns (PlanNode-F.Relabel (relabel.Replace target template source pattern) inner) = pattern ∷ []
own_patterns _ = []

-- ---- a plan

abbrev pub are_served : List Serving → Bool
are_served [] = true
are_served (s ∷ ss) = s.served && are_served ss

abbrev pub all_rules : List Serving → List Rule
all_rules [] = []
all_rules (s ∷ ss) = s.rules ++ all_rules ss

abbrev pub all_patterns : List Serving → List PatternId
all_patterns [] = []
all_patterns (s ∷ ss) = s.patterns ++ all_patterns ss

abbrev pub node_serving_by : {A : Type 0} → Asks → PlanNode-F A Serving → Serving
node_serving_by asks y = record {
  ranges = node_ranges y;
  points = node_points y;
  served = own_served asks y && are_served (children y);
  rules = own_rules y ++ all_rules (children y);
  patterns = own_patterns y ++ all_patterns (children y);
}

abbrev pub serving_by : Asks → Plan → Serving
serving_by asks = fold-Plan Serving Serving (node_serving_by asks) (λ p. p.node)

-- kernels serve a plan, with these patterns, where they serve such parts of it as engines are asked for
pub record IsServedBy (asks : Asks) (kept : Kept) (p : Plan) : Type 0 where
  pub windows : (serving_by asks p).served ≡ true
  pub rules : HaveTheirPatterns kept (serving_by asks p).rules
  pub patterns : AllByRecursion (λ (id : PatternId). IsWholeId kept id.0) (serving_by asks p).patterns

-- ---- without engines

abbrev pub node_serving : {A : Type 0} → PlanNode-F A Serving → Serving
node_serving y = node_serving_by asks_none y

abbrev pub serving : Plan → Serving
serving = serving_by asks_none

-- kernels serve a plan, with these patterns, in which engines are asked for no part
abbrev pub IsServed : Kept → Plan → Type 0
IsServed = IsServedBy asks_none

-- ---- over engines

abbrev pub node_serving_over : {A : Type 0} → PlanNode-F A Serving → Serving
node_serving_over y = node_serving_by asks_selectors y

abbrev pub serving_over : Plan → Serving
serving_over = serving_by asks_selectors

-- kernels serve a plan, with these patterns, in which engines are asked for the rows of selectors and the windows of range selectors alone
abbrev pub IsServedOver : Kept → Plan → Type 0
IsServedOver = IsServedBy asks_selectors
