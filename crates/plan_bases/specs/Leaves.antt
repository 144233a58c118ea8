-- What a plan reads of the samples: its selectors, and filters over them. (Filters over selectors are those of thanos-io/promql-engine;
-- that a chain of filters is one leaf with its selector is this project's own.)
use Rattle.std.specs.Prelude.{◌≡◌, Bool, true, false, List, [], ◌∷◌, ◌++◌, map, if◌then◌else◌}
use Rattle.label_set.specs.declared.rules.Rule.{Rule}
use Rattle.logical_plan.specs.Validity.{children}
use Rattle.logical_plan.specs.declared.nodes.Plan.{Plan}
use Rattle.logical_plan.specs.declared.nodes.PlanNode.TheOpen.{PlanNode-F}
use Rattle.logical_plan.specs.declared.nodes.PlanNode.TheFolds.{fold-Plan}
use Rattle.plan_bases.specs.declared.leaves.Leaf.{Leaf}

-- some rules, and those of the filters behind them
abbrev pub with_filters : List Rule → List (List Rule) → List Rule
with_filters under [] = under
with_filters under (more ∷ filters) = with_filters (under ++ more) filters

-- the rules that the series of a leaf pass: those of its selector and of its filters
abbrev pub rules_of : Leaf → List Rule
rules_of leaf = with_filters leaf.base leaf.filters

-- a selector without filters
abbrev pub bare : List Rule → Leaf
bare rules = record { base = rules; filters = [] }

-- one filter more over a leaf
abbrev pub filtered : Leaf → List Rule → Leaf
filtered leaf more = record { base = leaf.base; filters = leaf.filters ++ more ∷ [] }

-- whether a plan is a leaf, and all leaves of it, from left to right
pub record Reading : Type 0 where
  pub is_leaf : Bool
  pub leaves : List Leaf

abbrev pub alone : Leaf → Reading
alone leaf = record { is_leaf = true; leaves = leaf ∷ [] }

abbrev pub inside : List Leaf → Reading
inside leaves = record { is_leaf = false; leaves = leaves }

abbrev pub all_leaves : List Reading → List Leaf
all_leaves [] = []
all_leaves (r ∷ rs) = r.leaves ++ all_leaves rs

-- a filter over a leaf is a leaf with it
abbrev pub over : Reading → List Rule → Reading
over base more = record { is_leaf = base.is_leaf; leaves = if base.is_leaf then map (λ (leaf : Leaf). filtered leaf more) base.leaves else base.leaves }

-- selectors are leaves, and filters over them are; over a selector whose own times a timestamp reads, a filter is none
abbrev pub node_reading : {A : Type 0} → PlanNode-F A Reading → Reading
node_reading (PlanNode-F.Select rules moment false) = alone (bare rules)
node_reading (PlanNode-F.Select rules moment true) = inside (bare rules ∷ [])
node_reading (PlanNode-F.Range rules moment range) = alone (bare rules)
node_reading (PlanNode-F.Filter base rules) = over base rules
node_reading y = inside (all_leaves (children y))

abbrev pub reading : Plan → Reading
reading = fold-Plan Reading Reading node_reading (λ p. p.node)

-- all leaves of a plan
abbrev pub leaves_of : Plan → List Leaf
leaves_of p = (reading p).leaves

-- a plan is a leaf, whose series pass these rules
pub record IsLeafOf (p : Plan) (rules : List Rule) : Type 0 where
  pub leaf : Leaf
  pub reads : reading p ≡ alone leaf
  pub passes : rules_of leaf ≡ rules
