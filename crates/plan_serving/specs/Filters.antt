-- Plans in which no filter stands, as those are that a query is lowered to. (This project's own.)
use Rattle.std.specs.Prelude.{◌≡◌, Bool, true, false}
use Rattle.logical_plan.specs.Validity.{children}
use Rattle.logical_plan.specs.declared.nodes.Plan.{Plan}
use Rattle.logical_plan.specs.declared.nodes.PlanNode.TheOpen.{PlanNode-F}
use Rattle.logical_plan.specs.declared.nodes.PlanNode.TheFolds.{fold-Plan}
use Rattle.promql_meaning.specs.Steadiness.{all_hold}

abbrev pub node_unfiltered : {A : Type 0} → PlanNode-F A Bool → Bool
node_unfiltered (PlanNode-F.Filter base rules) = false
node_unfiltered y = all_hold (children y)

abbrev pub unfiltered : Plan → Bool
unfiltered = fold-Plan Bool Bool node_unfiltered (λ p. p.node)

abbrev pub IsUnfiltered : Plan → Type 0
IsUnfiltered p = unfiltered p ≡ true
