-- What is true of the plans of trees.
use Rattle.std.specs.Prelude.{◌≡◌, List, ℤ}
use Rattle.promql_ast.specs.declared.tree.Expr.{Expr}
use Rattle.promql_type.specs.declared.replace.Placed.{Placed}
use Rattle.promql_meaning.specs.Meaning.{meaning}
use Rattle.promql_meaning.specs.Selecting.{Asked}
use Rattle.logical_plan.specs.Lowering.{PatternsArePlaced, lowered}
use Rattle.logical_plan.specs.PlanMeaning.{plan_meaning}
use Rattle.logical_plan.specs.Shown.{shown}

-- the plan of a tree shows what the tree means, rows, notes and marks, where the patterns of its label_replace calls are found at
-- their places
abbrev pub PlanMeansItsTree : Type 0
PlanMeansItsTree =
    (asked : Asked) (placed : List Placed) (e : Expr) (t : ℤ) → PatternsArePlaced asked.kept placed e → plan_meaning asked (lowered placed e) t ≡ shown (meaning asked e t)
