-- Evaluations whose steps agree end alike. (This project's own.)
use Rattle.std.specs.Prelude.{◌≡◌, Bool, List}
use Rattle.std.specs.List.{AllZip}
use Rattle.promql_ast.specs.declared.tree.Expr.{Expr}
use Rattle.step_table.specs.Timed.{StepAt}
use Rattle.step_table.specs.WellFormed.{AreSets}
use Rattle.step_cells.specs.CellLaws.{Agree}
use Rattle.promql_meaning.specs.Results.{judged}

-- two steps at one instant agree, and their marks are sets: they are one step, or both have the mark Overflow
pub record AgreeAt (a b : StepAt) : Type 0 where
  pub at : a.at ≡ b.at
  pub step : Agree a.step b.step
  pub left : AreSets a.step.marks
  pub right : AreSets b.step.marks

-- evaluations whose steps agree at each instant come to the same, for Overflow is the least mark
abbrev pub AgreeingEndAlike : Type 0
AgreeingEndAlike = (instant : Bool) (e : Expr) (a b : List StepAt) → AllZip AgreeAt a b → judged instant e a ≡ judged instant e b
