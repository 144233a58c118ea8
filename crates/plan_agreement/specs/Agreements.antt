-- What is given and what plans mean agrees where it is equal, or has the mark Overflow on both sides. (This project's own.)
use Rattle.std.specs.Prelude.{◌≡◌, ℤ, true}
use Rattle.step_table.specs.Laws.{has_mark}
use Rattle.step_table.specs.declared.marks.Mark.TheVariants.{Overflow}
use Rattle.step_table.specs.declared.marks.Marks.{Marks}
use Rattle.step_table.specs.declared.step.Step.{Step}
use Rattle.step_cells.specs.CellLaws.{Agree}
use Rattle.promql_meaning.specs.declared.given.Given.{Given}
use Rattle.promql_meaning.specs.declared.given.Given.TheVariants as given
use Rattle.promql_meaning.specs.declared.given.Windows.{Windows}
use Rattle.logical_plan.specs.PlanMeaning.{Meant}

-- marks with Overflow among them
abbrev pub Overflows : Marks → Type 0
Overflows marks = has_mark marks.fatal Overflow ≡ true

-- what is given agrees: it is equal, or two scalars or two vectors are steps that agree, or two range vectors both have the mark Overflow
pub data AgreeGivens : Given → Given → Type 0 where
  equal : (a b : Given) → a ≡ b → AgreeGivens a b
  scalars : (a b : Step) → Agree a b → AgreeGivens (given.Scalar a) (given.Scalar b)
  vectors : (a b : Step) → Agree a b → AgreeGivens (given.Vector a) (given.Vector b)
  ranges : (a b : Windows) → Overflows a.marks → Overflows b.marks → AgreeGivens (given.Windows a) (given.Windows b)

-- two meanings agree at each instant, and either both or neither are the samples' own times
pub record AgreeMeants (y z : Meant) : Type 0 where
  pub own : y.own ≡ z.own
  pub gives : (t : ℤ) → AgreeGivens (y.gives t) (z.gives t)
