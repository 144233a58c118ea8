-- What a plan shows of what an expression gives: rows and windows with their notes and marks, and not the rules of a selector,
-- the times of its samples, or a string. (This project's own.)
use Rattle.std.specs.Prelude.{List, [], map}
use Rattle.label_set.specs.declared.rules.Rule.{Rule}
use Rattle.step_table.specs.Sets.{step_of_rows}
use Rattle.promql_meaning.specs.Givens.{barren, no_marks, unstamped}
use Rattle.promql_meaning.specs.declared.given.Given.{Given}
use Rattle.promql_meaning.specs.declared.given.Given.TheVariants as given

abbrev pub shown : Given → Given
shown (given.Scalar step) = given.Scalar step
shown (given.Vector step) = given.Vector step
shown (given.Selected selection) = given.Vector (step_of_rows (map unstamped selection.rows) no_marks)
shown (given.Windows windows) = given.Windows (record windows { rules = [] })
shown (given.Words text) = given.Vector (barren no_marks)

-- the rules of a selector
abbrev pub rules_of : Given → List Rule
rules_of (given.Selected selection) = selection.rules
rules_of (given.Windows windows) = windows.rules
rules_of g = []
