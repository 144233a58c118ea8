-- Each value of what a query means is a number, or a whole number of any size, as a count is. (This project's own.)
use Rattle.std.specs.Prelude.{ℤ, ◌≤◌, unsigned_abs, List, [], ◌∷◌, ◌++◌, ⊤}
use Rattle.std.specs.List.{AllByRecursion}
use Rattle.promql_ast.specs.declared.tree.Expr.{Expr}
use Rattle.promql_ast.specs.declared.tree.Node.TheOpen.{Node-F}
use Rattle.promql_ast.specs.declared.tree.Node.TheFolds.{fold-Expr}
use Rattle.step_table.specs.Groups.{Names}
use Rattle.step_table.specs.declared.step.Row.{Row}
use Rattle.step_table.specs.declared.step.Step.{Step}
use Rattle.step_table.specs.declared.windows.WindowRow.{WindowRow}
use Rattle.ticks.specs.declared.moment.Ms.{Ms}
use Rattle.window_fn.specs.NumberLaws.{IsNumberOrWhole}
use Rattle.xfrac.specs.AnySize.{InLowestTerms}
use Rattle.xfrac.specs.Fractions.{limit}
use Rattle.xfrac.specs.Laws.{IsNumber}
use Rattle.xfrac.specs.declared.value.Held.{Held}
use Rattle.xfrac.specs.declared.value.Held.TheVariants.{Value, Stale}
use Rattle.xfrac.specs.declared.value.XFrac.{XFrac}
use Rattle.xfrac.specs.declared.value.XFrac.TheVariants.{Fin}
use Rattle.promql_meaning.specs.declared.given.Given.{Given}
use Rattle.promql_meaning.specs.declared.given.Given.TheVariants as given
use Rattle.promql_meaning.specs.declared.given.Stamped.{Stamped}
use Rattle.promql_meaning.specs.Meaning.{meaning, meaning_step}
use Rattle.promql_meaning.specs.Selecting.{AllSeries, Asked, Samples}

-- ---- what is asked

-- a sample is a number, or a marker of staleness
abbrev pub IsSample : Ms × Held → Type 0
IsSample (at, Value value) = IsNumber value
IsSample (at, Stale) = ⊤

abbrev pub HaveSamples : AllSeries → Type 0
HaveSamples all = AllByRecursion (λ (series : Names × Samples). AllByRecursion IsSample series.1) all

-- the numbers that stand in an expression
abbrev pub all_of : List (List XFrac) → List XFrac
all_of [] = []
all_of (numbers ∷ lists) = numbers ++ all_of lists

abbrev pub node_numbers : Node-F (List XFrac) (List XFrac) → List XFrac
node_numbers (Node-F.Number value) = value ∷ []
node_numbers (Node-F.Words text) = []
node_numbers (Node-F.Paren inner) = inner
node_numbers (Node-F.Negate inner) = inner
node_numbers (Node-F.Select selector) = []
node_numbers (Node-F.Range selector range) = []
node_numbers (Node-F.Subquery inner range step moment) = inner
node_numbers (Node-F.Call f arguments) = all_of arguments
node_numbers (Node-F.Aggregate f grouping arguments) = all_of arguments
node_numbers (Node-F.Pair op left right pairing) = left ++ right
node_numbers (Node-F.Set op left right pairing) = left ++ right

abbrev pub numbers_of : Expr → List XFrac
numbers_of = fold-Expr (List XFrac) (List XFrac) node_numbers (λ e. e.node)

-- ---- what is given

-- a step whose values are numbers, or whole numbers of any size
abbrev pub HasValues : Step → Type 0
HasValues step = AllByRecursion (λ (row : Row). IsNumberOrWhole row.value) step.table.rows

-- the same of what is given: of a vector and a scalar, and of each sample of windows
abbrev pub GivesValues : Given → Type 0
GivesValues (given.Scalar step) = HasValues step
GivesValues (given.Vector step) = HasValues step
GivesValues (given.Selected selection) = AllByRecursion (λ (row : Stamped). IsNumberOrWhole row.value) selection.rows
GivesValues (given.Windows windows) = AllByRecursion (λ (row : WindowRow). AllByRecursion IsNumberOrWhole row.values) windows.rows
GivesValues (given.Words text) = ⊤

-- a step whose values are fractions in lowest terms, of any size
abbrev pub HasLowestTerms : Step → Type 0
HasLowestTerms step = AllByRecursion (λ (row : Row). InLowestTerms row.value) step.table.rows

-- ---- the laws

-- over samples that are numbers, what an expression whose numbers are numbers gives at any instant has such values
abbrev pub MeaningGivesValues : Type 0
MeaningGivesValues = (asked : Asked) (e : Expr) (t : ℤ) → HaveSamples asked.samples → AllByRecursion IsNumber (numbers_of e) → GivesValues (meaning asked e t)

abbrev pub MeaningHasValues : Type 0
MeaningHasValues = (asked : Asked) (e : Expr) (t : ℤ) → HaveSamples asked.samples → AllByRecursion IsNumber (numbers_of e) → HasValues (meaning_step asked e t)

-- so each value of its step is in lowest terms
abbrev pub MeaningHasLowestTerms : Type 0
MeaningHasLowestTerms = (asked : Asked) (e : Expr) (t : ℤ) → HaveSamples asked.samples → AllByRecursion IsNumber (numbers_of e) → HasLowestTerms (meaning_step asked e t)

-- a value whose numerator is within the limit of numbers
abbrev pub IsWithinLimit : XFrac → Type 0
IsWithinLimit (Fin f) = unsigned_abs f.0 ≤ limit
IsWithinLimit _ = ⊤

-- such a value is a number
abbrev pub ValueWithinIsNumber : Type 0
ValueWithinIsNumber = (v : XFrac) → IsNumberOrWhole v → IsWithinLimit v → IsNumber v
