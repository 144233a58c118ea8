-- What an expression gives at an instant, by its type: a scalar, a vector, windows or words. (Prometheus querying,
-- "Expression language data types".)
use Rattle.std.specs.Prelude.{ℕ, List, [], ◌∷◌, map, Option, None, Some}
use Rattle.step_table.specs.Sets.{step_of_rows}
use Rattle.step_table.specs.Unions.{united}
use Rattle.step_table.specs.declared.marks.Marks.{Marks}
use Rattle.step_table.specs.declared.step.Row.{Row}
use Rattle.step_table.specs.declared.step.Step.{Step}
use Rattle.xfrac.specs.declared.value.XFrac.{XFrac}
use Rattle.promql_meaning.specs.declared.given.Given.{Given}
use Rattle.promql_meaning.specs.declared.given.Given.TheVariants.{Scalar, Vector, Selected, Windows, Words}
use Rattle.promql_meaning.specs.declared.given.Stamped.{Stamped}

abbrev pub no_marks : Marks
no_marks = record { fatal = []; notes = [] }

-- no rows
abbrev pub barren : Marks → Step
barren marks = step_of_rows [] marks

-- a scalar is a table of one row without labels
abbrev pub scalar_step : XFrac → Step
scalar_step value = step_of_rows (record { labels = []; value = value } ∷ []) no_marks

-- a row of a selector without the time of its sample
abbrev pub unstamped : Stamped → Row
unstamped row = record { labels = row.labels; value = row.value }

-- the step of a scalar or a vector
abbrev pub step_of : Given → Step
step_of (Scalar step) = step
step_of (Vector step) = step
step_of (Selected selection) = step_of_rows (map unstamped selection.rows) no_marks
step_of (Windows windows) = barren no_marks
step_of (Words text) = barren no_marks

-- the text of words
abbrev pub words_of : Given → List ℕ
words_of (Words text) = text
words_of _ = []

-- ---- functions of a scalar

-- the value of a scalar; there is none where its row is lost to a fatal mark
abbrev pub value_in : Step → Option XFrac
value_in step = first_value step.table.rows
  where
    first_value : List Row → Option XFrac
    first_value [] = None
    first_value (row ∷ rows) = Some row.value

-- a step with the marks of another part
abbrev pub marked : Marks → Step → Step
marked marks step = record { table = step.table; marks = united step.marks marks }

-- what is made of a value; where there is none, there are no rows, and no note or mark but those of the parts
abbrev pub by_value : {A : Type 0} → Option A → Marks → (A → Step) → Step
by_value None marks f = barren marks
by_value (Some a) marks f = f a

abbrev pub both : {A B : Type 0} → Option A → Option B → Option (A × B)
both (Some a) (Some b) = Some (a, b)
both _ _ = None

-- a function of a vector and of the value of a scalar, with the marks of both
abbrev pub with_scalar : (XFrac → Step → Step) → Step → Step → Step
with_scalar f scalar step = by_value (value_in scalar) (united step.marks scalar.marks) (λ a. f a (marked scalar.marks step))

-- the same of two scalars
abbrev pub with_scalars : (XFrac → XFrac → Step → Step) → Step → Step → Step → Step
with_scalars f first second step =
    by_value (both (value_in first) (value_in second)) (united (united step.marks first.marks) second.marks)
    (λ b. f b.0 b.1 (marked second.marks (marked first.marks step)))
