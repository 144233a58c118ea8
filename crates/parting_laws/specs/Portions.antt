-- What an expression gives over portions of the samples, and how that is parted. (This project's own.)
use Rattle.std.specs.Prelude.{◌≡◌, ◌<◌, ℕ, ℤ, Bool, false, List, [], ◌∷◌, filter, length, map}
use Rattle.std.specs.List.{AllByRecursion, list_any}
use Rattle.label_set.specs.Labels.{is_named, metric_name, value_of}
use Rattle.label_set.specs.declared.rules.Rule.{Rule}
use Rattle.promql_ast.specs.declared.tree.Expr.{Expr}
use Rattle.step_table.specs.Groups.{Names}
use Rattle.step_table.specs.Laws.{has_mark, has_note}
use Rattle.step_table.specs.declared.marks.Mark.{Mark}
use Rattle.step_table.specs.declared.marks.Marks.{Marks}
use Rattle.step_table.specs.declared.marks.Note.{Note}
use Rattle.step_table.specs.declared.step.Row.{Row}
use Rattle.step_table.specs.declared.step.Step.{Step}
use Rattle.step_table.specs.declared.windows.WindowRow.{WindowRow}
use Rattle.promql_meaning.specs.Meaning.{meaning}
use Rattle.promql_meaning.specs.Selecting.{AllSeries, Asked, Samples}
use Rattle.promql_meaning.specs.declared.given.Given.{Given}
use Rattle.promql_meaning.specs.declared.given.Given.TheVariants as given
use Rattle.promql_meaning.specs.declared.given.Stamped.{Stamped}
use Rattle.promql_meaning.specs.declared.given.Windows.{Windows}
use Rattle.parting_laws.specs.Parted.{Engine, takes}
use Rattle.parting_laws.specs.PartLaws.{IsPartOf, over}

-- ---- portions

-- a portion of the samples: a test of labels, and the series whose labels pass it
pub record Portion : Type 0 where
  pub test : Names → Bool
  pub samples : AllSeries

-- what an engine holds as a portion, and a portion of nothing
abbrev pub portion_of : Engine → Portion
portion_of engine = record { test = takes engine; samples = engine.samples }

abbrev pub no_portion : Portion
no_portion = record { test = λ labels. false; samples = [] }

-- the portions of engines, and one of nothing before them
abbrev pub portions_of : List Engine → List Portion
portions_of engines = no_portion ∷ map portion_of engines

-- labels are those of exactly one portion
abbrev pub IsOfOne : List Portion → Names → Type 0
IsOfOne portions labels = length (filter (λ (p : Portion). p.test labels) portions) ≡ 1

-- a test of labels that looks at the values under some names alone
abbrev pub LooksAt : List (List ℕ) → (Names → Bool) → Type 0
LooksAt names test = (m n : Names) → AllByRecursion (λ (name : List ℕ). value_of m name ≡ value_of n name) names → test m ≡ test n

-- samples are parted into portions by some label names, the metric's name not among them: each portion holds the series that pass its
-- test, and each series passes exactly one
pub record ArePortions (names : List (List ℕ)) (portions : List Portion) (samples : AllSeries) : Type 0 where
  pub unnamed : is_named names metric_name ≡ false
  pub some : 0 < length portions
  pub looks : AllByRecursion (λ (p : Portion). LooksAt names p.test) portions
  pub held : AllByRecursion (λ (p : Portion). IsPartOf p.test samples p.samples) portions
  pub one : AllByRecursion (λ (series : Names × Samples). IsOfOne portions series.0) samples

-- ---- what is parted

-- a mark, or a note, stands in the whole exactly where it stands in a portion
pub record HaveMarks (portions : List Portion) (whole : Marks) (pieces : Portion → Marks) : Type 0 where
  pub fatal : (mark : Mark) → list_any (λ (p : Portion). has_mark (pieces p).fatal mark) portions ≡ has_mark whole.fatal mark
  pub notes : (note : Note) → list_any (λ (p : Portion). has_note (pieces p).notes note) portions ≡ has_note whole.notes note

-- a step is parted: the labels of each row are those of exactly one portion, each portion's step has its rows, and they have its marks
pub record StepParts (portions : List Portion) (whole : Step) (pieces : Portion → Step) : Type 0 where
  pub one : AllByRecursion (λ (row : Row). IsOfOne portions row.labels) whole.table.rows
  pub rows : AllByRecursion (λ (p : Portion). (pieces p).table.rows ≡ filter (λ (row : Row). p.test row.labels) whole.table.rows) portions
  pub marks : HaveMarks portions whole.marks (λ p. (pieces p).marks)

-- the newest samples of a portion, and its windows
abbrev pub samples_in : Portion → List Stamped → List Stamped
samples_in p rows = filter (λ (row : Stamped). p.test row.labels) rows

abbrev pub windows_in : Portion → List WindowRow → List WindowRow
windows_in p rows = filter (λ (row : WindowRow). p.test row.labels) rows

-- what is given is parted: the newest samples of a selector, the windows of a range, or the rows of a vector
pub data GivenParts (portions : List Portion) (whole : Given) (pieces : Portion → Given) : Type 0 where
  selected : (rules : List Rule) (rows : List Stamped)
      → whole ≡ given.Selected (record { rules = rules; rows = rows })
      → AllByRecursion (λ (p : Portion). pieces p ≡ given.Selected (record { rules = rules; rows = samples_in p rows })) portions
      → AllByRecursion (λ (row : Stamped). IsOfOne portions row.labels) rows
      → GivenParts portions whole pieces
  windows : (w : Windows) (marks : Portion → Marks)
      → whole ≡ given.Windows w
      → AllByRecursion (λ (p : Portion). pieces p ≡ given.Windows (record w { rows = windows_in p w.rows; marks = marks p })) portions
      → AllByRecursion (λ (row : WindowRow). IsOfOne portions row.labels) w.rows
      → HaveMarks portions w.marks marks
      → GivenParts portions whole pieces
  vector : (step : Step) (steps : Portion → Step)
      → whole ≡ given.Vector step
      → AllByRecursion (λ (p : Portion). pieces p ≡ given.Vector (steps p)) portions
      → StepParts portions step steps
      → GivenParts portions whole pieces

-- what an expression gives over all samples is parted as they are, whatever is asked and by whichever portions, at each instant
abbrev pub IsParted : List (List ℕ) → Expr → Type 0
IsParted names e =
    (asked : Asked) (portions : List Portion) (t : ℤ)
    → ArePortions names portions asked.samples
    → GivenParts portions (meaning asked e t) (λ (p : Portion). meaning (over p.samples asked) e t)
