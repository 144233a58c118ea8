-- What a part of the samples gives, and what all parts come to together. (This project's own.)
use Rattle.std.specs.Prelude.{◌≡◌, ◌≤◌, ◌∷◌, ◌++◌, ℤ, Bool, true, List, [], filter, length, map}
use Rattle.std.specs.List.{AllByRecursion}
use Rattle.func_table.specs.declared.table.Func.TheVariants as func
use Rattle.std.specs.Map.{keys_of}
use Rattle.label_set.specs.LabelOrder.{by_labels}
use Rattle.label_set.specs.Labels.{IsLabelSet}
use Rattle.promql_ast.specs.declared.tree.Expr.{Expr}
use Rattle.promql_ast.specs.declared.tree.Node.TheVariants as node
use Rattle.promql_ast.specs.declared.tree.Selector.{Selector}
use Rattle.step_table.specs.Groups.{Names}
use Rattle.step_table.specs.declared.cells.PartKind.{PartKind}
use Rattle.step_table.specs.declared.cells.PartKind.TheVariants as part
use Rattle.step_table.specs.declared.cells.StepCells.{StepCells}
use Rattle.step_table.specs.declared.step.Row.{Row}
use Rattle.step_table.specs.declared.windows.WindowRow.{WindowRow}
use Rattle.step_cells.specs.Joined.{joined_rows, joined_windows}
use Rattle.step_cells.specs.Owed.{cells, windows_at}
use Rattle.ticks.specs.declared.moment.Ms.{Ms}
use Rattle.promql_meaning.specs.Elements.{nameless, stamps}
use Rattle.promql_meaning.specs.Meaning.{meaning, meaning_step}
use Rattle.promql_meaning.specs.Selecting.{AllSeries, Asked, Samples, selected, selected_windows}
use Rattle.promql_meaning.specs.declared.given.Stamped.{Stamped}
use Rattle.parting_laws.specs.Parted.{Engine, HaveMembers, IsPut, MayBeDeclared, Parted, declared_to, takers, takes, with_samples}

-- ---- a part of the samples

-- the same is asked over other samples
abbrev pub over : AllSeries → Asked → Asked
over samples asked = record asked { samples = samples }

-- some series are the part of the samples whose labels pass a test, each with its samples: in the order of labels one list
abbrev pub IsPartOf : (Names → Bool) → AllSeries → AllSeries → Type 0
IsPartOf test samples held = by_labels held ≡ filter (λ (series : Names × Samples). test series.0) (by_labels samples)

-- a test of labels that doesn't look at the metric's name
abbrev pub IgnoresName : (Names → Bool) → Type 0
IgnoresName test = (labels : Names) → test (nameless labels) ≡ test labels

-- what an engine of parted samples holds is the part that has its declared labels, and these tell nothing of the metric's name
abbrev pub EnginesHoldParts : Type 0
EnginesHoldParts = (engines : List Engine) (samples : AllSeries) → Parted engines samples → AllByRecursion (λ (engine : Engine). IsPartOf (takes engine) samples engine.samples) engines

abbrev pub EnginesIgnoreName : Type 0
EnginesIgnoreName = (engines : List Engine) (samples : AllSeries) → Parted engines samples → AllByRecursion (λ (engine : Engine). IgnoresName (takes engine)) engines

-- over a part of the samples a selector gives that part of its newest samples
abbrev pub SelectedArePart : Type 0
SelectedArePart =
    (test : Names → Bool) (asked : Asked) (held : AllSeries) (selector : Selector) (t : ℤ)
    → IsPartOf test asked.samples held
    → selected (over held asked) selector t ≡ filter (λ (row : Stamped). test row.labels) (selected asked selector t)

-- and that part of the times of these samples
abbrev pub StampsArePart : Type 0
StampsArePart =
    (test : Names → Bool) (asked : Asked) (held : AllSeries) (selector : Selector) (t : ℤ)
    → IgnoresName test
    → IsPartOf test asked.samples held
    → (stamps (selected (over held asked) selector t)).table.rows ≡ filter (λ (row : Row). test row.labels) (stamps (selected asked selector t)).table.rows

-- and a range selector that part of its windows
abbrev pub WindowsArePart : Type 0
WindowsArePart =
    (test : Names → Bool) (asked : Asked) (held : AllSeries) (selector : Selector) (range t : ℤ)
    → IsPartOf test asked.samples held
    → selected_windows (over held asked) selector range t ≡ filter (λ (row : WindowRow). test row.labels) (selected_windows asked selector range t)

-- ---- all parts

-- what an engine owes at an instant of an expression, over the samples that it holds
abbrev pub owed_at : PartKind → Asked → Expr → Ms → Engine → StepCells
owed_at kind asked e at engine = cells kind at (meaning (over engine.samples asked) e at.0)

-- the same of all engines
abbrev pub owed_by : PartKind → Asked → Expr → Ms → List Engine → List StepCells
owed_by kind asked e at engines = map (owed_at kind asked e at) engines

-- where samples are parted, the rows of all engines, joined, are what a selector gives over all samples, notes and marks as well
abbrev pub SelectorsJoin : Type 0
SelectorsJoin =
    (engines : List Engine) (asked : Asked) (e : Expr) (selector : Selector) (at : Ms)
    → Parted engines asked.samples
    → e.node ≡ node.Select selector
    → joined_rows (owed_by part.Rows asked e at engines) ≡ meaning_step asked e at.0

-- and those of the timestamp of a selector are its times
abbrev pub TimestampsJoin : Type 0
TimestampsJoin =
    (engines : List Engine) (asked : Asked) (e inner : Expr) (selector : Selector) (at : Ms)
    → Parted engines asked.samples
    → e.node ≡ node.Call func.Timestamp (inner ∷ [])
    → inner.node ≡ node.Select selector
    → joined_rows (owed_by part.Rows asked e at engines) ≡ meaning_step asked e at.0

-- and the windows of a range selector are its windows
abbrev pub RangesJoin : Type 0
RangesJoin =
    (engines : List Engine) (asked : Asked) (e : Expr) (selector : Selector) (range at : Ms)
    → Parted engines asked.samples
    → e.node ≡ node.Range selector range
    → joined_windows at (owed_by part.Windows asked e at engines) ≡ windows_at at (meaning asked e at.0)

-- of engines whose labels may be declared one at most takes any labels
abbrev pub OneTakes : Type 0
OneTakes = (engines : List Engine) (labels : Names) → MayBeDeclared (declared_to engines) → length (takers engines labels) ≤ 1

-- samples are parted where engines have them as members, if all labels are label sets
abbrev pub MembersArePart : Type 0
MembersArePart =
    (engines : List Engine) (samples : AllSeries)
    → AllByRecursion IsLabelSet (declared_to engines)
    → AllByRecursion IsLabelSet (keys_of samples)
    → HaveMembers engines samples
    → Parted engines samples

-- no samples are parted over engines that hold none, and samples stay parted where some are put at the engine whose labels they have
abbrev pub NothingIsParted : Type 0
NothingIsParted = (engines : List Engine) → MayBeDeclared (declared_to engines) → AllByRecursion (λ (engine : Engine). engine.samples ≡ []) engines → Parted engines []

abbrev pub PutsStayParted : Type 0
PutsStayParted =
    (front back : List Engine) (engine : Engine) (before after held : AllSeries) (labels : Names) (samples : Samples)
    → Parted (front ++ engine ∷ back) before
    → takes engine labels ≡ true
    → IsPut before labels samples after
    → IsPut engine.samples labels samples held
    → Parted (front ++ with_samples held engine ∷ back) after

-- without engines there are no samples
abbrev pub NoEngineHasNone : Type 0
NoEngineHasNone = (samples : AllSeries) → Parted [] samples → samples ≡ []

-- and over no samples a selector, its timestamp and a range selector give nothing, as no cells joined do
abbrev pub SelectorGivesNothing : Type 0
SelectorGivesNothing = (asked : Asked) (e : Expr) (selector : Selector) (t : ℤ) → e.node ≡ node.Select selector → meaning_step (over [] asked) e t ≡ joined_rows []

abbrev pub TimestampGivesNothing : Type 0
TimestampGivesNothing =
    (asked : Asked) (e inner : Expr) (selector : Selector) (t : ℤ)
    → e.node ≡ node.Call func.Timestamp (inner ∷ []) → inner.node ≡ node.Select selector → meaning_step (over [] asked) e t ≡ joined_rows []

abbrev pub RangeGivesNothing : Type 0
RangeGivesNothing = (asked : Asked) (e : Expr) (selector : Selector) (range at : Ms) → e.node ≡ node.Range selector range → windows_at at (meaning (over [] asked) e at.0) ≡ joined_windows at []
