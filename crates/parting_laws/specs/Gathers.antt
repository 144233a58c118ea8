-- What comes of a part of a query that engines are asked for. (This project's own.)
use Rattle.std.specs.Prelude.{◌≡◌, ◌&&◌, ℕ, ℤ, Bool, false, not, List, [], ◌∷◌, filter, bytes_eq, IsTrue}
use Rattle.std.specs.List.{AllByRecursion, list_all, list_any}
use Rattle.func_table.specs.declared.table.Aggregate.{Aggregate}
use Rattle.label_set.specs.declared.rules.Grouping.{Grouping}
use Rattle.label_set.specs.declared.rules.Rule.{Rule}
use Rattle.label_set.specs.declared.rules.RuleKind.{RuleKind}
use Rattle.label_set.specs.declared.rules.RuleKind.TheVariants.{Eq}
use Rattle.promql_ast.specs.declared.tree.Expr.{Expr}
use Rattle.promql_ast.specs.declared.tree.Node.TheVariants as node
use Rattle.promql_ast.specs.declared.tree.Selector.{Selector}
use Rattle.step_table.specs.declared.cells.PartKind.TheVariants as part
use Rattle.step_table.specs.declared.marks.Marks.{Marks}
use Rattle.step_table.specs.declared.step.Step.{Step}
use Rattle.step_batch.specs.LentWindows.{WindowsAt}
use Rattle.step_cells.specs.CellLaws.{Agree, HaveLowestTerms}
use Rattle.step_cells.specs.Joined.{joined_partials, joined_rows, joined_windows}
use Rattle.step_cells.specs.Owed.{is_partial, windows_at}
use Rattle.ticks.specs.declared.moment.Ms.{Ms}
use Rattle.promql_meaning.specs.Givens.{marked}
use Rattle.promql_meaning.specs.Meaning.{meaning, meaning_step}
use Rattle.promql_meaning.specs.Selecting.{Asked}
use Rattle.parting_laws.specs.LocalLaws.{rules_in}
use Rattle.parting_laws.specs.PartLaws.{over, owed_by}
use Rattle.parting_laws.specs.Parted.{Engine, Parted, declared_names}
use Rattle.parting_laws.specs.Portions.{IsParted}

-- ---- which engines are asked

-- a `=` rule asks a declared label for another value
abbrev pub asks_another : RuleKind → List ℕ → Bool
asks_another (Eq text) value = not (bytes_eq value text)
asks_another kind value = false

abbrev pub excludes : Rule → List ℕ × List ℕ → Bool
excludes rule pair = bytes_eq pair.0 rule.label && asks_another rule.kind pair.1

-- a selector of such a rule selects no series of an engine
abbrev pub selects_none : Engine → List Rule → Bool
selects_none engine rules = list_any (λ (rule : Rule). list_any (excludes rule) engine.declared) rules

-- an engine isn't asked for an expression where each selector has such a rule
abbrev pub is_asked : Expr → Engine → Bool
is_asked e engine = not (list_all (selects_none engine) (rules_in e))

abbrev pub asked_for : Expr → List Engine → List Engine
asked_for e engines = filter (is_asked e) engines

-- a choice of engines that leaves out none but such as need not be asked
abbrev pub MayLeaveOut : Expr → (Engine → Bool) → Type 0
MayLeaveOut e wanted = (engine : Engine) → wanted engine ≡ false → is_asked e engine ≡ false

-- ---- what they give together

-- the notes and marks of an expression over no samples
abbrev pub marks_of_none : Asked → Expr → Ms → Marks
marks_of_none asked e at = (meaning_step (over [] asked) e at.0).marks

-- the rows that some engines give of an expression, joined, with the notes and marks that it has over no samples
abbrev pub gathered_rows : Asked → Expr → List Engine → Ms → Step
gathered_rows asked e engines at = marked (marks_of_none asked e at) (joined_rows (owed_by part.Rows asked e at engines))

-- the same of the cells of an aggregation
abbrev pub gathered_groups : Aggregate → Grouping → Asked → Expr → List Engine → Ms → Step
gathered_groups f by asked e engines at = marked (marks_of_none asked e at) (joined_partials f (owed_by (part.Partial f by) asked e at engines))

-- and of the windows of a range selector, which has no notes or marks
abbrev pub gathered_windows : Asked → Expr → List Engine → Ms → WindowsAt
gathered_windows asked e engines at = joined_windows at (owed_by part.Windows asked e at engines)

-- ---- the laws

-- an expression means the same over an engine that isn't asked for it and over no samples
abbrev pub UnaskedGivesNothing : Type 0
UnaskedGivesNothing =
    (engines : List Engine) (asked : Asked) (e : Expr) (t : ℤ)
    → Parted engines asked.samples
    → AllByRecursion (λ (engine : Engine). is_asked e engine ≡ false → meaning (over engine.samples asked) e t ≡ meaning (over [] asked) e t) engines

-- what engines give of a parted expression is what it means over all samples, whichever are left out of those that need not be asked
abbrev pub RowsAreGathered : Type 0
RowsAreGathered =
    (engines : List Engine) (asked : Asked) (e : Expr) (wanted : Engine → Bool) (at : Ms)
    → Parted engines asked.samples
    → IsParted (declared_names engines) e
    → MayLeaveOut e wanted
    → gathered_rows asked e (filter wanted engines) at ≡ meaning_step asked e at.0

-- of an aggregation over one, whose values are in lowest terms, it agrees with that: both are one step, or both have the mark Overflow
abbrev pub GroupsAreGathered : Type 0
GroupsAreGathered =
    (engines : List Engine) (asked : Asked) (e inner : Expr) (f : Aggregate) (by : Grouping) (wanted : Engine → Bool) (at : Ms)
    → Parted engines asked.samples
    → IsParted (declared_names engines) inner
    → MayLeaveOut inner wanted
    → e.node ≡ node.Aggregate f by (inner ∷ [])
    → IsTrue (is_partial f)
    → HaveLowestTerms (meaning_step asked inner at.0).table.rows
    → Agree (gathered_groups f by asked inner (filter wanted engines) at) (meaning_step asked e at.0)

-- of a range selector they are its windows
abbrev pub WindowsAreGathered : Type 0
WindowsAreGathered =
    (engines : List Engine) (asked : Asked) (e : Expr) (selector : Selector) (wanted : Engine → Bool) (range at : Ms)
    → Parted engines asked.samples
    → e.node ≡ node.Range selector range
    → MayLeaveOut e wanted
    → gathered_windows asked e (filter wanted engines) at ≡ windows_at at (meaning asked e at.0)

-- so is what all engines give
abbrev pub AllRowsAreGathered : Type 0
AllRowsAreGathered =
    (engines : List Engine) (asked : Asked) (e : Expr) (at : Ms)
    → Parted engines asked.samples
    → IsParted (declared_names engines) e
    → gathered_rows asked e engines at ≡ meaning_step asked e at.0
