-- label_replace, label_join and a filter of rules, over steps, and such a filter over windows. (Prometheus querying, "Functions" and
-- "Time series selectors": the rules are those of the meaning.)
use Rattle.std.specs.Prelude.{◌≡◌, ℕ, Bool, List, [], ◌∷◌, ◌++◌, map, slice_get, unwrap_or, Option, None, Some, Ok, Err, if◌then◌else◌, ⊤}
use Rattle.std.specs.List.{filter_map}
use Rattle.std.specs.Option.{option_map}
use Rattle.label_set.specs.declared.rules.Relabel.{Relabel}
use Rattle.label_set.specs.declared.rules.Relabel.TheVariants.{Replace, Join, Filter}
use Rattle.label_set.specs.declared.rules.Rule.{Rule}
use Rattle.match_rule.specs.Patterns.{HaveTheirPatterns, IsWholeId, labels_pass}
use Rattle.promql_meaning.specs.Filters.{passing_rows, passing_windows}
use Rattle.promql_meaning.specs.Relabels.{joined_labels, label_joined, label_replaced, replaced_labels}
use Rattle.step_batch.specs.Lent.{Lent}
use Rattle.step_batch.specs.LentWindows.{WindowsAt}
use Rattle.step_batch.specs.declared.steps.Slot.{Slot}
use Rattle.step_put.specs.declared.placed.PlacedOutcome.{PlacedOutcome}
use Rattle.step_table.specs.Groups.{Names}
use Rattle.step_table.specs.Timed.{StepAt}
use Rattle.step_table.specs.declared.step.Step.{Step}
use Rattle.step_table.specs.declared.windows.WindowRow.{WindowRow}
use Rattle.xfrac.specs.declared.value.NumFault.TheVariants.{Overflow}
use Rattle.op_labels.specs.declared.change.Change.{Change}
use Rattle.op_labels.specs.declared.change.Change.TheVariants as change
use Rattle.op_labels.specs.declared.change.Fate.{Fate}
use Rattle.op_labels.specs.declared.change.Fate.TheVariants.{Stays, Beyond, Out}

-- ---- the rule

-- patterns as they are kept: whether each has to match a whole value, and its text
abbrev pub Kept : Type 0
Kept = List (Bool × List ℕ)

-- the text of the pattern of a number
abbrev pub text_at : Kept → ℕ → List ℕ
text_at kept id = unwrap_or (option_map (λ (p : Bool × List ℕ). p.1) (slice_get kept id)) []

-- the patterns that a rule names are kept, for whole values
abbrev pub HasPatterns : Kept → Relabel → Type 0
HasPatterns kept (Replace target template source pattern) = IsWholeId kept pattern.0
HasPatterns kept (Join target separator sources) = ⊤
HasPatterns kept (Filter rules) = HaveTheirPatterns kept rules

-- a step without the rows whose labels don't pass all rules
abbrev pub filtered : Kept → List Rule → Step → Step
filtered kept rules step = record { table = record { rows = passing_rows kept rules step.table.rows }; marks = step.marks }

-- the windows of an instant without those whose labels don't pass all rules
abbrev pub filtered_windows : Kept → List Rule → WindowsAt → WindowsAt
filtered_windows kept rules windows = record { at = windows.at; rows = passing_windows kept rules windows.rows; marks = windows.marks }

abbrev pub IsFilter : Relabel → Type 0
IsFilter (Filter rules) = ⊤
IsFilter rule = ⊥

-- what a rule makes of a step
abbrev pub relabelled_step : Kept → Relabel → Step → Step
relabelled_step kept (Replace target template source pattern) step = label_replaced target template source (text_at kept pattern.0) step
relabelled_step kept (Join target separator sources) step = label_joined target separator sources step
relabelled_step kept (Filter rules) step = filtered kept rules step

abbrev pub relabelled_at : Kept → Relabel → StepAt → StepAt
relabelled_at kept rule s = record { at = s.at; step = relabelled_step kept rule s.step }

-- what is lent of what is fed: of each step what the rule makes of it, at the step's instant
abbrev pub relabellings : Kept → Relabel → List StepAt → List StepAt
relabellings kept rule steps = map (relabelled_at kept rule) steps

-- ---- labels

-- what becomes of the rows of labels that are made anew: there are none where they would pass the limits
abbrev pub remade : Option Names → Names × Fate
remade (Some names) = (names, Stays)
remade None = ([], Beyond)

-- what a rule makes of labels, and what becomes of their rows
abbrev pub made_of : Kept → Relabel → Names → Names × Fate
made_of kept (Replace target template source pattern) names = remade (replaced_labels target template source (text_at kept pattern.0) names)
made_of kept (Join target separator sources) names = remade (joined_labels target separator sources names)
made_of kept (Filter rules) names = if labels_pass kept rules names then (names, Stays) else ([], Out)

abbrev pub labels_by : Kept → Relabel → Names → Names
labels_by kept rule names = (made_of kept rule names).0

abbrev pub fate_by : Kept → Relabel → Names → Fate
fate_by kept rule names = (made_of kept rule names).1

-- beside labels stand those that a rule makes of them, and what becomes of their rows
pub record AreMade (kept : Kept) (rule : Relabel) (fed new : List Names) (ends : List Fate) : Type 0 where
  pub made : new ≡ map (labels_by kept rule) fed
  pub fates : ends ≡ map (fate_by kept rule) fed

-- ---- rows

-- what becomes of a row
abbrev pub fated : Fate → Slot → Option PlacedOutcome
fated Stays slot = Some (record { place = slot.place; value = Ok (Some slot.value) })
fated Beyond slot = Some (record { place = slot.place; value = Err Overflow })
fated Out slot = None

abbrev pub slot_fated : Option Fate → Slot → Option PlacedOutcome
slot_fated None slot = None
slot_fated (Some fate) slot = fated fate slot

-- what becomes of the rows of a step
abbrev pub slots_placed : List Fate → List Slot → List PlacedOutcome
slots_placed fates slots = filter_map (λ (slot : Slot). slot_fated (slice_get fates slot.place) slot) slots

-- ---- windows

-- what is left of a window
abbrev pub staying : Fate → WindowRow → List WindowRow
staying Stays window = window ∷ []
staying fate window = []

-- what is left of windows, by the fates of their labels
abbrev pub windows_staying : List Fate → List WindowRow → List WindowRow
windows_staying [] windows = []
windows_staying (fate ∷ fates) [] = []
windows_staying (fate ∷ fates) (window ∷ windows) = staying fate window ++ windows_staying fates windows

-- ---- a kernel

-- a change of labels as the rules of steps take it, and what it is
abbrev pub change_of : Relabel → Change
change_of (Replace target template source pattern) = change.Replace (record { target = target; template = template; source = source; pattern = pattern })
change_of (Join target separator sources) = change.Join target separator sources
change_of (Filter rules) = change.Filter rules

abbrev pub relabel_of : Change → Relabel
relabel_of (change.Replace r) = Replace r.target r.template r.source r.pattern
relabel_of (change.Join target separator sources) = Join target separator sources
relabel_of (change.Filter rules) = Filter rules

-- a rule, the labels that were fed, beside each what was made of them and what becomes of their rows, and the steps and the windows
-- that are lent
pub record Relabelling : Type 0 where
  pub rule : Relabel
  pub fed : List Names
  pub made : List Names
  pub fates : List Fate
  pub lent : Lent
  pub windows : WindowsAt

-- what is kept of the labels that were fed is what the rule makes of them with these patterns
abbrev pub IsMadeBy : Kept → Relabelling → Type 0
IsMadeBy kept k = AreMade kept k.rule k.fed k.made k.fates
