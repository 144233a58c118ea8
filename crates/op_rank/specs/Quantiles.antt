-- The quantile of each group, by values that are sorted by the places of their groups. (This project's own.)
use Rattle.std.specs.Prelude.{◌≡◌, ◌≤◌, ◌==◌, ℕ, zero, suc, Bool, true, false, not, List, [], ◌∷◌, length, map, Option, None, Some, if◌then◌else◌, ⊤}
use Rattle.std.specs.List.{AllByRecursion}
use Rattle.std.specs.List.Sorted.{IsPermutation}
use Rattle.label_set.specs.declared.rules.Grouping.{Grouping}
use Rattle.promql_meaning.specs.Aggregations.{summarised}
use Rattle.promql_meaning.specs.Givens.{with_scalar}
use Rattle.promql_meaning.specs.Outcomes.{range_notes_of, with_notes}
use Rattle.func_table.specs.declared.table.Aggregate.TheVariants.{Quantile}
use Rattle.step_batch.specs.declared.steps.Slot.{Slot}
use Rattle.step_put.specs.declared.placed.PlacedOutcome.{PlacedOutcome}
use Rattle.step_table.specs.Operators.{some_value}
use Rattle.step_table.specs.Timed.{StepAt}
use Rattle.step_table.specs.declared.marks.Marks.{Marks}
use Rattle.window_fn.specs.Aggregates.{quantile_of}
use Rattle.xfrac.specs.declared.value.XFrac.{XFrac}
use Rattle.op_rank.specs.Entries.{AreNumberEntries, entry_of}
use Rattle.op_rank.specs.declared.entries.Entry.{Entry}

-- the quantile of each group of a step, as the parameter asks for
abbrev pub quantile_at : Grouping → StepAt → StepAt → StepAt
quantile_at by parameter s = record { at = s.at; step = with_scalar (λ q. summarised Quantile by q) parameter.step s.step }

-- the groups don't fall
abbrev pub GroupsRise : List Entry → Type 0
GroupsRise [] = ⊤
GroupsRise (e ∷ entries) = AllByRecursion (λ (o : Entry). e.group ≤ o.group) entries × GroupsRise entries

-- the values of a group
abbrev pub values_in : ℕ → List Entry → List XFrac
values_in group [] = []
values_in group (e ∷ entries) = if group == e.group then e.value ∷ values_in group entries else values_in group entries

-- whether an entry is the last of its group where others follow
abbrev pub is_end : Entry → List Entry → Bool
is_end e [] = true
is_end e (o ∷ entries) = not (o.group == e.group)

-- whether the entry at a place is
abbrev pub is_end_at : ℕ → List Entry → Bool
is_end_at i [] = false
is_end_at zero (e ∷ entries) = is_end e entries
is_end_at (suc i) (e ∷ entries) = is_end_at i entries

-- the groups that end among the first so many entries
abbrev pub ended : ℕ → List Entry → List ℕ
ended zero entries = []
ended (suc i) [] = []
ended (suc i) (e ∷ entries) = if is_end e entries then e.group ∷ ended i entries else ended i entries

-- what is made of a group
abbrev pub group_made : XFrac → List Entry → ℕ → PlacedOutcome
group_made q entries group = record { place = group; value = some_value (quantile_of q (values_in group entries)) }

-- what is made of the groups that end among the first so many entries
abbrev pub made_until : XFrac → ℕ → List Entry → List PlacedOutcome
made_until q i entries = map (group_made q entries) (ended i entries)

-- ---- the parameter

-- the quantile that is asked for; there is none where the parameter has lost its value
abbrev pub value_asked : List Slot → Option XFrac
value_asked [] = None
value_asked (slot ∷ slots) = Some slot.value

-- a quantile outside 0 to 1 has a note, where there are slots
abbrev pub marks_noted : Option XFrac → List Slot → Marks → Marks
marks_noted None slots marks = marks
marks_noted (Some q) slots marks = with_notes marks (range_notes_of q slots)

-- values sorted by the places of their groups, and what is made of these
pub record AreSplit (q : XFrac) (groups : List ℕ) (slots : List Slot) (placed : List PlacedOutcome) : Type 0 where
  pub entries : List Entry
  pub made : placed ≡ made_until q (length entries) entries
  pub rise : GroupsRise entries
  pub numbers : AreNumberEntries entries
  pub moved : IsPermutation (map (entry_of groups) slots) entries

-- what is made of slots as a quantile is asked for
abbrev pub AreMade : Option XFrac → List ℕ → List Slot → List PlacedOutcome → Type 0
AreMade None groups slots placed = placed ≡ []
AreMade (Some q) groups slots placed = AreSplit q groups slots placed
