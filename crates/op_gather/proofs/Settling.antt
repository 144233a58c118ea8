-- Rows that are brought into order before they are settled, and what comes of groups.
use Rattle.std.proofs.Common.{◌≡◌, ◌∙◌, List, [], ◌∷◌, map, refl, sym, ap, subst}
use Rattle.std.specs.List.{filter_map}
use Rattle.std.specs.List.Sorted.{IsPermutation, IsStrictlySortedBy}
use Rattle.std.specs.Map.{keys_of}
use Rattle.func_table.specs.declared.table.Aggregate.{Aggregate}
use Rattle.label_set.specs.Labels.{labels_cmp}
use Rattle.step_cells.specs.Joined.{all_cells, all_marks, cell_row, finished_outcome, joined_partials, joined_rows, keyed_cells}
use Rattle.step_table.specs.AllGathered.{groups_sorted}
use Rattle.step_table.specs.Groups.{Names, gathered}
use Rattle.step_table.specs.Laws.{SettledIsWellFormed, TakenIsTable}
use Rattle.step_table.specs.Outcomes.{settled, taken}
use Rattle.step_table.specs.Sets.{step_of_rows}
use Rattle.step_table.specs.Shuffles.{SettledIgnoresOrder}
use Rattle.step_table.specs.Shuffling.{from_permutation, turned_back}
use Rattle.step_table.specs.WellFormed.{AreSets, IsTable}
use Rattle.step_table.specs.declared.cells.Cell.{Cell}
use Rattle.step_table.specs.declared.cells.CellRow.{CellRow}
use Rattle.step_table.specs.declared.cells.StepCells.{StepCells}
use Rattle.step_table.specs.declared.marks.Marks.{Marks}
use Rattle.step_table.specs.declared.outcomes.Outcome.{Outcome}
use Rattle.step_table.specs.declared.step.Row.{Row}
use Rattle.step_table.specs.declared.step.Step.{Step}

pub in_order_joined : SettledIgnoresOrder → (steps : List StepCells) (cells : List CellRow) (rows sorted : List Row) (marks : Marks)
    → cells ≡ all_cells steps → marks ≡ all_marks steps → rows ≡ filter_map cell_row cells → IsPermutation rows sorted → settled (step_of_rows sorted marks) ≡ joined_rows steps
in_order_joined law steps cells rows sorted marks c m r p =
    law (step_of_rows sorted marks) (step_of_rows rows marks) (record { rows = turned_back rows sorted (from_permutation rows sorted p); marks = refl })
    ∙ (λ i. settled (step_of_rows ((r ∙ ap (filter_map cell_row) c) i) (m i)))

pub settled_table : SettledIsWellFormed → (step out : Step) → AreSets step.marks → out ≡ settled step → IsTable out.table.rows
settled_table law step out s e = subst (λ (z : Step). IsTable z.table.rows) (sym e) (law step s).rows

pub groups_joined : (f : Aggregate) (steps : List StepCells) (cells : List CellRow) (pairs : List (Names × Cell)) (groups : List (Names × List Cell)) (outcomes : List Outcome) (marks : Marks)
    → cells ≡ all_cells steps → marks ≡ all_marks steps → pairs ≡ keyed_cells cells → groups ≡ gathered pairs → outcomes ≡ map (finished_outcome f) groups
    → taken marks outcomes ≡ joined_partials f steps
groups_joined f steps cells pairs groups outcomes marks c m p g o =
    λ i. taken (m i) ((o ∙ ap (map (finished_outcome f)) (g ∙ ap gathered (p ∙ ap keyed_cells c))) i)

labels_kept : (f : Aggregate) (groups : List (Names × List Cell)) → map (λ (outcome : Outcome). outcome.labels) (map (finished_outcome f) groups) ≡ keys_of groups
labels_kept f [] = refl
labels_kept f (group ∷ groups) = ap (λ ks. group.0 ∷ ks) (labels_kept f groups)

pub groups_table : TakenIsTable → (f : Aggregate) (pairs : List (Names × Cell)) (groups : List (Names × List Cell)) (outcomes : List Outcome) (marks : Marks) (out : Step)
    → groups ≡ gathered pairs → outcomes ≡ map (finished_outcome f) groups → out ≡ taken marks outcomes → IsTable out.table.rows
groups_table law f pairs groups outcomes marks out g o e =
    let names : keys_of (gathered pairs) ≡ map (λ (outcome : Outcome). outcome.labels) outcomes =
    sym (ap (map (λ (outcome : Outcome). outcome.labels)) o ∙ labels_kept f groups ∙ ap keys_of g) in
    subst (λ (z : Step). IsTable z.table.rows) (sym e) (law marks outcomes (subst (IsStrictlySortedBy labels_cmp) names (groups_sorted pairs)))
