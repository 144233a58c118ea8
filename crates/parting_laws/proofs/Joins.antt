-- The cells of all parts, joined, are the whole.
use Rattle.std.proofs.Common.{◌≡◌, ◌∙◌, Bool, List, [], ◌∷◌, ◌++◌, map, refl, sym, ap, subst, Some}
use Rattle.std.specs.Prelude.{Option}
use Rattle.std.specs.List.{AllByRecursion, cons_option, filter_map}
use Rattle.std.specs.List.Sorted.{IsStrictlySortedBy}
use Rattle.label_set.specs.Labels.{labels_cmp}
use Rattle.step_table.specs.Gathering.{nothing_more}
use Rattle.step_table.specs.Groups.{Names}
use Rattle.step_table.specs.Outcomes.{keyed_by, lone_by, shared_marks}
use Rattle.step_table.specs.Sets.{step_of_rows}
use Rattle.step_table.specs.Shuffles.{Shuffled}
use Rattle.step_table.specs.Shuffling.{lone_shuffled, mapped_shuffled, shared_shuffled, turned_back}
use Rattle.step_table.specs.Unions.{united, with_fatal}
use Rattle.step_table.specs.WellFormed.{IsTable}
use Rattle.step_table.specs.declared.cells.CellRow.{CellRow}
use Rattle.step_table.specs.declared.cells.StepCells.{StepCells}
use Rattle.step_table.specs.declared.marks.Mark.TheVariants.{SameLabelset}
use Rattle.step_table.specs.declared.marks.Marks.{Marks}
use Rattle.step_table.specs.declared.step.Row.{Row}
use Rattle.step_table.specs.declared.step.Step.{Step}
use Rattle.step_table.specs.declared.windows.WindowRow.{WindowRow}
use Rattle.step_batch.specs.LentWindows.{WindowsAt}
use Rattle.step_cells.specs.InOrder.{all_lone, none_share}
use Rattle.step_cells.specs.Joined.{all_cells, all_marks, cell_row, joined_rows, joined_windows, marks_with, rows_in, window_under, windows_in}
use Rattle.step_cells.specs.Owed.{value_cell, window_cell}
use Rattle.ticks.specs.declared.moment.Ms.{Ms}
use Rattle.parting_laws.proofs.Made.{row_labels}
use Rattle.parting_laws.proofs.MarksParted.{nothing, union_over}
use Rattle.parting_laws.proofs.Parts.{IsOfOne, all_parted, in_part, of_parts}

abbrev pub window_labels : WindowRow → Names
window_labels w = w.labels

-- ---- what stands in the cells of all parts

module _ {X : Type 0} (cell_of : X → CellRow) (back : CellRow → Option X) (is : (x : X) → back (cell_of x) ≡ Some x) where
  front_back : (xs : List X) (more : List CellRow) → filter_map back (map cell_of xs ++ more) ≡ xs ++ filter_map back more
  front_back [] more = refl
  front_back (x ∷ xs) more = ap (λ (o : Option X). cons_option o (filter_map back (map cell_of xs ++ more))) (is x) ∙ ap (λ (r : List X). x ∷ r) (front_back xs more)

  all_back : {P : Type 0} (test : P → Names → Bool) (labels : X → Names) (cells : P → StepCells) (xs : List X) (ps : List P)
      → AllByRecursion (λ (p : P). (cells p).rows ≡ map cell_of (in_part test labels p xs)) ps → filter_map back (all_cells (map cells ps)) ≡ of_parts test labels ps xs
  all_back test labels cells xs [] a = refl
  all_back test labels cells xs (p ∷ ps) a =
      ap (λ (r : List CellRow). filter_map back (r ++ all_cells (map cells ps))) a.0 ∙ front_back (in_part test labels p xs) (all_cells (map cells ps))
      ∙ ap (λ (r : List X). in_part test labels p xs ++ r) (all_back test labels cells xs ps a.1)

marks_are : {P : Type 0} (cells : P → StepCells) (marks : Marks) (ps : List P) → marks_with marks (map cells ps) ≡ union_over (λ (p : P). (cells p).marks) marks ps
marks_are cells marks [] = refl
marks_are cells marks (p ∷ ps) = marks_are cells (united marks (cells p).marks) ps

-- ---- items in another order

module _ {X : Type 0} (labels : X → Names) (xs ys : List X) (sorted : IsStrictlySortedBy labels_cmp (map labels xs)) (turned : Shuffled ys xs) where
  keyed_turned : Shuffled (keyed_by labels ys) (keyed_by labels xs)
  keyed_turned = mapped_shuffled (λ (x : X). (labels x, x)) ys xs turned

  lone_are : lone_by labels ys ≡ xs
  lone_are = lone_shuffled (keyed_by labels ys) (keyed_by labels xs) keyed_turned ∙ all_lone labels xs sorted

  marks_stay : (marks : Marks) → with_fatal marks (shared_marks labels ys) ≡ marks
  marks_stay marks = ap (λ (ns : List Names). with_fatal marks (map SameLabelset ns)) (shared_shuffled (keyed_by labels ys) (keyed_by labels xs) keyed_turned ∙ none_share labels xs sorted) ∙ nothing_more marks

-- ---- all parts

module _ {P : Type 0} (test : P → Names → Bool) (cells : P → StepCells) (ps : List P) where
  abbrev marks_in : P → Marks
  marks_in p = (cells p).marks

  -- rows of which each part gives its own, all parts all of them
  pub rows_of_parts : (rows : List Row) → IsTable rows → Shuffled rows (of_parts test row_labels ps rows) → AllByRecursion (λ (p : P). (cells p).rows ≡ map value_cell (in_part test row_labels p rows)) ps
      → joined_rows (map cells ps) ≡ step_of_rows rows (union_over marks_in nothing ps)
  rows_of_parts rows table turned each =
      let all : List Row = rows_in (map cells ps) in
      let back : all ≡ of_parts test row_labels ps rows = all_back value_cell cell_row (λ row. refl) test row_labels cells rows ps each in
      let turned' : Shuffled all rows = turned_back rows all (subst (λ (r : List Row). Shuffled rows r) (sym back) turned) in
      let same : lone_by row_labels all ≡ rows = lone_are row_labels rows all table turned' in
      let together : with_fatal (all_marks (map cells ps)) (shared_marks row_labels all) ≡ union_over marks_in nothing ps = marks_stay row_labels rows all table turned' (all_marks (map cells ps)) ∙ marks_are cells nothing ps in
      λ i. record { table = record { rows = same i }; marks = together i }

  -- and windows likewise
  pub windows_of_parts : (at : Ms) (rows : List WindowRow) → IsStrictlySortedBy labels_cmp (map window_labels rows) → Shuffled rows (of_parts test window_labels ps rows)
      → AllByRecursion (λ (p : P). (cells p).rows ≡ map window_cell (in_part test window_labels p rows)) ps
      → joined_windows at (map cells ps) ≡ record { at = at; rows = rows; marks = union_over marks_in nothing ps }
  windows_of_parts at rows sorted turned each =
      let all : List WindowRow = windows_in (map cells ps) in
      let back : all ≡ of_parts test window_labels ps rows = all_back window_cell (λ (row : CellRow). window_under row.labels row.cell) (λ w. refl) test window_labels cells rows ps each in
      let turned' : Shuffled all rows = turned_back rows all (subst (λ (r : List WindowRow). Shuffled rows r) (sym back) turned) in
      let same : lone_by window_labels all ≡ rows = lone_are window_labels rows all sorted turned' in
      let together : with_fatal (all_marks (map cells ps)) (shared_marks window_labels all) ≡ union_over marks_in nothing ps = marks_stay window_labels rows all sorted turned' (all_marks (map cells ps)) ∙ marks_are cells nothing ps in
      λ i. record { at = at; rows = same i; marks = together i }

  pub rows_join : (whole : Step) → IsTable whole.table.rows → AllByRecursion (λ (row : Row). IsOfOne test ps row.labels) whole.table.rows
      → AllByRecursion (λ (p : P). (cells p).rows ≡ map value_cell (in_part test row_labels p whole.table.rows)) ps
      → union_over marks_in nothing ps ≡ whole.marks
      → joined_rows (map cells ps) ≡ whole
  rows_join whole table one each marks = rows_of_parts whole.table.rows table (all_parted test row_labels ps whole.table.rows one) each ∙ ap (step_of_rows whole.table.rows) marks

  pub windows_join : (whole : WindowsAt) → IsStrictlySortedBy labels_cmp (map window_labels whole.rows) → AllByRecursion (λ (w : WindowRow). IsOfOne test ps w.labels) whole.rows
      → AllByRecursion (λ (p : P). (cells p).rows ≡ map window_cell (in_part test window_labels p whole.rows)) ps
      → union_over marks_in nothing ps ≡ whole.marks
      → joined_windows whole.at (map cells ps) ≡ whole
  windows_join whole sorted one each marks =
      windows_of_parts whole.at whole.rows sorted (all_parted test window_labels ps whole.rows one) each ∙ ap (λ (m : Marks). record { at = whole.at; rows = whole.rows; marks = m }) marks
