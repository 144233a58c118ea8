-- What is joined of one engine's cells, and of counts.
use Rattle.std.proofs.Common.{◌≡◌, ◌∙◌, ℕ, ◌+◌, List, [], ◌∷◌, ◌++◌, map, refl, sym, ap, subst, arith, append-nil, Some}
use Rattle.std.specs.Prelude.{Ok}
use Rattle.std.specs.List.{filter_map}
use Rattle.step_table.specs.Gathering.{nothing_more, settled_table}
use Rattle.step_table.specs.Groups.{Names, shared_names}
use Rattle.step_table.specs.Outcomes.{keyed, keyed_by, lone_by, settled}
use Rattle.step_table.specs.Sets.{step_of_rows}
use Rattle.step_table.specs.Unions.{with_fatal}
use Rattle.step_table.specs.declared.cells.Cell.{Cell}
use Rattle.step_table.specs.declared.cells.CellRow.{CellRow}
use Rattle.step_table.specs.declared.marks.Mark.TheVariants.{SameLabelset}
use Rattle.step_table.specs.declared.step.Row.{Row}
use Rattle.step_table.specs.declared.step.Step.{Step}
use Rattle.step_table.specs.declared.windows.WindowRow.{WindowRow}
use Rattle.xfrac.specs.Arithmetic.{whole_number}
use Rattle.promql_meaning.specs.Aggregations.{aggregated}
use Rattle.step_cells.specs.CellLaws.{Agree, CountsAreAdded, HaveLowestTerms, OneEngineAgrees, OneEnginesRows, OneEnginesWindows, PartialsAgree, rows_of_all}
use Rattle.step_cells.specs.Joined.{cell_row, counted_in, joined_partials, window_under}
use Rattle.step_cells.specs.Owed.{partial_cells, value_cell, window_cell}
use Rattle.step_cells.specs.InOrder.{all_lone, none_share}

-- ---- rows

rows_back : (rows : List Row) → filter_map cell_row (map value_cell rows ++ []) ≡ rows
rows_back [] = refl
rows_back (row ∷ rows) = ap (λ (rs : List Row). row ∷ rs) (rows_back rows)

pub one_engines_rows : OneEnginesRows
one_engines_rows s is = ap (λ (rows : List Row). settled (step_of_rows rows s.step.marks)) (rows_back s.step.table.rows) ∙ settled_table s.step is

-- ---- windows

abbrev labels_in : WindowRow → Names
labels_in w = w.labels

windows_back : (rows : List WindowRow) → filter_map (λ (row : CellRow). window_under row.labels row.cell) (map window_cell rows ++ []) ≡ rows
windows_back [] = refl
windows_back (w ∷ rows) = ap (λ (rs : List WindowRow). w ∷ rs) (windows_back rows)

pub one_engines_windows : OneEnginesWindows
one_engines_windows w s =
    let rows : lone_by labels_in (filter_map (λ (row : CellRow). window_under row.labels row.cell) (map window_cell w.rows ++ [])) ≡ w.rows = ap (lone_by labels_in) (windows_back w.rows) ∙ all_lone labels_in w.rows s in
    let shared : shared_names (keyed_by labels_in (filter_map (λ (row : CellRow). window_under row.labels row.cell) (map window_cell w.rows ++ []))) ≡ [] = ap (λ rs. shared_names (keyed_by labels_in rs)) (windows_back w.rows) ∙ none_share labels_in w.rows s in
    let marks : with_fatal w.marks (map SameLabelset (shared_names (keyed_by labels_in (filter_map (λ (row : CellRow). window_under row.labels row.cell) (map window_cell w.rows ++ []))))) ≡ w.marks = ap (λ ls. with_fatal w.marks (map SameLabelset ls)) shared ∙ nothing_more w.marks in
    λ i. record { at = w.at; rows = rows i; marks = marks i }

-- ---- groups

pub one_engine : PartialsAgree → OneEngineAgrees
one_engine law f by arg label s is table numbers =
    let alone : rows_of_all (s ∷ []) ≡ s.step.table.rows = append-nil s.step.table.rows in
    subst (λ (z : Step). Agree (joined_partials f (partial_cells f by s ∷ [])) (aggregated f by arg label z)) (one_engines_rows s table)
    (law f by arg label (s ∷ []) is (ap (λ (rs : List Row). shared_names (keyed rs)) alone ∙ none_share (λ (row : Row). row.labels) s.step.table.rows table)
    (subst HaveLowestTerms (sym alone) numbers))

-- ---- counts

added : (xs ys : List Cell) → counted_in (xs ++ ys) ≡ counted_in xs + counted_in ys
added [] ys = omega arith
added (x ∷ xs) ys = let rest : counted_in (xs ++ ys) ≡ counted_in xs + counted_in ys = added xs ys in omega (arith, rest)

pub counts_added : CountsAreAdded
counts_added xs ys = ap (λ (n : ℕ). Ok (Some (whole_number n))) (added xs ys)
