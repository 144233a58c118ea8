use Rattle.std.proofs.Common.{◌≡◌, drop}
use Rattle.std.specs.List.{list_all}
use Rattle.step_table.specs.declared.cells.CellRow.{CellRow}
use Rattle.remote_api.specs.Strays.{has_kind}
use Rattle.remote_api.proofs.checking.are_of_kind.Given as goal

abbrev pub invariant-loop-row : goal.invariant-loop-row
invariant-loop-row l = list_all (λ (row : CellRow). has_kind l.ask l.at row.cell) (drop l.row-index l.rows) ≡ list_all (λ (row : CellRow). has_kind l.ask l.at row.cell) l.rows
