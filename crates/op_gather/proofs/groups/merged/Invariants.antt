use Rattle.std.proofs.Common.{◌≡◌, ◌<◌, drop, true, [], Some}
use Rattle.std.specs.Prelude.{IfSome, fold}
use Rattle.std.specs.List.{AllByRecursion, filter_map}
use Rattle.step_cells.specs.Joined.{merged_with, totals_in_cell}
use Rattle.step_table.specs.declared.cells.Cell.{Cell}
use Rattle.xfrac.specs.Sums.{Totals, totals}
use Rattle.remote_api.specs.Strays.{is_sum_cell}
use Rattle.op_gather.specs.Cells.{CountsUpTo}
use Rattle.op_gather.proofs.groups.merged.Given as goal

abbrev pub invariant-loop-cell : goal.invariant-loop-cell
invariant-loop-cell l = record {
  merged : fold merged_with l.sum (filter_map totals_in_cell (drop l.cell-index l.cells)) ≡ fold merged_with (Some (totals [])) (filter_map totals_in_cell l.cells);
  sums : AllByRecursion (λ (c : Cell). is_sum_cell c ≡ true) (drop l.cell-index l.cells);
  few : CountsUpTo l.cell-index l.sum;
  some : 0 < l.cell-index → IfSome l.sum (λ (s : Totals). 0 < s.count);
}
