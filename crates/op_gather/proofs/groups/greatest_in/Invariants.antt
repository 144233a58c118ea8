use Rattle.std.proofs.Common.{◌≡◌, drop}
use Rattle.std.specs.Prelude.{fold}
use Rattle.std.specs.List.{filter_map}
use Rattle.step_cells.specs.Joined.{value_in_cell}
use Rattle.window_fn.specs.Aggregates.{greater}
use Rattle.xfrac.specs.declared.value.XFrac.TheVariants.{NaN}
use Rattle.op_gather.proofs.groups.greatest_in.Given as goal

abbrev pub invariant-loop-cell : goal.invariant-loop-cell
invariant-loop-cell l = fold greater l.best (filter_map value_in_cell (drop l.cell-index l.cells)) ≡ fold greater NaN (filter_map value_in_cell l.cells)
