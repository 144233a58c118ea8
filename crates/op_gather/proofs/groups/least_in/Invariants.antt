use Rattle.std.proofs.Common.{◌≡◌, drop}
use Rattle.std.specs.Prelude.{fold}
use Rattle.std.specs.List.{filter_map}
use Rattle.step_cells.specs.Joined.{value_in_cell}
use Rattle.window_fn.specs.Aggregates.{lesser}
use Rattle.xfrac.specs.declared.value.XFrac.TheVariants.{NaN}
use Rattle.op_gather.proofs.groups.least_in.Given as goal

abbrev pub invariant-loop-cell : goal.invariant-loop-cell
invariant-loop-cell l = fold lesser l.best (filter_map value_in_cell (drop l.cell-index l.cells)) ≡ fold lesser NaN (filter_map value_in_cell l.cells)
