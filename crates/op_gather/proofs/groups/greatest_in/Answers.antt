use Rattle.std.proofs.Common.{◌≡◌, ◌∷◌, ◌+◌, arith, drop}
use Rattle.std.proofs.lemmas.Grind.{common_steps}
use Rattle.step_cells.specs.Joined.{value_in_cell}
use Rattle.window_fn.specs.Aggregates.{greater}
use Rattle.op_gather.proofs.Merging.{goes_on}
use Rattle.op_gather.proofs.groups.greatest_in.Goals as goal

pub loop-cell-preserved : goal.loop-cell-preserved
loop-cell-preserved c =
    let i = c.loop-cell.cell-index in
    let cells = c.args.cells.now in
    let rest : drop i cells ≡ c.cell-item.result ∷ drop (i + 1) cells = grind (arith, common_steps, c.cell-item.is) in
    goes_on greater value_in_cell (drop i cells) c.cell-item.result (drop (i + 1) cells) c.loop-cell.best c.with_greater-best.result _ rest c.loop-cell.invariant c.with_greater-best.ensures
