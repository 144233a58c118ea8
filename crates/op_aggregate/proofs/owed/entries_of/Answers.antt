use Rattle.std.proofs.Common.{◌∙◌, sym, ap}
use Rattle.std.specs.Prelude.{fold}
use Rattle.std.specs.Option.{option_to_list}
use Rattle.step_batch.specs.Tables.{put_into}
use Rattle.op_aggregate.specs.OwedCells.{named_cell}
use Rattle.op_aggregate.proofs.OneByOne.{ordered_next}
use Rattle.op_aggregate.proofs.owed.entries_of.Goals as goal

pub loop-placed-preserved : goal.loop-placed-preserved
loop-placed-preserved c =
    let placed = c.placed-item.result in
    c.in_ok-put_cell.ensures
    ∙ ap (λ es. fold put_into es (option_to_list (named_cell c.args.labels.now placed))) c.loop-placed.invariant
    ∙ sym (ordered_next (named_cell c.args.labels.now) c.args.cells.now c.loop-placed.placed-index placed c.loop-placed-test.true c.placed-item.is)
