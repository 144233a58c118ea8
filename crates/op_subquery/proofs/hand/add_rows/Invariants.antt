use Rattle.std.proofs.Common.{drop}
use Rattle.step_batch.specs.Lent.{entries_of}
use Rattle.step_table.specs.Groups.{items_of}
use Rattle.op_subquery.specs.Kept.{samples_under, timed_entries, with_samples}
use Rattle.op_subquery.proofs.Handing.{Adds}
use Rattle.op_subquery.proofs.hand.add_rows.Given as goal

abbrev pub invariant-loop-slot : goal.invariant-loop-slot
invariant-loop-slot l =
    Adds l.at (entries_of l.labels (drop l.slot-index l.slots)) l.windows.rows
    (λ q. with_samples (samples_under q l.fn.windows.rows) (items_of (timed_entries l.at (entries_of l.labels l.slots)) q))
