use Rattle.step_batch.proofs.LentRows.{places_are_unseen}
use Rattle.step_batch.proofs.laws.places_are_not_seen.Goals as goal

pub returns : goal.returns
returns c = places_are_unseen c.rows_ignore_order.ensures.table
