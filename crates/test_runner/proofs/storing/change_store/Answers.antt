use Rattle.std.proofs.Common.{[]}
use Rattle.test_runner.specs.Loads.{left_by}
use Rattle.test_runner.proofs.Putting.{store_left, store_may, store_sure}
use Rattle.test_runner.proofs.storing.change_store.Goals as goal

pub change-requires : goal.change-requires
change-requires c = store_may c.args.store.now (left_by [] c.args.what.now)

pub returns-clause-left : goal.returns-clause-left
returns-clause-left c = store_left c.args.store.now c.change.new.into (left_by [] c.args.what.now) _ _ c.change.ensures.put c.change.ensures.gone

pub returns-clause-sure : goal.returns-clause-sure
returns-clause-sure c = store_sure _ _ c.change.ensures.gone
