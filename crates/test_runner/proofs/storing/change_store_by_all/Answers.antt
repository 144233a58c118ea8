use Rattle.std.proofs.Common.{[]}
use Rattle.test_runner.specs.Loads.{left_by_all}
use Rattle.test_runner.proofs.Putting.{store_left, store_may, store_sure}
use Rattle.test_runner.proofs.storing.change_store_by_all.Goals as goal

pub change_all-requires : goal.change_all-requires
change_all-requires c = store_may c.args.store.now (left_by_all c.args.declared.now c.args.commands.now)

pub returns-clause-left : goal.returns-clause-left
returns-clause-left c = store_left c.args.store.now c.change_all.new.into (left_by_all c.args.declared.now c.args.commands.now) _ _ c.change_all.ensures.put c.change_all.ensures.gone

pub returns-clause-sure : goal.returns-clause-sure
returns-clause-sure c = store_sure _ _ c.change_all.ensures.gone
