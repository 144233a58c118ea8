use Rattle.engine_tests.proofs.Moving.{none_fitting}
use Rattle.engine_tests.proofs.gathers.exchange_of.Goals as goal

pub returns : goal.returns
returns c = none_fitting c.args.grid.now c.args.most _ c.new.ensures
