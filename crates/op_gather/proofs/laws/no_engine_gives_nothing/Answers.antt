use Rattle.op_gather.proofs.NoEngine.{no_engine}
use Rattle.op_gather.proofs.laws.no_engine_gives_nothing.Goals as goal

pub returns : goal.returns
returns c = no_engine
