use Rattle.written_engines.proofs.Loading.{fresh}
use Rattle.written_engines.proofs.samples.engine_of.Goals as goal

pub loop-line-init : goal.loop-line-init
loop-line-init c = fresh _ _ c.new-store.ensures c.new-engine.ensures.samples c.new-engine.ensures.declared c.new-engine.ensures.asks

pub declare-requires : goal.declare-requires
declare-requires c = c.loop-line.invariant.undeclared
