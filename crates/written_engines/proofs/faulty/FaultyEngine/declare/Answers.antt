use Rattle.written_engines.proofs.Untold.{declared}
use Rattle.written_engines.proofs.faulty.FaultyEngine.declare.Goals as goal

pub returns : goal.returns
returns c = let f = c.args.self.now in declared f.inner f.faults f.strays f.stray c.args._labels.now
