use Rattle.written_engines.proofs.Untold.{cleared_all}
use Rattle.written_engines.proofs.faulty.FaultyEngine.clear.Goals as goal

pub returns : goal.returns
returns c = let f = c.args.self.now in cleared_all f.inner f.faults f.strays f.stray
