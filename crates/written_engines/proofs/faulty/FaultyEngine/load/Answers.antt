use Rattle.written_engines.proofs.Untold.{loaded}
use Rattle.written_engines.proofs.faulty.FaultyEngine.load.Goals as goal

pub returns : goal.returns
returns c = let f = c.args.self.now in loaded f.inner f.faults f.strays f.stray c.args._labels.now c.args._at c.args._held.now
