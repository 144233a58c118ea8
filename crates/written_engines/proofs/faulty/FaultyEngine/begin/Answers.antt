use Rattle.written_engines.proofs.Untold.{begun}
use Rattle.written_engines.proofs.faulty.FaultyEngine.begin.Goals as goal

pub returns : goal.returns
returns c = let f = c.args.self.now in begun f.inner f.faults f.strays f.stray c.begin.new.self c.begin.ensures
