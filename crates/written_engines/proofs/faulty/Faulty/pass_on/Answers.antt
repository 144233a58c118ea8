use Rattle.written_engines.proofs.Untold.{passed_on}
use Rattle.written_engines.proofs.faulty.Faulty.pass_on.Goals as goal

pub returns-clause-pulled : goal.returns-clause-pulled
returns-clause-pulled c =
    let f = c.args.self.now in
    passed_on f.inner f.faults f.strays f.stray c.args.ask c.args.most c.pull.new.self c.pull.new.frame.steps c.pull.result c.pull.ensures.pulled
