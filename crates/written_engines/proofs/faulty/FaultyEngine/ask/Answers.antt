use Rattle.written_engines.proofs.Untold.{asked, may_ask}
use Rattle.written_engines.proofs.faulty.FaultyEngine.ask.Goals as goal

pub ask-requires : goal.ask-requires
ask-requires c = let f = c.args.self.now in may_ask f.inner f.faults f.strays f.stray c.args.part.now c.args.walk.now c.args.span.now c.args.patterns.now c.requires

pub returns-clause-same : goal.returns-clause-same
returns-clause-same c = c.ask.ensures.same

pub returns-clause-asked : goal.returns-clause-asked
returns-clause-asked c =
    let f = c.args.self.now in
    asked f.inner f.faults f.strays f.stray c.args.part.now c.args.walk.now c.args.span.now c.args.patterns.now c.ask.new.self c.ask.result c.ask.ensures.asked
