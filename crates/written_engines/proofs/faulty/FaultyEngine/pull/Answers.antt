use Rattle.written_engines.proofs.faulty.FaultyEngine.pull.Goals as goal

pub returns-then-self-clause-pulled : goal.returns-then-self-clause-pulled
returns-then-self-clause-pulled c = c.fail.ensures c.args.ask c.args.most c.args.frame.now.steps c.requires.empty
