use Rattle.remote_api.specs.Seen.{HasPulled, MayPull}
use Rattle.exchange.proofs.Keeping.{called_one, known_of}
use Rattle.exchange.proofs.pulling.pull_at.Goals as goal

pub pull_box-requires-clause-may : goal.pull_box-requires-clause-may
pull_box-requires-clause-may g c = known_of (λ b. (goal.Engine-dyn g (b.vtable, b.value)).seen b.value) (MayPull c.args.at.place c.args.patterns.now) c.args.engines.now c.args.at.engine c.index-engines-at.result c.requires.inside c.index-engines-at.is c.requires.may

pub returns-clause-pulled : goal.returns-clause-pulled
returns-clause-pulled g c = called_one (λ b. (goal.Engine-dyn g (b.vtable, b.value)).seen b.value) c.args.engines.now c.args.at.engine (HasPulled c.args.at.place c.args.most c.pull_box.new.frame.steps c.pull_box.result) c.index-engines-at.result c.pull_box.new.engine c.requires.inside c.index-engines-at.is c.pull_box.ensures.pulled
