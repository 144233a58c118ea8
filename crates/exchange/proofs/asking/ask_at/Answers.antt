use Rattle.remote_api.specs.Seen.{HasAsked, MayAsk}
use Rattle.exchange.proofs.Keeping.{called_one, known_of}
use Rattle.exchange.proofs.asking.ask_at.Goals as goal

pub ask_box-requires : goal.ask_box-requires
ask_box-requires g c = known_of (λ b. (goal.Engine-dyn g (b.vtable, b.value)).seen b.value) (MayAsk c.args.request.now.part c.args.request.now.walk c.args.span.now c.args.patterns.now) c.args.engines.now c.args.i c.index-engines-i.result c.requires.inside c.index-engines-i.is c.requires.may

pub returns-clause-asked : goal.returns-clause-asked
returns-clause-asked g c = called_one (λ b. (goal.Engine-dyn g (b.vtable, b.value)).seen b.value) c.args.engines.now c.args.i (HasAsked c.args.request.now.part c.args.request.now.walk c.args.span.now c.args.patterns.now c.ask_box.result) c.index-engines-i.result c.ask_box.new.engine c.requires.inside c.index-engines-i.is c.ask_box.ensures.asked
