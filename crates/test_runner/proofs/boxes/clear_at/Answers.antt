use Rattle.std.proofs.Common.{◌≡◌, []}
use Rattle.remote_api.specs.Seen.{EngineSeen, IsCleared}
use Rattle.test_runner.proofs.Calling.{called_one, known_of}
use Rattle.test_runner.proofs.boxes.clear_at.Goals as goal

pub clear_box-requires : goal.clear_box-requires
clear_box-requires g c = known_of (λ b. (goal.Engine-dyn g (b.vtable, b.value)).seen b.value) (λ (e : EngineSeen). e.asks ≡ []) c.args.engines.now c.args.i c.index-engines-i.result c.requires.inside c.index-engines-i.is c.requires.unasked

pub returns-clause-cleared : goal.returns-clause-cleared
returns-clause-cleared g c = called_one (λ b. (goal.Engine-dyn g (b.vtable, b.value)).seen b.value) c.args.engines.now c.args.i IsCleared c.index-engines-i.result c.clear_box.new.engine c.requires.inside c.index-engines-i.is c.clear_box.ensures
