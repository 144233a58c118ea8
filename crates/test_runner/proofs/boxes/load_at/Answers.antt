use Rattle.remote_api.specs.Seen.{HasLoaded, MayLoad}
use Rattle.test_runner.proofs.Calling.{called_one, known_of}
use Rattle.test_runner.proofs.boxes.load_at.Goals as goal

pub load_box-requires : goal.load_box-requires
load_box-requires g c = known_of (λ b. (goal.Engine-dyn g (b.vtable, b.value)).seen b.value) (MayLoad c.args.labels.now c.args.at c.args.held.now) c.args.engines.now c.args.i c.index-engines-i.result c.requires.inside c.index-engines-i.is c.requires.may

pub returns-clause-loaded : goal.returns-clause-loaded
returns-clause-loaded g c = called_one (λ b. (goal.Engine-dyn g (b.vtable, b.value)).seen b.value) c.args.engines.now c.args.i (HasLoaded c.args.labels.now c.args.at c.args.held.now c.load_box.result) c.index-engines-i.result c.load_box.new.engine c.requires.inside c.index-engines-i.is c.load_box.ensures
