use Rattle.remote_api.specs.Seen.{IsBegun}
use Rattle.test_runner.proofs.Calling.{called_one}
use Rattle.test_runner.proofs.boxes.begin_at.Goals as goal

pub returns-clause-begun : goal.returns-clause-begun
returns-clause-begun g c = called_one (λ b. (goal.Engine-dyn g (b.vtable, b.value)).seen b.value) c.args.engines.now c.args.i IsBegun c.index-engines-i.result c.begin_box.new.engine c.requires c.index-engines-i.is c.begin_box.ensures
