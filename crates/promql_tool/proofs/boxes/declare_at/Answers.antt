use Rattle.remote_api.specs.Seen.{HasDeclared}
use Rattle.promql_tool.proofs.BoxLists.{called_one}
use Rattle.promql_tool.proofs.boxes.declare_at.Goals as goal

pub returns-clause-declared : goal.returns-clause-declared
returns-clause-declared g c = called_one (λ b. (goal.Engine-dyn g (b.vtable, b.value)).seen b.value) c.args.engines.now c.args.i (HasDeclared c.args.labels.now c.declare_box.result) c.index-engines-i.result c.declare_box.new.engine c.requires.inside c.index-engines-i.is c.declare_box.ensures
