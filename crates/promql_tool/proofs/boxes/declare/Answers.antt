use Rattle.promql_tool.proofs.Serving.{ready_whole}
use Rattle.promql_tool.proofs.boxes.declare.Goals as goal

pub declare_each-requires-clause-fresh : goal.declare_each-requires-clause-fresh
declare_each-requires-clause-fresh g c = rw c.as_mut_slice.ensures.value c.requires.fresh

pub returns-clause-ready : goal.returns-clause-ready
returns-clause-ready g c =
    ready_whole (λ b. (goal.Engine-dyn g (b.vtable, b.value)).seen b.value) _ c.args.engines.now.items c.as_mut_slice.result.now c.declare_each.new.engines _ c.args.declared.now c.declare_each.result c.as_mut_slice.ensures.value c.as_mut_slice.ensures.len c.requires.few c.requires.sets
    c.declare_each.ensures.boxes c.declare_each.ensures.declared

pub returns-clause-sure : goal.returns-clause-sure
returns-clause-sure g c = λ sound. c.declare_each.ensures.sure (rw c.as_mut_slice.ensures.value sound)
