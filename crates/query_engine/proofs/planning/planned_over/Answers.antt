use Rattle.promql_type.specs.TypedTrees.{placed_of, tree_of}
use Rattle.query_engine.specs.Planning.{choices_of}
use Rattle.query_engine.proofs.Planned.{over_none, over_some}
use Rattle.query_engine.proofs.planning.planned_over.Goals as goal

pub returns-then-engines-eq0 : goal.returns-then-engines-eq0
returns-then-engines-eq0 c = over_none c.args.engines (choices_of c.args.options.now) c.args.patterns.now (placed_of c.args.typed.now) (tree_of c.args.typed.now) c.planned.result c.if-engines-eq0.true c.planned.ensures.plan

pub returns-else-engines-eq0 : goal.returns-else-engines-eq0
returns-else-engines-eq0 c = over_some c.args.engines (choices_of c.args.options.now) c.args.patterns.now (placed_of c.args.typed.now) (tree_of c.args.typed.now) c.gathered.result c.if-engines-eq0.false c.gathered.ensures.plan
