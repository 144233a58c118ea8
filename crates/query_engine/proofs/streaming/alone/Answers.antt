use Rattle.std.proofs.Common.{Some}
use Rattle.plan_tree.specs.Worlds.{no_gathers}
use Rattle.promql_meaning.specs.Selecting.{asked_over}
use Rattle.query_engine.proofs.streaming.alone.Goals as goal

pub collected-requires-clause-ready : goal.collected-requires-clause-ready
collected-requires-clause-ready g c = (Some no_gathers, c.requires.ready _)

pub returns-in-Ok-clause-result : goal.returns-in-Ok-clause-result
returns-in-Ok-clause-result g c = c.in-Ok.ensures.result no_gathers (asked_over c.args.store.now c.args.patterns.now c.args.grid.now) (c.requires.ready _) c.requires.gives
