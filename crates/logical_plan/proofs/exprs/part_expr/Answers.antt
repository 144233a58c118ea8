use Rattle.logical_plan.proofs.Taking.{part_means, part_taken}
use Rattle.logical_plan.proofs.exprs.part_expr.Goals as goal

pub returns-clause-means : goal.returns-clause-means
returns-clause-means c = part_means c.args.patterns.now c.args.p.now c.in_ok-e.e c.in_ok-e.ensures

pub returns-clause-taken : goal.returns-clause-taken
returns-clause-taken c = part_taken c.args.patterns.now c.args.p.now c.in_ok-e.e c.in_ok-e.ensures
