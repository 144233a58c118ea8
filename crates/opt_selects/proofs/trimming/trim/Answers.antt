use Rattle.std.proofs.Common.{◌∙◌, ap}
use Rattle.logical_plan.specs.PlanMeaning.{plan_meaning}
use Rattle.logical_plan.specs.declared.nodes.Plan.{Plan}
use Rattle.opt_selects.proofs.Trims.{trim_means}
use Rattle.opt_selects.proofs.trimming.trim.Goals as goal

pub returns-clause-means : goal.returns-clause-means
returns-clause-means c typed asked t = ap (λ (q : Plan). plan_meaning asked q t) c.in_ok-q.ensures ∙ trim_means asked c.args.p typed t
