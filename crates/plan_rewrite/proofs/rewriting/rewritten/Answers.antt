use Rattle.std.proofs.Common.{◌∙◌, ap}
use Rattle.logical_plan.specs.declared.nodes.Plan.{Plan}
use Rattle.logical_plan.specs.PlanMeaning.{Meant, plan_meaning}
use Rattle.plan_rewrite.proofs.Rebuilds.{rebuilt_keeps}
use Rattle.plan_rewrite.proofs.rewriting.rewritten.Goals as goal

pub returns-clause-means : goal.returns-clause-means
returns-clause-means g c asked t keeps =
    ap (λ (q : Plan). plan_meaning asked q t) c.in_ok-q.ensures
    ∙ ap (λ (m : Meant). m.gives t) (rebuilt_keeps asked (g.R.Rewrite.rule c.args.rewrite.now) c.args.p keeps)
