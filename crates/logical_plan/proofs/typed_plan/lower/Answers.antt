use Rattle.std.proofs.Common.{◌∙◌, ap, sym}
use Rattle.promql_type.specs.Judging.{judged}
use Rattle.promql_type.specs.TypedTrees.{placed_of, tree_of}
use Rattle.logical_plan.specs.Lowering.{lowered}
use Rattle.logical_plan.specs.Onces.{with_onces}
use Rattle.logical_plan.proofs.Lowered.{plan_is_typed, plan_means}
use Rattle.logical_plan.proofs.Valid.{plan_is_valid}
use Rattle.logical_plan.proofs.typed_plan.lower.Goals as goal

pub returns-clause-means : goal.returns-clause-means
returns-clause-means c =
    plan_means (placed_of c.args.e.now) (tree_of c.args.e.now) c.in_ok-p.p
    (c.in_ok-p.ensures ∙ ap with_onces (c.in_ok-plain.ensures ∙ ap (lowered (placed_of c.args.e.now)) c.expr.ensures.tree))

pub returns-clause-typed : goal.returns-clause-typed
returns-clause-typed c =
    plan_is_typed c.typed_trees_fit.ensures (placed_of c.args.e.now) (tree_of c.args.e.now) c.in_ok-p.p
    (ap (λ t. (judged t).refusals) (sym c.expr.ensures.tree) ∙ c.expr.ensures.well_typed)
    (c.in_ok-p.ensures ∙ ap with_onces (c.in_ok-plain.ensures ∙ ap (lowered (placed_of c.args.e.now)) c.expr.ensures.tree))

pub returns-clause-valid : goal.returns-clause-valid
returns-clause-valid c =
    plan_is_valid c.typed_trees_fit.ensures (placed_of c.args.e.now) (tree_of c.args.e.now) c.in_ok-p.p
    (ap (λ t. (judged t).refusals) (sym c.expr.ensures.tree) ∙ c.expr.ensures.well_typed)
    (c.in_ok-p.ensures ∙ ap with_onces (c.in_ok-plain.ensures ∙ ap (lowered (placed_of c.args.e.now)) c.expr.ensures.tree))
