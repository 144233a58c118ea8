use Rattle.std.proofs.Common.{◌∙◌, ap, sym}
use Rattle.promql_ast.specs.declared.tree.Expr.{Expr}
use Rattle.promql_type.specs.Judging.{judged}
use Rattle.promql_type.specs.Rules.{result_refusals}
use Rattle.promql_type.specs.Settled.{kind_of}
use Rattle.promql_type.specs.TypedTrees.{placed_of, tree_of}
use Rattle.query_engine.proofs.Planned.{means_its_tree, numbers_still, plan_is, served_still, typed_still, valid_still}
use Rattle.query_engine.proofs.planning.planned.Goals as goal
use Rattle.query_engine.specs.Planning.{choices_of}

pub returns-clause-means : goal.returns-clause-means
returns-clause-means c =
    means_its_tree c.in_ok-plan.plan (tree_of c.args.typed.now) (placed_of c.args.typed.now) c.rewritten.result c.in_ok-plan.ensures.typed c.in_ok-plan.ensures.means c.rewritten.ensures.means

pub returns-clause-plan : goal.returns-clause-plan
returns-clause-plan c =
    plan_is c.in_ok-plan.plan (tree_of c.args.typed.now) (placed_of c.args.typed.now) c.in_ok-plan.ensures.plan (choices_of c.args.options.now) c.choices.result c.args.patterns.now c.rewritten.result
    c.choices.ensures c.rewritten.ensures.plan

pub returns-clause-typed : goal.returns-clause-typed
returns-clause-typed c = typed_still c.in_ok-plan.plan c.rewritten.result c.in_ok-plan.ensures.typed c.rewritten.ensures.typed

pub returns-clause-valid : goal.returns-clause-valid
returns-clause-valid c = valid_still c.in_ok-plan.plan (tree_of c.args.typed.now) c.rewritten.result c.in_ok-plan.ensures.valid c.rewritten.ensures.valid

pub returns-clause-numbers : goal.returns-clause-numbers
returns-clause-numbers c =
    numbers_still c.in_ok-plan.plan (tree_of c.args.typed.now) (placed_of c.args.typed.now) c.in_ok-plan.ensures.plan c.rewritten.result c.lowered_plans_give_numbers.ensures
    (ap (λ (e : Expr). result_refusals (kind_of e)) (sym c.expr.ensures.tree) ∙ c.expr.ensures.result_kind) c.in_ok-plan.ensures.typed c.rewritten.ensures.typed

pub returns-clause-served : goal.returns-clause-served
returns-clause-served c =
    served_still c.in_ok-plan.plan (tree_of c.args.typed.now) (placed_of c.args.typed.now) c.in_ok-plan.ensures.plan c.rewritten.result c.lowered_plans_are_served.ensures
    c.onces_keep_serving.ensures (ap (λ (e : Expr). (judged e).refusals) (sym c.expr.ensures.tree) ∙ c.expr.ensures.well_typed) c.rewritten.ensures.served
