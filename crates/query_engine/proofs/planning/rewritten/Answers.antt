use Rattle.std.proofs.Common.{◌∙◌, ap, subst}
use Rattle.promql_ast.specs.declared.tree.Expr.{Expr}
use Rattle.promql_type.specs.Judging.{judged}
use Rattle.promql_type.specs.Replacements.{AreKept}
use Rattle.promql_type.specs.TypedTrees.{placed_of}
use Rattle.query_engine.specs.Planning.{choices_of, plan_over}
use Rattle.query_engine.proofs.planning.rewritten.Goals as goal

pub returns-in_ok-planned_over-in-Ok-clause-plan : goal.returns-in_ok-planned_over-in-Ok-clause-plan
returns-in_ok-planned_over-in-Ok-clause-plan c =
    let kept = c.typed_tree.new.patterns in
    let ready = c.in-Ok.ensures.tree in
    let placed = placed_of c.in-Ok.typed in
    record {
      tree = ready.open_tree;
      placed = placed;
      stands = ready.stands;
      patterns = subst (λ (e : Expr). AreKept kept (judged e).replacements placed) ready.edge ready.placed;
      plan = c.in_ok-planned_over-in-Ok.ensures ∙ ap (plan_over c.args.engines (choices_of c.args.options.now) kept placed) ready.edge;
    }
