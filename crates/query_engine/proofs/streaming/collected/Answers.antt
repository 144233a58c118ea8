use Rattle.std.proofs.Common.{◌≡◌, ◌∙◌, List, ap, subst}
use Rattle.plan_tree.specs.Nodes.{shape_of}
use Rattle.plan_tree.specs.Shapes.{rule}
use Rattle.plan_tree.specs.Worlds.{world}
use Rattle.promql_meaning.specs.Meaning.{meaning_step}
use Rattle.promql_meaning.specs.Results.{grid_times, judged}
use Rattle.promql_meaning.specs.declared.answer.Outcome.{Outcome}
use Rattle.promql_type.specs.TypedTrees.{tree_of}
use Rattle.result_rows.specs.Taken.{HasTaken}
use Rattle.step_table.specs.Timed.{StepAt, steps_over}
use Rattle.tree_results.specs.Drained.{IsDrained}
use Rattle.tree_results.specs.declared.draining.Drained.{Drained}
use Rattle.tree_results.specs.declared.draining.Drained.TheVariants.{Stopped}
use Rattle.query_engine.proofs.Streamed.{by_stop, gone_fault, gone_given, gone_on, ok_at, then_judged}
use Rattle.query_engine.proofs.streaming.collected.Goals as goal

pub returns-in_err-drained-clause-run : goal.returns-in_err-drained-clause-run
returns-in_err-drained-clause-run g c = gone_fault _ c.from_residual.result _ _ c.from_residual.ensures.1 c.in_err-drained.ensures.run

pub returns-in-Stopped-clause-run : goal.returns-in-Stopped-clause-run
returns-in-Stopped-clause-run g c = gone_given _ _ _ _ c.in_ok-drained.ensures.run

pub returns-in-Done-clause-run : goal.returns-in-Done-clause-run
returns-in-Done-clause-run g c = gone_on _ _ _ _ c.or_memory.ensures.memory c.in_ok-drained.ensures.run

pub returns-in-Stopped-clause-result : goal.returns-in-Stopped-clause-result
returns-in-Stopped-clause-result g c = λ gathers asked ready gives.
    let times = grid_times c.args.grid.now in
    let e = tree_of c.args.typed.now in
    let steps = steps_over (rule (world c.args.store.now gathers) c.args.patterns.now (shape_of c.args.tree.now.node)) times in
    let stops : IsDrained steps (Stopped c.in-Stopped.outcome) = subst (λ (d : Drained). IsDrained steps d) c.in-Stopped.is (c.in_ok-drained.ensures.drained gathers ready) in
    by_stop c.args.instant e steps (steps_over (meaning_step asked e) times) c.in-Stopped.outcome stops gives

pub returns-in-Done-clause-result : goal.returns-in-Done-clause-result
returns-in-Done-clause-result g c =
    let e = tree_of c.args.typed.now in
    then_judged c.or_memory.result c.or_memory.ensures.same (λ outcome was gathers asked ready gives.
    let steps = steps_over (rule (world c.args.store.now gathers) c.args.patterns.now (shape_of c.args.tree.now.node)) (grid_times c.args.grid.now) in
    let taken : HasTaken c.in-Done.collected steps = subst (λ (d : Drained). IsDrained steps d) c.in-Done.is (c.in_ok-drained.ensures.drained gathers ready) in
    ok_at (λ (o : Outcome). (steps : List StepAt) → HasTaken c.in-Done.collected steps → o ≡ judged c.args.instant e steps) c.finished.result outcome was c.finished.ensures steps taken
    ∙ ap (λ (ss : List StepAt). judged c.args.instant e ss) gives)
