use Rattle.std.proofs.Common.{◌≡◌, ◌++◌, ◌*◌, ◌+◌, map, drop}
use Rattle.std.specs.List.{AllByRecursion}
use Rattle.ticks.specs.declared.moment.Ms.{Ms}
use Rattle.promql_ast.specs.declared.tree.Expr.{Expr}
use Rattle.promql_ast.specs.Depth.{depth, greatest}
use Rattle.promql_meaning.specs.Givens.{no_marks}
use Rattle.promql_meaning.specs.Meaning.{given_at, meaning, meaning_step}
use Rattle.promql_meaning.specs.Subqueries.{marks_over, rows_over}
use Rattle.plain_eval.specs.Queried.{asked_of}
use Rattle.plain_eval.specs.Ready.{IsReady}
use Rattle.plain_eval.proofs.evaluating.+evaluation.Given as goal

abbrev pub invariant-points_at-loop-u : goal.invariant-points_at-loop-u
invariant-points_at-loop-u g l =
    let asked = asked_of l.query l.fn.patterns in
    let inner = meaning_step asked l.inner in
    record {
      rows : l.points.rows ++ rows_over inner (drop l.u-index l.us) ≡ rows_over inner l.us;
      marks : marks_over inner l.points.marks (drop l.u-index l.us) ≡ marks_over inner no_marks l.us;
      ready : AllByRecursion (λ (u : Ms). IsReady asked l.inner u.0) (drop l.u-index l.us);
      same : l.patterns ≡ l.fn.patterns;
    }

abbrev pub invariant-values_at-loop-e : goal.invariant-values_at-loop-e
invariant-values_at-loop-e g l =
    let asked = asked_of l.query l.fn.patterns in
    record {
      given : l.givens ++ given_at (map (meaning asked) (drop l.e-index l.arguments)) l.t.0 ≡ given_at (map (meaning asked) l.arguments) l.t.0;
      ready : AllByRecursion (λ (e : Expr). IsReady asked e l.t.0) (drop l.e-index l.arguments);
      same : l.patterns ≡ l.fn.patterns;
    }

abbrev pub decreases-value_at : goal.decreases-value_at
decreases-value_at g l = 3 * depth l.e.now

abbrev pub decreases-points_at : goal.decreases-points_at
decreases-points_at g l = 3 * depth l.inner.now + 1

abbrev pub decreases-values_at : goal.decreases-values_at
decreases-values_at g l = 3 * greatest (map depth l.arguments.now) + 2
