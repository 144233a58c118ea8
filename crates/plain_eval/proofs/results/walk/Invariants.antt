use Rattle.std.proofs.Common.{◌≡◌, ◌≤◌, drop}
use Rattle.promql_type.specs.TypedTrees.{tree_of}
use Rattle.promql_meaning.specs.Conditions.{AreMet, needs_of, needs_over}
use Rattle.promql_meaning.specs.Givens.{no_marks}
use Rattle.promql_meaning.specs.Meaning.{meaning_step}
use Rattle.promql_meaning.specs.Results.{all_marks, all_points, first_stop}
use Rattle.step_table.specs.Timed.{steps_over}
use Rattle.promql_meaning.specs.Selecting.{asked_over}
use Rattle.plain_eval.proofs.Walking.{Gathers}
use Rattle.plain_eval.proofs.results.walk.Given as goal

abbrev pub invariant-loop-t : goal.invariant-loop-t
invariant-loop-t g l =
    let asked = asked_over l.s l.fn.p l.grid in
    let meant = meaning_step asked (tree_of l.e) in
    let left = steps_over meant (drop l.t-index l.t-items) in
    record {
      stop : first_stop l.rows left ≡ first_stop 0 (steps_over meant l.t-items);
      points : Gathers l.found.points.entries (all_points left) (all_points (steps_over meant l.t-items));
      marks : all_marks l.found.marks left ≡ all_marks no_marks (steps_over meant l.t-items);
      few : l.rows ≤ 4000000;
      met : AreMet asked (needs_over (needs_of asked (tree_of l.e)) (drop l.t-index l.t-items));
      same : l.p ≡ l.fn.p;
    }
