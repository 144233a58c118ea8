use Rattle.std.proofs.Common.{◌≡◌, ◌∙◌, ◌+◌, ◌≤◌, None, Some, ap, drop, get_or, length, refl, subst, sym, arith}
use Rattle.std.specs.Prelude.{ℤ, pos}
use Rattle.step_table.specs.declared.step.Step.{Step}
use Rattle.ticks.specs.declared.moment.Ms.{Ms}
use Rattle.promql_type.specs.TypedTrees.{tree_of}
use Rattle.promql_meaning.specs.Conditions.{AreMet, needs_of, needs_over}
use Rattle.promql_meaning.specs.Meaning.{meaning_step}
use Rattle.promql_meaning.specs.Results.{all_marks, first_stop, grid_times, stop_at}
use Rattle.step_table.specs.Timed.{steps_over}
use Rattle.promql_meaning.specs.Selecting.{asked_over}
use Rattle.step_rules.specs.Instants.{grid_instants}
use Rattle.plain_eval.proofs.Walking.{at_instant, few, goes_on, marks_more, met_here, none_yet, points_more, stops_here}
use Rattle.plain_eval.proofs.results.walk.Goals as goal

pub instants_up_to-requires-clause-times : goal.instants_up_to-requires-clause-times
instants_up_to-requires-clause-times g c = grid_instants c.args.grid.now.start.0 c.args.grid.now.end.0 c.args.grid.now.step.0 c.args.grid.now.in_range

pub loop-t-init : goal.loop-t-init
loop-t-init g c =
    let asked = asked_over c.args.s.now c.args.p.now c.args.grid.now in
    let tree = tree_of c.args.e.now in
    let meant : ℤ → Step = meaning_step asked tree in
    let items = c.as_slice-t-items.result.now in
    let e : items ≡ grid_times c.args.grid.now = c.as_slice-t-items.ensures ∙ c.in_ok-times.ensures in
    record {
      stop = refl;
      points = none_yet _ _ c.new.ensures.empty;
      marks = ap (λ m. all_marks m (steps_over meant items)) c.no_marks.ensures;
      few = omega arith;
      met = subst (λ ts. AreMet asked (needs_over (needs_of asked tree) ts)) (sym e) c.requires.met;
      same = refl;
    }

pub at-requires-clause-met : goal.at-requires-clause-met
at-requires-clause-met g c =
    let s = c.args.s.now in
    let grid = c.args.grid.now in
    let asked = asked_over s c.args.p.now grid in
    let tree = tree_of c.args.e.now in
    let items = c.as_slice-t-items.result.now in
    let u : Ms = get_or items c.loop-t.t-index (record { 0 = pos 0 }) in
    subst (λ p. AreMet (asked_over s p grid) (needs_of (asked_over s p grid) tree u.0)) (sym c.loop-t.invariant.same)
    (met_here asked tree items c.loop-t.t-index (record { 0 = pos 0 }) c.loop-t-test.true c.loop-t.invariant.met).0

pub returns-in-Some-clause-walked : goal.returns-in-Some-clause-walked
returns-in-Some-clause-walked g c =
    let s = c.args.s.now in
    let grid = c.args.grid.now in
    let asked = asked_over s c.args.p.now grid in
    let tree = tree_of c.args.e.now in
    let meant : ℤ → Step = meaning_step asked tree in
    let items = c.as_slice-t-items.result.now in
    let i = c.loop-t.t-index in
    let u : Ms = get_or items i (record { 0 = pos 0 }) in
    let e : items ≡ grid_times grid = c.as_slice-t-items.ensures ∙ c.in_ok-times.ensures in
    let is : c.in_ok-step.step ≡ meant u.0 = c.in_ok-step.ensures.meaning ∙ ap (λ p. meaning_step (asked_over s p grid) tree u.0) c.loop-t.invariant.same in
    let stopped : stop_at c.loop-t.rows (at_instant u c.in_ok-step.step) ≡ Some c.in-Some.outcome = sym c.in_ok-outcome.ensures ∙ c.in-Some.is in
    ap (λ ts. first_stop 0 (steps_over meant ts)) (sym e) ∙ sym c.loop-t.invariant.stop
    ∙ stops_here meant items i (record { 0 = pos 0 }) c.in_ok-step.step c.loop-t-test.true is c.loop-t.rows c.in-Some.outcome stopped

pub loop-t-preserved : goal.loop-t-preserved
loop-t-preserved g c =
    let s = c.args.s.now in
    let grid = c.args.grid.now in
    let asked = asked_over s c.args.p.now grid in
    let tree = tree_of c.args.e.now in
    let meant : ℤ → Step = meaning_step asked tree in
    let items = c.as_slice-t-items.result.now in
    let i = c.loop-t.t-index in
    let u : Ms = get_or items i (record { 0 = pos 0 }) in
    let step = c.in_ok-step.step in
    let within = c.loop-t-test.true in
    let is : step ≡ meant u.0 = c.in_ok-step.ensures.meaning ∙ ap (λ p. meaning_step (asked_over s p grid) tree u.0) c.loop-t.invariant.same in
    let none : stop_at c.loop-t.rows (at_instant u step) ≡ None = sym c.in_ok-outcome.ensures ∙ c.in_default.is in
    let count : length c.as_slice.result.now ≡ length step.table.rows = ap length c.as_slice.ensures in
    record {
      stop = ap (λ n. first_stop (c.loop-t.rows + n) (steps_over meant (drop (i + 1) items))) count ∙ sym (goes_on meant items i (record { 0 = pos 0 }) step within is c.loop-t.rows none) ∙ c.loop-t.invariant.stop;
      points = points_more meant items i (record { 0 = pos 0 }) step within is c.loop-t.found.points.entries _ _ c.in_ok-add_step.ensures.points c.loop-t.invariant.points;
      marks = marks_more meant items i (record { 0 = pos 0 }) step within is c.loop-t.found.marks _ _ c.in_ok-add_step.ensures.marks c.loop-t.invariant.marks;
      few = subst (λ n. c.loop-t.rows + n ≤ 4000000) (sym count) (few c.loop-t.rows u step none);
      met = (met_here asked tree items i (record { 0 = pos 0 }) within c.loop-t.invariant.met).1;
      same = c.at.ensures.same ∙ c.loop-t.invariant.same;
    }
