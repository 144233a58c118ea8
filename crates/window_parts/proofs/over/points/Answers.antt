use Rattle.std.proofs.Common.{◌∙◌, None, false, refl, subst, sym}
use Rattle.std.proofs.lemmas.Result.{err_from_is_err_and}
use Rattle.logical_plan.specs.declared.nodes.PlanNode.TheVariants as node
use Rattle.plan_parts.specs.Parts.{IsBuilt, IsPart}
use Rattle.plan_parts.specs.Adding.{requests_stay}
use Rattle.plan_tree.specs.Asking.{HaveRequests}
use Rattle.plan_tree.specs.Worlds.{no_gathers, world}
use Rattle.plan_tree.specs.Nodes.{CanGo, shape_of}
use Rattle.plan_tree.specs.Shapes.{PointsOf, rule}
use Rattle.plan_tree.specs.Spending.{IsFresh}
use Rattle.plan_tree.specs.declared.node.Node.{Node}
use Rattle.ticks.specs.Listed.{IsListed}
use Rattle.ticks.specs.Walks.{LeadsToTimes, multiples-times}
use Rattle.ticks.specs.declared.walk.Walk.{Walk}
use Rattle.ticks.specs.declared.walk.Walk.TheVariants.{Multiples}
use Rattle.window_parts.specs.Over.{IsArgument, IsArgumentBuilt}
use Rattle.window_parts.proofs.Handed.{handed_on}
use Rattle.window_parts.proofs.Made.{ok_at, points_part}
use Rattle.window_parts.proofs.over.points.Goals as goal

pub returns-clause-part : goal.returns-clause-part
returns-clause-part c = λ asked before between now p inner q moment range step arguments e i inside r argued.
    let walk = c.args.outer.now.walk in
    let own = c.args.inside.now in
    let kernel = c.in_ok-kernel.kernel in
    let made = c.in_ok-kernel.ensures in
    let rows = c.in_ok-rows.rows in
    let scalar = c.in_ok-scalar.scalar in
    let one = c.in_ok-scalar.ensures.part asked walk between now arguments (ok_at (IsArgument asked walk between now arguments) c.args.argument c.in_ok-argument.argument c.in_ok-argument.was argued) in
    let below = c.requires in
    let child = subst (λ (w : Walk). IsPart asked w before between q rows) below (ok_at (IsPart asked own.course.walk before between q) c.args.rows rows c.in_ok-rows.was r) in
    let leads = coe 0 1 (k. multiples-times walk own.moment own.range own.step k) (subst LeadsToTimes below c.walk.ensures.times) in
    let inner_same = c.in_ok-new.ensures.ok in
    let same = c.in_ok-new-2.ensures.ok in
    let stands = made.stands (rule (world asked.samples no_gathers) asked.kept (shape_of c.in_ok-new.field-0.value)) in
    let walk_is = stands.walk ∙ (λ j. Multiples (c.walk-2.ensures.walk j) (made.moment j) (made.range j) (made.step j)) in
    let listed = c.walks_are_listed.ensures.one kernel.walk (subst LeadsToTimes (sym walk_is) (subst LeadsToTimes below c.walk.ensures.times)) in
    let inside_listed = subst (λ (w : Walk). IsListed w listed.0) walk_is listed.1 in
    points_part asked walk before between now p inner c.args.f arguments e _ scalar one c.walk_moments_are_moments.ensures c.multiples_are_all.ensures c.trees_stay_within.ensures.subquery q moment own.range own.step own.moment rows
    (λ j. PointsOf (made.f j) (walk_is j) (made.moment j) (made.range j) (made.step j) (shape_of (inner_same j)) (shape_of (same j))) refl refl (λ gs ps. (
      record { outer = c.walk-2.result.now; stands = made.stands (rule (world asked.samples gs) asked.kept (shape_of c.in_ok-new.field-0.value)); next = made.next },
      subst (λ (n : Node). CanGo (world asked.samples gs) asked.kept ps None n) (sym inner_same) (child.sound.can gs ps),
      subst (λ (n : Node). CanGo (world asked.samples gs) asked.kept ps None n) (sym same) (one.sound.can gs ps),
    ))
    (λ times on. (
      subst (HaveRequests now times) (sym same) (one.asks times on),
      refl,
      listed.0,
      listed.1,
      subst (HaveRequests now listed.0) (sym inner_same) (requests_stay between now one.added listed.0 rows.tree (child.asks listed.0 inside_listed)),
    ))
    (refl, subst IsFresh (sym inner_same) child.sound.fresh, subst IsFresh (sym same) one.sound.fresh) child inside.timed inside.closed leads.2 c.walk-2.ensures.instants (i ∙ (λ j. node.Subquery q (sym inside.range_is j) (sym inside.step_is j) moment))

pub returns-in_err-rows-clause-total : goal.returns-in_err-rows-clause-total
returns-in_err-rows-clause-total c = λ scalar given kinds takes rows built.
    let p = err_from_is_err_and c.from_residual.result c.from_residual.ensures.1 in
    handed_on false _ _ _ p.1 p.2 (subst (IsBuilt scalar) c.in_err-rows.was rows)

pub returns-in_err-argument-clause-total : goal.returns-in_err-argument-clause-total
returns-in_err-argument-clause-total c = λ scalar given kinds takes rows built.
    let p = err_from_is_err_and c.from_residual-in_err-argument.result c.from_residual-in_err-argument.ensures.1 in
    handed_on false _ _ _ p.1 p.2 (subst (IsArgumentBuilt kinds) c.in_err-argument.was built)

pub returns-in_err-scalar-clause-total : goal.returns-in_err-scalar-clause-total
returns-in_err-scalar-clause-total c = λ scalar given kinds takes rows built.
    let p = err_from_is_err_and c.from_residual-in_err-scalar.result c.from_residual-in_err-scalar.ensures.1 in
    handed_on false _ _ _ p.1 p.2 (c.in_err-scalar.ensures.total given kinds takes (subst (IsArgumentBuilt kinds) c.in_ok-argument.was built))
