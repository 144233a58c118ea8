use Rattle.std.proofs.Common.{◌≡◌, ◌∙◌, None, false, refl, subst, sym, true}
use Rattle.std.proofs.lemmas.Result.{err_from_is_err_and}
use Rattle.op_window.specs.Sliding.{walked_of}
use Rattle.plan_bases.specs.Bases.{AreSeries}
use Rattle.plan_parts.specs.Requested.{asked_with}
use Rattle.plan_tree.specs.Asking.{HaveRequests}
use Rattle.plan_tree.specs.Worlds.{world}
use Rattle.plan_tree.specs.Nodes.{CanGo, shape_of}
use Rattle.plan_tree.specs.Shapes.{SeriesOf}
use Rattle.plan_tree.specs.Spending.{IsFresh}
use Rattle.plan_tree.specs.declared.node.Node.{Node}
use Rattle.series_marks.specs.Reaches.{IsReached}
use Rattle.window_parts.proofs.Handed.{handed_on}
use Rattle.window_parts.proofs.Made.{series_part}
use Rattle.window_parts.proofs.over.over_selector.Goals as goal

pub returns-clause-part : goal.returns-clause-part
returns-clause-part c = λ kept engines before now p inner arguments right e i one.
    let store = c.args.bases.now.samples in
    let asked = asked_with store kept c.args.span.now engines in
    let are : AreSeries kept store c.args.selector.now.rules c.in_ok-series.series = c.in_ok-series.ensures.series kept right in
    let moment = c.settled-moment.ensures.moment store kept in
    let walk = c.args.course.now.walk in
    let kernel = c.in_ok-kernel.kernel in
    let made = c.in_ok-kernel.ensures in
    let scalar = c.args.scalar in
    let same = c.in_ok-new.ensures.ok in
    let m = sym made.moment in
    let r = sym made.range in
    series_part asked walk before now p inner c.args.f arguments e _ scalar one c.walk_moments_are_moments.ensures c.trees_stay_within.ensures.window c.args.selector.now c.in_ok-series.series c.settled-moment.result
    (λ j. SeriesOf (made.series j) (made.f j) (made.moment j) (made.range j) (shape_of (same j))) refl refl (λ gs ps. (
      record {
        walked = made.walked asked.samples ∙ (λ j. walked_of (m j).closed (r j).0 (sym made.fresh j) asked.samples (sym made.series j));
        reached = made.fresh;
        edge = subst (IsReached kernel.moment.closed kernel.range.0) (sym made.fresh) tt;
      },
      subst (λ (n : Node). CanGo (world asked.samples gs) asked.kept ps None n) (sym same) (one.sound.can gs ps),
    ))
    (λ times listed. subst (HaveRequests now times) (sym same) (one.asks times listed)) (subst IsFresh (sym same) one.sound.fresh) are.selected are.these (record { fixed = moment.fixed; offset = moment.offset }) c.settled-moment.ensures.closed
    (c.if-not-are_within.ensures.forward refl) c.walk.ensures.instants (c.if-not-are_within.ensures.times refl) i

pub returns-then-not-are_within-clause-total : goal.returns-then-not-are_within-clause-total
returns-then-not-are_within-clause-total c = λ kept n few near within there.
    let none : false ≡ true = c.if-not-are_within.ensures.near n few (record { near = near; timed = c.settled-moment.ensures.near within.timed; long = within.long }) in absurd (cc)

pub returns-in_err-series-clause-total : goal.returns-in_err-series-clause-total
returns-in_err-series-clause-total c = λ kept n few near within there.
    let p = err_from_is_err_and c.from_residual.result c.from_residual.ensures.1 in
    handed_on false _ _ _ p.1 p.2 (c.in_err-series.ensures.total there)
