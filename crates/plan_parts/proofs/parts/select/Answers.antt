use Rattle.std.proofs.Common.{Bool, false, List, ℕ, refl, sym, subst}
use Rattle.std.specs.Prelude.{ℤ}
use Rattle.std.proofs.lemmas.Result.{err_from_is_err_and}
use Rattle.exchange.specs.Asked.{MayRequest}
use Rattle.exchange.specs.declared.request.Request.{Request}
use Rattle.logical_plan.specs.Lowering.{planned}
use Rattle.logical_plan.specs.declared.nodes.Plan.{Plan}
use Rattle.logical_plan.specs.declared.nodes.PlanNode.TheVariants as node
use Rattle.op_select.specs.Newest.{AreNamed, AreOnce, selected}
use Rattle.plan_bases.specs.Bases.{AreSeries}
use Rattle.plan_tree.specs.Shapes.{SelectOf}
use Rattle.plan_work.specs.TreeBounds.{StaysWithin}
use Rattle.promql_meaning.specs.Selecting.{lookback}
use Rattle.series_marks.specs.Reaches.{AreThere, IsReached}
use Rattle.series_marks.specs.Reads.{Reached}
use Rattle.ticks.specs.Walks.{HasTimes, IsInstant, moment_at}
use Rattle.ticks.specs.declared.walk.WalkMoment.{WalkMoment}
use Rattle.plan_parts.specs.Adding.{each_none, none_added, own_none}
use Rattle.plan_parts.specs.Gives.{Gives}
use Rattle.plan_parts.specs.Parts.{IsAskedIn}
use Rattle.plan_parts.specs.Requested.{asked_with}
use Rattle.plan_parts.proofs.Chosen.{IsChosen, chosen_once, chosen_there, select_gives}
use Rattle.plan_parts.proofs.Handed.{handed_on}
use Rattle.plan_parts.proofs.SelectorRows.{leaf_gives, leaf_stays, select_is_selector}
use Rattle.plan_parts.proofs.parts.select.Goals as goal

pub returns-clause-leaf : goal.returns-clause-leaf
returns-clause-leaf c = λ kept engines requests p right s.
    let store = c.args.bases.now.samples in
    let asked = asked_with store kept c.args.span.now engines in
    let timed = c.settled-moment.ensures.moment store kept in
    let walk = c.args.course.now.walk in
    let rules = c.args.rules.now in
    let moment = c.args.moment.now in
    let kernel = c.in_ok-kernel.kernel in
    let made = c.in_ok-kernel.ensures in
    let series = c.in_ok-series.series in
    let are : AreSeries kept store rules series = c.in_ok-series.ensures.series kept right in
    let times : (t : ℤ) → IsInstant walk t → HasTimes (moment_at c.settled-moment.result t) lookback = c.if-not-is_within.ensures.times refl in
    let here : (t : ℤ) → IsInstant walk t → HasTimes (moment_at kernel.moment t) lookback = subst (λ (m : WalkMoment). (t : ℤ) → IsInstant walk t → HasTimes (moment_at m t) lookback) (sym made.moment) times in
    let there : AreThere store kernel.series = subst (AreThere store) (sym made.series) (chosen_there kept rules store series are.selected) in
    let once : AreOnce kernel.series = subst AreOnce (sym made.series) (chosen_once store series are.selected.rising) in
    let these : IsChosen asked rules moment kernel.series kernel.moment =
    subst (λ (ns : List ℕ). IsChosen asked rules moment ns kernel.moment) (sym made.series)
    (subst (λ (m : WalkMoment). IsChosen asked rules moment series m) (sym made.moment) (record {
      selected = are.selected;
      these = are.these;
      timed = record { fixed = timed.fixed; offset = timed.offset };
      closed = c.settled-moment.ensures.closed;
    })) in
    let q : Plan = planned p.at (node.Select rules moment c.args.stamped) in
    record {
      sound = record {
        fit = (there, once);
        can = λ gs ps. record {
          marks = made.marks store;
          labels = subst (λ (r : Reached). AreNamed r kernel.buffer.labels store kernel.series) (sym made.fresh) tt;
          reached = made.fresh;
          edge = subst (λ (r : Reached). IsReached kernel.moment.closed lookback r) (sym made.fresh) tt;
        };
        times = here;
        fresh = tt;
      };
      added = none_added requests;
      owns = own_none requests requests;
      asks = λ times listed. tt;
      named = each_none (λ (r : Request). IsAskedIn r p) requests;
      make = λ span over. each_none (MayRequest span asked.kept) requests;
      scalar = λ h. absurd (cc);
      gives = λ gathers meant stay. subst (λ (b : Bool). Gives asked (IsInstant walk) p false c.args.stamped (λ t. (selected store kernel.series kernel.moment b (record { 0 = t })).step)) (sym made.stamped)
          (leaf_gives asked (IsInstant walk) p rules moment c.args.stamped (λ t. (selected store kernel.series kernel.moment c.args.stamped (record { 0 = t })).step) s
          (select_gives c.lent_steps_are_tables.ensures.sorted c.seconds_are_numbers.ensures c.walk_moments_are_moments.ensures asked (IsInstant walk) q rules moment c.args.stamped kernel.series kernel.moment these here refl));
      within = leaf_stays asked walk p rules moment c.args.stamped (SelectOf kernel.series kernel.moment kernel.stamped) s
          (subst (λ (b : Bool). StaysWithin asked walk q (SelectOf kernel.series kernel.moment b)) (sym made.stamped)
          (c.trees_stay_within.ensures.selector asked walk q rules moment c.args.stamped kernel.series kernel.moment refl there these.these these.timed these.closed));
    }

pub returns-clause-part : goal.returns-clause-part
returns-clause-part c = λ kept engines requests p right e.
    returns-clause-leaf c kept engines requests p right (select_is_selector (asked_with c.args.bases.now.samples kept c.args.span.now engines) p c.args.rules.now c.args.moment.now c.args.stamped e)

pub returns-in_err-series-clause-total : goal.returns-in_err-series-clause-total
returns-in_err-series-clause-total c = λ n few near there within.
    let p = err_from_is_err_and c.from_residual.result c.from_residual.ensures.1 in
    handed_on false _ _ _ p.1 p.2 (c.in_err-series.ensures.total there)
