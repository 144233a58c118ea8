use Rattle.std.proofs.Common.{map}
use Rattle.op_subquery.specs.Kept.{kept_of}
use Rattle.op_subquery.proofs.Handing.{begins, ends, late_kept}
use Rattle.op_subquery.proofs.hand.hand_each.Goals as goal

pub loop-moment-init : goal.loop-moment-init
loop-moment-init c = record {
  within = c.requires.within;
  goes = λ held coming are. begins c.args.moment.0 c.args.windows.now.rows c.args.raised.now (map (kept_of c.args.labels.now) c.args.steps.now.items) held coming are;
}

pub hand_first-requires-clause-held : goal.hand_first-requires-clause-held
hand_first-requires-clause-held c =
    let held = c.requires.held in
    let g = c.loop-moment.invariant.goes held.0 held.1 held.2 in
    (g.now, g.next, g.are)

pub loop-moment-preserved : goal.loop-moment-preserved
loop-moment-preserved c = record {
  within = c.hand_first.ensures.within;
  goes = λ held coming are. c.in_ok-hand_first.ensures.handed c.args.moment.0 held coming (c.is_due.ensures.due c.loop-moment-test.true) (c.loop-moment.invariant.goes held coming are);
}

pub returns-clause-held : goal.returns-clause-held
returns-clause-held c = λ held coming are.
    let labels = c.args.labels.now in
    ends c.args.moment.0 c.loop-moment.windows.rows c.loop-moment.raised (map (kept_of labels) c.loop-moment.steps.items) held coming
    (late_kept labels c.args.moment.0 c.loop-moment.steps.items (c.is_due.ensures.later c.loop-moment-test.false)) (c.loop-moment.invariant.goes held coming are)
