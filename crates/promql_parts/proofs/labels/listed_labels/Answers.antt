use Rattle.std.proofs.Common.{arith}
use Rattle.std.proofs.lemmas.Result.{err_from_is_err_and}
use Rattle.promql_parts.specs.Labels.{labels_turn}
use Rattle.promql_parts.specs.Turns.{goes_on, ends, stops}
use Rattle.promql_parts.proofs.labels.listed_labels.Goals as goal

pub returns-in_err-more-clause-is : goal.returns-in_err-more-clause-is
returns-in_err-more-clause-is c =
    let p = err_from_is_err_and c.from_residual.result c.from_residual.ensures.1 in
    rw (p.1, p.2) (stops (labels_turn c.args.taken.now c.args.end) _ _ _ c.loop-more.invariant.going c.in_err-more.field-0.0 c.in_err-more.ensures.is)

pub returns-then-not-more-clause-is : goal.returns-then-not-more-clause-is
returns-then-not-more-clause-is c =
    ends (labels_turn c.args.taken.now c.args.end) _ _ _ c.loop-more.invariant.going c.in_ok-more.more c.in_ok-more.next c.in_ok-more.behind.now c.in_ok-more.ensures.is c.if-not-more.true

pub loop-more-preserved : goal.loop-more-preserved
loop-more-preserved c = record {
  going =
      goes_on (labels_turn c.args.taken.now c.args.end) _ _ _ c.loop-more.invariant.going c.in_ok-more.more c.in_ok-more.next c.in_ok-more.behind.now c.in_ok-more.ensures.is c.if-not-more.false
      (c.in_ok-more.ensures.shorter.1 c.if-not-more.false);
  within = omega (arith, c.loop-more.invariant.within, c.in_ok-more.ensures.shorter.0);
}
