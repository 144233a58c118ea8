use Rattle.std.proofs.Common.{◌<◌, length, ap, sym, Ok, arith, ◌∙◌}
use Rattle.step_rules.proofs.Bounds.{rank_short}
use Rattle.step_rules.proofs.buckets.at_rank.Goals as goal

pub returns : goal.returns
returns c =
    let short : length c.loop-rest.rest.now < 2 = omega arith in
    ap Ok c.bound_or_nan.ensures ∙ sym (rank_short c.args.rank.now c.loop-rest.earlier c.loop-rest.rest.now short) ∙ c.loop-rest.invariant
