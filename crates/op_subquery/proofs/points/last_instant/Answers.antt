use Rattle.std.proofs.Common.{◌≤◌, ◌∙◌, length, sym, ap, arith}
use Rattle.op_subquery.specs.Rings.{last_kept}
use Rattle.op_subquery.proofs.Placing.{last_next, taken_all}
use Rattle.op_subquery.proofs.points.last_instant.Goals as goal

pub loop-i-preserved : goal.loop-i-preserved
loop-i-preserved c = sym (last_next c.args.last c.args.rows.now.steps c.loop-i.i c.at.result c.at.ensures)

pub returns-clause-last : goal.returns-clause-last
returns-clause-last c =
    let past : length c.args.rows.now.steps ≤ c.loop-i.i = omega (arith, c.len-i-end.ensures.len, c.loop-i-test.false) in
    c.loop-i.invariant ∙ ap (last_kept c.args.last) (taken_all c.args.rows.now.steps c.loop-i.i past)
