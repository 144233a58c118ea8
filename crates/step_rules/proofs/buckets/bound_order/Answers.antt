use Rattle.std.proofs.Common.{sym, ◌∙◌}
use Rattle.step_rules.proofs.Merging.{as_numbers}
use Rattle.step_rules.proofs.buckets.bound_order.Goals as goal

pub returns : goal.returns
returns c =
    let order = c.order_is_total.ensures in
    c.cmp_total.ensures ∙ sym (as_numbers order.equal order.reversed order.transitive c.args.a.now.bound c.args.b.now.bound c.is_number.ensures c.is_number-2.ensures)
