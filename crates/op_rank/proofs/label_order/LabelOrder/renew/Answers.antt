use Rattle.std.proofs.Common.{◌∙◌, length, sym, ap, subst}
use Rattle.op_rank.specs.LabelOrders.{LabelsRise}
use Rattle.op_rank.proofs.LabelsInOrder.{ranks_are}
use Rattle.op_rank.proofs.label_order.LabelOrder.renew.Goals as goal

pub returns-in_ok-self : goal.returns-in_ok-self
returns-in_ok-self c =
    let order = c.in_ok-self.field-0 in
    ranks_are c.args.labels.now order.places.items order.ranks.items c.in_ok-self.ensures.count c.in_ok-self.ensures.rise order.inverse

pub returns-else-not-are_rising : goal.returns-else-not-are_rising
returns-else-not-are_rising c =
    let order = c.args.self.now in
    let same = c.as_slice.ensures.value in
    ranks_are c.args.labels.now order.places.items order.ranks.items (ap length (sym same) ∙ c.are_rising.ensures.count c.if-not-are_rising.false) (subst (LabelsRise c.args.labels.now) same (c.are_rising.ensures.rise c.if-not-are_rising.false)) order.inverse
