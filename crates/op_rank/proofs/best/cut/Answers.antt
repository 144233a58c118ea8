use Rattle.op_rank.specs.Contenders.{before}
use Rattle.op_rank.proofs.BestKept.{cut_count, cut_keeps}
use Rattle.op_rank.proofs.Firsts.{before_is_weak}
use Rattle.op_rank.proofs.best.cut.Goals as goal

pub returns-clause-count : goal.returns-clause-count
returns-clause-count c =
    let order = c.order_is_total.ensures in
    let w = c.args.wanted in
    let weak = before_is_weak order.equal order.reversed order.transitive w.down in
    cut_count (before w.down) weak w.count c.args.kept.now.items c.sort.new.kept.items c.truncate.new.self.items c.requires.many c.sort.ensures.moved c.truncate.ensures.items

pub returns-clause-keeps : goal.returns-clause-keeps
returns-clause-keeps c = λ all holds.
    let order = c.order_is_total.ensures in
    let w = c.args.wanted in
    let weak = before_is_weak order.equal order.reversed order.transitive w.down in
    cut_keeps (before w.down) weak w.count all c.args.kept.now.items c.sort.new.kept.items c.truncate.new.self.items c.requires.some c.requires.many c.sort.ensures.moved c.sort.ensures.sorted c.truncate.ensures.items holds
