use Rattle.std.proofs.Common.{◌∙◌, ◌<◌, false, length, sym, ap, subst}
use Rattle.std.specs.List.{AllByRecursion}
use Rattle.std.proofs.lemmas.List.{length-replicate}
use Rattle.op_rank.specs.Contenders.{contenders_in}
use Rattle.op_rank.specs.declared.best.Best.{Best}
use Rattle.op_rank.specs.declared.best.Contender.{Contender}
use Rattle.op_rank.proofs.Choosing.{choice_is, marks_within, none_chosen, rising_ranks, within_more}
use Rattle.op_rank.proofs.Firsts.{contenders_total}
use Rattle.op_rank.proofs.contenders.Choice.choose.Goals as goal

pub returns-then-count-eq0 : goal.returns-then-count-eq0
returns-then-count-eq0 c =
    let by = c.args.ranking.now in
    c.clear.ensures.items ∙ sym (none_chosen by.down by.groups.now by.ranks.now c.args.count c.args.slots.now c.if-count-eq0.true)

pub offer_all-requires-clause-within : goal.offer_all-requires-clause-within
offer_all-requires-clause-within c = within_more c.args.ranking.now.group_count (length c.make_room.new.best.items) c.args.ranking.now.groups.now c.in_ok-make_room.ensures.many c.requires.within

pub mark_all-requires : goal.mark_all-requires
mark_all-requires c =
    let by = c.args.ranking.now in
    let k = c.args.count in
    let slots = c.args.slots.now in
    let best = c.settle_all.new.best.items in
    let n = ap length c.in_ok-mark_none.ensures ∙ length-replicate (length slots) false in
    record {
      within = subst (AllByRecursion (λ (b : Best). AllByRecursion (λ (x : Contender). x.at < length c.mark_none.new.is_taken.items) b.kept.items)) (sym c.as_slice.ensures.value)
          (marks_within by.down k by.groups.now by.ranks.now (length c.mark_none.new.is_taken.items) slots best n (λ group. c.settle_all.ensures.best group (contenders_in by.groups.now by.ranks.now group 0 slots) (c.in_ok-offer_all.ensures.keeps group)));
    }

pub returns : goal.returns
returns c =
    let order = c.order_is_total.ensures in
    let by = c.args.ranking.now in
    let k = c.args.count in
    let slots = c.args.slots.now in
    let best = c.settle_all.new.best.items in
    choice_is by.down (contenders_total order.equal order.reversed order.transitive by.down) by.groups.now by.ranks.now k slots best c.requires.apart
    (rising_ranks (length by.groups.now) (length by.ranks.now) slots c.requires.ranks c.requires.groups) c.in_ok-offer_all.ensures.numbers
    (λ group. c.settle_all.ensures.best group (contenders_in by.groups.now by.ranks.now group 0 slots) (c.in_ok-offer_all.ensures.keeps group))
    c.as_slice.result.now c.mark_none.new.is_taken.items c.mark_all.new.is_taken.items c.as_slice-2.result.now c.clear.new.self.items c.put_taken.new.placed.items
    c.as_slice.ensures.value c.in_ok-mark_none.ensures c.mark_all.ensures.len c.mark_all.ensures.marks c.as_slice-2.ensures.value c.clear.ensures.items c.in_ok-put_taken.ensures
