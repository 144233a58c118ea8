use Rattle.std.proofs.Common.{◌∙◌, sym}
use Rattle.op_rank.proofs.Splitting.{has_value, made_kept, made_more, made_whole, open_ended, open_kept, open_more, open_none}
use Rattle.op_rank.proofs.quantiles.put_groups.Goals as goal

pub loop-i-init : goal.loop-i-init
loop-i-init c = record { placed = c.requires.empty; values = open_none c.args.entries.now c.clear.new.self.items c.clear.ensures.items }

pub loop-i-preserved-then-not-is_last : goal.loop-i-preserved-then-not-is_last
loop-i-preserved-then-not-is_last c =
    let es = c.args.entries.now in
    let i = c.loop-i.i in
    let e = c.index-entries-i.result in
    let last = sym c.is_last.ensures ∙ c.if-not-is_last.true in
    let more = open_more es i e c.loop-i.values.items c.push.new.self.items c.loop-i-test.true c.index-entries-i.is c.loop-i.invariant.values c.in_ok-push.ensures.items in
    record {
      placed = made_kept c.args.q.now es i e c.loop-i.placed.items c.loop-i-test.true c.index-entries-i.is last c.loop-i.invariant.placed;
      values = open_kept es i e c.push.new.self.items c.loop-i-test.true c.index-entries-i.is last more;
    }

pub put_group-requires : goal.put_group-requires
put_group-requires c = has_value c.loop-i.values.items c.push.new.self.items c.index-entries-i.result.value c.in_ok-push.ensures.items

pub loop-i-preserved : goal.loop-i-preserved
loop-i-preserved c =
    let es = c.args.entries.now in
    let i = c.loop-i.i in
    let e = c.index-entries-i.result in
    let last = sym c.is_last.ensures ∙ c.if-not-is_last.false in
    let more = open_more es i e c.loop-i.values.items c.push.new.self.items c.loop-i-test.true c.index-entries-i.is c.loop-i.invariant.values c.in_ok-push.ensures.items in
    record {
      placed = made_more c.args.q.now es i e c.push.new.self.items c.loop-i.placed.items c.put_group.new.placed.items c.requires.rise c.loop-i-test.true c.index-entries-i.is last more c.loop-i.invariant.placed c.in_ok-put_group.ensures.placed;
      values = open_ended es i e c.put_group.new.values.items c.requires.rise c.loop-i-test.true c.index-entries-i.is last c.in_ok-put_group.ensures.values;
    }

pub returns : goal.returns
returns c = c.loop-i.invariant.placed ∙ made_whole c.args.q.now c.loop-i.i c.args.entries.now c.loop-i-test.false c.loop-i.auto.i-end
