use Rattle.std.proofs.Common.{◌∙◌, sym}
use Rattle.op_buckets.proofs.Splitting.{made_kept, made_more, made_whole, noted_kept, noted_more, noted_whole, open_ended, open_kept, open_more, open_none}
use Rattle.op_buckets.proofs.split.put_groups.Goals as goal

pub loop-i-init : goal.loop-i-init
loop-i-init c = record { placed = c.requires.empty; notes = c.new-notes.ensures; buckets = open_none c.args.entries.now c.new-buckets.result c.new-buckets.ensures }

pub loop-i-preserved-then-not-is_last : goal.loop-i-preserved-then-not-is_last
loop-i-preserved-then-not-is_last c =
    let es = c.args.entries.now in
    let i = c.loop-i.i in
    let e = c.index-entries-i.result in
    let last = sym c.is_last.ensures ∙ c.if-not-is_last.true in
    let more = open_more es i e c.loop-i.buckets c.push.new.self c.loop-i-test.true c.index-entries-i.is c.loop-i.invariant.buckets c.in_ok-push.ensures.ok in
    record {
      placed = made_kept c.args.q.now es i e c.loop-i.placed.items c.loop-i-test.true c.index-entries-i.is last c.loop-i.invariant.placed;
      notes = noted_kept c.args.q.now es i e c.loop-i.notes c.loop-i-test.true c.index-entries-i.is last c.loop-i.invariant.notes;
      buckets = open_kept es i e c.push.new.self c.loop-i-test.true c.index-entries-i.is last more;
    }

pub loop-i-preserved : goal.loop-i-preserved
loop-i-preserved c =
    let es = c.args.entries.now in
    let i = c.loop-i.i in
    let e = c.index-entries-i.result in
    let last = sym c.is_last.ensures ∙ c.if-not-is_last.false in
    let more = open_more es i e c.loop-i.buckets c.push.new.self c.loop-i-test.true c.index-entries-i.is c.loop-i.invariant.buckets c.in_ok-push.ensures.ok in
    record {
      placed = made_more c.args.q.now es i e c.push.new.self c.loop-i.placed.items c.put_group.new.placed.items c.requires.rise c.loop-i-test.true c.index-entries-i.is last more c.loop-i.invariant.placed c.in_ok-put_group.ensures.placed;
      notes = noted_more c.args.q.now es i e c.push.new.self c.loop-i.notes c.put_group.new.notes c.requires.rise c.loop-i-test.true c.index-entries-i.is last more c.loop-i.invariant.notes c.in_ok-put_group.ensures.notes;
      buckets = open_ended es i e c.put_group.new.buckets c.requires.rise c.loop-i-test.true c.index-entries-i.is last c.in_ok-put_group.ensures.buckets;
    }

pub returns-clause-placed : goal.returns-clause-placed
returns-clause-placed c = c.loop-i.invariant.placed ∙ made_whole c.args.q.now c.loop-i.i c.args.entries.now c.loop-i-test.false c.loop-i.auto.i-end

pub returns-clause-notes : goal.returns-clause-notes
returns-clause-notes c = c.loop-i.invariant.notes ∙ noted_whole c.args.q.now c.loop-i.i c.args.entries.now c.loop-i-test.false c.loop-i.auto.i-end
