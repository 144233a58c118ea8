use Rattle.std.proofs.Common.{rules, ◌<◌, length}
use Rattle.sample_store.proofs.Taken.{swept_next, swept_within}
use Rattle.sample_store.proofs.postings.take_back.Goals as goal

pub take_off_at-requires : goal.take_off_at-requires
take_off_at-requires c =
    let within : c.loop-i.i < length c.args.lists.now.entries = search rules in
    swept_within c.args.place c.loop-i.i c.args.lists.now.entries c.loop-i.lists.entries c.loop-i.invariant.lists within

pub loop-i-preserved : goal.loop-i-preserved
loop-i-preserved c =
    let within : c.loop-i.i < length c.args.lists.now.entries = search rules in
    record {
      lists = swept_next c.args.place c.loop-i.i c.args.lists.now.entries c.loop-i.lists.entries c.take_off_at.new.lists.entries c.loop-i.invariant.lists within c.take_off_at.ensures;
    }
