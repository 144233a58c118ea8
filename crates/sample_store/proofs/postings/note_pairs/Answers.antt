use Rattle.std.proofs.Common.{rules, ◌<◌, length}
use Rattle.sample_store.proofs.Taken.{noted_next}
use Rattle.sample_store.proofs.postings.note_pairs.Goals as goal

pub loop-i-preserved : goal.loop-i-preserved
loop-i-preserved c =
    let within : c.loop-i.i < length c.args.labels.now = search rules in
    record {
      lists =
          noted_next c.args.lists.now.entries c.loop-i.lists.entries c.note_pair.new.lists.entries c.args.labels.now c.loop-i.i c.args.place within c.loop-i.invariant.lists
          c.in_ok-note_pair.ensures.ok;
    }
