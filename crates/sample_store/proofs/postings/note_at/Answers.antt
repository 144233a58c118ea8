use Rattle.sample_store.proofs.Places.{left_same}
use Rattle.sample_store.proofs.postings.note_at.Goals as goal

pub returns-clause-err : goal.returns-clause-err
returns-clause-err c = left_same c.push.result c.args.lists.now.entries c.args.i c.pair_mut-list.result.0.now c.pair_mut-list.result.1.now c.push.new.self c.pair_mut-list.ensures.value c.push.ensures.err
