use Rattle.sample_store.proofs.Places.{noted_there}
use Rattle.sample_store.proofs.postings.note.Goals as goal

pub returns-in-Some-clause-ok : goal.returns-in-Some-clause-ok
returns-in-Some-clause-ok c =
    noted_there c.note_at.result c.args.lists.now.entries c.note_at.new.lists.entries c.in-Some.i c.args.key c.in-Some.field-0-1.now c.in-Some.field-0-2.now c.args.place c.len-many.ensures.unique
    c.in-Some.ensures.key c.in-Some.ensures.entry c.note_at.ensures.ok
