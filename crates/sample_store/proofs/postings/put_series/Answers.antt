use Rattle.std.proofs.Common.{rules, ◌≡◌, ◌∙◌, ap, length, subst, sym}
use Rattle.sample_store.specs.Listing.{noted}
use Rattle.sample_store.specs.Samples.{ArePostings}
use Rattle.sample_store.proofs.Grows.{grows_put}
use Rattle.sample_store.proofs.Taken.{restored_at, restored_whole_at}
use Rattle.sample_store.proofs.postings.put_series.Goals as goal

pub returns-in-Err-clause-listed : goal.returns-in-Err-clause-listed
returns-in-Err-clause-listed c =
    let place : c.len-place-2.result ≡ length c.args.series.now.entries = search rules in
    let told = c.in-Err.ensures.err in
    restored_at c.args.series.now.entries c.args.lists.now.entries c.note_pairs.new.lists.entries c.take_back.new.lists.entries c.args.names c.len-place-2.result told.0 place
    c.len-place.ensures.label_set c.requires.listed told.1 c.take_back.ensures

pub returns-in-Ok-insert-clause-listed : goal.returns-in-Ok-insert-clause-listed
returns-in-Ok-insert-clause-listed c =
    let place : c.len-place-2.result ≡ length c.args.series.now.entries = search rules in
    grows_put c.args.series.now.entries c.insert.new.self.entries c.args.lists.now.entries c.note_pairs.new.lists.entries c.args.names c.args.samples c.len-place.ensures.label_set
    c.requires.listed c.requires.absent c.in-Ok-insert.ensures.entries (c.in-Ok.ensures.ok ∙ ap (noted c.args.lists.now.entries c.args.names) place)

pub returns-clause-listed : goal.returns-clause-listed
returns-clause-listed c =
    let place : c.len-place-2.result ≡ length c.args.series.now.entries = search rules in
    let same : c.insert.new.self.entries ≡ c.args.series.now.entries = search rules in
    subst (λ z. ArePostings z c.take_back-in-Err-insert.new.lists.entries) (sym same)
    (restored_whole_at c.args.series.now.entries c.args.lists.now.entries c.note_pairs.new.lists.entries c.take_back-in-Err-insert.new.lists.entries c.args.names c.len-place-2.result place
    c.len-place.ensures.label_set c.requires.listed c.in-Ok.ensures.ok c.take_back-in-Err-insert.ensures)
