use Rattle.std.specs.BTreeSet.{contains}
use Rattle.label_set.specs.Labels.{labels_cmp}
use Rattle.script_read.proofs.Seen.{scalar_seen}
use Rattle.script_read.proofs.reader.add_result.Goals as goal

pub returns-then-not-begins_series-clause-seen : goal.returns-then-not-begins_series-clause-seen
returns-then-not-begins_series-clause-seen c =
    scalar_seen c.add_scalar.result c.args.expected.now.result c.add_scalar.new.stated c.args.asked.now.instant c.args.text.now (contains labels_cmp c.args.seen.now) c.add_scalar.ensures c.requires.seen
