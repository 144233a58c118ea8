use Rattle.std.specs.BTreeSet.{contains}
use Rattle.label_set.specs.Labels.{labels_cmp}
use Rattle.script_read.specs.Expects.{search_on}
use Rattle.script_read.specs.Results.{result_added}
use Rattle.script_read.specs.Views.{moments_asked}
use Rattle.script_read.proofs.Seen.{seen_stays}
use Rattle.script_read.proofs.Spares.{result_spares, spared_makes}
use Rattle.script_read.proofs.reader.add_line.Goals as goal

pub returns-then-is_expectation-clause-seen : goal.returns-then-is_expectation-clause-seen
returns-then-is_expectation-clause-seen c =
    seen_stays c.add_expectation.result c.add_expectation.new.expected c.add_expectation.new.searches c.args.expected.now c.args.asked.now.instant c.args.text.now
    (contains labels_cmp c.args.seen.now) c.add_expectation.ensures.added c.requires.seen

pub returns-else-is_expectation-clause-refused : goal.returns-else-is_expectation-clause-refused
returns-else-is_expectation-clause-refused c =
    let m = moments_asked c.args.asked.now in
    spared_makes c.args.searches.now (search_on c.args.text.now) c.add_result.result c.add_result.new.expected (result_added m c.args.expected.now c.args.text.now)
    (result_spares m c.args.expected.now c.args.text.now) c.add_result.ensures.added
