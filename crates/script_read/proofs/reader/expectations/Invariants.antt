use Rattle.std.proofs.Common.{◌≡◌, ◌++◌, drop, map}
use Rattle.std.specs.BTreeSet.{contains}
use Rattle.label_set.specs.Labels.{labels_cmp}
use Rattle.script_read.specs.Expects.{Gathers, mode_wants}
use Rattle.script_read.specs.Outcomes.{PatternList}
use Rattle.script_read.specs.Reading.{expected_after}
use Rattle.script_read.specs.Results.{AreSeen, rows_in}
use Rattle.script_read.specs.Views.{moments_asked, numbered}
use Rattle.script_read.proofs.reader.expectations.Given as goal

abbrev pub invariant-loop-line : goal.invariant-loop-line
invariant-loop-line l = record {
  said : (more : PatternList) → expected_after (l.searches ++ more) (moments_asked l.asked) l.expected (map numbered (drop l.line-index l.body))
      ≡ expected_after (l.searches ++ more) (moments_asked l.asked) (mode_wants l.asked.mode) (map numbered l.body);
  seen : AreSeen (contains labels_cmp l.seen) (rows_in l.expected.result);
  grows : Gathers (map numbered l.body) l.fn.searches l.searches;
}
