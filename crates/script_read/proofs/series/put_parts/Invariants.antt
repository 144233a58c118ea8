use Rattle.std.proofs.Common.{◌≡◌, true}
use Rattle.std.specs.List.{slice_split}
use Rattle.script_read.specs.Series.{is_comma, labels_with, without_empty_end}
use Rattle.script_read.proofs.Parts.{parts_left, tokens_left}
use Rattle.script_read.proofs.series.put_parts.Given as goal

abbrev pub invariant-loop-left : goal.invariant-loop-left
invariant-loop-left l =
    labels_with l.text l.first l.labels (without_empty_end (parts_left l.text l.left))
    ≡ labels_with l.text true l.fn.labels (without_empty_end (slice_split (is_comma l.text) l.tokens))

abbrev pub decreases-loop-left : goal.decreases-loop-left
decreases-loop-left l = tokens_left l.left
