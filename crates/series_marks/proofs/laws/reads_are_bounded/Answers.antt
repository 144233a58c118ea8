use Rattle.series_marks.specs.Walked.{reads_within}
use Rattle.series_marks.proofs.laws.reads_are_bounded.Goals as goal

pub returns : goal.returns
returns c = reads_within
