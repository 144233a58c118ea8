use Rattle.std.proofs.Common.{[]}
use Rattle.label_set.proofs.Marks.{marked-nothing}
use Rattle.label_set.proofs.labels.marks_of.Goals as goal
use Rattle.label_set.proofs.labels.marks_of.Goals.{then-metric, else-metric}

pub loop-name-init : goal.loop-name-init
loop-name-init c =
    let fresh = marked-nothing c.args.pairs.now c.requires in
    elim c.if-metric.branch [
      | then-metric w ↦ rw (w.marks-is, w.if-metric.true) (w.mark.ensures [] fresh)
      | else-metric w ↦ rw (w.marks-is, w.if-metric.false) fresh
    ]
