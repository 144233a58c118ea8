use Rattle.std.specs.BTreeMap.{is_at}
use Rattle.step_table.specs.OrderLaws.{mark_cmp_total, mark_cmp_ties, note_cmp_total, note_cmp_ties}
use Rattle.step_table.specs.Orders.{mark_cmp, note_cmp}
use Rattle.step_table.proofs.Ordered.{any_union}
use Rattle.step_table.proofs.WellFormedSteps.{united_sets}
use Rattle.step_table.proofs.laws.unions_are_sets.Goals as goal

pub returns-clause-set : goal.returns-clause-set
returns-clause-set c = united_sets

pub returns-clause-marks : goal.returns-clause-marks
returns-clause-marks c = λ a b mark. any_union mark_cmp_total mark_cmp_ties (is_at (mark_cmp mark)) a.fatal b.fatal

pub returns-clause-notes : goal.returns-clause-notes
returns-clause-notes c = λ a b note. any_union note_cmp_total note_cmp_ties (is_at (note_cmp note)) a.notes b.notes
