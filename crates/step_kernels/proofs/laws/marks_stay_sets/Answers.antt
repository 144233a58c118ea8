use Rattle.step_kernels.proofs.MarkSets.{binaries_keep_sets, element_sets, points_sets, unaries_keep_sets, windowed_sets}
use Rattle.step_kernels.proofs.laws.marks_stay_sets.Goals as goal

pub returns : goal.returns
returns c =
    let law = c.unions_are_sets.ensures.set in
    record { unary = unaries_keep_sets law; binary = binaries_keep_sets law; elements = element_sets law; windows = windowed_sets law; points = points_sets law }
