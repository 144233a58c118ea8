use Rattle.op_set.proofs.combined.Combined.new.Goals as goal

pub invariant_of-result : goal.invariant_of-result
invariant_of-result c = c.in_ok-new.ensures.named c.new-4.result.labels
