use Rattle.op_gather.proofs.AsSets.{sets_made}
use Rattle.op_gather.proofs.joining.sets_of.Goals as goal

pub returns-clause-sets : goal.returns-clause-sets
returns-clause-sets c = sets_made c.args.marks c.in_ok-as_set.field-0 c.in_ok-as_set-2.field-0 c.in_ok-as_set.ensures c.in_ok-as_set-2.ensures
