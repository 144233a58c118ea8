use Rattle.std.proofs.Common.{rules}
use Rattle.gather_tree_tests.proofs.Loading.{not_refused}
use Rattle.gather_tree_tests.proofs.samples.put.Goals as goal

pub returns-in-Ok-clause-taken : goal.returns-in-Ok-clause-taken
returns-in-Ok-clause-taken c = not_refused _ c.append.result _ (search rules) c.append.ensures.refused
