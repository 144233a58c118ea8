use Rattle.std.proofs.Common.{rules}
use Rattle.written_engines.proofs.Loading.{not_refused}
use Rattle.written_engines.proofs.samples.put.Goals as goal

pub returns-in-Ok-clause-taken : goal.returns-in-Ok-clause-taken
returns-in-Ok-clause-taken c = not_refused _ c.append.result _ (search rules) c.append.ensures.refused
