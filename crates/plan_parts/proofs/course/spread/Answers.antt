use Rattle.std.proofs.Common.{rules}
use Rattle.plan_parts.proofs.course.spread.Goals as goal

pub returns-clause-spread : goal.returns-clause-spread
returns-clause-spread c = record { forward = search rules; begins = search rules; ends = search rules; early = search rules; late = search rules }
