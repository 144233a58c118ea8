use Rattle.std.proofs.Common.{refl}
use Rattle.ticks.specs.Walks.{IsInstant}
use Rattle.plan_parts.proofs.Grown.{ok_then, instants_part}
use Rattle.plan_parts.proofs.Giving.{time_gives}
use Rattle.op_small.specs.declared.rule.SmallRule.TheVariants as small
use Rattle.plan_parts.proofs.kinds.time.Goals as goal

pub returns-clause-part : goal.returns-clause-part
returns-clause-part c = ok_then c.instants.result c.instants.ensures.made (λ part m asked walk requests p e. instants_part asked walk requests requests p part small.Time refl m refl (time_gives asked (IsInstant walk) p e))
