use Rattle.std.proofs.Common.{refl, subst, sym}
use Rattle.logical_plan.specs.declared.nodes.Plan.{Plan}
use Rattle.window_parts.specs.Engines.{IsGathered}
use Rattle.window_parts.proofs.Beneath.{below_filter, not_gathered}
use Rattle.window_parts.proofs.asked.+is_gathered.Goals as goal

pub returns-in-Gather : goal.returns-in-Gather
returns-in-Gather t c = let it = c.in-Gather in (λ h. IsGathered.itself c.args.p.now it.expr it.kind it.asked it.is, λ h. refl)

pub returns-in-Filter : goal.returns-in-Filter
returns-in-Filter t c =
    let p = c.args.p.now in
    let it = c.in-Filter in
    let below = c.is_gathered.ensures in (
      λ h. IsGathered.under p it.base it.rules it.is (subst IsGathered c.get.ensures (below.0 h)),
      λ g. below.1 (subst IsGathered (sym c.get.ensures) (below_filter it.base it.rules g it.is)),
    )

pub returns-in_default : goal.returns-in_default
returns-in_default t c = (λ h. absurd (cc), λ g. absurd (not_gathered g c.in_default.not-Gather c.in_default.not-Filter))
