use Rattle.std.proofs.Common.{◌∙◌, ap, sym}
use Rattle.plan_serving.specs.Asking.{is_rising}
use Rattle.plan_parts.proofs.Rising.{falls, one_rises, rise, rises_on}
use Rattle.plan_parts.proofs.asking.are_rising.Goals as goal

pub loop-rest-preserved : goal.loop-rest-preserved
loop-rest-preserved c = ap is_rising c.split_at.ensures.back ∙ rises_on c.loop-rest.rest.now c.loop-rest-test.true c.if-next-first.false ∙ c.loop-rest.invariant

pub returns-then-next-first-clause-told : goal.returns-then-next-first-clause-told
returns-then-next-first-clause-told c = sym (falls c.loop-rest.rest.now c.loop-rest-test.true c.if-next-first.true) ∙ c.loop-rest.invariant

pub returns-clause-told : goal.returns-clause-told
returns-clause-told c = sym (one_rises c.loop-rest.rest.now c.loop-rest-test.false) ∙ c.loop-rest.invariant

pub returns-clause-rising : goal.returns-clause-rising
returns-clause-rising c = λ h. rise c.args.numbers.now (sym c.loop-rest.invariant ∙ one_rises c.loop-rest.rest.now c.loop-rest-test.false)
