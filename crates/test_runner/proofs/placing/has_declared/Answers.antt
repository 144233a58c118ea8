use Rattle.std.proofs.Common.{◌+◌, ◌∙◌, ◌&&◌, ap, drop, sym}
use Rattle.parting_laws.specs.Parted.{has_declared}
use Rattle.test_runner.proofs.Places.{declared_step}
use Rattle.test_runner.proofs.placing.has_declared.Goals as goal

pub returns-then-not-has_pair : goal.returns-then-not-has_pair
returns-then-not-has_pair c =
    let rest = has_declared (drop (c.loop-i.i + 1) c.args.declared.now) c.args.labels.now in
    let step = declared_step c.args.declared.now c.args.labels.now c.loop-i.i _ c.pair.ensures in
    sym (c.loop-i.invariant ∙ step ∙ ap (λ b. b && rest) (sym c.has_pair.ensures ∙ c.if-not-has_pair.true))

pub loop-i-preserved : goal.loop-i-preserved
loop-i-preserved c =
    let rest = has_declared (drop (c.loop-i.i + 1) c.args.declared.now) c.args.labels.now in
    let step = declared_step c.args.declared.now c.args.labels.now c.loop-i.i _ c.pair.ensures in
    c.loop-i.invariant ∙ step ∙ ap (λ b. b && rest) (sym c.has_pair.ensures ∙ c.if-not-has_pair.false)
