use Rattle.std.proofs.Common.{◌+◌, ◌∙◌, ◌&&◌, ap, drop, sym}
use Rattle.tool_words.specs.Engines.{have_same_names}
use Rattle.tool_words.proofs.Declaring.{same_step}
use Rattle.tool_words.proofs.engines.have_same_names.Goals as goal

pub returns-then-not-same : goal.returns-then-not-same
returns-then-not-same c =
    let rest = have_same_names (drop (c.loop-i.i + 1) c.args.labels.now) (drop (c.loop-i.i + 1) c.args.others.now) in
    let step = same_step c.args.labels.now c.args.others.now c.loop-i.i _ _ c.pair.ensures c.pair-in-loop-i.ensures in
    sym (c.loop-i.invariant ∙ step ∙ ap (λ b. b && rest) (sym c.eq-same.ensures ∙ c.if-not-same.true))

pub loop-i-preserved : goal.loop-i-preserved
loop-i-preserved c =
    let rest = have_same_names (drop (c.loop-i.i + 1) c.args.labels.now) (drop (c.loop-i.i + 1) c.args.others.now) in
    let step = same_step c.args.labels.now c.args.others.now c.loop-i.i _ _ c.pair.ensures c.pair-in-loop-i.ensures in
    c.loop-i.invariant ∙ step ∙ ap (λ b. b && rest) (sym c.eq-same.ensures ∙ c.if-not-same.false)
