use Rattle.std.proofs.Common.{◌+◌, ◌&&◌, ap, sym, ◌∙◌, drop}
use Rattle.label_set.specs.LabelEquality.{labels_eq}
use Rattle.label_set.proofs.PairSteps.{eq_step}
use Rattle.label_set.proofs.pairs.Pairs.is_equal.Goals as goal

pub returns-then-not-same : goal.returns-then-not-same
returns-then-not-same c =
    let rest = labels_eq (drop (c.loop-i.i + 1) c.args.self.now) (drop (c.loop-i.i + 1) c.args.other.now) in
    let step = eq_step c.args.self.now c.args.other.now c.loop-i.i _ _ c.pair.ensures c.pair-in-loop-i.ensures in
    sym (c.loop-i.invariant ∙ step ∙ ap (λ b. b && rest) (sym c.eq-same.ensures ∙ c.if-not-same.true))

pub loop-i-preserved : goal.loop-i-preserved
loop-i-preserved c =
    let rest = labels_eq (drop (c.loop-i.i + 1) c.args.self.now) (drop (c.loop-i.i + 1) c.args.other.now) in
    let step = eq_step c.args.self.now c.args.other.now c.loop-i.i _ _ c.pair.ensures c.pair-in-loop-i.ensures in
    c.loop-i.invariant ∙ step ∙ ap (λ b. b && rest) (sym c.eq-same.ensures ∙ c.if-not-same.false)
