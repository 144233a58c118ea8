use Rattle.std.proofs.Common.{◌≡◌, ◌+◌, length, ap, sym, ◌∙◌, drop, rules, arith}
use Rattle.std.specs.Ordering.{nat_cmp, ord_min, ordering_then}
use Rattle.label_set.specs.Labels.{labels_cmp}
use Rattle.label_set.proofs.PairSteps.{cmp_end, cmp_step, then_decided, then_tied}
use Rattle.label_set.proofs.pairs.Pairs.compare.Goals as goal

pub returns-then-is_ne : goal.returns-then-is_ne
returns-then-is_ne c =
    let rest = labels_cmp (drop (c.loop-i.i + 1) c.args.self.now) (drop (c.loop-i.i + 1) c.args.other.now) in
    let step = cmp_step c.args.self.now c.args.other.now c.loop-i.i _ _ c.pair.ensures c.pair-in-loop-i.ensures in
    sym (c.loop-i.invariant ∙ step ∙ ap (λ o. ordering_then o rest) (sym c.cmp-order.ensures) ∙ then_decided c.cmp-order.result rest (sym c.is_ne.ensures ∙ c.if-is_ne.true))

pub loop-i-preserved : goal.loop-i-preserved
loop-i-preserved c =
    let rest = labels_cmp (drop (c.loop-i.i + 1) c.args.self.now) (drop (c.loop-i.i + 1) c.args.other.now) in
    let step = cmp_step c.args.self.now c.args.other.now c.loop-i.i _ _ c.pair.ensures c.pair-in-loop-i.ensures in
    c.loop-i.invariant ∙ step ∙ ap (λ o. ordering_then o rest) (sym c.cmp-order.ensures) ∙ then_tied c.cmp-order.result rest (sym c.is_ne.ensures ∙ c.if-is_ne.false)

pub returns : goal.returns
returns c =
    let ps = c.args.self.now in
    let qs = c.args.other.now in
    let end : c.loop-i.i ≡ c.min-both.result = omega arith in
    let least : c.min-both.result ≡ ord_min nat_cmp (length ps) (length qs) = search rules in
    let last : c.cmp.result ≡ nat_cmp (length ps) (length qs) = search rules in
    last ∙ sym (c.loop-i.invariant ∙ cmp_end ps qs c.loop-i.i c.min-both.result end least)
