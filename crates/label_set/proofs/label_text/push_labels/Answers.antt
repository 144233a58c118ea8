use Rattle.std.proofs.Common.{◌≡◌, true, false, sym, ◌∙◌, rules, append_assoc}
use Rattle.label_set.proofs.Texts.{prints, skips}
use Rattle.label_set.proofs.label_text.push_labels.Goals as goal

pub loop-place-preserved-then-is_metric : goal.loop-place-preserved-then-is_metric
loop-place-preserved-then-is_metric c =
    let metric : c.is_metric.result ≡ true = search rules in
    let e = skips c.loop-place.started c.args.pairs.now c.loop-place.place _ c.pair.ensures (sym c.is_metric.ensures ∙ metric) in
    rw (← e) c.loop-place.invariant

pub loop-place-preserved : goal.loop-place-preserved
loop-place-preserved c =
    let other : c.is_metric.result ≡ false = search rules in
    let e = prints c.loop-place.started c.args.pairs.now c.loop-place.place _ c.pair.ensures (sym c.is_metric.ensures ∙ other) in
    rw (c.in_ok-push_label.ensures, append_assoc, ← e) c.loop-place.invariant
