use Rattle.std.proofs.Common.{◌≡◌, true, false, sym, ◌∙◌, rules, append_assoc}
use Rattle.script_check.proofs.LabelTexts.{prints, skips}
use Rattle.script_check.proofs.label_pieces.behind_labels.Goals as goal

pub loop-place-preserved-then-is_metric : goal.loop-place-preserved-then-is_metric
loop-place-preserved-then-is_metric c tail is =
    let metric : c.is_metric.result ≡ true = search rules in
    let e = skips c.loop-place.started c.args.labels.now c.loop-place.place _ c.pair.ensures (sym c.is_metric.ensures ∙ metric) in
    c.loop-place.invariant tail (rw e is)

pub loop-place-preserved : goal.loop-place-preserved
loop-place-preserved c tail is =
    let other : c.is_metric.result ≡ false = search rules in
    let e = prints c.loop-place.started c.args.labels.now c.loop-place.place _ c.pair.ensures (sym c.is_metric.ensures ∙ other) in
    c.loop-place.invariant tail (rw (e, append_assoc, is) (sym c.in-Some.ensures))
