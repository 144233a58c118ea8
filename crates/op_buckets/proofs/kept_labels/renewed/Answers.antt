use Rattle.std.proofs.Common.{◌≡◌, ◌∙◌, ◌+◌, ◌≤◌, ◌++◌, ◌∷◌, List, length, take, drop, sym, ap, subst}
use Rattle.step_table.specs.Groups.{Names}
use Rattle.op_buckets.proofs.Keeping.{mixed_next, mixed_reaches, read_counts, read_set, split_here}
use Rattle.op_buckets.proofs.kept_labels.renewed.Goals as goal

pub loop-i-preserved-then-has : goal.loop-i-preserved-then-has
loop-i-preserved-then-has c =
    let i = c.loop-i.i in
    let was = c.loop-i.invariant in
    let one = c.index-labels-i.result in
    let fed = c.loop-i.kept.fed.items in
    record {
      fed = mixed_next c.args.labels.now c.args.before.fed.items fed i one c.loop-i-test.true c.index-labels-i.is
          (split_here fed i one (c.has.ensures c.if-has.true) ∙ ap (λ (z : List Names). take i z ++ one ∷ drop (i + 1) z) was.fed);
      read = was.read;
    }

pub kept_at-requires : goal.kept_at-requires
kept_at-requires c =
    let was = c.loop-i.invariant in
    let kept = c.loop-i.kept in
    let counts = read_counts kept.fed.items kept.histograms.items kept.bounds.items was.read in
    record {
      histograms = counts.0;
      bounds = counts.1;
      next = subst (λ (z : List Names). c.loop-i.i ≤ length z) (sym was.fed) (mixed_reaches c.args.labels.now c.args.before.fed.items c.loop-i.i c.loop-i-test.true);
    }

pub loop-i-preserved : goal.loop-i-preserved
loop-i-preserved c =
    let i = c.loop-i.i in
    let was = c.loop-i.invariant in
    let one = c.index-labels-i.result in
    let copy = c.in_ok-copy.field-0 in
    let same : copy ≡ one = c.in_ok-copy.ensures in
    let fed = c.loop-i.kept.fed.items in
    let next : c.in_ok-kept.kept.fed.items ≡ take i fed ++ one ∷ drop (i + 1) fed = c.in_ok-kept.ensures.fed ∙ ap (λ (z : Names). take i fed ++ z ∷ drop (i + 1) fed) same in
    record {
      fed = mixed_next c.args.labels.now c.args.before.fed.items c.in_ok-kept.kept.fed.items i one c.loop-i-test.true c.index-labels-i.is (next ∙ ap (λ (z : List Names). take i z ++ one ∷ drop (i + 1) z) was.fed);
      read = read_set fed c.in_ok-kept.kept.fed.items c.loop-i.kept.histograms.items c.in_ok-kept.kept.histograms.items c.loop-i.kept.bounds.items c.in_ok-kept.kept.bounds.items i one c.in_ok-histogram.histogram c.bound_in_labels-bound.result
          next c.in_ok-kept.ensures.histograms c.in_ok-kept.ensures.bounds c.in_ok-histogram.ensures c.bound_in_labels-bound.ensures was.read;
    }
