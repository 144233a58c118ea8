use Rattle.std.proofs.Common.{length, rules}
use Rattle.op_buckets.specs.Histograms.{AreRead}
use Rattle.op_buckets.proofs.Keeping.{read_cut}
use Rattle.op_buckets.proofs.kept_labels.KeptLabels.renew.Goals as goal

pub renewed-requires-clause-read : goal.renewed-requires-clause-read
renewed-requires-clause-read c =
    let before = c.replace-before.result in
    let cut = c.cut-kept.result in
    let at : AreRead before.fed.items before.histograms.items before.bounds.items = search rules in
    read_cut before.fed.items cut.fed.items before.histograms.items cut.histograms.items before.bounds.items cut.bounds.items (length c.args.labels.now) c.cut-kept.ensures.fed c.cut-kept.ensures.histograms c.cut-kept.ensures.bounds at
