use Rattle.std.proofs.Common.{length, rules}
use Rattle.op_labels.specs.Rules.{AreMade, relabel_of}
use Rattle.op_labels.proofs.Keeping.{made_cut}
use Rattle.op_labels.proofs.kept_labels.KeptLabels.renew_by_windows.Goals as goal

pub renewed_by_windows-requires-clause-made : goal.renewed_by_windows-requires-clause-made
renewed_by_windows-requires-clause-made c =
    let before = c.replace-before.result in
    let cut = c.cut-kept.result in
    let rule = relabel_of c.args.change.now in
    let patterns = c.args.patterns.now in
    let at : AreMade patterns rule before.fed.items before.made.items before.fates.items = search rules in
    made_cut patterns rule before.fed.items cut.fed.items before.made.items cut.made.items before.fates.items cut.fates.items c.len.result c.cut-kept.ensures.fed c.cut-kept.ensures.made c.cut-kept.ensures.fates at
