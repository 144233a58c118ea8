use Rattle.std.proofs.Common.{◌∙◌, ap}
use Rattle.promql_meaning.specs.Relabels.{replaced_labels}
use Rattle.op_labels.specs.Rules.{remade, text_at}
use Rattle.op_labels.proofs.Keeping.{text_there}
use Rattle.op_labels.proofs.change.replaced.Goals as goal

pub returns-clause-made : goal.returns-clause-made
returns-clause-made c =
    let r = c.args.replacing.now in
    let kept = c.args.patterns.now in
    c.remade.ensures ∙ ap remade (c.in_ok-labels.ensures.labels (text_at kept r.pattern.0) (text_there kept r.pattern.0 c.requires) ∙ ap (replaced_labels r.target r.template r.source (text_at kept r.pattern.0)) c.in_ok-copy.ensures)
