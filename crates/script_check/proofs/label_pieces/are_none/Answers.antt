use Rattle.std.proofs.Common.{[], ◌∷◌, sym, ◌∙◌}
use Rattle.label_set.specs.Labels.{metric_name, without}
use Rattle.script_check.proofs.LabelTexts.{nil_of_empty, nothing_of}
use Rattle.script_check.proofs.label_pieces.are_none.Goals as goal

pub returns-in-Some-clause-labels : goal.returns-in-Some-clause-labels
returns-in-Some-clause-labels c empty =
    let none = nil_of_empty c.args.text.now (sym c.is_empty.ensures ∙ empty) in
    nothing_of (without (metric_name ∷ []) c.args.labels.now) c.in-Some.field-0.now (sym none ∙ c.in-Some.ensures)
