use Rattle.std.proofs.Common.{sym, ◌∙◌}
use Rattle.script_check.proofs.LabelTexts.{nil_of_empty, none_at_none, none_where_empty}
use Rattle.script_check.proofs.label_pieces.metric_of.Goals as goal
use Rattle.script_check.proofs.label_pieces.metric_of.Goals.{then-len-eq0, else-len-eq0}

pub returns-then-is_empty : goal.returns-then-is_empty
returns-then-is_empty c = elim c.if-len-eq0.branch [
  | then-len-eq0 w ↦ none_at_none _ c.args.labels.now (sym c.len.ensures.len ∙ w.if-len-eq0.true)
  | else-len-eq0 w ↦
      let empty = nil_of_empty c.get-name.result.now (sym w.is_empty.ensures ∙ (sym w.value-is ∙ c.if-is_empty.true)) in
      none_where_empty _ c.args.labels.now c.len.ensures.label_set.filled (sym c.get-name.ensures ∙ empty)
]
