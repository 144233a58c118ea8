use Rattle.std.proofs.Common.{ap, sym, ◌∙◌}
use Rattle.std.proofs.lemmas.Result.{err_from_is_err_and}
use Rattle.script_read.specs.Series.{without_empty_end}
use Rattle.script_read.proofs.Parts.{part_refused, part_taken, parts_left}
use Rattle.script_read.proofs.series.put_parts.Goals as goal

pub returns-in_err-labels : goal.returns-in_err-labels
returns-in_err-labels c =
    let p = err_from_is_err_and c.from_residual.result c.from_residual.ensures.1 in
    let rest = c.cut_part.result.1 in
    let text = c.args.text.now in
    rw (p.1, p.2) (part_refused text c.loop-left.first c.loop-left.labels c.cut_part.result.0.now (without_empty_end (parts_left text rest)) _ _ c.in_err-labels.field-0.0 c.in_err-labels.ensures
    (ap (λ left. without_empty_end (parts_left text left)) c.in-Some.is ∙ part_taken text c.in-Some.tokens.now c.cut_part.result.0.now rest c.cut_part.ensures (sym c.is_empty_end.ensures ∙ c.if-is_empty_end.false))
    c.loop-left.invariant)
