use Rattle.std.proofs.Common.{sym, ◌∙◌}
use Rattle.script_read.specs.Reading.{series_worded}
use Rattle.script_read.proofs.Bodies.{series_more, series_said}
use Rattle.script_read.proofs.reader.series_lines.Goals as goal

pub loop-line-preserved : goal.loop-line-preserved
loop-line-preserved c =
    let line = c.line-item.result in
    rw c.in_ok-push.ensures.ok (sym (series_more c.args.body.now c.loop-line.line-index line c.loop-line-test.true c.line-item.is c.loop-line.lines c.in_ok-at_line.field-0
    (series_said line.number c.series_in.result (series_worded line.number line.text.now) c.in_ok-at_line.field-0 (sym c.in_ok-at_line.ensures) c.series_in.ensures)) ∙ c.loop-line.invariant)
