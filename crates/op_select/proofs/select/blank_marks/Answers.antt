use Rattle.std.proofs.Common.{◌∙◌, ◌++◌, ◌∷◌, [], ◌+◌, ap}
use Rattle.std.specs.Prelude.{List}
use Rattle.series_marks.specs.Reads.{blank}
use Rattle.series_marks.specs.declared.mark.Mark.{Mark}
use Rattle.op_select.proofs.More.{blanks_more}
use Rattle.op_select.proofs.select.blank_marks.Goals as goal

pub loop-s-preserved : goal.loop-s-preserved
loop-s-preserved c = c.in_ok-push.ensures.ok ∙ ap (λ (ms : List Mark). ms ++ blank ∷ []) c.loop-s.invariant ∙ blanks_more c.args.series.now c.loop-s._s-index c.loop-s-test.true
