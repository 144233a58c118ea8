use Rattle.std.proofs.Common.{◌∙◌, ap}
use Rattle.std.specs.Prelude.{ℕ, map}
use Rattle.series_marks.specs.Reads.{blank}
use Rattle.op_select.proofs.select.Select.new.Goals as goal

pub returns-clause-marks : goal.returns-clause-marks
returns-clause-marks c = λ store. c.in_ok-marks.ensures ∙ ap (map (λ (s : ℕ). blank)) c.as_slice.ensures
