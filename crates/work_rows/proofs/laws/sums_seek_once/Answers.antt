use Rattle.work_rows.proofs.Costs.{sums}
use Rattle.work_rows.specs.Rows.{x}
use Rattle.work_rows.specs.Samples.{asked_to, instant, one_series, up_to}
use Rattle.work_rows.proofs.laws.sums_seek_once.Goals as goal

pub returns : goal.returns
returns c = λ value. sums (asked_to 61 (one_series value 61)) x instant (up_to 61 7)
