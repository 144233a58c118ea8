use Rattle.work_rows.proofs.Costs.{slides}
use Rattle.work_rows.specs.Rows.{x}
use Rattle.work_rows.specs.Samples.{asked_to, instant, minutes, one_series, up_to}
use Rattle.work_rows.proofs.laws.sliding_sums_fetch_each_sample_once.Goals as goal

pub returns : goal.returns
returns c = λ value. slides (asked_to 60 (one_series value 61)) x instant (minutes 10) (up_to 60 1)
