use Rattle.std.specs.Prelude.{[], ◌∷◌, codes}
use Rattle.work_rows.proofs.Costs.{pairs}
use Rattle.work_rows.specs.Rows.{ten_of_each}
use Rattle.work_rows.specs.Samples.{asked_to, has_number, instant, is_metric, up_to}
use Rattle.work_rows.proofs.laws.unmatched_rules_fetch_eleven.Goals as goal

pub returns : goal.returns
returns c = λ value op pairing. pairs (asked_to 0 (ten_of_each value)) op pairing (is_metric (codes "a") ∷ has_number 1 ∷ []) (is_metric (codes "b") ∷ []) instant (up_to 0 1)
