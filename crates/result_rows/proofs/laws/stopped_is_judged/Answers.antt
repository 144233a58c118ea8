use Rattle.std.proofs.Common.{◌++◌, ap, sym}
use Rattle.std.specs.Option.{unwrap_or}
use Rattle.promql_meaning.specs.declared.answer.Outcome.TheVariants as outcome
use Rattle.promql_meaning.specs.Results.{answer_of}
use Rattle.result_rows.proofs.Taking.{stop_stays}
use Rattle.result_rows.proofs.laws.stopped_is_judged.Goals as goal

pub returns : goal.returns
returns c = λ instant e steps behind o h. sym (ap (λ r. unwrap_or r (outcome.Answer (answer_of instant e (steps ++ behind)))) (stop_stays 0 steps behind o h))
