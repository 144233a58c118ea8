use Rattle.std.proofs.Common.{◌∙◌, rules}
use Rattle.std.proofs.lemmas.Fn.{filter_same}
use Rattle.result_rows.proofs.Risen.{has_points}
use Rattle.result_rows.proofs.series.with_points.Goals as goal

pub returns : goal.returns
returns c = c.from_vec.ensures ∙ filter_same _ has_points _ (λ one b f' t. search rules) _ _ c.retain.ensures.filtered
