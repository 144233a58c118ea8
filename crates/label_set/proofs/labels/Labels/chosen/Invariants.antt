use Rattle.std.proofs.Common.{◌≡◌, take, filter}
use Rattle.label_set.specs.Labels.{is_chosen, with_metric}
use Rattle.label_set.proofs.labels.Labels.chosen.Given as goal

abbrev pub invariant-loop-place : goal.invariant-loop-place
invariant-loop-place l = l.pairs ≡ filter (λ p. is_chosen l.listed (with_metric l.metric l.names) p.0) (take l.place l.self-inside.pairs)
