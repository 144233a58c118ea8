use Rattle.std.proofs.Common.{◌≡◌, ◌++◌, ◌∷◌, [], drop, map}
use Rattle.label_set.specs.Labels.{metric_name, without}
use Rattle.label_set.specs.LabelText.{comma_list, label_text}
use Rattle.label_set.proofs.label_text.push_labels.Given as goal

abbrev pub invariant-loop-place : goal.invariant-loop-place
invariant-loop-place l =
    l.out.items ++ comma_list l.started (map label_text (without (metric_name ∷ []) (drop l.place l.pairs)))
    ≡ l.initial.out.items ++ comma_list l.initial.started (map label_text (without (metric_name ∷ []) l.pairs))
