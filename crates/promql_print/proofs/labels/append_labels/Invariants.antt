use Rattle.std.proofs.Common.{◌≡◌, ◌++◌, drop, map}
use Rattle.promql_print.specs.Labels.{label_text, parted}
use Rattle.promql_print.proofs.labels.append_labels.Given as goal

abbrev pub invariant-loop-label : goal.invariant-loop-label
invariant-loop-label l =
    l.into.items ++ parted l.started (map label_text (drop l.label-index l.label-items))
    ≡ l.initial.into.items ++ parted l.initial.started (map label_text l.label-items)
