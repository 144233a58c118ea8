use Rattle.std.proofs.Common.{◌≡◌, ◌++◌, drop, map, true}
use Rattle.label_set.specs.LabelText.{quoted}
use Rattle.promql_print.specs.Labels.{parted}
use Rattle.plan_text.proofs.words.append_others.Given as goal

abbrev pub invariant-loop-string : goal.invariant-loop-string
invariant-loop-string l =
    l.into.items ++ parted true (map quoted (drop l.string-index l.string-items)) ≡ l.initial.into.items ++ parted true (map quoted l.string-items)
