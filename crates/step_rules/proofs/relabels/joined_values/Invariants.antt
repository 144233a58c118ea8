use Rattle.std.proofs.Common.{◌≡◌, ◌++◌, drop, map}
use Rattle.std.specs.Prelude.{string_bytes}
use Rattle.label_set.specs.Labels.{value_of}
use Rattle.promql_meaning.specs.Relabels.{separated}
use Rattle.step_rules.proofs.Joined.{from}
use Rattle.step_rules.proofs.relabels.joined_values.Given as goal

abbrev pub invariant-loop-i : goal.invariant-loop-i
invariant-loop-i l = string_bytes l.text ++ from l.separator l.i (map (value_of l.labels) (drop l.i l.sources)) ≡ separated l.separator (map (value_of l.labels) l.sources)
