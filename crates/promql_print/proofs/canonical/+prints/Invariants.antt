use Rattle.std.proofs.Common.{◌≡◌, ◌++◌, drop, map}
use Rattle.promql_print.specs.Canonical.{canonical}
use Rattle.promql_print.specs.Labels.{parted}
use Rattle.promql_print.proofs.canonical.+prints.Given as goal

abbrev pub invariant-append_arguments-loop-argument : goal.invariant-append_arguments-loop-argument
invariant-append_arguments-loop-argument l =
    l.into.items ++ parted l.started (map (canonical l.patterns) (drop l.argument-index l.argument-items))
    ≡ l.initial.into.items ++ parted l.initial.started (map (canonical l.patterns) l.argument-items)
