use Rattle.std.proofs.Common.{length}
use Rattle.std.specs.List.{AllByRecursion}
use Rattle.script_check.specs.Noted.{IsWantedIf}
use Rattle.script_check.proofs.noted.all_wanted.Given as goal

abbrev pub invariant-loop-rest : goal.invariant-loop-rest
invariant-loop-rest l = AllByRecursion (IsWantedIf l.warnings l.lines) l.rest → AllByRecursion (IsWantedIf l.warnings l.lines) l.notes

abbrev pub decreases-loop-rest : goal.decreases-loop-rest
decreases-loop-rest l = length l.rest
