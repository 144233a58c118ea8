use Rattle.std.proofs.Common.{◌≡◌, drop}
use Rattle.std.specs.List.{list_any}
use Rattle.script_check.specs.Verdicts.{is_bare}
use Rattle.script_check.proofs.noted.has_bare.Given as goal

abbrev pub invariant-loop-line : goal.invariant-loop-line
invariant-loop-line l = list_any is_bare (drop l.line-index l.lines) ≡ list_any is_bare l.lines
