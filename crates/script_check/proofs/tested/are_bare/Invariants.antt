use Rattle.std.proofs.Common.{◌≡◌, drop}
use Rattle.std.specs.List.{list_all}
use Rattle.script_check.specs.Verdicts.{is_bare}
use Rattle.script_check.proofs.tested.are_bare.Given as goal

abbrev pub invariant-loop-line : goal.invariant-loop-line
invariant-loop-line l = list_all is_bare (drop l.line-index l.lines) ≡ list_all is_bare l.lines
