use Rattle.std.proofs.Common.{◌≡◌, take}
use Rattle.std.specs.List.{filter_map}
use Rattle.step_table.specs.OneSides.{match_in, read}
use Rattle.step_table.proofs.matching.matches.Given as goal

abbrev pub invariant-loop-row : goal.invariant-loop-row
invariant-loop-row l = l.pairs ≡ filter_map (match_in l.op l.p (read l.one_side.entries)) (take l.row-index l.many)
