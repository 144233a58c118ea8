use Rattle.std.proofs.Common.{◌≡◌, map, take}
use Rattle.step_table.specs.Matching.{by_signature}
use Rattle.step_table.proofs.matching.with_signatures.Given as goal

abbrev pub invariant-loop-row : goal.invariant-loop-row
invariant-loop-row l = map (λ pair. (pair.0, pair.1.now)) l.pairs ≡ by_signature l.p (take l.row-index l.rows)
