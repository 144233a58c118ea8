use Rattle.std.proofs.Common.{◌≡◌, take}
use Rattle.std.specs.Prelude.{filter}
use Rattle.step_table.specs.Sets.{is_wanted}
use Rattle.step_table.proofs.set_operators.wanted_rows.Given as goal

abbrev pub invariant-loop-row : goal.invariant-loop-row
invariant-loop-row l = l.out ≡ filter (is_wanted l.p l.signatures.keys l.on) (take l.row-index l.rows)
