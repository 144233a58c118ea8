use Rattle.std.proofs.Common.{◌≡◌, ◌++◌, drop}
use Rattle.std.specs.List.{filter_map}
use Rattle.promql_meaning.specs.Buckets.{bound_note}
use Rattle.step_rules.proofs.buckets.bound_notes.Given as goal

abbrev pub invariant-loop-row : goal.invariant-loop-row
invariant-loop-row l = l.notes ++ filter_map bound_note (drop l.row-index l.rows) ≡ filter_map bound_note l.rows
