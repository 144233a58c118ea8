use Rattle.std.proofs.Common.{◌≡◌, map, take}
use Rattle.label_set.specs.Labels.{labels_cmp}
use Rattle.step_table.specs.Matching.{signature_of}
use Rattle.step_table.specs.Unions.{set_of}
use Rattle.step_table.proofs.set_operators.signatures.Given as goal

abbrev pub invariant-loop-row : goal.invariant-loop-row
invariant-loop-row l = l.set.keys ≡ set_of labels_cmp (map (signature_of l.p) (take l.row-index l.rows))
