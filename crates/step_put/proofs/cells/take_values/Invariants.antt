use Rattle.std.proofs.Common.{◌≡◌, length, take}
use Rattle.step_put.specs.Clashes.{cells_of}
use Rattle.step_put.specs.Placed.{marks_made, marks_of_faults, slots_made}
use Rattle.step_table.specs.Orders.{mark_cmp}
use Rattle.step_table.specs.Unions.{set_of}
use Rattle.step_put.proofs.cells.take_values.Given as goal

abbrev pub invariant-loop-row : goal.invariant-loop-row
invariant-loop-row l = record {
  cells : l.cells.items ≡ cells_of (length l.fn.cells.items) (slots_made l.places (take l.row-index l.placed));
  faults : marks_of_faults l.faults ≡ set_of mark_cmp (marks_made (take l.row-index l.placed));
}
