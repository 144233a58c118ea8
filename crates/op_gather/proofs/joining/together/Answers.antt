use Rattle.std.proofs.Common.{◌++◌, List, ap, map, subst, sym}
use Rattle.std.specs.Vec.Iter.{into_iter_items}
use Rattle.promql_meaning.specs.Givens.{no_marks}
use Rattle.step_cells.specs.Joined.{all_cells, marks_with}
use Rattle.step_table.specs.WellFormed.{AreSets}
use Rattle.step_table.specs.declared.cells.CellRow.{CellRow}
use Rattle.step_table.specs.declared.marks.Marks.{Marks}
use Rattle.op_gather.specs.Joins.{with_sets}
use Rattle.op_gather.proofs.AsSets.{sets_are}
use Rattle.op_gather.proofs.joining.together.Goals as goal

pub loop-step-init : goal.loop-step-init
loop-step-init c =
    let steps = map with_sets (into_iter_items c.into_iter-step-iterator.result) in
    record {
      cells = ap (λ (cells : List CellRow). cells ++ all_cells steps) c.new-cells.ensures;
      marks = ap (λ (marks : Marks). marks_with marks steps) c.no_marks-marks.ensures;
      sets = subst AreSets (sym c.no_marks-marks.ensures) (sets_are no_marks);
    }
