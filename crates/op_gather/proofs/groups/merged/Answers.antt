use Rattle.std.proofs.Common.{◌≡◌, ◌∷◌, ◌+◌, arith, drop, subst, true}
use Rattle.std.proofs.lemmas.Grind.{common_steps}
use Rattle.std.specs.List.{AllByRecursion}
use Rattle.step_cells.specs.Joined.{merged_with, totals_in_cell}
use Rattle.step_table.specs.declared.cells.Cell.{Cell}
use Rattle.remote_api.specs.Strays.{is_sum_cell}
use Rattle.op_gather.proofs.Merging.{goes_on, room_left}
use Rattle.op_gather.proofs.groups.merged.Goals as goal

pub with_cell-sum-requires-clause-room : goal.with_cell-sum-requires-clause-room
with_cell-sum-requires-clause-room c = room_left c.loop-cell.cell-index c.loop-cell.sum (let few = c.requires.few in omega arith) c.loop-cell.invariant.few

pub with_cell-sum-requires-clause-counts : goal.with_cell-sum-requires-clause-counts
with_cell-sum-requires-clause-counts c =
    let i = c.loop-cell.cell-index in
    let cells = c.args.cells.now in
    let rest : drop i cells ≡ c.cell-item.result ∷ drop (i + 1) cells = grind (arith, common_steps, c.cell-item.is) in
    (subst (AllByRecursion (λ (z : Cell). is_sum_cell z ≡ true)) rest c.loop-cell.invariant.sums).0

pub loop-cell-preserved : goal.loop-cell-preserved
loop-cell-preserved c =
    let i = c.loop-cell.cell-index in
    let cells = c.args.cells.now in
    let rest : drop i cells ≡ c.cell-item.result ∷ drop (i + 1) cells = grind (arith, common_steps, c.cell-item.is) in
    record {
      merged = goes_on merged_with totals_in_cell (drop i cells) c.cell-item.result (drop (i + 1) cells) c.loop-cell.sum c.with_cell-sum.result _ rest c.loop-cell.invariant.merged c.with_cell-sum.ensures.merged;
      sums = (subst (AllByRecursion (λ (z : Cell). is_sum_cell z ≡ true)) rest c.loop-cell.invariant.sums).1;
      few = c.with_cell-sum.ensures.counted i c.loop-cell.invariant.few;
      some = λ _. c.with_cell-sum.ensures.some;
    }
