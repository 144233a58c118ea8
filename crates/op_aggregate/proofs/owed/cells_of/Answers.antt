use Rattle.std.proofs.Common.{◌≡◌, ◌∙◌, ◌<◌, ◌++◌, ◌∷◌, [], ℕ, zero, suc, List, arith, get_or, length, refl, sym}
use Rattle.std.specs.Option.{option_map, option_to_list}
use Rattle.step_table.specs.declared.cells.Cell.{Cell}
use Rattle.op_aggregate.specs.OwedCells.{placed_cell}
use Rattle.op_aggregate.proofs.OneByOne.{chosen_next}
use Rattle.op_aggregate.proofs.owed.cells_of.Goals as goal

-- what is read at a place stands there, whatever stands for a missing one
same : (xs : List ℕ) (i p : ℕ) → i < length xs → p ≡ get_or xs i 0 → p ≡ get_or xs i p
same [] i p l e = absurd (omega arith)
same (x ∷ xs) zero p l e = e
same (x ∷ xs) (suc i) p l e = same xs i p (omega arith) e

pub loop-place-preserved : goal.loop-place-preserved
loop-place-preserved c =
    let all = c.args.groups.now.all.items in
    let places = c.as_slice-place-items.result.now in
    let n = c.loop-place.place-index in
    let p = get_or places n 0 in
    c.in_ok-push_cell.ensures
    ∙ (λ i. c.loop-place.invariant i ++ option_to_list (option_map (λ (x : Cell). record { place = p; cell = x }) (c.cell_at-cell.ensures i)))
    ∙ sym (chosen_next (placed_cell all) places n p c.loop-place-test.true (same places n p c.loop-place-test.true refl))
