use Rattle.step_cells.proofs.CellsOrder.{cell_alike}
use Rattle.step_cells.proofs.laws.cells_ignore_order.Goals as goal

pub returns : goal.returns
returns c = cell_alike c.joined_sums_stand_for_both.ensures.joined c.sums_of_any_size.ensures.overflow c.lcm_is_least.ensures.multiple c.lcm_is_least.ensures.least c.numbers_are_lowest.ensures.number c.order_doesnt_matter.ensures
