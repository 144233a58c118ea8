use Rattle.step_cells.proofs.Reordered.{partials_ignore, rows_ignore, windows_ignore}
use Rattle.step_cells.proofs.Sound.{owed_sound}
use Rattle.step_cells.proofs.laws.engines_order_doesnt_matter.Goals as goal

pub returns-clause-rows : goal.returns-clause-rows
returns-clause-rows c = rows_ignore c.unions_are_sets.ensures.set c.unions_are_sets.ensures.marks c.unions_are_sets.ensures.notes

pub returns-clause-windows : goal.returns-clause-windows
returns-clause-windows c = windows_ignore c.unions_are_sets.ensures.set c.unions_are_sets.ensures.marks c.unions_are_sets.ensures.notes

pub returns-clause-partials : goal.returns-clause-partials
returns-clause-partials c =
    partials_ignore c.unions_are_sets.ensures.set c.unions_are_sets.ensures.marks c.unions_are_sets.ensures.notes
    c.joined_sums_stand_for_both.ensures.joined c.sums_of_any_size.ensures.overflow c.lcm_is_least.ensures.least c.order_of_any_size_doesnt_matter.ensures c.numbers_are_lowest.ensures.number

pub returns-clause-sound : goal.returns-clause-sound
returns-clause-sound c = owed_sound c.unions_are_sets.ensures.set
