use Rattle.parting_laws.proofs.Gathered.{all_rows_are_gathered, groups_are_gathered, rows_are_gathered, windows_are_gathered}
use Rattle.parting_laws.proofs.Unasked.{unasked_gives_nothing}
use Rattle.parting_laws.proofs.laws.engines_give_the_whole.Goals as goal

pub returns-clause-unasked : goal.returns-clause-unasked
returns-clause-unasked c = unasked_gives_nothing

pub returns-clause-rows : goal.returns-clause-rows
returns-clause-rows c = rows_are_gathered c.unions_are_sets.ensures.marks c.unions_are_sets.ensures.notes c.unions_are_sets.ensures.set c.meanings_are_well_formed.ensures

pub returns-clause-groups : goal.returns-clause-groups
returns-clause-groups c = groups_are_gathered c.unions_are_sets.ensures.marks c.unions_are_sets.ensures.notes c.unions_are_sets.ensures.set c.meanings_are_well_formed.ensures c.partials_agree.ensures.engines

pub returns-clause-windows : goal.returns-clause-windows
returns-clause-windows c = windows_are_gathered

pub returns-clause-all : goal.returns-clause-all
returns-clause-all c = all_rows_are_gathered c.unions_are_sets.ensures.marks c.unions_are_sets.ensures.notes c.unions_are_sets.ensures.set c.meanings_are_well_formed.ensures
