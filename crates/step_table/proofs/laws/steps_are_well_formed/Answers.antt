use Rattle.std.specs.List.{filter_map}
use Rattle.step_table.specs.Outcomes.{mark_of}
use Rattle.step_table.proofs.WellFormedSteps.{settled_well, with_fatal_sets, taken_table, paired_well, combined_well}
use Rattle.step_table.proofs.laws.steps_are_well_formed.Goals as goal

pub returns-clause-settled : goal.returns-clause-settled
returns-clause-settled c = settled_well

pub returns-clause-taken : goal.returns-clause-taken
returns-clause-taken c = λ marks outcomes s. with_fatal_sets marks (filter_map mark_of outcomes) s

pub returns-clause-table : goal.returns-clause-table
returns-clause-table c = λ marks outcomes s. taken_table outcomes s

pub returns-clause-paired : goal.returns-clause-paired
returns-clause-paired c = paired_well

pub returns-clause-combined : goal.returns-clause-combined
returns-clause-combined c = combined_well
