use Rattle.parting_laws.proofs.Selectors.{selected_part, stamps_part, windows_part}
use Rattle.parting_laws.proofs.laws.selectors_are_parted.Goals as goal

pub returns-clause-rows : goal.returns-clause-rows
returns-clause-rows c = selected_part

pub returns-clause-times : goal.returns-clause-times
returns-clause-times c = stamps_part

pub returns-clause-windows : goal.returns-clause-windows
returns-clause-windows c = windows_part
