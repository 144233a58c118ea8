use Rattle.parting_laws.proofs.Growing.{nothing_parted, one_takes, puts_parted}
use Rattle.parting_laws.proofs.Members.{members_part}
use Rattle.parting_laws.proofs.laws.puts_stay_parted.Goals as goal

pub returns-clause-one : goal.returns-clause-one
returns-clause-one c = one_takes

pub returns-clause-nothing : goal.returns-clause-nothing
returns-clause-nothing c = nothing_parted

pub returns-clause-puts : goal.returns-clause-puts
returns-clause-puts c = puts_parted

pub returns-clause-members : goal.returns-clause-members
returns-clause-members c = members_part
