use Rattle.parting_laws.proofs.Constants.{constants_stay, selections_decide}
use Rattle.parting_laws.proofs.laws.selections_decide.Goals as goal

pub returns-clause-selections : goal.returns-clause-selections
returns-clause-selections c = selections_decide

pub returns-clause-constants : goal.returns-clause-constants
returns-clause-constants c = constants_stay
