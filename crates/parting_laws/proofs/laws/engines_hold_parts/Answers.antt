use Rattle.parting_laws.proofs.Held.{engines_hold, engines_ignore, no_engine}
use Rattle.parting_laws.proofs.laws.engines_hold_parts.Goals as goal

pub returns-clause-held : goal.returns-clause-held
returns-clause-held c = engines_hold

pub returns-clause-names : goal.returns-clause-names
returns-clause-names c = engines_ignore

pub returns-clause-none : goal.returns-clause-none
returns-clause-none c = no_engine
