use Rattle.engine_tests.proofs.gathers.first_of.Goals as goal

pub returns : goal.returns
returns c = record { instant = c.first.ensures.instant; least = c.first.ensures.least; none = c.first.ensures.none }
