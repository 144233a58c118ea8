use Rattle.engine_tests.proofs.gathers.next_of.Goals as goal

pub returns : goal.returns
returns c = record { instant = c.after.ensures.instant; later = c.after.ensures.later; least = c.after.ensures.least; none = c.after.ensures.none }
