use Rattle.engine_tests.proofs.runs.told_of.Goals as goal

pub told-requires : goal.told-requires
told-requires g c = c.in_ok-exchange.ensures
