use Rattle.engine_local.proofs.pulling.next_steps.Given as goal

abbrev pub ghosts-steps_from : goal.ghosts-steps_from
ghosts-steps_from a = record { name = a.blank.name; parts = a.blank.parts }
