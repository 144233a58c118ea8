use Rattle.store_tests.proofs.stores.lines_hold.Given as goal

abbrev pub ghosts-call : goal.ghosts-call
ghosts-call a = record { name = a.blank.name; parts = a.blank.parts }
