use Rattle.gather_tree_tests.proofs.turns.gives.Given as goal

abbrev pub ghosts-lends : goal.ghosts-lends
ghosts-lends g a = record { name = a.blank.name; parts = a.blank.parts }
