use Rattle.query_tests.proofs.compared.meaning_of.Given as goal

abbrev pub ghosts-meant : goal.ghosts-meant
ghosts-meant a = record { name = a.blank.name; parts = a.blank.parts }
