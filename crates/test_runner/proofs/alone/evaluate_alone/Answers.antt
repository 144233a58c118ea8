use Rattle.test_runner.proofs.alone.evaluate_alone.Goals as goal

pub returns-in-Ok-clause-bounded : goal.returns-in-Ok-clause-bounded
returns-in-Ok-clause-bounded g c = c.evaluate.ensures.bounded c.new-declared.ensures

pub returns-clause-bounded : goal.returns-clause-bounded
returns-clause-bounded g c = c.evaluate.ensures.bounded c.new-declared.ensures
