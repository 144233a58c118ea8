use Rattle.gather_tree_tests.proofs.turns.gives.Goals as goal

pub lends-requires-clause-ready : goal.lends-requires-clause-ready
lends-requires-clause-ready g c = λ store kept. c.in_ok-tree.ensures store kept _ c.in_ok-begin_both.ensures
