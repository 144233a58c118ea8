use Rattle.ticks.proofs.read.+read_pairs.Given as goal

abbrev pub decreases-read_pairs : goal.decreases-read_pairs
decreases-read_pairs l = l.longest
