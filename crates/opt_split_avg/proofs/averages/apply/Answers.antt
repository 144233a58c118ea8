use Rattle.opt_split_avg.proofs.Ratios.{average_kept}
use Rattle.opt_split_avg.proofs.averages.apply.Goals as goal

pub returns-clause-means : goal.returns-clause-means
returns-clause-means c asked t = c.in_ok-q.ensures.means asked t (average_kept asked)
