use Rattle.opt_matchers.proofs.Orders.{orders_kept}
use Rattle.opt_matchers.proofs.ordering.sort.Goals as goal

pub returns-clause-means : goal.returns-clause-means
returns-clause-means c asked t = c.in_ok-q.ensures.means asked t (orders_kept asked c.args.patterns.now)
