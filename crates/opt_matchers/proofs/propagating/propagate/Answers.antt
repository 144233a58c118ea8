use Rattle.opt_matchers.proofs.Handed.{rules_handed}
use Rattle.opt_matchers.proofs.propagating.propagate.Goals as goal

pub returns-clause-means : goal.returns-clause-means
returns-clause-means c asked t sets = c.in_ok-q.ensures.means asked t (rules_handed asked c.more_rules_filter.ensures.rows sets)
