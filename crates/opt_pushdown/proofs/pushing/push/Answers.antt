use Rattle.opt_pushdown.proofs.Pushed.{pushed_kept}
use Rattle.opt_pushdown.proofs.pushing.push.Goals as goal

pub returns-clause-means : goal.returns-clause-means
returns-clause-means c asked t = c.in_ok-q.ensures.means asked t (pushed_kept c.more_rules_filter.ensures.rows c.more_rules_filter.ensures.windows asked)
