use Rattle.std.proofs.Common.{rules}
use Rattle.plan_tree.proofs.Runs.{fed_where, run_as}
use Rattle.plan_tree.proofs.outside.feed_over.Goals as goal

-- the outside keeps its references, so that they end as what it leaves
pub returns-clause-fed : goal.returns-clause-fed
returns-clause-fed g c = fed_where c.feed.result _ _ _ _ _ _ c.feed.new.outside.exchange.now c.exchange-1.given.0 _ _ _ _ (search rules) (search rules) c.feed.ensures.fed

pub returns-clause-run : goal.returns-clause-run
returns-clause-run g c = run_as c.feed.result _ _ _ (search rules) c.feed.ensures.run
