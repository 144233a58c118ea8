use Rattle.remote_api.proofs.Distinct.{rising_distinct}
use Rattle.remote_api.proofs.checking.are_distinct.Goals as goal

pub returns-then-are_rising : goal.returns-then-are_rising
returns-then-are_rising c = rising_distinct c.args.rows.now (c.are_rising.ensures c.if-are_rising.true)
