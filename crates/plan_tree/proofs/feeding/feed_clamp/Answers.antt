use Rattle.step_batch.specs.Lent.{stages}
use Rattle.plan_tree.proofs.Beside.{clamped}
use Rattle.plan_tree.proofs.Leaves.{on_ok}
use Rattle.plan_tree.proofs.feeding.feed_clamp.Goals as goal

pub returns-clause-lent : goal.returns-clause-lent
returns-clause-lent c = on_ok c.feed.result c.feed.ensures.lent (λ e f g h at rows low high.
    clamped c.args.kernel.now.rule f g h at (stages c.feed.new.self.lent) (stages c.args.rows.now) (stages c.args.low.now) (stages c.args.high.now) e rows low high)
