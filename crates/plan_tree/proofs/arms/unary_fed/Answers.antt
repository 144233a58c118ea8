use Rattle.std.proofs.Common.{◌≡◌, ◌∙◌, [], ◌∷◌, sym, ap, subst}
use Rattle.step_batch.specs.Lent.{Lent, stages}
use Rattle.plan_tree.proofs.Runs.{own_memory, ran}
use Rattle.plan_tree.proofs.arms.unary_fed.Goals as goal

pub returns-clause-lent : goal.returns-clause-lent
returns-clause-lent g c =
    ran c.feed_unary.result c.or_memory.result c.or_memory.ensures c.feed_unary.ensures.lent (λ e f at h. e f at (ap (λ (l : Lent). stages l) c.lend_from.ensures ∙ h))

pub returns-clause-memory : goal.returns-clause-memory
returns-clause-memory g c = own_memory c.feed_unary.result c.or_memory.result c.or_memory.ensures
