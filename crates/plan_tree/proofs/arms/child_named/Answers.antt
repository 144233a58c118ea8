use Rattle.std.proofs.Common.{◌≡◌, ◌∙◌, [], ◌∷◌, sym, ap, subst}
use Rattle.step_batch.specs.Lent.{Lent}
use Rattle.plan_tree.proofs.Runs.{own_memory, ran}
use Rattle.plan_tree.proofs.arms.child_named.Goals as goal

pub returns-clause-named : goal.returns-clause-named
returns-clause-named g c =
    ran c.name_all.result c.or_memory.result c.or_memory.ensures c.name_all.ensures (λ h. h ∙ c.labels.ensures.labels ∙ ap (λ (l : Lent). l.labels) c.lend_from.ensures)

pub returns-clause-memory : goal.returns-clause-memory
returns-clause-memory g c = own_memory c.name_all.result c.or_memory.result c.or_memory.ensures
