use Rattle.std.proofs.Common.{◌≡◌, ◌∙◌, [], ◌∷◌, sym, ap, subst}
use Rattle.step_batch.specs.Lent.{Lent, stages}
use Rattle.plan_tree.proofs.Runs.{own_memory, ran}
use Rattle.plan_tree.proofs.arms.once_fed.Goals as goal

pub repeat_all-requires-clause-named : goal.repeat_all-requires-clause-named
repeat_all-requires-clause-named g c = c.requires.named ∙ ap (λ (l : Lent). l.labels) (sym c.lend_from.ensures)

pub repeat_all-requires-clause-one : goal.repeat_all-requires-clause-one
repeat_all-requires-clause-one g c = (c.requires.one.0, ap (λ (l : Lent). stages l) c.lend_from.ensures ∙ c.requires.one.1)

pub returns-clause-named : goal.returns-clause-named
returns-clause-named g c =
    ran c.repeat_all.result c.or_memory.result c.or_memory.ensures c.repeat_all.ensures.named (λ h. h ∙ ap (λ (l : Lent). l.labels) c.lend_from.ensures)

pub returns-clause-lent : goal.returns-clause-lent
returns-clause-lent g c =
    ran c.repeat_all.result c.or_memory.result c.or_memory.ensures c.repeat_all.ensures.lent (λ e one h. e one (ap (λ (l : Lent). stages l) c.lend_from.ensures ∙ h))

pub returns-clause-memory : goal.returns-clause-memory
returns-clause-memory g c = own_memory c.repeat_all.result c.or_memory.result c.or_memory.ensures
