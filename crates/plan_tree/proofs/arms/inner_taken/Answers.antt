use Rattle.std.proofs.Common.{◌≡◌, ◌∙◌, [], ◌∷◌, sym, ap, subst}
use Rattle.step_batch.specs.Lent.{Lent}
use Rattle.subquery_rows.specs.Rings.{IsNextStep}
use Rattle.plan_tree.proofs.Runs.{own_memory, ran}
use Rattle.plan_tree.proofs.arms.inner_taken.Goals as goal

pub take-requires : goal.take-requires
take-requires g c =
    let n = c.requires.next in
    (n.0, n.1, n.2, n.3, subst (λ (l : Lent). IsNextStep c.args.kernel.now n.0 n.1 n.2 n.3 l) (sym c.lend_from.ensures) n.4)

pub returns-clause-last : goal.returns-clause-last
returns-clause-last g c =
    ran c.take.result c.or_memory.result c.or_memory.ensures c.take.ensures.last (λ h. h)

pub returns-clause-fewer : goal.returns-clause-fewer
returns-clause-fewer g c =
    ran c.take.result c.or_memory.result c.or_memory.ensures c.take.ensures.fewer (λ h. h)

pub returns-clause-stands : goal.returns-clause-stands
returns-clause-stands g c =
    ran c.take.result c.or_memory.result c.or_memory.ensures c.take.ensures.stands (λ e outer f last at n. e outer f last at (subst (λ (l : Lent). IsNextStep c.args.kernel.now outer f last at l) (sym c.lend_from.ensures) n))

pub returns-clause-memory : goal.returns-clause-memory
returns-clause-memory g c = own_memory c.take.result c.or_memory.result c.or_memory.ensures
