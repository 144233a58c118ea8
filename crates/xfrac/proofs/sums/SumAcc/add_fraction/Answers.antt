use Rattle.std.proofs.Common.{◌≡◌, sym, subst, ap, ◌∙◌, OnOk}
use Rattle.xfrac.specs.Sums.{fits}
use Rattle.xfrac.proofs.Adding.{joined_split}
use Rattle.xfrac.proofs.sums.SumAcc.add_fraction.Goals as goal

pub returns-then-k-d-clause-told : goal.returns-then-k-d-clause-told
returns-then-k-d-clause-told c =
    c.add_part.ensures.told ∙ ap fits (sym (joined_split c.args.self.now _ _ _ _ _ _ (ap (λ t. t.multiple) (sym c.self.view_is)) c.self.invariant.positive c.split-negative.ensures.value c.split-negative.ensures.reduced.positive c.if-k-d.true))

pub returns-then-k-d-clause-total : goal.returns-then-k-d-clause-total
returns-then-k-d-clause-total c =
    subst (λ t. OnOk c.add_part.result (c.add_part.new.self ≡ t))
    (sym (joined_split c.args.self.now _ _ _ _ _ _ (ap (λ t. t.multiple) (sym c.self.view_is)) c.self.invariant.positive c.split-negative.ensures.value c.split-negative.ensures.reduced.positive c.if-k-d.true))
    c.add_part.ensures.total
