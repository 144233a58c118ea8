use Rattle.std.proofs.Common.{◌≡◌, sym, subst, ap, ◌∙◌, OnOk}
use Rattle.xfrac.specs.Sums.{fits}
use Rattle.xfrac.proofs.Adding.{stands_for_more}
use Rattle.xfrac.proofs.Totalling.{is_some_choice}
use Rattle.xfrac.proofs.sums.SumAcc.add.Goals as goal

pub returns-clause-appended : goal.returns-clause-appended
returns-clause-appended c = λ xs is.
    subst (λ t. OnOk c.add_any.result (c.add_any.new.self ≡ t)) (stands_for_more _ c.args.v.now xs c.add_any.ensures.positive c.add_any.ensures.whole is) c.add_any.ensures.total

pub returns-clause-overflow : goal.returns-clause-overflow
returns-clause-overflow c = λ xs is.
    c.add_any.ensures.told ∙ ap fits (stands_for_more _ c.args.v.now xs c.add_any.ensures.positive c.add_any.ensures.whole is) ∙ sym (is_some_choice _ _)
