use Rattle.std.proofs.Common.{sym, ap, ◌∙◌}
use Rattle.xfrac.specs.Sums.{fits}
use Rattle.xfrac.proofs.Totalling.{joined_totals, some_from_choice, none_from_choice, is_some_choice}
use Rattle.xfrac.proofs.sums.SumAcc.merge.Goals as goal

pub returns-in-Some-clause-appended : goal.returns-in-Some-clause-appended
returns-in-Some-clause-appended c = λ xs ys e f.
    (some_from_choice _ _ _ c.in-Some.ensures.value).1 ∙ joined_totals xs ys _ _ e f c.in-Some.ensures.left c.in-Some.ensures.right

pub returns-in-Some-clause-overflow : goal.returns-in-Some-clause-overflow
returns-in-Some-clause-overflow c = λ xs ys e f.
    sym (is_some_choice _ _ ∙ ap fits (sym (joined_totals xs ys _ _ e f c.in-Some.ensures.left c.in-Some.ensures.right)) ∙ (some_from_choice _ _ _ c.in-Some.ensures.value).0)

pub returns-in-None-clause-overflow : goal.returns-in-None-clause-overflow
returns-in-None-clause-overflow c = λ xs ys e f.
    sym (is_some_choice _ _ ∙ ap fits (sym (joined_totals xs ys _ _ e f c.in-None.ensures.left c.in-None.ensures.right)) ∙ none_from_choice _ _ c.in-None.ensures.value)
