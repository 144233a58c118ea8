use Rattle.std.proofs.Common.{◌++◌, ◌∷◌, [], None, sym, subst}
use Rattle.window_fn.specs.Totals.{IsSumOfAnswers}
use Rattle.window_fn.proofs.Adding.{one_more_value, one_more_fault}
use Rattle.window_fn.proofs.sums.with_answer.Goals as goal

pub returns-in-Ok : goal.returns-in-Ok
returns-in-Ok c = record {
  sum = λ rs h. subst (λ r. IsSumOfAnswers c.with_value.result (rs ++ r ∷ [])) (sym c.in-Ok.is) (one_more_value c.args.sum c.with_value.result c.in-Ok.value rs c.is_number.ensures c.with_value.ensures.sum c.with_value.ensures.none h);
}

pub returns-in-Err : goal.returns-in-Err
returns-in-Err c = record {
  sum = λ rs h. subst (λ r. IsSumOfAnswers None (rs ++ r ∷ [])) (sym c.in-Err.is) (one_more_fault c.args.sum c.in-Err.field-0 rs h);
}
