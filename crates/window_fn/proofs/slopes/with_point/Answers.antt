use Rattle.std.proofs.Common.{◌∙◌, ◌++◌, ◌∷◌, [], sym, ap, subst}
use Rattle.window_fn.specs.Slopes.{products, squares}
use Rattle.window_fn.specs.Totals.{IsSumOfAnswers}
use Rattle.window_fn.proofs.Fitting.{products-more, squares-more}
use Rattle.window_fn.proofs.slopes.with_point.Goals as goal

pub returns : goal.returns
returns c = λ xs ys l h. record {
  x = c.with_value.ensures.sum xs h.x;
  y = c.with_value-2.ensures.sum ys h.y;
  xy = subst (IsSumOfAnswers c.with_answer.result) (ap (λ r. products xs ys ++ r ∷ []) c.arith.ensures ∙ sym (products-more xs ys c.args.x.now c.args.y.now l)) (c.with_answer.ensures.sum (products xs ys) h.xy);
  xx = subst (IsSumOfAnswers c.with_answer-2.result) (ap (λ r. squares xs ++ r ∷ []) c.arith-2.ensures ∙ sym (squares-more xs c.args.x.now)) (c.with_answer-2.ensures.sum (squares xs) h.xx);
}
