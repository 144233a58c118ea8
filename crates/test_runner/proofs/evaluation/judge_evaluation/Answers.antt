use Rattle.test_runner.proofs.Spending.{with_batch}
use Rattle.test_runner.proofs.evaluation.judge_evaluation.Goals as goal

pub returns-in_err-outcome-clause-bounded : goal.returns-in_err-outcome-clause-bounded
returns-in_err-outcome-clause-bounded g c =
    with_batch c.args.asked.text.now c.as_str-text.result.now c.args.store.now c.args.asked.grid.now c.args.asked.options.now c.options_over-options.result _ c.args.work.now c.evaluate_alone.new.work
    c.as_str-text.ensures c.options_over-options.ensures.is c.evaluate_alone.ensures.bounded

pub returns-clause-bounded : goal.returns-clause-bounded
returns-clause-bounded g c =
    with_batch c.args.asked.text.now c.as_str-text.result.now c.args.store.now c.args.asked.grid.now c.args.asked.options.now c.options_over-options.result _ c.args.work.now c.evaluate_alone.new.work
    c.as_str-text.ensures c.options_over-options.ensures.is c.evaluate_alone.ensures.bounded
