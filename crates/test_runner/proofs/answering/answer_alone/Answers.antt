use Rattle.std.proofs.Common.{[], refl}
use Rattle.std.proofs.lemmas.Result.{err_from_is_err_and}
use Rattle.test_runner.specs.Loads.{samples_left}
use Rattle.test_runner.proofs.Spending.{nothing_over, spent_over, with_batch}
use Rattle.test_runner.proofs.answering.answer_alone.Goals as goal

pub returns-in_err-store-clause-bounded : goal.returns-in_err-store-clause-bounded
returns-in_err-store-clause-bounded g c =
    nothing_over (samples_left [] c.args.script.now) c.args.text.now c.args.grid.now c.args.options.now c.args.work.now

pub returns-in_err-outcome-clause-bounded : goal.returns-in_err-outcome-clause-bounded
returns-in_err-outcome-clause-bounded g c =
    let series = c.in_ok-store.store in
    let options = c.args.options.now in
    spent_over (samples_left [] c.args.script.now) series c.args.text.now c.args.grid.now options c.args.work.now c.evaluate_alone.new.work c.in_ok-store.ensures.left
    (with_batch c.args.text.now c.args.text.now series c.args.grid.now options c.options_over-options.result _ c.args.work.now c.evaluate_alone.new.work refl c.options_over-options.ensures.is c.evaluate_alone.ensures.bounded)

pub returns-clause-bounded : goal.returns-clause-bounded
returns-clause-bounded g c =
    let series = c.in_ok-store.store in
    let options = c.args.options.now in
    spent_over (samples_left [] c.args.script.now) series c.args.text.now c.args.grid.now options c.args.work.now c.evaluate_alone.new.work c.in_ok-store.ensures.left
    (with_batch c.args.text.now c.args.text.now series c.args.grid.now options c.options_over-options.result _ c.args.work.now c.evaluate_alone.new.work refl c.options_over-options.ensures.is c.evaluate_alone.ensures.bounded)

pub returns-in_err-store-clause-sure : goal.returns-in_err-store-clause-sure
returns-in_err-store-clause-sure g c =
    let p = err_from_is_err_and c.from_residual.result c.from_residual.ensures.1 in
    rw (p.1, p.2) c.in_err-store.ensures.sure

pub returns-in_err-outcome-clause-sure : goal.returns-in_err-outcome-clause-sure
returns-in_err-outcome-clause-sure g c =
    let p = err_from_is_err_and c.from_residual-in_err-outcome.result c.from_residual-in_err-outcome.ensures.1 in
    rw (p.1, p.2) tt
