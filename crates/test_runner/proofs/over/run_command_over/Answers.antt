use Rattle.std.proofs.Common.{arith, map, refl}
use Rattle.test_runner.specs.Loads.{left_by}
use Rattle.test_runner.proofs.Carrying.{carried_change, carried_evaluation, cut_evaluation, cut_none, is_change, when_cut}
use Rattle.test_runner.proofs.Engines.{err_cut_on, held_carries, idle_still, is_left, ok_all, ok_on, own_all, own_never, run_all}
use Rattle.test_runner.proofs.over.run_command_over.Goals as goal

pub returns-in-Eval-clause-carried : goal.returns-in-Eval-clause-carried
returns-in-Eval-clause-carried g c = ok_on c.run_evaluation_over.result _ _ (λ totals held. held_carries c.args.declared.now (map (λ b. (goal.Engine-dyn g (b.vtable, b.value)).seen b.value) c.args.engines.now.items) (map (λ b. (goal.Engine-dyn g (b.vtable, b.value)).seen b.value) c.run_evaluation_over.new.engines.items) c.args.command.now.what c.in-Eval.grid c.in-Eval.instant c.in-Eval.text c.in-Eval.expected c.in-Eval.is held) c.run_evaluation_over.ensures.held

pub returns-in-Eval-clause-few : goal.returns-in-Eval-clause-few
returns-in-Eval-clause-few g c = ok_on c.run_evaluation_over.result _ _ (λ totals one. omega (arith, one)) c.run_evaluation_over.ensures.one

pub returns-in-Eval-clause-rests : goal.returns-in-Eval-clause-rests
returns-in-Eval-clause-rests g c = ok_on c.run_evaluation_over.result _ _ (λ totals one none. absurd (omega (arith, one, none))) c.run_evaluation_over.ensures.one

pub returns-in-Eval-clause-ran : goal.returns-in-Eval-clause-ran
returns-in-Eval-clause-ran g c = λ series held tell ok.
    ok_on c.run_evaluation_over.result _ _ (λ totals wrote. carried_evaluation c.args.options.now.closed c.args.declared.now c.args.searches.now c.args.path.now series c.args.command.now c.in-Eval.grid c.in-Eval.instant c.in-Eval.text c.in-Eval.expected c.in-Eval.is (g.S.Sink.written c.args.out.now) (g.S.Sink.written c.run_evaluation_over.new.out) wrote.passed totals wrote.line wrote.some wrote.none) (c.run_evaluation_over.ensures.ran series held tell)

pub returns-in-Eval-clause-cut : goal.returns-in-Eval-clause-cut
returns-in-Eval-clause-cut g c = λ series held tell. err_cut_on c.run_evaluation_over.result _ _ (cut_evaluation c.args.options.now.closed c.args.declared.now c.args.searches.now c.args.path.now series c.args.command.now c.in-Eval.grid c.in-Eval.instant c.in-Eval.text c.in-Eval.expected c.in-Eval.is (g.S.Sink.written c.args.out.now) (g.S.Sink.written c.run_evaluation_over.new.out)) (c.run_evaluation_over.ensures.cut series held tell)

pub returns-in-Clear-clause-few : goal.returns-in-Clear-clause-few
returns-in-Clear-clause-few g c = ok_on c.change_counted.result _ _ (λ totals none. omega (arith, none.0, none.1)) c.change_counted.ensures.none

pub returns-in-Clear-clause-rests : goal.returns-in-Clear-clause-rests
returns-in-Clear-clause-rests g c = ok_all c.change_counted.result _ (λ totals none. refl)

pub returns-in-Clear-clause-ran : goal.returns-in-Clear-clause-ran
returns-in-Clear-clause-ran g c = λ series held tell ok.
    let now = is_left (left_by c.args.declared.now c.args.command.now.what series) ok in
    ok_on c.change_counted.result _ _ (λ totals none. carried_change c.args.options.now.closed c.args.declared.now c.args.searches.now c.args.path.now series now.0 c.args.command.now (g.S.Sink.written c.args.out.now) totals (is_change c.args.command.now.what c.in-Clear.is) now.1 none.0 none.1) c.change_counted.ensures.none

pub returns-in-Clear-clause-cut : goal.returns-in-Clear-clause-cut
returns-in-Clear-clause-cut g c = λ series held tell. when_cut c.change_counted.result _ (cut_none _ _ _ _ _ _ _)

pub returns-in-Clear-clause-stopped : goal.returns-in-Clear-clause-stopped
returns-in-Clear-clause-stopped g c = run_all c.change_counted.result _ refl

pub returns-in-Clear-clause-own : goal.returns-in-Clear-clause-own
returns-in-Clear-clause-own g c = own_all c.change_counted.result c.change_counted.ensures.own

pub returns-in-Clear-clause-cause : goal.returns-in-Clear-clause-cause
returns-in-Clear-clause-cause g c = record { later = omega arith; rose = λ w. absurd (own_never c.change_counted.result c.change_counted.ensures.own w) }

pub returns-in-Clear-clause-never : goal.returns-in-Clear-clause-never
returns-in-Clear-clause-never g c = λ sound w. own_never c.change_counted.result c.change_counted.ensures.own w

pub returns-in-Clear-clause-unmoved : goal.returns-in-Clear-clause-unmoved
returns-in-Clear-clause-unmoved g c = idle_still c.args.work.now
