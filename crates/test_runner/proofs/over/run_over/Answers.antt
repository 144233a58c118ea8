use Rattle.std.proofs.Common.{◌≡◌, ◌<◌, ◌^◌, List, [], Err, ap, arith, length, map, refl, subst, sym}
use Rattle.std.specs.Prelude.{IfErr, IfOk, IsOk, ⊤}
use Rattle.std.specs.List.{AllByRecursion}
use Rattle.script_check.specs.Verdicts.{HasItsPatterns}
use Rattle.script_read.specs.Series.{LabelList}
use Rattle.script_read.specs.declared.script.Command.{Command}
use Rattle.test_runner.specs.Boxes.{IfRun, StoodBy}
use Rattle.test_runner.specs.Loads.{left_by_all, samples_left}
use Rattle.test_runner.specs.Running.{AnswersLoads, CarriedOut, IfCut, IfOfLoads, WasCutOff}
use Rattle.test_runner.proofs.Carrying.{cut_by_any, cut_none}
use Rattle.test_runner.proofs.Engines.{answers_as, answers_ok, err_all, err_none, err_written, explained_none, idle_still, none_faulted, none_leaves, run_none}
use Rattle.test_runner.proofs.over.run_over.Goals as goal

pub run_taken-requires-clause-kept : goal.run_taken-requires-clause-kept
run_taken-requires-clause-kept g c = subst (AllByRecursion (λ (one : Command). HasItsPatterns c.args.searches.now one.what)) (sym c.as_slice-commands.ensures) c.requires.kept

pub run_taken-requires-clause-short : goal.run_taken-requires-clause-short
run_taken-requires-clause-short g c = let size = ap length c.as_slice-commands.ensures in omega (arith, size, c.requires.few)

pub run_taken-requires-clause-taken : goal.run_taken-requires-clause-taken
run_taken-requires-clause-taken g c = subst (λ (cs : List Command). IsOk (left_by_all c.args.declared.now cs [])) (sym c.as_slice-commands.ensures) (subst (λ (l : List LabelList). IsOk (samples_left l c.args.script.now)) c.as_slice-sets.ensures c.in-Ok.ensures.taken)

pub returns-in-Ok-clause-ran : goal.returns-in-Ok-clause-ran
returns-in-Ok-clause-ran g c = λ tell. subst (λ (cs : List Command). IfOk c.run_taken.result (CarriedOut c.args.options.now.closed c.args.declared.now c.args.searches.now c.args.path.now [] cs (g.S.Sink.written c.args.out.now) (g.S.Sink.written c.run_taken.new.out))) c.as_slice-commands.ensures (c.run_taken.ensures.ran tell)

pub returns-in-Ok-clause-cut : goal.returns-in-Ok-clause-cut
returns-in-Ok-clause-cut g c = λ tell. subst (λ (cs : List Command). IfErr c.run_taken.result (λ fault. IfCut fault (WasCutOff c.args.options.now.closed c.args.declared.now c.args.searches.now c.args.path.now [] cs (g.S.Sink.written c.args.out.now) (g.S.Sink.written c.run_taken.new.out)))) c.as_slice-commands.ensures (c.run_taken.ensures.cut tell)

pub returns-in-Ok-clause-stopped : goal.returns-in-Ok-clause-stopped
returns-in-Ok-clause-stopped g c = λ tell. subst (λ (cs : List Command). IfRun c.run_taken.result (StoodBy c.args.options.now.closed c.args.declared.now c.args.searches.now c.args.path.now cs (g.S.Sink.written c.args.out.now) (g.S.Sink.written c.run_taken.new.out))) c.as_slice-commands.ensures (c.run_taken.ensures.stopped tell)

pub returns-in-Ok-clause-refused : goal.returns-in-Ok-clause-refused
returns-in-Ok-clause-refused g c = answers_ok _ (samples_left c.args.declared.now c.args.script.now) c.run_taken.result (subst (λ (l : List LabelList). IsOk (samples_left l c.args.script.now)) c.as_slice-sets.ensures c.in-Ok.ensures.taken)

pub returns-in-Ok-clause-explained : goal.returns-in-Ok-clause-explained
returns-in-Ok-clause-explained g c = explained_none _ (samples_left c.args.declared.now c.args.script.now) c.run_taken.result c.run_taken.ensures.own

pub returns-in-Ok-clause-untouched : goal.returns-in-Ok-clause-untouched
returns-in-Ok-clause-untouched g c = err_none (samples_left c.args.declared.now c.args.script.now) _ (subst (λ (l : List LabelList). IsOk (samples_left l c.args.script.now)) c.as_slice-sets.ensures c.in-Ok.ensures.taken)

pub returns-in-Err-clause-untouched : goal.returns-in-Err-clause-untouched
returns-in-Err-clause-untouched g c = err_all (samples_left c.args.declared.now c.args.script.now) _ (refl, refl, refl, refl)

pub returns-in-Err-clause-cut : goal.returns-in-Err-clause-cut
returns-in-Err-clause-cut g c = λ tell. cut_by_any c.in-Err.fault _ (cut_none _ _ _ _ _ _ _)

pub returns-in-Err-clause-stopped : goal.returns-in-Err-clause-stopped
returns-in-Err-clause-stopped g c = λ tell. run_none ⊤ _ c.in-Err.fault c.in-Err.ensures.sure

pub returns-in-Err-clause-cause : goal.returns-in-Err-clause-cause
returns-in-Err-clause-cause g c = record { later = omega arith; rose = λ w. absurd (c.in-Err.ensures.unwritten (err_written c.in-Err.fault w)) }

pub returns-in-Err-clause-never : goal.returns-in-Err-clause-never
returns-in-Err-clause-never g c = λ sound w. c.in-Err.ensures.unwritten (err_written c.in-Err.fault w)

pub returns-in-Err-clause-refused : goal.returns-in-Err-clause-refused
returns-in-Err-clause-refused g c = answers_as _ _ (samples_left c.args.declared.now c.args.script.now) c.in-Err.fault (subst (λ (l : List LabelList). AnswersLoads (samples_left l c.args.script.now) (Err c.in-Err.fault)) c.as_slice-sets.ensures c.in-Err.ensures.refused)

pub returns-in-Err-clause-explained : goal.returns-in-Err-clause-explained
returns-in-Err-clause-explained g c = subst (λ (l : List LabelList). IfOfLoads (samples_left l c.args.script.now) c.in-Err.fault) c.as_slice-sets.ensures c.in-Err.ensures.explained

pub returns-in-Err-clause-unmoved : goal.returns-in-Err-clause-unmoved
returns-in-Err-clause-unmoved g c = idle_still c.args.work.now

pub returns-in-Err-clause-boxes : goal.returns-in-Err-clause-boxes
returns-in-Err-clause-boxes g c = none_leaves ⊤ c.args.declared.now (map (λ b. (goal.Engine-dyn g (b.vtable, b.value)).seen b.value) c.args.engines.now.items) (Err c.in-Err.fault) c.in-Err.ensures.sure

pub returns-in-Err-clause-faulted : goal.returns-in-Err-clause-faulted
returns-in-Err-clause-faulted g c = none_faulted ⊤ c.args.declared.now (map (λ b. (goal.Engine-dyn g (b.vtable, b.value)).seen b.value) c.args.engines.now.items) (Err c.in-Err.fault) c.in-Err.ensures.sure

pub returns-in-Err-clause-sure : goal.returns-in-Err-clause-sure
returns-in-Err-clause-sure g c = λ tell sound. c.in-Err.ensures.sure
