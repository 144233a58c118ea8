use Rattle.std.proofs.Common.{◌≡◌, ◌∙◌, List, [], Err, Ok, ap, map, refl, subst, sym}
use Rattle.std.specs.Prelude.{IsOk, ⊤}
use Rattle.script_read.specs.Series.{LabelList}
use Rattle.script_read.specs.declared.script.Command.{Command}
use Rattle.test_runner.specs.Loads.{left_by_all, samples_left}
use Rattle.test_runner.specs.Running.{AnswersLoads, IfOfLoads}
use Rattle.test_runner.proofs.Engines.{answers_as, answers_ok, err_all, err_none, explained_own, idle_still, is_left, none_faulted, none_leaves, ok_on, own_never_is}
use Rattle.test_runner.proofs.answering.answer_over.Goals as goal

pub answer_loaded-requires-clause-taken : goal.answer_loaded-requires-clause-taken
answer_loaded-requires-clause-taken g c = subst (λ (cs : List Command). IsOk (left_by_all c.args.declared.now cs [])) (sym c.as_slice-commands.ensures) (subst (λ (l : List LabelList). IsOk (samples_left l c.args.script.now)) c.as_slice-sets.ensures c.in-Ok.ensures.taken)

pub returns-in-Ok-clause-answered : goal.returns-in-Ok-clause-answered
returns-in-Ok-clause-answered g c = λ tell.
    let left = is_left (samples_left c.args.declared.now c.args.script.now) (subst (λ (l : List LabelList). IsOk (samples_left l c.args.script.now)) c.as_slice-sets.ensures c.in-Ok.ensures.taken) in
    let there : left_by_all c.args.declared.now c.as_slice-commands.result.now [] ≡ Ok left.0 = ap (λ (cs : List Command). left_by_all c.args.declared.now cs []) c.as_slice-commands.ensures ∙ left.1 in
    ok_on c.answer_loaded.result _ _ (λ outcome comes. record { series = left.0; left = left.1; comes = comes }) (c.answer_loaded.ensures.answered tell left.0 there)

pub returns-in-Ok-clause-refused : goal.returns-in-Ok-clause-refused
returns-in-Ok-clause-refused g c = answers_ok _ (samples_left c.args.declared.now c.args.script.now) c.answer_loaded.result (subst (λ (l : List LabelList). IsOk (samples_left l c.args.script.now)) c.as_slice-sets.ensures c.in-Ok.ensures.taken)

pub returns-in-Ok-clause-explained : goal.returns-in-Ok-clause-explained
returns-in-Ok-clause-explained g c = explained_own _ (samples_left c.args.declared.now c.args.script.now) c.answer_loaded.result c.answer_loaded.ensures.own

pub returns-in-Ok-clause-unwritten : goal.returns-in-Ok-clause-unwritten
returns-in-Ok-clause-unwritten g c = own_never_is _ c.answer_loaded.result c.answer_loaded.ensures.own

pub returns-in-Ok-clause-idle : goal.returns-in-Ok-clause-idle
returns-in-Ok-clause-idle g c = err_none (samples_left c.args.declared.now c.args.script.now) _ (subst (λ (l : List LabelList). IsOk (samples_left l c.args.script.now)) c.as_slice-sets.ensures c.in-Ok.ensures.taken)

pub returns-in-Err-clause-idle : goal.returns-in-Err-clause-idle
returns-in-Err-clause-idle g c = err_all (samples_left c.args.declared.now c.args.script.now) _ (refl, refl, refl)

pub returns-in-Err-clause-refused : goal.returns-in-Err-clause-refused
returns-in-Err-clause-refused g c = answers_as _ _ (samples_left c.args.declared.now c.args.script.now) c.in-Err.fault (subst (λ (l : List LabelList). AnswersLoads (samples_left l c.args.script.now) (Err c.in-Err.fault)) c.as_slice-sets.ensures c.in-Err.ensures.refused)

pub returns-in-Err-clause-explained : goal.returns-in-Err-clause-explained
returns-in-Err-clause-explained g c = subst (λ (l : List LabelList). IfOfLoads (samples_left l c.args.script.now) c.in-Err.fault) c.as_slice-sets.ensures c.in-Err.ensures.explained

pub returns-in-Err-clause-unmoved : goal.returns-in-Err-clause-unmoved
returns-in-Err-clause-unmoved g c = idle_still c.args.work.now

pub returns-in-Err-clause-boxes : goal.returns-in-Err-clause-boxes
returns-in-Err-clause-boxes g c = none_leaves ⊤ c.args.declared.now (map (λ b. (goal.Engine-dyn g (b.vtable, b.value)).seen b.value) c.args.engines.now.items) (Err c.in-Err.fault) c.in-Err.ensures.sure

pub returns-in-Err-clause-faulted : goal.returns-in-Err-clause-faulted
returns-in-Err-clause-faulted g c = none_faulted ⊤ c.args.declared.now (map (λ b. (goal.Engine-dyn g (b.vtable, b.value)).seen b.value) c.args.engines.now.items) (Err c.in-Err.fault) c.in-Err.ensures.sure

pub returns-in-Err-clause-sure : goal.returns-in-Err-clause-sure
returns-in-Err-clause-sure g c = λ tell sound. c.in-Err.ensures.sure
