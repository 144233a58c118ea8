use Rattle.std.proofs.Common.{◌≡◌, ◌∙◌, ◌<◌, List, [], length, map, refl, subst, sym}
use Rattle.std.specs.Prelude.{IfErr, IfOk}
use Rattle.script_read.specs.Series.{LabelList}
use Rattle.test_runner.specs.Loads.{samples_left}
use Rattle.test_runner.specs.Running.{AnswersLoads, HasRun, IfCut, IfOfLoads, WasCut}
use Rattle.test_runner.proofs.Engines.{err_map, none_faulted, none_leaves, none_stopped, on_ok}
use Rattle.test_runner.proofs.Places.{none_below}
use Rattle.test_runner.proofs.Serving.{all_calm, all_stay}
use Rattle.test_runner.proofs.scripts.run.Goals as goal

pub returns-then-are_none-clause-ran : goal.returns-then-are_none-clause-ran
returns-then-are_none-clause-ran g c = λ tell. subst (λ (l : List LabelList). IfOk c.run_alone.result (HasRun c.args.options.now.closed l c.args.searches.now c.args.path.now c.args.script.now (g.S.Sink.written c.args.out.now) (g.S.Sink.written c.run_alone.new.out))) (sym (sym c.as_slice.ensures ∙ c.are_none.ensures.none c.if-are_none.true)) c.run_alone.ensures.ran

pub returns-then-are_none-clause-untouched : goal.returns-then-are_none-clause-untouched
returns-then-are_none-clause-untouched g c =
    subst (λ (l : List LabelList). IfErr (samples_left l c.args.script.now) (λ _. (c.run_alone.new.out ≡ c.args.out.now) × (c.run_alone.new.work ≡ c.args.work.now) × (c.args.engines.now.items ≡ c.args.engines.now.items) × (c.args.declared.now ≡ c.args.declared.now))) (sym (sym c.as_slice.ensures ∙ c.are_none.ensures.none c.if-are_none.true)) (err_map (samples_left [] c.args.script.now) _ _ (λ same. (same.0, same.1, refl, refl)) c.run_alone.ensures.untouched)

pub returns-then-are_none-clause-cut : goal.returns-then-are_none-clause-cut
returns-then-are_none-clause-cut g c = λ tell. subst (λ (l : List LabelList). IfErr c.run_alone.result (λ fault. IfCut fault (WasCut c.args.options.now.closed l c.args.searches.now c.args.path.now c.args.script.now (g.S.Sink.written c.args.out.now) (g.S.Sink.written c.run_alone.new.out)))) (sym (sym c.as_slice.ensures ∙ c.are_none.ensures.none c.if-are_none.true)) c.run_alone.ensures.cut

pub returns-then-are_none-clause-stopped : goal.returns-then-are_none-clause-stopped
returns-then-are_none-clause-stopped g c = λ tell. none_stopped _ c.run_alone.result _ c.run_alone.ensures.sure

pub returns-then-are_none-clause-refused : goal.returns-then-are_none-clause-refused
returns-then-are_none-clause-refused g c = subst (λ (l : List LabelList). AnswersLoads (samples_left l c.args.script.now) c.run_alone.result) (sym (sym c.as_slice.ensures ∙ c.are_none.ensures.none c.if-are_none.true)) c.run_alone.ensures.refused

pub returns-then-are_none-clause-explained : goal.returns-then-are_none-clause-explained
returns-then-are_none-clause-explained g c = subst (λ (l : List LabelList). IfErr c.run_alone.result (IfOfLoads (samples_left l c.args.script.now))) (sym (sym c.as_slice.ensures ∙ c.are_none.ensures.none c.if-are_none.true)) c.run_alone.ensures.explained

pub returns-then-are_none-clause-unmoved : goal.returns-then-are_none-clause-unmoved
returns-then-are_none-clause-unmoved g c = λ some. absurd (none_below c.args.declared.now (sym c.as_slice.ensures ∙ c.are_none.ensures.none c.if-are_none.true) some)

pub returns-then-are_none-clause-boxes : goal.returns-then-are_none-clause-boxes
returns-then-are_none-clause-boxes g c = none_leaves _ c.args.declared.now (map (λ b. (goal.Engine-dyn g (b.vtable, b.value)).seen b.value) c.args.engines.now.items) c.run_alone.result c.run_alone.ensures.sure

pub returns-then-are_none-clause-faulted : goal.returns-then-are_none-clause-faulted
returns-then-are_none-clause-faulted g c = none_faulted _ c.args.declared.now (map (λ b. (goal.Engine-dyn g (b.vtable, b.value)).seen b.value) c.args.engines.now.items) c.run_alone.result c.run_alone.ensures.sure

pub returns-then-are_none-clause-calm : goal.returns-then-are_none-clause-calm
returns-then-are_none-clause-calm g c = on_ok c.run_alone.result _ (all_calm (map (λ b. (goal.Engine-dyn g (b.vtable, b.value)).seen b.value) c.args.engines.now.items) (map (λ b. (goal.Engine-dyn g (b.vtable, b.value)).seen b.value) c.args.engines.now.items) (all_stay (map (λ b. (goal.Engine-dyn g (b.vtable, b.value)).seen b.value) c.args.engines.now.items)))

pub returns-then-are_none-clause-alone_sure : goal.returns-then-are_none-clause-alone_sure
returns-then-are_none-clause-alone_sure g c = λ none. c.run_alone.ensures.sure

pub returns-then-are_none-clause-sure : goal.returns-then-are_none-clause-sure
returns-then-are_none-clause-sure g c = λ tell sound. c.run_alone.ensures.sure

pub run_over-requires-clause-some : goal.run_over-requires-clause-some
run_over-requires-clause-some g c = subst (λ (l : List LabelList). 0 < length l) c.as_slice.ensures (c.are_none.ensures.some c.if-are_none.false)

pub returns-clause-bounded : goal.returns-clause-bounded
returns-clause-bounded g c = λ none. absurd (none_below c.args.declared.now none (subst (λ (l : List LabelList). 0 < length l) c.as_slice.ensures (c.are_none.ensures.some c.if-are_none.false)))

pub returns-clause-alone : goal.returns-clause-alone
returns-clause-alone g c = λ none. absurd (none_below c.args.declared.now none (subst (λ (l : List LabelList). 0 < length l) c.as_slice.ensures (c.are_none.ensures.some c.if-are_none.false)))

pub returns-clause-alone_sure : goal.returns-clause-alone_sure
returns-clause-alone_sure g c = λ none. absurd (none_below c.args.declared.now none (subst (λ (l : List LabelList). 0 < length l) c.as_slice.ensures (c.are_none.ensures.some c.if-are_none.false)))
