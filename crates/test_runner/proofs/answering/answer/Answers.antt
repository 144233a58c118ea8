use Rattle.std.proofs.Common.{◌≡◌, ◌∙◌, ◌<◌, List, [], length, map, refl, subst, sym}
use Rattle.std.specs.Prelude.{IfErr, IfOk}
use Rattle.script_read.specs.Series.{LabelList}
use Rattle.test_runner.specs.Loads.{samples_left}
use Rattle.test_runner.specs.Running.{AnswersLoads, IfOfLoads, IsAnswerOver}
use Rattle.test_runner.proofs.Engines.{err_map, none_faulted, none_leaves, on_ok}
use Rattle.test_runner.proofs.Places.{none_below}
use Rattle.test_runner.proofs.Serving.{all_calm, all_stay}
use Rattle.test_runner.proofs.answering.answer.Goals as goal

pub returns-then-are_none-clause-answered : goal.returns-then-are_none-clause-answered
returns-then-are_none-clause-answered g c = λ tell. subst (λ (l : List LabelList). IfOk c.answer_alone.result (IsAnswerOver l c.args.script.now c.args.text.now c.args.grid.now c.args.instant c.args.options.now.closed)) (sym (sym c.as_slice.ensures ∙ c.are_none.ensures.none c.if-are_none.true)) c.answer_alone.ensures.answered

pub returns-then-are_none-clause-idle : goal.returns-then-are_none-clause-idle
returns-then-are_none-clause-idle g c =
    subst (λ (l : List LabelList). IfErr (samples_left l c.args.script.now) (λ _. (c.answer_alone.new.work ≡ c.args.work.now) × (c.args.engines.now.items ≡ c.args.engines.now.items) × (c.args.declared.now ≡ c.args.declared.now))) (sym (sym c.as_slice.ensures ∙ c.are_none.ensures.none c.if-are_none.true)) (err_map (samples_left [] c.args.script.now) _ _ (λ same. (same, refl, refl)) c.answer_alone.ensures.idle)

pub returns-then-are_none-clause-refused : goal.returns-then-are_none-clause-refused
returns-then-are_none-clause-refused g c = subst (λ (l : List LabelList). AnswersLoads (samples_left l c.args.script.now) c.answer_alone.result) (sym (sym c.as_slice.ensures ∙ c.are_none.ensures.none c.if-are_none.true)) c.answer_alone.ensures.refused

pub returns-then-are_none-clause-explained : goal.returns-then-are_none-clause-explained
returns-then-are_none-clause-explained g c = subst (λ (l : List LabelList). IfErr c.answer_alone.result (IfOfLoads (samples_left l c.args.script.now))) (sym (sym c.as_slice.ensures ∙ c.are_none.ensures.none c.if-are_none.true)) c.answer_alone.ensures.explained

pub returns-then-are_none-clause-unmoved : goal.returns-then-are_none-clause-unmoved
returns-then-are_none-clause-unmoved g c = λ some. absurd (none_below c.args.declared.now (sym c.as_slice.ensures ∙ c.are_none.ensures.none c.if-are_none.true) some)

pub returns-then-are_none-clause-boxes : goal.returns-then-are_none-clause-boxes
returns-then-are_none-clause-boxes g c = none_leaves _ c.args.declared.now (map (λ b. (goal.Engine-dyn g (b.vtable, b.value)).seen b.value) c.args.engines.now.items) c.answer_alone.result c.answer_alone.ensures.sure

pub returns-then-are_none-clause-faulted : goal.returns-then-are_none-clause-faulted
returns-then-are_none-clause-faulted g c = none_faulted _ c.args.declared.now (map (λ b. (goal.Engine-dyn g (b.vtable, b.value)).seen b.value) c.args.engines.now.items) c.answer_alone.result c.answer_alone.ensures.sure

pub returns-then-are_none-clause-calm : goal.returns-then-are_none-clause-calm
returns-then-are_none-clause-calm g c = on_ok c.answer_alone.result _ (all_calm (map (λ b. (goal.Engine-dyn g (b.vtable, b.value)).seen b.value) c.args.engines.now.items) (map (λ b. (goal.Engine-dyn g (b.vtable, b.value)).seen b.value) c.args.engines.now.items) (all_stay (map (λ b. (goal.Engine-dyn g (b.vtable, b.value)).seen b.value) c.args.engines.now.items)))

pub returns-then-are_none-clause-alone_sure : goal.returns-then-are_none-clause-alone_sure
returns-then-are_none-clause-alone_sure g c = λ none. c.answer_alone.ensures.sure

pub returns-then-are_none-clause-sure : goal.returns-then-are_none-clause-sure
returns-then-are_none-clause-sure g c = λ tell sound. c.answer_alone.ensures.sure

pub answer_over-requires-clause-some : goal.answer_over-requires-clause-some
answer_over-requires-clause-some g c = subst (λ (l : List LabelList). 0 < length l) c.as_slice.ensures (c.are_none.ensures.some c.if-are_none.false)

pub returns-clause-bounded : goal.returns-clause-bounded
returns-clause-bounded g c = λ none. absurd (none_below c.args.declared.now none (subst (λ (l : List LabelList). 0 < length l) c.as_slice.ensures (c.are_none.ensures.some c.if-are_none.false)))

pub returns-clause-alone : goal.returns-clause-alone
returns-clause-alone g c = λ none. absurd (none_below c.args.declared.now none (subst (λ (l : List LabelList). 0 < length l) c.as_slice.ensures (c.are_none.ensures.some c.if-are_none.false)))

pub returns-clause-alone_sure : goal.returns-clause-alone_sure
returns-clause-alone_sure g c = λ none. absurd (none_below c.args.declared.now none (subst (λ (l : List LabelList). 0 < length l) c.as_slice.ensures (c.are_none.ensures.some c.if-are_none.false)))
