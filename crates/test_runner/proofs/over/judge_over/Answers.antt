use Rattle.std.proofs.Common.{ℕ, List, map, subst}
use Rattle.query_engine.specs.Evaluating.{ComesTo}
use Rattle.test_runner.proofs.Engines.{line_on, ok_on, on_ok}
use Rattle.test_runner.proofs.Serving.{cut_faulted, cut_leaves, cut_stopped, memory_cut, memory_own}
use Rattle.test_runner.proofs.over.judge_over.Goals as goal

pub returns-in-Ok-clause-line : goal.returns-in-Ok-clause-line
returns-in-Ok-clause-line g c = λ series held tell.
    let comes = subst (λ (t : List ℕ). ComesTo t series c.args.asked.grid.now c.args.asked.instant c.args.asked.options.now.closed c.in-Ok.outcome) c.as_str-text.ensures (c.in-Ok.ensures.outcome series held tell) in
    ok_on c.line_of.result _ _ (λ line is. line_on (λ judged same. record { got = c.in-Ok.outcome; comes = comes; is = same }) is) c.line_of.ensures.line

pub returns-in-Ok-clause-held : goal.returns-in-Ok-clause-held
returns-in-Ok-clause-held g c = on_ok c.line_of.result _ c.in-Ok.ensures.held

pub returns-in-Ok-clause-own : goal.returns-in-Ok-clause-own
returns-in-Ok-clause-own g c = memory_own _ c.line_of.result c.line_of.ensures.fault

pub returns-in-Ok-clause-boxes : goal.returns-in-Ok-clause-boxes
returns-in-Ok-clause-boxes g c =
    cut_leaves _ _ c.in-Ok.outcome c.line_of.result c.args.declared.now c.evaluate_over.new.declared (map (λ b. (goal.Engine-dyn g (b.vtable, b.value)).seen b.value) c.args.engines.now.items) (map (λ b. (goal.Engine-dyn g (b.vtable, b.value)).seen b.value) c.evaluate_over.new.engines.items) (memory_cut _ c.line_of.result c.line_of.ensures.fault) c.in-Ok.ensures.boxes

pub returns-in-Ok-clause-faulted : goal.returns-in-Ok-clause-faulted
returns-in-Ok-clause-faulted g c = cut_faulted _ c.line_of.result (map (λ b. (goal.Engine-dyn g (b.vtable, b.value)).seen b.value) c.args.engines.now.items) (map (λ b. (goal.Engine-dyn g (b.vtable, b.value)).seen b.value) c.evaluate_over.new.engines.items) (memory_cut _ c.line_of.result c.line_of.ensures.fault)

pub returns-in-Ok-clause-calm : goal.returns-in-Ok-clause-calm
returns-in-Ok-clause-calm g c = on_ok c.line_of.result _ c.in-Ok.ensures.calm

pub returns-in-Ok-clause-sure : goal.returns-in-Ok-clause-sure
returns-in-Ok-clause-sure g c = λ tell sound. cut_stopped _ c.line_of.result _ (memory_cut _ c.line_of.result c.line_of.ensures.fault)

pub returns-in-Err-clause-boxes : goal.returns-in-Err-clause-boxes
returns-in-Err-clause-boxes g c = c.in-Err.ensures.boxes

pub returns-in-Err-clause-faulted : goal.returns-in-Err-clause-faulted
returns-in-Err-clause-faulted g c = c.in-Err.ensures.faulted

pub returns-in-Err-clause-sure : goal.returns-in-Err-clause-sure
returns-in-Err-clause-sure g c = λ tell sound. c.in-Err.ensures.sure tell sound
