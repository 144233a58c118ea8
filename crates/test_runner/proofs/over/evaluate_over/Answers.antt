use Rattle.std.proofs.Common.{length, map}
use Rattle.std.specs.Prelude.{Ok, Err}
use Rattle.promql_meaning.specs.declared.answer.Outcome.{Outcome}
use Rattle.test_runner.proofs.Engines.{parts_grown, stand_at}
use Rattle.test_runner.proofs.Serving.{kept_leaves, ran_leaves, ran_sure, sound_tell}
use Rattle.test_runner.proofs.over.evaluate_over.Goals as goal

pub returns-in-Ok-clause-outcome : goal.returns-in-Ok-clause-outcome
returns-in-Ok-clause-outcome g c = λ series held tell. c.in-Ok.ensures.outcome c.requires.some series (stand_at c.args.declared.now (map (λ b. (goal.Engine-dyn g (b.vtable, b.value)).seen b.value) c.args.engines.now.items) series held tell)

pub returns-in-Ok-clause-held : goal.returns-in-Ok-clause-held
returns-in-Ok-clause-held g c = λ series held. parts_grown c.args.declared.now (map (λ b. (goal.Engine-dyn g (b.vtable, b.value)).seen b.value) c.args.engines.now.items) (map (λ b. (goal.Engine-dyn g (b.vtable, b.value)).seen b.value) c.evaluate.new.engines.items) c.in-Ok.ensures.kept.many c.in-Ok.ensures.kept.boxes series held

pub returns-in-Ok-clause-boxes : goal.returns-in-Ok-clause-boxes
returns-in-Ok-clause-boxes g c = kept_leaves Outcome Outcome c.in-Ok.outcome c.in-Ok.outcome c.args.declared.now c.evaluate.new.declared (map (λ b. (goal.Engine-dyn g (b.vtable, b.value)).seen b.value) c.args.engines.now.items) (map (λ b. (goal.Engine-dyn g (b.vtable, b.value)).seen b.value) c.evaluate.new.engines.items) c.in-Ok.ensures.kept

pub returns-clause-boxes : goal.returns-clause-boxes
returns-clause-boxes g c = rw c.ran_into.ensures (ran_leaves Outcome Outcome c.in-Err.fault (map (λ b. (goal.Engine-dyn g (b.vtable, b.value)).seen b.value) c.args.engines.now.items) (map (λ b. (goal.Engine-dyn g (b.vtable, b.value)).seen b.value) c.evaluate.new.engines.items) c.args.declared.now c.evaluate.new.declared c.in-Err.ensures.kept)

pub returns-clause-sure : goal.returns-clause-sure
returns-clause-sure g c = λ tell sound. rw c.ran_into.ensures (ran_sure Outcome Outcome c.in-Err.fault (map (λ b. (goal.Engine-dyn g (b.vtable, b.value)).seen b.value) c.args.engines.now.items) (map (λ b. (goal.Engine-dyn g (b.vtable, b.value)).seen b.value) c.evaluate.new.engines.items) (c.in-Err.ensures.never (sound_tell (length c.args.declared.now) (map (λ b. (goal.Engine-dyn g (b.vtable, b.value)).seen b.value) c.args.engines.now.items) tell sound)))
