use Rattle.std.proofs.Common.{Err, Ok, length, map, subst, sym, take}
use Rattle.std.specs.Prelude.{⊤}
use Rattle.test_runner.specs.Boxes.{AllTell, AreSound, Carry, RunFaulted}
use Rattle.test_runner.specs.Loads.{left_by}
use Rattle.test_runner.proofs.Serving.{written_over}
use Rattle.test_runner.proofs.over.change_counted.Goals as goal

pub returns-in-Ok-clause-carried : goal.returns-in-Ok-clause-carried
returns-in-Ok-clause-carried g c =
    written_over (λ b. (goal.Engine-dyn g (b.vtable, b.value)).seen b.value) (λ es fs. Carry c.args.declared.now es fs (left_by c.args.declared.now c.args.what.now)) _ c.args.engines.now.items c.as_mut_slice.result.now c.change_over.new.engines _ ⊤ (Ok tt) c.args.declared.now c.change_over.new.declared
    c.as_mut_slice.ensures.value c.as_mut_slice.ensures.len c.in-Ok.ensures.boxes c.in-Ok.ensures.carried

pub returns-in-Err-clause-faulted : goal.returns-in-Err-clause-faulted
returns-in-Err-clause-faulted g c =
    written_over (λ b. (goal.Engine-dyn g (b.vtable, b.value)).seen b.value) (λ es fs. RunFaulted {T = ⊤} (Err c.in-Err.fault) es fs) _ c.args.engines.now.items c.as_mut_slice.result.now c.change_over.new.engines _ ⊤ (Err c.in-Err.fault) c.args.declared.now c.change_over.new.declared
    c.as_mut_slice.ensures.value c.as_mut_slice.ensures.len c.in-Err.ensures.boxes c.in-Err.ensures.faulted

pub returns-in-Err-clause-sure : goal.returns-in-Err-clause-sure
returns-in-Err-clause-sure g c = λ tell sound.
    c.in-Err.ensures.sure (subst (λ bs. AllTell (length c.args.declared.now) (map (λ b. (goal.Engine-dyn g (b.vtable, b.value)).seen b.value) bs)) (sym c.as_mut_slice.ensures.value) tell)
    (subst (λ bs. AreSound (take (length c.args.declared.now) (map (λ b. (goal.Engine-dyn g (b.vtable, b.value)).seen b.value) bs))) (sym c.as_mut_slice.ensures.value) sound)
