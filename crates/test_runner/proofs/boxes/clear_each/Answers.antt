use Rattle.std.proofs.Common.{◌≡◌, ◌∙◌, [], arith, length, map, refl, subst, sym}
use Rattle.remote_api.specs.Seen.{IsCleared}
use Rattle.test_runner.specs.Parts.{AreCalled}
use Rattle.test_runner.proofs.Calling.{map_length}
use Rattle.test_runner.proofs.Parts.{none_called, one_called}
use Rattle.test_runner.proofs.boxes.clear_each.Goals as goal

pub loop-i-init : goal.loop-i-init
loop-i-init g c = record { called = none_called IsCleared (map (λ b. (goal.Engine-dyn g (b.vtable, b.value)).seen b.value) c.args.engines.now); len = refl }

pub loop-i-preserved : goal.loop-i-preserved
loop-i-preserved g c = record {
  called = one_called IsCleared (map (λ b. (goal.Engine-dyn g (b.vtable, b.value)).seen b.value) c.args.engines.now) c.loop-i.i (map (λ b. (goal.Engine-dyn g (b.vtable, b.value)).seen b.value) c.loop-i.engines) (map (λ b. (goal.Engine-dyn g (b.vtable, b.value)).seen b.value) c.clear_at.new.engines) c.loop-i.invariant.called c.clear_at.ensures.cleared
      (map_length (λ b. (goal.Engine-dyn g (b.vtable, b.value)).seen b.value) c.clear_at.new.engines c.loop-i.engines c.clear_at.ensures.len);
  len = c.clear_at.ensures.len ∙ c.loop-i.invariant.len;
}

pub clear_at-requires-clause-unasked : goal.clear_at-requires-clause-unasked
clear_at-requires-clause-unasked g c = λ e at_e. c.requires.unasked c.loop-i.i e c.loop-i-test.true (sym (c.loop-i.invariant.called.others c.loop-i.i (omega arith)) ∙ at_e)

pub returns : goal.returns
returns g c =
    let e : c.loop-i.i ≡ c.args.count = omega arith in
    subst (λ n. AreCalled n IsCleared (map (λ b. (goal.Engine-dyn g (b.vtable, b.value)).seen b.value) c.args.engines.now) (map (λ b. (goal.Engine-dyn g (b.vtable, b.value)).seen b.value) c.loop-i.engines)) e c.loop-i.invariant.called
