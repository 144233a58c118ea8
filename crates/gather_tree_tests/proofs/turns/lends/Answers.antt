use Rattle.std.proofs.Common.{None, map, subst, sym}
use Rattle.op_labels.specs.Rules.{Kept}
use Rattle.plan_tree.specs.Chains.{IsReady}
use Rattle.gather_tree_tests.proofs.turns.lends.Goals as goal

pub loop-init : goal.loop-init
loop-init g c = c.requires.ready _ _

pub step-requires : goal.step-requires
step-requires g c = (None, c.loop.invariant)

pub loop-preserved : goal.loop-preserved
loop-preserved g c =
    subst (λ (k : Kept). IsReady c.new-store.result k None (map (λ b. (goal.Engine-dyn g (b.vtable, b.value)).seen b.value) c.step.new.engines) c.step.new.self) (sym c.step.ensures.patterns) (c.in_ok-step.ensures.ready None c.loop.invariant)
