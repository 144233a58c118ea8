use Rattle.std.proofs.Common.{◌≡◌, ◌∷◌, List, drop, take}
use Rattle.step_batch.specs.declared.steps.PlacedStep.{PlacedStep}
use Rattle.plan_tree.proofs.Copies.{Follow, put_at}
use Rattle.plan_tree.proofs.copying.repeat_all.Given as goal

abbrev pub invariant-loop-t : goal.invariant-loop-t
invariant-loop-t l = record {
  named : l.out.labels ≡ l.batch.labels;
  follow : Follow l.out (drop l.t-index l.at);
  steps : (s : PlacedStep) (rest : List PlacedStep) → l.batch.steps ≡ s ∷ rest → l.out.steps ≡ put_at s (take l.t-index l.at);
}
