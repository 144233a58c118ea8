use Rattle.std.proofs.Common.{◌≡◌, ◌++◌, ◌∷◌, ℕ, List, take, drop, [], length}
use Rattle.step_batch.specs.Lent.{IsFreeFrom, IsLater, SlotsRise, blank, no_marks}
use Rattle.step_batch.specs.declared.steps.PlacedStep.{PlacedStep}
use Rattle.ticks.specs.declared.moment.Ms.{Ms}
use Rattle.plan_tree.proofs.copying.put_all.Given as goal

abbrev pub invariant-loop-slot : goal.invariant-loop-slot
invariant-loop-slot l = record {
  named : l.out.labels ≡ l.fn.out.labels;
  rest : (low : ℕ) × SlotsRise low (length l.fn.out.labels) (drop l.slot-index l.slots) × IsFreeFrom low l.out;
  later : (u : Ms) → IsLater l.fn.out u → IsLater l.out u;
  steps : (front : List PlacedStep) (at : Ms) → l.fn.out.steps ≡ front ++ blank at ∷ []
      → l.out.steps ≡ front ++ record { at = at; slots = take l.slot-index l.slots; marks = no_marks } ∷ [];
}
