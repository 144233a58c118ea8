-- A tree that is fed one instant alone, and its step at each instant.
use Rattle.std.proofs.Common.{◌≡◌, List, [], ◌∷◌, Option, None, Some}
use Rattle.op_labels.specs.Rules.{Kept}
use Rattle.step_batch.specs.Lent.{Lent, stages}
use Rattle.step_table.specs.Groups.{Names}
use Rattle.step_table.specs.Timed.{steps_over}
use Rattle.ticks.specs.declared.moment.Ms.{Ms}
use Rattle.plan_tree.specs.declared.turns.Fed.{Fed}
use Rattle.plan_tree.specs.Nodes.{IsRepeated}
use Rattle.plan_tree.specs.Shapes.{Shape, rule}
use Rattle.plan_tree.specs.Worlds.{World}

pub repeated_end : (w : World) (kept : Kept) (first : Ms) (shape : Shape) (lent : Lent) (labels : List Names) (fed : Option Fed)
    → stages lent ≡ steps_over (rule w kept shape) (first ∷ []) → labels ≡ lent.labels → IsRepeated w kept first shape lent labels fed
repeated_end w kept first shape lent labels None e n = tt
repeated_end w kept first shape lent labels (Some fed) e n = (e, n)
