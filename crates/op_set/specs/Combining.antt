-- Set operators between two vectors, over steps. (Prometheus querying, "Logical/set binary operators": the rule is that of
-- the meaning.)
use Rattle.std.specs.Prelude.{List, [], ◌∷◌}
use Rattle.func_table.specs.declared.table.SetOp.{SetOp}
use Rattle.label_set.specs.declared.rules.Pairing.{Pairing}
use Rattle.step_batch.specs.Lent.{Lent}
use Rattle.step_table.specs.Sets.{combined}
use Rattle.step_table.specs.Timed.{StepAt}

-- what an operator makes of two steps of one instant
abbrev pub combined_at : SetOp → Pairing → StepAt → StepAt → StepAt
combined_at op p l r = record { at = l.at; step = combined l.step r.step op p }

-- what is lent of what is fed: of each left step and the right step beside it what the operator makes of them
abbrev pub all_combined : SetOp → Pairing → List StepAt → List StepAt → List StepAt
all_combined op p (l ∷ left) (r ∷ right) = combined_at op p l r ∷ all_combined op p left right
all_combined op p _ _ = []

-- an operator, the labels that rows are matched by, and what is lent
pub record Combining : Type 0 where
  pub op : SetOp
  pub pairing : Pairing
  pub lent : Lent
