-- Operators between two vectors, over steps. (Prometheus querying, operators: vector matching. The rule is that of steps.)
use Rattle.std.specs.Prelude.{◌≡◌, List, [], ◌∷◌, map}
use Rattle.label_set.specs.declared.rules.Pairing.{Pairing}
use Rattle.step_batch.specs.Lent.{Lent}
use Rattle.step_batch.specs.declared.steps.PlacedStep.{PlacedStep}
use Rattle.step_table.specs.Matching.{paired}
use Rattle.step_table.specs.Timed.{StepAt}
use Rattle.ticks.specs.declared.moment.Ms.{Ms}
use Rattle.xfrac.specs.declared.value.PairOp.{PairOp}

-- what an operator makes of the steps of both sides at one instant
abbrev pub joined_at : PairOp → Pairing → StepAt → StepAt → StepAt
joined_at op p l r = record { at = l.at; step = paired l.step r.step op p }

-- what is lent of what is fed: of each two steps what the operator makes of them
abbrev pub joined : PairOp → Pairing → List StepAt → List StepAt → List StepAt
joined op p (l ∷ left) (r ∷ right) = joined_at op p l r ∷ joined op p left right
joined op p _ _ = []

-- the instants of steps
abbrev pub instants : Lent → List Ms
instants lent = map (λ (s : PlacedStep). s.at) lent.steps

-- both sides have the same instants
abbrev pub AreTogether : Lent → Lent → Type 0
AreTogether left right = instants left ≡ instants right

-- an operator with its matching, and what is lent
pub record Joins : Type 0 where
  pub op : PairOp
  pub pairing : Pairing
  pub lent : Lent
