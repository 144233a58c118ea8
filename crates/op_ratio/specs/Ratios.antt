-- A sum divided by a count, over steps. (The quotient of an average that was split, by thanos-io/promql-engine: the rule is that
-- of plans.)
use Rattle.std.specs.Prelude.{List, [], ◌∷◌}
use Rattle.logical_plan.specs.PlanRules.{ratio}
use Rattle.step_table.specs.Timed.{StepAt}

-- the quotient of two steps of one instant
abbrev pub ratio_at : StepAt → StepAt → StepAt
ratio_at sum count = record { at = sum.at; step = ratio sum.step count.step }

-- what is lent of what is fed: of each step of the sum and the step of the count beside it their quotient
abbrev pub all_ratios : List StepAt → List StepAt → List StepAt
all_ratios (s ∷ sums) (c ∷ counts) = ratio_at s c ∷ all_ratios sums counts
all_ratios _ _ = []
