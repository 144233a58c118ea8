-- A plan behind the rewrites that are chosen. (The optimisers of thanos-io/promql-engine; their order is this project's own.)
use Rattle.std.specs.Prelude.{ℕ, Bool, true, false, List}
use Rattle.logical_plan.specs.declared.nodes.Plan.{Plan}
use Rattle.plan_rewrite.specs.Rebuilding.{rebuilt}
use Rattle.opt_matchers.specs.Handing.{hand_rules}
use Rattle.opt_matchers.specs.RuleOrder.{order_rules}
use Rattle.opt_selects.specs.Bases.{merge_selects}
use Rattle.opt_selects.specs.Selectors.{ordered, selectors}
use Rattle.opt_selects.specs.Trimming.{trim}
use Rattle.opt_split_avg.specs.Averages.{split_average}
use Rattle.plan_rewrites.specs.declared.choosing.Choices.{Choices}

-- a plan behind a rewrite, if that is chosen
abbrev pub chosen : Bool → (Plan → Plan) → Plan → Plan
chosen true rewrite p = rewrite p
chosen false rewrite p = p

-- each selector that has a base among the plan's selectors over it
abbrev pub merged : Plan → Plan
merged p = rebuilt (merge_selects (ordered (selectors p))) p

-- the rules of selectors are ordered, sides hand each other their rules, selectors are merged, sorts go, averages are split
abbrev pub rewrites : Choices → List (Bool × List ℕ) → Plan → Plan
rewrites choices kept p =
    chosen choices.avg (rebuilt split_average)
    (chosen choices.trim trim
    (chosen choices.merge merged
    (chosen choices.propagate (rebuilt hand_rules)
    (chosen choices.sort (rebuilt (order_rules kept)) p))))

-- those that a plan goes through before it is evaluated where one store holds all samples: no average is split
abbrev pub evaluating : Choices → Choices
evaluating choices = record { sort = choices.sort; propagate = choices.propagate; merge = choices.merge; trim = choices.trim; avg = false }
