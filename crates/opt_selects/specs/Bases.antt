-- Which selector is the base of another: a selector of fewer rules at the same moment. (thanos-io/promql-engine, the optimiser that merges
-- selects; the choice among several is this project's own.)
use Rattle.std.specs.Prelude.{◌≡◌, ℕ, Bool, true, false, ◌&&◌, not, bytes_eq, List, Option, None, Some}
use Rattle.std.specs.List.{find, list_any}
use Rattle.std.specs.Option.{option_map}
use Rattle.std.specs.Ordering.{int_eq}
use Rattle.label_set.specs.Labels.{metric_name}
use Rattle.label_set.specs.declared.rules.Rule.{Rule}
use Rattle.label_set.specs.declared.rules.RuleKind.{RuleKind}
use Rattle.label_set.specs.declared.rules.RuleKind.TheVariants.{Eq}
use Rattle.promql_ast.specs.declared.tree.Fixed.{Fixed}
use Rattle.promql_ast.specs.declared.tree.Fixed.TheVariants.{At, Start, End}
use Rattle.promql_ast.specs.declared.tree.Moment.{Moment}
use Rattle.ticks.specs.declared.moment.Ms.{Ms}
use Rattle.logical_plan.specs.declared.nodes.PlanNode.{PlanNode}
use Rattle.logical_plan.specs.declared.nodes.PlanNode.TheVariants as node
use Rattle.logical_plan.specs.declared.nodes.PlanNode.TheOpen.{PlanNode-F}
use Rattle.logical_plan.specs.declared.nodes.PlanNode.TheViews.{roll-PlanNode}
use Rattle.logical_plan.specs.Lowering.{planned}
use Rattle.plan_rewrite.specs.Rebuilding.{Change}
use Rattle.plan_rewrite.specs.RuleLists.{has_rule, is_part, lacking}
use Rattle.opt_selects.specs.declared.found.Found.{Found}

abbrev pub same_fixed : Option Fixed → Option Fixed → Bool
same_fixed None None = true
same_fixed (Some (At a)) (Some (At b)) = int_eq a.0 b.0
same_fixed (Some Start) (Some Start) = true
same_fixed (Some End) (Some End) = true
same_fixed a b = false

abbrev pub same_flag : Bool → Bool → Bool
same_flag true b = b
same_flag false b = not b

abbrev pub same_moment : Moment → Moment → Bool
same_moment a b = same_fixed a.fixed b.fixed && int_eq a.offset.0 b.offset.0 && same_flag a.closed b.closed

-- the same range, or none on either side
abbrev pub same_range : Option Ms → Option Ms → Bool
same_range None None = true
same_range (Some a) (Some b) = int_eq a.0 b.0
same_range a b = false

abbrev pub is_equality : RuleKind → Bool
is_equality (Eq text) = true
is_equality kind = false

-- an `=` rule on the metric's name
abbrev pub names_metric : Rule → Bool
names_metric rule = bytes_eq rule.label metric_name && is_equality rule.kind

-- both lists have the same `=` rule on the metric's name
abbrev pub share_metric : List Rule → List Rule → Bool
share_metric a b = list_any (λ rule. names_metric rule && has_rule b rule) a

-- a selector is a base for rules at a moment and over a range: it has the same moment and range, the same rule on the metric's name,
-- and a proper part of the rules
abbrev pub is_base : List Rule → Moment → Option Ms → Found → Bool
is_base rules moment range a =
    same_moment a.moment moment && same_range a.range range && share_metric a.rules rules && is_part a.rules rules && not (is_part rules a.rules)

-- the rules of the first selector that is one
abbrev pub base_among : List Found → List Rule → Moment → Option Ms → Option (List Rule)
base_among found rules moment range = option_map (λ (a : Found). a.rules) (find (is_base rules moment range) found)

-- two selectors are alike: the same moment and range, and the same rules, whatever their order
abbrev pub is_alike : Found → Found → Bool
is_alike a b = same_moment a.moment b.moment && same_range a.range b.range && is_part a.rules b.rules && is_part b.rules a.rules

abbrev pub has_alike : List Found → Found → Bool
has_alike found one = list_any (λ a. is_alike a one) found

-- whatever the rules, the moment and the range, the base among some selectors is the one among others
abbrev pub HaveSameBases : List Found → List Found → Type 0
HaveSameBases some others = (rules : List Rule) (moment : Moment) (range : Option Ms) → base_among some rules moment range ≡ base_among others rules moment range

-- a selector over its base: at its own place the base, and a filter of the rules that the base lacks
abbrev pub over_base : ℕ → (List Rule → PlanNode) → List Rule → Option (List Rule) → PlanNode
over_base at leaf rules None = leaf rules
over_base at leaf rules (Some base) = node.Filter (planned at (leaf base)) (lacking base rules)

-- each selector that has a base among some stands over the first one; a selector whose own times a timestamp reads stays
abbrev pub merge_selects : List Found → Change
merge_selects found at (PlanNode-F.Select rules moment false) = over_base at (λ r. node.Select r moment false) rules (base_among found rules moment None)
merge_selects found at (PlanNode-F.Range rules moment range) = over_base at (λ r. node.Range r moment range) rules (base_among found rules moment (Some range))
merge_selects found at y = roll-PlanNode y
