-- The order of a selector's rules. (thanos-io/promql-engine, the optimiser that sorts matchers, for labels; the order of one label's
-- rules is this project's own.)
use Rattle.std.specs.Prelude.{ℕ, Bool, List, [], fold}
use Rattle.std.specs.Ordering.{is_lt, nat_cmp, ordering_then}
use Rattle.std.specs.declared.cmp.Ordering.{Ordering}
use Rattle.label_set.specs.Labels.{byte_cmp}
use Rattle.label_set.specs.declared.rules.Rule.{Rule}
use Rattle.label_set.specs.declared.rules.RuleKind.{RuleKind}
use Rattle.label_set.specs.declared.rules.RuleKind.TheVariants.{Eq, Ne, Re, Nre}
use Rattle.logical_plan.specs.PlanRules.{pattern_text}
use Rattle.logical_plan.specs.declared.nodes.PlanNode.TheVariants as node
use Rattle.logical_plan.specs.declared.nodes.PlanNode.TheOpen.{PlanNode-F}
use Rattle.logical_plan.specs.declared.nodes.PlanNode.TheViews.{roll-PlanNode}
use Rattle.plan_rewrite.specs.Rebuilding.{Change}
use Rattle.window_fn.specs.Aggregates.{inserted}

-- `=`, `!=`, `=~`, `!~`
abbrev pub kind_rank : RuleKind → ℕ
kind_rank (Eq text) = 0
kind_rank (Ne text) = 1
kind_rank (Re id) = 2
kind_rank (Nre id) = 3

-- the text of a kind's pattern; a kind without one has the empty text
abbrev pub pattern_of : List (Bool × List ℕ) → RuleKind → List ℕ
pattern_of kept (Eq text) = []
pattern_of kept (Ne text) = []
pattern_of kept (Re id) = pattern_text kept id
pattern_of kept (Nre id) = pattern_text kept id

-- what values are compared with, under the text of the kind's pattern
abbrev pub compared : List ℕ → RuleKind → List ℕ
compared pattern (Eq text) = text
compared pattern (Ne text) = text
compared pattern (Re id) = pattern
compared pattern (Nre id) = pattern

-- by label, in byte order, then by kind, then by text
abbrev pub order_with : List ℕ → List ℕ → Rule → Rule → Ordering
order_with pattern_a pattern_b a b =
    ordering_then (byte_cmp a.label b.label)
    (ordering_then (nat_cmp (kind_rank a.kind) (kind_rank b.kind)) (byte_cmp (compared pattern_a a.kind) (compared pattern_b b.kind)))

abbrev pub comes_before : List (Bool × List ℕ) → Rule → Rule → Bool
comes_before kept a b = is_lt (order_with (pattern_of kept a.kind) (pattern_of kept b.kind) a b)

abbrev pub ordered_rules : List (Bool × List ℕ) → List Rule → List Rule
ordered_rules kept rules = fold (inserted (comes_before kept)) [] rules

-- the rules of each selector in their order; no other node changes
abbrev pub order_rules : List (Bool × List ℕ) → Change
order_rules kept at (PlanNode-F.Select rules moment stamped) = node.Select (ordered_rules kept rules) moment stamped
order_rules kept at (PlanNode-F.Range rules moment range) = node.Range (ordered_rules kept rules) moment range
order_rules kept at y = roll-PlanNode y
