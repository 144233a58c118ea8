-- Rules that the two sides of an arithmetic operator hand each other: rows are paired by equal labels, so that a rule on a label of the one
-- side holds of each row of the other side that has a partner. (thanos-io/promql-engine, the optimiser that propagates matchers.)
use Rattle.std.specs.Prelude.{ℕ, Bool, true, false, ◌&&◌, not, bytes_eq, if◌then◌else◌, List, [], ◌∷◌, ◌++◌, filter, fold, Option, None, Some}
use Rattle.std.specs.List.{AllByRecursion}
use Rattle.label_set.specs.Labels.{IsLabelSet, metric_name}
use Rattle.label_set.specs.declared.rules.Card.{Card}
use Rattle.label_set.specs.declared.rules.Card.TheVariants.{GroupLeft, GroupRight, OneToOne}
use Rattle.label_set.specs.declared.rules.Pairing.{Pairing}
use Rattle.label_set.specs.declared.rules.Rule.{Rule}
use Rattle.label_set.specs.declared.rules.RuleKind.{RuleKind}
use Rattle.label_set.specs.declared.rules.RuleKind.TheVariants.{Eq}
use Rattle.promql_ast.specs.declared.tree.Moment.{Moment}
use Rattle.promql_meaning.specs.Selecting.{Asked, Samples}
use Rattle.step_table.specs.Groups.{Names}
use Rattle.xfrac.specs.declared.value.PairOp.{PairOp}
use Rattle.xfrac.specs.declared.value.PairOp.TheVariants.{Arith}
use Rattle.logical_plan.specs.Lowering.{planned}
use Rattle.logical_plan.specs.declared.nodes.Plan.{Plan}
use Rattle.logical_plan.specs.declared.nodes.PlanNode.{PlanNode}
use Rattle.logical_plan.specs.declared.nodes.PlanNode.TheVariants as node
use Rattle.logical_plan.specs.declared.nodes.PlanNode.TheOpen.{PlanNode-F}
use Rattle.logical_plan.specs.declared.nodes.PlanNode.TheViews.{out-PlanNode, roll-PlanNode}
use Rattle.plan_rewrite.specs.Rebuilding.{Change}
use Rattle.plan_rewrite.specs.RuleLists.{has_rule}

-- ---- the rules on a metric's name

abbrev pub is_on_metric : Rule → Bool
is_on_metric rule = bytes_eq rule.label metric_name

-- an `=` with a text that isn't empty
abbrev pub names_it : RuleKind → Bool
names_it (Eq (b ∷ text)) = true
names_it kind = false

abbrev pub is_one_name : List Rule → Bool
is_one_name (rule ∷ []) = names_it rule.kind
is_one_name rules = false

-- exactly one rule is on the metric's name, and it is an `=` with a text that isn't empty
abbrev pub names_metric : List Rule → Bool
names_metric rules = is_one_name (filter is_on_metric rules)

-- ---- what is handed

-- a rule behind rules, if it isn't among them
abbrev pub with_rule : List Rule → Rule → List Rule
with_rule rules rule = if has_rule rules rule then rules else rules ++ rule ∷ []

-- the rules that are on other labels than the metric's name
abbrev pub other_rules : List Rule → List Rule
other_rules rules = filter (λ (rule : Rule). not (is_on_metric rule)) rules

-- rules with those of others on other labels that they lack, in the order of the others
abbrev pub with_rules_of : List Rule → List Rule → List Rule
with_rules_of rules others = fold with_rule rules (other_rules others)

-- ---- where

-- an instant selector with its place
pub record Operand : Type 0 where
  pub at : ℕ
  pub rules : List Rule
  pub moment : Moment

-- a selector whose own times a timestamp reads is none
abbrev pub operand_at : ℕ → PlanNode-F PlanNode Plan → Option Operand
operand_at at (PlanNode-F.Select rules moment false) = Some (record { at = at; rules = rules; moment = moment })
operand_at at y = None

abbrev pub operand : Plan → Option Operand
operand p = operand_at p.at (out-PlanNode p.node)

abbrev pub is_one_to_one : Card → Bool
is_one_to_one OneToOne = true
is_one_to_one GroupLeft = false
is_one_to_one GroupRight = false

abbrev pub is_none_named : List (List ℕ) → Bool
is_none_named [] = true
is_none_named (name ∷ names) = false

-- one to one, without `on` and `ignoring`
abbrev pub is_plain : Pairing → Bool
is_plain pairing = not pairing.on && is_none_named pairing.names && is_one_to_one pairing.card

abbrev pub selecting : Operand → List Rule → Plan
selecting operand rules = planned operand.at (node.Select rules operand.moment false)

-- both sides with the rules of the other, where each names one metric
abbrev pub both_handed : Operand → Operand → Option (Plan × Plan)
both_handed a b =
    if names_metric a.rules && names_metric b.rules then Some (selecting a (with_rules_of a.rules b.rules), selecting b (with_rules_of b.rules a.rules)) else None

abbrev pub handed_over : Option Operand → Option Operand → Option (Plan × Plan)
handed_over (Some a) (Some b) = both_handed a b
handed_over a b = None

-- the two sides, where rules are handed over
abbrev pub handed : Pairing → Plan → Plan → Option (Plan × Plan)
handed pairing left right = if is_plain pairing then handed_over (operand left) (operand right) else None

abbrev pub pair_of : PairOp → Plan → Plan → Pairing → Option (Plan × Plan) → PlanNode
pair_of op left right pairing None = node.Pair op left right pairing
pair_of op left right pairing (Some sides) = node.Pair op sides.0 sides.1 pairing

-- the sides of each arithmetic operator hand each other their rules; no other node changes
abbrev pub hand_rules : Change
hand_rules at (PlanNode-F.Pair (Arith op) left right pairing) = pair_of (Arith op) left right pairing (handed pairing left right)
hand_rules at y = roll-PlanNode y

-- the labels of each series are a label set: names that rise, and no empty value
abbrev pub HaveLabelSets : Asked → Type 0
HaveLabelSets asked = AllByRecursion (λ (s : Names × Samples). IsLabelSet s.0) asked.samples
