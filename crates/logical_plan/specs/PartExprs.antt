-- The expression of a plan, which an engine is asked for, and which plans have one. (This project's own.)
use Rattle.std.specs.Prelude.{◌≡◌, ℕ, Bool, true, false, List, [], ◌∷◌, ◌++◌, map}
use Rattle.std.specs.List.{AllByRecursion}
use Rattle.func_table.specs.declared.table.Func.{Func}
use Rattle.func_table.specs.declared.table.Func.TheVariants as func
use Rattle.func_table.specs.declared.table.Element.{Element as ElementFunction}
use Rattle.func_table.specs.declared.table.Element.TheVariants.{Neg}
use Rattle.func_table.specs.declared.table.Window.{Window as WindowFunction}
use Rattle.func_table.specs.declared.table.Window.TheVariants.{QuantileOver}
use Rattle.func_table.specs.declared.table.Aggregate.{Aggregate as AggregateFunction}
use Rattle.func_table.specs.declared.table.Aggregate.TheVariants.{CountValues}
use Rattle.label_set.specs.declared.rules.PatternId.{PatternId}
use Rattle.label_set.specs.declared.rules.Relabel.{Relabel as Relabelling}
use Rattle.label_set.specs.declared.rules.Relabel.TheVariants as relabel
use Rattle.match_rule.specs.Patterns.{IsWholeId, is_kept}
use Rattle.promql_ast.specs.declared.refusal.QueryRefusal.{QueryRefusal}
use Rattle.promql_ast.specs.declared.tree.Expr.{Expr}
use Rattle.promql_ast.specs.declared.tree.Node.{Node}
use Rattle.promql_ast.specs.declared.tree.Node.TheVariants.{Number, Words, Paren, Negate, Select, Range, Subquery, Call, Aggregate, Pair, Set}
use Rattle.promql_ast.specs.declared.tree.Node.TheViews.{roll-Expr}
use Rattle.promql_ast.specs.declared.tree.Selector.{Selector}
use Rattle.promql_meaning.specs.Steadiness.{all_hold}
use Rattle.promql_type.specs.Answers.{IsLeastRefusal, refusals_of}
use Rattle.promql_type.specs.Judging.{judged}
use Rattle.promql_type.specs.Replacements.{Kept}
use Rattle.promql_type.specs.declared.replace.Replacement.{Replacement}
use Rattle.ticks.specs.declared.moment.Ms.{Ms}
use Rattle.logical_plan.specs.PlanRules.{pattern_text, selector_of}
use Rattle.logical_plan.specs.Validity.{IsValid, children, measured}
use Rattle.logical_plan.specs.declared.nodes.Plan.{Plan}
use Rattle.logical_plan.specs.declared.nodes.PlanNode.TheOpen.{PlanNode-F}
use Rattle.logical_plan.specs.declared.nodes.PlanNode.TheViews.{out-PlanNode}
use Rattle.logical_plan.specs.declared.nodes.PlanNode.TheFolds.{fold-Plan}

-- ---- the expression of a plan

-- the expression of a node at a place
abbrev pub expressed : ℕ → Node → Expr
expressed at n = roll-Expr (record { at = at; node = n })

-- a string at a place
abbrev pub worded : ℕ → List ℕ → Expr
worded at text = expressed at (Words text)

-- minus is a sign, the other functions are calls
abbrev pub element_expression : ElementFunction → Expr → List Expr → Node
element_expression Neg inner arguments = Negate inner
element_expression f inner arguments = Call (func.Element f) (inner ∷ arguments)

-- the scalar of quantile_over_time stands before the windows
abbrev pub window_expression : WindowFunction → Expr → List Expr → Node
window_expression QuantileOver inner arguments = Call (func.Window QuantileOver) (arguments ++ inner ∷ [])
window_expression f inner arguments = Call (func.Window f) (inner ∷ arguments)

-- the strings of a call stand at its own place; a pattern's text is the one that is kept under its number
abbrev pub relabel_expression : Kept → Relabelling → ℕ → Expr → Node
relabel_expression kept (relabel.Replace target template source pattern) at inner =
    Call func.LabelReplace (inner ∷ worded at target ∷ worded at template ∷ worded at source ∷ worded at (pattern_text kept pattern) ∷ [])
relabel_expression kept (relabel.Join target separator sources) at inner =
    Call func.LabelJoin (inner ∷ worded at target ∷ worded at separator ∷ map (worded at) sources)
relabel_expression kept (relabel.Filter rules) at inner = Paren inner

abbrev pub sort_function : Bool → Func
sort_function true = func.SortDesc
sort_function false = func.Sort

-- the label of count_values is its first argument
abbrev pub group_arguments : AggregateFunction → ℕ → List Expr → List ℕ → List Expr
group_arguments CountValues at arguments label = worded at label ∷ arguments
group_arguments f at arguments label = arguments

-- One node at a place, over the expressions of its children. Where a node has no expression of its own, that of its first child, or the
-- one that engines are asked for, stands for it in parentheses.
abbrev pub node_expression : Kept → PlanNode-F (ℕ → Expr) Expr → ℕ → Node
node_expression kept (PlanNode-F.Number value) at = Number value
node_expression kept PlanNode-F.Time at = Call func.Time []
node_expression kept (PlanNode-F.Select rules moment stamped) at = Select (selector_of rules moment)
node_expression kept (PlanNode-F.Range rules moment range) at = Range (selector_of rules moment) range
node_expression kept (PlanNode-F.Subquery inner range step moment) at = Subquery inner range step moment
node_expression kept (PlanNode-F.Element f inner arguments) at = element_expression f inner arguments
node_expression kept (PlanNode-F.Stamp inner) at = Call func.Timestamp (inner ∷ [])
node_expression kept (PlanNode-F.Window f inner arguments) at = window_expression f inner arguments
node_expression kept (PlanNode-F.Absent labels inner) at = Paren inner
node_expression kept (PlanNode-F.Buckets quantile inner) at = Call func.HistogramQuantile (quantile ∷ inner ∷ [])
node_expression kept (PlanNode-F.Relabel rule inner) at = relabel_expression kept rule at inner
node_expression kept (PlanNode-F.Sort down inner) at = Call (sort_function down) (inner ∷ [])
node_expression kept (PlanNode-F.ScalarOf inner) at = Call func.Scalar (inner ∷ [])
node_expression kept (PlanNode-F.VectorOf inner) at = Call func.Vector (inner ∷ [])
node_expression kept (PlanNode-F.Group f by arguments label) at = Aggregate f by (group_arguments f at arguments label)
node_expression kept (PlanNode-F.Pair op left right pairing) at = Pair op left right pairing
node_expression kept (PlanNode-F.Set op left right pairing) at = Set op left right pairing
node_expression kept (PlanNode-F.Filter base rules) at = Paren base
node_expression kept (PlanNode-F.Ratio sum count) at = Paren sum
node_expression kept (PlanNode-F.Once inner) at = Paren inner
node_expression kept (PlanNode-F.Gather expr kind engines) at = Paren expr

abbrev pub expression_step : Kept → PlanNode-F (ℕ → Expr) Expr → ℕ → Expr
expression_step kept y at = expressed at (node_expression kept y at)

-- the expression of a plan, where these patterns are kept
abbrev pub expression_of : Kept → Plan → Expr
expression_of kept = fold-Plan (ℕ → Expr) Expr (expression_step kept) (λ p. p.node p.at)

-- ---- plans that have one

-- a node that has an expression of its own, over such nodes
abbrev pub node_expressible : {A : Type 0} → PlanNode-F A Bool → Bool
node_expressible (PlanNode-F.Absent labels inner) = false
node_expressible (PlanNode-F.Filter base rules) = false
node_expressible (PlanNode-F.Ratio sum count) = false
node_expressible (PlanNode-F.Once inner) = false
node_expressible (PlanNode-F.Gather expr kind engines) = false
node_expressible y = all_hold (children y)

-- a plan has no Absent, Filter, Ratio, Once or Gather node
abbrev pub is_expressible : Plan → Bool
is_expressible = fold-Plan Bool Bool node_expressible (λ p. p.node)

abbrev pub is_subquery : {A B : Type 0} → PlanNode-F A B → Bool
is_subquery (PlanNode-F.Subquery inner range step moment) = true
is_subquery y = false

-- the pattern of a label_replace node is kept, for whole values
abbrev pub IsKeptWhole : Kept → ℕ × PatternId → Type 0
IsKeptWhole kept replaced = IsWholeId kept replaced.1.0

-- a plan that an engine can be asked for: a valid one of nodes that have expressions, no subquery itself, whose patterns are kept
pub record IsAskable (longest latest : ℕ) (kept : Kept) (p : Plan) : Type 0 where
  pub valid : IsValid longest latest p
  pub expressible : is_expressible p ≡ true
  pub no_subquery : is_subquery (out-PlanNode p.node) ≡ false
  pub patterns : AllByRecursion (IsKeptWhole kept) (measured p).replaced

-- ---- what is taken

pub record IsRangeSelector (e : Expr) : Type 0 where
  pub selector : Selector
  pub range : Ms
  pub is : e.node ≡ Range selector range

-- Checking takes a tree with these patterns: nothing refuses it, and the patterns of its label_replace calls are kept already. So no
-- refusal is one that it answers.
pub record IsTaken (kept : Kept) (e : Expr) : Type 0 where
  pub none : refusals_of e ≡ []
  pub patterns : AllByRecursion (λ (r : Replacement). is_kept (true, r.text) kept ≡ true) (judged e).replacements
  pub never : (after : Kept) (refusal : QueryRefusal) → IsLeastRefusal e kept after refusal → ⊥
