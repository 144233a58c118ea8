-- The plan of a typed tree: a node for each node, parentheses dropped. (This project's own.)
use Rattle.std.specs.Prelude.{◌≡◌, ℕ, Bool, true, false, ◌&&◌, List, [], ◌∷◌, ◌++◌, map, drop, slice_get, Option, None, Some}
use Rattle.std.specs.List.{AllByRecursion}
use Rattle.func_table.specs.declared.table.Func.{Func}
use Rattle.func_table.specs.declared.table.Func.TheVariants as func
use Rattle.func_table.specs.declared.table.Element.{Element}
use Rattle.func_table.specs.declared.table.Element.TheVariants.{Calendar, Neg}
use Rattle.func_table.specs.declared.table.Window.{Window as WindowFunction}
use Rattle.func_table.specs.declared.table.Window.TheVariants.{LastOver, PredictLinear, QuantileOver}
use Rattle.func_table.specs.declared.table.Aggregate.{Aggregate}
use Rattle.func_table.specs.declared.table.Aggregate.TheVariants.{TopK, CountValues}
use Rattle.label_set.specs.declared.rules.Grouping.{Grouping}
use Rattle.label_set.specs.declared.rules.PatternId.{PatternId}
use Rattle.label_set.specs.declared.rules.Relabel.TheVariants.{Replace, Join}
use Rattle.label_set.specs.declared.rules.Rule.{Rule}
use Rattle.promql_ast.specs.declared.tree.Expr.{Expr}
use Rattle.promql_ast.specs.declared.tree.Selector.{Selector}
use Rattle.promql_ast.specs.declared.tree.Node.TheOpen.{Node-F}
use Rattle.promql_ast.specs.declared.tree.Node.TheFolds.{fold-Expr}
use Rattle.promql_type.specs.TypedTrees.{pattern_at}
use Rattle.promql_type.specs.declared.replace.Placed.{Placed}
use Rattle.step_table.specs.Groups.{Names}
use Rattle.promql_meaning.specs.Absences.{absent_labels}
use Rattle.promql_meaning.specs.Meaning.{zero_number}
use Rattle.promql_meaning.specs.Results.{call_gives_scalar}
use Rattle.logical_plan.specs.PlanRules.{pattern_text}
use Rattle.logical_plan.specs.declared.nodes.Plan.{Plan}
use Rattle.logical_plan.specs.declared.nodes.PlanNode.{PlanNode}
use Rattle.logical_plan.specs.declared.nodes.PlanNode.TheVariants as node
use Rattle.logical_plan.specs.declared.nodes.PlanNode.TheViews.{roll-Plan}

-- the plan of a node at a place
abbrev pub planned : ℕ → PlanNode → Plan
planned at n = roll-Plan (record { at = at; node = n })

-- a label_replace call: its place, and the text of its pattern
pub record Replacing : Type 0 where
  pub at : ℕ
  pub text : List ℕ

-- What is known of a tree: its plan, by the numbers of the patterns at their places; parentheses dropped, the string that it is,
-- the rules of the selector that it is, and the instant selector that it is with its place; whether it gives windows, and whether a
-- scalar; and its label_replace calls, in the order of the text.
pub record Low : Type 0 where
  pub plan : List Placed → Plan
  pub words : List ℕ
  pub rules : List Rule
  pub selects : Option (ℕ × Selector)
  pub windows : Bool
  pub scalar : Bool
  pub calls : List Replacing

-- ---- arguments

-- no rows: the first none of one row
abbrev pub nothing_node : ℕ → PlanNode
nothing_node at =
    node.Group TopK (record { without = false; names = [] })
    (planned at (node.Number zero_number) ∷ planned at (node.VectorOf (planned at (node.Number zero_number))) ∷ []) []

-- a missing argument gives no rows
abbrev pub plan_or : ℕ → List Placed → Option Low → Plan
plan_or at placed None = planned at (nothing_node at)
plan_or at placed (Some low) = low.plan placed

abbrev pub plan_at : ℕ → List Placed → List Low → ℕ → Plan
plan_at at placed lows i = plan_or at placed (slice_get lows i)

abbrev pub words_or : Option Low → List ℕ
words_or None = []
words_or (Some low) = low.words

abbrev pub words_in : List Low → ℕ → List ℕ
words_in lows i = words_or (slice_get lows i)

abbrev pub rules_or : Option Low → List Rule
rules_or None = []
rules_or (Some low) = low.rules

abbrev pub selects_or : Option Low → Option (ℕ × Selector)
selects_or None = None
selects_or (Some low) = low.selects

abbrev pub windows_or : Option Low → Bool
windows_or None = false
windows_or (Some low) = low.windows

abbrev pub scalar_or : Option Low → Bool
scalar_or None = false
scalar_or (Some low) = low.scalar

abbrev pub plans_of : List Placed → List Low → List Plan
plans_of placed lows = map (λ (low : Low). low.plan placed) lows

abbrev pub all_words : List Low → List (List ℕ)
all_words lows = map (λ (low : Low). low.words) lows

abbrev pub all_calls : List Low → List Replacing
all_calls [] = []
all_calls (low ∷ lows) = low.calls ++ all_calls lows

-- ---- calls

-- vector(time()) where a calendar function is given nothing
abbrev pub instant_or : ℕ → List Placed → Option Low → Plan
instant_or at placed None = planned at (node.VectorOf (planned at node.Time))
instant_or at placed (Some low) = low.plan placed

-- minus keeps a scalar a scalar, and as a function gives a vector
abbrev pub minus_node : Bool → ℕ → Plan → PlanNode
minus_node true at inner = node.VectorOf (planned at (node.Element Neg inner []))
minus_node false at inner = node.Element Neg inner []

abbrev pub element_node : Element → ℕ → List Low → List Placed → PlanNode
element_node Neg at lows placed = minus_node (scalar_or (slice_get lows 0)) at (plan_at at placed lows 0)
element_node (Calendar part) at lows placed = node.Element (Calendar part) (instant_or at placed (slice_get lows 0)) (plans_of placed (drop 1 lows))
element_node f at lows placed = node.Element f (plan_at at placed lows 0) (plans_of placed (drop 1 lows))

abbrev pub window_node : WindowFunction → ℕ → List Low → List Placed → PlanNode
window_node PredictLinear at lows placed = node.Window PredictLinear (plan_at at placed lows 0) (plan_at at placed lows 1 ∷ [])
window_node QuantileOver at lows placed = node.Window QuantileOver (plan_at at placed lows 1) (plan_at at placed lows 0 ∷ [])
window_node f at lows placed = node.Window f (plan_at at placed lows 0) []

-- the timestamp of a selector reads the samples' own times
abbrev pub stamp_node : Option (ℕ × Selector) → Plan → PlanNode
stamp_node None inner = node.Stamp inner
stamp_node (Some own) inner = node.Stamp (planned own.0 (node.Select own.1.rules own.1.moment true))

-- absent_over_time stands over last_over_time, which keeps names; only a tree of wrong types has no windows there
abbrev pub absent_over_node : Bool → Option Names → ℕ → Plan → PlanNode
absent_over_node true labels at inner = node.Absent labels (planned at (node.Window LastOver inner []))
absent_over_node false labels at inner = node.Absent labels inner

-- the number of a pattern; a call without one, as no typed tree has, gets the first
abbrev pub pattern_or : Option PatternId → PatternId
pattern_or None = record { 0 = 0 }
pattern_or (Some id) = id

abbrev pub replace_node : ℕ → List Low → List Placed → PlanNode
replace_node at lows placed =
    node.Relabel (Replace (words_in lows 1) (words_in lows 2) (words_in lows 3) (pattern_or (pattern_at placed at))) (plan_at at placed lows 0)

abbrev pub join_node : ℕ → List Low → List Placed → PlanNode
join_node at lows placed = node.Relabel (Join (words_in lows 1) (words_in lows 2) (all_words (drop 3 lows))) (plan_at at placed lows 0)

abbrev pub call_node : Func → ℕ → List Low → List Placed → PlanNode
call_node (func.Element f) at lows placed = element_node f at lows placed
call_node (func.Window f) at lows placed = window_node f at lows placed
call_node func.Absent at lows placed = node.Absent (absent_labels (rules_or (slice_get lows 0))) (plan_at at placed lows 0)
call_node func.AbsentOver at lows placed =
    absent_over_node (windows_or (slice_get lows 0)) (absent_labels (rules_or (slice_get lows 0))) at (plan_at at placed lows 0)
call_node func.HistogramQuantile at lows placed = node.Buckets (plan_at at placed lows 0) (plan_at at placed lows 1)
call_node func.LabelJoin at lows placed = join_node at lows placed
call_node func.LabelReplace at lows placed = replace_node at lows placed
call_node func.Scalar at lows placed = node.ScalarOf (plan_at at placed lows 0)
call_node func.Sort at lows placed = node.Sort false (plan_at at placed lows 0)
call_node func.SortDesc at lows placed = node.Sort true (plan_at at placed lows 0)
call_node func.Time at lows placed = node.Time
call_node func.Timestamp at lows placed = stamp_node (selects_or (slice_get lows 0)) (plan_at at placed lows 0)
call_node func.Vector at lows placed = node.VectorOf (plan_at at placed lows 0)

-- the call itself, where it is one of label_replace
abbrev pub own_call : Func → ℕ → List Low → List Replacing
own_call func.LabelReplace at lows = record { at = at; text = words_in lows 4 } ∷ []
own_call f at lows = []

abbrev pub group_node : Aggregate → Grouping → ℕ → List Low → List Placed → PlanNode
group_node CountValues by at lows placed = node.Group CountValues by (plan_at at placed lows 1 ∷ []) (words_in lows 0)
group_node f by at lows placed = node.Group f by (plans_of placed lows) []

-- ---- the plan

-- a tree that is neither a string nor a selector, and gives no windows; it may give a scalar
abbrev pub simple : Bool → ℕ → (List Placed → PlanNode) → List Replacing → Low
simple scalar at n calls =
    record { plan = λ placed. planned at (n placed); words = []; rules = []; selects = None; windows = false; scalar = scalar; calls = calls }

abbrev pub low_node : Node-F (ℕ → Low) Low → ℕ → Low
low_node (Node-F.Number value) at = simple true at (λ placed. node.Number value) []
low_node (Node-F.Words text) at = record (simple false at (λ placed. nothing_node at) []) { words = text }
low_node (Node-F.Paren inner) at = inner
low_node (Node-F.Negate inner) at = simple inner.scalar at (λ placed. node.Element Neg (inner.plan placed) []) inner.calls
low_node (Node-F.Select selector) at =
    record (simple false at (λ placed. node.Select selector.rules selector.moment false) []) { rules = selector.rules; selects = Some (at, selector) }
low_node (Node-F.Range selector range) at =
    record (simple false at (λ placed. node.Range selector.rules selector.moment range) []) { rules = selector.rules; windows = true }
low_node (Node-F.Subquery inner range step moment) at =
    record (simple false at (λ placed. node.Subquery (inner.plan placed) range step moment) inner.calls) { windows = true }
low_node (Node-F.Call f lows) at = simple (call_gives_scalar f) at (call_node f at lows) (all_calls lows ++ own_call f at lows)
low_node (Node-F.Aggregate f by lows) at = simple false at (group_node f by at lows) (all_calls lows)
low_node (Node-F.Pair op left right pairing) at =
    simple (left.scalar && right.scalar) at (λ placed. node.Pair op (left.plan placed) (right.plan placed) pairing) (left.calls ++ right.calls)
low_node (Node-F.Set op left right pairing) at =
    simple false at (λ placed. node.Set op (left.plan placed) (right.plan placed) pairing) (left.calls ++ right.calls)

abbrev pub low : Expr → Low
low = fold-Expr (ℕ → Low) Low low_node (λ e. e.node e.at)

-- the plan of a tree whose label_replace calls have their patterns at these places
abbrev pub lowered : List Placed → Expr → Plan
lowered placed e = (low e).plan placed

-- the pattern that is found at the place of a call is its own
abbrev pub HasItsPlace : List (Bool × List ℕ) → List Placed → Replacing → Type 0
HasItsPlace kept placed call = pattern_text kept (pattern_or (pattern_at placed call.at)) ≡ call.text

-- so is that of each label_replace call of a tree
abbrev pub PatternsArePlaced : List (Bool × List ℕ) → List Placed → Expr → Type 0
PatternsArePlaced kept placed e = AllByRecursion (HasItsPlace kept placed) (low e).calls
