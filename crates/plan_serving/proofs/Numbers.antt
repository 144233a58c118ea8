-- The plan of a tree that gives a scalar or a vector gives one.
use Rattle.std.proofs.Common.{◌≡◌, ◌∙◌, ℕ, List, [], map, ap, sym, refl, subst, Bool, true, false}
use Rattle.std.specs.Prelude.{not, ◌&&◌, ◌||◌, slice_get, Option, Some, None}
use Rattle.func_table.specs.declared.table.Element.{Element as ElementFunction}
use Rattle.func_table.specs.declared.table.Element.TheVariants as element
use Rattle.func_table.specs.declared.table.Window.{Window as WindowFunction}
use Rattle.func_table.specs.declared.table.Window.TheVariants as window
use Rattle.func_table.specs.declared.table.Func.{Func}
use Rattle.func_table.specs.declared.table.Func.TheVariants as func
use Rattle.func_table.specs.declared.table.Aggregate.{Aggregate as AggregateFunction}
use Rattle.func_table.specs.declared.table.Aggregate.TheVariants as aggregate
use Rattle.label_set.specs.declared.rules.Grouping.{Grouping}
use Rattle.promql_ast.specs.declared.tree.Expr.{Expr}
use Rattle.promql_ast.specs.declared.tree.Node.{Node}
use Rattle.promql_ast.specs.declared.tree.Selector.{Selector}
use Rattle.promql_ast.specs.declared.tree.Node.TheOpen.{Node-F}
use Rattle.promql_ast.specs.declared.tree.Node.TheViews.{roll-Node, roll-Expr}
use Rattle.promql_ast.specs.declared.tree.Node.TheFolds.{map-Node, fold-Node, fold-roll-Node, fold-roll-Expr, ind-Expr}
use Rattle.promql_type.specs.Judging.{Judgement, expr_step, judged, node_step}
use Rattle.promql_type.specs.Kinds.{both, is_number}
use Rattle.promql_type.specs.declared.kind.Kind.{Kind}
use Rattle.promql_type.specs.declared.kind.Kind.TheVariants.{Scalar, Vector, Windows, Words}
use Rattle.promql_type.specs.declared.replace.Placed.{Placed}
use Rattle.logical_plan.specs.declared.nodes.Plan.{Plan}
use Rattle.logical_plan.specs.declared.nodes.PlanNode.{PlanNode}
use Rattle.logical_plan.specs.declared.nodes.PlanNode.TheOpen.{PlanNode-F}
use Rattle.logical_plan.specs.declared.nodes.PlanNode.TheViews.{out-PlanNode}
use Rattle.logical_plan.specs.declared.nodes.PlanNode.TheFolds.{fold-Plan, fold-PlanNode, map-PlanNode}
use Rattle.logical_plan.specs.Lowering.{Low, absent_over_node, call_node, element_node, group_node, low, low_node, lowered, minus_node, nothing_node, planned, scalar_or, selects_or, stamp_node, window_node, windows_or}
use Rattle.logical_plan.specs.Onces.{Onced, node_over, once_node, once_of, placed_over, placed_plan, with_onces, wrapped}
use Rattle.logical_plan.specs.PlanFolds.{by_node, of-Number, of-Time, of-Select, of-Element, of-Stamp, of-Window, of-Absent, of-Buckets, of-Relabel, of-Sort, of-ScalarOf, of-VectorOf, of-Group, of-Pair, of-Set, of-Ratio, of-Once}
use Rattle.logical_plan.specs.PlanTypes.{Typing, element_kind, node_typing, typing}
use Rattle.logical_plan.specs.Steadiness.{is_once, node_facts}
use Rattle.plan_serving.specs.ServingLaws.{LoweredPlansGiveNumbers}

-- a node that gives a scalar or a vector, whatever stands under it
abbrev is_root : {A B : Type 0} → PlanNode-F A B → Bool
is_root (PlanNode-F.Number value) = true
is_root PlanNode-F.Time = true
is_root (PlanNode-F.Select rules moment stamped) = true
is_root (PlanNode-F.Range rules moment range) = false
is_root (PlanNode-F.Subquery c range step moment) = false
is_root (PlanNode-F.Element f c cs) = true
is_root (PlanNode-F.Stamp c) = true
is_root (PlanNode-F.Window f c cs) = true
is_root (PlanNode-F.Absent labels c) = true
is_root (PlanNode-F.Buckets c d) = true
is_root (PlanNode-F.Relabel rule c) = true
is_root (PlanNode-F.Sort down c) = true
is_root (PlanNode-F.ScalarOf c) = true
is_root (PlanNode-F.VectorOf c) = true
is_root (PlanNode-F.Group f by cs label) = true
is_root (PlanNode-F.Pair op c d pairing) = true
is_root (PlanNode-F.Set op c d pairing) = true
is_root (PlanNode-F.Filter c rules) = false
is_root (PlanNode-F.Ratio c d) = true
is_root (PlanNode-F.Once c) = false
is_root (PlanNode-F.Gather expr kind engines) = false

abbrev root : Plan → Bool
root = fold-Plan Bool Bool is_root (λ p. p.node)

abbrev IsNumber : Plan → Type 0
IsNumber p = is_number (typing p).kind ≡ true

number_both : (a b : Kind) → is_number (both a b) ≡ true
number_both Scalar Scalar = refl
number_both Scalar Vector = refl
number_both Scalar Windows = refl
number_both Scalar Words = refl
number_both Vector b = refl
number_both Windows b = refl
number_both Words b = refl

number_element : (f : ElementFunction) (k : Kind) → is_number (element_kind f k) ≡ true
number_element element.Neg k = number_both k k
number_element element.Abs k = refl
number_element element.Ceil k = refl
number_element element.Floor k = refl
number_element element.Round k = refl
number_element element.Sgn k = refl
number_element element.Clamp k = refl
number_element element.ClampMin k = refl
number_element element.ClampMax k = refl
number_element (element.Calendar part) k = refl

number_of : (p : Plan) (t : Typing) → typing p ≡ t → is_number t.kind ≡ true → IsNumber p
number_of p t is number = ap (λ (t : Typing). is_number t.kind) is ∙ number

-- ---- with Once nodes

over_number : (at : ℕ) (y : PlanNode-F (ℕ → Onced) Onced) (b : Bool) → is_root y ≡ true → IsNumber (planned at (node_over (λ (o : Onced). o.plan b) y))
over_number at (PlanNode-F.Number value) b is = number_of _ _ (of-Number node_typing (λ p. p.node) at value) refl
over_number at PlanNode-F.Time b is = number_of _ _ (of-Time node_typing (λ p. p.node) at) refl
over_number at (PlanNode-F.Select rules moment stamped) b is = number_of _ _ (of-Select node_typing (λ p. p.node) at rules moment stamped) refl
over_number at (PlanNode-F.Range rules moment range) b is = absurd (cc)
over_number at (PlanNode-F.Subquery c range step moment) b is = absurd (cc)
over_number at (PlanNode-F.Element f c cs) b is = number_of _ _ (of-Element node_typing (λ p. p.node) at f (c.plan b) (map (λ (o : Onced). o.plan b) cs)) (number_element f (typing (c.plan b)).kind)
over_number at (PlanNode-F.Stamp c) b is = number_of _ _ (of-Stamp node_typing (λ p. p.node) at (c.plan b)) refl
over_number at (PlanNode-F.Window f c cs) b is = number_of _ _ (of-Window node_typing (λ p. p.node) at f (c.plan b) (map (λ (o : Onced). o.plan b) cs)) refl
over_number at (PlanNode-F.Absent labels c) b is = number_of _ _ (of-Absent node_typing (λ p. p.node) at labels (c.plan b)) refl
over_number at (PlanNode-F.Buckets c d) b is = number_of _ _ (of-Buckets node_typing (λ p. p.node) at (c.plan b) (d.plan b)) refl
over_number at (PlanNode-F.Relabel rule c) b is = number_of _ _ (of-Relabel node_typing (λ p. p.node) at rule (c.plan b)) refl
over_number at (PlanNode-F.Sort down c) b is = number_of _ _ (of-Sort node_typing (λ p. p.node) at down (c.plan b)) refl
over_number at (PlanNode-F.ScalarOf c) b is = number_of _ _ (of-ScalarOf node_typing (λ p. p.node) at (c.plan b)) refl
over_number at (PlanNode-F.VectorOf c) b is = number_of _ _ (of-VectorOf node_typing (λ p. p.node) at (c.plan b)) refl
over_number at (PlanNode-F.Group f by cs label) b is = number_of _ _ (of-Group node_typing (λ p. p.node) at f by (map (λ (o : Onced). o.plan b) cs) label) refl
over_number at (PlanNode-F.Pair op c d pairing) b is = number_of _ _ (of-Pair node_typing (λ p. p.node) at op (c.plan b) (d.plan b) pairing) (number_both (typing (c.plan b)).kind (typing (d.plan b)).kind)
over_number at (PlanNode-F.Set op c d pairing) b is = number_of _ _ (of-Set node_typing (λ p. p.node) at op (c.plan b) (d.plan b) pairing) refl
over_number at (PlanNode-F.Filter c rules) b is = absurd (cc)
over_number at (PlanNode-F.Ratio c d) b is = number_of _ _ (of-Ratio node_typing (λ p. p.node) at (c.plan b) (d.plan b)) refl
over_number at (PlanNode-F.Once c) b is = absurd (cc)
over_number at (PlanNode-F.Gather expr kind engines) b is = absurd (cc)

wrapped_number : (once : Bool) (at : ℕ) (n : PlanNode) → IsNumber (planned at n) → IsNumber (wrapped once at n)
wrapped_number true at n number = number_of _ _ (of-Once node_typing (λ p. p.node) at (planned at n)) number
wrapped_number false at n number = number

under_number : (at : ℕ) (y : PlanNode-F (ℕ → Onced) Onced) (inside : Bool) → is_root y ≡ true → IsNumber (placed_over y at inside)
under_number at y inside is =
    let once = not inside && is_once (node_facts (λ (o : Onced). o.facts) y) in
    wrapped_number once at (node_over (λ (o : Onced). o.plan (inside || once)) y) (over_number at y (inside || once) is)

placed_number : (at : ℕ) (y : PlanNode-F (ℕ → Onced) Onced) (inside : Bool) → is_root y ≡ true → IsNumber (placed_plan y at inside)
placed_number at (PlanNode-F.Number value) inside is = under_number at (PlanNode-F.Number value) inside is
placed_number at PlanNode-F.Time inside is = under_number at PlanNode-F.Time inside is
placed_number at (PlanNode-F.Select rules moment stamped) inside is = under_number at (PlanNode-F.Select rules moment stamped) inside is
placed_number at (PlanNode-F.Range rules moment range) inside is = absurd (cc)
placed_number at (PlanNode-F.Subquery c range step moment) inside is = absurd (cc)
placed_number at (PlanNode-F.Element f c cs) inside is = under_number at (PlanNode-F.Element f c cs) inside is
placed_number at (PlanNode-F.Stamp c) inside is = under_number at (PlanNode-F.Stamp c) inside is
placed_number at (PlanNode-F.Window f c cs) inside is = under_number at (PlanNode-F.Window f c cs) inside is
placed_number at (PlanNode-F.Absent labels c) inside is = under_number at (PlanNode-F.Absent labels c) inside is
placed_number at (PlanNode-F.Buckets c d) inside is = under_number at (PlanNode-F.Buckets c d) inside is
placed_number at (PlanNode-F.Relabel rule c) inside is = under_number at (PlanNode-F.Relabel rule c) inside is
placed_number at (PlanNode-F.Sort down c) inside is = under_number at (PlanNode-F.Sort down c) inside is
placed_number at (PlanNode-F.ScalarOf c) inside is = under_number at (PlanNode-F.ScalarOf c) inside is
placed_number at (PlanNode-F.VectorOf c) inside is = under_number at (PlanNode-F.VectorOf c) inside is
placed_number at (PlanNode-F.Group f by cs label) inside is = under_number at (PlanNode-F.Group f by cs label) inside is
placed_number at (PlanNode-F.Pair op c d pairing) inside is = under_number at (PlanNode-F.Pair op c d pairing) inside is
placed_number at (PlanNode-F.Set op c d pairing) inside is = under_number at (PlanNode-F.Set op c d pairing) inside is
placed_number at (PlanNode-F.Filter c rules) inside is = absurd (cc)
placed_number at (PlanNode-F.Ratio c d) inside is = under_number at (PlanNode-F.Ratio c d) inside is
placed_number at (PlanNode-F.Once c) inside is = absurd (cc)
placed_number at (PlanNode-F.Gather expr kind engines) inside is = absurd (cc)

module _ {A B C D : Type 0} (f : PlanNode → A) (g : Plan → B) (h : PlanNode → C) (i : Plan → D) where
  same_root : (y : PlanNode-F PlanNode Plan) → is_root (map-PlanNode PlanNode Plan A B f g y) ≡ is_root (map-PlanNode PlanNode Plan C D h i y)
  same_root (PlanNode-F.Number value) = refl
  same_root PlanNode-F.Time = refl
  same_root (PlanNode-F.Select rules moment stamped) = refl
  same_root (PlanNode-F.Range rules moment range) = refl
  same_root (PlanNode-F.Subquery c range step moment) = refl
  same_root (PlanNode-F.Element f c cs) = refl
  same_root (PlanNode-F.Stamp c) = refl
  same_root (PlanNode-F.Window f c cs) = refl
  same_root (PlanNode-F.Absent labels c) = refl
  same_root (PlanNode-F.Buckets c d) = refl
  same_root (PlanNode-F.Relabel rule c) = refl
  same_root (PlanNode-F.Sort down c) = refl
  same_root (PlanNode-F.ScalarOf c) = refl
  same_root (PlanNode-F.VectorOf c) = refl
  same_root (PlanNode-F.Group f by cs label) = refl
  same_root (PlanNode-F.Pair op c d pairing) = refl
  same_root (PlanNode-F.Set op c d pairing) = refl
  same_root (PlanNode-F.Filter c rules) = refl
  same_root (PlanNode-F.Ratio c d) = refl
  same_root (PlanNode-F.Once c) = refl
  same_root (PlanNode-F.Gather expr kind engines) = refl

with_root : (p : Plan) → root p ≡ true → IsNumber (with_onces p)
with_root p is =
    let y = out-PlanNode p.node in
    let in_root : PlanNode → Bool = fold-PlanNode Bool Bool is_root (λ p. p.node) in
    let in_onces : PlanNode → ℕ → Onced = fold-PlanNode (ℕ → Onced) Onced once_node (λ p. p.node p.at) in
    let own : is_root (map-PlanNode PlanNode Plan (ℕ → Onced) Onced in_onces once_of y) ≡ true =
    same_root in_onces once_of in_root root y ∙ sym (by_node is_root (λ p. p.node) p) ∙ is in
    subst (λ (o : Onced). IsNumber (o.plan false)) (sym (by_node once_node (λ p. p.node p.at) p)) (placed_number p.at (map-PlanNode PlanNode Plan (ℕ → Onced) Onced in_onces once_of y) false own)

-- ---- trees

abbrev HasRoot : ℕ → PlanNode → Type 0
HasRoot at n = root (planned at n) ≡ true

nothing_root : (at : ℕ) → HasRoot at (nothing_node at)
nothing_root at = of-Group is_root (λ p. p.node) at aggregate.TopK (record { without = false; names = [] }) _ []

minus_root : (at : ℕ) (scalar : Bool) (p : Plan) → HasRoot at (minus_node scalar at p)
minus_root at true p = of-VectorOf is_root (λ p. p.node) at _
minus_root at false p = of-Element is_root (λ p. p.node) at element.Neg p []

element_root : (at : ℕ) (f : ElementFunction) (ls : List Low) (placed : List Placed) → HasRoot at (element_node f at ls placed)
element_root at element.Abs ls placed = of-Element is_root (λ p. p.node) at element.Abs _ _
element_root at element.Ceil ls placed = of-Element is_root (λ p. p.node) at element.Ceil _ _
element_root at element.Floor ls placed = of-Element is_root (λ p. p.node) at element.Floor _ _
element_root at element.Round ls placed = of-Element is_root (λ p. p.node) at element.Round _ _
element_root at element.Sgn ls placed = of-Element is_root (λ p. p.node) at element.Sgn _ _
element_root at element.Clamp ls placed = of-Element is_root (λ p. p.node) at element.Clamp _ _
element_root at element.ClampMin ls placed = of-Element is_root (λ p. p.node) at element.ClampMin _ _
element_root at element.ClampMax ls placed = of-Element is_root (λ p. p.node) at element.ClampMax _ _
element_root at element.Neg ls placed = minus_root at (scalar_or (slice_get ls 0)) _
element_root at (element.Calendar part) ls placed = of-Element is_root (λ p. p.node) at (element.Calendar part) _ _

window_root : (at : ℕ) (f : WindowFunction) (ls : List Low) (placed : List Placed) → HasRoot at (window_node f at ls placed)
window_root at window.Rate ls placed = of-Window is_root (λ p. p.node) at window.Rate _ _
window_root at window.Increase ls placed = of-Window is_root (λ p. p.node) at window.Increase _ _
window_root at window.Delta ls placed = of-Window is_root (λ p. p.node) at window.Delta _ _
window_root at window.Irate ls placed = of-Window is_root (λ p. p.node) at window.Irate _ _
window_root at window.Idelta ls placed = of-Window is_root (λ p. p.node) at window.Idelta _ _
window_root at window.Deriv ls placed = of-Window is_root (λ p. p.node) at window.Deriv _ _
window_root at window.PredictLinear ls placed = of-Window is_root (λ p. p.node) at window.PredictLinear _ _
window_root at window.Changes ls placed = of-Window is_root (λ p. p.node) at window.Changes _ _
window_root at window.Resets ls placed = of-Window is_root (λ p. p.node) at window.Resets _ _
window_root at window.AvgOver ls placed = of-Window is_root (λ p. p.node) at window.AvgOver _ _
window_root at window.MinOver ls placed = of-Window is_root (λ p. p.node) at window.MinOver _ _
window_root at window.MaxOver ls placed = of-Window is_root (λ p. p.node) at window.MaxOver _ _
window_root at window.SumOver ls placed = of-Window is_root (λ p. p.node) at window.SumOver _ _
window_root at window.CountOver ls placed = of-Window is_root (λ p. p.node) at window.CountOver _ _
window_root at window.StdvarOver ls placed = of-Window is_root (λ p. p.node) at window.StdvarOver _ _
window_root at window.QuantileOver ls placed = of-Window is_root (λ p. p.node) at window.QuantileOver _ _
window_root at window.LastOver ls placed = of-Window is_root (λ p. p.node) at window.LastOver _ _
window_root at window.PresentOver ls placed = of-Window is_root (λ p. p.node) at window.PresentOver _ _

absent_over_root : (at : ℕ) (windows : Bool) (labels : _) (p : Plan) → HasRoot at (absent_over_node windows labels at p)
absent_over_root at true labels p = of-Absent is_root (λ p. p.node) at labels _
absent_over_root at false labels p = of-Absent is_root (λ p. p.node) at labels p

stamp_root : (at : ℕ) (selects : Option (ℕ × Selector)) (p : Plan) → HasRoot at (stamp_node selects p)
stamp_root at None p = of-Stamp is_root (λ p. p.node) at p
stamp_root at (Some own) p = of-Stamp is_root (λ p. p.node) at _

call_root : (at : ℕ) (f : Func) (ls : List Low) (placed : List Placed) → HasRoot at (call_node f at ls placed)
call_root at (func.Element f) ls placed = element_root at f ls placed
call_root at (func.Window f) ls placed = window_root at f ls placed
call_root at func.Absent ls placed = of-Absent is_root (λ p. p.node) at _ _
call_root at func.AbsentOver ls placed = absent_over_root at (windows_or (slice_get ls 0)) _ _
call_root at func.HistogramQuantile ls placed = of-Buckets is_root (λ p. p.node) at _ _
call_root at func.LabelJoin ls placed = of-Relabel is_root (λ p. p.node) at _ _
call_root at func.LabelReplace ls placed = of-Relabel is_root (λ p. p.node) at _ _
call_root at func.Scalar ls placed = of-ScalarOf is_root (λ p. p.node) at _
call_root at func.Sort ls placed = of-Sort is_root (λ p. p.node) at false _
call_root at func.SortDesc ls placed = of-Sort is_root (λ p. p.node) at true _
call_root at func.Time ls placed = of-Time is_root (λ p. p.node) at
call_root at func.Timestamp ls placed = stamp_root at (selects_or (slice_get ls 0)) _
call_root at func.Vector ls placed = of-VectorOf is_root (λ p. p.node) at _

group_root : (at : ℕ) (f : AggregateFunction) (by : Grouping) (ls : List Low) (placed : List Placed) → HasRoot at (group_node f by at ls placed)
group_root at aggregate.Sum by ls placed = of-Group is_root (λ p. p.node) at aggregate.Sum by _ _
group_root at aggregate.Avg by ls placed = of-Group is_root (λ p. p.node) at aggregate.Avg by _ _
group_root at aggregate.Min by ls placed = of-Group is_root (λ p. p.node) at aggregate.Min by _ _
group_root at aggregate.Max by ls placed = of-Group is_root (λ p. p.node) at aggregate.Max by _ _
group_root at aggregate.Count by ls placed = of-Group is_root (λ p. p.node) at aggregate.Count by _ _
group_root at aggregate.Group by ls placed = of-Group is_root (λ p. p.node) at aggregate.Group by _ _
group_root at aggregate.Stdvar by ls placed = of-Group is_root (λ p. p.node) at aggregate.Stdvar by _ _
group_root at aggregate.TopK by ls placed = of-Group is_root (λ p. p.node) at aggregate.TopK by _ _
group_root at aggregate.BottomK by ls placed = of-Group is_root (λ p. p.node) at aggregate.BottomK by _ _
group_root at aggregate.Quantile by ls placed = of-Group is_root (λ p. p.node) at aggregate.Quantile by _ _
group_root at aggregate.CountValues by ls placed = of-Group is_root (λ p. p.node) at aggregate.CountValues by _ _

module _ (placed : List Placed) where
  abbrev IsTold : Low → Judgement → Type 0
  IsTold l j = is_number j.operand.gives ≡ true → root (l.plan placed) ≡ true

  abbrev IsKept : Expr → Type 0
  IsKept e = IsTold (low e) (judged e)

  abbrev At : Type 0
  At = ℕ → Judgement

  abbrev low_in : Node → ℕ → Low
  low_in = fold-Node (ℕ → Low) Low low_node (λ e. e.node e.at)

  abbrev judged_in : Node → At
  judged_in = fold-Node At Judgement node_step expr_step

  abbrev IsKeptNode : Node → Type 0
  IsKeptNode n = (at : ℕ) → IsTold (low_in n at) (judged_in n at)

  abbrev Layer : Type 0
  Layer = Node-F ((n : Node) × IsKeptNode n) ((e : Expr) × IsKept e)

  abbrev bare : Layer → Node-F Node Expr
  bare = map-Node ((n : Node) × IsKeptNode n) ((e : Expr) × IsKept e) Node Expr (λ e. e.0) (λ e. e.0)

  abbrev low_layer : Layer → Node-F (ℕ → Low) Low
  low_layer y = map-Node Node Expr (ℕ → Low) Low low_in low (bare y)

  abbrev judged_layer : Layer → Node-F At Judgement
  judged_layer y = map-Node Node Expr At Judgement judged_in judged (bare y)

  level : (y : Layer) (at : ℕ) → IsTold (low_node (low_layer y) at) (node_step (judged_layer y) at)
  level (Node-F.Number value) at number = of-Number is_root (λ p. p.node) at value
  level (Node-F.Words text) at number = nothing_root at
  level (Node-F.Paren e) at number = e.1 number
  level (Node-F.Negate e) at number = of-Element is_root (λ p. p.node) at element.Neg _ []
  level (Node-F.Select selector) at number = of-Select is_root (λ p. p.node) at selector.rules selector.moment false
  level (Node-F.Range selector range) at number = absurd (cc)
  level (Node-F.Subquery e range step moment) at number = absurd (cc)
  level (Node-F.Call f items) at number = call_root at f _ placed
  level (Node-F.Aggregate f by items) at number = group_root at f by _ placed
  level (Node-F.Pair op l r pairing) at number = of-Pair is_root (λ p. p.node) at op _ _ pairing
  level (Node-F.Set op l r pairing) at number = of-Set is_root (λ p. p.node) at op _ _ pairing

  node_kept : (y : Layer) → IsKeptNode (roll-Node (bare y))
  node_kept y at =
      subst (λ (f : ℕ → Low). IsTold (f at) (judged_in (roll-Node (bare y)) at)) (sym (fold-roll-Node (ℕ → Low) Low low_node (λ e. e.node e.at) (bare y)))
      (subst (λ (f : At). IsTold (low_node (low_layer y) at) (f at)) (sym (fold-roll-Node At Judgement node_step expr_step (bare y))) (level y at))

  expr_kept : (at : ℕ) (n : Node) → IsKeptNode n → IsKept (roll-Expr (record { at = at; node = n }))
  expr_kept at n told =
      subst (λ (l : Low). IsTold l (judged (roll-Expr (record { at = at; node = n })))) (sym (fold-roll-Expr (ℕ → Low) Low low_node (λ e. e.node e.at) (record { at = at; node = n })))
      (subst (λ (j : Judgement). IsTold (low_in n at) j) (sym (fold-roll-Expr At Judgement node_step expr_step (record { at = at; node = n }))) (told at))

  all_kept : (e : Expr) → IsKept e
  all_kept = ind-Expr IsKeptNode IsKept
      (λ x y is. subst (λ z. IsKeptNode (roll-Node z)) is (node_kept y))
      (λ x y is. subst (λ z. IsKept (roll-Expr z)) is (expr_kept y.at y.node.0 y.node.1))

pub lowered_numbers : LoweredPlansGiveNumbers
lowered_numbers placed e number = with_root (lowered placed e) (all_kept placed e number)
