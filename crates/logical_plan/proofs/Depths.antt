-- The plan of a typed tree is at most twice as deep as the tree, or 3 deep where the tree is one node.
use Rattle.std.proofs.Common.{◌≡◌, ◌<◌, ◌≤◌, ◌⊎◌, inl, inr, ℕ, zero, suc, ◌+◌, ◌*◌, List, [], ◌∷◌, map, drop, ap, sym, subst, Bool, true, false, arith}
use Rattle.std.proofs.lemmas.Bool.{cases_lt, false≢true}
use Rattle.std.specs.Prelude.{max, Option, Some, None}
use Rattle.std.specs.List.{AllByRecursion}
use Rattle.func_table.specs.declared.table.Element.{Element as ElementFunction}
use Rattle.func_table.specs.declared.table.Element.TheVariants as element
use Rattle.func_table.specs.declared.table.Window.{Window as WindowFunction}
use Rattle.func_table.specs.declared.table.Window.TheVariants as window
use Rattle.func_table.specs.declared.table.Func.{Func}
use Rattle.func_table.specs.declared.table.Func.TheVariants as func
use Rattle.func_table.specs.declared.table.Aggregate.{Aggregate as AggregateFunction}
use Rattle.func_table.specs.declared.table.Aggregate.TheVariants as aggregate
use Rattle.label_set.specs.declared.rules.Grouping.{Grouping}
use Rattle.promql_ast.specs.Depth.{depth, greatest, node_depth}
use Rattle.promql_ast.specs.declared.tree.Expr.{Expr}
use Rattle.promql_ast.specs.declared.tree.Node.{Node}
use Rattle.promql_ast.specs.declared.tree.Selector.{Selector}
use Rattle.promql_ast.specs.declared.tree.Node.TheOpen.{Node-F}
use Rattle.promql_ast.specs.declared.tree.Node.TheViews.{roll-Node, roll-Expr}
use Rattle.promql_ast.specs.declared.tree.Node.TheFolds.{map-Node, fold-Node, fold-roll-Node, fold-roll-Expr, ind-Expr}
use Rattle.promql_type.specs.Fits.{FitArguments, Fits, FitsCall, TypedTreesFit}
use Rattle.promql_type.specs.Judging.{Judgement, expr_step, judged, node_step}
use Rattle.promql_type.specs.Signatures.{Signature, signature}
use Rattle.promql_type.specs.declared.kind.Kind.TheVariants.{Windows}
use Rattle.promql_type.specs.declared.replace.Placed.{Placed}
use Rattle.promql_type.specs.declared.signature.Callee.TheVariants.{Function, Aggregation}
use Rattle.promql_meaning.specs.Absences.{absent_labels}
use Rattle.promql_meaning.specs.Meaning.{zero_number}
use Rattle.logical_plan.specs.declared.nodes.Plan.{Plan}
use Rattle.logical_plan.specs.declared.nodes.PlanNode.TheVariants as node
use Rattle.logical_plan.specs.Lowering.{Low, absent_over_node, call_node, element_node, group_node, low, low_node, lowered, minus_node, nothing_node, plan_at, planned, plans_of, stamp_node, window_node}
use Rattle.logical_plan.specs.PlanFolds.{of-Number, of-Time, of-Select, of-Range, of-Subquery, of-Element, of-Stamp, of-Window, of-Absent, of-Buckets, of-Relabel, of-Sort, of-ScalarOf, of-VectorOf, of-Group, of-Pair, of-Set}
use Rattle.logical_plan.specs.Validity.{Measure, measured, node_measure}
use Rattle.logical_plan.proofs.Typings.{call_kind, fits_of, not_windows, unscalar}

abbrev D : Plan → ℕ
D p = (measured p).depth

abbrev of_measure : Measure → ℕ
of_measure m = m.depth

abbrev AreBelow : ℕ → List Plan → Type 0
AreBelow b ps = AllByRecursion (λ m. of_measure m ≤ b) (map measured ps)

greatest_below : (b : ℕ) (ps : List Plan) → AreBelow b ps → greatest (map of_measure (map measured ps)) ≤ b
greatest_below b [] all = omega arith
greatest_below b (p ∷ ps) all =
    let first = all.0 in
    let rest = greatest_below b ps all.1 in
    omega (arith, first, rest)

-- ---- nodes over plans of a depth

leaf : (p : Plan) (b : ℕ) → D p ≡ 1 → D p ≤ b + 1
leaf p b is = omega (arith, is)

over_one : (p q : Plan) (b : ℕ) → D p ≡ 1 + max (D q) 0 → D q ≤ b → D p ≤ b + 1
over_one p q b is below = omega (arith, is, below)

over_two : (p q r : Plan) (b : ℕ) → D p ≡ 1 + max (D q) (max (D r) 0) → D q ≤ b → D r ≤ b → D p ≤ b + 1
over_two p q r b is left right = omega (arith, is, left, right)

over_more : (p q : Plan) (qs : List Plan) (b : ℕ) → D p ≡ 1 + max (D q) (greatest (map of_measure (map measured qs))) → D q ≤ b → AreBelow b qs → D p ≤ b + 1
over_more p q qs b is first rest =
    let more = greatest_below b qs rest in
    omega (arith, is, first, more)

over_all : (p : Plan) (qs : List Plan) (b : ℕ) → D p ≡ 1 + greatest (map of_measure (map measured qs)) → AreBelow b qs → D p ≤ b + 1
over_all p qs b is all =
    let more = greatest_below b qs all in
    omega (arith, is, more)

number_deep : (at : ℕ) (v : _) → D (planned at (node.Number v)) ≡ 1
number_deep at v = ap of_measure (of-Number node_measure (λ p. p.node p.at) at v)

time_deep : (at : ℕ) → D (planned at node.Time) ≡ 1
time_deep at = ap of_measure (of-Time node_measure (λ p. p.node p.at) at)

select_deep : (at : ℕ) (rules : _) (moment : _) (stamped : Bool) → D (planned at (node.Select rules moment stamped)) ≡ 1
select_deep at rules moment stamped = ap of_measure (of-Select node_measure (λ p. p.node p.at) at rules moment stamped)

element_deep : (at : ℕ) (f : ElementFunction) (p : Plan) (ps : List Plan) (b : ℕ) → D p ≤ b → AreBelow b ps → D (planned at (node.Element f p ps)) ≤ b + 1
element_deep at f p ps b one more = over_more _ p ps b (ap of_measure (of-Element node_measure (λ p. p.node p.at) at f p ps)) one more

window_deep : (at : ℕ) (f : WindowFunction) (p : Plan) (ps : List Plan) (b : ℕ) → D p ≤ b → AreBelow b ps → D (planned at (node.Window f p ps)) ≤ b + 1
window_deep at f p ps b one more = over_more _ p ps b (ap of_measure (of-Window node_measure (λ p. p.node p.at) at f p ps)) one more

group_deep : (at : ℕ) (f : AggregateFunction) (by : Grouping) (ps : List Plan) (label : List ℕ) (b : ℕ) → AreBelow b ps → D (planned at (node.Group f by ps label)) ≤ b + 1
group_deep at f by ps label b all = over_all _ ps b (ap of_measure (of-Group node_measure (λ p. p.node p.at) at f by ps label)) all

vector_deep : (at : ℕ) (p : Plan) (b : ℕ) → D p ≤ b → D (planned at (node.VectorOf p)) ≤ b + 1
vector_deep at p b one = over_one _ p b (ap of_measure (of-VectorOf node_measure (λ p. p.node p.at) at p)) one

absent_deep : (at : ℕ) (labels : _) (p : Plan) (b : ℕ) → D p ≤ b → D (planned at (node.Absent labels p)) ≤ b + 1
absent_deep at labels p b one = over_one _ p b (ap of_measure (of-Absent node_measure (λ p. p.node p.at) at labels p)) one

stamp_deep : (at : ℕ) (p : Plan) (b : ℕ) → D p ≤ b → D (planned at (node.Stamp p)) ≤ b + 1
stamp_deep at p b one = over_one _ p b (ap of_measure (of-Stamp node_measure (λ p. p.node p.at) at p)) one

nothing_deep : (at : ℕ) → D (planned at (nothing_node at)) ≤ 3
nothing_deep at =
    let number : D (planned at (node.Number zero_number)) ≤ 1 = omega (arith, number_deep at zero_number) in
    let vector = vector_deep at (planned at (node.Number zero_number)) 1 number in
    group_deep at aggregate.TopK (record { without = false; names = [] }) _ [] 2 (omega (arith, number), (vector, tt))

instant_deep : (at : ℕ) → D (planned at (node.VectorOf (planned at node.Time))) ≤ 2
instant_deep at = vector_deep at (planned at node.Time) 1 (omega (arith, time_deep at))

module _ (fit : TypedTreesFit) (placed : List Placed) where
  record IsShallow (l : Low) (j : Judgement) (d : ℕ) : Type 0 where
    some : 1 ≤ d
    most : j.refusals ≡ [] → D (l.plan placed) ≤ 2 * d + 1
    inner : j.refusals ≡ [] → 2 ≤ d → D (l.plan placed) ≤ 2 * d
    windows : j.refusals ≡ [] → j.operand.gives ≡ Windows → D (l.plan placed) ≤ 2 * d

  abbrev IsKept : Expr → Type 0
  IsKept e = IsShallow (low e) (judged e) (depth e)

  abbrev Kept : Type 0
  Kept = (e : Expr) × IsKept e

  abbrev At : Type 0
  At = ℕ → Judgement

  abbrev node_judged : Node → At
  node_judged = fold-Node At Judgement node_step expr_step

  abbrev low_in : Node → ℕ → Low
  low_in = fold-Node (ℕ → Low) Low low_node (λ e. e.node e.at)

  abbrev depth_in : Node → ℕ
  depth_in = fold-Node ℕ ℕ node_depth (λ e. e.node)

  abbrev IsKeptNode : Node → Type 0
  IsKeptNode n = (at : ℕ) → IsShallow (low_in n at) (node_judged n at) (depth_in n)

  abbrev lows : List Kept → List Low
  lows items = map low (map (λ e. e.0) items)

  abbrev judgements : List Kept → List Judgement
  judgements items = map judged (map (λ e. e.0) items)

  abbrev deepest_of : List Kept → ℕ
  deepest_of items = greatest (map depth (map (λ e. e.0) items))

  -- a plan that is at most twice as deep as a tree
  twice : (l : Low) (j : Judgement) (d : ℕ) → 1 ≤ d → (j.refusals ≡ [] → D (l.plan placed) ≤ 2 * d) → IsShallow l j d
  twice l j d some most =
      record { some = some; most = λ none. (let below = most none in omega (arith, below)); inner = λ none two. most none; windows = λ none is. most none }

  -- ---- arguments, of which the deepest is so deep

  each_below : (row : Signature) (n at g : ℕ) (items : List Kept) → 1 ≤ g → deepest_of items ≤ g → FitArguments row n (judgements items) → (i : ℕ) → D (plan_at at placed (lows items) i) ≤ 2 * g + 1
  each_below row n at g [] some deep fits zero = (let three = nothing_deep at in omega (arith, three, some))
  each_below row n at g [] some deep fits (suc i) = (let three = nothing_deep at in omega (arith, three, some))
  each_below row n at g (e ∷ es) some deep fits zero = (let below = e.1.most fits.0 in omega (arith, below, deep))
  each_below row n at g (e ∷ es) some deep fits (suc i) = each_below row (n + 1) at g es some (omega (arith, deep)) fits.2 i

  all_below : (row : Signature) (n g : ℕ) (items : List Kept) → deepest_of items ≤ g → FitArguments row n (judgements items) → AreBelow (2 * g + 1) (plans_of placed (lows items))
  all_below row n g [] deep fits = tt
  all_below row n g (e ∷ es) deep fits = ((let below = e.1.most fits.0 in omega (arith, below, deep)), all_below row (n + 1) g es (omega (arith, deep)) fits.2)

  -- ---- calls with arguments

  record AreBelowTwice (at : ℕ) (ls : List Low) (b : ℕ) : Type 0 where
    each : (i : ℕ) → D (plan_at at placed ls i) ≤ b
    all : AreBelow b (plans_of placed ls)
    rest : AreBelow b (plans_of placed (drop 1 ls))

  arguments : (row : Signature) (at : ℕ) (e : Kept) (es : List Kept) → FitArguments row 0 (judgements (e ∷ es))
      → AreBelowTwice at (lows (e ∷ es)) (2 * deepest_of (e ∷ es) + 1)
  arguments row at e es fits =
      let g = deepest_of (e ∷ es) in
      let some : 1 ≤ g = (let one = e.1.some in omega (arith, one)) in
      record {
        each = each_below row 0 at g (e ∷ es) some (omega arith) fits;
        all = all_below row 0 g (e ∷ es) (omega arith) fits;
        rest = all_below row 1 g es (omega arith) fits.2;
      }

  window_below : (f : WindowFunction) (at b : ℕ) (ls : List Low) → AreBelowTwice at ls b → D (planned at (window_node f at ls placed)) ≤ b + 1
  window_below window.Rate at b ls a = window_deep at window.Rate _ [] b (a.each 0) tt
  window_below window.Increase at b ls a = window_deep at window.Increase _ [] b (a.each 0) tt
  window_below window.Delta at b ls a = window_deep at window.Delta _ [] b (a.each 0) tt
  window_below window.Irate at b ls a = window_deep at window.Irate _ [] b (a.each 0) tt
  window_below window.Idelta at b ls a = window_deep at window.Idelta _ [] b (a.each 0) tt
  window_below window.Deriv at b ls a = window_deep at window.Deriv _ [] b (a.each 0) tt
  window_below window.Changes at b ls a = window_deep at window.Changes _ [] b (a.each 0) tt
  window_below window.Resets at b ls a = window_deep at window.Resets _ [] b (a.each 0) tt
  window_below window.AvgOver at b ls a = window_deep at window.AvgOver _ [] b (a.each 0) tt
  window_below window.MinOver at b ls a = window_deep at window.MinOver _ [] b (a.each 0) tt
  window_below window.MaxOver at b ls a = window_deep at window.MaxOver _ [] b (a.each 0) tt
  window_below window.SumOver at b ls a = window_deep at window.SumOver _ [] b (a.each 0) tt
  window_below window.CountOver at b ls a = window_deep at window.CountOver _ [] b (a.each 0) tt
  window_below window.StdvarOver at b ls a = window_deep at window.StdvarOver _ [] b (a.each 0) tt
  window_below window.LastOver at b ls a = window_deep at window.LastOver _ [] b (a.each 0) tt
  window_below window.PresentOver at b ls a = window_deep at window.PresentOver _ [] b (a.each 0) tt
  window_below window.PredictLinear at b ls a = window_deep at window.PredictLinear _ _ b (a.each 0) (a.each 1, tt)
  window_below window.QuantileOver at b ls a = window_deep at window.QuantileOver _ _ b (a.each 1) (a.each 0, tt)

  stamp_below : (at b : ℕ) (selects : Option (ℕ × Selector)) (p : Plan) → 1 ≤ b → D p ≤ b → D (planned at (stamp_node selects p)) ≤ b + 1
  stamp_below at b None p some one = stamp_deep at p b one
  stamp_below at b (Some own) p some one = stamp_deep at _ b (let leaf = select_deep own.0 own.1.rules own.1.moment true in omega (arith, leaf, some))

  absent_over_below : (at b : ℕ) (windows : Bool) (labels : _) (p : Plan) → D p ≤ b → D (planned at (absent_over_node windows labels at p)) ≤ b + 2
  absent_over_below at b true labels p one = (let below = absent_deep at labels _ (b + 1) (window_deep at window.LastOver p [] b one tt) in omega (arith, below))
  absent_over_below at b false labels p one = (let below = absent_deep at labels p b one in omega (arith, below))

  element_called : (f : ElementFunction) (at : ℕ) (e : Kept) (es : List Kept) → FitsCall (Function (func.Element f)) (judgements (e ∷ es))
      → AreBelowTwice at (lows (e ∷ es)) (2 * deepest_of (e ∷ es) + 1) → D (planned at (element_node f at (lows (e ∷ es)) placed)) ≤ 2 * deepest_of (e ∷ es) + 1 + 1
  element_called element.Abs at e es fits a = element_deep at element.Abs _ _ _ (a.each 0) a.rest
  element_called element.Ceil at e es fits a = element_deep at element.Ceil _ _ _ (a.each 0) a.rest
  element_called element.Floor at e es fits a = element_deep at element.Floor _ _ _ (a.each 0) a.rest
  element_called element.Round at e es fits a = element_deep at element.Round _ _ _ (a.each 0) a.rest
  element_called element.Sgn at e es fits a = element_deep at element.Sgn _ _ _ (a.each 0) a.rest
  element_called element.Clamp at e es fits a = element_deep at element.Clamp _ _ _ (a.each 0) a.rest
  element_called element.ClampMin at e es fits a = element_deep at element.ClampMin _ _ _ (a.each 0) a.rest
  element_called element.ClampMax at e es fits a = element_deep at element.ClampMax _ _ _ (a.each 0) a.rest
  element_called element.Neg at e es fits a =
      subst (λ s. D (planned at (minus_node s at ((low e.0).plan placed))) ≤ 2 * deepest_of (e ∷ es) + 1 + 1) (sym (unscalar fit placed e.0 fits.1.1))
      (element_deep at element.Neg ((low e.0).plan placed) [] _ (a.each 0) tt)
  element_called (element.Calendar part) at e es fits a = element_deep at (element.Calendar part) _ _ _ (a.each 0) a.rest

  called : (f : Func) (at : ℕ) (e : Kept) (es : List Kept) → FitsCall (Function f) (judgements (e ∷ es))
      → AreBelowTwice at (lows (e ∷ es)) (2 * deepest_of (e ∷ es) + 1) → D (planned at (call_node f at (lows (e ∷ es)) placed)) ≤ 2 * deepest_of (e ∷ es) + 1 + 1
  called (func.Element f) at e es fits a = element_called f at e es fits a
  called (func.Window f) at e es fits a = window_below f at _ (lows (e ∷ es)) a
  called func.Absent at e es fits a = absent_deep at _ _ _ (a.each 0)
  called func.AbsentOver at e es fits a =
      let inner = e.1.windows fits.1.0 fits.1.1 in
      let all = absent_over_below at (2 * deepest_of (e ∷ es)) (low e.0).windows (absent_labels (low e.0).rules) ((low e.0).plan placed) (omega (arith, inner)) in
      omega (arith, all)
  called func.HistogramQuantile at e es fits a = over_two _ _ _ _ (ap of_measure (of-Buckets node_measure (λ p. p.node p.at) at _ _)) (a.each 0) (a.each 1)
  called func.LabelJoin at e es fits a = over_one _ _ _ (ap of_measure (of-Relabel node_measure (λ p. p.node p.at) at _ _)) (a.each 0)
  called func.LabelReplace at e es fits a = over_one _ _ _ (ap of_measure (of-Relabel node_measure (λ p. p.node p.at) at _ _)) (a.each 0)
  called func.Scalar at e es fits a = over_one _ _ _ (ap of_measure (of-ScalarOf node_measure (λ p. p.node p.at) at _)) (a.each 0)
  called func.Sort at e es fits a = over_one _ _ _ (ap of_measure (of-Sort node_measure (λ p. p.node p.at) at false _)) (a.each 0)
  called func.SortDesc at e es fits a = over_one _ _ _ (ap of_measure (of-Sort node_measure (λ p. p.node p.at) at true _)) (a.each 0)
  called func.Time at e es fits a = leaf _ _ (time_deep at)
  called func.Timestamp at e es fits a = stamp_below at _ (low e.0).selects _ (omega arith) (a.each 0)
  called func.Vector at e es fits a = vector_deep at _ _ (a.each 0)

  -- without arguments
  called_bare : (f : Func) (at : ℕ) → FitsCall (Function f) [] → D (planned at (call_node f at [] placed)) ≤ 3
  called_bare (func.Element f) at fits = element_bare f at fits
    where
      element_bare : (f : ElementFunction) (at : ℕ) → FitsCall (Function (func.Element f)) [] → D (planned at (call_node (func.Element f) at [] placed)) ≤ 3
      element_bare element.Abs at fits = absurd (false≢true fits.0)
      element_bare element.Ceil at fits = absurd (false≢true fits.0)
      element_bare element.Floor at fits = absurd (false≢true fits.0)
      element_bare element.Round at fits = absurd (false≢true fits.0)
      element_bare element.Sgn at fits = absurd (false≢true fits.0)
      element_bare element.Clamp at fits = absurd (false≢true fits.0)
      element_bare element.ClampMin at fits = absurd (false≢true fits.0)
      element_bare element.ClampMax at fits = absurd (false≢true fits.0)
      element_bare element.Neg at fits = absurd (false≢true fits.0)
      element_bare (element.Calendar part) at fits = element_deep at (element.Calendar part) _ [] 2 (instant_deep at) tt
  called_bare (func.Window f) at fits = absurd (window_bare f fits)
    where
      window_bare : (f : WindowFunction) → FitsCall (Function (func.Window f)) [] → ⊥
      window_bare window.Rate fits = absurd (false≢true fits.0)
      window_bare window.Increase fits = absurd (false≢true fits.0)
      window_bare window.Delta fits = absurd (false≢true fits.0)
      window_bare window.Irate fits = absurd (false≢true fits.0)
      window_bare window.Idelta fits = absurd (false≢true fits.0)
      window_bare window.Deriv fits = absurd (false≢true fits.0)
      window_bare window.Changes fits = absurd (false≢true fits.0)
      window_bare window.Resets fits = absurd (false≢true fits.0)
      window_bare window.AvgOver fits = absurd (false≢true fits.0)
      window_bare window.MinOver fits = absurd (false≢true fits.0)
      window_bare window.MaxOver fits = absurd (false≢true fits.0)
      window_bare window.SumOver fits = absurd (false≢true fits.0)
      window_bare window.CountOver fits = absurd (false≢true fits.0)
      window_bare window.StdvarOver fits = absurd (false≢true fits.0)
      window_bare window.LastOver fits = absurd (false≢true fits.0)
      window_bare window.PresentOver fits = absurd (false≢true fits.0)
      window_bare window.PredictLinear fits = absurd (false≢true fits.0)
      window_bare window.QuantileOver fits = absurd (false≢true fits.0)
  called_bare func.Absent at fits = absurd (false≢true fits.0)
  called_bare func.AbsentOver at fits = absurd (false≢true fits.0)
  called_bare func.HistogramQuantile at fits = absurd (false≢true fits.0)
  called_bare func.LabelJoin at fits = absurd (false≢true fits.0)
  called_bare func.LabelReplace at fits = absurd (false≢true fits.0)
  called_bare func.Scalar at fits = absurd (false≢true fits.0)
  called_bare func.Sort at fits = absurd (false≢true fits.0)
  called_bare func.SortDesc at fits = absurd (false≢true fits.0)
  called_bare func.Timestamp at fits = absurd (false≢true fits.0)
  called_bare func.Vector at fits = absurd (false≢true fits.0)
  called_bare func.Time at fits = (let one = time_deep at in omega (arith, one))

  grouped : (f : AggregateFunction) (by : Grouping) (at b : ℕ) (ls : List Low) → AreBelowTwice at ls b → D (planned at (group_node f by at ls placed)) ≤ b + 1
  grouped aggregate.Sum by at b ls a = group_deep at aggregate.Sum by _ [] b a.all
  grouped aggregate.Avg by at b ls a = group_deep at aggregate.Avg by _ [] b a.all
  grouped aggregate.Min by at b ls a = group_deep at aggregate.Min by _ [] b a.all
  grouped aggregate.Max by at b ls a = group_deep at aggregate.Max by _ [] b a.all
  grouped aggregate.Count by at b ls a = group_deep at aggregate.Count by _ [] b a.all
  grouped aggregate.Group by at b ls a = group_deep at aggregate.Group by _ [] b a.all
  grouped aggregate.Stdvar by at b ls a = group_deep at aggregate.Stdvar by _ [] b a.all
  grouped aggregate.TopK by at b ls a = group_deep at aggregate.TopK by _ [] b a.all
  grouped aggregate.BottomK by at b ls a = group_deep at aggregate.BottomK by _ [] b a.all
  grouped aggregate.Quantile by at b ls a = group_deep at aggregate.Quantile by _ [] b a.all
  grouped aggregate.CountValues by at b ls a = group_deep at aggregate.CountValues by _ _ b (a.each 1, tt)

  grouped_bare : (f : AggregateFunction) → FitsCall (Aggregation f) [] → ⊥
  grouped_bare aggregate.Sum fits = absurd (false≢true fits.0)
  grouped_bare aggregate.Avg fits = absurd (false≢true fits.0)
  grouped_bare aggregate.Min fits = absurd (false≢true fits.0)
  grouped_bare aggregate.Max fits = absurd (false≢true fits.0)
  grouped_bare aggregate.Count fits = absurd (false≢true fits.0)
  grouped_bare aggregate.Group fits = absurd (false≢true fits.0)
  grouped_bare aggregate.Stdvar fits = absurd (false≢true fits.0)
  grouped_bare aggregate.TopK fits = absurd (false≢true fits.0)
  grouped_bare aggregate.BottomK fits = absurd (false≢true fits.0)
  grouped_bare aggregate.Quantile fits = absurd (false≢true fits.0)
  grouped_bare aggregate.CountValues fits = absurd (false≢true fits.0)

  -- ---- one level

  abbrev Layer : Type 0
  Layer = Node-F ((n : Node) × IsKeptNode n) Kept

  abbrev bare : Layer → Node-F Node Expr
  bare = map-Node ((n : Node) × IsKeptNode n) Kept Node Expr (λ e. e.0) (λ e. e.0)

  abbrev judged_layer : Layer → Node-F At Judgement
  judged_layer y = map-Node Node Expr At Judgement node_judged judged (bare y)

  abbrev LevelIs : Layer → ℕ → Type 0
  LevelIs y at =
      IsShallow (low_node (map-Node Node Expr (ℕ → Low) Low low_in low (bare y)) at) (node_step (judged_layer y) at) (node_depth (map-Node Node Expr ℕ ℕ depth_in depth (bare y)))

  fits_at : (y : Layer) (at : ℕ) → (node_step (judged_layer y) at).refusals ≡ [] → Fits (judged_layer y) at
  fits_at y at none = fits_of fit (bare y) at none

  level_call : (f : Func) (items : List Kept) (at : ℕ) → LevelIs (Node-F.Call f items) at
  level_call f [] at = record {
    some = omega arith;
    most = λ none. (let three = called_bare f at (fits_at (Node-F.Call f []) at none) in omega (arith, three));
    inner = λ none two. absurd (omega (arith, two));
    windows = λ none is. absurd (not_windows _ (call_kind f).1 is);
  }
  level_call f (e ∷ es) at =
      twice _ _ _ (omega arith)
      (λ none.
      let fits = fits_at (Node-F.Call f (e ∷ es)) at none in
      let below = called f at e es fits (arguments (signature (Function f)) at e es fits.1) in
      omega (arith, below))

  level_group : (f : AggregateFunction) (by : Grouping) (items : List Kept) (at : ℕ) → LevelIs (Node-F.Aggregate f by items) at
  level_group f by [] at = twice _ _ _ (omega arith) (λ none. absurd (grouped_bare f (fits_at (Node-F.Aggregate f by []) at none)))
  level_group f by (e ∷ es) at =
      twice _ _ _ (omega arith)
      (λ none.
      let fits = fits_at (Node-F.Aggregate f by (e ∷ es)) at none in
      let below = grouped f by at _ (lows (e ∷ es)) (arguments (signature (Aggregation f)) at e es fits.1) in
      omega (arith, below))

  level : (y : Layer) (at : ℕ) → LevelIs y at
  level (Node-F.Number value) at = twice _ _ _ (omega arith) (λ none. (let one = number_deep at value in omega (arith, one)))
  level (Node-F.Words text) at = record {
    some = omega arith;
    most = λ none. (let three = nothing_deep at in omega (arith, three));
    inner = λ none two. absurd (omega (arith, two));
    windows = λ none is. absurd (cc);
  }
  level (Node-F.Paren e) at = record {
    some = omega arith;
    most = λ none. (let below = e.1.most none in omega (arith, below));
    inner = λ none two. (let below = e.1.most none in omega (arith, below));
    windows = λ none is. (let below = e.1.windows none is in omega (arith, below));
  }
  level (Node-F.Negate e) at =
      twice _ _ _ (omega arith)
      (λ none.
      let fits = fits_at (Node-F.Negate e) at none in
      let below = element_deep at element.Neg ((low e.0).plan placed) [] _ (e.1.most fits.0) tt in
      omega (arith, below))
  level (Node-F.Select selector) at = twice _ _ _ (omega arith) (λ none. (let one = select_deep at selector.rules selector.moment false in omega (arith, one)))
  level (Node-F.Range selector range) at =
      twice _ _ _ (omega arith)
      (λ none. (let one = ap of_measure (of-Range node_measure (λ p. p.node p.at) at selector.rules selector.moment range) in omega (arith, one)))
  level (Node-F.Subquery e range step moment) at =
      twice _ _ _ (omega arith)
      (λ none.
      let fits = fits_at (Node-F.Subquery e range step moment) at none in
      let below = over_one _ ((low e.0).plan placed) _ (ap of_measure (of-Subquery node_measure (λ p. p.node p.at) at ((low e.0).plan placed) range step moment)) (e.1.most fits.0) in
      omega (arith, below))
  level (Node-F.Call f items) at = level_call f items at
  level (Node-F.Aggregate f by items) at = level_group f by items at
  level (Node-F.Pair op l r pairing) at =
      twice _ _ _ (omega arith)
      (λ none.
      let fits = fits_at (Node-F.Pair op l r pairing) at none in
      let is = ap of_measure (of-Pair node_measure (λ p. p.node p.at) at op ((low l.0).plan placed) ((low r.0).plan placed) pairing) in
      let left = l.1.most fits.0.0 in
      let right = r.1.most fits.1.0 in
      omega (arith, is, left, right))
  level (Node-F.Set op l r pairing) at =
      twice _ _ _ (omega arith)
      (λ none.
      let fits = fits_at (Node-F.Set op l r pairing) at none in
      let is = ap of_measure (of-Set node_measure (λ p. p.node p.at) at op ((low l.0).plan placed) ((low r.0).plan placed) pairing) in
      let left = l.1.most fits.0.0 in
      let right = r.1.most fits.1.0 in
      omega (arith, is, left, right))

  node_kept : (y : Layer) → IsKeptNode (roll-Node (bare y))
  node_kept y at =
      subst (λ (f : At). IsShallow (low_in (roll-Node (bare y)) at) (f at) (depth_in (roll-Node (bare y)))) (sym (fold-roll-Node At Judgement node_step expr_step (bare y)))
      (subst (λ (d : ℕ). IsShallow (low_in (roll-Node (bare y)) at) (node_step (judged_layer y) at) d) (sym (fold-roll-Node ℕ ℕ node_depth (λ e. e.node) (bare y)))
      (subst (λ (f : ℕ → Low). IsShallow (f at) (node_step (judged_layer y) at) (node_depth (map-Node Node Expr ℕ ℕ depth_in depth (bare y))))
      (sym (fold-roll-Node (ℕ → Low) Low low_node (λ e. e.node e.at) (bare y))) (level y at)))

  expr_kept : (at : ℕ) (n : Node) → IsKeptNode n → IsKept (roll-Expr (record { at = at; node = n }))
  expr_kept at n kept =
      let e = roll-Expr (record { at = at; node = n }) in
      subst (λ (j : Judgement). IsShallow (low e) j (depth e)) (sym (fold-roll-Expr At Judgement node_step expr_step (record { at = at; node = n })))
      (subst (λ (d : ℕ). IsShallow (low e) (node_judged n at) d) (sym (fold-roll-Expr ℕ ℕ node_depth (λ e. e.node) (record { at = at; node = n })))
      (subst (λ (l : Low). IsShallow l (node_judged n at) (depth_in n)) (sym (fold-roll-Expr (ℕ → Low) Low low_node (λ e. e.node e.at) (record { at = at; node = n }))) (kept at)))

  all_kept : (e : Expr) → IsKept e
  all_kept = ind-Expr IsKeptNode IsKept
      (λ x y is. subst (λ z. IsKeptNode (roll-Node z)) is (node_kept y))
      (λ x y is. subst (λ z. IsKept (roll-Expr z)) is (expr_kept y.at y.node.0 y.node.1))

  pub lowered_shallow : (e : Expr) → (judged e).refusals ≡ [] → depth e ≤ 128 → D (lowered placed e) ≤ 256
  lowered_shallow e none shallow = by (cases_lt 1 (depth e))
    where
      kept : IsKept e
      kept = all_kept e

      by : (1 < depth e) ⊎ (depth e ≤ 1) → D (lowered placed e) ≤ 256
      by (inl more) = (let below = kept.inner none (omega (arith, more)) in omega (arith, below, shallow))
      by (inr one) = (let below = kept.most none in omega (arith, below, one))
