-- The plan of a tree keeps the limits of the tree: its rules, moments and lengths of time, the points of its subqueries, and one
-- pattern a place.
use Rattle.std.proofs.Common.{◌≡◌, ◌∙◌, ℕ, zero, suc, ◌*◌, List, [], ◌∷◌, ◌++◌, map, drop, length, ap, sym, refl, subst, Bool, true, false, arith}
use Rattle.std.specs.Prelude.{not, nat_lt, slice_get, Option, Some, None, Contains, ⊤}
use Rattle.std.specs.List.{AllByRecursion}
use Rattle.func_table.specs.declared.table.Element.{Element as ElementFunction}
use Rattle.func_table.specs.declared.table.Element.TheVariants as element
use Rattle.func_table.specs.declared.table.Window.{Window as WindowFunction}
use Rattle.func_table.specs.declared.table.Window.TheVariants as window
use Rattle.func_table.specs.declared.table.Func.{Func}
use Rattle.func_table.specs.declared.table.Func.TheVariants as func
use Rattle.func_table.specs.declared.table.Aggregate.{Aggregate as AggregateFunction}
use Rattle.func_table.specs.declared.table.Aggregate.TheVariants as aggregate
use Rattle.label_set.specs.declared.rules.Grouping.{Grouping}
use Rattle.label_set.specs.declared.rules.PatternId.{PatternId}
use Rattle.label_set.specs.declared.rules.Relabel.TheVariants.{Replace, Join}
use Rattle.promql_ast.specs.Parts.{AreWithin, Part, all_of, node_parts, parts_of}
use Rattle.promql_ast.specs.declared.refusal.QueryRefusal.{QueryRefusal}
use Rattle.promql_ast.specs.declared.refusal.QueryRefusal.TheVariants.{TooManyPoints}
use Rattle.promql_ast.specs.declared.tree.Expr.{Expr}
use Rattle.promql_ast.specs.declared.tree.Node.{Node}
use Rattle.promql_ast.specs.declared.tree.Selector.{Selector}
use Rattle.promql_ast.specs.declared.tree.Node.TheOpen.{Node-F}
use Rattle.promql_ast.specs.declared.tree.Node.TheViews.{roll-Node, roll-Expr}
use Rattle.promql_ast.specs.declared.tree.Node.TheFolds.{map-Node, fold-Node, fold-roll-Node, fold-roll-Expr, ind-Expr}
use Rattle.promql_type.specs.Points.{all_crowded, crowded, crowded_expr, crowded_step, most_points, points}
use Rattle.promql_type.specs.Rules.{where_true}
use Rattle.promql_type.specs.TypedTrees.{pattern_at}
use Rattle.promql_type.specs.declared.replace.Placed.{Placed}
use Rattle.promql_meaning.specs.Meaning.{zero_number}
use Rattle.logical_plan.specs.declared.nodes.Plan.{Plan}
use Rattle.logical_plan.specs.declared.nodes.PlanNode.TheVariants as node
use Rattle.logical_plan.specs.Lowering.{Low, absent_over_node, call_node, element_node, group_node, low, low_node, lowered, minus_node, nothing_node, pattern_or, plan_at, planned, plans_of, scalar_or, selects_or, stamp_node, window_node, windows_or}
use Rattle.logical_plan.specs.PlanFolds.{of-Number, of-Time, of-Select, of-Range, of-Subquery, of-Element, of-Stamp, of-Window, of-Absent, of-Buckets, of-Relabel, of-Sort, of-ScalarOf, of-VectorOf, of-Group, of-Pair, of-Set}
use Rattle.logical_plan.specs.Validity.{HasOnePattern, Measure, all_parts, all_replaced, are_few, measured, node_measure}
use Rattle.logical_plan.proofs.Fronts.{back_none, behind, both_true, front, front_none, joined}

not_crowded : (b : Bool) (x : QueryRefusal) → where_true b x ≡ [] → not b ≡ true
not_crowded true x is = absurd (omega (arith, ap length is))
not_crowded false x is = refl

-- what holds of each element holds of one of them
of_all : {A : Type 0} (P : A → Type 0) (xs : List A) (x : A) → AllByRecursion P xs → Contains xs x → P x
of_all P [] x all c = absurd (omega (arith, c.1))
of_all P (y ∷ ys) x all (zero, lt, same) = subst P same all.0
of_all P (y ∷ ys) x all (suc k, lt, same) = of_all P ys x all.1 (k, omega (arith, lt), same)

-- the pattern of a label_replace node is the one that is found at its place
abbrev pub IsFound : List Placed → ℕ × PatternId → Type 0
IsFound placed r = r.1 ≡ pattern_or (pattern_at placed r.0)

module _ (longest latest : ℕ) (placed : List Placed) where
  abbrev pub Within : List Part → Type 0
  Within parts = AreWithin (λ rules. ⊤) longest latest parts

  pub record IsFine (around : ℕ) (m : Measure) : Type 0 where
    pub parts : Within m.parts
    pub replaced : AllByRecursion (IsFound placed) m.replaced
    pub few : m.few around ≡ true

  record AreFine (around : ℕ) (ms : List Measure) : Type 0 where
    parts : Within (all_parts ms)
    replaced : AllByRecursion (IsFound placed) (all_replaced ms)
    few : are_few ms around ≡ true

  none_fine : (around : ℕ) → AreFine around []
  none_fine around = record { parts = tt; replaced = tt; few = refl }

  more_fine : (around : ℕ) (m : Measure) (ms : List Measure) → IsFine around m → AreFine around ms → AreFine around (m ∷ ms)
  more_fine around m ms one more = record {
    parts = joined _ m.parts (all_parts ms) one.parts more.parts;
    replaced = joined (IsFound placed) m.replaced (all_replaced ms) one.replaced more.replaced;
    few = both_true (m.few around) (are_few ms around) one.few more.few;
  }

  one_fine : (around : ℕ) (m : Measure) → IsFine around m → AreFine around (m ∷ [])
  one_fine around m one = more_fine around m [] one (none_fine around)

  two_fine : (around : ℕ) (a b : Measure) → IsFine around a → IsFine around b → AreFine around (a ∷ b ∷ [])
  two_fine around a b one other = more_fine around a (b ∷ []) one (one_fine around b other)

  -- a node over such plans that has nothing of its own
  abbrev over : List Measure → ℕ → Measure
  over ms depth = record { parts = all_parts ms; replaced = all_replaced ms; few = are_few ms; depth = depth }

  over_fine : (around : ℕ) (p : Plan) (ms : List Measure) (depth : ℕ) → measured p ≡ over ms depth → AreFine around ms → IsFine around (measured p)
  over_fine around p ms depth is fine = subst (IsFine around) (sym is) (record { parts = fine.parts; replaced = fine.replaced; few = fine.few })

  abbrev PlanFine : ℕ → Plan → Type 0
  PlanFine around p = IsFine around (measured p)

  number_fine : (around at : ℕ) (v : _) → PlanFine around (planned at (node.Number v))
  number_fine around at v = over_fine around _ [] _ (of-Number node_measure (λ p. p.node p.at) at v) (none_fine around)

  time_fine : (around at : ℕ) → PlanFine around (planned at node.Time)
  time_fine around at = over_fine around _ [] _ (of-Time node_measure (λ p. p.node p.at) at) (none_fine around)

  select_fine : (around at : ℕ) (selector : Selector) (stamped : Bool) → Within (Part.of_rules selector.rules ∷ Part.of_moment selector.moment ∷ [])
      → PlanFine around (planned at (node.Select selector.rules selector.moment stamped))
  select_fine around at selector stamped within =
      subst (IsFine around) (sym (of-Select node_measure (λ p. p.node p.at) at selector.rules selector.moment stamped)) (record { parts = within; replaced = tt; few = refl })

  element_fine : (around at : ℕ) (f : ElementFunction) (p : Plan) (ps : List Plan) → PlanFine around p → AreFine around (map measured ps) → PlanFine around (planned at (node.Element f p ps))
  element_fine around at f p ps one more =
      over_fine around _ (measured p ∷ map measured ps) _ (of-Element node_measure (λ p. p.node p.at) at f p ps) (more_fine around (measured p) (map measured ps) one more)

  window_fine : (around at : ℕ) (f : WindowFunction) (p : Plan) (ps : List Plan) → PlanFine around p → AreFine around (map measured ps) → PlanFine around (planned at (node.Window f p ps))
  window_fine around at f p ps one more =
      over_fine around _ (measured p ∷ map measured ps) _ (of-Window node_measure (λ p. p.node p.at) at f p ps) (more_fine around (measured p) (map measured ps) one more)

  stamp_fine : (around at : ℕ) (p : Plan) → PlanFine around p → PlanFine around (planned at (node.Stamp p))
  stamp_fine around at p one = over_fine around _ (measured p ∷ []) _ (of-Stamp node_measure (λ p. p.node p.at) at p) (one_fine around _ one)

  absent_fine : (around at : ℕ) (labels : _) (p : Plan) → PlanFine around p → PlanFine around (planned at (node.Absent labels p))
  absent_fine around at labels p one = over_fine around _ (measured p ∷ []) _ (of-Absent node_measure (λ p. p.node p.at) at labels p) (one_fine around _ one)

  buckets_fine : (around at : ℕ) (q p : Plan) → PlanFine around q → PlanFine around p → PlanFine around (planned at (node.Buckets q p))
  buckets_fine around at q p one other = over_fine around _ (measured q ∷ measured p ∷ []) _ (of-Buckets node_measure (λ p. p.node p.at) at q p) (two_fine around _ _ one other)

  sort_fine : (around at : ℕ) (down : Bool) (p : Plan) → PlanFine around p → PlanFine around (planned at (node.Sort down p))
  sort_fine around at down p one = over_fine around _ (measured p ∷ []) _ (of-Sort node_measure (λ p. p.node p.at) at down p) (one_fine around _ one)

  scalar_fine : (around at : ℕ) (p : Plan) → PlanFine around p → PlanFine around (planned at (node.ScalarOf p))
  scalar_fine around at p one = over_fine around _ (measured p ∷ []) _ (of-ScalarOf node_measure (λ p. p.node p.at) at p) (one_fine around _ one)

  vector_fine : (around at : ℕ) (p : Plan) → PlanFine around p → PlanFine around (planned at (node.VectorOf p))
  vector_fine around at p one = over_fine around _ (measured p ∷ []) _ (of-VectorOf node_measure (λ p. p.node p.at) at p) (one_fine around _ one)

  group_fine : (around at : ℕ) (f : AggregateFunction) (by : Grouping) (ps : List Plan) (label : List ℕ) → AreFine around (map measured ps) → PlanFine around (planned at (node.Group f by ps label))
  group_fine around at f by ps label all = over_fine around _ (map measured ps) _ (of-Group node_measure (λ p. p.node p.at) at f by ps label) all

  join_fine : (around at : ℕ) (target separator : List ℕ) (sources : List (List ℕ)) (p : Plan) → PlanFine around p → PlanFine around (planned at (node.Relabel (Join target separator sources) p))
  join_fine around at target separator sources p one =
      over_fine around _ (measured p ∷ []) _ (of-Relabel node_measure (λ p. p.node p.at) at (Join target separator sources) p) (one_fine around _ one)

  replace_fine : (around at : ℕ) (target template source : List ℕ) (p : Plan) → PlanFine around p
      → PlanFine around (planned at (node.Relabel (Replace target template source (pattern_or (pattern_at placed at))) p))
  replace_fine around at target template source p one =
      let all = one_fine around _ one in
      subst (IsFine around) (sym (of-Relabel node_measure (λ p. p.node p.at) at (Replace target template source (pattern_or (pattern_at placed at))) p))
      (record { parts = all.parts; replaced = (refl, all.replaced); few = all.few })

  nothing_fine : (around at : ℕ) → PlanFine around (planned at (nothing_node at))
  nothing_fine around at =
      group_fine around at aggregate.TopK (record { without = false; names = [] }) _ []
      (two_fine around _ _ (number_fine around at zero_number) (vector_fine around at _ (number_fine around at zero_number)))

  -- ---- calls, over arguments that are fine

  record ArgumentsFine (around at : ℕ) (lows : List Low) : Type 0 where
    each : (i : ℕ) → PlanFine around (plan_at at placed lows i)
    all : AreFine around (map measured (plans_of placed lows))
    rest : AreFine around (map measured (plans_of placed (drop 1 lows)))

  minus_fine : (around at : ℕ) (scalar : Bool) (p : Plan) → PlanFine around p → PlanFine around (planned at (minus_node scalar at p))
  minus_fine around at true p one = vector_fine around at _ (element_fine around at element.Neg p [] one (none_fine around))
  minus_fine around at false p one = element_fine around at element.Neg p [] one (none_fine around)

  calendar_fine : (around at : ℕ) (part : _) (lows : List Low) → ArgumentsFine around at lows → PlanFine around (planned at (element_node (element.Calendar part) at lows placed))
  calendar_fine around at part [] fine = element_fine around at (element.Calendar part) _ _ (vector_fine around at _ (time_fine around at)) fine.rest
  calendar_fine around at part (l ∷ ls) fine = element_fine around at (element.Calendar part) _ _ (fine.each 0) fine.rest

  called_element : (around at : ℕ) (f : ElementFunction) (lows : List Low) → ArgumentsFine around at lows → PlanFine around (planned at (element_node f at lows placed))
  called_element around at element.Abs lows fine = element_fine around at element.Abs _ _ (fine.each 0) fine.rest
  called_element around at element.Ceil lows fine = element_fine around at element.Ceil _ _ (fine.each 0) fine.rest
  called_element around at element.Floor lows fine = element_fine around at element.Floor _ _ (fine.each 0) fine.rest
  called_element around at element.Round lows fine = element_fine around at element.Round _ _ (fine.each 0) fine.rest
  called_element around at element.Sgn lows fine = element_fine around at element.Sgn _ _ (fine.each 0) fine.rest
  called_element around at element.Clamp lows fine = element_fine around at element.Clamp _ _ (fine.each 0) fine.rest
  called_element around at element.ClampMin lows fine = element_fine around at element.ClampMin _ _ (fine.each 0) fine.rest
  called_element around at element.ClampMax lows fine = element_fine around at element.ClampMax _ _ (fine.each 0) fine.rest
  called_element around at element.Neg lows fine = minus_fine around at (scalar_or (slice_get lows 0)) _ (fine.each 0)
  called_element around at (element.Calendar part) lows fine = calendar_fine around at part lows fine

  called_window : (around at : ℕ) (f : WindowFunction) (lows : List Low) → ArgumentsFine around at lows → PlanFine around (planned at (window_node f at lows placed))
  called_window around at window.Rate lows fine = window_fine around at window.Rate _ [] (fine.each 0) (none_fine around)
  called_window around at window.Increase lows fine = window_fine around at window.Increase _ [] (fine.each 0) (none_fine around)
  called_window around at window.Delta lows fine = window_fine around at window.Delta _ [] (fine.each 0) (none_fine around)
  called_window around at window.Irate lows fine = window_fine around at window.Irate _ [] (fine.each 0) (none_fine around)
  called_window around at window.Idelta lows fine = window_fine around at window.Idelta _ [] (fine.each 0) (none_fine around)
  called_window around at window.Deriv lows fine = window_fine around at window.Deriv _ [] (fine.each 0) (none_fine around)
  called_window around at window.Changes lows fine = window_fine around at window.Changes _ [] (fine.each 0) (none_fine around)
  called_window around at window.Resets lows fine = window_fine around at window.Resets _ [] (fine.each 0) (none_fine around)
  called_window around at window.AvgOver lows fine = window_fine around at window.AvgOver _ [] (fine.each 0) (none_fine around)
  called_window around at window.MinOver lows fine = window_fine around at window.MinOver _ [] (fine.each 0) (none_fine around)
  called_window around at window.MaxOver lows fine = window_fine around at window.MaxOver _ [] (fine.each 0) (none_fine around)
  called_window around at window.SumOver lows fine = window_fine around at window.SumOver _ [] (fine.each 0) (none_fine around)
  called_window around at window.CountOver lows fine = window_fine around at window.CountOver _ [] (fine.each 0) (none_fine around)
  called_window around at window.StdvarOver lows fine = window_fine around at window.StdvarOver _ [] (fine.each 0) (none_fine around)
  called_window around at window.LastOver lows fine = window_fine around at window.LastOver _ [] (fine.each 0) (none_fine around)
  called_window around at window.PresentOver lows fine = window_fine around at window.PresentOver _ [] (fine.each 0) (none_fine around)
  called_window around at window.PredictLinear lows fine = window_fine around at window.PredictLinear _ _ (fine.each 0) (one_fine around _ (fine.each 1))
  called_window around at window.QuantileOver lows fine = window_fine around at window.QuantileOver _ _ (fine.each 1) (one_fine around _ (fine.each 0))

  absent_over_fine : (around at : ℕ) (windows : Bool) (labels : _) (p : Plan) → PlanFine around p → PlanFine around (planned at (absent_over_node windows labels at p))
  absent_over_fine around at true labels p one = absent_fine around at labels _ (window_fine around at window.LastOver p [] one (none_fine around))
  absent_over_fine around at false labels p one = absent_fine around at labels p one

  -- a selector that a timestamp reads is within the limits
  abbrev SelectsFine : Option (ℕ × Selector) → Type 0
  SelectsFine None = ⊤
  SelectsFine (Some own) = Within (Part.of_rules own.1.rules ∷ Part.of_moment own.1.moment ∷ [])

  stamped_fine : (around at : ℕ) (selects : Option (ℕ × Selector)) (p : Plan) → SelectsFine selects → PlanFine around p → PlanFine around (planned at (stamp_node selects p))
  stamped_fine around at None p own one = stamp_fine around at p one
  stamped_fine around at (Some own) p within one = stamp_fine around at _ (select_fine around own.0 own.1 true within)

  called : (around at : ℕ) (f : Func) (lows : List Low) → ArgumentsFine around at lows → SelectsFine (selects_or (slice_get lows 0)) → PlanFine around (planned at (call_node f at lows placed))
  called around at (func.Element f) lows fine own = called_element around at f lows fine
  called around at (func.Window f) lows fine own = called_window around at f lows fine
  called around at func.Absent lows fine own = absent_fine around at _ _ (fine.each 0)
  called around at func.AbsentOver lows fine own = absent_over_fine around at (windows_or (slice_get lows 0)) _ _ (fine.each 0)
  called around at func.HistogramQuantile lows fine own = buckets_fine around at _ _ (fine.each 0) (fine.each 1)
  called around at func.LabelJoin lows fine own = join_fine around at _ _ _ _ (fine.each 0)
  called around at func.LabelReplace lows fine own = replace_fine around at _ _ _ _ (fine.each 0)
  called around at func.Scalar lows fine own = scalar_fine around at _ (fine.each 0)
  called around at func.Sort lows fine own = sort_fine around at false _ (fine.each 0)
  called around at func.SortDesc lows fine own = sort_fine around at true _ (fine.each 0)
  called around at func.Time lows fine own = time_fine around at
  called around at func.Timestamp lows fine own = stamped_fine around at (selects_or (slice_get lows 0)) _ own (fine.each 0)
  called around at func.Vector lows fine own = vector_fine around at _ (fine.each 0)

  grouped : (around at : ℕ) (f : AggregateFunction) (by : Grouping) (lows : List Low) → ArgumentsFine around at lows → PlanFine around (planned at (group_node f by at lows placed))
  grouped around at aggregate.Sum by lows fine = group_fine around at aggregate.Sum by _ [] fine.all
  grouped around at aggregate.Avg by lows fine = group_fine around at aggregate.Avg by _ [] fine.all
  grouped around at aggregate.Min by lows fine = group_fine around at aggregate.Min by _ [] fine.all
  grouped around at aggregate.Max by lows fine = group_fine around at aggregate.Max by _ [] fine.all
  grouped around at aggregate.Count by lows fine = group_fine around at aggregate.Count by _ [] fine.all
  grouped around at aggregate.Group by lows fine = group_fine around at aggregate.Group by _ [] fine.all
  grouped around at aggregate.Stdvar by lows fine = group_fine around at aggregate.Stdvar by _ [] fine.all
  grouped around at aggregate.TopK by lows fine = group_fine around at aggregate.TopK by _ [] fine.all
  grouped around at aggregate.BottomK by lows fine = group_fine around at aggregate.BottomK by _ [] fine.all
  grouped around at aggregate.Quantile by lows fine = group_fine around at aggregate.Quantile by _ [] fine.all
  grouped around at aggregate.CountValues by lows fine = group_fine around at aggregate.CountValues by _ _ (one_fine around _ (fine.each 1))

  -- ---- trees

  record IsTold (l : Low) (parts : List Part) (crowd : ℕ → List QueryRefusal) : Type 0 where
    fine : (around : ℕ) → Within parts → crowd around ≡ [] → PlanFine around (l.plan placed)
    own : Within parts → SelectsFine l.selects

  abbrev IsKept : Expr → Type 0
  IsKept e = IsTold (low e) (parts_of e) (crowded e)

  abbrev Kept : Type 0
  Kept = (e : Expr) × IsKept e

  abbrev low_in : Node → ℕ → Low
  low_in = fold-Node (ℕ → Low) Low low_node (λ e. e.node e.at)

  abbrev parts_in : Node → List Part
  parts_in = fold-Node (List Part) (List Part) node_parts (λ e. e.node)

  abbrev crowded_in : Node → ℕ → ℕ → List QueryRefusal
  crowded_in = fold-Node (ℕ → ℕ → List QueryRefusal) (ℕ → List QueryRefusal) crowded_step crowded_expr

  abbrev IsKeptNode : Node → Type 0
  IsKeptNode n = (at : ℕ) → IsTold (low_in n at) (parts_in n) (crowded_in n at)

  abbrev lows : List Kept → List Low
  lows items = map low (map (λ e. e.0) items)

  abbrev parts : List Kept → List Part
  parts items = all_of (map parts_of (map (λ e. e.0) items))

  abbrev crowds : List Kept → ℕ → List QueryRefusal
  crowds items around = all_crowded (map crowded (map (λ e. e.0) items)) around

  first_within : (e : Kept) (es : List Kept) → Within (parts (e ∷ es)) → Within (parts_of e.0)
  first_within e es within = front _ (parts_of e.0) (parts es) within

  rest_within : (e : Kept) (es : List Kept) → Within (parts (e ∷ es)) → Within (parts es)
  rest_within e es within = behind _ (parts_of e.0) (parts es) within

  each_fine : (around at : ℕ) (items : List Kept) → Within (parts items) → crowds items around ≡ [] → (i : ℕ) → PlanFine around (plan_at at placed (lows items) i)
  each_fine around at [] within few zero = nothing_fine around at
  each_fine around at [] within few (suc i) = nothing_fine around at
  each_fine around at (e ∷ es) within few zero = e.1.fine around (first_within e es within) (front_none (crowded e.0 around) (crowds es around) few)
  each_fine around at (e ∷ es) within few (suc i) = each_fine around at es (rest_within e es within) (back_none (crowded e.0 around) (crowds es around) few) i

  all_fine : (around : ℕ) (items : List Kept) → Within (parts items) → crowds items around ≡ [] → AreFine around (map measured (plans_of placed (lows items)))
  all_fine around [] within few = none_fine around
  all_fine around (e ∷ es) within few =
      more_fine around _ _ (e.1.fine around (first_within e es within) (front_none (crowded e.0 around) (crowds es around) few))
      (all_fine around es (rest_within e es within) (back_none (crowded e.0 around) (crowds es around) few))

  tail_fine : (around : ℕ) (items : List Kept) → Within (parts items) → crowds items around ≡ [] → AreFine around (map measured (plans_of placed (drop 1 (lows items))))
  tail_fine around [] within few = none_fine around
  tail_fine around (e ∷ es) within few = all_fine around es (rest_within e es within) (back_none (crowded e.0 around) (crowds es around) few)

  arguments_fine : (around at : ℕ) (items : List Kept) → Within (parts items) → crowds items around ≡ [] → ArgumentsFine around at (lows items)
  arguments_fine around at items within few =
      record { each = each_fine around at items within few; all = all_fine around items within few; rest = tail_fine around items within few }

  first_selects : (items : List Kept) → Within (parts items) → SelectsFine (selects_or (slice_get (lows items) 0))
  first_selects [] within = record {}
  first_selects (e ∷ es) within = e.1.own (first_within e es within)

  abbrev Layer : Type 0
  Layer = Node-F ((n : Node) × IsKeptNode n) Kept

  abbrev bare : Layer → Node-F Node Expr
  bare = map-Node ((n : Node) × IsKeptNode n) Kept Node Expr (λ e. e.0) (λ e. e.0)

  abbrev LevelIs : Layer → ℕ → Type 0
  LevelIs y at =
      IsTold (low_node (map-Node Node Expr (ℕ → Low) Low low_in low (bare y)) at) (node_parts (map-Node Node Expr (List Part) (List Part) parts_in parts_of (bare y)))
      (crowded_step (map-Node Node Expr (ℕ → ℕ → List QueryRefusal) (ℕ → List QueryRefusal) crowded_in crowded (bare y)) at)

  sides : (l r : Kept) (around : ℕ) → Within (parts_of l.0 ++ parts_of r.0) → crowded l.0 around ++ crowded r.0 around ≡ []
      → AreFine around (measured ((low l.0).plan placed) ∷ measured ((low r.0).plan placed) ∷ [])
  sides l r around within few =
      two_fine around _ _ (l.1.fine around (front _ (parts_of l.0) (parts_of r.0) within) (front_none (crowded l.0 around) (crowded r.0 around) few))
      (r.1.fine around (behind _ (parts_of l.0) (parts_of r.0) within) (back_none (crowded l.0 around) (crowded r.0 around) few))

  level : (y : Layer) (at : ℕ) → LevelIs y at
  level (Node-F.Number value) at = record { fine = λ around within few. number_fine around at value; own = λ within. record {} }
  level (Node-F.Words text) at = record { fine = λ around within few. nothing_fine around at; own = λ within. record {} }
  level (Node-F.Paren e) at = record { fine = e.1.fine; own = e.1.own }
  level (Node-F.Negate e) at =
      record { fine = λ around within few. element_fine around at element.Neg _ [] (e.1.fine around within few) (none_fine around); own = λ within. record {} }
  level (Node-F.Select selector) at = record { fine = λ around within few. select_fine around at selector false within; own = λ within. within }
  level (Node-F.Range selector range) at = record {
    fine = λ around within few.
        subst (IsFine around) (sym (of-Range node_measure (λ p. p.node p.at) at selector.rules selector.moment range)) (record { parts = within; replaced = tt; few = refl });
    own = λ within. record {};
  }
  level (Node-F.Subquery e range step moment) at = record {
    fine = λ around within few.
        let inside = around * points range step in
        let crowd = where_true (nat_lt most_points inside) (TooManyPoints at) in
        let inner = e.1.fine inside within.1.1.1 (back_none crowd (crowded e.0 inside) few) in
        let all = one_fine inside _ inner in
        subst (IsFine around) (sym (of-Subquery node_measure (λ p. p.node p.at) at ((low e.0).plan placed) range step moment))
        (record {
          parts = (within.0, (within.1.0, (within.1.1.0, all.parts)));
          replaced = all.replaced;
          few = both_true (not (nat_lt most_points inside)) _ (not_crowded (nat_lt most_points inside) _ (front_none crowd (crowded e.0 inside) few)) inner.few;
        });
    own = λ within. record {};
  }
  level (Node-F.Call f items) at =
      record { fine = λ around within few. called around at f (lows items) (arguments_fine around at items within few) (first_selects items within); own = λ within. record {} }
  level (Node-F.Aggregate f by items) at =
      record { fine = λ around within few. grouped around at f by (lows items) (arguments_fine around at items within few); own = λ within. record {} }
  level (Node-F.Pair op l r pairing) at = record {
    fine = λ around within few.
        over_fine around _ (measured ((low l.0).plan placed) ∷ measured ((low r.0).plan placed) ∷ []) _
        (of-Pair node_measure (λ p. p.node p.at) at op ((low l.0).plan placed) ((low r.0).plan placed) pairing) (sides l r around within few);
    own = λ within. record {};
  }
  level (Node-F.Set op l r pairing) at = record {
    fine = λ around within few.
        over_fine around _ (measured ((low l.0).plan placed) ∷ measured ((low r.0).plan placed) ∷ []) _
        (of-Set node_measure (λ p. p.node p.at) at op ((low l.0).plan placed) ((low r.0).plan placed) pairing) (sides l r around within few);
    own = λ within. record {};
  }

  abbrev low_level : Layer → ℕ → Low
  low_level y at = low_node (map-Node Node Expr (ℕ → Low) Low low_in low (bare y)) at

  abbrev parts_level : Layer → List Part
  parts_level y = node_parts (map-Node Node Expr (List Part) (List Part) parts_in parts_of (bare y))

  node_kept : (y : Layer) → IsKeptNode (roll-Node (bare y))
  node_kept y at =
      let n = roll-Node (bare y) in
      subst (λ (f : ℕ → Low). IsTold (f at) (parts_in n) (crowded_in n at)) (sym (fold-roll-Node (ℕ → Low) Low low_node (λ e. e.node e.at) (bare y)))
      (subst (λ (ps : List Part). IsTold (low_level y at) ps (crowded_in n at)) (sym (fold-roll-Node (List Part) (List Part) node_parts (λ e. e.node) (bare y)))
      (subst (λ (f : ℕ → ℕ → List QueryRefusal). IsTold (low_level y at) (parts_level y) (f at))
      (sym (fold-roll-Node (ℕ → ℕ → List QueryRefusal) (ℕ → List QueryRefusal) crowded_step crowded_expr (bare y))) (level y at)))

  expr_kept : (at : ℕ) (n : Node) → IsKeptNode n → IsKept (roll-Expr (record { at = at; node = n }))
  expr_kept at n kept =
      let e = roll-Expr (record { at = at; node = n }) in
      subst (λ (l : Low). IsTold l (parts_of e) (crowded e)) (sym (fold-roll-Expr (ℕ → Low) Low low_node (λ e. e.node e.at) (record { at = at; node = n })))
      (subst (λ (ps : List Part). IsTold (low_in n at) ps (crowded e)) (sym (fold-roll-Expr (List Part) (List Part) node_parts (λ e. e.node) (record { at = at; node = n })))
      (subst (λ (f : ℕ → List QueryRefusal). IsTold (low_in n at) (parts_in n) f)
      (sym (fold-roll-Expr (ℕ → ℕ → List QueryRefusal) (ℕ → List QueryRefusal) crowded_step crowded_expr (record { at = at; node = n }))) (kept at)))

  all_kept : (e : Expr) → IsKept e
  all_kept = ind-Expr IsKeptNode IsKept
      (λ x y is. subst (λ z. IsKeptNode (roll-Node z)) is (node_kept y))
      (λ x y is. subst (λ z. IsKept (roll-Expr z)) is (expr_kept y.at y.node.0 y.node.1))

  pub limits_stay : (e : Expr) (around : ℕ) → Within (parts_of e) → crowded e around ≡ [] → IsFine around (measured (lowered placed e))
  limits_stay e around within few = (all_kept e).fine around within few

-- nodes of one place have one pattern
pub one_pattern : (placed : List Placed) (replaced : List (ℕ × PatternId)) → AllByRecursion (IsFound placed) replaced → HasOnePattern replaced
one_pattern placed replaced all a b has_a has_b same =
    of_all (IsFound placed) replaced a all has_a
    ∙ ap (λ at. pattern_or (pattern_at placed at)) same
    ∙ sym (of_all (IsFound placed) replaced b all has_b)
