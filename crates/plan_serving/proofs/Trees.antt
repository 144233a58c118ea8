-- Kernels serve the plan of a tree without refusals whose patterns are kept.
use Rattle.std.proofs.Common.{◌≡◌, ◌∙◌, ℕ, zero, suc, ◌+◌, List, [], ◌∷◌, ◌++◌, map, drop, length, ap, sym, refl, subst, Bool, true, false, true≢false, arith}
use Rattle.std.proofs.lemmas.Bool.{eq-eqb, eqb-true, false≢true}
use Rattle.std.specs.Prelude.{◌&&◌, ◌||◌, ◌==◌, slice_get, Option, Some, None, ⊤, option_map, if◌then◌else◌}
use Rattle.std.specs.List.{AllByRecursion}
use Rattle.func_table.specs.declared.table.Element.{Element as ElementFunction}
use Rattle.func_table.specs.declared.table.Element.TheVariants as element
use Rattle.func_table.specs.declared.table.Window.{Window as WindowFunction}
use Rattle.func_table.specs.declared.table.Window.TheVariants as window
use Rattle.func_table.specs.declared.table.Func.{Func}
use Rattle.func_table.specs.declared.table.Func.TheVariants as func
use Rattle.func_table.specs.declared.table.Aggregate.{Aggregate as AggregateFunction}
use Rattle.func_table.specs.declared.table.Aggregate.TheVariants as aggregate
use Rattle.holders.specs.Joins.{back_of, both_of, front_of}
use Rattle.label_set.specs.Entries.{recursion_map}
use Rattle.label_set.specs.declared.rules.Grouping.{Grouping}
use Rattle.label_set.specs.declared.rules.PatternId.{PatternId}
use Rattle.label_set.specs.declared.rules.Relabel.TheVariants.{Replace, Join}
use Rattle.label_set.specs.declared.rules.Rule.{Rule}
use Rattle.match_rule.specs.Patterns.{HaveTheirPatterns, IsWholeId}
use Rattle.promql_ast.specs.Parts.{AreWithin, IsWithin, Part, all_of, node_parts, parts_of}
use Rattle.promql_ast.specs.declared.tree.Expr.{Expr}
use Rattle.promql_ast.specs.declared.tree.Node.{Node}
use Rattle.promql_ast.specs.declared.tree.Selector.{Selector}
use Rattle.promql_ast.specs.declared.tree.Node.TheOpen.{Node-F}
use Rattle.promql_ast.specs.declared.tree.Node.TheViews.{out-roll-Node, roll-Node, roll-Expr}
use Rattle.promql_ast.specs.declared.tree.Node.TheFolds.{map-Node, fold-Node, fold-roll-Node, fold-roll-Expr, ind-Expr}
use Rattle.promql_meaning.specs.Meaning.{zero_number}
use Rattle.promql_meaning.specs.Steadiness.{all_hold}
use Rattle.promql_type.specs.Fits.{FitArguments, Fits, FitsCall, TypedTreesFit}
use Rattle.promql_type.specs.Judging.{Judgement, all_replacements, expr_step, judged, node_step, pattern_of}
use Rattle.promql_type.specs.Kinds.{both, is_number}
use Rattle.promql_type.specs.Replacements.{AreKept, Kept}
use Rattle.promql_type.specs.Rules.{Literal}
use Rattle.promql_type.specs.Signatures.{Signature, from, is_count, signature}
use Rattle.promql_type.specs.TypedTrees.{pattern_at}
use Rattle.promql_type.specs.declared.kind.Kind.{Kind}
use Rattle.promql_type.specs.declared.kind.Kind.TheVariants.{Scalar, Vector, Windows, Words}
use Rattle.promql_type.specs.declared.replace.Placed.{Placed}
use Rattle.promql_type.specs.declared.replace.Replacement.{Replacement}
use Rattle.promql_type.specs.declared.signature.Callee.TheVariants.{Function, Aggregation}
use Rattle.logical_plan.specs.declared.nodes.Plan.{Plan}
use Rattle.logical_plan.specs.declared.nodes.PlanNode.TheVariants as node
use Rattle.logical_plan.specs.Lowering.{Low, absent_over_node, call_node, element_node, group_node, low, low_node, lowered, minus_node, nothing_node, pattern_or, plan_at, planned, plans_of, scalar_or, selects_or, stamp_node, window_node, windows_or}
use Rattle.logical_plan.specs.PlanFolds.{of-Number, of-Time, of-Select, of-Range, of-Subquery, of-Element, of-Stamp, of-Window, of-Absent, of-Buckets, of-Relabel, of-Sort, of-ScalarOf, of-VectorOf, of-Group, of-Pair, of-Set}
use Rattle.plan_serving.specs.Filters.{node_unfiltered, unfiltered}
use Rattle.plan_serving.specs.Serving.{Serving, all_patterns, all_rules, are_served, node_serving, serving}
use Rattle.plan_serving.specs.ServingLaws.{IsServedPlain, LoweredPlansAreServed}

and : (a b : Bool) → a ≡ true → b ≡ true → (a && b) ≡ true
and true b e f = f
and false b e f = absurd (cc)

-- ---- what calls give

number_both : (a b : Kind) → is_number (both a b) ≡ true
number_both Scalar Scalar = refl
number_both Scalar Vector = refl
number_both Scalar Windows = refl
number_both Scalar Words = refl
number_both Vector b = refl
number_both Windows b = refl
number_both Words b = refl

call_number : (f : Func) → is_number (signature (Function f)).gives ≡ true
call_number (func.Element f) = of_element f
  where
    of_element : (f : ElementFunction) → is_number (signature (Function (func.Element f))).gives ≡ true
    of_element element.Abs = refl
    of_element element.Ceil = refl
    of_element element.Floor = refl
    of_element element.Round = refl
    of_element element.Sgn = refl
    of_element element.Neg = refl
    of_element element.Clamp = refl
    of_element element.ClampMin = refl
    of_element element.ClampMax = refl
    of_element (element.Calendar part) = refl
call_number (func.Window f) = of_window f
  where
    of_window : (f : WindowFunction) → is_number (signature (Function (func.Window f))).gives ≡ true
    of_window window.Rate = refl
    of_window window.Increase = refl
    of_window window.Delta = refl
    of_window window.Irate = refl
    of_window window.Idelta = refl
    of_window window.Deriv = refl
    of_window window.PredictLinear = refl
    of_window window.Changes = refl
    of_window window.Resets = refl
    of_window window.AvgOver = refl
    of_window window.MinOver = refl
    of_window window.MaxOver = refl
    of_window window.SumOver = refl
    of_window window.CountOver = refl
    of_window window.StdvarOver = refl
    of_window window.QuantileOver = refl
    of_window window.LastOver = refl
    of_window window.PresentOver = refl
call_number func.Absent = refl
call_number func.AbsentOver = refl
call_number func.HistogramQuantile = refl
call_number func.LabelJoin = refl
call_number func.LabelReplace = refl
call_number func.Scalar = refl
call_number func.Sort = refl
call_number func.SortDesc = refl
call_number func.Time = refl
call_number func.Timestamp = refl
call_number func.Vector = refl

group_number : (f : AggregateFunction) → is_number (signature (Aggregation f)).gives ≡ true
group_number aggregate.Sum = refl
group_number aggregate.Avg = refl
group_number aggregate.Min = refl
group_number aggregate.Max = refl
group_number aggregate.Count = refl
group_number aggregate.Group = refl
group_number aggregate.Stdvar = refl
group_number aggregate.TopK = refl
group_number aggregate.BottomK = refl
group_number aggregate.Quantile = refl
group_number aggregate.CountValues = refl

not_words : (k : Kind) → is_number k ≡ true → k ≡ Words → ⊥
not_words k is same = absurd (true≢false (sym is ∙ ap is_number same))

not_windows : (k : Kind) → is_number k ≡ true → k ≡ Windows → ⊥
not_windows k is same = absurd (true≢false (sym is ∙ ap is_number same))

over_five : (a b c d e f : Judgement) (js : List Judgement) → (length (a ∷ b ∷ c ∷ d ∷ e ∷ f ∷ js) == 5) ≡ true → ⊥
over_five a b c d e f js is = omega (arith, eqb-true (length (a ∷ b ∷ c ∷ d ∷ e ∷ f ∷ js)) 5 is)

-- a literal that is there
record IsThere (literal : Option Literal) : Type 0 where
  found : Literal
  is : literal ≡ Some found

-- ---- nodes that fit

abbrev At : Type 0
At = ℕ → Judgement

abbrev node_judged : Node → At
node_judged = fold-Node At Judgement node_step expr_step

-- a node without refusals fits
fits_of : TypedTreesFit → (z : Node-F Node Expr) (at : ℕ) → (node_step (map-Node Node Expr At Judgement node_judged judged z) at).refusals ≡ []
    → Fits (map-Node Node Expr At Judgement node_judged judged z) at
fits_of fit z at none =
    subst (λ x. Fits (map-Node Node Expr At Judgement node_judged judged x) at) (out-roll-Node z)
    (fit (roll-Expr (record { at = at; node = roll-Node z }))
    (ap (λ (j : Judgement). j.refusals)
    (fold-roll-Expr At Judgement node_step expr_step (record { at = at; node = roll-Node z })
    ∙ ap (λ (f : At). f at) (fold-roll-Node At Judgement node_step expr_step z)) ∙ none))

module _ (kept : Kept) where
  abbrev IsPattern : PatternId → Type 0
  IsPattern id = IsWholeId kept id.0

  -- a pattern that is kept stands at a place
  abbrev IsFound : List Placed → ℕ → Type 0
  IsFound placed at = IsPattern (pattern_or (pattern_at placed at))

  abbrev AreFound : List Placed → List Replacement → Type 0
  AreFound placed calls = AllByRecursion (λ (r : Replacement). IsFound placed r.at) calls

  more_found : (p : Placed) (ps : List Placed) → IsPattern p.id → (r : Replacement) → IsFound ps r.at → IsFound (p ∷ ps) r.at
  more_found p ps whole r found = by (p.at == r.at)
    where
      by : (b : Bool) → IsPattern (pattern_or (if b then Some p.id else pattern_at ps r.at))
      by true = whole
      by false = found

  first_found : (p : Placed) (ps : List Placed) (at : ℕ) → p.at ≡ at → IsPattern p.id → IsFound (p ∷ ps) at
  first_found p ps at same whole = by (p.at == at) refl
    where
      by : (b : Bool) → (p.at == at) ≡ b → IsPattern (pattern_or (if b then Some p.id else pattern_at ps at))
      by true is = whole
      by false is = absurd (false≢true (sym is ∙ ap (λ (n : ℕ). n == at) same ∙ eq-eqb at at refl))

  pub all_found : (calls : List Replacement) (placed : List Placed) → AreKept kept calls placed → AreFound placed calls
  all_found [] [] are = tt
  all_found [] (p ∷ ps) are = absurd are
  all_found (r ∷ rs) [] are = absurd are
  all_found (r ∷ rs) (p ∷ ps) are =
      let whole : IsPattern p.id = ap (λ (o : Option (Bool × List ℕ)). option_map (λ q. q.0) o) are.1 in
      (first_found p ps r.at are.0 whole, recursion_map (λ (q : Replacement). IsFound ps q.at) (λ (q : Replacement). IsFound (p ∷ ps) q.at) (more_found p ps whole) rs (all_found rs ps are.2))

module _ (fit : TypedTreesFit) (kept : Kept) (placed : List Placed) (longest latest : ℕ) where
  abbrev Within : List Part → Type 0
  Within parts = AreWithin (HaveTheirPatterns kept) longest latest parts

  abbrev InLimits : Part → Type 0
  InLimits = IsWithin (HaveTheirPatterns kept) longest latest

  abbrev Found : List Replacement → Type 0
  Found calls = AreFound kept placed calls

  abbrev IsCall : Replacement → Type 0
  IsCall r = IsFound kept placed r.at

  -- ---- nodes

  record IsFine (p : Plan) : Type 0 where
    windows : (serving p).served ≡ true
    rules : HaveTheirPatterns kept (serving p).rules
    patterns : AllByRecursion (IsPattern kept) (serving p).patterns
    plain : unfiltered p ≡ true

  record AreFine (ps : List Plan) : Type 0 where
    windows : are_served (map serving ps) ≡ true
    rules : HaveTheirPatterns kept (all_rules (map serving ps))
    patterns : AllByRecursion (IsPattern kept) (all_patterns (map serving ps))
    plain : all_hold (map unfiltered ps) ≡ true

  -- a plan that gives windows
  abbrev Reads : Plan → Type 0
  Reads p = ((serving p).ranges || (serving p).points) ≡ true

  none_fine : AreFine []
  none_fine = record { windows = refl; rules = tt; patterns = tt; plain = refl }

  more_fine : (p : Plan) (ps : List Plan) → IsFine p → AreFine ps → AreFine (p ∷ ps)
  more_fine p ps one more = record {
    windows = and (serving p).served (are_served (map serving ps)) one.windows more.windows;
    rules = both_of _ (serving p).rules (all_rules (map serving ps)) one.rules more.rules;
    patterns = both_of (IsPattern kept) (serving p).patterns (all_patterns (map serving ps)) one.patterns more.patterns;
    plain = and (unfiltered p) (all_hold (map unfiltered ps)) one.plain more.plain;
  }

  one_fine : (p : Plan) → IsFine p → AreFine (p ∷ [])
  one_fine p one = more_fine p [] one none_fine

  two_fine : (p q : Plan) → IsFine p → IsFine q → AreFine (p ∷ q ∷ [])
  two_fine p q one other = more_fine p (q ∷ []) one (one_fine q other)

  -- a node over such plans, which serves them itself and has these rules and patterns
  abbrev over : Bool → Bool → Bool → List Rule → List PatternId → List Plan → Serving
  over ranges points served rules patterns ps = record {
    ranges = ranges;
    points = points;
    served = served && are_served (map serving ps);
    rules = rules ++ all_rules (map serving ps);
    patterns = patterns ++ all_patterns (map serving ps);
  }

  over_fine : (p : Plan) (ranges points served : Bool) (rules : List Rule) (patterns : List PatternId) (ps : List Plan) → serving p ≡ over ranges points served rules patterns ps
      → unfiltered p ≡ all_hold (map unfiltered ps) → served ≡ true → HaveTheirPatterns kept rules → AllByRecursion (IsPattern kept) patterns → AreFine ps → IsFine p
  over_fine p ranges points served rules patterns ps is bare own own_rules own_patterns fine = record {
    windows = ap (λ (s : Serving). s.served) is ∙ and served (are_served (map serving ps)) own fine.windows;
    rules = subst (λ (s : Serving). HaveTheirPatterns kept s.rules) (sym is) (both_of _ rules (all_rules (map serving ps)) own_rules fine.rules);
    patterns = subst (λ (s : Serving). AllByRecursion (IsPattern kept) s.patterns) (sym is) (both_of (IsPattern kept) patterns (all_patterns (map serving ps)) own_patterns fine.patterns);
    plain = bare ∙ fine.plain;
  }

  -- one that has nothing of its own
  bare_fine : (p : Plan) (ps : List Plan) → serving p ≡ over false false true [] [] ps → unfiltered p ≡ all_hold (map unfiltered ps) → AreFine ps → IsFine p
  bare_fine p ps is bare fine = over_fine p false false true [] [] ps is bare refl tt tt fine

  number_fine : (at : ℕ) (v : _) → IsFine (planned at (node.Number v))
  number_fine at v = bare_fine _ [] (of-Number node_serving (λ p. p.node) at v) (of-Number node_unfiltered (λ p. p.node) at v) none_fine

  time_fine : (at : ℕ) → IsFine (planned at node.Time)
  time_fine at = bare_fine _ [] (of-Time node_serving (λ p. p.node) at) (of-Time node_unfiltered (λ p. p.node) at) none_fine

  select_fine : (at : ℕ) (selector : Selector) (stamped : Bool) → HaveTheirPatterns kept selector.rules → IsFine (planned at (node.Select selector.rules selector.moment stamped))
  select_fine at selector stamped own =
      over_fine _ false false true selector.rules [] [] (of-Select node_serving (λ p. p.node) at selector.rules selector.moment stamped) (of-Select node_unfiltered (λ p. p.node) at selector.rules selector.moment stamped) refl own tt none_fine

  range_fine : (at : ℕ) (selector : Selector) (range : _) → HaveTheirPatterns kept selector.rules → IsFine (planned at (node.Range selector.rules selector.moment range))
  range_fine at selector range own =
      over_fine _ true false true selector.rules [] [] (of-Range node_serving (λ p. p.node) at selector.rules selector.moment range) (of-Range node_unfiltered (λ p. p.node) at selector.rules selector.moment range) refl own tt none_fine

  subquery_fine : (at : ℕ) (p : Plan) (range step : _) (moment : _) → IsFine p → IsFine (planned at (node.Subquery p range step moment))
  subquery_fine at p range step moment one =
      over_fine _ false true true [] [] (p ∷ []) (of-Subquery node_serving (λ p. p.node) at p range step moment) (of-Subquery node_unfiltered (λ p. p.node) at p range step moment) refl tt tt (one_fine p one)

  element_fine : (at : ℕ) (f : ElementFunction) (p : Plan) (ps : List Plan) → IsFine p → AreFine ps → IsFine (planned at (node.Element f p ps))
  element_fine at f p ps one more = bare_fine _ (p ∷ ps) (of-Element node_serving (λ p. p.node) at f p ps) (of-Element node_unfiltered (λ p. p.node) at f p ps) (more_fine p ps one more)

  window_fine : (at : ℕ) (f : WindowFunction) (p : Plan) (ps : List Plan) → Reads p → IsFine p → AreFine ps → IsFine (planned at (node.Window f p ps))
  window_fine at f p ps reads one more =
      over_fine _ false false ((serving p).ranges || (serving p).points) [] [] (p ∷ ps) (of-Window node_serving (λ p. p.node) at f p ps) (of-Window node_unfiltered (λ p. p.node) at f p ps) reads tt tt (more_fine p ps one more)

  stamp_fine : (at : ℕ) (p : Plan) → IsFine p → IsFine (planned at (node.Stamp p))
  stamp_fine at p one = bare_fine _ (p ∷ []) (of-Stamp node_serving (λ p. p.node) at p) (of-Stamp node_unfiltered (λ p. p.node) at p) (one_fine p one)

  absent_fine : (at : ℕ) (labels : _) (p : Plan) → IsFine p → IsFine (planned at (node.Absent labels p))
  absent_fine at labels p one = bare_fine _ (p ∷ []) (of-Absent node_serving (λ p. p.node) at labels p) (of-Absent node_unfiltered (λ p. p.node) at labels p) (one_fine p one)

  buckets_fine : (at : ℕ) (q p : Plan) → IsFine q → IsFine p → IsFine (planned at (node.Buckets q p))
  buckets_fine at q p one other = bare_fine _ (q ∷ p ∷ []) (of-Buckets node_serving (λ p. p.node) at q p) (of-Buckets node_unfiltered (λ p. p.node) at q p) (two_fine q p one other)

  sort_fine : (at : ℕ) (down : Bool) (p : Plan) → IsFine p → IsFine (planned at (node.Sort down p))
  sort_fine at down p one = bare_fine _ (p ∷ []) (of-Sort node_serving (λ p. p.node) at down p) (of-Sort node_unfiltered (λ p. p.node) at down p) (one_fine p one)

  scalar_fine : (at : ℕ) (p : Plan) → IsFine p → IsFine (planned at (node.ScalarOf p))
  scalar_fine at p one = bare_fine _ (p ∷ []) (of-ScalarOf node_serving (λ p. p.node) at p) (of-ScalarOf node_unfiltered (λ p. p.node) at p) (one_fine p one)

  vector_fine : (at : ℕ) (p : Plan) → IsFine p → IsFine (planned at (node.VectorOf p))
  vector_fine at p one = bare_fine _ (p ∷ []) (of-VectorOf node_serving (λ p. p.node) at p) (of-VectorOf node_unfiltered (λ p. p.node) at p) (one_fine p one)

  group_fine : (at : ℕ) (f : AggregateFunction) (by : Grouping) (ps : List Plan) (label : List ℕ) → AreFine ps → IsFine (planned at (node.Group f by ps label))
  group_fine at f by ps label all = bare_fine _ ps (of-Group node_serving (λ p. p.node) at f by ps label) (of-Group node_unfiltered (λ p. p.node) at f by ps label) all

  join_fine : (at : ℕ) (target separator : List ℕ) (sources : List (List ℕ)) (p : Plan) → IsFine p → IsFine (planned at (node.Relabel (Join target separator sources) p))
  join_fine at target separator sources p one = bare_fine _ (p ∷ []) (of-Relabel node_serving (λ p. p.node) at (Join target separator sources) p) (of-Relabel node_unfiltered (λ p. p.node) at (Join target separator sources) p) (one_fine p one)

  replace_fine : (at : ℕ) (target template source : List ℕ) (id : PatternId) (p : Plan) → IsPattern kept id → IsFine p → IsFine (planned at (node.Relabel (Replace target template source id) p))
  replace_fine at target template source id p whole one =
      over_fine _ false false true [] (id ∷ []) (p ∷ []) (of-Relabel node_serving (λ p. p.node) at (Replace target template source id) p) (of-Relabel node_unfiltered (λ p. p.node) at (Replace target template source id) p) refl tt (whole, tt) (one_fine p one)

  pair_fine : (at : ℕ) (op : _) (l r : Plan) (pairing : _) → IsFine l → IsFine r → IsFine (planned at (node.Pair op l r pairing))
  pair_fine at op l r pairing one other = bare_fine _ (l ∷ r ∷ []) (of-Pair node_serving (λ p. p.node) at op l r pairing) (of-Pair node_unfiltered (λ p. p.node) at op l r pairing) (two_fine l r one other)

  set_fine : (at : ℕ) (op : _) (l r : Plan) (pairing : _) → IsFine l → IsFine r → IsFine (planned at (node.Set op l r pairing))
  set_fine at op l r pairing one other = bare_fine _ (l ∷ r ∷ []) (of-Set node_serving (λ p. p.node) at op l r pairing) (of-Set node_unfiltered (λ p. p.node) at op l r pairing) (two_fine l r one other)

  nothing_fine : (at : ℕ) → IsFine (planned at (nothing_node at))
  nothing_fine at =
      group_fine at aggregate.TopK (record { without = false; names = [] }) _ [] (two_fine _ _ (number_fine at zero_number) (vector_fine at _ (number_fine at zero_number)))

  -- ---- trees

  -- a selector that a timestamp reads has its patterns
  abbrev SelectsFine : Option (ℕ × Selector) → Type 0
  SelectsFine None = ⊤
  SelectsFine (Some own) = HaveTheirPatterns kept own.1.rules

  -- what is known of a tree: the string that it is, where it is one; that it gives windows, where it does; and its plan
  record IsTold (l : Low) (j : Judgement) (parts : List Part) : Type 0 where
    words : j.operand.gives ≡ Words → IsThere j.literal
    reads : j.operand.gives ≡ Windows → Reads (l.plan placed)
    fine : j.refusals ≡ [] → Within parts → Found j.replacements → IsFine (l.plan placed)
    own : Within parts → SelectsFine l.selects

  abbrev IsKept : Expr → Type 0
  IsKept e = IsTold (low e) (judged e) (parts_of e)

  abbrev Part_of : Type 0
  Part_of = (e : Expr) × IsKept e

  abbrev low_in : Node → ℕ → Low
  low_in = fold-Node (ℕ → Low) Low low_node (λ e. e.node e.at)

  abbrev parts_in : Node → List Part
  parts_in = fold-Node (List Part) (List Part) node_parts (λ e. e.node)

  abbrev IsKeptNode : Node → Type 0
  IsKeptNode n = (at : ℕ) → IsTold (low_in n at) (node_judged n at) (parts_in n)

  abbrev lows : List Part_of → List Low
  lows items = map low (map (λ e. e.0) items)

  abbrev judgements : List Part_of → List Judgement
  judgements items = map judged (map (λ e. e.0) items)

  abbrev parts : List Part_of → List Part
  parts items = all_of (map parts_of (map (λ e. e.0) items))

  abbrev calls : List Part_of → List Replacement
  calls items = all_replacements (judgements items)

  -- ---- arguments

  first_fine : (e : Part_of) (es : List Part_of) → (judged e.0).refusals ≡ [] → Within (parts (e ∷ es)) → Found (calls (e ∷ es)) → IsFine ((low e.0).plan placed)
  first_fine e es none within found =
      e.1.fine none (front_of InLimits (parts_of e.0) (parts es) within) (front_of IsCall (judged e.0).replacements (calls es) found)

  rest_within : (e : Part_of) (es : List Part_of) → Within (parts (e ∷ es)) → Within (parts es)
  rest_within e es within = back_of InLimits (parts_of e.0) (parts es) within

  rest_found : (e : Part_of) (es : List Part_of) → Found (calls (e ∷ es)) → Found (calls es)
  rest_found e es found = back_of IsCall (judged e.0).replacements (calls es) found

  each_fine : (at : ℕ) (row : Signature) (n : ℕ) (items : List Part_of) → FitArguments row n (judgements items) → Within (parts items) → Found (calls items) → (i : ℕ)
      → IsFine (plan_at at placed (lows items) i)
  each_fine at row n [] fits within found zero = nothing_fine at
  each_fine at row n [] fits within found (suc i) = nothing_fine at
  each_fine at row n (e ∷ es) fits within found zero = first_fine e es fits.0 within found
  each_fine at row n (e ∷ es) fits within found (suc i) = each_fine at row (n + 1) es fits.2 (rest_within e es within) (rest_found e es found) i

  all_fine : (row : Signature) (n : ℕ) (items : List Part_of) → FitArguments row n (judgements items) → Within (parts items) → Found (calls items) → AreFine (plans_of placed (lows items))
  all_fine row n [] fits within found = none_fine
  all_fine row n (e ∷ es) fits within found =
      more_fine _ _ (first_fine e es fits.0 within found) (all_fine row (n + 1) es fits.2 (rest_within e es within) (rest_found e es found))

  tail_fine : (row : Signature) (n : ℕ) (items : List Part_of) → FitArguments row n (judgements items) → Within (parts items) → Found (calls items) → AreFine (plans_of placed (drop 1 (lows items)))
  tail_fine row n [] fits within found = none_fine
  tail_fine row n (e ∷ es) fits within found = all_fine row (n + 1) es fits.2 (rest_within e es within) (rest_found e es found)

  record ArgumentsFine (at : ℕ) (ls : List Low) : Type 0 where
    each : (i : ℕ) → IsFine (plan_at at placed ls i)
    all : AreFine (plans_of placed ls)
    rest : AreFine (plans_of placed (drop 1 ls))

  arguments_fine : (at : ℕ) (row : Signature) (items : List Part_of) → FitArguments row 0 (judgements items) → Within (parts items) → Found (calls items) → ArgumentsFine at (lows items)
  arguments_fine at row items fits within found =
      record { each = each_fine at row 0 items fits within found; all = all_fine row 0 items fits within found; rest = tail_fine row 0 items fits within found }

  first_selects : (items : List Part_of) → Within (parts items) → SelectsFine (selects_or (slice_get (lows items) 0))
  first_selects [] within = record {}
  first_selects (e ∷ es) within = e.1.own (front_of InLimits (parts_of e.0) (parts es) within)

  -- ---- calls

  minus_fine : (at : ℕ) (scalar : Bool) (p : Plan) → IsFine p → IsFine (planned at (minus_node scalar at p))
  minus_fine at true p one = vector_fine at _ (element_fine at element.Neg p [] one none_fine)
  minus_fine at false p one = element_fine at element.Neg p [] one none_fine

  calendar_fine : (at : ℕ) (part : _) (ls : List Low) → ArgumentsFine at ls → IsFine (planned at (element_node (element.Calendar part) at ls placed))
  calendar_fine at part [] fine = element_fine at (element.Calendar part) _ _ (vector_fine at _ (time_fine at)) fine.rest
  calendar_fine at part (l ∷ ls) fine = element_fine at (element.Calendar part) _ _ (fine.each 0) fine.rest

  called_element : (at : ℕ) (f : ElementFunction) (ls : List Low) → ArgumentsFine at ls → IsFine (planned at (element_node f at ls placed))
  called_element at element.Abs ls fine = element_fine at element.Abs _ _ (fine.each 0) fine.rest
  called_element at element.Ceil ls fine = element_fine at element.Ceil _ _ (fine.each 0) fine.rest
  called_element at element.Floor ls fine = element_fine at element.Floor _ _ (fine.each 0) fine.rest
  called_element at element.Round ls fine = element_fine at element.Round _ _ (fine.each 0) fine.rest
  called_element at element.Sgn ls fine = element_fine at element.Sgn _ _ (fine.each 0) fine.rest
  called_element at element.Clamp ls fine = element_fine at element.Clamp _ _ (fine.each 0) fine.rest
  called_element at element.ClampMin ls fine = element_fine at element.ClampMin _ _ (fine.each 0) fine.rest
  called_element at element.ClampMax ls fine = element_fine at element.ClampMax _ _ (fine.each 0) fine.rest
  called_element at element.Neg ls fine = minus_fine at (scalar_or (slice_get ls 0)) _ (fine.each 0)
  called_element at (element.Calendar part) ls fine = calendar_fine at part ls fine

  -- a function of windows alone
  first_reads : (at : ℕ) (items : List Part_of) → is_count (from (Windows ∷ []) Vector) (length (judgements items)) ≡ true
      → FitArguments (from (Windows ∷ []) Vector) 0 (judgements items) → Reads (plan_at at placed (lows items) 0)
  first_reads at [] count fits = absurd (false≢true count)
  first_reads at (e ∷ es) count fits = e.1.reads fits.1

  predict_reads : (at : ℕ) (items : List Part_of) → FitsCall (Function (func.Window window.PredictLinear)) (judgements items) → Reads (plan_at at placed (lows items) 0)
  predict_reads at [] fits = absurd (false≢true fits.0)
  predict_reads at (e ∷ es) fits = e.1.reads fits.1.1

  quantile_reads : (at : ℕ) (items : List Part_of) → FitsCall (Function (func.Window window.QuantileOver)) (judgements items) → Reads (plan_at at placed (lows items) 1)
  quantile_reads at [] fits = absurd (false≢true fits.0)
  quantile_reads at (d ∷ []) fits = absurd (false≢true fits.0)
  quantile_reads at (d ∷ e ∷ es) fits = e.1.reads fits.1.2.1

  called_window : (at : ℕ) (f : WindowFunction) (items : List Part_of) → FitsCall (Function (func.Window f)) (judgements items) → ArgumentsFine at (lows items)
      → IsFine (planned at (window_node f at (lows items) placed))
  called_window at window.Rate items fits fine = window_fine at window.Rate _ [] (first_reads at items fits.0 fits.1) (fine.each 0) none_fine
  called_window at window.Increase items fits fine = window_fine at window.Increase _ [] (first_reads at items fits.0 fits.1) (fine.each 0) none_fine
  called_window at window.Delta items fits fine = window_fine at window.Delta _ [] (first_reads at items fits.0 fits.1) (fine.each 0) none_fine
  called_window at window.Irate items fits fine = window_fine at window.Irate _ [] (first_reads at items fits.0 fits.1) (fine.each 0) none_fine
  called_window at window.Idelta items fits fine = window_fine at window.Idelta _ [] (first_reads at items fits.0 fits.1) (fine.each 0) none_fine
  called_window at window.Deriv items fits fine = window_fine at window.Deriv _ [] (first_reads at items fits.0 fits.1) (fine.each 0) none_fine
  called_window at window.Changes items fits fine = window_fine at window.Changes _ [] (first_reads at items fits.0 fits.1) (fine.each 0) none_fine
  called_window at window.Resets items fits fine = window_fine at window.Resets _ [] (first_reads at items fits.0 fits.1) (fine.each 0) none_fine
  called_window at window.AvgOver items fits fine = window_fine at window.AvgOver _ [] (first_reads at items fits.0 fits.1) (fine.each 0) none_fine
  called_window at window.MinOver items fits fine = window_fine at window.MinOver _ [] (first_reads at items fits.0 fits.1) (fine.each 0) none_fine
  called_window at window.MaxOver items fits fine = window_fine at window.MaxOver _ [] (first_reads at items fits.0 fits.1) (fine.each 0) none_fine
  called_window at window.SumOver items fits fine = window_fine at window.SumOver _ [] (first_reads at items fits.0 fits.1) (fine.each 0) none_fine
  called_window at window.CountOver items fits fine = window_fine at window.CountOver _ [] (first_reads at items fits.0 fits.1) (fine.each 0) none_fine
  called_window at window.StdvarOver items fits fine = window_fine at window.StdvarOver _ [] (first_reads at items fits.0 fits.1) (fine.each 0) none_fine
  called_window at window.LastOver items fits fine = window_fine at window.LastOver _ [] (first_reads at items fits.0 fits.1) (fine.each 0) none_fine
  called_window at window.PresentOver items fits fine = window_fine at window.PresentOver _ [] (first_reads at items fits.0 fits.1) (fine.each 0) none_fine
  called_window at window.PredictLinear items fits fine = window_fine at window.PredictLinear _ _ (predict_reads at items fits) (fine.each 0) (one_fine _ (fine.each 1))
  called_window at window.QuantileOver items fits fine = window_fine at window.QuantileOver _ _ (quantile_reads at items fits) (fine.each 1) (one_fine _ (fine.each 0))

  absent_over_fine : (at : ℕ) (windows : Bool) (labels : _) (p : Plan) → Reads p → IsFine p → IsFine (planned at (absent_over_node windows labels at p))
  absent_over_fine at true labels p reads one = absent_fine at labels _ (window_fine at window.LastOver p [] reads one none_fine)
  absent_over_fine at false labels p reads one = absent_fine at labels p one

  stamped_fine : (at : ℕ) (selects : Option (ℕ × Selector)) (p : Plan) → SelectsFine selects → IsFine p → IsFine (planned at (stamp_node selects p))
  stamped_fine at None p own one = stamp_fine at p one
  stamped_fine at (Some selector) p own one = stamp_fine at _ (select_fine selector.0 selector.1 true own)

  -- the pattern of a call stands at its place
  call_found : (at : ℕ) (items : List Part_of) → FitsCall (Function func.LabelReplace) (judgements items) → Found (pattern_of func.LabelReplace (judgements items) at)
      → IsFound kept placed at
  call_found at [] fits found = absurd (false≢true fits.0)
  call_found at (a ∷ []) fits found = absurd (false≢true fits.0)
  call_found at (a ∷ b ∷ []) fits found = absurd (false≢true fits.0)
  call_found at (a ∷ b ∷ c ∷ []) fits found = absurd (false≢true fits.0)
  call_found at (a ∷ b ∷ c ∷ d ∷ []) fits found = absurd (false≢true fits.0)
  call_found at (a ∷ b ∷ c ∷ d ∷ e ∷ []) fits found =
      let there = e.1.words fits.1.2.2.2.2.1 in
      (subst (λ (o : Option Literal). Found (pattern_of func.LabelReplace (judged a.0 ∷ judged b.0 ∷ judged c.0 ∷ judged d.0 ∷ record (judged e.0) { literal = o } ∷ []) at)) there.is found).0
  call_found at (a ∷ b ∷ c ∷ d ∷ e ∷ f ∷ es) fits found =
      absurd (over_five (judged a.0) (judged b.0) (judged c.0) (judged d.0) (judged e.0) (judged f.0) (judgements es) fits.0)

  called : (at : ℕ) (f : Func) (items : List Part_of) → FitsCall (Function f) (judgements items) → ArgumentsFine at (lows items) → SelectsFine (selects_or (slice_get (lows items) 0))
      → Found (pattern_of f (judgements items) at) → IsFine (planned at (call_node f at (lows items) placed))
  called at (func.Element f) items fits fine own found = called_element at f (lows items) fine
  called at (func.Window f) items fits fine own found = called_window at f items fits fine
  called at func.Absent items fits fine own found = absent_fine at _ _ (fine.each 0)
  called at func.AbsentOver items fits fine own found = absent_over_fine at (windows_or (slice_get (lows items) 0)) _ _ (first_reads at items fits.0 fits.1) (fine.each 0)
  called at func.HistogramQuantile items fits fine own found = buckets_fine at _ _ (fine.each 0) (fine.each 1)
  called at func.LabelJoin items fits fine own found = join_fine at _ _ _ _ (fine.each 0)
  called at func.LabelReplace items fits fine own found = replace_fine at _ _ _ _ _ (call_found at items fits found) (fine.each 0)
  called at func.Scalar items fits fine own found = scalar_fine at _ (fine.each 0)
  called at func.Sort items fits fine own found = sort_fine at false _ (fine.each 0)
  called at func.SortDesc items fits fine own found = sort_fine at true _ (fine.each 0)
  called at func.Time items fits fine own found = time_fine at
  called at func.Timestamp items fits fine own found = stamped_fine at (selects_or (slice_get (lows items) 0)) _ own (fine.each 0)
  called at func.Vector items fits fine own found = vector_fine at _ (fine.each 0)

  grouped : (at : ℕ) (f : AggregateFunction) (by : Grouping) (ls : List Low) → ArgumentsFine at ls → IsFine (planned at (group_node f by at ls placed))
  grouped at aggregate.Sum by ls fine = group_fine at aggregate.Sum by _ [] fine.all
  grouped at aggregate.Avg by ls fine = group_fine at aggregate.Avg by _ [] fine.all
  grouped at aggregate.Min by ls fine = group_fine at aggregate.Min by _ [] fine.all
  grouped at aggregate.Max by ls fine = group_fine at aggregate.Max by _ [] fine.all
  grouped at aggregate.Count by ls fine = group_fine at aggregate.Count by _ [] fine.all
  grouped at aggregate.Group by ls fine = group_fine at aggregate.Group by _ [] fine.all
  grouped at aggregate.Stdvar by ls fine = group_fine at aggregate.Stdvar by _ [] fine.all
  grouped at aggregate.TopK by ls fine = group_fine at aggregate.TopK by _ [] fine.all
  grouped at aggregate.BottomK by ls fine = group_fine at aggregate.BottomK by _ [] fine.all
  grouped at aggregate.Quantile by ls fine = group_fine at aggregate.Quantile by _ [] fine.all
  grouped at aggregate.CountValues by ls fine = group_fine at aggregate.CountValues by _ _ (one_fine _ (fine.each 1))

  -- ---- one level

  abbrev Layer : Type 0
  Layer = Node-F ((n : Node) × IsKeptNode n) Part_of

  abbrev bare : Layer → Node-F Node Expr
  bare = map-Node ((n : Node) × IsKeptNode n) Part_of Node Expr (λ e. e.0) (λ e. e.0)

  abbrev judged_layer : Layer → Node-F At Judgement
  judged_layer y = map-Node Node Expr At Judgement node_judged judged (bare y)

  abbrev low_layer : Layer → Node-F (ℕ → Low) Low
  low_layer y = map-Node Node Expr (ℕ → Low) Low low_in low (bare y)

  abbrev parts_layer : Layer → List Part
  parts_layer y = node_parts (map-Node Node Expr (List Part) (List Part) parts_in parts_of (bare y))

  -- a tree that gives numbers and is no selector
  number_told : (l : Low) (j : Judgement) (ps : List Part) → is_number j.operand.gives ≡ true → (j.refusals ≡ [] → Within ps → Found j.replacements → IsFine (l.plan placed))
      → (Within ps → SelectsFine l.selects) → IsTold l j ps
  number_told l j ps number fine own = record {
    words = λ is. absurd (not_words j.operand.gives number is);
    reads = λ is. absurd (not_windows j.operand.gives number is);
    fine = fine;
    own = own;
  }

  fits_at : (y : Layer) (at : ℕ) → (node_step (judged_layer y) at).refusals ≡ [] → Fits (judged_layer y) at
  fits_at y at none = fits_of fit (bare y) at none

  call_fine : (at : ℕ) (f : Func) (items : List Part_of) → FitsCall (Function f) (judgements items) → Within (parts items) → Found (calls items ++ pattern_of f (judgements items) at)
      → IsFine (planned at (call_node f at (lows items) placed))
  call_fine at f items fits within found =
      called at f items fits
      (arguments_fine at (signature (Function f)) items fits.1 within (front_of IsCall (calls items) (pattern_of f (judgements items) at) found))
      (first_selects items within) (back_of IsCall (calls items) (pattern_of f (judgements items) at) found)

  left_fine : (l : Part_of) (ps : List Part) (rs : List Replacement) → (judged l.0).refusals ≡ [] → Within (parts_of l.0 ++ ps) → Found ((judged l.0).replacements ++ rs)
      → IsFine ((low l.0).plan placed)
  left_fine l ps rs none within found = l.1.fine none (front_of InLimits (parts_of l.0) ps within) (front_of IsCall (judged l.0).replacements rs found)

  right_fine : (r : Part_of) (ps : List Part) (rs : List Replacement) → (judged r.0).refusals ≡ [] → Within (ps ++ parts_of r.0) → Found (rs ++ (judged r.0).replacements)
      → IsFine ((low r.0).plan placed)
  right_fine r ps rs none within found = r.1.fine none (back_of InLimits ps (parts_of r.0) within) (back_of IsCall rs (judged r.0).replacements found)

  level : (y : Layer) (at : ℕ) → IsTold (low_node (low_layer y) at) (node_step (judged_layer y) at) (parts_layer y)
  level (Node-F.Number value) at = number_told _ _ _ refl (λ none within found. number_fine at value) (λ within. record {})
  level (Node-F.Words text) at =
      record { words = λ is. record { found = (at, text); is = refl }; reads = λ is. absurd (cc); fine = λ none within found. nothing_fine at; own = λ within. record {} }
  level (Node-F.Paren e) at = record { words = e.1.words; reads = e.1.reads; fine = e.1.fine; own = e.1.own }
  level (Node-F.Negate e) at =
      number_told _ _ _ (number_both (judged e.0).operand.gives (judged e.0).operand.gives)
      (λ none within found. element_fine at element.Neg _ [] (e.1.fine (fits_at (Node-F.Negate e) at none).0 within found) none_fine) (λ within. record {})
  level (Node-F.Select selector) at = number_told _ _ _ refl (λ none within found. select_fine at selector false within.0) (λ within. within.0)
  level (Node-F.Range selector range) at = record {
    words = λ is. absurd (cc);
    reads = λ is. ap (λ (s : Serving). s.ranges || s.points) (of-Range node_serving (λ p. p.node) at selector.rules selector.moment range);
    fine = λ none within found. range_fine at selector range within.0;
    own = λ within. record {};
  }
  level (Node-F.Subquery e range step moment) at = record {
    words = λ is. absurd (cc);
    reads = λ is. ap (λ (s : Serving). s.ranges || s.points) (of-Subquery node_serving (λ p. p.node) at ((low e.0).plan placed) range step moment);
    fine = λ none within found. subquery_fine at _ range step moment (e.1.fine (fits_at (Node-F.Subquery e range step moment) at none).0 within.1.1.1 found);
    own = λ within. record {};
  }
  level (Node-F.Call f items) at =
      number_told _ _ _ (call_number f) (λ none within found. call_fine at f items (fits_at (Node-F.Call f items) at none) within found) (λ within. record {})
  level (Node-F.Aggregate f by items) at =
      number_told _ _ _ (group_number f)
      (λ none within found. grouped at f by (lows items) (arguments_fine at (signature (Aggregation f)) items (fits_at (Node-F.Aggregate f by items) at none).1 within found)) (λ within. record {})
  level (Node-F.Pair op l r pairing) at =
      number_told _ _ _ (number_both (judged l.0).operand.gives (judged r.0).operand.gives)
      (λ none within found.
      let fits = fits_at (Node-F.Pair op l r pairing) at none in
      pair_fine at op _ _ pairing (left_fine l (parts_of r.0) (judged r.0).replacements fits.0.0 within found) (right_fine r (parts_of l.0) (judged l.0).replacements fits.1.0 within found))
      (λ within. record {})
  level (Node-F.Set op l r pairing) at =
      number_told _ _ _ refl
      (λ none within found.
      let fits = fits_at (Node-F.Set op l r pairing) at none in
      set_fine at op _ _ pairing (left_fine l (parts_of r.0) (judged r.0).replacements fits.0.0 within found) (right_fine r (parts_of l.0) (judged l.0).replacements fits.1.0 within found))
      (λ within. record {})

  node_kept : (y : Layer) → IsKeptNode (roll-Node (bare y))
  node_kept y at =
      let n = roll-Node (bare y) in
      subst (λ (f : ℕ → Low). IsTold (f at) (node_judged n at) (parts_in n)) (sym (fold-roll-Node (ℕ → Low) Low low_node (λ e. e.node e.at) (bare y)))
      (subst (λ (f : At). IsTold (low_node (low_layer y) at) (f at) (parts_in n)) (sym (fold-roll-Node At Judgement node_step expr_step (bare y)))
      (subst (λ (ps : List Part). IsTold (low_node (low_layer y) at) (node_step (judged_layer y) at) ps) (sym (fold-roll-Node (List Part) (List Part) node_parts (λ e. e.node) (bare y))) (level y at)))

  expr_kept : (at : ℕ) (n : Node) → IsKeptNode n → IsKept (roll-Expr (record { at = at; node = n }))
  expr_kept at n told =
      let e = roll-Expr (record { at = at; node = n }) in
      subst (λ (l : Low). IsTold l (judged e) (parts_of e)) (sym (fold-roll-Expr (ℕ → Low) Low low_node (λ e. e.node e.at) (record { at = at; node = n })))
      (subst (λ (j : Judgement). IsTold (low_in n at) j (parts_of e)) (sym (fold-roll-Expr At Judgement node_step expr_step (record { at = at; node = n })))
      (subst (λ (ps : List Part). IsTold (low_in n at) (node_judged n at) ps) (sym (fold-roll-Expr (List Part) (List Part) node_parts (λ e. e.node) (record { at = at; node = n }))) (told at)))

  all_kept : (e : Expr) → IsKept e
  all_kept = ind-Expr IsKeptNode IsKept
      (λ x y is. subst (λ z. IsKeptNode (roll-Node z)) is (node_kept y))
      (λ x y is. subst (λ z. IsKept (roll-Expr z)) is (expr_kept y.at y.node.0 y.node.1))

  served_by : (p : Plan) → IsFine p → IsServedPlain kept p
  served_by p fine = record { served = record { windows = fine.windows; rules = fine.rules; patterns = fine.patterns }; plain = fine.plain }

  pub lowered_fine : (e : Expr) → (judged e).refusals ≡ [] → Within (parts_of e) → Found (judged e).replacements → IsServedPlain kept (lowered placed e)
  lowered_fine e none within found = served_by (lowered placed e) ((all_kept e).fine none within found)

pub lowered_served : TypedTreesFit → LoweredPlansAreServed
lowered_served fit kept placed longest latest e none within are = lowered_fine fit kept placed longest latest e none within (all_found kept (judged e).replacements placed are)
