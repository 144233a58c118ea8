-- The expression of a plan, planned again, means what the plan means.
use Rattle.std.proofs.Common.{◌≡◌, ◌∙◌, ℕ, List, [], ◌∷◌, ◌++◌, map, length, ap, ap₂, sym, refl, subst, Some, None, Bool, true, false, arith}
use Rattle.std.proofs.lemmas.Bool.{eqb-true, false≢true}
use Rattle.std.specs.Prelude.{ℤ, ◌&&◌, ◌==◌, not, Option, ⊤}
use Rattle.std.specs.List.{AllByRecursion}
use Rattle.func_table.specs.declared.table.Element.{Element as ElementFunction}
use Rattle.func_table.specs.declared.table.Element.TheVariants as element
use Rattle.func_table.specs.declared.table.Window.{Window as WindowFunction}
use Rattle.func_table.specs.declared.table.Window.TheVariants as window
use Rattle.func_table.specs.declared.table.Func.{Func}
use Rattle.func_table.specs.declared.table.Func.TheVariants as func
use Rattle.func_table.specs.declared.table.Aggregate.{Aggregate as AggregateFunction}
use Rattle.func_table.specs.declared.table.Aggregate.TheVariants as aggregate
use Rattle.label_set.specs.declared.rules.Grouping.{Grouping}
use Rattle.label_set.specs.declared.rules.PatternId.{PatternId}
use Rattle.label_set.specs.declared.rules.Relabel.{Relabel as Relabelling}
use Rattle.label_set.specs.declared.rules.Relabel.TheVariants as relabel
use Rattle.promql_ast.specs.Folds.{fold-Number, fold-Words, fold-Negate, fold-Select, fold-Range, fold-Subquery, fold-Call, fold-Aggregate, fold-Pair, fold-Set}
use Rattle.promql_ast.specs.declared.tree.Expr.{Expr}
use Rattle.promql_ast.specs.declared.tree.Node.TheVariants.{Number, Negate, Select, Range, Subquery, Call, Aggregate, Pair, Set}
use Rattle.promql_ast.specs.declared.tree.Node.TheOpen.{Node-F}
use Rattle.promql_ast.specs.declared.tree.Selector.{Selector}
use Rattle.promql_meaning.specs.Meaning.{meaning}
use Rattle.promql_meaning.specs.Selecting.{Asked}
use Rattle.promql_meaning.specs.Steadiness.{all_hold}
use Rattle.promql_type.specs.Signatures.{from, is_count, signature}
use Rattle.promql_type.specs.TypedTrees.{pattern_at}
use Rattle.promql_type.specs.declared.kind.Kind.{Kind}
use Rattle.promql_type.specs.declared.kind.Kind.TheVariants.{Scalar, Vector, Windows, Words as Strings}
use Rattle.promql_type.specs.declared.replace.Placed.{Placed}
use Rattle.promql_type.specs.declared.signature.Callee.TheVariants.{Function, Aggregation}
use Rattle.logical_plan.specs.declared.nodes.Plan.{Plan}
use Rattle.logical_plan.specs.declared.nodes.PlanNode.{PlanNode}
use Rattle.logical_plan.specs.declared.nodes.PlanNode.TheVariants as node
use Rattle.logical_plan.specs.declared.nodes.PlanNode.TheOpen.{PlanNode-F}
use Rattle.logical_plan.specs.declared.nodes.PlanNode.TheViews.{roll-Plan, roll-PlanNode}
use Rattle.logical_plan.specs.declared.nodes.PlanNode.TheFolds.{map-PlanNode, fold-PlanNode, fold-roll-Plan, fold-roll-PlanNode, ind-Plan}
use Rattle.logical_plan.specs.Lowering.{HasItsPlace, Low, Replacing, all_calls, all_words, call_node, element_node, group_node, low, low_node, own_call, pattern_or, planned, plans_of, stamp_node, window_node}
use Rattle.logical_plan.specs.PartExprs.{element_expression, expressed, expression_of, expression_step, is_expressible, node_expressible, relabel_expression, sort_function, window_expression, worded, group_arguments}
use Rattle.logical_plan.specs.PlanFolds.{of-Number, of-Time, of-Select, of-Range, of-Subquery, of-Element, of-Stamp, of-Window, of-Buckets, of-Relabel, of-Sort, of-ScalarOf, of-VectorOf, of-Group, of-Pair, of-Set}
use Rattle.logical_plan.specs.PlanMeaning.{Meant, node_meant, plan_meaning, plan_meant}
use Rattle.logical_plan.specs.PlanRules.{pattern_text, selector_of}
use Rattle.logical_plan.specs.PlanTypes.{IsTyped, Typing, are_sound, is_filled, is_group, is_of, is_relabel, is_sound, is_stamped, is_unstamped, is_window, kinds_of, node_typing, typing}
use Rattle.logical_plan.specs.Shown.{shown}
use Rattle.logical_plan.specs.Validity.{Measure, all_replaced, measured, node_measure, own_replaced}
use Rattle.holders.specs.Joins.{back_of as behind, both_of as joined, front_of as front}
use Rattle.logical_plan.specs.Laws.{PlanMeansItsTree}
use Rattle.expressed_laws.proofs.Ands.{left_true, right_true}
use Rattle.expressed_laws.proofs.Patterns.{IsFound}

-- ---- more arguments than are taken

pub too_many : (a b : Kind) (ks : List Kind) → (length (a ∷ b ∷ ks) == 1) ≡ true → ⊥
too_many a b ks is = omega (arith, eqb-true (length (a ∷ b ∷ ks)) 1 is)

pub too_many_for_two : (a b c : Kind) (ks : List Kind) → (length (a ∷ b ∷ c ∷ ks) == 2) ≡ true → ⊥
too_many_for_two a b c ks is = omega (arith, eqb-true (length (a ∷ b ∷ c ∷ ks)) 2 is)

pub too_many_before : (a b k : Kind) (ks : List Kind) → (length (a ∷ b ∷ (ks ++ k ∷ [])) == 2) ≡ true → ⊥
too_many_before a b k [] is = false≢true is
too_many_before a b k (c ∷ ks) is = omega (arith, eqb-true (length (a ∷ b ∷ c ∷ (ks ++ k ∷ []))) 2 is)

module _ (asked : Asked) (placed : List Placed) where
  abbrev M : Plan → Meant
  M = plan_meant asked

  abbrev E : Plan → Expr
  E = expression_of asked.kept

  -- ---- what is known of an expression that is planned again

  -- a selector's expression is a selector, of which only the stamp may differ
  abbrev SelectsAs : Option (ℕ × Selector) → Option Bool → Meant → Type 0
  SelectsAs None None m = ⊤
  SelectsAs None (Some stamped) m = ⊥
  SelectsAs (Some own) None m = ⊥
  SelectsAs (Some own) (Some stamped) m = m ≡ node_meant asked (PlanNode-F.Select own.1.rules own.1.moment stamped)

  abbrev ArePlaced : List Replacing → Type 0
  ArePlaced calls = AllByRecursion (HasItsPlace asked.kept placed) calls

  abbrev AreFound : List (ℕ × PatternId) → Type 0
  AreFound replaced = AllByRecursion (IsFound placed) replaced

  record IsKnown (l : Low) (select : Option Bool) (m : Meant) : Type 0 where
    selects : SelectsAs l.selects select m
    plan : is_unstamped select ≡ true → M (l.plan placed) ≡ m
    calls : ArePlaced l.calls

  abbrev HoldsOf : Low → Bool → Typing → Measure → Meant → Type 0
  HoldsOf l whole t r m = whole ≡ true → t.typed ≡ true → AreFound r.replaced → IsKnown l t.select m

  abbrev IsKept : Plan → Type 0
  IsKept p = HoldsOf (low (E p)) (is_expressible p) (typing p) (measured p) (M p)

  abbrev Kept : Type 0
  Kept = (p : Plan) × IsKept p

  abbrev bares : List Kept → List Plan
  bares items = map (λ p. p.0) items

  abbrev lows : List Kept → List Low
  lows items = map low (map E (bares items))

  -- a child that is no stamped selector
  record IsChild (l : Low) (m : Meant) : Type 0 where
    plan : M (l.plan placed) ≡ m
    calls : ArePlaced l.calls

  record AreChildren (ls : List Low) (ms : List Meant) : Type 0 where
    plans : map M (plans_of placed ls) ≡ ms
    calls : ArePlaced (all_calls ls)

  child : (p : Kept) → is_expressible p.0 ≡ true → is_sound (typing p.0) ≡ true → AreFound (measured p.0).replaced → IsChild (low (E p.0)) (M p.0)
  child p whole sound found =
      let known = p.1 whole (left_true (typing p.0).typed (is_unstamped (typing p.0).select) sound) found in
      record { plan = known.plan (right_true (typing p.0).typed (is_unstamped (typing p.0).select) sound); calls = known.calls }

  children : (items : List Kept) → all_hold (map is_expressible (bares items)) ≡ true → are_sound (map typing (bares items)) ≡ true
      → AreFound (all_replaced (map measured (bares items))) → AreChildren (lows items) (map M (bares items))
  children [] whole sound found = record { plans = refl; calls = tt }
  children (p ∷ ps) whole sound found =
      let w = is_expressible p.0 in
      let ws = all_hold (map is_expressible (bares ps)) in
      let s = is_sound (typing p.0) in
      let ss = are_sound (map typing (bares ps)) in
      let r = (measured p.0).replaced in
      let rs = all_replaced (map measured (bares ps)) in
      let one = child p (left_true w ws whole) (left_true s ss sound) (front (IsFound placed) r rs found) in
      let more = children ps (right_true w ws whole) (right_true s ss sound) (behind (IsFound placed) r rs found) in
      record {
        plans = ap₂ (λ x xs. x ∷ xs) one.plan more.plans;
        calls = joined (HasItsPlace asked.kept placed) (low (E p.0)).calls (all_calls (lows ps)) one.calls more.calls;
      }

  -- ---- nodes

  by_low : (l k : Low) (select : Option Bool) (m : Meant) → l ≡ k → IsKnown k select m → IsKnown l select m
  by_low l k select m is known = subst (λ (x : Low). IsKnown x select m) (sym is) known

  low_call : (at : ℕ) (f : Func) (es : List Expr) → low (expressed at (Call f es)) ≡ low_node (Node-F.Call f (map low es)) at
  low_call at f es = fold-Call low_node (λ e. e.node e.at) (expressed at (Call f es)) f es refl

  low_words : (at : ℕ) (text : List ℕ) → low (worded at text) ≡ low_node (Node-F.Words text) at
  low_words at text = fold-Words low_node (λ e. e.node e.at) (worded at text) text refl

  abbrev string : ℕ → List ℕ → Low
  string at text = low_node (Node-F.Words text) at

  -- a call of expressions that are planned like this
  called : (at : ℕ) (f : Func) (es : List Expr) (ls : List Low) (m : Meant) → map low es ≡ ls → M (planned at (call_node f at ls placed)) ≡ m
      → ArePlaced (all_calls ls) → ArePlaced (own_call f at ls) → IsKnown (low (expressed at (Call f es))) None m
  called at f es ls m are is calls own =
      by_low _ _ None m (low_call at f es ∙ ap (λ (xs : List Low). low_node (Node-F.Call f xs) at) are)
      (record { selects = record {}; plan = λ u. is; calls = joined (HasItsPlace asked.kept placed) (all_calls ls) (own_call f at ls) calls own })

  -- the calls of one argument and of more
  over_one : (l : Low) → ArePlaced l.calls → ArePlaced (all_calls (l ∷ []))
  over_one l calls = joined (HasItsPlace asked.kept placed) l.calls [] calls tt

  over_more : (l : Low) (ls : List Low) → ArePlaced l.calls → ArePlaced (all_calls ls) → ArePlaced (all_calls (l ∷ ls))
  over_more l ls one more = joined (HasItsPlace asked.kept placed) l.calls (all_calls ls) one more

  -- ---- element functions

  abbrev ElementIs : ElementFunction → ℕ → Kept → List Kept → Type 0
  ElementIs f at p ps =
      IsChild (low (E p.0)) (M p.0) → AreChildren (lows ps) (map M (bares ps))
      → IsKnown (low (expressed at (element_expression f (E p.0) (map E (bares ps))))) None (node_meant asked (PlanNode-F.Element f (M p.0) (map M (bares ps))))

  called_element : (f : ElementFunction) (at : ℕ) (p : Kept) (ps : List Kept)
      → element_node f at (low (E p.0) ∷ lows ps) placed ≡ node.Element f ((low (E p.0)).plan placed) (plans_of placed (lows ps))
      → IsChild (low (E p.0)) (M p.0) → AreChildren (lows ps) (map M (bares ps))
      → IsKnown (low (expressed at (Call (func.Element f) (E p.0 ∷ map E (bares ps))))) None (node_meant asked (PlanNode-F.Element f (M p.0) (map M (bares ps))))
  called_element f at p ps is c cs =
      called at (func.Element f) (E p.0 ∷ map E (bares ps)) (low (E p.0) ∷ lows ps) _ refl
      (ap (λ (n : PlanNode). M (planned at n)) is
      ∙ of-Element (node_meant asked) (λ p. p.node) at f ((low (E p.0)).plan placed) (plans_of placed (lows ps))
      ∙ ap₂ (λ x xs. node_meant asked (PlanNode-F.Element f x xs)) c.plan cs.plans)
      (over_more (low (E p.0)) (lows ps) c.calls cs.calls) tt

  element_is : (f : ElementFunction) (at : ℕ) (p : Kept) (ps : List Kept) → ElementIs f at p ps
  element_is element.Abs at p ps c cs = called_element element.Abs at p ps refl c cs
  element_is element.Ceil at p ps c cs = called_element element.Ceil at p ps refl c cs
  element_is element.Floor at p ps c cs = called_element element.Floor at p ps refl c cs
  element_is element.Round at p ps c cs = called_element element.Round at p ps refl c cs
  element_is element.Sgn at p ps c cs = called_element element.Sgn at p ps refl c cs
  element_is element.Clamp at p ps c cs = called_element element.Clamp at p ps refl c cs
  element_is element.ClampMin at p ps c cs = called_element element.ClampMin at p ps refl c cs
  element_is element.ClampMax at p ps c cs = called_element element.ClampMax at p ps refl c cs
  element_is (element.Calendar part) at p ps c cs = called_element (element.Calendar part) at p ps refl c cs
  element_is element.Neg at p ps c cs =
      by_low _ _ None _ (fold-Negate low_node (λ e. e.node e.at) (expressed at (Negate (E p.0))) (E p.0) refl)
      (record {
        selects = record {};
        plan = λ u. of-Element (node_meant asked) (λ p. p.node) at element.Neg ((low (E p.0)).plan placed) [] ∙ ap (λ x. node_meant asked (PlanNode-F.Element element.Neg x [])) c.plan;
        calls = c.calls;
      })

  -- ---- functions of windows

  abbrev WindowIs : WindowFunction → ℕ → Kept → List Kept → Type 0
  WindowIs f at p ps =
      IsChild (low (E p.0)) (M p.0) → AreChildren (lows ps) (map M (bares ps))
      → IsKnown (low (expressed at (window_expression f (E p.0) (map E (bares ps))))) None (node_meant asked (PlanNode-F.Window f (M p.0) (map M (bares ps))))

  abbrev kinds : List Kept → List Kind
  kinds ps = kinds_of (map typing (bares ps))

  -- a function of windows alone
  one_window : (f : WindowFunction) (at : ℕ) (p : Kept) (ps : List Kept)
      → is_count (from (Windows ∷ []) Vector) (length ((typing p.0).kind ∷ kinds ps)) ≡ true
      → ((l : Low) → window_node f at (l ∷ []) placed ≡ node.Window f (l.plan placed) [])
      → IsChild (low (E p.0)) (M p.0) → AreChildren (lows ps) (map M (bares ps))
      → IsKnown (low (expressed at (Call (func.Window f) (E p.0 ∷ map E (bares ps))))) None (node_meant asked (PlanNode-F.Window f (M p.0) (map M (bares ps))))
  one_window f at p [] count is c cs =
      called at (func.Window f) (E p.0 ∷ []) (low (E p.0) ∷ []) _ refl
      (ap (λ (n : PlanNode). M (planned at n)) (is (low (E p.0)))
      ∙ of-Window (node_meant asked) (λ p. p.node) at f ((low (E p.0)).plan placed) []
      ∙ ap (λ x. node_meant asked (PlanNode-F.Window f x [])) c.plan)
      (over_one (low (E p.0)) c.calls) tt
  one_window f at p (q ∷ qs) count is c cs = absurd (too_many (typing p.0).kind (typing q.0).kind (kinds qs) count)

  predict_is : (at : ℕ) (p : Kept) (ps : List Kept) → is_count (signature (Function (func.Window window.PredictLinear))) (length ((typing p.0).kind ∷ kinds ps)) ≡ true → WindowIs window.PredictLinear at p ps
  predict_is at p [] count c cs = absurd (false≢true count)
  predict_is at p (q ∷ []) count c cs =
      called at (func.Window window.PredictLinear) (E p.0 ∷ E q.0 ∷ []) (low (E p.0) ∷ low (E q.0) ∷ []) _ refl
      (of-Window (node_meant asked) (λ p. p.node) at window.PredictLinear ((low (E p.0)).plan placed) ((low (E q.0)).plan placed ∷ [])
      ∙ ap₂ (λ x xs. node_meant asked (PlanNode-F.Window window.PredictLinear x xs)) c.plan cs.plans)
      (over_more (low (E p.0)) (low (E q.0) ∷ []) c.calls cs.calls) tt
  predict_is at p (q ∷ r ∷ rs) count c cs = absurd (too_many_for_two (typing p.0).kind (typing q.0).kind (typing r.0).kind (kinds rs) count)

  quantile_is : (at : ℕ) (p : Kept) (ps : List Kept) → is_count (signature (Function (func.Window window.QuantileOver))) (length (kinds ps ++ (typing p.0).kind ∷ [])) ≡ true → WindowIs window.QuantileOver at p ps
  quantile_is at p [] count c cs = absurd (false≢true count)
  quantile_is at p (q ∷ []) count c cs =
      called at (func.Window window.QuantileOver) (E q.0 ∷ E p.0 ∷ []) (low (E q.0) ∷ low (E p.0) ∷ []) _ refl
      (of-Window (node_meant asked) (λ p. p.node) at window.QuantileOver ((low (E p.0)).plan placed) ((low (E q.0)).plan placed ∷ [])
      ∙ ap₂ (λ x xs. node_meant asked (PlanNode-F.Window window.QuantileOver x xs)) c.plan cs.plans)
      (over_more (low (E q.0)) (low (E p.0) ∷ []) (front (HasItsPlace asked.kept placed) (low (E q.0)).calls [] cs.calls) (over_one (low (E p.0)) c.calls)) tt
  quantile_is at p (q ∷ r ∷ rs) count c cs = absurd (too_many_before (typing q.0).kind (typing r.0).kind (typing p.0).kind (kinds rs) count)

  window_is : (f : WindowFunction) (at : ℕ) (p : Kept) (ps : List Kept) → is_window f (typing p.0).kind (kinds ps) ≡ true → WindowIs f at p ps
  window_is window.Rate at p ps typed c cs = one_window window.Rate at p ps (left_true _ _ typed) (λ l. refl) c cs
  window_is window.Increase at p ps typed c cs = one_window window.Increase at p ps (left_true _ _ typed) (λ l. refl) c cs
  window_is window.Delta at p ps typed c cs = one_window window.Delta at p ps (left_true _ _ typed) (λ l. refl) c cs
  window_is window.Irate at p ps typed c cs = one_window window.Irate at p ps (left_true _ _ typed) (λ l. refl) c cs
  window_is window.Idelta at p ps typed c cs = one_window window.Idelta at p ps (left_true _ _ typed) (λ l. refl) c cs
  window_is window.Deriv at p ps typed c cs = one_window window.Deriv at p ps (left_true _ _ typed) (λ l. refl) c cs
  window_is window.Changes at p ps typed c cs = one_window window.Changes at p ps (left_true _ _ typed) (λ l. refl) c cs
  window_is window.Resets at p ps typed c cs = one_window window.Resets at p ps (left_true _ _ typed) (λ l. refl) c cs
  window_is window.AvgOver at p ps typed c cs = one_window window.AvgOver at p ps (left_true _ _ typed) (λ l. refl) c cs
  window_is window.MinOver at p ps typed c cs = one_window window.MinOver at p ps (left_true _ _ typed) (λ l. refl) c cs
  window_is window.MaxOver at p ps typed c cs = one_window window.MaxOver at p ps (left_true _ _ typed) (λ l. refl) c cs
  window_is window.SumOver at p ps typed c cs = one_window window.SumOver at p ps (left_true _ _ typed) (λ l. refl) c cs
  window_is window.CountOver at p ps typed c cs = one_window window.CountOver at p ps (left_true _ _ typed) (λ l. refl) c cs
  window_is window.StdvarOver at p ps typed c cs = one_window window.StdvarOver at p ps (left_true _ _ typed) (λ l. refl) c cs
  window_is window.LastOver at p ps typed c cs = one_window window.LastOver at p ps (left_true _ _ typed) (λ l. refl) c cs
  window_is window.PresentOver at p ps typed c cs = one_window window.PresentOver at p ps (left_true _ _ typed) (λ l. refl) c cs
  window_is window.PredictLinear at p ps typed c cs = predict_is at p ps (left_true _ _ typed) c cs
  window_is window.QuantileOver at p ps typed c cs = quantile_is at p ps (left_true _ _ typed) c cs

  -- ---- timestamps

  stamp_is : (own : Option (ℕ × Selector)) (select : Option Bool) (at : ℕ) (inner : Plan) (m : Meant) → SelectsAs own select m → is_stamped select ≡ true
      → (is_unstamped select ≡ true → M inner ≡ m) → M (planned at (stamp_node own inner)) ≡ node_meant asked (PlanNode-F.Stamp m)
  stamp_is None None at inner m selects stamped plan =
      of-Stamp (node_meant asked) (λ p. p.node) at inner ∙ ap (λ x. node_meant asked (PlanNode-F.Stamp x)) (plan refl)
  stamp_is None (Some b) at inner m selects stamped plan = absurd selects
  stamp_is (Some own) None at inner m selects stamped plan = absurd selects
  stamp_is (Some own) (Some true) at inner m selects stamped plan =
      of-Stamp (node_meant asked) (λ p. p.node) at (planned own.0 (node.Select own.1.rules own.1.moment true))
      ∙ ap (λ x. node_meant asked (PlanNode-F.Stamp x)) (of-Select (node_meant asked) (λ p. p.node) own.0 own.1.rules own.1.moment true ∙ sym selects)
  stamp_is (Some own) (Some false) at inner m selects stamped plan = absurd (false≢true stamped)

  select_is : (at : ℕ) (rules : _) (moment : _) (stamped : Bool) → not stamped ≡ true
      → M (planned at (node.Select rules moment false)) ≡ node_meant asked (PlanNode-F.Select rules moment stamped)
  select_is at rules moment false off = of-Select (node_meant asked) (λ p. p.node) at rules moment false
  select_is at rules moment true off = absurd (false≢true off)

  -- ---- functions of one argument

  one_call : (f : Func) (at : ℕ) (p : Kept) (n : Plan → PlanNode) (m : Meant → Meant) → ((l : Low) → call_node f at (l ∷ []) placed ≡ n (l.plan placed))
      → ((l : Low) → own_call f at (l ∷ []) ≡ []) → ((q : Plan) → M (planned at (n q)) ≡ m (M q))
      → IsChild (low (E p.0)) (M p.0) → IsKnown (low (expressed at (Call f (E p.0 ∷ [])))) None (m (M p.0))
  one_call f at p n m is own means c =
      called at f (E p.0 ∷ []) (low (E p.0) ∷ []) _ refl
      (ap (λ (n : PlanNode). M (planned at n)) (is (low (E p.0))) ∙ means ((low (E p.0)).plan placed) ∙ ap m c.plan)
      (over_one (low (E p.0)) c.calls) (subst ArePlaced (sym (own (low (E p.0)))) tt)

  sort_is : (down : Bool) (at : ℕ) (p : Kept) → IsChild (low (E p.0)) (M p.0)
      → IsKnown (low (expressed at (Call (sort_function down) (E p.0 ∷ [])))) None (node_meant asked (PlanNode-F.Sort down (M p.0)))
  sort_is true at p c =
      one_call func.SortDesc at p (node.Sort true) (λ m. node_meant asked (PlanNode-F.Sort true m)) (λ l. refl) (λ l. refl) (of-Sort (node_meant asked) (λ p. p.node) at true) c
  sort_is false at p c =
      one_call func.Sort at p (node.Sort false) (λ m. node_meant asked (PlanNode-F.Sort false m)) (λ l. refl) (λ l. refl) (of-Sort (node_meant asked) (λ p. p.node) at false) c

  -- ---- changes of labels

  low_strings : (at : ℕ) (texts : List (List ℕ)) → map low (map (worded at) texts) ≡ map (string at) texts
  low_strings at [] = refl
  low_strings at (text ∷ texts) = ap₂ (λ x xs. x ∷ xs) (low_words at text) (low_strings at texts)

  strings_back : (at : ℕ) (texts : List (List ℕ)) → all_words (map (string at) texts) ≡ texts
  strings_back at [] = refl
  strings_back at (text ∷ texts) = ap (λ xs. text ∷ xs) (strings_back at texts)

  strings_call_nothing : (at : ℕ) (texts : List (List ℕ)) → ArePlaced (all_calls (map (string at) texts))
  strings_call_nothing at [] = tt
  strings_call_nothing at (text ∷ texts) = strings_call_nothing at texts

  -- the pattern of a node, with its place
  abbrev relabel_layer : Relabelling → Kept → PlanNode-F (ℕ → Measure) Measure
  relabel_layer rule p = PlanNode-F.Relabel rule (measured p.0)

  abbrev own_replaced_by : Relabelling → Kept → ℕ → List (ℕ × PatternId)
  own_replaced_by rule p at = own_replaced (relabel_layer rule p) at

  relabel_is : (rule : Relabelling) (at : ℕ) (p : Kept) → is_relabel rule ≡ true → AreFound (own_replaced_by rule p at) → IsChild (low (E p.0)) (M p.0)
      → IsKnown (low (expressed at (relabel_expression asked.kept rule at (E p.0)))) None (node_meant asked (PlanNode-F.Relabel rule (M p.0)))
  relabel_is (relabel.Replace target template source pattern) at p typed found c =
      let l = low (E p.0) in
      let text = pattern_text asked.kept pattern in
      called at func.LabelReplace (E p.0 ∷ worded at target ∷ worded at template ∷ worded at source ∷ worded at text ∷ [])
      (l ∷ string at target ∷ string at template ∷ string at source ∷ string at text ∷ []) _
      (λ i. l ∷ low_words at target i ∷ low_words at template i ∷ low_words at source i ∷ low_words at text i ∷ [])
      (of-Relabel (node_meant asked) (λ p. p.node) at (relabel.Replace target template source (pattern_or (pattern_at placed at))) (l.plan placed)
      ∙ ap₂ (λ id x. node_meant asked (PlanNode-F.Relabel (relabel.Replace target template source id) x)) (sym found.0) c.plan)
      (over_one l c.calls) (ap (pattern_text asked.kept) (sym found.0), tt)
  relabel_is (relabel.Join target separator sources) at p typed found c =
      let l = low (E p.0) in
      let strings = map (string at) sources in
      called at func.LabelJoin (E p.0 ∷ worded at target ∷ worded at separator ∷ map (worded at) sources) (l ∷ string at target ∷ string at separator ∷ strings) _
      (λ i. l ∷ low_words at target i ∷ low_words at separator i ∷ low_strings at sources i)
      (of-Relabel (node_meant asked) (λ p. p.node) at (relabel.Join target separator (all_words strings)) (l.plan placed)
      ∙ ap₂ (λ texts x. node_meant asked (PlanNode-F.Relabel (relabel.Join target separator texts) x)) (strings_back at sources) c.plan)
      (over_more l strings c.calls (strings_call_nothing at sources)) tt
  relabel_is (relabel.Filter rules) at p typed found c = absurd (false≢true typed)

  -- ---- aggregations

  abbrev GroupIs : AggregateFunction → Grouping → ℕ → List Kept → List ℕ → Type 0
  GroupIs f by at ps label =
      AreChildren (lows ps) (map M (bares ps))
      → IsKnown (low (expressed at (Aggregate f by (group_arguments f at (map E (bares ps)) label)))) None (node_meant asked (PlanNode-F.Group f by (map M (bares ps)) label))

  low_group : (at : ℕ) (f : AggregateFunction) (by : Grouping) (es : List Expr) → low (expressed at (Aggregate f by es)) ≡ low_node (Node-F.Aggregate f by (map low es)) at
  low_group at f by es = fold-Aggregate low_node (λ e. e.node e.at) (expressed at (Aggregate f by es)) f by es refl

  -- an aggregation without a label
  plain_group : (f : AggregateFunction) (by : Grouping) (at : ℕ) (ps : List Kept) (label : List ℕ)
      → ((ls : List Low) → group_node f by at ls placed ≡ node.Group f by (plans_of placed ls) [])
      → ((ms : List Meant) → node_meant asked (PlanNode-F.Group f by ms []) ≡ node_meant asked (PlanNode-F.Group f by ms label))
      → AreChildren (lows ps) (map M (bares ps))
      → IsKnown (low (expressed at (Aggregate f by (map E (bares ps))))) None (node_meant asked (PlanNode-F.Group f by (map M (bares ps)) label))
  plain_group f by at ps label is unlabelled cs =
      by_low _ _ None _ (low_group at f by (map E (bares ps)))
      (record {
        selects = record {};
        plan = λ u. ap (λ (n : PlanNode). M (planned at n)) (is (lows ps)) ∙ of-Group (node_meant asked) (λ p. p.node) at f by (plans_of placed (lows ps)) []
            ∙ unlabelled (map M (plans_of placed (lows ps))) ∙ ap (λ ms. node_meant asked (PlanNode-F.Group f by ms label)) cs.plans;
        calls = cs.calls;
      })

  counted_is : (by : Grouping) (at : ℕ) (ps : List Kept) (label : List ℕ) → is_count (signature (Aggregation aggregate.CountValues)) (length (Strings ∷ kinds ps)) ≡ true
      → GroupIs aggregate.CountValues by at ps label
  counted_is by at [] label count cs = absurd (false≢true count)
  counted_is by at (p ∷ []) label count cs =
      by_low _ _ None _ (low_group at aggregate.CountValues by (worded at label ∷ E p.0 ∷ []) ∙ ap (λ x. low_node (Node-F.Aggregate aggregate.CountValues by (x ∷ low (E p.0) ∷ [])) at) (low_words at label))
      (record {
        selects = record {};
        plan = λ u. of-Group (node_meant asked) (λ p. p.node) at aggregate.CountValues by ((low (E p.0)).plan placed ∷ []) label
            ∙ ap (λ ms. node_meant asked (PlanNode-F.Group aggregate.CountValues by ms label)) cs.plans;
        calls = cs.calls;
      })
  counted_is by at (p ∷ q ∷ qs) label count cs = absurd (too_many_for_two Strings (typing p.0).kind (typing q.0).kind (kinds qs) count)

  group_is : (f : AggregateFunction) (by : Grouping) (at : ℕ) (ps : List Kept) (label : List ℕ) → is_group f (kinds ps) label ≡ true → GroupIs f by at ps label
  group_is aggregate.Sum by at ps label typed cs = plain_group aggregate.Sum by at ps label (λ ls. refl) (λ ms. refl) cs
  group_is aggregate.Avg by at ps label typed cs = plain_group aggregate.Avg by at ps label (λ ls. refl) (λ ms. refl) cs
  group_is aggregate.Min by at ps label typed cs = plain_group aggregate.Min by at ps label (λ ls. refl) (λ ms. refl) cs
  group_is aggregate.Max by at ps label typed cs = plain_group aggregate.Max by at ps label (λ ls. refl) (λ ms. refl) cs
  group_is aggregate.Count by at ps label typed cs = plain_group aggregate.Count by at ps label (λ ls. refl) (λ ms. refl) cs
  group_is aggregate.Group by at ps label typed cs = plain_group aggregate.Group by at ps label (λ ls. refl) (λ ms. refl) cs
  group_is aggregate.Stdvar by at ps label typed cs = plain_group aggregate.Stdvar by at ps label (λ ls. refl) (λ ms. refl) cs
  group_is aggregate.TopK by at ps label typed cs = plain_group aggregate.TopK by at ps label (λ ls. refl) (λ ms. refl) cs
  group_is aggregate.BottomK by at ps label typed cs = plain_group aggregate.BottomK by at ps label (λ ls. refl) (λ ms. refl) cs
  group_is aggregate.Quantile by at ps label typed cs = plain_group aggregate.Quantile by at ps label (λ ls. refl) (λ ms. refl) cs
  group_is aggregate.CountValues by at ps label typed cs = counted_is by at ps label (left_true _ _ (right_true (is_filled label) _ typed)) cs

  -- ---- one level, of the nodes that are kept

  abbrev expression_in : PlanNode → ℕ → Expr
  expression_in = fold-PlanNode (ℕ → Expr) Expr (expression_step asked.kept) (λ p. p.node p.at)

  abbrev expressible_in : PlanNode → Bool
  expressible_in = fold-PlanNode Bool Bool node_expressible (λ p. p.node)

  abbrev typing_in : PlanNode → Typing
  typing_in = fold-PlanNode Typing Typing node_typing (λ p. p.node)

  abbrev measure_in : PlanNode → ℕ → Measure
  measure_in = fold-PlanNode (ℕ → Measure) Measure node_measure (λ p. p.node p.at)

  abbrev meant_in : PlanNode → Meant
  meant_in = fold-PlanNode Meant Meant (node_meant asked) (λ p. p.node)

  abbrev IsKeptNode : PlanNode → Type 0
  IsKeptNode n = (at : ℕ) → HoldsOf (low (expression_in n at)) (expressible_in n) (typing_in n) (measure_in n at) (meant_in n)

  abbrev Layer : Type 0
  Layer = PlanNode-F ((n : PlanNode) × IsKeptNode n) Kept

  abbrev bare : Layer → PlanNode-F PlanNode Plan
  bare = map-PlanNode ((n : PlanNode) × IsKeptNode n) Kept PlanNode Plan (λ n. n.0) (λ p. p.0)

  abbrev expression_level : Layer → ℕ → Expr
  expression_level y at = expression_step asked.kept (map-PlanNode PlanNode Plan (ℕ → Expr) Expr expression_in E (bare y)) at

  abbrev expressible_level : Layer → Bool
  expressible_level y = node_expressible (map-PlanNode PlanNode Plan Bool Bool expressible_in is_expressible (bare y))

  abbrev typing_level : Layer → Typing
  typing_level y = node_typing (map-PlanNode PlanNode Plan Typing Typing typing_in typing (bare y))

  abbrev measure_level : Layer → ℕ → Measure
  measure_level y at = node_measure (map-PlanNode PlanNode Plan (ℕ → Measure) Measure measure_in measured (bare y)) at

  abbrev meant_level : Layer → Meant
  meant_level y = node_meant asked (map-PlanNode PlanNode Plan Meant Meant meant_in M (bare y))

  -- the one child of a node
  only : (p : Kept) → all_hold (is_expressible p.0 ∷ []) ≡ true → is_sound (typing p.0) ≡ true → AreFound (all_replaced (measured p.0 ∷ [])) → IsChild (low (E p.0)) (M p.0)
  only p whole sound found = child p (left_true (is_expressible p.0) true whole) sound (front (IsFound placed) (measured p.0).replaced [] found)

  -- the first of several children
  first : (p : Kept) (ps : List Kept) → all_hold (is_expressible p.0 ∷ map is_expressible (bares ps)) ≡ true → is_sound (typing p.0) ≡ true
      → AreFound (all_replaced (measured p.0 ∷ map measured (bares ps))) → IsChild (low (E p.0)) (M p.0)
  first p ps whole sound found =
      child p (left_true (is_expressible p.0) _ whole) sound (front (IsFound placed) (measured p.0).replaced (all_replaced (map measured (bares ps))) found)

  -- the others
  others : (p : Kept) (ps : List Kept) → all_hold (is_expressible p.0 ∷ map is_expressible (bares ps)) ≡ true → are_sound (map typing (bares ps)) ≡ true
      → AreFound (all_replaced (measured p.0 ∷ map measured (bares ps))) → AreChildren (lows ps) (map M (bares ps))
  others p ps whole sound found =
      children ps (right_true (is_expressible p.0) _ whole) sound (behind (IsFound placed) (measured p.0).replaced (all_replaced (map measured (bares ps))) found)

  record AreSides (p q : Kept) : Type 0 where
    left : IsChild (low (E p.0)) (M p.0)
    right : IsChild (low (E q.0)) (M q.0)

  sides : (p q : Kept) → all_hold (is_expressible p.0 ∷ is_expressible q.0 ∷ []) ≡ true → is_sound (typing p.0) ≡ true → is_sound (typing q.0) ≡ true
      → AreFound (all_replaced (measured p.0 ∷ measured q.0 ∷ [])) → AreSides p q
  sides p q whole l r found = record {
    left = first p (q ∷ []) whole l found;
    right = only q (right_true (is_expressible p.0) _ whole) r (behind (IsFound placed) (measured p.0).replaced (all_replaced (measured q.0 ∷ [])) found);
  }

  abbrev calls_of_two : (p q : Kept) → AreSides p q → ArePlaced ((low (E p.0)).calls ++ (low (E q.0)).calls)
  calls_of_two p q two = joined (HasItsPlace asked.kept placed) (low (E p.0)).calls (low (E q.0)).calls two.left.calls two.right.calls

  sound_of : (kind : Kind) (t : Typing) → is_of kind t ≡ true → is_sound t ≡ true
  sound_of kind t is = left_true (is_sound t) _ is

  level : (y : Layer) (at : ℕ) → HoldsOf (low (expression_level y at)) (expressible_level y) (typing_level y) (measure_level y at) (meant_level y)
  level (PlanNode-F.Number value) at whole typed found =
      by_low _ _ None _ (fold-Number low_node (λ e. e.node e.at) (expressed at (Number value)) value refl)
      (record { selects = record {}; plan = λ u. of-Number (node_meant asked) (λ p. p.node) at value; calls = tt })
  level PlanNode-F.Time at whole typed found = called at func.Time [] [] _ refl (of-Time (node_meant asked) (λ p. p.node) at) tt tt
  level (PlanNode-F.Select rules moment stamped) at whole typed found =
      by_low _ _ (Some stamped) _ (fold-Select low_node (λ e. e.node e.at) (expressed at (Select (selector_of rules moment))) (selector_of rules moment) refl)
      (record { selects = refl; plan = select_is at rules moment stamped; calls = tt })
  level (PlanNode-F.Range rules moment range) at whole typed found =
      by_low _ _ None _ (fold-Range low_node (λ e. e.node e.at) (expressed at (Range (selector_of rules moment) range)) (selector_of rules moment) range refl)
      (record { selects = record {}; plan = λ u. of-Range (node_meant asked) (λ p. p.node) at rules moment range; calls = tt })
  level (PlanNode-F.Subquery p range step moment) at whole typed found =
      let c = only p whole (sound_of Vector (typing p.0) typed) found in
      by_low _ _ None _ (fold-Subquery low_node (λ e. e.node e.at) (expressed at (Subquery (E p.0) range step moment)) (E p.0) range step moment refl)
      (record {
        selects = record {};
        plan = λ u. of-Subquery (node_meant asked) (λ p. p.node) at ((low (E p.0)).plan placed) range step moment ∙ ap (λ x. node_meant asked (PlanNode-F.Subquery x range step moment)) c.plan;
        calls = c.calls;
      })
  level (PlanNode-F.Element f p ps) at whole typed found =
      let sound = left_true (is_sound (typing p.0) && are_sound (map typing (bares ps))) _ typed in
      element_is f at p ps (first p ps whole (left_true (is_sound (typing p.0)) _ sound) found) (others p ps whole (right_true (is_sound (typing p.0)) _ sound) found)
  level (PlanNode-F.Stamp p) at whole typed found =
      let sound = left_true ((typing p.0).typed && is_stamped (typing p.0).select) _ typed in
      let known = p.1 (left_true (is_expressible p.0) true whole) (left_true (typing p.0).typed _ sound) (front (IsFound placed) (measured p.0).replaced [] found) in
      called at func.Timestamp (E p.0 ∷ []) (low (E p.0) ∷ []) _ refl
      (stamp_is (low (E p.0)).selects (typing p.0).select at ((low (E p.0)).plan placed) (M p.0) known.selects (right_true (typing p.0).typed _ sound) known.plan)
      (over_one (low (E p.0)) known.calls) tt
  level (PlanNode-F.Window f p ps) at whole typed found =
      let sound = left_true (is_sound (typing p.0) && are_sound (map typing (bares ps))) _ typed in
      window_is f at p ps (right_true (is_sound (typing p.0) && are_sound (map typing (bares ps))) _ typed)
      (first p ps whole (left_true (is_sound (typing p.0)) _ sound) found) (others p ps whole (right_true (is_sound (typing p.0)) _ sound) found)
  level (PlanNode-F.Absent labels p) at whole typed found = absurd (false≢true whole)
  level (PlanNode-F.Buckets q p) at whole typed found =
      let two = sides q p whole (sound_of Scalar (typing q.0) (left_true (is_of Scalar (typing q.0)) _ typed)) (sound_of Vector (typing p.0) (right_true (is_of Scalar (typing q.0)) _ typed)) found in
      called at func.HistogramQuantile (E q.0 ∷ E p.0 ∷ []) (low (E q.0) ∷ low (E p.0) ∷ []) _ refl
      (of-Buckets (node_meant asked) (λ p. p.node) at ((low (E q.0)).plan placed) ((low (E p.0)).plan placed)
      ∙ ap₂ (λ x y. node_meant asked (PlanNode-F.Buckets x y)) two.left.plan two.right.plan)
      (over_more (low (E q.0)) (low (E p.0) ∷ []) two.left.calls (over_one (low (E p.0)) two.right.calls)) tt
  level (PlanNode-F.Relabel rule p) at whole typed found =
      relabel_is rule at p (left_true (is_relabel rule) _ typed) (front (IsFound placed) (own_replaced_by rule p at) (all_replaced (measured p.0 ∷ [])) found)
      (only p whole (sound_of Vector (typing p.0) (right_true (is_relabel rule) _ typed)) (behind (IsFound placed) (own_replaced_by rule p at) (all_replaced (measured p.0 ∷ [])) found))
  level (PlanNode-F.Sort down p) at whole typed found = sort_is down at p (only p whole (sound_of Vector (typing p.0) typed) found)
  level (PlanNode-F.ScalarOf p) at whole typed found =
      one_call func.Scalar at p node.ScalarOf (λ m. node_meant asked (PlanNode-F.ScalarOf m)) (λ l. refl) (λ l. refl) (of-ScalarOf (node_meant asked) (λ p. p.node) at)
      (only p whole (sound_of Vector (typing p.0) typed) found)
  level (PlanNode-F.VectorOf p) at whole typed found =
      one_call func.Vector at p node.VectorOf (λ m. node_meant asked (PlanNode-F.VectorOf m)) (λ l. refl) (λ l. refl) (of-VectorOf (node_meant asked) (λ p. p.node) at)
      (only p whole (sound_of Scalar (typing p.0) typed) found)
  level (PlanNode-F.Group f by ps label) at whole typed found =
      group_is f by at ps label (right_true (are_sound (map typing (bares ps))) _ typed) (children ps whole (left_true (are_sound (map typing (bares ps))) _ typed) found)
  level (PlanNode-F.Pair op p q pairing) at whole typed found =
      let sound = left_true (is_sound (typing p.0) && is_sound (typing q.0)) _ typed in
      let two = sides p q whole (left_true (is_sound (typing p.0)) _ sound) (right_true (is_sound (typing p.0)) _ sound) found in
      by_low _ _ None _ (fold-Pair low_node (λ e. e.node e.at) (expressed at (Pair op (E p.0) (E q.0) pairing)) op (E p.0) (E q.0) pairing refl)
      (record {
        selects = record {};
        plan = λ u. of-Pair (node_meant asked) (λ p. p.node) at op ((low (E p.0)).plan placed) ((low (E q.0)).plan placed) pairing
            ∙ ap₂ (λ x y. node_meant asked (PlanNode-F.Pair op x y pairing)) two.left.plan two.right.plan;
        calls = calls_of_two p q two;
      })
  level (PlanNode-F.Set op p q pairing) at whole typed found =
      let two = sides p q whole (sound_of Vector (typing p.0) (left_true (is_of Vector (typing p.0)) _ typed)) (sound_of Vector (typing q.0) (right_true (is_of Vector (typing p.0)) _ typed)) found in
      by_low _ _ None _ (fold-Set low_node (λ e. e.node e.at) (expressed at (Set op (E p.0) (E q.0) pairing)) op (E p.0) (E q.0) pairing refl)
      (record {
        selects = record {};
        plan = λ u. of-Set (node_meant asked) (λ p. p.node) at op ((low (E p.0)).plan placed) ((low (E q.0)).plan placed) pairing
            ∙ ap₂ (λ x y. node_meant asked (PlanNode-F.Set op x y pairing)) two.left.plan two.right.plan;
        calls = calls_of_two p q two;
      })
  level (PlanNode-F.Filter p rules) at whole typed found = absurd (false≢true whole)
  level (PlanNode-F.Ratio p q) at whole typed found = absurd (false≢true whole)
  level (PlanNode-F.Once p) at whole typed found = absurd (false≢true whole)
  level (PlanNode-F.Gather expr kind engines) at whole typed found = absurd (false≢true whole)

  -- ---- every plan

  node_kept : (y : Layer) → IsKeptNode (roll-PlanNode (bare y))
  node_kept y at =
      let n = roll-PlanNode (bare y) in
      subst (λ (f : ℕ → Expr). HoldsOf (low (f at)) (expressible_in n) (typing_in n) (measure_in n at) (meant_in n)) (sym (fold-roll-PlanNode (ℕ → Expr) Expr (expression_step asked.kept) (λ p. p.node p.at) (bare y)))
      (subst (λ (b : Bool). HoldsOf (low (expression_level y at)) b (typing_in n) (measure_in n at) (meant_in n)) (sym (fold-roll-PlanNode Bool Bool node_expressible (λ p. p.node) (bare y)))
      (subst (λ (t : Typing). HoldsOf (low (expression_level y at)) (expressible_level y) t (measure_in n at) (meant_in n)) (sym (fold-roll-PlanNode Typing Typing node_typing (λ p. p.node) (bare y)))
      (subst (λ (f : ℕ → Measure). HoldsOf (low (expression_level y at)) (expressible_level y) (typing_level y) (f at) (meant_in n)) (sym (fold-roll-PlanNode (ℕ → Measure) Measure node_measure (λ p. p.node p.at) (bare y)))
      (subst (λ (m : Meant). HoldsOf (low (expression_level y at)) (expressible_level y) (typing_level y) (measure_level y at) m) (sym (fold-roll-PlanNode Meant Meant (node_meant asked) (λ p. p.node) (bare y)))
      (level y at)))))

  plan_kept : (at : ℕ) (n : PlanNode) → IsKeptNode n → IsKept (roll-Plan (record { at = at; node = n }))
  plan_kept at n kept =
      let p = roll-Plan (record { at = at; node = n }) in
      subst (λ (e : Expr). HoldsOf (low e) (is_expressible p) (typing p) (measured p) (M p)) (sym (fold-roll-Plan (ℕ → Expr) Expr (expression_step asked.kept) (λ p. p.node p.at) (record { at = at; node = n })))
      (subst (λ (b : Bool). HoldsOf (low (expression_in n at)) b (typing p) (measured p) (M p)) (sym (fold-roll-Plan Bool Bool node_expressible (λ p. p.node) (record { at = at; node = n })))
      (subst (λ (t : Typing). HoldsOf (low (expression_in n at)) (expressible_in n) t (measured p) (M p)) (sym (fold-roll-Plan Typing Typing node_typing (λ p. p.node) (record { at = at; node = n })))
      (subst (λ (r : Measure). HoldsOf (low (expression_in n at)) (expressible_in n) (typing_in n) r (M p)) (sym (fold-roll-Plan (ℕ → Measure) Measure node_measure (λ p. p.node p.at) (record { at = at; node = n })))
      (subst (λ (m : Meant). HoldsOf (low (expression_in n at)) (expressible_in n) (typing_in n) (measure_in n at) m) (sym (fold-roll-Plan Meant Meant (node_meant asked) (λ p. p.node) (record { at = at; node = n })))
      (kept at)))))

  all_kept : (p : Plan) → IsKept p
  all_kept = ind-Plan IsKeptNode IsKept
      (λ x y is. subst (λ z. IsKeptNode (roll-PlanNode z)) is (node_kept y))
      (λ x y is. subst (λ z. IsKept (roll-Plan z)) is (plan_kept y.at y.node.0 y.node.1))

-- the expression of a plan means what the plan means, where the patterns of its label_replace nodes are found at their places
pub expression_means : PlanMeansItsTree → (asked : Asked) (placed : List Placed) (p : Plan) → is_expressible p ≡ true → IsTyped p → AllByRecursion (IsFound placed) (measured p).replaced
    → (t : ℤ) → shown (meaning asked (expression_of asked.kept p) t) ≡ plan_meaning asked p t
expression_means law asked placed p whole typed found t =
    let c = child asked placed (p, all_kept asked placed p) whole typed found in
    sym (law asked placed (expression_of asked.kept p) t c.calls) ∙ ap (λ (m : Meant). m.gives t) c.plan
