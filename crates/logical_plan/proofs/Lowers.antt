-- The plan of a tree means what the tree means.
use Rattle.std.proofs.Common.{◌≡◌, ◌∙◌, ℕ, zero, suc, List, [], ◌∷◌, ◌++◌, map, drop, ap, ap₂, sym, refl, subst, Some, None, Bool, true, false}
use Rattle.std.specs.Prelude.{ℤ, ◌&&◌, Option, Result, Ok, Err, slice_get}
use Rattle.std.specs.List.{AllByRecursion, filter_map}
use Rattle.func_table.specs.declared.table.Element.{Element as ElementFunction}
use Rattle.func_table.specs.declared.table.Element.TheVariants as element
use Rattle.func_table.specs.declared.table.Window.{Window as WindowFunction}
use Rattle.func_table.specs.declared.table.Window.TheVariants as window
use Rattle.func_table.specs.declared.table.Func.{Func}
use Rattle.func_table.specs.declared.table.Func.TheVariants as func
use Rattle.func_table.specs.declared.table.Aggregate.{Aggregate as AggregateFunction}
use Rattle.func_table.specs.declared.table.Aggregate.TheVariants as aggregate
use Rattle.label_set.specs.declared.rules.Grouping.{Grouping}
use Rattle.label_set.specs.declared.rules.Relabel.TheVariants.{Replace, Join}
use Rattle.label_set.specs.declared.rules.Rule.{Rule}
use Rattle.promql_ast.specs.declared.tree.Expr.{Expr}
use Rattle.promql_ast.specs.declared.tree.Node.{Node}
use Rattle.promql_ast.specs.declared.tree.Selector.{Selector}
use Rattle.promql_ast.specs.declared.tree.Node.TheOpen.{Node-F}
use Rattle.promql_ast.specs.declared.tree.Node.TheViews.{roll-Node, roll-Expr}
use Rattle.promql_ast.specs.declared.tree.Node.TheFolds.{map-Node, fold-Node, fold-roll-Node, fold-roll-Expr, ind-Expr}
use Rattle.promql_type.specs.TypedTrees.{pattern_at}
use Rattle.promql_type.specs.declared.replace.Placed.{Placed}
use Rattle.xfrac.specs.declared.value.NumFault.{NumFault}
use Rattle.xfrac.specs.declared.value.XFrac.{XFrac}
use Rattle.step_table.specs.Outcomes.{fault_mark, mark_of, row_of, settled, taken}
use Rattle.step_table.specs.Gathering.{nothing_more}
use Rattle.step_table.specs.Groups.{Names}
use Rattle.step_table.specs.Sets.{combined}
use Rattle.step_table.specs.Unions.{with_fatal}
use Rattle.step_table.specs.declared.step.Row.{Row}
use Rattle.step_table.specs.declared.step.Step.{Step}
use Rattle.promql_meaning.specs.Absences.{absent_labels}
use Rattle.promql_meaning.specs.Aggregations.{aggregated}
use Rattle.promql_meaning.specs.Buckets.{bucket_quantiles}
use Rattle.promql_meaning.specs.Elements.{at_instant, mapped, nameless, row_by_row, seconds_of, stamp_outcome, stamps, time_step, timestamps}
use Rattle.promql_meaning.specs.Givens.{barren, no_marks, step_of, with_scalar, words_of}
use Rattle.promql_meaning.specs.Meaning.{absent, aggregation, applied, argument, as_scalar, completed, given_at, meaning, negation, node_meaning, operation, over_windows, over_windows_with, step_at, windowed_by, windowed_with, words_at, zero_number}
use Rattle.promql_meaning.specs.Ranges.{windowed}
use Rattle.promql_meaning.specs.Results.{call_gives_scalar}
use Rattle.promql_meaning.specs.Relabels.{label_joined, label_replaced}
use Rattle.promql_meaning.specs.Selecting.{Asked, moment_of, selected}
use Rattle.promql_meaning.specs.Subqueries.{as_times, multiples, points_of, rows_over}
use Rattle.promql_meaning.specs.declared.given.Given.{Given}
use Rattle.promql_meaning.specs.declared.given.Given.TheVariants as given
use Rattle.promql_meaning.specs.declared.given.Stamped.{Stamped}
use Rattle.promql_meaning.specs.declared.given.Windows.{Windows}
use Rattle.logical_plan.specs.declared.nodes.Plan.{Plan}
use Rattle.logical_plan.specs.declared.nodes.PlanNode.{PlanNode}
use Rattle.logical_plan.specs.declared.nodes.PlanNode.TheVariants as node
use Rattle.logical_plan.specs.declared.nodes.PlanNode.TheOpen.{PlanNode-F}
use Rattle.logical_plan.specs.Lowering.{HasItsPlace, Low, Replacing, absent_over_node, all_calls, all_words, call_node, element_node, group_node, low, low_node, lowered, minus_node, nothing_node, own_call, pattern_or, plan_at, planned, plans_of, rules_or, scalar_or, selects_or, simple, stamp_node, window_node, windows_or, words_in}
use Rattle.logical_plan.specs.PlanFolds.{of-Number, of-Time, of-Select, of-Range, of-Subquery, of-Element, of-Stamp, of-Window, of-Absent, of-Buckets, of-Relabel, of-Sort, of-ScalarOf, of-VectorOf, of-Group, of-Pair, of-Set}
use Rattle.logical_plan.specs.PlanMeaning.{Meant, element_given, givens_at, node_meant, plan_meant, window_given}
use Rattle.logical_plan.specs.PlanRules.{absent_under, own_outcome, pattern_text, stamp, time_outcome}
use Rattle.logical_plan.specs.Shown.{rules_of, shown}
use Rattle.logical_plan.proofs.Fronts.{behind, front}
use Rattle.logical_plan.proofs.Lasts.{IsWindowed, gathered_are, last_absent, range_windows}
use Rattle.logical_plan.proofs.Showing.{IsPlain, IsUnscalar, absent_shown, aggregation_shown, applied_first, applied_shown, negation_plain, negation_shown, negation_unscalar, operation_plain, operation_shown, over_shown, over_with_shown, step_shown, unscalar_negation, unscalar_operation}

-- ---- the samples' own times

stamped_rows : (rows : List Stamped) → filter_map row_of (map own_outcome (filter_map row_of (map time_outcome rows))) ≡ filter_map row_of (map stamp_outcome rows)
stamped_rows [] = refl
stamped_rows (row ∷ rows) = by (seconds_of row.at.0) refl (stamped_rows rows)
  where
    by : (v : Result (Option XFrac) NumFault) → seconds_of row.at.0 ≡ v
        → filter_map row_of (map own_outcome (filter_map row_of (map time_outcome rows))) ≡ filter_map row_of (map stamp_outcome rows)
        → filter_map row_of (map own_outcome (filter_map row_of (map time_outcome (row ∷ rows)))) ≡ filter_map row_of (map stamp_outcome (row ∷ rows))
    by (Ok (Some v)) is rest = rw is (ap (λ more. record { labels = nameless row.labels; value = v } ∷ more) rest)
    by (Ok None) is rest = rw is rest
    by (Err f) is rest = rw is rest

no_faults : (rows : List Row) → filter_map mark_of (map own_outcome rows) ≡ []
no_faults [] = refl
no_faults (row ∷ rows) = no_faults rows

stamped_marks : (rows : List Stamped) → filter_map mark_of (map time_outcome rows) ≡ filter_map mark_of (map stamp_outcome rows)
stamped_marks [] = refl
stamped_marks (row ∷ rows) = by (seconds_of row.at.0) refl (stamped_marks rows)
  where
    by : (v : Result (Option XFrac) NumFault) → seconds_of row.at.0 ≡ v → filter_map mark_of (map time_outcome rows) ≡ filter_map mark_of (map stamp_outcome rows)
        → filter_map mark_of (map time_outcome (row ∷ rows)) ≡ filter_map mark_of (map stamp_outcome (row ∷ rows))
    by (Ok v) is rest = rw is rest
    by (Err f) is rest = rw is (ap (λ more. fault_mark f ∷ more) rest)

own_times : (rows : List Stamped) → row_by_row own_outcome (taken no_marks (map time_outcome rows)) ≡ stamps rows
own_times rows =
    let fatal = with_fatal no_marks (filter_map mark_of (map time_outcome rows)) in
    ap settled (λ i. record {
      table = record { rows = stamped_rows rows i };
      marks = (ap (with_fatal fatal) (no_faults (filter_map row_of (map time_outcome rows))) ∙ nothing_more fatal ∙ ap (with_fatal no_marks) (stamped_marks rows)) i;
    })

negated_step : (g : Given) → step_of (negation g) ≡ mapped element.Neg zero_number zero_number (step_of g)
negated_step (given.Scalar step) = refl
negated_step (given.Vector step) = refl
negated_step (given.Selected s) = refl
negated_step (given.Windows w) = refl
negated_step (given.Words text) = refl

module _ (asked : Asked) (placed : List Placed) where
  abbrev M : Plan → Meant
  M = plan_meant asked

  -- what a plan gives is shown of what a tree gives, and its rows aren't the samples' own times
  record Good (m : Meant) (g : ℤ → Given) : Type 0 where
    gives : (t : ℤ) → m.gives t ≡ shown (g t)
    own : m.own ≡ false

  abbrev pub SelectsAs : Option (ℕ × Selector) → Given → ℤ → Type 0
  SelectsAs None g t = timestamps g t ≡ at_instant t (step_of g)
  SelectsAs (Some own) g t = g ≡ given.Selected (record { rules = own.1.rules; rows = selected asked own.1 t })

  -- what is known of a tree besides its plan
  record IsTold (l : Low) (g : ℤ → Given) : Type 0 where
    rules : (t : ℤ) → l.rules ≡ rules_of (g t)
    selects : (t : ℤ) → SelectsAs l.selects (g t) t
    words : (t : ℤ) → l.words ≡ words_of (g t)
    windowed : (t : ℤ) → l.windows ≡ true → IsWindowed (g t)
    unscalar : (t : ℤ) → l.scalar ≡ false → IsUnscalar (g t)

  abbrev ArePlaced : List Replacing → Type 0
  ArePlaced calls = AllByRecursion (HasItsPlace asked.kept placed) calls

  record IsLow (l : Low) (g : ℤ → Given) : Type 0 where
    told : IsTold l g
    plan : ArePlaced l.calls → Good (M (l.plan placed)) g

  -- the same where the patterns of its calls are known to be placed
  record IsWhole (l : Low) (g : ℤ → Given) : Type 0 where
    told : IsTold l g
    plan : Good (M (l.plan placed)) g

  abbrev IsKept : Expr → Type 0
  IsKept e = IsLow (low e) (meaning asked e)

  abbrev Kept : Type 0
  Kept = (e : Expr) × IsKept e

  abbrev Whole : Type 0
  Whole = (e : Expr) × IsWhole (low e) (meaning asked e)

  abbrev node_given : Node → ℤ → Given
  node_given = fold-Node (ℤ → Given) (ℤ → Given) (node_meaning asked) (λ e. e.node)

  abbrev IsKeptNode : Node → Type 0
  IsKeptNode n = (at : ℕ) → IsLow (fold-Node (ℕ → Low) Low low_node (λ e. e.node e.at) n at) (node_given n)

  from : (p : Plan) (m : Meant) (g : ℤ → Given) → M p ≡ m → Good m g → Good (M p) g
  from p m g is good = subst (λ (x : Meant). Good x g) (sym is) good

  -- a plan of a node that gives this, at a place
  made : (p : Plan) (m : ℤ → Given) (g : ℤ → Given) → M p ≡ record { own = false; gives = m } → ((t : ℤ) → m t ≡ shown (g t)) → Good (M p) g
  made p m g is gives = from p (record { own = false; gives = m }) g is (record { gives = gives; own = refl })

  alike : (p : Plan) (g h : ℤ → Given) → Good (M p) g → ((t : ℤ) → g t ≡ h t) → Good (M p) h
  alike p g h good is = record { gives = λ t. good.gives t ∙ ap shown (is t); own = good.own }

  -- a tree that is neither a string nor a selector
  plain_told : (scalar : Bool) (at : ℕ) (n : List Placed → PlanNode) (calls : List Replacing) (g : ℤ → Given) → ((t : ℤ) → IsPlain (g t) t)
      → ((t : ℤ) → scalar ≡ false → IsUnscalar (g t)) → IsTold (simple scalar at n calls) g
  plain_told scalar at n calls g is unscalar = record {
    rules = λ t. sym ((is t).0);
    words = λ t. sym ((is t).1);
    selects = λ t. (is t).2;
    windowed = λ t on. absurd (cc);
    unscalar = unscalar;
  }

  -- ---- arguments

  abbrev lows : List Whole → List Low
  lows items = map low (map (λ e. e.0) items)

  abbrev givens : List Whole → ℤ → List Given
  givens items t = given_at (map (meaning asked) (map (λ e. e.0) items)) t

  number_means : (at : ℕ) (v : XFrac) → M (planned at (node.Number v)) ≡ node_meant asked (PlanNode-F.Number v)
  number_means at v = of-Number (node_meant asked) (λ p. p.node) at v

  nothing_good : (at : ℕ) → Good (M (planned at (nothing_node at))) (λ t. given.Vector (barren no_marks))
  nothing_good at =
      from _ (node_meant asked (PlanNode-F.Group aggregate.TopK all_one (node_meant asked (PlanNode-F.Number zero_number) ∷ node_meant asked (PlanNode-F.VectorOf (node_meant asked (PlanNode-F.Number zero_number))) ∷ []) [])) _
      (of-Group (node_meant asked) (λ p. p.node) at aggregate.TopK all_one (planned at (node.Number zero_number) ∷ planned at (node.VectorOf (planned at (node.Number zero_number))) ∷ []) []
      ∙ ap₂ (λ x y. node_meant asked (PlanNode-F.Group aggregate.TopK all_one (x ∷ y ∷ []) [])) (number_means at zero_number)
      (of-VectorOf (node_meant asked) (λ p. p.node) at (planned at (node.Number zero_number)) ∙ ap (λ x. node_meant asked (PlanNode-F.VectorOf x)) (number_means at zero_number)))
      (record { gives = λ t. refl; own = refl })
    where
      all_one : Grouping
      all_one = record { without = false; names = [] }

  arg_plan : (at : ℕ) (items : List Whole) (i : ℕ) → Good (M (plan_at at placed (lows items) i)) (λ t. argument (givens items t) i)
  arg_plan at [] zero = nothing_good at
  arg_plan at [] (suc i) = nothing_good at
  arg_plan at (e ∷ es) zero = e.1.plan
  arg_plan at (e ∷ es) (suc i) = arg_plan at es i

  arg_rules : (items : List Whole) (i : ℕ) (t : ℤ) → rules_or (slice_get (lows items) i) ≡ rules_of (argument (givens items t) i)
  arg_rules [] zero t = refl
  arg_rules [] (suc i) t = refl
  arg_rules (e ∷ es) zero t = e.1.told.rules t
  arg_rules (e ∷ es) (suc i) t = arg_rules es i t

  arg_selects : (items : List Whole) (i : ℕ) (t : ℤ) → SelectsAs (selects_or (slice_get (lows items) i)) (argument (givens items t) i) t
  arg_selects [] zero t = refl
  arg_selects [] (suc i) t = refl
  arg_selects (e ∷ es) zero t = e.1.told.selects t
  arg_selects (e ∷ es) (suc i) t = arg_selects es i t

  arg_windowed : (items : List Whole) (t : ℤ) → windows_or (slice_get (lows items) 0) ≡ true → IsWindowed (argument (givens items t) 0)
  arg_windowed [] t on = absurd (cc)
  arg_windowed (e ∷ es) t on = e.1.told.windowed t on

  arg_unscalar : (items : List Whole) (t : ℤ) → scalar_or (slice_get (lows items) 0) ≡ false → IsUnscalar (argument (givens items t) 0)
  arg_unscalar [] t off = record {}
  arg_unscalar (e ∷ es) t off = e.1.told.unscalar t off

  arg_words : (items : List Whole) (i : ℕ) (t : ℤ) → words_in (lows items) i ≡ words_at (givens items t) i
  arg_words [] zero t = refl
  arg_words [] (suc i) t = refl
  arg_words (e ∷ es) zero t = e.1.told.words t
  arg_words (e ∷ es) (suc i) t = arg_words es i t

  every_word : (items : List Whole) (t : ℤ) → all_words (lows items) ≡ map words_of (givens items t)
  every_word [] t = refl
  every_word (e ∷ es) t = ap₂ (λ x xs. x ∷ xs) (e.1.told.words t) (every_word es t)

  rest_words : (items : List Whole) (t : ℤ) → all_words (drop 3 (lows items)) ≡ map words_of (drop 3 (givens items t))
  rest_words [] t = refl
  rest_words (a ∷ []) t = refl
  rest_words (a ∷ b ∷ []) t = refl
  rest_words (a ∷ b ∷ c ∷ es) t = every_word es t

  all_plans : (items : List Whole) (t : ℤ) → givens_at (map M (plans_of placed (lows items))) t ≡ map shown (givens items t)
  all_plans [] t = refl
  all_plans (e ∷ es) t = ap₂ (λ x xs. x ∷ xs) (e.1.plan.gives t) (all_plans es t)

  rest_plans : (items : List Whole) (t : ℤ) → givens_at (map M (plans_of placed (drop 1 (lows items)))) t ≡ map shown (drop 1 (givens items t))
  rest_plans [] t = refl
  rest_plans (e ∷ es) t = all_plans es t

  -- the step of a plan is that of the tree
  good_step : (m : Meant) (g : ℤ → Given) (t : ℤ) → Good m g → step_of (m.gives t) ≡ step_of (g t)
  good_step m g t good = ap step_of (good.gives t) ∙ step_shown (g t)

  arg_step : (at : ℕ) (items : List Whole) (i : ℕ) (t : ℤ) → step_of ((M (plan_at at placed (lows items) i)).gives t) ≡ step_at (givens items t) i
  arg_step at items i t = good_step (M (plan_at at placed (lows items) i)) (λ u. argument (givens items u) i) t (arg_plan at items i)

  -- ---- element functions

  element_means : (f : ElementFunction) (at : ℕ) (inner : Plan) (more : List Plan) (g : ℤ → Given) (gs : ℤ → List Given)
      → ((arguments : List Given) (x : Given) → element_given f arguments x ≡ given.Vector (applied f (x ∷ arguments)))
      → Good (M inner) g → ((t : ℤ) → givens_at (map M more) t ≡ map shown (gs t))
      → Good (M (planned at (node.Element f inner more))) (λ t. given.Vector (applied f (g t ∷ gs t)))
  element_means f at inner more g gs is good rest =
      made _ _ _ (of-Element (node_meant asked) (λ p. p.node) at f inner more)
      (λ t. ap₂ (element_given f) (rest t) (good.gives t) ∙ is (map shown (gs t)) (shown (g t)) ∙ ap given.Vector (applied_shown f (g t ∷ gs t)))

  abbrev CallMeans : Func → List Whole → PlanNode → ℕ → Type 0
  CallMeans f items n at = Good (M (planned at n)) (λ t. node_meaning asked (Node-F.Call f (map (meaning asked) (map (λ e. e.0) items))) t)

  simple_element : (f : ElementFunction) (at : ℕ) (items : List Whole)
      → ((arguments : List Given) (x : Given) → element_given f arguments x ≡ given.Vector (applied f (x ∷ arguments)))
      → ((gs : List Given) (t : ℤ) → completed f gs t ≡ gs)
      → CallMeans (func.Element f) items (node.Element f (plan_at at placed (lows items) 0) (plans_of placed (drop 1 (lows items)))) at
  simple_element f at items is whole =
      alike _ _ _ (element_means f at _ _ (λ t. argument (givens items t) 0) (λ t. drop 1 (givens items t)) is (arg_plan at items 0) (rest_plans items))
      (λ t. ap given.Vector (applied_first f (givens items t)) ∙ ap (λ gs. given.Vector (applied f gs)) (sym (whole (givens items t) t)))

  -- a calendar function takes vector(time()) where it is given nothing
  instant_good : (at : ℕ) → Good (M (planned at (node.VectorOf (planned at node.Time)))) (λ t. given.Vector (time_step t))
  instant_good at =
      made _ _ _ (of-VectorOf (node_meant asked) (λ p. p.node) at (planned at node.Time))
      (λ t. ap (λ (m : Meant). given.Vector (step_of (m.gives t))) (of-Time (node_meant asked) (λ p. p.node) at))

  -- minus as a function gives a vector
  minus_kept : (scalar : Bool) (at : ℕ) (inner : Plan) (g : ℤ → Given) → Good (M inner) g → ((t : ℤ) → scalar ≡ false → IsUnscalar (g t))
      → Good (M (planned at (minus_node scalar at inner))) (λ t. given.Vector (mapped element.Neg zero_number zero_number (step_of (g t))))
  minus_kept true at inner g good unscalar =
      made _ _ _ (of-VectorOf (node_meant asked) (λ p. p.node) at (planned at (node.Element element.Neg inner [])))
      (λ t. ap (λ (m : Meant). given.Vector (step_of (m.gives t))) (of-Element (node_meant asked) (λ p. p.node) at element.Neg inner [])
      ∙ ap (λ (x : Given). given.Vector (step_of (negation x))) (good.gives t)
      ∙ ap given.Vector (ap step_of (negation_shown (g t)) ∙ step_shown (negation (g t)) ∙ negated_step (g t)))
  minus_kept false at inner g good unscalar =
      made _ _ _ (of-Element (node_meant asked) (λ p. p.node) at element.Neg inner [])
      (λ t. ap negation (good.gives t) ∙ negation_shown (g t) ∙ ap shown (negation_unscalar (g t) (unscalar t refl)))

  element_kept : (f : ElementFunction) (at : ℕ) (items : List Whole) → CallMeans (func.Element f) items (element_node f at (lows items) placed) at
  element_kept element.Abs at items = simple_element element.Abs at items (λ gs x. refl) (λ gs t. refl)
  element_kept element.Ceil at items = simple_element element.Ceil at items (λ gs x. refl) (λ gs t. refl)
  element_kept element.Floor at items = simple_element element.Floor at items (λ gs x. refl) (λ gs t. refl)
  element_kept element.Round at items = simple_element element.Round at items (λ gs x. refl) (λ gs t. refl)
  element_kept element.Sgn at items = simple_element element.Sgn at items (λ gs x. refl) (λ gs t. refl)
  element_kept element.Clamp at items = simple_element element.Clamp at items (λ gs x. refl) (λ gs t. refl)
  element_kept element.ClampMin at items = simple_element element.ClampMin at items (λ gs x. refl) (λ gs t. refl)
  element_kept element.ClampMax at items = simple_element element.ClampMax at items (λ gs x. refl) (λ gs t. refl)
  element_kept (element.Calendar part) at [] =
      element_means (element.Calendar part) at _ [] (λ t. given.Vector (time_step t)) (λ t. []) (λ gs x. refl) (instant_good at) (λ t. refl)
  element_kept (element.Calendar part) at (e ∷ es) =
      element_means (element.Calendar part) at _ _ (meaning asked e.0) (givens es) (λ gs x. refl) e.1.plan (all_plans es)
  element_kept element.Neg at items = minus_kept (scalar_or (slice_get (lows items) 0)) at _ _ (arg_plan at items 0) (λ t. arg_unscalar items t)

  -- ---- functions of windows

  window_means : (f : WindowFunction) (at : ℕ) (inner : Plan) (g : ℤ → Given)
      → ((t : ℤ) (w : Windows) → windowed_by f t (step_at [] 0) w ≡ windowed f t zero_number w)
      → Good (M inner) g → Good (M (planned at (node.Window f inner []))) (λ t. given.Vector (over_windows f t (g t)))
  window_means f at inner g is good =
      made _ _ _ (of-Window (node_meant asked) (λ p. p.node) at f inner [])
      (λ t. ap (λ x. given.Vector (window_given f t [] x)) (good.gives t) ∙ ap given.Vector (over_shown f t [] (g t) (is t)))

  window_with_means : (f : WindowFunction) (at : ℕ) (inner more : Plan) (g s : ℤ → Given)
      → ((t : ℤ) (scalar : Step) (w : Windows) → windowed_by f t scalar w ≡ windowed_with f t scalar w)
      → Good (M inner) g → Good (M more) s
      → Good (M (planned at (node.Window f inner (more ∷ [])))) (λ t. given.Vector (over_windows_with f t (step_of (s t)) (g t)))
  window_with_means f at inner more g s is good scalar =
      made _ _ _ (of-Window (node_meant asked) (λ p. p.node) at f inner (more ∷ []))
      (λ t. ap (λ x. given.Vector (window_given f t ((M more).gives t ∷ []) x)) (good.gives t)
      ∙ ap given.Vector (over_with_shown f t ((M more).gives t ∷ []) (g t) (is t (step_of ((M more).gives t))))
      ∙ ap (λ (step : Step). given.Vector (over_windows_with f t step (g t))) (good_step (M more) s t scalar))

  window_kept : (f : WindowFunction) (at : ℕ) (items : List Whole) → CallMeans (func.Window f) items (window_node f at (lows items) placed) at
  window_kept window.Rate at items = window_means window.Rate at _ _ (λ t w. refl) (arg_plan at items 0)
  window_kept window.Increase at items = window_means window.Increase at _ _ (λ t w. refl) (arg_plan at items 0)
  window_kept window.Delta at items = window_means window.Delta at _ _ (λ t w. refl) (arg_plan at items 0)
  window_kept window.Irate at items = window_means window.Irate at _ _ (λ t w. refl) (arg_plan at items 0)
  window_kept window.Idelta at items = window_means window.Idelta at _ _ (λ t w. refl) (arg_plan at items 0)
  window_kept window.Deriv at items = window_means window.Deriv at _ _ (λ t w. refl) (arg_plan at items 0)
  window_kept window.Changes at items = window_means window.Changes at _ _ (λ t w. refl) (arg_plan at items 0)
  window_kept window.Resets at items = window_means window.Resets at _ _ (λ t w. refl) (arg_plan at items 0)
  window_kept window.AvgOver at items = window_means window.AvgOver at _ _ (λ t w. refl) (arg_plan at items 0)
  window_kept window.MinOver at items = window_means window.MinOver at _ _ (λ t w. refl) (arg_plan at items 0)
  window_kept window.MaxOver at items = window_means window.MaxOver at _ _ (λ t w. refl) (arg_plan at items 0)
  window_kept window.SumOver at items = window_means window.SumOver at _ _ (λ t w. refl) (arg_plan at items 0)
  window_kept window.CountOver at items = window_means window.CountOver at _ _ (λ t w. refl) (arg_plan at items 0)
  window_kept window.StdvarOver at items = window_means window.StdvarOver at _ _ (λ t w. refl) (arg_plan at items 0)
  window_kept window.LastOver at items = window_means window.LastOver at _ _ (λ t w. refl) (arg_plan at items 0)
  window_kept window.PresentOver at items = window_means window.PresentOver at _ _ (λ t w. refl) (arg_plan at items 0)
  window_kept window.PredictLinear at items = window_with_means window.PredictLinear at _ _ _ _ (λ t s w. refl) (arg_plan at items 0) (arg_plan at items 1)
  window_kept window.QuantileOver at items = window_with_means window.QuantileOver at _ _ _ _ (λ t s w. refl) (arg_plan at items 1) (arg_plan at items 0)

  -- ---- timestamps and absence

  stamp_kept : (own : Option (ℕ × Selector)) (at : ℕ) (inner : Plan) (g : ℤ → Given) → ((t : ℤ) → SelectsAs own (g t) t) → Good (M inner) g
      → Good (M (planned at (stamp_node own inner))) (λ t. given.Vector (timestamps (g t) t))
  stamp_kept None at inner g selects good =
      made _ _ _ (of-Stamp (node_meant asked) (λ p. p.node) at inner)
      (λ t. ap given.Vector (ap₂ (λ own s. stamp own t s) good.own (good_step (M inner) g t good) ∙ sym (selects t)))
  stamp_kept (Some own) at inner g selects good =
      made _ _ _ (of-Stamp (node_meant asked) (λ p. p.node) at (planned own.0 (node.Select own.1.rules own.1.moment true)))
      (λ t. ap (λ (m : Meant). given.Vector (stamp m.own t (step_of (m.gives t)))) (of-Select (node_meant asked) (λ p. p.node) own.0 own.1.rules own.1.moment true)
      ∙ ap given.Vector (own_times (selected asked own.1 t)) ∙ ap (λ (x : Given). given.Vector (timestamps x t)) (sym (selects t)))

  unshown : (labels : Option Names) (g : Given) → IsWindowed g → absent_under labels g ≡ absent_under labels (shown g)
  unshown labels (given.Windows w) a = refl
  unshown labels (given.Words text) a = refl
  unshown labels (given.Scalar step) a = absurd a
  unshown labels (given.Vector step) a = absurd a
  unshown labels (given.Selected s) a = absurd a

  absent_means : (at : ℕ) (rules : List Rule) (inner : Plan) (g : ℤ → Given) → ((t : ℤ) → rules ≡ rules_of (g t)) → Good (M inner) g
      → Good (M (planned at (node.Absent (absent_labels rules) inner))) (λ t. given.Vector (absent (g t)))
  absent_means at rules inner g told good =
      made _ _ _ (of-Absent (node_meant asked) (λ p. p.node) at (absent_labels rules) inner)
      (λ t. ap given.Vector (ap₂ (λ r x. absent_under (absent_labels r) x) (told t) (good.gives t) ∙ absent_shown (g t)))

  absent_over_kept : (windows : Bool) (at : ℕ) (rules : List Rule) (inner : Plan) (g : ℤ → Given) → ((t : ℤ) → rules ≡ rules_of (g t))
      → ((t : ℤ) → windows ≡ true → IsWindowed (g t)) → Good (M inner) g
      → Good (M (planned at (absent_over_node windows (absent_labels rules) at inner))) (λ t. given.Vector (absent (g t)))
  absent_over_kept false at rules inner g told windowed good = absent_means at rules inner g told good
  absent_over_kept true at rules inner g told windowed good =
      made _ _ _ (of-Absent (node_meant asked) (λ p. p.node) at (absent_labels rules) (planned at (node.Window window.LastOver inner [])))
      (λ t. ap given.Vector (
      ap (absent_under (absent_labels rules)) ((window_means window.LastOver at inner g (λ u w. refl) good).gives t)
      ∙ last_absent (absent_labels rules) t (g t) (windowed t refl)
      ∙ unshown (absent_labels rules) (g t) (windowed t refl)
      ∙ ap (λ r. absent_under (absent_labels r) (shown (g t))) (told t)
      ∙ absent_shown (g t)
      ))

  -- ---- labels

  replace_kept : (at : ℕ) (items : List Whole) → HasItsPlace asked.kept placed (record { at = at; text = words_in (lows items) 4 })
      → CallMeans func.LabelReplace items (call_node func.LabelReplace at (lows items) placed) at
  replace_kept at items own =
      let id = pattern_or (pattern_at placed at) in
      made _ _ _ (of-Relabel (node_meant asked) (λ p. p.node) at (Replace (words_in (lows items) 1) (words_in (lows items) 2) (words_in (lows items) 3) id) (plan_at at placed (lows items) 0))
      (λ t. ap given.Vector (
      ap₂ (λ x y. label_replaced x y (words_in (lows items) 3) (pattern_text asked.kept id) (step_of ((M (plan_at at placed (lows items) 0)).gives t))) (arg_words items 1 t) (arg_words items 2 t)
      ∙ ap₂ (λ x y. label_replaced (words_at (givens items t) 1) (words_at (givens items t) 2) x y (step_of ((M (plan_at at placed (lows items) 0)).gives t))) (arg_words items 3 t) (own ∙ arg_words items 4 t)
      ∙ ap (label_replaced (words_at (givens items t) 1) (words_at (givens items t) 2) (words_at (givens items t) 3) (words_at (givens items t) 4)) (arg_step at items 0 t)
      ))

  join_kept : (at : ℕ) (items : List Whole) → CallMeans func.LabelJoin items (call_node func.LabelJoin at (lows items) placed) at
  join_kept at items =
      made _ _ _ (of-Relabel (node_meant asked) (λ p. p.node) at (Join (words_in (lows items) 1) (words_in (lows items) 2) (all_words (drop 3 (lows items)))) (plan_at at placed (lows items) 0))
      (λ t. ap given.Vector (
      ap₂ (λ x y. label_joined x y (all_words (drop 3 (lows items))) (step_of ((M (plan_at at placed (lows items) 0)).gives t))) (arg_words items 1 t) (arg_words items 2 t)
      ∙ ap₂ (label_joined (words_at (givens items t) 1) (words_at (givens items t) 2)) (rest_words items t) (arg_step at items 0 t)
      ))

  -- ---- calls

  call_kept : (f : Func) (at : ℕ) (items : List Whole) → ArePlaced (own_call f at (lows items)) → CallMeans f items (call_node f at (lows items) placed) at
  call_kept (func.Element f) at items own = element_kept f at items
  call_kept (func.Window f) at items own = window_kept f at items
  call_kept func.Absent at items own = absent_means at _ _ (λ t. argument (givens items t) 0) (arg_rules items 0) (arg_plan at items 0)
  call_kept func.AbsentOver at items own =
      absent_over_kept (windows_or (slice_get (lows items) 0)) at _ _ (λ t. argument (givens items t) 0) (arg_rules items 0) (arg_windowed items) (arg_plan at items 0)
  call_kept func.HistogramQuantile at items own =
      made _ _ _ (of-Buckets (node_meant asked) (λ p. p.node) at (plan_at at placed (lows items) 0) (plan_at at placed (lows items) 1))
      (λ t. ap given.Vector (ap₂ (with_scalar bucket_quantiles) (arg_step at items 0 t) (arg_step at items 1 t)))
  call_kept func.LabelJoin at items own = join_kept at items
  call_kept func.LabelReplace at items own = replace_kept at items own.0
  call_kept func.Scalar at items own =
      made _ _ _ (of-ScalarOf (node_meant asked) (λ p. p.node) at (plan_at at placed (lows items) 0)) (λ t. ap (λ s. given.Scalar (as_scalar s)) (arg_step at items 0 t))
  call_kept func.Sort at items own =
      made _ _ _ (of-Sort (node_meant asked) (λ p. p.node) at false (plan_at at placed (lows items) 0)) (λ t. ap given.Vector (arg_step at items 0 t))
  call_kept func.SortDesc at items own =
      made _ _ _ (of-Sort (node_meant asked) (λ p. p.node) at true (plan_at at placed (lows items) 0)) (λ t. ap given.Vector (arg_step at items 0 t))
  call_kept func.Time at items own = made _ _ _ (of-Time (node_meant asked) (λ p. p.node) at) (λ t. refl)
  call_kept func.Timestamp at items own =
      stamp_kept (selects_or (slice_get (lows items) 0)) at _ (λ t. argument (givens items t) 0) (arg_selects items 0) (arg_plan at items 0)
  call_kept func.Vector at items own =
      made _ _ _ (of-VectorOf (node_meant asked) (λ p. p.node) at (plan_at at placed (lows items) 0)) (λ t. ap given.Vector (arg_step at items 0 t))

  call_plain : (f : Func) (gs : List (ℤ → Given)) (t : ℤ) → IsPlain (node_meaning asked (Node-F.Call f gs) t) t
  call_plain (func.Element f) gs t = (refl, refl, refl)
  call_plain (func.Window f) gs t = (refl, refl, refl)
  call_plain func.Absent gs t = (refl, refl, refl)
  call_plain func.AbsentOver gs t = (refl, refl, refl)
  call_plain func.HistogramQuantile gs t = (refl, refl, refl)
  call_plain func.LabelJoin gs t = (refl, refl, refl)
  call_plain func.LabelReplace gs t = (refl, refl, refl)
  call_plain func.Scalar gs t = (refl, refl, refl)
  call_plain func.Sort gs t = (refl, refl, refl)
  call_plain func.SortDesc gs t = (refl, refl, refl)
  call_plain func.Time gs t = (refl, refl, refl)
  call_plain func.Timestamp gs t = (refl, refl, refl)
  call_plain func.Vector gs t = (refl, refl, refl)

  call_unscalar : (f : Func) (gs : List (ℤ → Given)) (t : ℤ) → call_gives_scalar f ≡ false → IsUnscalar (node_meaning asked (Node-F.Call f gs) t)
  call_unscalar (func.Element f) gs t off = record {}
  call_unscalar (func.Window f) gs t off = record {}
  call_unscalar func.Absent gs t off = record {}
  call_unscalar func.AbsentOver gs t off = record {}
  call_unscalar func.HistogramQuantile gs t off = record {}
  call_unscalar func.LabelJoin gs t off = record {}
  call_unscalar func.LabelReplace gs t off = record {}
  call_unscalar func.Scalar gs t off = absurd (cc)
  call_unscalar func.Sort gs t off = record {}
  call_unscalar func.SortDesc gs t off = record {}
  call_unscalar func.Time gs t off = absurd (cc)
  call_unscalar func.Timestamp gs t off = record {}
  call_unscalar func.Vector gs t off = record {}

  -- ---- aggregations

  abbrev GroupMeans : AggregateFunction → Grouping → List Whole → PlanNode → ℕ → Type 0
  GroupMeans f by items n at = Good (M (planned at n)) (λ t. node_meaning asked (Node-F.Aggregate f by (map (meaning asked) (map (λ e. e.0) items))) t)

  group_kept : (f : AggregateFunction) (by : Grouping) (at : ℕ) (items : List Whole) → GroupMeans f by items (group_node f by at (lows items) placed) at
  group_kept aggregate.Sum by at items =
      made _ _ _ (of-Group (node_meant asked) (λ p. p.node) at aggregate.Sum by (plans_of placed (lows items)) [])
      (λ t. ap given.Vector (ap (aggregation aggregate.Sum by) (all_plans items t) ∙ aggregation_shown aggregate.Sum by (givens items t) (λ is. absurd (cc))))
  group_kept aggregate.Avg by at items =
      made _ _ _ (of-Group (node_meant asked) (λ p. p.node) at aggregate.Avg by (plans_of placed (lows items)) [])
      (λ t. ap given.Vector (ap (aggregation aggregate.Avg by) (all_plans items t) ∙ aggregation_shown aggregate.Avg by (givens items t) (λ is. absurd (cc))))
  group_kept aggregate.Min by at items =
      made _ _ _ (of-Group (node_meant asked) (λ p. p.node) at aggregate.Min by (plans_of placed (lows items)) [])
      (λ t. ap given.Vector (ap (aggregation aggregate.Min by) (all_plans items t) ∙ aggregation_shown aggregate.Min by (givens items t) (λ is. absurd (cc))))
  group_kept aggregate.Max by at items =
      made _ _ _ (of-Group (node_meant asked) (λ p. p.node) at aggregate.Max by (plans_of placed (lows items)) [])
      (λ t. ap given.Vector (ap (aggregation aggregate.Max by) (all_plans items t) ∙ aggregation_shown aggregate.Max by (givens items t) (λ is. absurd (cc))))
  group_kept aggregate.Count by at items =
      made _ _ _ (of-Group (node_meant asked) (λ p. p.node) at aggregate.Count by (plans_of placed (lows items)) [])
      (λ t. ap given.Vector (ap (aggregation aggregate.Count by) (all_plans items t) ∙ aggregation_shown aggregate.Count by (givens items t) (λ is. absurd (cc))))
  group_kept aggregate.Group by at items =
      made _ _ _ (of-Group (node_meant asked) (λ p. p.node) at aggregate.Group by (plans_of placed (lows items)) [])
      (λ t. ap given.Vector (ap (aggregation aggregate.Group by) (all_plans items t) ∙ aggregation_shown aggregate.Group by (givens items t) (λ is. absurd (cc))))
  group_kept aggregate.Stdvar by at items =
      made _ _ _ (of-Group (node_meant asked) (λ p. p.node) at aggregate.Stdvar by (plans_of placed (lows items)) [])
      (λ t. ap given.Vector (ap (aggregation aggregate.Stdvar by) (all_plans items t) ∙ aggregation_shown aggregate.Stdvar by (givens items t) (λ is. absurd (cc))))
  group_kept aggregate.TopK by at items =
      made _ _ _ (of-Group (node_meant asked) (λ p. p.node) at aggregate.TopK by (plans_of placed (lows items)) [])
      (λ t. ap given.Vector (ap (aggregation aggregate.TopK by) (all_plans items t) ∙ aggregation_shown aggregate.TopK by (givens items t) (λ is. absurd (cc))))
  group_kept aggregate.BottomK by at items =
      made _ _ _ (of-Group (node_meant asked) (λ p. p.node) at aggregate.BottomK by (plans_of placed (lows items)) [])
      (λ t. ap given.Vector (ap (aggregation aggregate.BottomK by) (all_plans items t) ∙ aggregation_shown aggregate.BottomK by (givens items t) (λ is. absurd (cc))))
  group_kept aggregate.Quantile by at items =
      made _ _ _ (of-Group (node_meant asked) (λ p. p.node) at aggregate.Quantile by (plans_of placed (lows items)) [])
      (λ t. ap given.Vector (ap (aggregation aggregate.Quantile by) (all_plans items t) ∙ aggregation_shown aggregate.Quantile by (givens items t) (λ is. absurd (cc))))
  group_kept aggregate.CountValues by at items =
      made _ _ _ (of-Group (node_meant asked) (λ p. p.node) at aggregate.CountValues by (plan_at at placed (lows items) 1 ∷ []) (words_in (lows items) 0))
      (λ t. ap given.Vector (ap₂ (aggregated aggregate.CountValues by zero_number) (arg_words items 0 t) (arg_step at items 1 t)))

  -- ---- one level, of the nodes that are kept

  -- arguments whose calls are all placed
  whole : (items : List Kept) → ArePlaced (all_calls (map low (map (λ e. e.0) items))) → List Whole
  whole [] a = []
  whole (k ∷ ks) a =
      let rest : List Replacing = all_calls (map low (map (λ e. e.0) ks)) in
      (k.0, record { told = k.1.told; plan = k.1.plan (front (HasItsPlace asked.kept placed) (low k.0).calls rest a) })
      ∷ whole ks (behind (HasItsPlace asked.kept placed) (low k.0).calls rest a)

  same_trees : (items : List Kept) (a : ArePlaced (all_calls (map low (map (λ e. e.0) items)))) → map (λ e. e.0) (whole items a) ≡ map (λ e. e.0) items
  unfolding whole
  same_trees [] a = refl
  same_trees (k ∷ ks) a =
      ap (λ es. k.0 ∷ es) (same_trees ks (behind (HasItsPlace asked.kept placed) (low k.0).calls (all_calls (map low (map (λ e. e.0) ks))) a))

  placed_call : (f : Func) (at : ℕ) (items : List Kept) → ArePlaced (all_calls (map low (map (λ e. e.0) items)) ++ own_call f at (map low (map (λ e. e.0) items)))
      → Good (M (planned at (call_node f at (map low (map (λ e. e.0) items)) placed))) (λ t. node_meaning asked (Node-F.Call f (map (meaning asked) (map (λ e. e.0) items))) t)
  placed_call f at items a =
      let es : List Expr = map (λ e. e.0) items in
      let inner = front (HasItsPlace asked.kept placed) (all_calls (map low es)) (own_call f at (map low es)) a in
      let own = behind (HasItsPlace asked.kept placed) (all_calls (map low es)) (own_call f at (map low es)) a in
      let same = same_trees items inner in
      subst (λ (xs : List Expr). Good (M (planned at (call_node f at (map low xs) placed))) (λ t. node_meaning asked (Node-F.Call f (map (meaning asked) xs)) t)) same
      (call_kept f at (whole items inner) (subst (λ (xs : List Expr). ArePlaced (own_call f at (map low xs))) (sym same) own))

  placed_group : (f : AggregateFunction) (by : Grouping) (at : ℕ) (items : List Kept) → ArePlaced (all_calls (map low (map (λ e. e.0) items)))
      → Good (M (planned at (group_node f by at (map low (map (λ e. e.0) items)) placed))) (λ t. node_meaning asked (Node-F.Aggregate f by (map (meaning asked) (map (λ e. e.0) items))) t)
  placed_group f by at items a =
      subst (λ (xs : List Expr). Good (M (planned at (group_node f by at (map low xs) placed))) (λ t. node_meaning asked (Node-F.Aggregate f by (map (meaning asked) xs)) t)) (same_trees items a)
      (group_kept f by at (whole items a))

  abbrev Layer : Type 0
  Layer = Node-F ((n : Node) × IsKeptNode n) Kept

  abbrev bare : Layer → Node-F Node Expr
  bare = map-Node ((n : Node) × IsKeptNode n) Kept Node Expr (λ e. e.0) (λ e. e.0)

  level : (y : Layer) (at : ℕ)
      → IsLow (low_node (map-Node Node Expr (ℕ → Low) Low (fold-Node (ℕ → Low) Low low_node (λ e. e.node e.at)) low (bare y)) at)
      (node_meaning asked (map-Node Node Expr (ℤ → Given) (ℤ → Given) node_given (meaning asked) (bare y)))
  level (Node-F.Number value) at = record {
    told = plain_told true at _ [] _ (λ t. (refl, refl, refl)) (λ t off. absurd (cc));
    plan = λ a. from _ _ _ (number_means at value) (record { gives = λ t. refl; own = refl });
  }
  level (Node-F.Words text) at = record {
    told = record { rules = λ t. refl; selects = λ t. refl; words = λ t. refl; windowed = λ t on. absurd (cc); unscalar = λ t off. record {} };
    plan = λ a. record { gives = (nothing_good at).gives; own = (nothing_good at).own };
  }
  level (Node-F.Paren e) at = e.1
  level (Node-F.Negate e) at = record {
    told = plain_told (low e.0).scalar at _ _ _ (λ t. negation_plain (meaning asked e.0 t) t) (λ t off. unscalar_negation (meaning asked e.0 t) (e.1.told.unscalar t off));
    plan = λ a. made _ _ _ (of-Element (node_meant asked) (λ p. p.node) at element.Neg ((low e.0).plan placed) [])
        (λ t. ap negation ((e.1.plan a).gives t) ∙ negation_shown (meaning asked e.0 t));
  }
  level (Node-F.Select selector) at = record {
    told = record { rules = λ t. refl; selects = λ t. refl; words = λ t. refl; windowed = λ t on. absurd (cc); unscalar = λ t off. record {} };
    plan = λ a. made _ _ _ (of-Select (node_meant asked) (λ p. p.node) at selector.rules selector.moment false) (λ t. refl);
  }
  level (Node-F.Range selector range) at = record {
    told = record {
      rules = λ t. refl;
      selects = λ t. refl;
      words = λ t. refl;
      windowed = λ t on. range_windows asked selector.rules selector.moment.closed (moment_of asked selector.moment t) range.0;
      unscalar = λ t off. record {};
    };
    plan = λ a. made _ _ _ (of-Range (node_meant asked) (λ p. p.node) at selector.rules selector.moment range) (λ t. refl);
  }
  level (Node-F.Subquery e range step moment) at = record {
    told = record {
      rules = λ t. refl;
      selects = λ t. refl;
      words = λ t. refl;
      windowed = λ t on. gathered_are (rows_over (λ u. step_of (meaning asked e.0 u)) (as_times (multiples moment.closed (moment_of asked moment t) range.0 step.0)));
      unscalar = λ t off. record {};
    };
    plan = λ a. made _ _ _ (of-Subquery (node_meant asked) (λ p. p.node) at ((low e.0).plan placed) range step moment)
        (λ t. ap (λ f. given.Windows (points_of moment.closed f range step (moment_of asked moment t))) (λ i. λ (u : ℤ). good_step (M ((low e.0).plan placed)) (meaning asked e.0) u (e.1.plan a) i));
  }
  level (Node-F.Call f items) at = record {
    told = plain_told (call_gives_scalar f) at _ _ _ (call_plain f (map (meaning asked) (map (λ e. e.0) items))) (call_unscalar f (map (meaning asked) (map (λ e. e.0) items)));
    plan = placed_call f at items;
  }
  level (Node-F.Aggregate f by items) at = record {
    told = plain_told false at _ _ _ (λ t. (refl, refl, refl)) (λ t off. record {});
    plan = placed_group f by at items;
  }
  level (Node-F.Pair op l r pairing) at = record {
    told = plain_told ((low l.0).scalar && (low r.0).scalar) at _ _ _ (λ t. operation_plain op pairing (meaning asked l.0 t) (meaning asked r.0 t) t)
        (λ t. unscalar_operation op pairing (low l.0).scalar (low r.0).scalar (meaning asked l.0 t) (meaning asked r.0 t) (l.1.told.unscalar t) (r.1.told.unscalar t));
    plan = λ a.
        let left = l.1.plan (front (HasItsPlace asked.kept placed) (low l.0).calls (low r.0).calls a) in
        let right = r.1.plan (behind (HasItsPlace asked.kept placed) (low l.0).calls (low r.0).calls a) in
        made _ _ _ (of-Pair (node_meant asked) (λ p. p.node) at op ((low l.0).plan placed) ((low r.0).plan placed) pairing)
        (λ t. ap₂ (operation op pairing) (left.gives t) (right.gives t) ∙ operation_shown op pairing (meaning asked l.0 t) (meaning asked r.0 t));
  }
  level (Node-F.Set op l r pairing) at = record {
    told = plain_told false at _ _ _ (λ t. (refl, refl, refl)) (λ t off. record {});
    plan = λ a.
        let left = l.1.plan (front (HasItsPlace asked.kept placed) (low l.0).calls (low r.0).calls a) in
        let right = r.1.plan (behind (HasItsPlace asked.kept placed) (low l.0).calls (low r.0).calls a) in
        made _ _ _ (of-Set (node_meant asked) (λ p. p.node) at op ((low l.0).plan placed) ((low r.0).plan placed) pairing)
        (λ t. ap given.Vector (ap₂ (λ x y. combined x y op pairing) (good_step (M ((low l.0).plan placed)) (meaning asked l.0) t left) (good_step (M ((low r.0).plan placed)) (meaning asked r.0) t right)));
  }

  node_kept : (y : Layer) → IsKeptNode (roll-Node (bare y))
  node_kept y at =
      subst (λ (g : ℤ → Given). IsLow (fold-Node (ℕ → Low) Low low_node (λ e. e.node e.at) (roll-Node (bare y)) at) g) (sym (fold-roll-Node (ℤ → Given) (ℤ → Given) (node_meaning asked) (λ e. e.node) (bare y)))
      (subst (λ (f : ℕ → Low). IsLow (f at) (node_meaning asked (map-Node Node Expr (ℤ → Given) (ℤ → Given) node_given (meaning asked) (bare y)))) (sym (fold-roll-Node (ℕ → Low) Low low_node (λ e. e.node e.at) (bare y))) (level y at))

  expr_kept : (at : ℕ) (n : Node) → IsKeptNode n → IsKept (roll-Expr (record { at = at; node = n }))
  expr_kept at n kept =
      subst (λ (g : ℤ → Given). IsLow (low (roll-Expr (record { at = at; node = n }))) g) (sym (fold-roll-Expr (ℤ → Given) (ℤ → Given) (node_meaning asked) (λ e. e.node) (record { at = at; node = n })))
      (subst (λ (l : Low). IsLow l (node_given n)) (sym (fold-roll-Expr (ℕ → Low) Low low_node (λ e. e.node e.at) (record { at = at; node = n }))) (kept at))

  all_kept : (e : Expr) → IsKept e
  all_kept = ind-Expr IsKeptNode IsKept
      (λ x y is. subst (λ z. IsKeptNode (roll-Node z)) is (node_kept y))
      (λ x y is. subst (λ z. IsKept (roll-Expr z)) is (expr_kept y.at y.node.0 y.node.1))

pub lowered_means : (asked : Asked) (placed : List Placed) (e : Expr) → AllByRecursion (HasItsPlace asked.kept placed) (low e).calls
    → (t : ℤ) → (plan_meant asked (lowered placed e)).gives t ≡ shown (meaning asked e t)
lowered_means asked placed e a t = ((all_kept asked placed e).plan a).gives t
