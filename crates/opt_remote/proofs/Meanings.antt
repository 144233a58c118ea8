-- A selector that engines are asked for means what it meant, where the samples are parted over them.
use Rattle.std.proofs.Common.{◌≡◌, ◌∙◌, ℕ, suc, ◌+◌, List, [], ◌∷◌, map, length, ap, ap₂, sym, refl, subst, Some, Bool, true, false, cond, arith}
use Rattle.std.specs.Prelude.{ℤ, Option, slice_get}
use Rattle.std.specs.List.{AllByRecursion, cons_option, filter_map, range_with_len}
use Rattle.std.specs.Option.{option_map}
use Rattle.func_table.specs.declared.table.Func.TheVariants as func
use Rattle.label_set.specs.declared.rules.Rule.{Rule}
use Rattle.promql_ast.specs.Folds.{fold-Call, fold-Range, fold-Select}
use Rattle.promql_ast.specs.declared.tree.Expr.{Expr}
use Rattle.promql_ast.specs.declared.tree.Moment.{Moment}
use Rattle.promql_ast.specs.declared.tree.Node.TheOpen.{Node-F}
use Rattle.promql_ast.specs.declared.tree.Node.TheVariants.{Call, Range, Select}
use Rattle.promql_ast.specs.declared.tree.Selector.{Selector}
use Rattle.ticks.specs.declared.moment.Ms.{Ms}
use Rattle.step_table.specs.Unions.{united}
use Rattle.step_table.specs.declared.cells.PartKind.{PartKind}
use Rattle.step_table.specs.declared.cells.PartKind.TheVariants as part
use Rattle.step_table.specs.declared.cells.StepCells.{StepCells}
use Rattle.step_batch.specs.LentWindows.{WindowsAt}
use Rattle.step_cells.specs.Joined.{joined_rows}
use Rattle.step_cells.specs.Owed.{cells, windows_at}
use Rattle.promql_meaning.specs.Elements.{stamps}
use Rattle.promql_meaning.specs.Givens.{marked, no_marks, step_of}
use Rattle.promql_meaning.specs.Meaning.{called, meaning, meaning_step, node_meaning}
use Rattle.promql_meaning.specs.Selecting.{AllSeries, Asked, moment_of, selected, selected_windows}
use Rattle.promql_meaning.specs.declared.given.Given.{Given}
use Rattle.promql_meaning.specs.declared.given.Given.TheVariants as given
use Rattle.logical_plan.specs.Gathers.{all_owed, gathered, joined, owed_over, windows_of}
use Rattle.logical_plan.specs.Laws.{PlanMeansItsTree}
use Rattle.logical_plan.specs.Lowering.{HasItsPlace, Low, low, low_node, planned}
use Rattle.logical_plan.specs.PartExprs.{expressed, expression_step}
use Rattle.logical_plan.specs.PlanFolds.{of-Range, of-Select, of-Stamp, rolled}
use Rattle.logical_plan.specs.PlanMeaning.{Meant, node_meant, plain, plan_meaning, plan_meant}
use Rattle.logical_plan.specs.PlanRules.{newest_of, selector_of}
use Rattle.logical_plan.specs.Shown.{shown}
use Rattle.logical_plan.specs.declared.nodes.Plan.{Plan}
use Rattle.logical_plan.specs.declared.nodes.PlanNode.{PlanNode}
use Rattle.logical_plan.specs.declared.nodes.PlanNode.TheVariants as node
use Rattle.logical_plan.specs.declared.nodes.PlanNode.TheOpen.{PlanNode-F}
use Rattle.logical_plan.specs.declared.nodes.PlanNode.TheViews.{out-PlanNode, outs-Gather, roll-PlanNode}
use Rattle.logical_plan.specs.declared.nodes.PlanNode.TheFolds.{fold_out-PlanNode}
use Rattle.parting_laws.specs.Gathers.{AllRowsAreGathered, marks_of_none}
use Rattle.parting_laws.specs.LocalLaws.{SelectorsAreParted, TimestampsAreParted}
use Rattle.parting_laws.specs.Parted.{Engine, declared_names}
use Rattle.parting_laws.specs.PartLaws.{RangesJoin, over, owed_by}
use Rattle.parting_laws.specs.Portions.{IsParted}
use Rattle.plan_rewrite.specs.NodeMeanings.{rolled_means}
use Rattle.plan_rewrite.specs.Rebuilding.{KeepsMeaning, node_of}
use Rattle.promql_type.specs.Replacements.{Kept}
use Rattle.opt_remote.specs.Engines.{ArePartedOver, held_by}
use Rattle.opt_remote.specs.Gathering.{all_engines, gather, gather_selector, is_stamped_selector}
use Rattle.opt_remote.proofs.Stamped.{by_stamp, select_is}

-- ---- all engines by their numbers

-- what is found under the numbers of a list from one on is the list
numbered : {X Y : Type 0} (f : X → Y) (find : ℕ → Option X) (xs : List X) (a : ℕ) → ((i : ℕ) → slice_get xs i ≡ find (a + i))
    → filter_map (λ (n : ℕ). option_map f (find n)) (range_with_len a (length xs)) ≡ map f xs
numbered f find [] a is = refl
numbered f find (x ∷ xs) a is =
    let first : find a ≡ Some x = ap find (sym (let e : a + 0 ≡ a = omega arith in e)) ∙ sym (is 0) in
    let rest : (i : ℕ) → slice_get xs i ≡ find ((a + 1) + i) = λ i. is (suc i) ∙ ap find (let e : a + suc i ≡ (a + 1) + i = omega arith in e) in
    ap (λ o. cons_option (option_map f o) (filter_map (λ (n : ℕ). option_map f (find n)) (range_with_len (a + 1) (length xs)))) first
    ∙ ap (λ ys. f x ∷ ys) (numbered f find xs (a + 1) rest)

held_map : {Y : Type 0} (f : AllSeries → Y) (engines : List Engine) → map f (held_by engines) ≡ map (λ (engine : Engine). f engine.samples) engines
held_map f [] = refl
held_map f (engine ∷ engines) = ap (λ ys. f engine.samples ∷ ys) (held_map f engines)

-- ---- what selectors mean

module _ (asked : Asked) where
  abbrev M : (Node-F (ℤ → Given) (ℤ → Given)) → ℤ → Given
  M = node_meaning asked

  selector_means : (at : ℕ) (selector : Selector) (t : ℤ) → meaning asked (expressed at (Select selector)) t ≡ given.Selected (record { rules = selector.rules; rows = selected asked selector t })
  selector_means at selector t = ap (λ (g : ℤ → Given). g t) (fold-Select M (λ e. e.node) (expressed at (Select selector)) selector refl)

  abbrev windows_given : Selector → Ms → ℤ → Given
  windows_given selector range t = given.Windows (record {
    moment = record { 0 = moment_of asked selector.moment t };
    range = range;
    rules = selector.rules;
    rows = selected_windows asked selector range.0 t;
    marks = no_marks;
  })

  range_means : (at : ℕ) (selector : Selector) (range : Ms) (t : ℤ) → meaning asked (expressed at (Range selector range)) t ≡ windows_given selector range t
  range_means at selector range t = ap (λ (g : ℤ → Given). g t) (fold-Range M (λ e. e.node) (expressed at (Range selector range)) selector range refl)

  abbrev time_of : ℕ → ℕ → Selector → Expr
  time_of at within selector = expressed at (Call func.Timestamp (expressed within (Select selector) ∷ []))

  times_mean : (at within : ℕ) (selector : Selector) (t : ℤ) → meaning asked (time_of at within selector) t ≡ given.Vector (stamps (selected asked selector t))
  times_mean at within selector t =
      ap (λ (g : ℤ → Given). g t) (fold-Call M (λ e. e.node) (time_of at within selector) func.Timestamp (expressed within (Select selector) ∷ []) refl)
      ∙ ap (λ (g : Given). called func.Timestamp (g ∷ []) t) (selector_means within selector t)

-- the plan of the timestamp of a selector
planned_time : (at within : ℕ) (rules : List Rule) (moment : Moment)
    → low (expressed at (Call func.Timestamp (expressed within (Select (selector_of rules moment)) ∷ [])))
    ≡ low_node (Node-F.Call func.Timestamp (low_node (Node-F.Select (selector_of rules moment)) within ∷ [])) at
planned_time at within rules moment =
    let inner = expressed within (Select (selector_of rules moment)) in
    fold-Call low_node (λ e. e.node e.at) (expressed at (Call func.Timestamp (inner ∷ []))) func.Timestamp (inner ∷ []) refl
    ∙ ap (λ (l : Low). low_node (Node-F.Call func.Timestamp (l ∷ [])) at) (fold-Select low_node (λ e. e.node e.at) inner (selector_of rules moment) refl)

abbrev timestamp_plan : ℕ → ℕ → List Rule → Moment → Plan
timestamp_plan at within rules moment = planned at (node.Stamp (planned within (node.Select rules moment true)))

module _ (law : PlanMeansItsTree) (asked : Asked) where
  -- a timestamp node over a selector gives the times of its samples
  timestamp_means : (at within : ℕ) (rules : List Rule) (moment : Moment) (t : ℤ)
      → plan_meaning asked (timestamp_plan at within rules moment) t ≡ given.Vector (stamps (selected asked (selector_of rules moment) t))
  timestamp_means at within rules moment t =
      let e = expressed at (Call func.Timestamp (expressed within (Select (selector_of rules moment)) ∷ [])) in
      let is = planned_time at within rules moment in
      sym (ap (λ (l : Low). plan_meaning asked (l.plan []) t) is)
      ∙ law asked [] e t (subst (λ (l : Low). AllByRecursion (HasItsPlace asked.kept []) l.calls) (sym is) tt)
      ∙ ap shown (times_mean asked at within (selector_of rules moment) t)

-- ---- what all engines give

module _ (rows_join : AllRowsAreGathered) (windows_join : RangesJoin) (selectors_parted : SelectorsAreParted) (times_parted : TimestampsAreParted) (law : PlanMeansItsTree)
    (asked : Asked) (count : ℕ) (parting : ArePartedOver count asked) (kept : Kept) where
  -- the same query where the samples are in one place
  abbrev alone : Asked
  alone = record asked { engines = [] }

  abbrev engines : List ℕ
  engines = all_engines count

  owed : (e : Expr) (kind : PartKind) (t : ℤ) → all_owed asked e kind engines t ≡ owed_by kind alone e (record { 0 = t }) parting.engines
  owed e kind t =
      let held = asked.engines in
      ap (λ (n : ℕ). all_owed asked e kind (all_engines n) t) (sym parting.all)
      ∙ numbered (owed_over asked e kind t) (slice_get held) held 0 (λ i. ap (slice_get held) (let same : i ≡ 0 + i = omega arith in same))
      ∙ ap (map (owed_over asked e kind t)) parting.held
      ∙ held_map (owed_over asked e kind t) parting.engines

  at_gather : (e : Expr) (kind : PartKind) → node_of asked (node.Gather e kind engines) ≡ plain (gathered asked e kind engines)
  at_gather e kind = fold_out-PlanNode Meant Meant (node_meant asked) (λ p. p.node) (node.Gather e kind engines) ∙ rw outs-Gather refl

  rows_given : (e : Expr) (t : ℤ) → IsParted (declared_names parting.engines) e → gathered asked e part.Rows engines t ≡ given.Vector (meaning_step alone e t)
  rows_given e t parted =
      ap (λ (steps : List StepCells). given.Vector (marked (marks_of_none alone e (record { 0 = t })) (joined_rows steps))) (owed e part.Rows t)
      ∙ ap given.Vector (rows_join parting.engines alone e (record { 0 = t }) parting.parted parted)

  -- ---- instant selectors

  select_kept : (at : ℕ) (rules : List Rule) (moment : Moment)
      → node_of asked (gather engines kept part.Rows at (node.Select rules moment false)) ≡ node_meant asked (PlanNode-F.Select rules moment false)
  select_kept at rules moment =
      let selector = selector_of rules moment in
      let e = expressed at (Select selector) in
      let gives : (t : ℤ) → gathered asked e part.Rows engines t ≡ given.Vector (newest_of false (selected asked selector t)) =
      λ t. rows_given e t (selectors_parted (declared_names parting.engines) e selector refl) ∙ ap (λ (g : Given). given.Vector (step_of g)) (selector_means alone at selector t) in
      ap (λ (x : Expr). node_of asked (node.Gather x part.Rows engines)) (of-Select (expression_step kept) (λ p. p.node p.at) at rules moment false)
      ∙ at_gather e part.Rows
      ∙ ap plain (λ i. λ (t : ℤ). gives t i)

  -- ---- timestamps of selectors

  stamp_kept : (at within : ℕ) (rules : List Rule) (moment : Moment)
      → node_of asked (gather engines kept part.Rows at (node.Stamp (planned within (node.Select rules moment true))))
      ≡ node_meant asked (PlanNode-F.Stamp (plan_meant asked (planned within (node.Select rules moment true))))
  stamp_kept at within rules moment =
      let selector = selector_of rules moment in
      let x = expressed within (Select selector) in
      let e = expressed at (Call func.Timestamp (x ∷ [])) in
      let inner = planned within (node.Select rules moment true) in
      let names = declared_names parting.engines in
      let gives : (t : ℤ) → gathered asked e part.Rows engines t ≡ (node_meant asked (PlanNode-F.Stamp (plan_meant asked inner))).gives t =
      λ t. rows_given e t (times_parted names e x refl (selectors_parted names x selector refl))
      ∙ ap (λ (g : Given). given.Vector (step_of g)) (times_mean alone at within selector t)
      ∙ sym (timestamp_means law asked at within rules moment t)
      ∙ ap (λ (m : Meant). m.gives t) (of-Stamp (node_meant asked) (λ p. p.node) at inner) in
      ap (λ (y : Expr). node_of asked (node.Gather y part.Rows engines))
      (of-Stamp (expression_step kept) (λ p. p.node p.at) at inner ∙ ap (λ (y : Expr). expressed at (Call func.Timestamp (y ∷ []))) (of-Select (expression_step kept) (λ p. p.node p.at) within rules moment true))
      ∙ at_gather e part.Rows
      ∙ ap plain (λ i. λ (t : ℤ). gives t i)

  -- ---- range selectors

  -- the windows of all engines, at the moment and of the range that a range vector has
  abbrev windows_from : ℤ → List StepCells → Given → Given
  windows_from t steps none = joined part.Windows t steps (cells part.Windows (record { 0 = t }) none).marks (windows_of none)

  range_kept : (at : ℕ) (rules : List Rule) (moment : Moment) (range : Ms)
      → node_of asked (gather engines kept part.Windows at (node.Range rules moment range)) ≡ node_meant asked (PlanNode-F.Range rules moment range)
  range_kept at rules moment range =
      let selector = selector_of rules moment in
      let e = expressed at (Range selector range) in
      let shape : ℤ → WindowsAt → Given = λ t w. given.Windows (record {
        moment = record { 0 = moment_of asked moment t };
        range = range;
        rules = [];
        rows = w.rows;
        marks = united w.marks no_marks;
      }) in
      let gives : (t : ℤ) → gathered asked e part.Windows engines t ≡ shape t (record { at = record { 0 = t }; rows = selected_windows asked selector range.0 t; marks = no_marks }) =
      λ t. ap₂ (windows_from t) (owed e part.Windows t) (range_means (over [] alone) at selector range t)
      ∙ ap (shape t) (windows_join parting.engines alone e selector range (record { 0 = t }) parting.parted refl ∙ ap (windows_at (record { 0 = t })) (range_means alone at selector range t)) in
      ap (λ (x : Expr). node_of asked (node.Gather x part.Windows engines)) (of-Range (expression_step kept) (λ p. p.node p.at) at rules moment range)
      ∙ at_gather e part.Windows
      ∙ ap plain (λ i. λ (t : ℤ). gives t i)

  -- ---- nodes

  module _ (at : ℕ) (inner : Plan) where
    abbrev Stays : PlanNode → Type 0
    Stays n = node_of asked n ≡ node_of asked (roll-PlanNode (PlanNode-F.Stamp inner))

    stamp_stays : Stays (node.Stamp inner)
    unfolding roll-PlanNode denote.Hole.Carrier.roll
    stamp_stays = refl

    stamped_stays : (rules : List Rule) (moment : Moment) → inner.node ≡ node.Select rules moment true → Stays (gather engines kept part.Rows at (node.Stamp inner))
    stamped_stays rules moment is =
        ap (λ (n : PlanNode). node_of asked (gather engines kept part.Rows at (node.Stamp (planned inner.at n)))) is
        ∙ stamp_kept at inner.at rules moment
        ∙ ap (λ (n : PlanNode). node_meant asked (PlanNode-F.Stamp (plan_meant asked (planned inner.at n)))) (sym is)
        ∙ sym (rolled_means asked (PlanNode-F.Stamp inner))

    stamps_stay : Stays (cond (is_stamped_selector (out-PlanNode inner.node)) (gather engines kept part.Rows at (node.Stamp inner)) (node.Stamp inner))
    stamps_stay =
        by_stamp (λ y b. out-PlanNode inner.node ≡ y → Stays (cond b (gather engines kept part.Rows at (node.Stamp inner)) (node.Stamp inner))) (out-PlanNode inner.node)
        (λ rules moment is. stamped_stays rules moment (select_is inner rules moment true is)) (λ x is. stamp_stays) refl

  once_stays : (inner : Plan) (b : Bool) → node_of asked (cond b inner.node (node.Once inner)) ≡ node_of asked (roll-PlanNode (PlanNode-F.Once inner))
  unfolding roll-PlanNode denote.Hole.Carrier.roll
  once_stays inner true = sym (rolled (node_meant asked) (λ p. p.node) inner.at inner.node) ∙ sym (rolled_means asked (PlanNode-F.Once inner))
  once_stays inner false = refl

  pub selectors_kept : KeepsMeaning asked (gather_selector engines kept)
  selectors_kept at (PlanNode-F.Select rules moment false) = select_kept at rules moment ∙ sym (rolled_means asked (PlanNode-F.Select rules moment false))
  selectors_kept at (PlanNode-F.Select rules moment true) = refl
  selectors_kept at (PlanNode-F.Range rules moment range) = range_kept at rules moment range ∙ sym (rolled_means asked (PlanNode-F.Range rules moment range))
  selectors_kept at (PlanNode-F.Stamp inner) = stamps_stay at inner
  selectors_kept at (PlanNode-F.Once inner) = once_stays inner (is_stamped_selector (out-PlanNode inner.node))
  selectors_kept at (PlanNode-F.Number value) = refl
  selectors_kept at PlanNode-F.Time = refl
  selectors_kept at (PlanNode-F.Subquery inner range step moment) = refl
  selectors_kept at (PlanNode-F.Element f inner arguments) = refl
  selectors_kept at (PlanNode-F.Window f inner arguments) = refl
  selectors_kept at (PlanNode-F.Absent labels inner) = refl
  selectors_kept at (PlanNode-F.Buckets quantile inner) = refl
  selectors_kept at (PlanNode-F.Relabel rule inner) = refl
  selectors_kept at (PlanNode-F.Sort down inner) = refl
  selectors_kept at (PlanNode-F.ScalarOf inner) = refl
  selectors_kept at (PlanNode-F.VectorOf inner) = refl
  selectors_kept at (PlanNode-F.Group f by arguments label) = refl
  selectors_kept at (PlanNode-F.Pair op left right pairing) = refl
  selectors_kept at (PlanNode-F.Set op left right pairing) = refl
  selectors_kept at (PlanNode-F.Filter base rules) = refl
  selectors_kept at (PlanNode-F.Ratio sum count) = refl
  selectors_kept at (PlanNode-F.Gather expr kind numbers) = refl
