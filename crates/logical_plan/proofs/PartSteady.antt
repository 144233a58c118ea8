-- An expression that engines are asked for means the same at each instant where it is steady, and so does what they give.
use Rattle.std.proofs.Common.{◌≡◌, ◌∙◌, ℕ, suc, List, [], ◌∷◌, map, length, ap, ap₂, sym, refl, subst, Bool, true, false, true≢false, arith}
use Rattle.std.specs.Prelude.{ℤ, ◌&&◌, ◌++◌, ◌-ℤ◌, Option, Some, None, slice_get}
use Rattle.std.specs.List.{cons_option, filter_map}
use Rattle.std.specs.Option.{option_map}
use Rattle.func_table.specs.declared.table.Element.{Element as ElementFunction}
use Rattle.func_table.specs.declared.table.Element.TheVariants as element
use Rattle.func_table.specs.declared.table.Func.{Func}
use Rattle.func_table.specs.declared.table.Func.TheVariants as func
use Rattle.func_table.specs.declared.table.Window.{Window as WindowFunction}
use Rattle.func_table.specs.declared.table.Window.TheVariants as window
use Rattle.promql_ast.specs.declared.tree.Expr.{Expr}
use Rattle.promql_ast.specs.declared.tree.Fixed.{Fixed}
use Rattle.promql_ast.specs.declared.tree.Fixed.TheVariants as fixed
use Rattle.promql_ast.specs.declared.tree.Moment.{Moment}
use Rattle.promql_ast.specs.declared.tree.Node.{Node}
use Rattle.promql_ast.specs.declared.tree.Node.TheOpen.{Node-F}
use Rattle.promql_ast.specs.declared.tree.Node.TheViews.{roll-Node, roll-Expr}
use Rattle.promql_ast.specs.declared.tree.Node.TheFolds.{map-Node, fold-Node, fold-roll-Node, fold-roll-Expr, ind-Expr}
use Rattle.window_fn.specs.Increases.{increase, layout_of, rate}
use Rattle.xfrac.specs.declared.value.XFrac.{XFrac}
use Rattle.ticks.specs.declared.moment.Ms.{Ms}
use Rattle.step_table.specs.Groups.{Names, gathered as grouped_cells}
use Rattle.step_table.specs.Outcomes.{lone_by, settled, shared_marks, taken}
use Rattle.step_table.specs.Sets.{combined, step_of_rows}
use Rattle.step_table.specs.Unions.{united, with_fatal}
use Rattle.step_table.specs.declared.cells.CellRow.{CellRow}
use Rattle.step_table.specs.declared.cells.PartKind.{PartKind}
use Rattle.step_table.specs.declared.cells.PartKind.TheVariants as part
use Rattle.step_table.specs.declared.cells.StepCells.{StepCells}
use Rattle.step_table.specs.declared.marks.Marks.{Marks}
use Rattle.step_table.specs.declared.step.Step.{Step}
use Rattle.step_table.specs.declared.windows.WindowRow.{WindowRow}
use Rattle.promql_meaning.specs.Elements.{timestamps}
use Rattle.promql_meaning.specs.Givens.{by_value, marked, no_marks, step_of, value_in}
use Rattle.promql_meaning.specs.Meaning.{aggregation, applied, argument, called, completed, given_at, meaning, negation, node_meaning, operation, over_windows, over_windows_with, ranged, step_at, zero_number}
use Rattle.promql_meaning.specs.Ranges.{windowed}
use Rattle.promql_meaning.specs.Selecting.{AllSeries, Asked, base_of, moment_of, newest_rows, passing, window_rows}
use Rattle.promql_meaning.specs.Steadiness.{has_fixed, steady_element, steady_window}
use Rattle.promql_meaning.specs.Subqueries.{points_of}
use Rattle.promql_meaning.specs.declared.given.Given.{Given}
use Rattle.promql_meaning.specs.declared.given.Given.TheVariants as given
use Rattle.promql_meaning.specs.declared.given.Selection.{Selection}
use Rattle.promql_meaning.specs.declared.given.Windows.{Windows}
use Rattle.step_cells.specs.Joined.{all_cells, cell_row, finished_outcome, keyed_cells, marks_with, window_under}
use Rattle.step_cells.specs.Owed.{cells}
use Rattle.logical_plan.specs.declared.steadiness.Facts.{Facts}
use Rattle.logical_plan.specs.Gathers.{all_owed, gathered, given_over, joined, over_samples, owed_over, windows_of}
use Rattle.logical_plan.specs.Steadiness.{all_of, both, constant, is_selector_first, is_still_call, known_part, part_facts, still_if}

-- ---- conditions of parts

pub left_of : (a b : Bool) → (a && b) ≡ true → a ≡ true
left_of true b h = refl
left_of false b h = absurd (cc)

pub right_of : (a b : Bool) → (a && b) ≡ true → b ≡ true
right_of true b h = h
right_of false b h = absurd (cc)

pub record IsStill (f : Facts) : Type 0 where
  pub fixed : f.fixed ≡ true
  pub still : f.still ≡ true

pub left_still : (a b : Facts) → IsStill (both a b) → IsStill a
left_still a b s = record { fixed = left_of a.fixed b.fixed s.fixed; still = left_of a.still b.still s.still }

pub right_still : (a b : Facts) → IsStill (both a b) → IsStill b
right_still a b s = record { fixed = right_of a.fixed b.fixed s.fixed; still = right_of a.still b.still s.still }

pub first_still : (f : Facts) (fs : List Facts) → IsStill (all_of f fs) → IsStill f
first_still f [] s = s
first_still f (g ∷ gs) s = left_still f g (first_still (both f g) gs s)

pub own_false : (f : Facts) (fs : List Facts) → f.own ≡ false → (all_of f fs).own ≡ false
own_false f [] h = h
own_false f (g ∷ gs) h = own_false (both f g) gs refl

pub moment_stays : (asked : Asked) (moment : Moment) (t u : ℤ) → has_fixed moment.fixed ≡ true → moment_of asked moment t ≡ moment_of asked moment u
moment_stays asked moment t u h = by moment.fixed h
  where
    by : (o : Option Fixed) → has_fixed o ≡ true → base_of asked.start asked.end t o -ℤ moment.offset.0 ≡ base_of asked.start asked.end u o -ℤ moment.offset.0
    by None h = absurd (cc)
    by (Some (fixed.At at)) h = refl
    by (Some fixed.Start) h = refl
    by (Some fixed.End) h = refl

-- ---- functions of windows

pub windowed_stays : (f : WindowFunction) (t u : ℤ) (arg : XFrac) (w : Windows) → steady_window f ≡ true → windowed f t arg w ≡ windowed f u arg w
unfolding rate increase layout_of
windowed_stays window.Rate t u arg w h = refl
windowed_stays window.Increase t u arg w h = refl
windowed_stays window.Delta t u arg w h = refl
windowed_stays window.Irate t u arg w h = refl
windowed_stays window.Idelta t u arg w h = refl
windowed_stays window.Deriv t u arg w h = refl
windowed_stays window.PredictLinear t u arg w h = absurd (cc)
windowed_stays window.Changes t u arg w h = refl
windowed_stays window.Resets t u arg w h = refl
windowed_stays window.AvgOver t u arg w h = refl
windowed_stays window.MinOver t u arg w h = refl
windowed_stays window.MaxOver t u arg w h = refl
windowed_stays window.SumOver t u arg w h = refl
windowed_stays window.CountOver t u arg w h = refl
windowed_stays window.StdvarOver t u arg w h = refl
windowed_stays window.QuantileOver t u arg w h = refl
windowed_stays window.LastOver t u arg w h = refl
windowed_stays window.PresentOver t u arg w h = refl

over_stays : (f : WindowFunction) (t u : ℤ) (g : Given) → steady_window f ≡ true → over_windows f t g ≡ over_windows f u g
over_stays f t u (given.Scalar step) h = refl
over_stays f t u (given.Vector step) h = refl
over_stays f t u (given.Selected selection) h = refl
over_stays f t u (given.Windows windows) h = windowed_stays f t u zero_number windows h
over_stays f t u (given.Words text) h = refl

with_scalar_stays : (f : WindowFunction) (t u : ℤ) (scalar : Step) (g : Given) → steady_window f ≡ true → over_windows_with f t scalar g ≡ over_windows_with f u scalar g
with_scalar_stays f t u scalar (given.Scalar step) h = refl
with_scalar_stays f t u scalar (given.Vector step) h = refl
with_scalar_stays f t u scalar (given.Selected selection) h = refl
with_scalar_stays f t u scalar (given.Windows windows) h =
    let marks : Marks = united windows.marks scalar.marks in
    ap (λ (k : XFrac → Step). by_value (value_in scalar) marks k) (λ i arg. windowed_stays f t u arg (record windows { marks = marks }) h i)
with_scalar_stays f t u scalar (given.Words text) h = refl

ranged_stays : (f : WindowFunction) (t u : ℤ) (gs : List Given) → steady_window f ≡ true → ranged f t gs ≡ ranged f u gs
ranged_stays window.Rate t u gs h = over_stays window.Rate t u (argument gs 0) h
ranged_stays window.Increase t u gs h = over_stays window.Increase t u (argument gs 0) h
ranged_stays window.Delta t u gs h = over_stays window.Delta t u (argument gs 0) h
ranged_stays window.Irate t u gs h = over_stays window.Irate t u (argument gs 0) h
ranged_stays window.Idelta t u gs h = over_stays window.Idelta t u (argument gs 0) h
ranged_stays window.Deriv t u gs h = over_stays window.Deriv t u (argument gs 0) h
ranged_stays window.PredictLinear t u gs h = absurd (cc)
ranged_stays window.Changes t u gs h = over_stays window.Changes t u (argument gs 0) h
ranged_stays window.Resets t u gs h = over_stays window.Resets t u (argument gs 0) h
ranged_stays window.AvgOver t u gs h = over_stays window.AvgOver t u (argument gs 0) h
ranged_stays window.MinOver t u gs h = over_stays window.MinOver t u (argument gs 0) h
ranged_stays window.MaxOver t u gs h = over_stays window.MaxOver t u (argument gs 0) h
ranged_stays window.SumOver t u gs h = over_stays window.SumOver t u (argument gs 0) h
ranged_stays window.CountOver t u gs h = over_stays window.CountOver t u (argument gs 0) h
ranged_stays window.StdvarOver t u gs h = over_stays window.StdvarOver t u (argument gs 0) h
ranged_stays window.QuantileOver t u gs h = with_scalar_stays window.QuantileOver t u (step_at gs 0) (argument gs 1) h
ranged_stays window.LastOver t u gs h = over_stays window.LastOver t u (argument gs 0) h
ranged_stays window.PresentOver t u gs h = over_stays window.PresentOver t u (argument gs 0) h

-- ---- calls

-- the list of the arguments' meanings is as long as that of what is said of them
element_stays : (f : ElementFunction) (bools : List Bool) (gs : List Given) (t u : ℤ) → length bools ≡ length gs → steady_element f bools ≡ true → completed f gs t ≡ completed f gs u
element_stays (element.Calendar part) [] gs t u same h = absurd (cc)
element_stays (element.Calendar part) (b ∷ bs) [] t u same h = absurd (omega arith)
element_stays (element.Calendar part) (b ∷ bs) (g ∷ gs) t u same h = refl
element_stays element.Abs bools gs t u same h = refl
element_stays element.Ceil bools gs t u same h = refl
element_stays element.Floor bools gs t u same h = refl
element_stays element.Round bools gs t u same h = refl
element_stays element.Sgn bools gs t u same h = refl
element_stays element.Neg bools gs t u same h = refl
element_stays element.Clamp bools gs t u same h = refl
element_stays element.ClampMin bools gs t u same h = refl
element_stays element.ClampMax bools gs t u same h = refl

-- what an instant selector gives
abbrev IsSelected : Given → Type 0
IsSelected g = (s : Selection) × (g ≡ given.Selected s)

-- the times of a selector's samples don't depend on the instant
stamps_stay : (g : Given) (t u : ℤ) → IsSelected g → timestamps g t ≡ timestamps g u
stamps_stay g t u s = ap (λ (x : Given). timestamps x t) s.1 ∙ sym (ap (λ (x : Given). timestamps x u) s.1)

module _ (asked : Asked) where
  -- what is still means the same at each instant; a selector is known as such
  record Stays (f : Facts) (m : ℤ → Given) : Type 0 where
    gives : IsStill f → (t u : ℤ) → m t ≡ m u
    selected : f.own ≡ true → (t : ℤ) → IsSelected (m t)

  -- what is no selector
  others : (f : Facts) (m : ℤ → Given) → f.own ≡ false → (IsStill f → (t u : ℤ) → m t ≡ m u) → Stays f m
  others f m own gives = record { gives = gives; selected = λ h t. absurd (true≢false (sym h ∙ own)) }

  abbrev M : Expr → ℤ → Given
  M = meaning asked

  abbrev meaning_in : Node → ℤ → Given
  meaning_in = fold-Node (ℤ → Given) (ℤ → Given) (node_meaning asked) (λ e. e.node)

  abbrev known_in : Node → Facts
  known_in = fold-Node Facts Facts part_facts (λ e. e.node)

  abbrev ExprStays : Expr → Type 0
  ExprStays e = Stays (known_part e) (M e)

  abbrev NodeStays : Node → Type 0
  NodeStays n = Stays (known_in n) (meaning_in n)

  abbrev Staying : Type 0
  Staying = (e : Expr) × ExprStays e

  abbrev Layer : Type 0
  Layer = Node-F ((n : Node) × NodeStays n) Staying

  abbrev bare : Layer → Node-F Node Expr
  bare = map-Node ((n : Node) × NodeStays n) Staying Node Expr (λ n. n.0) (λ e. e.0)

  abbrev facts_of : List Staying → List Facts
  facts_of items = map known_part (map (λ e. e.0) items)

  abbrev stills_of : List Staying → List Bool
  stills_of items = map (λ (f : Facts). f.still) (facts_of items)

  abbrev givens : List Staying → ℤ → List Given
  givens items t = given_at (map M (map (λ e. e.0) items)) t

  arguments_stay : (f : Facts) (items : List Staying) (t u : ℤ) → IsStill (all_of f (facts_of items)) → givens items t ≡ givens items u
  arguments_stay f [] t u s = refl
  arguments_stay f (e ∷ es) t u s =
      let own : IsStill (known_part e.0) = right_still f (known_part e.0) (first_still (both f (known_part e.0)) (facts_of es) s) in
      ap₂ (λ x xs. x ∷ xs) (e.1.gives own t u) (arguments_stay (both f (known_part e.0)) es t u s)

  as_many : (items : List Staying) (u : ℤ) → length (stills_of items) ≡ length (givens items u)
  as_many [] u = refl
  as_many (e ∷ es) u = ap suc (as_many es u)

  stamp_stays : (items : List Staying) (t u : ℤ) → is_selector_first (facts_of items) ≡ true → called func.Timestamp (givens items u) t ≡ called func.Timestamp (givens items u) u
  stamp_stays [] t u h = absurd (true≢false (sym h))
  stamp_stays (e ∷ es) t u h = ap given.Vector (stamps_stay (M e.0 u) t u (e.1.selected h u))

  call_stays : (f : Func) (items : List Staying) (t u : ℤ) → is_still_call f (facts_of items) ≡ true → called f (givens items u) t ≡ called f (givens items u) u
  call_stays (func.Element f) items t u h = ap (λ all. given.Vector (applied f all)) (element_stays f (stills_of items) (givens items u) t u (as_many items u) h)
  call_stays (func.Window f) items t u h = ap given.Vector (ranged_stays f t u (givens items u) h)
  call_stays func.Time items t u h = absurd (true≢false (sym h))
  call_stays func.Timestamp items t u h = stamp_stays items t u h
  call_stays func.Absent items t u h = refl
  call_stays func.AbsentOver items t u h = refl
  call_stays func.HistogramQuantile items t u h = refl
  call_stays func.LabelJoin items t u h = refl
  call_stays func.LabelReplace items t u h = refl
  call_stays func.Scalar items t u h = refl
  call_stays func.Sort items t u h = refl
  call_stays func.SortDesc items t u h = refl
  call_stays func.Vector items t u h = refl

  level : (y : Layer) → Stays (part_facts (map-Node Node Expr Facts Facts known_in known_part (bare y))) (node_meaning asked (map-Node Node Expr (ℤ → Given) (ℤ → Given) meaning_in M (bare y)))
  level (Node-F.Number value) = others _ _ refl (λ s t u. refl)
  level (Node-F.Words text) = others _ _ refl (λ s t u. refl)
  level (Node-F.Paren e) = record { gives = e.1.gives; selected = e.1.selected }
  level (Node-F.Negate e) = others _ _ refl (λ s t u. ap negation (e.1.gives (right_still constant (known_part e.0) s) t u))
  level (Node-F.Select selector) = record {
    gives = λ s t u. ap (λ m. given.Selected (record { rules = selector.rules; rows = newest_rows selector.moment.closed m (passing asked.samples asked.kept selector.rules) })) (moment_stays asked selector.moment t u s.fixed);
    selected = λ h t. (_, refl);
  }
  level (Node-F.Range selector range) =
      others _ _ refl (λ s t u. ap (λ m. given.Windows (record { moment = record { 0 = m }; range = range; rules = selector.rules; rows = window_rows selector.moment.closed m range.0 (passing asked.samples asked.kept selector.rules); marks = no_marks })) (moment_stays asked selector.moment t u s.fixed))
  level (Node-F.Subquery e range step moment) =
      others _ _ refl (λ s t u. ap (λ m. given.Windows (points_of moment.closed (λ v. step_of (M e.0 v)) range step m)) (moment_stays asked moment t u s.fixed))
  level (Node-F.Call f items) = others _ _ (own_false constant (facts_of items) refl) stays
    where
      all : Facts
      all = all_of constant (facts_of items)

      stays : IsStill (still_if (is_still_call f (facts_of items)) all) → (t u : ℤ) → called f (givens items t) t ≡ called f (givens items u) u
      stays s t u =
          let still : IsStill all = record { fixed = s.fixed; still = right_of (is_still_call f (facts_of items)) all.still s.still } in
          ap (λ gs. called f gs t) (arguments_stay constant items t u still) ∙ call_stays f items t u (left_of (is_still_call f (facts_of items)) all.still s.still)
  level (Node-F.Aggregate f by items) =
      others _ _ (own_false constant (facts_of items) refl) (λ s t u. ap (λ gs. given.Vector (aggregation f by gs)) (arguments_stay constant items t u s))
  level (Node-F.Pair op l r pairing) =
      others _ _ refl (λ s t u. ap₂ (operation op pairing) (l.1.gives (left_still (known_part l.0) (known_part r.0) s) t u) (r.1.gives (right_still (known_part l.0) (known_part r.0) s) t u))
  level (Node-F.Set op l r pairing) =
      others _ _ refl (λ s t u. ap₂ (λ a b. given.Vector (combined (step_of a) (step_of b) op pairing)) (l.1.gives (left_still (known_part l.0) (known_part r.0) s) t u) (r.1.gives (right_still (known_part l.0) (known_part r.0) s) t u))

  node_stays : (y : Layer) → NodeStays (roll-Node (bare y))
  node_stays y =
      subst (λ (f : Facts). Stays f (meaning_in (roll-Node (bare y)))) (sym (fold-roll-Node Facts Facts part_facts (λ e. e.node) (bare y)))
      (subst (λ (m : ℤ → Given). Stays (part_facts (map-Node Node Expr Facts Facts known_in known_part (bare y))) m) (sym (fold-roll-Node (ℤ → Given) (ℤ → Given) (node_meaning asked) (λ e. e.node) (bare y)))
      (level y))

  expr_stays : (at : ℕ) (n : Node) → NodeStays n → ExprStays (roll-Expr (record { at = at; node = n }))
  expr_stays at n is =
      subst (λ (f : Facts). Stays f (M (roll-Expr (record { at = at; node = n })))) (sym (fold-roll-Expr Facts Facts part_facts (λ e. e.node) (record { at = at; node = n })))
      (subst (λ (m : ℤ → Given). Stays (known_in n) m) (sym (fold-roll-Expr (ℤ → Given) (ℤ → Given) (node_meaning asked) (λ e. e.node) (record { at = at; node = n })))
      is)

  all_stay : (e : Expr) → ExprStays e
  all_stay = ind-Expr NodeStays ExprStays
      (λ x y is. subst (λ z. NodeStays (roll-Node z)) is (node_stays y))
      (λ x y is. subst (λ z. ExprStays (roll-Expr z)) is (expr_stays y.at y.node.0 y.node.1))

-- ---- what engines give

-- what is owed and what is joined don't depend on the instant beside them
rows_alike : (kind : PartKind) (a b : Ms) (g : Given) → (cells kind a g).rows ≡ (cells kind b g).rows
rows_alike part.Rows a b g = refl
rows_alike part.Windows a b (given.Scalar step) = refl
rows_alike part.Windows a b (given.Vector step) = refl
rows_alike part.Windows a b (given.Selected selection) = refl
rows_alike part.Windows a b (given.Windows windows) = refl
rows_alike part.Windows a b (given.Words text) = refl
rows_alike (part.Partial f by) a b g = refl

marks_alike : (kind : PartKind) (a b : Ms) (g : Given) → (cells kind a g).marks ≡ (cells kind b g).marks
marks_alike part.Rows a b g = refl
marks_alike part.Windows a b (given.Scalar step) = refl
marks_alike part.Windows a b (given.Vector step) = refl
marks_alike part.Windows a b (given.Selected selection) = refl
marks_alike part.Windows a b (given.Windows windows) = refl
marks_alike part.Windows a b (given.Words text) = refl
marks_alike (part.Partial f by) a b g = refl

-- two lists of cells that differ in their instants alone
record AreAlike (xs ys : List StepCells) : Type 0 where
  cells : all_cells xs ≡ all_cells ys
  marks : (m : Marks) → marks_with m xs ≡ marks_with m ys

module _ (asked : Asked) (expr : Expr) (kind : PartKind) (still : IsStill (known_part expr)) where
  gives_same : (samples : AllSeries) (t u : ℤ) → given_over asked expr t samples ≡ given_over asked expr u samples
  gives_same samples t u = (all_stay (over_samples asked samples) expr).gives still t u

  owed_rows : (samples : AllSeries) (t u : ℤ) → (owed_over asked expr kind t samples).rows ≡ (owed_over asked expr kind u samples).rows
  owed_rows samples t u =
      rows_alike kind (record { 0 = t }) (record { 0 = u }) (given_over asked expr t samples) ∙ ap (λ (g : Given). (cells kind (record { 0 = u }) g).rows) (gives_same samples t u)

  owed_marks : (samples : AllSeries) (t u : ℤ) → (owed_over asked expr kind t samples).marks ≡ (owed_over asked expr kind u samples).marks
  owed_marks samples t u =
      marks_alike kind (record { 0 = t }) (record { 0 = u }) (given_over asked expr t samples) ∙ ap (λ (g : Given). (cells kind (record { 0 = u }) g).marks) (gives_same samples t u)

  one_more : (t u : ℤ) (o : Option AllSeries) (xs ys : List StepCells) → AreAlike xs ys
      → AreAlike (cons_option (option_map (owed_over asked expr kind t) o) xs) (cons_option (option_map (owed_over asked expr kind u) o) ys)
  one_more t u None xs ys same = same
  one_more t u (Some samples) xs ys same = record {
    cells = ap₂ (λ a b. a ++ b) (owed_rows samples t u) same.cells;
    marks = λ m. ap (λ (n : Marks). marks_with (united m n) xs) (owed_marks samples t u) ∙ same.marks (united m (owed_over asked expr kind u samples).marks);
  }

  all_alike : (t u : ℤ) (engines : List ℕ) → AreAlike (all_owed asked expr kind engines t) (all_owed asked expr kind engines u)
  all_alike t u [] = record { cells = refl; marks = λ m. refl }
  all_alike t u (n ∷ ns) = one_more t u (slice_get asked.engines n) (all_owed asked expr kind ns t) (all_owed asked expr kind ns u) (all_alike t u ns)

-- what cells come to is made of the cells and of the marks beside them
joined_alike : (kind : PartKind) (t u : ℤ) (xs ys : List StepCells) (m n : Marks) (v w : Windows) → AreAlike xs ys → m ≡ n → v ≡ w → joined kind t xs m v ≡ joined kind u ys n w
joined_alike part.Rows t u xs ys m n v w same e f = λ i. given.Vector (marked (e i) (settled (step_of_rows (filter_map cell_row (same.cells i)) (same.marks no_marks i))))
joined_alike part.Windows t u xs ys m n v w same e f =
    let windows : List CellRow → List WindowRow = filter_map (λ (row : CellRow). window_under row.labels row.cell) in
    let labels : WindowRow → Names = λ (row : WindowRow). row.labels in
    λ i. given.Windows (record (f i) {
      rules = [];
      rows = lone_by labels (windows (same.cells i));
      marks = united (with_fatal (same.marks no_marks i) (shared_marks labels (windows (same.cells i)))) (e i);
    })
joined_alike (part.Partial a by) t u xs ys m n v w same e f =
    λ i. given.Vector (marked (e i) (taken (same.marks no_marks i) (map (finished_outcome a) (grouped_cells (keyed_cells (same.cells i))))))

-- what engines give to a steady part is the same at each instant
pub gathers_stay : (asked : Asked) (expr : Expr) (kind : PartKind) (engines : List ℕ) → IsStill (known_part expr) → (t u : ℤ) → gathered asked expr kind engines t ≡ gathered asked expr kind engines u
gathers_stay asked expr kind engines still t u =
    joined_alike kind t u _ _ _ _ _ _ (all_alike asked expr kind still t u engines) (owed_marks asked expr kind still [] t u) (ap windows_of (gives_same asked expr kind still [] t u))
