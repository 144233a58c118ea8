-- What doesn't depend on the instant.
use Rattle.std.proofs.Common.{◌≡◌, ◌∙◌, ℕ, suc, Bool, true, false, List, [], ◌∷◌, map, length, arith, refl, sym, ap, subst, Option, Some, None}
use Rattle.std.specs.Prelude.{ℤ, ◌&&◌, ◌-ℤ◌}
use Rattle.func_table.specs.declared.table.Func.{Func}
use Rattle.func_table.specs.declared.table.Func.TheVariants as func
use Rattle.func_table.specs.declared.table.Element.{Element}
use Rattle.func_table.specs.declared.table.Element.TheVariants as element
use Rattle.func_table.specs.declared.table.Window.{Window as WindowFunction}
use Rattle.func_table.specs.declared.table.Window.TheVariants as window
use Rattle.promql_ast.specs.declared.tree.Expr.{Expr}
use Rattle.promql_ast.specs.declared.tree.Fixed.{Fixed}
use Rattle.promql_ast.specs.declared.tree.Fixed.TheVariants as fixed
use Rattle.promql_ast.specs.declared.tree.Moment.{Moment}
use Rattle.promql_ast.specs.declared.tree.Node.{Node}
use Rattle.promql_ast.specs.declared.tree.Node.TheOpen.{Node-F}
use Rattle.promql_ast.specs.declared.tree.Node.TheViews.{roll-Node, roll-Expr}
use Rattle.promql_ast.specs.declared.tree.Node.TheFolds.{map-Node, fold-Node, fold-roll-Node, fold-roll-Expr, ind-Expr}
use Rattle.step_table.specs.declared.step.Step.{Step}
use Rattle.window_fn.specs.Increases.{increase, layout_of, rate}
use Rattle.xfrac.specs.declared.value.XFrac.{XFrac}
use Rattle.promql_meaning.specs.declared.given.Given.{Given}
use Rattle.promql_meaning.specs.declared.given.Given.TheVariants as given
use Rattle.promql_meaning.specs.declared.given.Windows.{Windows}
use Rattle.promql_meaning.specs.Steadiness.{MeaningStays, all_hold, has_fixed, is_steady, node_steady, steady_call, steady_element, steady_window}
use Rattle.promql_meaning.specs.Meaning.{aggregation, applied, argument, called, completed, given_at, meaning, negation, node_meaning, operation, over_windows, over_windows_with, ranged, step_at, zero_number}
use Rattle.promql_meaning.specs.Ranges.{windowed}
use Rattle.promql_meaning.specs.Selecting.{Asked, base_of, moment_of, newest_rows, passing, window_rows}
use Rattle.promql_meaning.specs.Subqueries.{points_of}
use Rattle.promql_meaning.specs.Givens.{by_value, no_marks, step_of, value_in}
use Rattle.step_table.specs.Sets.{combined}
use Rattle.step_table.specs.Unions.{united}
use Rattle.step_table.specs.declared.marks.Marks.{Marks}

windowed_stays : (f : WindowFunction) (t u : ℤ) (arg : XFrac) (w : Windows) → (f ≡ window.PredictLinear → ⊥) → windowed f t arg w ≡ windowed f u arg w
unfolding rate increase layout_of
windowed_stays window.Rate t u arg w n = refl
windowed_stays window.Increase t u arg w n = refl
windowed_stays window.Delta t u arg w n = refl
windowed_stays window.Irate t u arg w n = refl
windowed_stays window.Idelta t u arg w n = refl
windowed_stays window.Deriv t u arg w n = refl
windowed_stays window.PredictLinear t u arg w n = absurd (n refl)
windowed_stays window.Changes t u arg w n = refl
windowed_stays window.Resets t u arg w n = refl
windowed_stays window.AvgOver t u arg w n = refl
windowed_stays window.MinOver t u arg w n = refl
windowed_stays window.MaxOver t u arg w n = refl
windowed_stays window.SumOver t u arg w n = refl
windowed_stays window.CountOver t u arg w n = refl
windowed_stays window.StdvarOver t u arg w n = refl
windowed_stays window.QuantileOver t u arg w n = refl
windowed_stays window.LastOver t u arg w n = refl
windowed_stays window.PresentOver t u arg w n = refl

over_stays : (f : WindowFunction) (t u : ℤ) (g : Given) → (f ≡ window.PredictLinear → ⊥) → over_windows f t g ≡ over_windows f u g
over_stays f t u (given.Scalar step) n = refl
over_stays f t u (given.Vector step) n = refl
over_stays f t u (given.Selected selection) n = refl
over_stays f t u (given.Windows windows) n = windowed_stays f t u zero_number windows n
over_stays f t u (given.Words text) n = refl

over_stays_with : (f : WindowFunction) (t u : ℤ) (scalar : Step) (g : Given) → (f ≡ window.PredictLinear → ⊥) → over_windows_with f t scalar g ≡ over_windows_with f u scalar g
over_stays_with f t u scalar (given.Scalar step) n = refl
over_stays_with f t u scalar (given.Vector step) n = refl
over_stays_with f t u scalar (given.Selected selection) n = refl
over_stays_with f t u scalar (given.Windows windows) n =
    let marks : Marks = united windows.marks scalar.marks in
    ap (λ (h : XFrac → Step). by_value (value_in scalar) marks h) (λ i arg. windowed_stays f t u arg (record windows { marks = marks }) n i)
over_stays_with f t u scalar (given.Words text) n = refl

ranged_stays : (f : WindowFunction) (t u : ℤ) (gs : List Given) → steady_window f ≡ true → ranged f t gs ≡ ranged f u gs
ranged_stays window.Rate t u gs h = over_stays window.Rate t u (argument gs 0) (λ e. absurd (cc))
ranged_stays window.Increase t u gs h = over_stays window.Increase t u (argument gs 0) (λ e. absurd (cc))
ranged_stays window.Delta t u gs h = over_stays window.Delta t u (argument gs 0) (λ e. absurd (cc))
ranged_stays window.Irate t u gs h = over_stays window.Irate t u (argument gs 0) (λ e. absurd (cc))
ranged_stays window.Idelta t u gs h = over_stays window.Idelta t u (argument gs 0) (λ e. absurd (cc))
ranged_stays window.Deriv t u gs h = over_stays window.Deriv t u (argument gs 0) (λ e. absurd (cc))
ranged_stays window.PredictLinear t u gs h = absurd (cc)
ranged_stays window.Changes t u gs h = over_stays window.Changes t u (argument gs 0) (λ e. absurd (cc))
ranged_stays window.Resets t u gs h = over_stays window.Resets t u (argument gs 0) (λ e. absurd (cc))
ranged_stays window.AvgOver t u gs h = over_stays window.AvgOver t u (argument gs 0) (λ e. absurd (cc))
ranged_stays window.MinOver t u gs h = over_stays window.MinOver t u (argument gs 0) (λ e. absurd (cc))
ranged_stays window.MaxOver t u gs h = over_stays window.MaxOver t u (argument gs 0) (λ e. absurd (cc))
ranged_stays window.SumOver t u gs h = over_stays window.SumOver t u (argument gs 0) (λ e. absurd (cc))
ranged_stays window.CountOver t u gs h = over_stays window.CountOver t u (argument gs 0) (λ e. absurd (cc))
ranged_stays window.StdvarOver t u gs h = over_stays window.StdvarOver t u (argument gs 0) (λ e. absurd (cc))
ranged_stays window.QuantileOver t u gs h = over_stays_with window.QuantileOver t u (step_at gs 0) (argument gs 1) (λ e. absurd (cc))
ranged_stays window.LastOver t u gs h = over_stays window.LastOver t u (argument gs 0) (λ e. absurd (cc))
ranged_stays window.PresentOver t u gs h = over_stays window.PresentOver t u (argument gs 0) (λ e. absurd (cc))

-- the list of the arguments' meanings is as long as that of what is said of them
element_stays : (f : Element) (bools : List Bool) (gs : List Given) (t u : ℤ) → length bools ≡ length gs → steady_element f bools ≡ true → completed f gs t ≡ completed f gs u
element_stays (element.Calendar part) [] gs t u same h = absurd (cc)
element_stays (element.Calendar part) (b ∷ bs) [] t u same h = absurd (omega arith)
element_stays (element.Calendar part) (b ∷ bs) (g ∷ gs) t u same h = refl
element_stays element.Abs bools gs t u same h = refl
element_stays element.Ceil bools gs t u same h = refl
element_stays element.Floor bools gs t u same h = refl
element_stays element.Round bools gs t u same h = refl
element_stays element.Sgn bools gs t u same h = refl
element_stays element.Neg bools gs t u same h = refl
element_stays element.Clamp bools gs t u same h = refl
element_stays element.ClampMin bools gs t u same h = refl
element_stays element.ClampMax bools gs t u same h = refl

called_stays : (f : Func) (bools : List Bool) (gs : List Given) (t u : ℤ) → length bools ≡ length gs → steady_call f bools ≡ true → called f gs t ≡ called f gs u
called_stays (func.Element f) bools gs t u same h = ap (λ all. given.Vector (applied f all)) (element_stays f bools gs t u same h)
called_stays (func.Window f) bools gs t u same h = ap given.Vector (ranged_stays f t u gs h)
called_stays func.Time bools gs t u same h = absurd (cc)
called_stays func.Timestamp bools gs t u same h = absurd (cc)
called_stays func.Absent bools gs t u same h = refl
called_stays func.AbsentOver bools gs t u same h = refl
called_stays func.HistogramQuantile bools gs t u same h = refl
called_stays func.LabelJoin bools gs t u same h = refl
called_stays func.LabelReplace bools gs t u same h = refl
called_stays func.Scalar bools gs t u same h = refl
called_stays func.Sort bools gs t u same h = refl
called_stays func.SortDesc bools gs t u same h = refl
called_stays func.Vector bools gs t u same h = refl

both_true : (a b : Bool) → (a && b) ≡ true → (a ≡ true) × (b ≡ true)
both_true true b h = (refl, h)
both_true false b h = absurd (cc)

module _ (asked : Asked) where
  moment_stays : (moment : Moment) (t u : ℤ) → has_fixed moment.fixed ≡ true → moment_of asked moment t ≡ moment_of asked moment u
  moment_stays moment t u h = by moment.fixed h
    where
      by : (o : Option Fixed) → has_fixed o ≡ true → base_of asked.start asked.end t o -ℤ moment.offset.0 ≡ base_of asked.start asked.end u o -ℤ moment.offset.0
      by None h = absurd (cc)
      by (Some (fixed.At at)) h = refl
      by (Some fixed.Start) h = refl
      by (Some fixed.End) h = refl

  abbrev Fits : Expr → Type 0
  Fits e = is_steady e ≡ true → (t u : ℤ) → meaning asked e t ≡ meaning asked e u

  abbrev meaning_in : Node → ℤ → Given
  meaning_in = fold-Node (ℤ → Given) (ℤ → Given) (node_meaning asked) (λ e. e.node)

  abbrev steady_in : Node → Bool
  steady_in = fold-Node Bool Bool node_steady (λ e. e.node)

  abbrev NodeFits : Node → Type 0
  NodeFits node = steady_in node ≡ true → (t u : ℤ) → meaning_in node t ≡ meaning_in node u

  abbrev Fitting : Type 0
  Fitting = Node-F ((n : Node) × NodeFits n) ((e : Expr) × Fits e)

  abbrev plain : Fitting → Node-F Node Expr
  plain = map-Node ((n : Node) × NodeFits n) ((e : Expr) × Fits e) Node Expr (λ n. n.0) (λ e. e.0)

  abbrev Fitted : Type 0
  Fitted = (e : Expr) × Fits e

  arguments_stay : (items : List Fitted) (t u : ℤ) → all_hold (map is_steady (map (λ e. e.0) items)) ≡ true
      → given_at (map (meaning asked) (map (λ e. e.0) items)) t ≡ given_at (map (meaning asked) (map (λ e. e.0) items)) u
  arguments_stay [] t u h = refl
  arguments_stay (item ∷ items) t u h =
      let both = both_true (is_steady item.0) (all_hold (map is_steady (map (λ e. e.0) items))) h in
      λ i. item.1 both.0 t u i ∷ arguments_stay items t u both.1 i

  as_many : (items : List Fitted) (u : ℤ) → length (map is_steady (map (λ e. e.0) items)) ≡ length (given_at (map (meaning asked) (map (λ e. e.0) items)) u)
  as_many [] u = refl
  as_many (item ∷ items) u = ap suc (as_many items u)

  level : (y : Fitting) → node_steady (map-Node Node Expr Bool Bool steady_in is_steady (plain y)) ≡ true → (t u : ℤ)
      → node_meaning asked (map-Node Node Expr (ℤ → Given) (ℤ → Given) meaning_in (meaning asked) (plain y)) t ≡ node_meaning asked (map-Node Node Expr (ℤ → Given) (ℤ → Given) meaning_in (meaning asked) (plain y)) u
  level (Node-F.Number value) h t u = refl
  level (Node-F.Words text) h t u = refl
  level (Node-F.Paren e) h t u = e.1 h t u
  level (Node-F.Negate e) h t u = ap negation (e.1 h t u)
  level (Node-F.Select selector) h t u =
      ap (λ m. given.Selected (record { rules = selector.rules; rows = newest_rows selector.moment.closed m (passing asked.samples asked.kept selector.rules) })) (moment_stays selector.moment t u h)
  level (Node-F.Range selector range) h t u =
      ap (λ m. given.Windows (record { moment = record { 0 = m }; range = range; rules = selector.rules; rows = window_rows selector.moment.closed m range.0 (passing asked.samples asked.kept selector.rules); marks = no_marks })) (moment_stays selector.moment t u h)
  level (Node-F.Subquery e range step moment) h t u = ap (λ m. given.Windows (points_of moment.closed (λ v. step_of (meaning asked e.0 v)) range step m)) (moment_stays moment t u h)
  level (Node-F.Call f items) h t u =
      let bools : List Bool = map is_steady (map (λ e. e.0) items) in
      let both = both_true (steady_call f bools) (all_hold bools) h in
      ap (λ gs. called f gs t) (arguments_stay items t u both.1) ∙ called_stays f bools (given_at (map (meaning asked) (map (λ e. e.0) items)) u) t u (as_many items u) both.0
  level (Node-F.Aggregate f by items) h t u = ap (λ gs. given.Vector (aggregation f by gs)) (arguments_stay items t u h)
  level (Node-F.Pair op l r pairing) h t u =
      let both = both_true (is_steady l.0) (is_steady r.0) h in
      λ i. operation op pairing (l.1 both.0 t u i) (r.1 both.1 t u i)
  level (Node-F.Set op l r pairing) h t u =
      let both = both_true (is_steady l.0) (is_steady r.0) h in
      λ i. given.Vector (combined (step_of (l.1 both.0 t u i)) (step_of (r.1 both.1 t u i)) op pairing)

  node_fits : (y : Fitting) → NodeFits (roll-Node (plain y))
  node_fits y h t u =
      subst (λ f. f t ≡ f u) (sym (fold-roll-Node (ℤ → Given) (ℤ → Given) (node_meaning asked) (λ e. e.node) (plain y)))
      (level y (subst (λ b. b ≡ true) (fold-roll-Node Bool Bool node_steady (λ e. e.node) (plain y)) h) t u)

  expr_fits : (at : ℕ) (node : Node) → NodeFits node → Fits (roll-Expr (record { at = at; node = node }))
  expr_fits at node is h t u =
      subst (λ f. f t ≡ f u) (sym (fold-roll-Expr (ℤ → Given) (ℤ → Given) (node_meaning asked) (λ e. e.node) (record { at = at; node = node })))
      (is (subst (λ b. b ≡ true) (fold-roll-Expr Bool Bool node_steady (λ e. e.node) (record { at = at; node = node })) h) t u)

  all_fit : (e : Expr) → Fits e
  all_fit = ind-Expr NodeFits Fits (λ x y is. subst (λ z. NodeFits (roll-Node z)) is (node_fits y)) (λ x y is. subst (λ z. Fits (roll-Expr z)) is (expr_fits y.at y.node.0 y.node.1))

pub meaning_stays : MeaningStays
meaning_stays asked e t u h = all_fit asked e h t u
