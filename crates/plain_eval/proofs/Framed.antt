-- The windows that a ready tree gives have their samples in their ranges.
use Rattle.std.proofs.Common.{◌≡◌, ℕ, zero, suc, ◌<◌, ◌+◌, Bool, true, false, List, [], ◌∷◌, ◌++◌, length, map, drop, filter, refl, sym, ap, subst, arith}
use Rattle.std.specs.Prelude.{ℤ, pos, ◌-ℤ◌, ◌<ℤ◌, ◌≤ℤ◌, int_le, ◌&&◌, if◌then◌else◌}
use Rattle.std.specs.List.{All, AllByRecursion, cons_option, filter_map}
use Rattle.std.proofs.lemmas.Int.{ints}
use Rattle.func_table.specs.declared.table.Func.{Func}
use Rattle.func_table.specs.declared.table.Func.TheVariants as func
use Rattle.label_set.specs.declared.rules.Pairing.{Pairing}
use Rattle.xfrac.specs.declared.value.PairOp.{PairOp}
use Rattle.promql_ast.specs.declared.tree.Expr.{Expr}
use Rattle.promql_ast.specs.declared.tree.Node.{Node}
use Rattle.promql_ast.specs.declared.tree.Node.TheOpen.{Node-F}
use Rattle.promql_ast.specs.declared.tree.Node.TheViews.{roll-Node, roll-Expr}
use Rattle.promql_ast.specs.declared.tree.Node.TheFolds.{map-Node, fold-Node, fold-roll-Node, fold-roll-Expr, ind-Expr}
use Rattle.std.specs.Map.{values_of}
use Rattle.step_table.specs.Groups.{Names, gathered, items_of, names_among}
use Rattle.step_table.specs.declared.step.Row.{Row}
use Rattle.step_table.specs.declared.step.Step.{Step}
use Rattle.step_table.specs.declared.windows.WindowRow.{WindowRow}
use Rattle.ticks.specs.Walks.{IsTime}
use Rattle.ticks.specs.declared.moment.Ms.{Ms}
use Rattle.window_fn.specs.Windows.{IsInFrame}
use Rattle.xfrac.specs.declared.value.Held.{Held}
use Rattle.xfrac.specs.declared.value.Held.TheVariants.{Value, Stale}
use Rattle.xfrac.specs.declared.value.XFrac.{XFrac}
use Rattle.promql_meaning.specs.declared.given.Given.{Given}
use Rattle.promql_meaning.specs.declared.given.Given.TheVariants.{Scalar, Vector, Selected, Windows, Words}
use Rattle.promql_meaning.specs.declared.given.Windows.{Windows as WindowsRecord}
use Rattle.promql_meaning.specs.Conditions.{AreMet, Need, needs_of, node_needs}
use Rattle.promql_meaning.specs.Givens.{step_of}
use Rattle.promql_meaning.specs.Subqueries.{as_times, gathered_windows, group_window, multiples, points_of, rows_over}
use Rattle.promql_meaning.specs.Meaning.{argument, called, given_at, meaning, negation, node_meaning, operation}
use Rattle.promql_meaning.specs.Ranges.{frame_of}
use Rattle.promql_meaning.specs.Selecting.{Asked, Samples, between, fresh_sample, passing, moment_of, sample_times, sample_values, series_window, window, window_row}
use Rattle.step_rules.specs.Frames.{AreFramed}
use Rattle.ticks.specs.Edges.{is_from}
use Rattle.step_rules.specs.Instants.{IsIn, multiples_in}
use Rattle.plain_eval.specs.Frames.{IsFramed}

-- ---- lists

pub all_of : {X : Type 0} (P : X → Type 0) (xs : List X) → AllByRecursion P xs → All P xs
all_of P [] a k d w = absurd (omega (arith, w))
all_of P (x ∷ xs) a zero d w = a.0
all_of P (x ∷ xs) a (suc k) d w = all_of P xs a.1 k d (omega (arith, w))

-- ---- a range selector

fresh_in : (edge m : ℤ) (s : Ms × Held) (rest : List (Ms × XFrac)) → IsIn edge m s.0 → AllByRecursion (λ (x : Ms × XFrac). IsIn edge m x.0) rest
    → AllByRecursion (λ (x : Ms × XFrac). IsIn edge m x.0) (cons_option (fresh_sample s) rest)
fresh_in edge m (t, Value value) rest is all = (is, all)
fresh_in edge m (t, Stale) rest is all = all

is_in : (closed : Bool) (edge m t : ℤ) → (is_from closed edge t && int_le t m) ≡ true → (edge ≤ℤ t) × (t ≤ℤ m)
is_in false edge m t h = (grind (arith, ints, h), grind (arith, ints, h))
is_in true edge m t h = (grind (arith, ints, h), grind (arith, ints, h))

between_in : (closed : Bool) (edge m : ℤ) (samples : Samples) → AllByRecursion (λ (x : Ms × XFrac). IsIn edge m x.0) (filter_map fresh_sample (between closed edge m samples))
between_in closed edge m [] = tt
between_in closed edge m (s ∷ samples) =
    elim (is_from closed edge s.0.0 && int_le s.0.0 m) as (λ b. (is_from closed edge s.0.0 && int_le s.0.0 m) ≡ b
    → AllByRecursion (λ (x : Ms × XFrac). IsIn edge m x.0) (filter_map fresh_sample (if b then s ∷ between closed edge m samples else between closed edge m samples))) [
      | true ↦ λ h. fresh_in edge m s (filter_map fresh_sample (between closed edge m samples)) (is_in closed edge m s.0.0 h) (between_in closed edge m samples)
      | false ↦ λ h. between_in closed edge m samples
    ] refl

times_in : (edge m : ℤ) (samples : List (Ms × XFrac)) → AllByRecursion (λ (x : Ms × XFrac). IsIn edge m x.0) samples → AllByRecursion (IsIn edge m) (sample_times samples)
times_in edge m [] all = tt
times_in edge m (s ∷ samples) all = (all.0, times_in edge m samples all.1)

as_many : (samples : List (Ms × XFrac)) → length (sample_times samples) ≡ length (sample_values samples)
as_many [] = refl
as_many (s ∷ samples) = ap suc (as_many samples)

abbrev RowIn : ℤ → ℤ → WindowRow → Type 0
RowIn edge m row = AllByRecursion (IsIn edge m) row.times × (length row.times ≡ length row.values)

row_in : (edge m : ℤ) (names : Names) (samples : List (Ms × XFrac)) (rest : List WindowRow) → AllByRecursion (λ (x : Ms × XFrac). IsIn edge m x.0) samples
    → AllByRecursion (RowIn edge m) rest → AllByRecursion (RowIn edge m) (cons_option (window_row names samples) rest)
row_in edge m names [] rest all rows = rows
row_in edge m names (s ∷ samples) rest all rows = ((times_in edge m (s ∷ samples) all, as_many (s ∷ samples)), rows)

rows_in : (closed : Bool) (m range : ℤ) (series : List (Names × Samples)) → AllByRecursion (RowIn (m -ℤ range) m) (filter_map (series_window closed m range) series)
rows_in closed m range [] = tt
rows_in closed m range (one ∷ series) =
    row_in (m -ℤ range) m one.0 (window closed m range one.1) (filter_map (series_window closed m range) series) (between_in closed (m -ℤ range) m one.1) (rows_in closed m range series)

-- ---- frames

in_frame : (edge m : ℤ) (times : List Ms) (P : Ms → Type 0) → ((u : Ms) → IsIn edge m u → P u) → AllByRecursion (IsIn edge m) times → AllByRecursion P times
in_frame edge m [] P turn all = tt
in_frame edge m (time ∷ times) P turn all = (turn time all.0, in_frame edge m times P turn all.1)

rows_framed : (edge m : ℤ) (rows : List WindowRow) (P : Ms → Type 0) → ((u : Ms) → IsIn edge m u → P u)
    → AllByRecursion (RowIn edge m) rows → AllByRecursion (λ (row : WindowRow). All P row.times) rows
rows_framed edge m [] P turn all = tt
rows_framed edge m (row ∷ rows) P turn all = (all_of P row.times (in_frame edge m row.times P turn all.0.0), rows_framed edge m rows P turn all.1)

rows_beside : (edge m : ℤ) (rows : List WindowRow) → AllByRecursion (RowIn edge m) rows → AllByRecursion (λ (row : WindowRow). length row.times ≡ length row.values) rows
rows_beside edge m [] all = tt
rows_beside edge m (row ∷ rows) all = (all.0.1, rows_beside edge m rows all.1)

-- windows whose samples lie in their range, where the instant and its ends are times
pub framed_by : (t : ℤ) (windows : WindowsRecord) → IsTime t → IsTime windows.moment.0 → IsTime (windows.moment.0 -ℤ windows.range.0)
    → AllByRecursion (RowIn (windows.moment.0 -ℤ windows.range.0) windows.moment.0) windows.rows → AreFramed t windows
framed_by t windows instant ends begins rows = record {
  frame = record { instant = instant; ends = ends; begins = begins };
  rows = all_of (λ (row : WindowRow). All (IsInFrame (frame_of t windows)) row.times) windows.rows
      (rows_framed (windows.moment.0 -ℤ windows.range.0) windows.moment.0 windows.rows (IsInFrame (frame_of t windows)) (λ u is. record { from_start = is.0; to_end = is.1 }) rows);
  beside = all_of (λ (row : WindowRow). length row.times ≡ length row.values) windows.rows (rows_beside (windows.moment.0 -ℤ windows.range.0) windows.moment.0 windows.rows rows);
}

-- ---- what has no windows

negation_framed : (t : ℤ) (g : Given) → IsFramed t (negation g)
negation_framed t (Scalar step) = tt
negation_framed t (Vector step) = tt
negation_framed t (Selected selection) = tt
negation_framed t (Windows windows) = tt
negation_framed t (Words text) = tt

called_framed : (t : ℤ) (f : Func) (arguments : List Given) → IsFramed t (called f arguments t)
called_framed t (func.Element f) arguments = tt
called_framed t (func.Window f) arguments = tt
called_framed t func.Absent arguments = tt
called_framed t func.AbsentOver arguments = tt
called_framed t func.HistogramQuantile arguments = tt
called_framed t func.LabelJoin arguments = tt
called_framed t func.LabelReplace arguments = tt
called_framed t func.Scalar arguments = tt
called_framed t func.Sort arguments = tt
called_framed t func.SortDesc arguments = tt
called_framed t func.Time arguments = tt
called_framed t func.Timestamp arguments = tt
called_framed t func.Vector arguments = tt

operation_framed : (t : ℤ) (op : PairOp) (pairing : Pairing) (l r : Given) → IsFramed t (operation op pairing l r)
operation_framed t op pairing (Scalar l) (Scalar r) = tt
operation_framed t op pairing (Scalar l) (Vector r) = tt
operation_framed t op pairing (Scalar l) (Selected r) = tt
operation_framed t op pairing (Scalar l) (Windows r) = tt
operation_framed t op pairing (Scalar l) (Words r) = tt
operation_framed t op pairing (Vector l) (Scalar r) = tt
operation_framed t op pairing (Vector l) (Vector r) = tt
operation_framed t op pairing (Vector l) (Selected r) = tt
operation_framed t op pairing (Vector l) (Windows r) = tt
operation_framed t op pairing (Vector l) (Words r) = tt
operation_framed t op pairing (Selected l) (Scalar r) = tt
operation_framed t op pairing (Selected l) (Vector r) = tt
operation_framed t op pairing (Selected l) (Selected r) = tt
operation_framed t op pairing (Selected l) (Windows r) = tt
operation_framed t op pairing (Selected l) (Words r) = tt
operation_framed t op pairing (Windows l) (Scalar r) = tt
operation_framed t op pairing (Windows l) (Vector r) = tt
operation_framed t op pairing (Windows l) (Selected r) = tt
operation_framed t op pairing (Windows l) (Windows r) = tt
operation_framed t op pairing (Windows l) (Words r) = tt
operation_framed t op pairing (Words l) (Scalar r) = tt
operation_framed t op pairing (Words l) (Vector r) = tt
operation_framed t op pairing (Words l) (Selected r) = tt
operation_framed t op pairing (Words l) (Windows r) = tt
operation_framed t op pairing (Words l) (Words r) = tt

-- the argument at a place
pub argument_framed : (t : ℤ) (arguments : List Given) (i : ℕ) → AllByRecursion (IsFramed t) arguments → IsFramed t (argument arguments i)
argument_framed t [] i all = tt
argument_framed t (g ∷ arguments) zero all = all.0
argument_framed t (g ∷ arguments) (suc i) all = argument_framed t arguments i all.1

pub drop_framed : (t : ℤ) (arguments : List Given) → AllByRecursion (IsFramed t) arguments → AllByRecursion (IsFramed t) (drop 1 arguments)
drop_framed t [] all = tt
drop_framed t (g ∷ arguments) all = all.1

-- ---- a subquery

time_in : (edge m : ℤ) (u : Ms) (rows : List Row) (rest : List (Names × (Ms × XFrac))) → IsIn edge m u → AllByRecursion (λ (x : Names × (Ms × XFrac)). IsIn edge m x.1.0) rest
    → AllByRecursion (λ (x : Names × (Ms × XFrac)). IsIn edge m x.1.0) (map (λ (row : Row). (row.labels, (u, row.value))) rows ++ rest)
time_in edge m u [] rest is all = all
time_in edge m u (row ∷ rows) rest is all = (is, time_in edge m u rows rest is all)

items_in : (edge m : ℤ) (inner : ℤ → Step) (us : List Ms) → AllByRecursion (IsIn edge m) us → AllByRecursion (λ (x : Names × (Ms × XFrac)). IsIn edge m x.1.0) (rows_over inner us)
items_in edge m inner [] all = tt
items_in edge m inner (u ∷ us) all = time_in edge m u (inner u.0).table.rows (rows_over inner us) all.0 (items_in edge m inner us all.1)

values_in : (edge m : ℤ) (p : Names × (Ms × XFrac) → Bool) (items : List (Names × (Ms × XFrac))) → AllByRecursion (λ (x : Names × (Ms × XFrac)). IsIn edge m x.1.0) items
    → AllByRecursion (λ (x : Ms × XFrac). IsIn edge m x.0) (values_of (filter p items))
values_in edge m p [] all = tt
values_in edge m p (x ∷ items) all =
    elim (p x) as (λ b. AllByRecursion (λ (y : Ms × XFrac). IsIn edge m y.0) (values_of (if b then x ∷ filter p items else filter p items)))
    [ true ↦ (all.0, values_in edge m p items all.1) | false ↦ values_in edge m p items all.1 ]

groups_in : (edge m : ℤ) (items : List (Names × (Ms × XFrac))) (names : List Names) → AllByRecursion (λ (x : Names × (Ms × XFrac)). IsIn edge m x.1.0) items
    → AllByRecursion (RowIn edge m) (filter_map group_window (map (λ ns. (ns, items_of items ns)) names))
groups_in edge m items [] all = tt
groups_in edge m items (ns ∷ names) all =
    row_in edge m ns (items_of items ns) (filter_map group_window (map (λ ns. (ns, items_of items ns)) names)) (values_in edge m _ items all) (groups_in edge m items names all)

windows_in : (edge m : ℤ) (items : List (Names × (Ms × XFrac))) → AllByRecursion (λ (x : Names × (Ms × XFrac)). IsIn edge m x.1.0) items → AllByRecursion (RowIn edge m) (gathered_windows items)
unfolding gathered
windows_in edge m items all = groups_in edge m items (names_among items) all

points_in : (closed : Bool) (inner : ℤ → Step) (range step : Ms) (m : ℤ) → pos 0 <ℤ step.0 → AllByRecursion (RowIn (m -ℤ range.0) m) (points_of closed inner range step m).rows
points_in closed inner range step m positive =
    windows_in (m -ℤ range.0) m (rows_over inner (as_times (multiples closed m range.0 step.0)))
    (items_in (m -ℤ range.0) m inner (as_times (multiples closed m range.0 step.0)) (multiples_in closed m range.0 step.0 positive))

-- ---- a tree

module _ (asked : Asked) where
  abbrev Meant : Type 0
  Meant = ℤ → Given

  abbrev Needed : Type 0
  Needed = ℤ → List Need

  abbrev node_meant : Node → Meant
  node_meant = fold-Node Meant Meant (node_meaning asked) (λ e. e.node)

  abbrev node_needed : Node → Needed
  node_needed = fold-Node Needed Needed (node_needs asked) (λ e. e.node)

  abbrev AreFramedAt : Expr → Type 0
  AreFramedAt e = (t : ℤ) → AreMet asked (needs_of asked e t) → IsFramed t (meaning asked e t)

  abbrev NodeFramed : Node → Type 0
  NodeFramed node = (t : ℤ) → AreMet asked (node_needed node t) → IsFramed t (node_meant node t)

  abbrev Held_in : Type 0
  Held_in = Node-F ((n : Node) × NodeFramed n) ((e : Expr) × AreFramedAt e)

  abbrev plain : Held_in → Node-F Node Expr
  plain = map-Node ((n : Node) × NodeFramed n) ((e : Expr) × AreFramedAt e) Node Expr (λ n. n.0) (λ e. e.0)

  level : (y : Held_in) (t : ℤ) → AreMet asked (node_needs asked (map-Node Node Expr Needed Needed node_needed (needs_of asked) (plain y)) t)
      → IsFramed t (node_meaning asked (map-Node Node Expr Meant Meant node_meant (meaning asked) (plain y)) t)
  level (Node-F.Number value) t met = tt
  level (Node-F.Words text) t met = tt
  level (Node-F.Paren e) t met = e.1 t met
  level (Node-F.Negate e) t met = negation_framed t (meaning asked e.0 t)
  level (Node-F.Select selector) t met = tt
  level (Node-F.Range selector range) t met =
      let times = met.1.0 in
      let m = moment_of asked selector.moment t in
      framed_by t _ times.0 times.1.0 times.1.1.0 (rows_in selector.moment.closed m range.0 (passing asked.samples asked.kept selector.rules))
  level (Node-F.Subquery e range step moment) t met =
      let times = met.1.0 in
      framed_by t _ times.0 times.1.1.1.0 times.1.1.1.1.0 (points_in moment.closed (λ u. step_of (meaning asked e.0 u)) range step (moment_of asked moment t) met.0)
  level (Node-F.Call f items) t met = called_framed t f _
  level (Node-F.Aggregate f by items) t met = tt
  level (Node-F.Pair op a b pairing) t met = operation_framed t op pairing (meaning asked a.0 t) (meaning asked b.0 t)
  level (Node-F.Set op a b pairing) t met = tt

  node_framed : (y : Held_in) → NodeFramed (roll-Node (plain y))
  node_framed y t met =
      subst (λ f. IsFramed t (f t)) (sym (fold-roll-Node Meant Meant (node_meaning asked) (λ e. e.node) (plain y)))
      (level y t (subst (λ f. AreMet asked (f t)) (fold-roll-Node Needed Needed (node_needs asked) (λ e. e.node) (plain y)) met))

  expr_framed : (at : ℕ) (n : Node) → NodeFramed n → AreFramedAt (roll-Expr (record { at = at; node = n }))
  expr_framed at n is t met =
      subst (λ f. IsFramed t (f t)) (sym (fold-roll-Expr Meant Meant (node_meaning asked) (λ e. e.node) (record { at = at; node = n })))
      (is t (subst (λ f. AreMet asked (f t)) (fold-roll-Expr Needed Needed (node_needs asked) (λ e. e.node) (record { at = at; node = n })) met))

  -- what a tree gives whose needs are met
  pub tree_framed : (e : Expr) → AreFramedAt e
  tree_framed = ind-Expr NodeFramed AreFramedAt
      (λ x y is. subst (λ z. NodeFramed (roll-Node z)) is (node_framed y))
      (λ x y is. subst (λ z. AreFramedAt (roll-Expr z)) is (expr_framed y.at y.node.0 y.node.1))

  pub arguments_framed : (items : List Expr) (t : ℤ) → AllByRecursion (λ e. AreMet asked (needs_of asked e t)) items → AllByRecursion (IsFramed t) (given_at (map (meaning asked) items) t)
  arguments_framed [] t met = tt
  arguments_framed (e ∷ items) t met = (tree_framed e t met.0, arguments_framed items t met.1)
