-- Windows that share their labels with no other are windows still, in the order of their labels.
use Rattle.std.proofs.Common.{◌≡◌, ◌∙◌, ℕ, zero, suc, ◌<◌, ◌+◌, Bool, true, false, cond, List, [], ◌∷◌, ◌++◌, length, map, take, drop, refl, ap, subst, Some, None, Option, arith}
use Rattle.std.specs.Prelude.{◌||◌, ◌==◌, filter, not, IfSome, int_lt}
use Rattle.std.specs.BTreeMap.{is_at}
use Rattle.std.specs.List.{AllByRecursion, cons_option, filter_map, list_all, list_any}
use Rattle.std.specs.List.Sorted.{IsStrictlySortedBy}
use Rattle.std.specs.Map.{values_of}
use Rattle.std.specs.Ordering.{is_eq}
use Rattle.std.specs.declared.cmp.Ordering.{Ordering}
use Rattle.std.specs.declared.cmp.Ordering.TheVariants.{Less, Equal, Greater}
use Rattle.std.proofs.lemmas.Bool.{false≢true}
use Rattle.std.proofs.lemmas.Cmp.{tied_itself}
use Rattle.std.proofs.lemmas.Int.{ints}
use Rattle.std.proofs.lemmas.List.{map-append}
use Rattle.holders.specs.Joins.{both_of}
use Rattle.label_set.specs.LabelEquality.{labels_decide, labels_eq}
use Rattle.label_set.specs.LabelOrder.{labels_cmp_ties, labels_cmp_total}
use Rattle.label_set.specs.Labels.{labels_cmp}
use Rattle.step_batch.specs.Lent.{no_marks}
use Rattle.step_batch.specs.LentWindows.{IsWindow, TimesRise, WindowsAt, names_of, with_more_marks}
use Rattle.step_cells.specs.Joined.{all_cells, all_marks, joined_windows, window_under, windows_in}
use Rattle.step_table.specs.Gathering.{names_sorted}
use Rattle.step_table.specs.Groups.{Names, alone, gathered, items_of, lone_items, names_among, shared_names}
use Rattle.step_table.specs.KeySets.{all_before}
use Rattle.step_table.specs.Outcomes.{keyed_by, lone_by, shared_marks}
use Rattle.step_table.specs.Unions.{with_fatal}
use Rattle.step_table.specs.declared.cells.Cell.{Cell}
use Rattle.step_table.specs.declared.cells.Cell.TheVariants as cell
use Rattle.step_table.specs.declared.cells.CellRow.{CellRow}
use Rattle.step_table.specs.declared.cells.PartKind.{PartKind}
use Rattle.step_table.specs.declared.cells.PartKind.TheVariants.{Windows}
use Rattle.step_table.specs.declared.cells.StepCells.{StepCells}
use Rattle.step_table.specs.declared.marks.Mark.TheVariants.{SameLabelset}
use Rattle.step_table.specs.declared.marks.Marks.{Marks}
use Rattle.step_table.specs.declared.windows.WindowRow.{WindowRow}
use Rattle.ticks.specs.declared.moment.Ms.{Ms}
use Rattle.remote_api.specs.Strays.{do_rise, has_kind, is_cell_of, is_distinct, is_empty, rise_from}
use Rattle.remote_api.specs.declared.asks.Ask.{Ask}
use Rattle.op_gather.specs.Cells.{AreWindowCells, IsWindowRow}
use Rattle.op_gather.specs.Histories.{AreWell}
use Rattle.op_gather.specs.Joins.{with_sets}
use Rattle.op_gather.proofs.Standing.{both_true}

-- ---- what is asked of steps

rises : (t : Ms) (times : List Ms) → rise_from t times ≡ true → TimesRise (t ∷ times)
rises t [] e = tt
rises t (u ∷ times) e =
    let both : (int_lt t.0 u.0 ≡ true) × (rise_from u times ≡ true) = both_true (int_lt t.0 u.0) (rise_from u times) e in
    (let h = both.0 in omega (arith, ints, h), rises u times both.1)

do_times_rise : (times : List Ms) → do_rise times ≡ true → TimesRise times
do_times_rise [] e = tt
do_times_rise (t ∷ times) e = rises t times e

some_times : (times : List Ms) → not (is_empty times) ≡ true → 0 < length times
some_times [] e = absurd (false≢true e)
some_times (t ∷ times) e = omega arith

as_long_as : (m n : ℕ) → (m == n) ≡ true → m ≡ n
as_long_as m n e = grind (arith, e)

window_is : (ask : Ask) (at : Ms) (labels : Names) (c : Cell) → is_cell_of Windows ask at c ≡ true → IfSome (window_under labels c) IsWindow
window_is ask at labels (cell.Value v) e = tt
window_is ask at labels (cell.Sum s) e = tt
window_is ask at labels (cell.Count n) e = tt
window_is ask at labels (cell.Window times values) e =
    let a = both_true (length times == length values) _ e in
    let b = both_true (not (is_empty times)) _ a.1 in
    let d = both_true (do_rise times) _ b.1 in
    record { same = as_long_as (length times) (length values) a.0; some = some_times times b.0; rising = do_times_rise times d.0 }

rows_are : (ask : Ask) (at : Ms) (rows : List CellRow) → list_all (λ (row : CellRow). is_cell_of Windows ask at row.cell) rows ≡ true → AllByRecursion IsWindowRow rows
rows_are ask at [] e = tt
rows_are ask at (row ∷ rows) e =
    let both = both_true (is_cell_of Windows ask at row.cell) (list_all (λ (row : CellRow). is_cell_of Windows ask at row.cell) rows) e in
    (window_is ask at row.labels row.cell both.0, rows_are ask at rows both.1)

pub windows_are : (ask : Ask) → ask.kind ≡ Windows → (steps : List StepCells) → AreWell ask steps → AllByRecursion AreWindowCells steps
windows_are ask e [] a = tt
windows_are ask e (step ∷ steps) a =
    let both = both_true (list_all (λ (row : CellRow). has_kind ask step.at row.cell) step.rows) (is_distinct step.rows) a.0 in
    (rows_are ask step.at step.rows (subst (λ (k : PartKind). list_all (λ (row : CellRow). is_cell_of k ask step.at row.cell) step.rows ≡ true) e both.0), windows_are ask e steps a.1)

-- ---- the windows of all engines

abbrev pub HasRow : (WindowRow → Type 0) → CellRow → Type 0
HasRow P row = IfSome (window_under row.labels row.cell) P

-- what holds of the windows in the cells of each step holds of all windows
module _ (P : WindowRow → Type 0) where
  window_more : (o : Option WindowRow) (ws : List WindowRow) → IfSome o P → AllByRecursion P ws → AllByRecursion P (cons_option o ws)
  window_more None ws h a = a
  window_more (Some w) ws h a = (h, a)

  rows_each : (rows : List CellRow) → AllByRecursion (HasRow P) rows → AllByRecursion P (filter_map (λ (row : CellRow). window_under row.labels row.cell) rows)
  rows_each [] a = tt
  rows_each (row ∷ rows) a = window_more (window_under row.labels row.cell) (filter_map (λ (row : CellRow). window_under row.labels row.cell) rows) a.0 (rows_each rows a.1)

  cells_each : (steps : List StepCells) → AllByRecursion (λ (step : StepCells). AllByRecursion (HasRow P) step.rows) steps → AllByRecursion (HasRow P) (all_cells steps)
  cells_each [] a = tt
  cells_each (step ∷ steps) a = both_of (HasRow P) step.rows (all_cells steps) a.0 (cells_each steps a.1)

  pub windows_hold : (steps : List StepCells) → AllByRecursion (λ (step : StepCells). AllByRecursion (HasRow P) step.rows) steps → AllByRecursion P (windows_in steps)
  windows_hold steps a = rows_each (all_cells steps) (cells_each steps a)

  -- marks that are made sets change no windows
  pub sets_hold : (steps : List StepCells) → AllByRecursion (λ (step : StepCells). AllByRecursion (HasRow P) step.rows) steps → AllByRecursion (λ (step : StepCells). AllByRecursion (HasRow P) step.rows) (map with_sets steps)
  sets_hold [] a = tt
  sets_hold (step ∷ steps) a = (a.0, sets_hold steps a.1)

pub sets_windows : (steps : List StepCells) → AllByRecursion AreWindowCells steps → AllByRecursion AreWindowCells (map with_sets steps)
sets_windows steps a = sets_hold IsWindow steps a

pub windows_each : (steps : List StepCells) → AllByRecursion AreWindowCells steps → AllByRecursion IsWindow (windows_in steps)
windows_each steps a = windows_hold IsWindow steps a

-- ---- those that are alone

abbrev labels_in : WindowRow → Names
labels_in w = w.labels

equal_from_is : (o : Ordering) → is_eq o ≡ true → o ≡ Equal
equal_from_is Less e = absurd (cc)
equal_from_is Equal e = refl
equal_from_is Greater e = absurd (cc)

alone_in : (P : WindowRow → Type 0) (ws : List WindowRow) (w : WindowRow) → alone ws ≡ Some w → AllByRecursion P ws → P w
alone_in P [] w e a = absurd (cc)
alone_in P (first ∷ []) w e a = let same : first ≡ w = cc in subst P same a.0
alone_in P (first ∷ other ∷ ws) w e a = absurd (cc)

-- what holds of all windows holds of those under labels, and these have the labels
all_under : (P : WindowRow → Type 0) (ws : List WindowRow) (names : Names) → AllByRecursion P ws → AllByRecursion P (items_of (keyed_by labels_in ws) names)
all_under P [] names a = tt
all_under P (w ∷ ws) names a = by (is_at (labels_cmp names) w.labels) (all_under P ws names a.1)
  where
    by : (b : Bool) → AllByRecursion P (items_of (keyed_by labels_in ws) names)
        → AllByRecursion P (values_of (cond b ((w.labels, w) ∷ filter (λ item. is_at (labels_cmp names) item.0) (keyed_by labels_in ws)) (filter (λ item. is_at (labels_cmp names) item.0) (keyed_by labels_in ws))))
    by true rest = (a.0, rest)
    by false rest = rest

named_under : (ws : List WindowRow) (names : Names) → AllByRecursion (λ (w : WindowRow). is_at (labels_cmp names) w.labels ≡ true) (items_of (keyed_by labels_in ws) names)
named_under [] names = tt
named_under (w ∷ ws) names = by (is_at (labels_cmp names) w.labels) refl (named_under ws names)
  where
    by : (b : Bool) → is_at (labels_cmp names) w.labels ≡ b → AllByRecursion (λ (w : WindowRow). is_at (labels_cmp names) w.labels ≡ true) (items_of (keyed_by labels_in ws) names)
        → AllByRecursion (λ (w : WindowRow). is_at (labels_cmp names) w.labels ≡ true) (values_of (cond b ((w.labels, w) ∷ filter (λ item. is_at (labels_cmp names) item.0) (keyed_by labels_in ws)) (filter (λ item. is_at (labels_cmp names) item.0) (keyed_by labels_in ws))))
    by true e rest = (e, rest)
    by false e rest = rest

module _ (ws : List WindowRow) where
  abbrev under : Names → Names × List WindowRow
  under names = (names, items_of (keyed_by labels_in ws) names)

  abbrev lone_under : List Names → List WindowRow
  lone_under ks = filter_map (λ (group : Names × List WindowRow). alone group.1) (map under ks)

  has_names : (names : Names) (w : WindowRow) → alone (items_of (keyed_by labels_in ws) names) ≡ Some w → names ≡ w.labels
  has_names names w e = labels_cmp_ties names w.labels (equal_from_is (labels_cmp names w.labels) (alone_in (λ (v : WindowRow). is_at (labels_cmp names) v.labels ≡ true) (items_of (keyed_by labels_in ws) names) w e (named_under ws names)))

  -- the windows under labels and more, by whether one is alone under the first
  lone_split : (k : Names) (ks : List Names) (Q : List WindowRow → Type 0) → Q (lone_under ks) → ((w : WindowRow) → alone (items_of (keyed_by labels_in ws) k) ≡ Some w → Q (w ∷ lone_under ks)) → Q (lone_under (k ∷ ks))
  lone_split k ks Q none some = by (alone (items_of (keyed_by labels_in ws) k)) refl
    where
      by : (o : Option WindowRow) → alone (items_of (keyed_by labels_in ws) k) ≡ o → Q (lone_under (k ∷ ks))
      by None e = rw e none
      by (Some w) e = rw e (some w e)

  lone_hold : (P : WindowRow → Type 0) (ks : List Names) → AllByRecursion P ws → AllByRecursion P (lone_under ks)
  lone_hold P [] a = tt
  lone_hold P (k ∷ ks) a = lone_split k ks (AllByRecursion P) (lone_hold P ks a) (λ w e. (alone_in P (items_of (keyed_by labels_in ws) k) w e (all_under P ws k a), lone_hold P ks a))

  all_lone : (P : Names → Type 0) (ks : List Names) → AllByRecursion P ks → AllByRecursion P (names_of (lone_under ks))
  all_lone P [] a = tt
  all_lone P (k ∷ ks) a = lone_split k ks (λ found. AllByRecursion P (names_of found)) (all_lone P ks a.1) (λ w e. (subst P (has_names k w e) a.0, all_lone P ks a.1))

  sorted_lone : (ks : List Names) → IsStrictlySortedBy labels_cmp ks → IsStrictlySortedBy labels_cmp (names_of (lone_under ks))
  unfolding IsStrictlySortedBy
  sorted_lone [] s = tt
  sorted_lone (k ∷ ks) s =
      lone_split k ks (λ found. IsStrictlySortedBy labels_cmp (names_of found)) (sorted_lone ks s.1)
      (λ w e. (subst (λ names. AllByRecursion (λ z. labels_cmp names z ≡ Less) (names_of (lone_under ks))) (has_names k w e) (all_lone (λ z. labels_cmp k z ≡ Less) ks s.0), sorted_lone ks s.1))

  pub lone_sorted : IsStrictlySortedBy labels_cmp (names_of (lone_by labels_in ws))
  unfolding gathered
  lone_sorted = sorted_lone (names_among (keyed_by labels_in ws)) (names_sorted (keyed_by labels_in ws))

  pub all_alone : (P : WindowRow → Type 0) → AllByRecursion P ws → AllByRecursion P (lone_by labels_in ws)
  unfolding gathered
  all_alone P a = lone_hold P (names_among (keyed_by labels_in ws)) a

  pub lone_windows : AllByRecursion IsWindow ws → AllByRecursion IsWindow (lone_by labels_in ws)
  lone_windows a = all_alone IsWindow a

-- ---- what is put into a buffer

abbrev windows_under : List CellRow → List WindowRow
windows_under cells = filter_map (λ (row : CellRow). window_under row.labels row.cell) cells

pub lone_is : (steps : List StepCells) (cells : List CellRow) (pairs : List (Names × WindowRow)) (lone : List WindowRow)
    → cells ≡ all_cells steps → pairs ≡ keyed_by (λ (w : WindowRow). w.labels) (windows_under cells) → lone ≡ lone_items pairs → lone ≡ lone_by (λ (w : WindowRow). w.labels) (windows_in steps)
lone_is steps cells pairs lone c p l = l ∙ ap lone_items (p ∙ ap (λ (rows : List CellRow). keyed_by (λ (w : WindowRow). w.labels) (windows_under rows)) c)

pub windows_put : (at : Ms) (steps : List StepCells) (cells : List CellRow) (pairs : List (Names × WindowRow)) (lone : List WindowRow) (shared : List Names) (marks more : Marks) (new : WindowsAt)
    → cells ≡ all_cells steps → marks ≡ all_marks steps → pairs ≡ keyed_by (λ (w : WindowRow). w.labels) (windows_under cells) → lone ≡ lone_items pairs → shared ≡ shared_names pairs
    → more ≡ with_fatal marks (map SameLabelset shared) → new ≡ record { at = at; rows = lone; marks = more } → new ≡ joined_windows at steps
windows_put at steps cells pairs lone shared marks more new c m p l s o e =
    let named : pairs ≡ keyed_by (λ (w : WindowRow). w.labels) (windows_in steps) = p ∙ ap (λ (rows : List CellRow). keyed_by (λ (w : WindowRow). w.labels) (windows_under rows)) c in
    let left : lone ≡ lone_by (λ (w : WindowRow). w.labels) (windows_in steps) = lone_is steps cells pairs lone c p l in
    let all : more ≡ with_fatal (all_marks steps) (shared_marks (λ (w : WindowRow). w.labels) (windows_in steps)) =
    o ∙ ap (λ (z : Marks). with_fatal z (map SameLabelset shared)) m ∙ ap (λ (names : List Names). with_fatal (all_marks steps) (map SameLabelset names)) (s ∙ ap shared_names named) in
    e ∙ (λ i. record { at = at; rows = left i; marks = all i })

pub windows_filled : (at : Ms) (begun lent new : WindowsAt) (more : Marks) (rows lone : List WindowRow)
    → begun ≡ record { at = at; rows = []; marks = no_marks } → lent ≡ with_more_marks begun more → rows ≡ lone → new ≡ record { at = lent.at; rows = rows; marks = lent.marks } → new ≡ record { at = at; rows = lone; marks = more }
windows_filled at begun lent new more rows lone b u r e =
    let filled : lent ≡ record { at = at; rows = []; marks = more } = u ∙ ap (λ (w : WindowsAt). with_more_marks w more) b in
    e ∙ (λ i. record { at = (filled i).at; rows = r i; marks = (filled i).marks })

-- ---- one window after another

less_isnt : (q : Names) → labels_cmp q q ≡ Equal → labels_cmp q q ≡ Less → ⊥
less_isnt q a b = absurd (cc)

not_tied : (q x : Names) → labels_cmp q x ≡ Less → labels_eq x q ≡ false
not_tied q x e = by (labels_eq x q) refl
  where
    by : (b : Bool) → labels_eq x q ≡ b → b ≡ false
    by false h = refl
    by true h = let same : x ≡ q = (labels_decide x q (labels_eq x q) refl).0 h in absurd (less_isnt q (tied_itself labels_cmp_total q) (subst (λ z. labels_cmp q z ≡ Less) same e))

none_tied : (x : Names) (ks : List Names) → AllByRecursion (λ q. labels_cmp q x ≡ Less) ks → list_any (labels_eq x) ks ≡ false
none_tied x [] a = refl
none_tied x (k ∷ ks) a = ap (λ b. b || list_any (labels_eq x) ks) (not_tied k x a.0) ∙ none_tied x ks a.1

pub fresh_at : (ws : List WindowRow) (i : ℕ) (w : WindowRow) (rest : List WindowRow) → drop i ws ≡ w ∷ rest → IsStrictlySortedBy labels_cmp (names_of ws) → list_any (labels_eq w.labels) (names_of (take i ws)) ≡ false
fresh_at ws i w rest e s =
    let whole : ws ≡ take i ws ++ w ∷ rest = parted i ws ∙ ap (λ r. take i ws ++ r) e in
    let names : names_of ws ≡ names_of (take i ws) ++ w.labels ∷ names_of rest = ap names_of whole ∙ map-append (λ (v : WindowRow). v.labels) (take i ws) (w ∷ rest) in
    none_tied w.labels (names_of (take i ws)) (all_before labels_cmp_total (names_of (take i ws)) w.labels (names_of rest) (subst (IsStrictlySortedBy labels_cmp) names s))
  where
    parted : (i : ℕ) (ws : List WindowRow) → ws ≡ take i ws ++ drop i ws
    parted zero ws = refl
    parted (suc i) [] = refl
    parted (suc i) (w ∷ ws) = ap (λ r. w ∷ r) (parted i ws)
