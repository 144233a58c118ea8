-- What is owed at the instants of an ask is no stray.
use Rattle.std.proofs.Common.{◌≡◌, ◌∙◌, ℕ, zero, suc, ◌+◌, ◌≤◌, true, false, List, [], ◌∷◌, ◌++◌, length, map, take, refl, sym, ap, subst, Some, None, Ok, Err, arith}
use Rattle.std.specs.Prelude.{ℤ, Bool, Result, IfOk, OnOk, if◌then◌else◌}
use Rattle.std.specs.List.{AllByRecursion, list_all}
use Rattle.std.specs.List.Sorted.{IsStrictlySortedBy}
use Rattle.std.specs.Ordering.{int_eq}
use Rattle.std.proofs.lemmas.Bool.Decides.{Decides-int_eq}
use Rattle.label_set.specs.Labels.{labels_cmp}
use Rattle.promql_ast.specs.Folds.{fold-Range}
use Rattle.promql_meaning.specs.Givens.{no_marks}
use Rattle.promql_meaning.specs.Laws.{MeaningIsWellFormed}
use Rattle.promql_meaning.specs.Meaning.{meaning, node_meaning}
use Rattle.promql_meaning.specs.Selecting.{AllSeries, Asked, Samples, asked_over, moment_of, passing, window_rows}
use Rattle.promql_meaning.specs.WalkMoments.{IsMomentOf, WalkMomentIsMoment}
use Rattle.promql_meaning.specs.declared.given.Given.{Given}
use Rattle.promql_type.specs.Replacements.{Kept}
use Rattle.sample_store.specs.Samples.{IsRising}
use Rattle.step_cells.specs.Owed.{cells, row_cells, step_at, value_cell, window_cells, windows_at}
use Rattle.step_table.specs.Groups.{Names}
use Rattle.step_table.specs.Timed.{StepAt}
use Rattle.step_table.specs.WellFormed.{IsTable}
use Rattle.step_table.specs.declared.cells.Cell.TheVariants as cell
use Rattle.step_table.specs.declared.cells.CellRow.{CellRow}
use Rattle.step_table.specs.declared.cells.PartKind.{PartKind}
use Rattle.step_table.specs.declared.cells.PartKind.TheVariants as part_kind
use Rattle.step_table.specs.declared.cells.StepCells.{StepCells}
use Rattle.step_table.specs.declared.step.Row.{Row}
use Rattle.ticks.specs.Walks.{moment_at}
use Rattle.ticks.specs.declared.moment.Ms.{Ms}
use Rattle.remote_api.specs.Seen.{owed}
use Rattle.remote_api.specs.Strays.{is_cell_of, is_well, or_wrong_cell, out_of_step, stray_of, wrong_cell}
use Rattle.remote_api.specs.declared.asks.Ask.{Ask}
use Rattle.remote_api.specs.declared.asks.Part.{Part}
use Rattle.remote_api.specs.declared.frame.Stray.TheVariants.{OutOfStep, WrongCell}
use Rattle.engine_local.specs.Local.{HasFewRows, IsAllowed}
use Rattle.engine_local.specs.declared.own.OwnAsk.{OwnAsk}
use Rattle.engine_local.proofs.Apart.{apart, labels_in}
use Rattle.engine_local.proofs.Grouped.{both_true, groups_well}
use Rattle.engine_local.proofs.Windowed.{passing_rise, passing_sorted, windows_well}

-- ---- rows

same_labels : (rows : List Row) → labels_in (map value_cell rows) ≡ map (λ (row : Row). row.labels) rows
same_labels [] = refl
same_labels (row ∷ rows) = ap (λ (ks : List Names). row.labels ∷ ks) (same_labels rows)

values_fit : (ask : Ask) (at : Ms) (rows : List Row) → list_all (λ (row : CellRow). is_cell_of part_kind.Rows ask at row.cell) (map value_cell rows) ≡ true
values_fit ask at [] = refl
values_fit ask at (row ∷ rows) = values_fit ask at rows

rows_well : (ask : Ask) (s : StepAt) → ask.kind ≡ part_kind.Rows → IsTable s.step.table.rows → is_well ask (row_cells s) ≡ true
rows_well ask s kind table =
    let rows = map value_cell s.step.table.rows in
    both_true _ _ (ap (λ (k : PartKind). list_all (λ (row : CellRow). is_cell_of k ask s.at row.cell) rows) kind ∙ values_fit ask s.at s.step.table.rows)
    (apart rows (subst (IsStrictlySortedBy labels_cmp) (sym (same_labels s.step.table.rows)) table))

-- ---- one step more

pub more_well : (ask : Ask) (steps : List StepCells) (step : StepCells) → wrong_cell ask steps ≡ None → is_well ask step ≡ true → wrong_cell ask (steps ++ step ∷ []) ≡ None
more_well ask [] step none well = ap (λ (b : Bool). if b then None else Some (WrongCell step.at)) well
more_well ask (s ∷ steps) step none well = by (is_well ask s) none (λ rest. more_well ask steps step rest well)
  where
    by : (b : Bool) → (if b then wrong_cell ask steps else Some (WrongCell s.at)) ≡ None → (wrong_cell ask steps ≡ None → wrong_cell ask (steps ++ step ∷ []) ≡ None)
        → (if b then wrong_cell ask (steps ++ step ∷ []) else Some (WrongCell s.at)) ≡ None
    by true h more = more h
    by false h more = absurd (cc)

-- ---- the cells of an instant

module _ (laws : MeaningIsWellFormed) (moments : WalkMomentIsMoment) (samples : AllSeries) (rise : AllByRecursion (λ (s : Names × Samples). IsRising s.1) samples)
    (kept : Kept) (one : OwnAsk) (allowed : IsAllowed one) (t : Ms) where
  abbrev asked : Asked
  asked = asked_over samples kept one.span

  abbrev value : Given
  value = meaning asked one.part.expr t.0

  windows : one.part.kind ≡ part_kind.Windows → is_well one.ask (window_cells (windows_at t value)) ≡ true
  windows kind =
      let w = allowed.window kind in
      let is = fold-Range (node_meaning asked) (λ e. e.node) one.part.expr w.selector one.ask.range w.selects in
      let closed = w.closed in
      let moment : IsMomentOf asked w.selector.moment one.ask.moment = record { fixed = w.moment.fixed; offset = w.moment.offset } in
      let at : moment_at one.ask.moment t.0 ≡ moment_of asked w.selector.moment t.0 = moments asked w.selector.moment one.ask.moment t.0 moment in
      let series = passing asked.samples asked.kept w.selector.rules in
      subst (λ (g : ℤ → Given). is_well one.ask (window_cells (windows_at t (g t.0))) ≡ true) (sym is)
      (subst (λ (c : Bool). is_well one.ask (window_cells (record { at = t; rows = window_rows c (moment_of asked w.selector.moment t.0) one.ask.range.0 series; marks = no_marks })) ≡ true) closed
      (subst (λ (m : ℤ). is_well one.ask (window_cells (record { at = t; rows = window_rows one.ask.moment.closed m one.ask.range.0 series; marks = no_marks })) ≡ true) at
      (windows_well one.ask t series (allowed.kind ∙ kind) (passing_rise asked w.selector rise) (passing_sorted asked w.selector))))

  of_kind : (kind : PartKind) → one.part.kind ≡ kind → HasFewRows kind value → is_well one.ask (cells kind t value) ≡ true
  of_kind part_kind.Rows e few = rows_well one.ask (step_at t value) (allowed.kind ∙ e) (laws asked one.part.expr t.0).rows
  of_kind part_kind.Windows e few = windows e
  of_kind (part_kind.Partial f by) e few = groups_well one.ask f by (step_at t value) (allowed.kind ∙ e) few

  cells_well : HasFewRows one.part.kind value → is_well one.ask (cells one.part.kind t value) ≡ true
  cells_well few = of_kind one.part.kind refl few

  pub made_well : {E : Type 0} (g : Given) (result : Result StepCells E) → g ≡ value → IfOk result (λ step. step ≡ cells one.part.kind t g) → OnOk result (HasFewRows one.part.kind g)
      → IfOk result (λ step. is_well one.ask step ≡ true)
  made_well g (Ok step) same made few = ap (is_well one.ask) (made ∙ ap (cells one.part.kind t) same) ∙ cells_well (subst (HasFewRows one.part.kind) same few)
  made_well g (Err e) same made few = tt

-- ---- the steps of an ask

is_itself : (a : ℤ) → int_eq a a ≡ true
is_itself a = (Decides-int_eq a a).1 refl

-- the cells of an instant stand at it
stand_at : (kind : PartKind) (t : Ms) (g : Given) → (cells kind t g).at ≡ t
stand_at part_kind.Rows t g = refl
stand_at part_kind.Windows t g = of_windows g
  where
    of_windows : (g : Given) → (window_cells (windows_at t g)).at ≡ t
    of_windows (Given.Scalar step) = refl
    of_windows (Given.Vector step) = refl
    of_windows (Given.Selected selection) = refl
    of_windows (Given.Windows windows) = refl
    of_windows (Given.Words text) = refl
stand_at (part_kind.Partial f by) t g = refl

-- what is owed is owed at the instants that are to come
in_step : (query : Asked) (part : Part) (n : ℕ) (times : List Ms) → out_of_step times (take n (owed query part times)) ≡ None
in_step query part zero times = refl
in_step query part (suc n) [] = refl
in_step query part (suc n) (t ∷ times) =
    let step = cells part.kind t (meaning query part.expr t.0) in
    let here : int_eq t.0 step.at.0 ≡ true = ap (λ (u : Ms). int_eq t.0 u.0) (stand_at part.kind t (meaning query part.expr t.0)) ∙ is_itself t.0 in
    ap (λ (b : Bool). if b then out_of_step times (take n (owed query part times)) else Some (OutOfStep (Some t) (Some step.at))) here ∙ in_step query part n times

straight : (ask : Ask) (times : List Ms) (steps : List StepCells) → 1 ≤ length steps → out_of_step times steps ≡ None → wrong_cell ask steps ≡ None → stray_of ask times steps ≡ None
straight ask times [] some follows well = absurd (omega (arith, some))
straight ask times (step ∷ steps) some follows well = ap (or_wrong_cell ask (step ∷ steps)) follows ∙ well

pub no_stray : (query : Asked) (part : Part) (ask : Ask) (times : List Ms) (steps : List StepCells) → steps ≡ take (length steps) (owed query part times) → 1 ≤ length steps → wrong_cell ask steps ≡ None
    → stray_of ask times steps ≡ None
no_stray query part ask times steps front some well =
    straight ask times steps some (ap (out_of_step times) front ∙ in_step query part (length steps) times) well
