-- The windows of a range selector are windows as they are asked for, under labels of their own.
use Rattle.std.proofs.Common.{◌≡◌, ◌∙◌, true, false, cond, List, [], ◌∷◌, length, map, refl, sym, ap, subst, Some, None, arith, not}
use Rattle.std.specs.Prelude.{ℤ, Bool, Option, IfSome, ◌==◌, ◌-ℤ◌, filter, int_lt}
use Rattle.std.specs.List.{AllByRecursion, cons_option, filter_map, list_all}
use Rattle.std.specs.List.Sorted.{IsStrictlySortedBy}
use Rattle.std.specs.Map.{keys_of}
use Rattle.std.specs.Option.{option_map}
use Rattle.std.specs.declared.cmp.Ordering.TheVariants.{Less}
use Rattle.std.proofs.lemmas.Bool.Decides.{nat_tests}
use Rattle.std.proofs.lemmas.List.Kept.{IsStrictlySortedBy-filter}
use Rattle.label_set.specs.Entries.{all_insert, keys_filter, recursion_filter}
use Rattle.label_set.specs.LabelOrder.{by_labels, by_labels_sorted}
use Rattle.label_set.specs.Labels.{labels_cmp}
use Rattle.match_rule.specs.Patterns.{labels_pass}
use Rattle.promql_ast.specs.declared.tree.Selector.{Selector}
use Rattle.promql_meaning.specs.Givens.{no_marks}
use Rattle.promql_meaning.specs.Selecting.{AllSeries, Asked, Samples, fresh, fresh_sample, passing, sample_times, sample_values, series_window, window, window_row, window_rows}
use Rattle.sample_store.specs.Samples.{IsRising, time_cmp}
use Rattle.step_cells.specs.Owed.{window_cell, window_cells}
use Rattle.step_table.specs.Groups.{Names}
use Rattle.step_table.specs.declared.cells.CellRow.{CellRow}
use Rattle.step_table.specs.declared.cells.PartKind.{PartKind}
use Rattle.step_table.specs.declared.cells.PartKind.TheVariants as part_kind
use Rattle.step_table.specs.declared.windows.WindowRow.{WindowRow}
use Rattle.ticks.specs.Walks.{moment_at}
use Rattle.ticks.specs.declared.moment.Ms.{Ms}
use Rattle.ticks.specs.declared.walk.WalkMoment.{WalkMoment}
use Rattle.xfrac.specs.declared.value.Held.{Held}
use Rattle.xfrac.specs.declared.value.XFrac.{XFrac}
use Rattle.remote_api.specs.Strays.{do_rise, is_cell_of, is_distinct, is_empty, is_in_window, is_well, is_window, rise_from}
use Rattle.remote_api.specs.declared.asks.Ask.{Ask}
use Rattle.engine_local.proofs.Apart.{apart, labels_in, stay_in_order}
use Rattle.engine_local.proofs.Grouped.{both_true}

-- ---- the times of the fresh samples that pass a test

module _ (test : Ms → Bool) where
  abbrev kept : Samples → List (Ms × XFrac)
  kept samples = filter_map fresh_sample (filter (λ (s : Ms × Held). test s.0) samples)

  -- one sample more in front
  abbrev more : Bool → Option XFrac → Ms → List (Ms × XFrac) → List (Ms × XFrac)
  more passes value t rest = cond passes (cons_option (option_map (λ (v : XFrac). (t, v)) value) rest) rest

  kept_more : (s : Ms × Held) (samples : Samples) → kept (s ∷ samples) ≡ more (test s.0) (fresh s.1) s.0 (kept samples)
  kept_more s samples =
      elim (test s.0) as (λ b. filter_map fresh_sample (cond b (s ∷ filter (λ (s : Ms × Held). test s.0) samples) (filter (λ (s : Ms × Held). test s.0) samples)) ≡ more b (fresh s.1) s.0 (kept samples)) [
        | true ↦ refl
        | false ↦ refl
      ]

  -- what holds of the times of all samples holds of these
  stay : (P : Ms → Type 0) (samples : Samples) → AllByRecursion P (keys_of samples) → AllByRecursion P (sample_times (kept samples))
  stay P [] a = tt
  stay P (s ∷ samples) a = subst (λ ws. AllByRecursion P (sample_times ws)) (sym (kept_more s samples)) (by (test s.0) (fresh s.1) (stay P samples a.1))
    where
      by : (b : Bool) (v : Option XFrac) → AllByRecursion P (sample_times (kept samples)) → AllByRecursion P (sample_times (more b v s.0 (kept samples)))
      by true (Some v) rest = (a.0, rest)
      by true None rest = rest
      by false v rest = rest

  stay_rising : (samples : Samples) → IsRising samples → IsStrictlySortedBy time_cmp (sample_times (kept samples))
  unfolding IsStrictlySortedBy
  stay_rising [] r = tt
  stay_rising (s ∷ samples) r = subst (λ ws. IsStrictlySortedBy time_cmp (sample_times ws)) (sym (kept_more s samples)) (by (test s.0) (fresh s.1) (stay_rising samples r.1))
    where
      by : (b : Bool) (v : Option XFrac) → IsStrictlySortedBy time_cmp (sample_times (kept samples)) → IsStrictlySortedBy time_cmp (sample_times (more b v s.0 (kept samples)))
      by true (Some v) rest = (stay (λ u. time_cmp s.0 u ≡ Less) samples r.0, rest)
      by true None rest = rest
      by false v rest = rest

  pass : (samples : Samples) → list_all test (sample_times (kept samples)) ≡ true
  pass [] = refl
  pass (s ∷ samples) = ap (λ ws. list_all test (sample_times ws)) (kept_more s samples) ∙ by (test s.0) (fresh s.1) refl (pass samples)
    where
      by : (b : Bool) (v : Option XFrac) → test s.0 ≡ b → list_all test (sample_times (kept samples)) ≡ true → list_all test (sample_times (more b v s.0 (kept samples))) ≡ true
      by true (Some v) e rest = both_true (test s.0) _ e rest
      by true None e rest = rest
      by false v e rest = rest

earlier : (t u : Ms) → time_cmp t u ≡ Less → int_lt t.0 u.0 ≡ true
earlier t u h = grind arith

rise_behind : (t : Ms) (times : List Ms) → IsStrictlySortedBy time_cmp (t ∷ times) → rise_from t times ≡ true
unfolding IsStrictlySortedBy
rise_behind t [] s = refl
rise_behind t (u ∷ times) s = both_true (int_lt t.0 u.0) (rise_from u times) (earlier t u s.0.0) (rise_behind u times s.1)

rising : (times : List Ms) → IsStrictlySortedBy time_cmp times → do_rise times ≡ true
rising [] s = refl
rising (t ∷ times) s = rise_behind t times s

-- ---- one window

module _ (moment : WalkMoment) (range at : Ms) where
  abbrev m : ℤ
  m = moment_at moment at.0

  abbrev in_window : Ms → Bool
  in_window = is_in_window moment.closed (m -ℤ range.0) m

  abbrev IsFit : List Ms → List XFrac → Type 0
  IsFit times values = is_window moment range at times values ≡ true

  columns : (ws : List (Ms × XFrac)) → (length (sample_times ws) == length (sample_values ws)) ≡ true
  columns ws = let e = same ws in grind (arith, nat_tests, e)
    where
      same : (ws : List (Ms × XFrac)) → length (sample_times ws) ≡ length (sample_values ws)
      same [] = refl
      same (w ∷ ws) = let h = same ws in omega (arith, h)

  fits : (names : Names) (ws : List (Ms × XFrac)) → IsStrictlySortedBy time_cmp (sample_times ws) → list_all in_window (sample_times ws) ≡ true
      → IfSome (window_row names ws) (λ (row : WindowRow). (IsFit row.times row.values) × (row.labels ≡ names))
  fits names [] rise inside = tt
  fits names (w ∷ ws) rise inside =
      let times = sample_times (w ∷ ws) in (
        both_true (length times == length (sample_values (w ∷ ws))) _ (columns (w ∷ ws))
            (both_true (not (is_empty times)) _ refl (both_true (do_rise times) _ (rising times rise) inside)),
        refl,
      )

  series_fits : (s : Names × Samples) → IsRising s.1 → IfSome (series_window moment.closed m range.0 s) (λ (row : WindowRow). (IsFit row.times row.values) × (row.labels ≡ s.0))
  series_fits s rise = fits s.0 (window moment.closed m range.0 s.1) (stay_rising in_window s.1 rise) (pass in_window s.1)

  abbrev AreRising : AllSeries → Type 0
  AreRising series = AllByRecursion (λ (s : Names × Samples). IsRising s.1) series

  abbrev rows_of : AllSeries → List WindowRow
  rows_of series = window_rows moment.closed m range.0 series

  all_fit : (series : AllSeries) → AreRising series → AllByRecursion (λ (row : WindowRow). IsFit row.times row.values) (rows_of series)
  all_fit [] a = tt
  all_fit (s ∷ series) a = by (series_window moment.closed m range.0 s) (series_fits s a.0) (all_fit series a.1)
    where
      by : (o : Option WindowRow) → IfSome o (λ (row : WindowRow). (IsFit row.times row.values) × (row.labels ≡ s.0)) → AllByRecursion (λ (row : WindowRow). IsFit row.times row.values) (rows_of series)
          → AllByRecursion (λ (row : WindowRow). IsFit row.times row.values) (cons_option o (rows_of series))
      by None h rest = rest
      by (Some row) h rest = (h.0, rest)

  named_alike : (s : Names × Samples) → IfSome (series_window moment.closed m range.0 s) (λ (row : WindowRow). row.labels ≡ s.0)
  named_alike s = by (window moment.closed m range.0 s.1)
    where
      by : (ws : List (Ms × XFrac)) → IfSome (window_row s.0 ws) (λ (row : WindowRow). row.labels ≡ s.0)
      by [] = tt
      by (w ∷ ws) = refl

  pub in_order : (series : AllSeries) → IsStrictlySortedBy labels_cmp (keys_of series) → IsStrictlySortedBy labels_cmp (map (λ (row : WindowRow). row.labels) (rows_of series))
  in_order series s = stay_in_order (series_window moment.closed m range.0) (λ (row : WindowRow). row.labels) named_alike series s

-- ---- all windows of a selector

same_labels : (rows : List WindowRow) → labels_in (map window_cell rows) ≡ map (λ (row : WindowRow). row.labels) rows
same_labels [] = refl
same_labels (row ∷ rows) = ap (λ (ks : List Names). row.labels ∷ ks) (same_labels rows)

all_cells : (ask : Ask) (at : Ms) (rows : List WindowRow) → AllByRecursion (λ (row : WindowRow). is_window ask.moment ask.range at row.times row.values ≡ true) rows
    → list_all (λ (row : CellRow). is_cell_of part_kind.Windows ask at row.cell) (map window_cell rows) ≡ true
all_cells ask at [] a = refl
all_cells ask at (row ∷ rows) a = both_true (is_window ask.moment ask.range at row.times row.values) _ a.0 (all_cells ask at rows a.1)

sorted_rise : (all : AllSeries) → AllByRecursion (λ (s : Names × Samples). IsRising s.1) all → AllByRecursion (λ (s : Names × Samples). IsRising s.1) (by_labels all)
sorted_rise [] a = tt
sorted_rise (s ∷ all) a = all_insert labels_cmp (λ (s : Names × Samples). IsRising s.1) s.0 s.1 (by_labels all) a.0 (λ e h. a.0) (sorted_rise all a.1)

pub windows_well : (ask : Ask) (at : Ms) (series : AllSeries) → ask.kind ≡ part_kind.Windows → AllByRecursion (λ (s : Names × Samples). IsRising s.1) series → IsStrictlySortedBy labels_cmp (keys_of series)
    → is_well ask (window_cells (record { at = at; rows = window_rows ask.moment.closed (moment_at ask.moment at.0) ask.range.0 series; marks = no_marks })) ≡ true
windows_well ask at series kind rise sorted =
    let rows = window_rows ask.moment.closed (moment_at ask.moment at.0) ask.range.0 series in
    both_true _ (is_distinct (map window_cell rows))
    (ap (λ (k : PartKind). list_all (λ (row : CellRow). is_cell_of k ask at row.cell) (map window_cell rows)) kind ∙ all_cells ask at rows (all_fit ask.moment ask.range at series rise))
    (apart (map window_cell rows) (subst (IsStrictlySortedBy labels_cmp) (sym (same_labels rows)) (in_order ask.moment ask.range at series sorted)))

-- the series that pass are in the order of their labels, and their samples rise
pub passing_rise : (asked : Asked) (selector : Selector) → AllByRecursion (λ (s : Names × Samples). IsRising s.1) asked.samples
    → AllByRecursion (λ (s : Names × Samples). IsRising s.1) (passing asked.samples asked.kept selector.rules)
passing_rise asked selector a =
    recursion_filter (λ (s : Names × Samples). IsRising s.1) (λ (s : Names × Samples). labels_pass asked.kept selector.rules s.0) (by_labels asked.samples) (sorted_rise asked.samples a)

pub passing_sorted : (asked : Asked) (selector : Selector) → IsStrictlySortedBy labels_cmp (keys_of (passing asked.samples asked.kept selector.rules))
passing_sorted asked selector =
    subst (IsStrictlySortedBy labels_cmp) (sym (keys_filter (labels_pass asked.kept selector.rules) (by_labels asked.samples)))
    (IsStrictlySortedBy-filter labels_cmp (labels_pass asked.kept selector.rules) (keys_of (by_labels asked.samples)) (by_labels_sorted asked.samples))
