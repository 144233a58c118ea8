-- absent_over_time as absent over last_over_time: which windows are there is told by their last samples.
use Rattle.std.proofs.Common.{◌≡◌, ◌≢◌, ◌∙◌, List, [], ◌∷◌, map, ap, sym, refl, subst, Some, None, Bool}
use Rattle.std.specs.Prelude.{ℤ, Option, Ok, filter}
use Rattle.std.specs.List.{AllByRecursion, filter_map}
use Rattle.std.specs.List.Sorted.{IsStrictlySortedBy}
use Rattle.std.specs.Map.{keys_of}
use Rattle.std.specs.declared.cmp.Ordering.TheVariants.{Less}
use Rattle.func_table.specs.declared.table.Window.TheVariants.{LastOver}
use Rattle.label_set.specs.Entries.{keys_filter}
use Rattle.std.proofs.lemmas.List.Kept.{IsStrictlySortedBy-filter}
use Rattle.label_set.specs.Labels.{labels_cmp}
use Rattle.label_set.specs.LabelOrder.{by_labels, by_labels_sorted}
use Rattle.label_set.specs.declared.rules.Rule.{Rule}
use Rattle.match_rule.specs.Patterns.{labels_pass}
use Rattle.ticks.specs.declared.moment.Ms.{Ms}
use Rattle.window_fn.specs.Points.{last_of}
use Rattle.xfrac.specs.declared.value.XFrac.{XFrac}
use Rattle.step_table.specs.Gathering.{labels_of, names_sorted, nothing_more, settled_table}
use Rattle.step_table.specs.Groups.{Names, gathered, items_of, names_among}
use Rattle.step_table.specs.Outcomes.{mark_of, row_of, settled}
use Rattle.step_table.specs.Unions.{with_fatal}
use Rattle.step_table.specs.declared.marks.Marks.{Marks}
use Rattle.step_table.specs.declared.outcomes.Outcome.{Outcome}
use Rattle.step_table.specs.declared.step.Row.{Row}
use Rattle.step_table.specs.Sets.{step_of_rows}
use Rattle.promql_meaning.specs.Meaning.{over_windows, zero_number}
use Rattle.promql_meaning.specs.Outcomes.{with_notes}
use Rattle.promql_meaning.specs.Ranges.{counter_note, window_outcome, windowed}
use Rattle.promql_meaning.specs.Selecting.{AllSeries, Asked, Samples, passing, sample_times, sample_values, series_window, window, window_row, window_rows}
use Rattle.promql_meaning.specs.Subqueries.{gathered_windows, group_window}
use Rattle.promql_meaning.specs.declared.given.Given.{Given}
use Rattle.promql_meaning.specs.declared.given.Given.TheVariants as given
use Rattle.step_table.specs.declared.windows.WindowRow.{WindowRow}
use Rattle.promql_meaning.specs.declared.given.Windows.{Windows}
use Rattle.promql_meaning.specs.Absences.{absence_under}
use Rattle.logical_plan.specs.PlanRules.{absent_under}

-- ---- windows under distinct labels, none of no samples

abbrev pub names_of : List WindowRow → List Names
names_of rows = map (λ (row : WindowRow). row.labels) rows

abbrev pub AreWindows : List WindowRow → Type 0
AreWindows rows = IsStrictlySortedBy labels_cmp (names_of rows) × AllByRecursion (λ (row : WindowRow). row.values ≢ []) rows

abbrev pub IsWindowed : Given → Type 0
IsWindowed (given.Windows w) = AreWindows w.rows
IsWindowed (given.Words text) = Unit {0}
IsWindowed g = ⊥

-- ---- their last samples

last_row : WindowRow → Row
last_row row = record { labels = row.labels; value = last_of row.values }

no_notes : (t : ℤ) (arg : XFrac) (w : Windows) (rows : List WindowRow) → filter_map (counter_note LastOver t arg w) rows ≡ []
no_notes t arg w [] = refl
no_notes t arg w (row ∷ rows) = no_notes t arg w rows

last_outcome : (t : ℤ) (arg : XFrac) (w : Windows) (row : WindowRow) → row.values ≢ [] → window_outcome LastOver t arg w row ≡ record { labels = row.labels; value = Ok (Some (last_of row.values)) }
last_outcome t arg w row some = by row.values refl
  where
    by : (values : List XFrac) → row.values ≡ values → window_outcome LastOver t arg w row ≡ record { labels = row.labels; value = Ok (Some (last_of row.values)) }
    by [] is = absurd (some is)
    by (value ∷ values) is = rw is refl

last_rows : (t : ℤ) (arg : XFrac) (w : Windows) (rows : List WindowRow) → AllByRecursion (λ (row : WindowRow). row.values ≢ []) rows → filter_map row_of (map (window_outcome LastOver t arg w) rows) ≡ map last_row rows
unfolding last_row
last_rows t arg w [] a = refl
last_rows t arg w (row ∷ rows) a = ap (λ (o : Outcome). filter_map row_of (o ∷ map (window_outcome LastOver t arg w) rows)) (last_outcome t arg w row a.0) ∙ ap (λ more. record { labels = row.labels; value = last_of row.values } ∷ more) (last_rows t arg w rows a.1)

last_marks : (t : ℤ) (arg : XFrac) (w : Windows) (rows : List WindowRow) → AllByRecursion (λ (row : WindowRow). row.values ≢ []) rows → filter_map mark_of (map (window_outcome LastOver t arg w) rows) ≡ []
last_marks t arg w [] a = refl
last_marks t arg w (row ∷ rows) a = ap (λ (o : Outcome). filter_map mark_of (o ∷ map (window_outcome LastOver t arg w) rows)) (last_outcome t arg w row a.0) ∙ last_marks t arg w rows a.1

last_names : (rows : List WindowRow) → labels_of (map last_row rows) ≡ names_of rows
unfolding last_row
last_names [] = refl
last_names (row ∷ rows) = ap (λ more. row.labels ∷ more) (last_names rows)

last_step : (t : ℤ) (w : Windows) → AreWindows w.rows → windowed LastOver t zero_number w ≡ step_of_rows (map last_row w.rows) w.marks
last_step t w a =
    ap settled (λ i. step_of_rows (last_rows t zero_number w w.rows a.1 i)
    ((ap (λ notes. with_fatal (with_notes w.marks notes) (filter_map mark_of (map (window_outcome LastOver t zero_number w) w.rows))) (no_notes t zero_number w w.rows)
    ∙ ap (with_fatal (with_notes w.marks [])) (last_marks t zero_number w w.rows a.1) ∙ nothing_more (with_notes w.marks []) ∙ nothing_more w.marks) i))
    ∙ settled_table (step_of_rows (map last_row w.rows) w.marks) (subst (IsStrictlySortedBy labels_cmp) (sym (last_names w.rows)) a.0)

same_absence : (labels : Option Names) (marks : Marks) (rows : List WindowRow) → absence_under labels (map last_row rows) marks ≡ absence_under labels rows marks
same_absence labels marks [] = refl
same_absence labels marks (row ∷ rows) = refl

pub last_absent : (labels : Option Names) (t : ℤ) (g : Given) → IsWindowed g → absent_under labels (given.Vector (over_windows LastOver t g)) ≡ absent_under labels g
last_absent labels t (given.Windows w) a = ap (λ step. absence_under labels step.table.rows step.marks) (last_step t w a) ∙ same_absence labels w.marks w.rows
last_absent labels t (given.Words text) a = refl
last_absent labels t (given.Scalar step) a = absurd a
last_absent labels t (given.Vector step) a = absurd a
last_absent labels t (given.Selected s) a = absurd a

-- ---- range selectors and subqueries

module _ {A : Type 0} (names : A → Names) (row_for : A → Option WindowRow)
    (named : (a : A) (row : WindowRow) → row_for a ≡ Some row → row.labels ≡ names a)
    (some : (a : A) (row : WindowRow) → row_for a ≡ Some row → row.values ≢ []) where
  names_kept : (P : Names → Type 0) (xs : List A) → AllByRecursion P (map names xs) → AllByRecursion P (names_of (filter_map row_for xs))
  names_kept P [] a = tt
  names_kept P (x ∷ xs) a = by (row_for x) refl (names_kept P xs a.1)
    where
      by : (o : Option WindowRow) → row_for x ≡ o → AllByRecursion P (names_of (filter_map row_for xs)) → AllByRecursion P (names_of (filter_map row_for (x ∷ xs)))
      by None is rest = rw is rest
      by (Some row) is rest = rw is (subst P (sym (named x row is)) a.0, rest)

  are_windows : (xs : List A) → IsStrictlySortedBy labels_cmp (map names xs) → AreWindows (filter_map row_for xs)
  unfolding IsStrictlySortedBy
  are_windows [] s = (tt, tt)
  are_windows (x ∷ xs) s = by (row_for x) refl (are_windows xs s.1)
    where
      by : (o : Option WindowRow) → row_for x ≡ o → AreWindows (filter_map row_for xs) → AreWindows (filter_map row_for (x ∷ xs))
      by None is rest = rw is rest
      by (Some row) is rest =
          rw is ((subst (λ n. AllByRecursion (λ k. labels_cmp n k ≡ Less) (names_of (filter_map row_for xs))) (sym (named x row is)) (names_kept (λ k. labels_cmp (names x) k ≡ Less) xs s.0), rest.0), (some x row is, rest.1))

window_named : (names : Names) (samples : List (Ms × XFrac)) (row : WindowRow) → window_row names samples ≡ Some row → (row.labels ≡ names) × (row.values ≢ [])
window_named names [] row is = absurd (cc)
window_named names (s ∷ samples) row is =
    let e : record { labels = names; times = sample_times (s ∷ samples); values = sample_values (s ∷ samples) } ≡ row = cc in
    (sym (ap (λ (r : WindowRow). r.labels) e), λ none. let f : s.1 ∷ sample_values samples ≡ [] = ap (λ (r : WindowRow). r.values) e ∙ none in absurd (cc))

filtered_sorted : (q : Names → Bool) (ss : AllSeries) → IsStrictlySortedBy labels_cmp (keys_of ss) → IsStrictlySortedBy labels_cmp (keys_of (filter (λ (s : Names × Samples). q s.0) ss))
filtered_sorted q ss s = subst (IsStrictlySortedBy labels_cmp) (sym (keys_filter q ss)) (IsStrictlySortedBy-filter labels_cmp q (keys_of ss) s)

pub range_windows : (asked : Asked) (rules : List Rule) (closed : Bool) (m range : ℤ) → AreWindows (window_rows closed m range (passing asked.samples asked.kept rules))
range_windows asked rules closed m range =
    are_windows (λ (s : Names × Samples). s.0) (series_window closed m range)
    (λ s row is. (window_named s.0 (window closed m range s.1) row is).0) (λ s row is. (window_named s.0 (window closed m range s.1) row is).1)
    (passing asked.samples asked.kept rules)
    (filtered_sorted (λ (names : Names). labels_pass asked.kept rules names) (by_labels asked.samples) (by_labels_sorted asked.samples))

pub gathered_are : (rows : List (Names × (Ms × XFrac))) → AreWindows (gathered_windows rows)
unfolding gathered
gathered_are rows =
    are_windows (λ (g : Names × List (Ms × XFrac)). g.0) group_window (λ g row is. (window_named g.0 g.1 row is).0) (λ g row is. (window_named g.0 g.1 row is).1)
    (gathered rows) (subst (IsStrictlySortedBy labels_cmp) (sym (keys_gathered rows)) (names_sorted rows))
  where
    keys_under : (all : List (Names × (Ms × XFrac))) (ks : List Names) → map (λ (g : Names × List (Ms × XFrac)). g.0) (map (λ n. (n, items_of all n)) ks) ≡ ks
    keys_under all [] = refl
    keys_under all (k ∷ ks) = ap (λ more. k ∷ more) (keys_under all ks)

    keys_gathered : (all : List (Names × (Ms × XFrac))) → map (λ (g : Names × List (Ms × XFrac)). g.0) (gathered all) ≡ names_among all
    keys_gathered all = keys_under all (names_among all)
