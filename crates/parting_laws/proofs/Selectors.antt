-- Selectors over a part of the samples, and over all parts.
use Rattle.std.proofs.Common.{◌≡◌, ◌∙◌, Bool, List, [], ◌∷◌, map, refl, sym, ap, subst, Some, None}
use Rattle.std.specs.Prelude.{Option, filter, ℤ}
use Rattle.std.specs.List.{AllByRecursion, filter_map}
use Rattle.std.specs.List.Sorted.{IsStrictlySortedBy}
use Rattle.std.specs.Map.{keys_of}
use Rattle.std.specs.Option.{option_map}
use Rattle.std.proofs.lemmas.List.Kept.{IsStrictlySortedBy-filter}
use Rattle.func_table.specs.declared.table.Func.TheVariants as func
use Rattle.label_set.specs.Entries.{all_insert, keys_filter, recursion_filter}
use Rattle.label_set.specs.LabelOrder.{by_labels, by_labels_sorted}
use Rattle.label_set.specs.Labels.{labels_cmp}
use Rattle.match_rule.specs.Patterns.{labels_pass}
use Rattle.promql_ast.specs.Folds.{fold-Call, fold-Range, fold-Select}
use Rattle.promql_ast.specs.declared.tree.Expr.{Expr}
use Rattle.promql_ast.specs.declared.tree.Node.TheVariants as node
use Rattle.promql_ast.specs.declared.tree.Selector.{Selector}
use Rattle.xfrac.specs.declared.value.XFrac.{XFrac}
use Rattle.step_table.specs.Gathering.{settled_table}
use Rattle.step_table.specs.Groups.{Names}
use Rattle.step_table.specs.Laws.{SettledIsWellFormed, TakenHasSets, UnionHasMarks, UnionIsSet}
use Rattle.step_table.specs.WellFormed.{AreSets}
use Rattle.step_table.specs.declared.cells.PartKind.TheVariants as part
use Rattle.step_table.specs.declared.step.Row.{Row}
use Rattle.step_table.specs.declared.step.Step.{Step}
use Rattle.step_table.specs.declared.windows.WindowRow.{WindowRow}
use Rattle.step_batch.specs.LentWindows.{WindowsAt}
use Rattle.step_cells.specs.Joined.{joined_rows}
use Rattle.step_cells.specs.Owed.{value_cell, window_cell, windows_at}
use Rattle.ticks.specs.declared.moment.Ms.{Ms}
use Rattle.promql_meaning.specs.Elements.{stamp_outcome, stamps, timestamps}
use Rattle.promql_meaning.specs.Givens.{step_of, unstamped}
use Rattle.promql_meaning.specs.Laws.{MeaningIsWellFormed}
use Rattle.promql_meaning.specs.Meaning.{meaning, meaning_step, node_meaning}
use Rattle.promql_meaning.specs.Selecting.{AllSeries, Asked, Samples, moment_of, newest, newest_row, passing, selected, selected_windows, series_window, window, window_row}
use Rattle.promql_meaning.specs.declared.given.Given.{Given}
use Rattle.promql_meaning.specs.declared.given.Given.TheVariants as given
use Rattle.promql_meaning.specs.declared.given.Stamped.{Stamped}
use Rattle.parting_laws.specs.Parted.{Engine, takes}
use Rattle.parting_laws.specs.PartLaws.{IgnoresName, IsPartOf, RangeGivesNothing, RangesJoin, SelectedArePart, SelectorGivesNothing, SelectorsJoin, StampsArePart, TimestampGivesNothing, TimestampsJoin, WindowsArePart, over, owed_at}
use Rattle.parting_laws.proofs.Chosen.{all_mapped, both_along, chosen_all, chosen_filter, chosen_sorted, everywhere, filter_mapped, filter_turned, mapped_along}
use Rattle.parting_laws.proofs.Held.{each_one, engines_hold, engines_ignore}
use Rattle.parting_laws.proofs.Joins.{rows_join, window_labels, windows_join}
use Rattle.parting_laws.proofs.Made.{Keeps, made_all, made_step, row_labels, rows_made}
use Rattle.parting_laws.proofs.MarksParted.{made_of_one, marks_made, no_sets, none_over, nothing, same_union}
use Rattle.parting_laws.proofs.Parts.{IsOfOne, in_part}

abbrev Series : Type 0
Series = Names × Samples

abbrev pub stamped_labels : Stamped → Names
stamped_labels row = row.labels

-- ---- the labels of what a series gives are the series' own

stamped_is : (closed : Bool) (m : ℤ) (s : Series) (row : Stamped) → newest_row closed m s ≡ Some row → row.labels ≡ s.0
stamped_is closed m s row e = by (newest closed m s.1) e
  where
    by : (o : Option (Ms × XFrac)) → option_map (λ (x : Ms × XFrac). record { labels = s.0; at = x.0; value = x.1 }) o ≡ Some row → row.labels ≡ s.0
    by None f = absurd (cc)
    by (Some x) f = let same : record { labels = s.0; at = x.0; value = x.1 } ≡ row = cc in ap (λ (r : Stamped). r.labels) (sym same)

window_is : (closed : Bool) (m range : ℤ) (s : Series) (w : WindowRow) → series_window closed m range s ≡ Some w → w.labels ≡ s.0
window_is closed m range s w e = by (window closed m range s.1) e
  where
    by : (xs : List (Ms × XFrac)) → window_row s.0 xs ≡ Some w → w.labels ≡ s.0
    by [] f = absurd (cc)
    by (x ∷ xs) f = let same : record { labels = s.0; times = map (λ (y : Ms × XFrac). y.0) (x ∷ xs); values = map (λ (y : Ms × XFrac). y.1) (x ∷ xs) } ≡ w = cc in ap (λ (r : WindowRow). r.labels) (sym same)

-- ---- a part of the samples

module _ (test : Names → Bool) where
  abbrev own : Series → Bool
  own s = test s.0

  passing_part : (asked : Asked) (held : AllSeries) (selector : Selector) → IsPartOf test asked.samples held → passing held asked.kept selector.rules ≡ filter own (passing asked.samples asked.kept selector.rules)
  passing_part asked held selector parted =
      ap (filter (λ (s : Series). labels_pass asked.kept selector.rules s.0)) parted ∙ filter_turned (λ (s : Series). labels_pass asked.kept selector.rules s.0) own (by_labels asked.samples)

pub selected_part : SelectedArePart
selected_part test asked held selector t parted =
    let m : ℤ = moment_of asked selector.moment t in
    let closed : Bool = selector.moment.closed in
    let all : AllSeries = passing asked.samples asked.kept selector.rules in
    ap (filter_map (newest_row closed m)) (passing_part test asked held selector parted)
    ∙ chosen_filter (newest_row closed m) (own test) (λ (row : Stamped). test row.labels) all
    (everywhere (λ (s : Series). (row : Stamped) → newest_row closed m s ≡ Some row → test row.labels ≡ test s.0) (λ s row e. ap test (stamped_is closed m s row e)) all)

pub windows_part : WindowsArePart
windows_part test asked held selector range t parted =
    let m : ℤ = moment_of asked selector.moment t in
    let closed : Bool = selector.moment.closed in
    let all : AllSeries = passing asked.samples asked.kept selector.rules in
    ap (filter_map (series_window closed m range)) (passing_part test asked held selector parted)
    ∙ chosen_filter (series_window closed m range) (own test) (λ (w : WindowRow). test w.labels) all
    (everywhere (λ (s : Series). (w : WindowRow) → series_window closed m range s ≡ Some w → test w.labels ≡ test s.0) (λ s w e. ap test (window_is closed m range s w e)) all)

-- the time of a sample stands under its labels without the name
pub stamps_keep : (test : Names → Bool) → IgnoresName test → Keeps stamped_labels stamp_outcome test
stamps_keep test ignores row v e = ignores row.labels

pub stamps_part : StampsArePart
stamps_part test asked held selector t ignores parted =
    ap (λ (rows : List Stamped). (stamps rows).table.rows) (selected_part test asked held selector t parted)
    ∙ rows_made stamped_labels stamp_outcome test (stamps_keep test ignores) nothing nothing (selected asked selector t)

-- ---- all parts

module _ {P : Type 0} (test : P → Names → Bool) (ps : List P) where
  abbrev OfOne : Series → Type 0
  OfOne s = IsOfOne test ps s.0

  in_order : (samples : AllSeries) → AllByRecursion OfOne samples → AllByRecursion OfOne (by_labels samples)
  in_order [] a = tt
  in_order (s ∷ samples) a = all_insert labels_cmp OfOne s.0 s.1 (by_labels samples) a.0 (λ e h. h) (in_order samples a.1)

  passing_one : (asked : Asked) (selector : Selector) → AllByRecursion OfOne asked.samples → AllByRecursion OfOne (passing asked.samples asked.kept selector.rules)
  passing_one asked selector one = recursion_filter OfOne (λ (s : Series). labels_pass asked.kept selector.rules s.0) (by_labels asked.samples) (in_order asked.samples one)

  -- where each series is of one part, so is each row and each window of a selector
  pub selected_one : (asked : Asked) (selector : Selector) (t : ℤ) → AllByRecursion OfOne asked.samples → AllByRecursion (λ (row : Stamped). IsOfOne test ps row.labels) (selected asked selector t)
  selected_one asked selector t one =
      let m : ℤ = moment_of asked selector.moment t in
      chosen_all (newest_row selector.moment.closed m) OfOne (λ (row : Stamped). IsOfOne test ps row.labels)
      (λ s row e h. subst (IsOfOne test ps) (sym (stamped_is selector.moment.closed m s row e)) h) (passing asked.samples asked.kept selector.rules) (passing_one asked selector one)

  pub windows_one : (asked : Asked) (selector : Selector) (range t : ℤ) → AllByRecursion OfOne asked.samples → AllByRecursion (λ (w : WindowRow). IsOfOne test ps w.labels) (selected_windows asked selector range t)
  windows_one asked selector range t one =
      let m : ℤ = moment_of asked selector.moment t in
      chosen_all (series_window selector.moment.closed m range) OfOne (λ (w : WindowRow). IsOfOne test ps w.labels)
      (λ s w e h. subst (IsOfOne test ps) (sym (window_is selector.moment.closed m range s w e)) h) (passing asked.samples asked.kept selector.rules) (passing_one asked selector one)

-- windows stand in the order of their labels
pub windows_sorted : (asked : Asked) (selector : Selector) (range t : ℤ) → IsStrictlySortedBy labels_cmp (map window_labels (selected_windows asked selector range t))
windows_sorted asked selector range t =
    let m : ℤ = moment_of asked selector.moment t in
    let pass : Names → Bool = λ names. labels_pass asked.kept selector.rules names in
    chosen_sorted (series_window selector.moment.closed m range) labels_cmp (λ (s : Series). s.0) window_labels (λ s w e. window_is selector.moment.closed m range s w e) (passing asked.samples asked.kept selector.rules)
    (subst (IsStrictlySortedBy labels_cmp) (sym (keys_filter pass (by_labels asked.samples))) (IsStrictlySortedBy-filter labels_cmp pass (keys_of (by_labels asked.samples)) (by_labels_sorted asked.samples)))

-- ---- a selector

selector_means : (asked : Asked) (e : Expr) (selector : Selector) (t : ℤ) → e.node ≡ node.Select selector → meaning asked e t ≡ given.Selected (record { rules = selector.rules; rows = selected asked selector t })
selector_means asked e selector t is = ap (λ (f : ℤ → Given). f t) (fold-Select (node_meaning asked) (λ e. e.node) e selector is)

pub selectors_join : MeaningIsWellFormed → SelectorsJoin
selectors_join well engines asked e selector at parted is =
    let t : ℤ = at.0 in
    let means : (a : Asked) → meaning_step a e t ≡ step_of (given.Selected (record { rules = selector.rules; rows = selected a selector t })) = λ a. ap step_of (selector_means a e selector t is) in
    let rows : (a : Asked) → (meaning_step a e t).table.rows ≡ map unstamped (selected a selector t) = λ a. ap (λ (s : Step). s.table.rows) (means a) in
    let marks : (a : Asked) → (meaning_step a e t).marks ≡ nothing = λ a. ap (λ (s : Step). s.marks) (means a) in
    rows_join takes (owed_at part.Rows asked e at) engines (meaning_step asked e t) (well asked e t).rows
    (subst (AllByRecursion (λ (row : Row). IsOfOne takes engines row.labels)) (sym (rows asked)) (all_mapped (λ (row : Row). IsOfOne takes engines row.labels) unstamped (selected asked selector t) (selected_one takes engines asked selector t (each_one engines asked.samples parted))))
    (mapped_along (λ (engine : Engine). IsPartOf (takes engine) asked.samples engine.samples) (λ (engine : Engine). (owed_at part.Rows asked e at engine).rows ≡ map value_cell (in_part takes row_labels engine (meaning_step asked e t).table.rows))
    (λ engine h. ap (map value_cell)
    (rows (over engine.samples asked) ∙ ap (map unstamped) (selected_part (takes engine) asked engine.samples selector t h)
    ∙ sym (filter_mapped (λ (row : Row). takes engine row.labels) unstamped (selected asked selector t)) ∙ ap (in_part takes row_labels engine) (sym (rows asked))))
    engines (engines_hold engines asked.samples parted))
    (same_union (λ (engine : Engine). (owed_at part.Rows asked e at engine).marks) (λ (engine : Engine). nothing) nothing engines (everywhere (λ (engine : Engine). (owed_at part.Rows asked e at engine).marks ≡ nothing) (λ engine. marks (over engine.samples asked)) engines)
    ∙ none_over engines ∙ sym (marks asked))

-- ---- the timestamp of a selector

timestamp_means : (asked : Asked) (e inner : Expr) (selector : Selector) (t : ℤ) → e.node ≡ node.Call func.Timestamp (inner ∷ []) → inner.node ≡ node.Select selector → meaning_step asked e t ≡ stamps (selected asked selector t)
timestamp_means asked e inner selector t is inner_is =
    ap (λ (f : ℤ → Given). step_of (f t)) (fold-Call (node_meaning asked) (λ e. e.node) e func.Timestamp (inner ∷ []) is)
    ∙ ap (λ (g : Given). timestamps g t) (selector_means asked inner selector t inner_is)

pub timestamps_join : UnionHasMarks → UnionIsSet → TakenHasSets → SettledIsWellFormed → MeaningIsWellFormed → TimestampsJoin
timestamps_join unions sets takens settleds well engines asked e inner selector at parted is inner_is =
    let t : ℤ = at.0 in
    let xs : List Stamped = selected asked selector t in
    let means : (a : Asked) → meaning_step a e t ≡ stamps (selected a selector t) = λ a. timestamp_means a e inner selector t is inner_is in
    let piece : Engine → Step = λ engine. made_step stamped_labels stamp_outcome nothing (in_part takes stamped_labels engine xs) in
    let parts = engines_hold engines asked.samples parted in
    let pieces : AllByRecursion (λ (engine : Engine). meaning_step (over engine.samples asked) e t ≡ piece engine) engines =
    mapped_along (λ (engine : Engine). IsPartOf (takes engine) asked.samples engine.samples) (λ (engine : Engine). meaning_step (over engine.samples asked) e t ≡ piece engine)
    (λ engine h. means (over engine.samples asked) ∙ ap stamps (selected_part (takes engine) asked engine.samples selector t h)) engines parts in
    let keep : AllByRecursion (λ (engine : Engine). Keeps stamped_labels stamp_outcome (takes engine)) engines =
    mapped_along (λ (engine : Engine). IgnoresName (takes engine)) (λ (engine : Engine). Keeps stamped_labels stamp_outcome (takes engine)) (λ engine h. stamps_keep (takes engine) h) engines (engines_ignore engines asked.samples parted) in
    let one = selected_one takes engines asked selector t (each_one engines asked.samples parted) in
    rows_join takes (owed_at part.Rows asked e at) engines (meaning_step asked e t) (well asked e t).rows
    (subst (λ (s : Step). AllByRecursion (λ (row : Row). IsOfOne takes engines row.labels) s.table.rows) (sym (means asked))
    (made_all stamped_labels stamp_outcome (IsOfOne takes engines) (made_of_one stamped_labels stamp_outcome takes engines keep) nothing xs one))
    (mapped_along (λ (engine : Engine). (meaning_step (over engine.samples asked) e t ≡ piece engine) × Keeps stamped_labels stamp_outcome (takes engine)) (λ (engine : Engine). (owed_at part.Rows asked e at engine).rows ≡ map value_cell (in_part takes row_labels engine (meaning_step asked e t).table.rows))
    (λ engine h. ap (map value_cell)
    (ap (λ (s : Step). s.table.rows) h.0 ∙ rows_made stamped_labels stamp_outcome (takes engine) h.1 nothing nothing xs ∙ ap (λ (s : Step). in_part takes row_labels engine s.table.rows) (sym (means asked))))
    engines (both_along (λ (engine : Engine). meaning_step (over engine.samples asked) e t ≡ piece engine) (λ (engine : Engine). Keeps stamped_labels stamp_outcome (takes engine)) engines pieces keep))
    (same_union (λ (engine : Engine). (owed_at part.Rows asked e at engine).marks) (λ (engine : Engine). (piece engine).marks) nothing engines
    (mapped_along (λ (engine : Engine). meaning_step (over engine.samples asked) e t ≡ piece engine) (λ (engine : Engine). (owed_at part.Rows asked e at engine).marks ≡ (piece engine).marks) (λ engine h. ap (λ (s : Step). s.marks) h) engines pieces)
    ∙ marks_made stamped_labels stamp_outcome unions takes (λ (engine : Engine). nothing) nothing engines xs sets takens settleds keep one no_sets (everywhere (λ (engine : Engine). AreSets nothing) (λ engine. no_sets) engines) (none_over engines)
    ∙ ap (λ (s : Step). s.marks) (sym (means asked)))

-- ---- a range selector

pub range_means : (asked : Asked) (e : Expr) (selector : Selector) (range at : Ms) → e.node ≡ node.Range selector range
    → windows_at at (meaning asked e at.0) ≡ record { at = at; rows = selected_windows asked selector range.0 at.0; marks = nothing }
range_means asked e selector range at is = ap (λ (f : ℤ → Given). windows_at at (f at.0)) (fold-Range (node_meaning asked) (λ e. e.node) e selector range is)

pub ranges_join : RangesJoin
ranges_join engines asked e selector range at parted is =
    let xs : List WindowRow = selected_windows asked selector range.0 at.0 in
    let means = λ (a : Asked). range_means a e selector range at is in
    windows_join takes (owed_at part.Windows asked e at) engines (record { at = at; rows = xs; marks = nothing }) (windows_sorted asked selector range.0 at.0) (windows_one takes engines asked selector range.0 at.0 (each_one engines asked.samples parted))
    (mapped_along (λ (engine : Engine). IsPartOf (takes engine) asked.samples engine.samples) (λ (engine : Engine). (owed_at part.Windows asked e at engine).rows ≡ map window_cell (in_part takes window_labels engine xs))
    (λ engine h. ap (map window_cell) (ap (λ (w : WindowsAt). w.rows) (means (over engine.samples asked)) ∙ windows_part (takes engine) asked engine.samples selector range.0 at.0 h))
    engines (engines_hold engines asked.samples parted))
    (same_union (λ (engine : Engine). (owed_at part.Windows asked e at engine).marks) (λ (engine : Engine). nothing) nothing engines
    (everywhere (λ (engine : Engine). (owed_at part.Windows asked e at engine).marks ≡ nothing) (λ engine. ap (λ (w : WindowsAt). w.marks) (means (over engine.samples asked))) engines)
    ∙ none_over engines)
    ∙ sym (means asked)

-- ---- over no samples

-- no rows, joined
none_joined : joined_rows [] ≡ step_of (given.Vector (record { table = record { rows = [] }; marks = nothing }))
unfolding IsStrictlySortedBy
none_joined = settled_table (record { table = record { rows = [] }; marks = nothing }) tt

pub selector_gives_nothing : SelectorGivesNothing
selector_gives_nothing asked e selector t is = ap step_of (selector_means (over [] asked) e selector t is) ∙ sym none_joined

pub timestamp_gives_nothing : TimestampGivesNothing
timestamp_gives_nothing asked e inner selector t is inner_is = timestamp_means (over [] asked) e inner selector t is inner_is

pub range_gives_nothing : RangeGivesNothing
unfolding IsStrictlySortedBy
range_gives_nothing asked e selector range at is =
    range_means (over [] asked) e selector range at is ∙ sym (windows_join {P = Engine} takes (owed_at part.Windows asked e at) [] (record { at = at; rows = []; marks = nothing }) tt tt tt refl)
