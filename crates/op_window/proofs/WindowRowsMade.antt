-- The windows of series, what comes of them, and the scalar beside them.
use Rattle.std.proofs.Common.{◌≡◌, ◌∙◌, ℕ, zero, suc, ◌+◌, ◌<◌, true, false, List, [], ◌∷◌, ◌++◌, length, map, take, get_or, Option, Some, None, refl, sym, ap, subst, arith, append-nil}
use Rattle.std.specs.Prelude.{Bool, ℤ, ◌-ℤ◌, ◌≤ℤ◌, ◌&&◌, int_le, slice_get, unwrap_or, if◌then◌else◌}
use Rattle.std.specs.List.{All, AllByRecursion, cons_option, filter_map}
use Rattle.std.specs.Option.{option_map, option_to_list}
use Rattle.std.proofs.lemmas.Int.{ints}
use Rattle.std.proofs.lemmas.List.Elements.{All-from_recursion}
use Rattle.func_table.specs.declared.table.Window.{Window}
use Rattle.func_table.specs.declared.table.Window.TheVariants as window
use Rattle.promql_meaning.specs.Outcomes.{range_notes_of, with_notes}
use Rattle.promql_meaning.specs.Ranges.{counter_note, window_notes, window_outcome, windowed}
use Rattle.promql_meaning.specs.Selecting.{between, fresh, fresh_sample, sample_times, sample_values, series_window, window_row}
use Rattle.promql_meaning.specs.Selecting.{window as window_at}
use Rattle.promql_meaning.specs.declared.given.Windows.{Windows}
use Rattle.sample_store.specs.Samples.{AllSeries, Names, Samples, labels_at, samples_at}
use Rattle.series_marks.specs.Reaches.{numbered}
use Rattle.step_batch.specs.LentWindows.{window_with}
use Rattle.step_table.specs.Orders.{note_cmp}
use Rattle.step_table.specs.Outcomes.{settled, taken}
use Rattle.step_table.specs.Unions.{set_of}
use Rattle.step_table.specs.declared.marks.Marks.{Marks}
use Rattle.step_table.specs.declared.marks.Note.{Note}
use Rattle.step_table.specs.declared.outcomes.Outcome.{Outcome}
use Rattle.step_table.specs.declared.windows.WindowRow.{WindowRow}
use Rattle.ticks.specs.Edges.{is_from}
use Rattle.ticks.specs.declared.moment.Ms.{Ms}
use Rattle.window_fn.specs.Windows.{IsInFrame}
use Rattle.window_fn.specs.declared.frame.WindowFrame.{WindowFrame}
use Rattle.xfrac.specs.declared.value.Held.{Held}
use Rattle.xfrac.specs.declared.value.Held.TheVariants.{Value, Stale}
use Rattle.xfrac.specs.declared.value.XFrac.{XFrac}
use Rattle.step_batch.specs.Columns.{Columns, has_some}
use Rattle.op_window.specs.declared.renew.SeriesWindow.{SeriesWindow}
use Rattle.op_window.specs.Sliding.{Fresh, columns_of}
use Rattle.op_window.specs.NoteSets.{AreOneSet}
use Rattle.op_window.proofs.Lists.{filter_both, filter_one, filtered_more}
use Rattle.op_window.proofs.NotesTold.{with_more}
use Rattle.op_window.specs.Rules.{note_in, notes_given, outcome_in, rows_of_series, windows_in}

-- ---- the windows of series

-- the window of the series with a number
abbrev pub row_at : Bool → WindowFrame → AllSeries → ℕ → Option WindowRow
row_at closed frame store s = window_row (labels_at store s) (window_at closed frame.moment.0 frame.range.0 (samples_at store s))

pub rows_are : (closed : Bool) (frame : WindowFrame) (store : AllSeries) (series : List ℕ) → filter_map (row_at closed frame store) series ≡ rows_of_series closed frame store series
rows_are closed frame store [] = refl
rows_are closed frame store (s ∷ series) =
    let m = frame.moment.0 in
    let r = frame.range.0 in
    let rest = rows_are closed frame store series in
    elim (slice_get store s) as (λ (o : Option (Names × Samples)).
    cons_option (window_row (unwrap_or (option_map (λ (one : Names × Samples). one.0) o) []) (window_at closed m r (unwrap_or (option_map (λ (one : Names × Samples). one.1) o) []))) (filter_map (row_at closed frame store) series)
    ≡ filter_map (series_window closed m r) (cons_option o (numbered store series))) [
      | None ↦ rest
      | Some one ↦ ap (cons_option (window_row one.0 (window_at closed m r one.1))) rest
    ]

-- ---- times within a frame

from_test : (closed : Bool) (edge t : ℤ) → is_from closed edge t ≡ true → edge ≤ℤ t
from_test false edge t h = grind (arith, ints, h)
from_test true edge t h = grind (arith, ints, h)

to_test : (m t : ℤ) → int_le t m ≡ true → t ≤ℤ m
to_test m t h = grind (arith, ints, h)

both_true : (a b : Bool) → (a && b) ≡ true → (a ≡ true) × (b ≡ true)
both_true true true h = (refl, refl)
both_true true false h = absurd (cc)
both_true false b h = absurd (cc)

one_in : (closed : Bool) (frame : WindowFrame) (x : Ms × Held) → (is_from closed (frame.moment.0 -ℤ frame.range.0) x.0.0 && int_le x.0.0 frame.moment.0) ≡ true → IsInFrame frame x.0
one_in closed frame x h =
    let b = both_true (is_from closed (frame.moment.0 -ℤ frame.range.0) x.0.0) (int_le x.0.0 frame.moment.0) h in
    record { from_start = from_test closed (frame.moment.0 -ℤ frame.range.0) x.0.0 b.0; to_end = to_test frame.moment.0 x.0.0 b.1 }

fresh_in : (frame : WindowFrame) (x : Ms × Held) (fresh : List (Ms × XFrac)) → IsInFrame frame x.0 → AllByRecursion (IsInFrame frame) (sample_times fresh) → AllByRecursion (IsInFrame frame) (sample_times (cons_option (fresh_sample x) fresh))
fresh_in frame (t, Value v) fresh h a = (h, a)
fresh_in frame (t, Stale) fresh h a = a

all_in : (closed : Bool) (frame : WindowFrame) (S : Samples) → AllByRecursion (IsInFrame frame) (sample_times (window_at closed frame.moment.0 frame.range.0 S))
all_in closed frame [] = tt
all_in closed frame (x ∷ xs) =
    let rest = all_in closed frame xs in
    let edge = frame.moment.0 -ℤ frame.range.0 in
    elim (is_from closed edge x.0.0 && int_le x.0.0 frame.moment.0) as (λ b. (is_from closed edge x.0.0 && int_le x.0.0 frame.moment.0) ≡ b
    → AllByRecursion (IsInFrame frame) (sample_times (filter_map fresh_sample (if b then x ∷ between closed edge frame.moment.0 xs else between closed edge frame.moment.0 xs)))) [
      | true ↦ λ h. fresh_in frame x (window_at closed frame.moment.0 frame.range.0 xs) (one_in closed frame x h) rest
      | false ↦ λ h. rest
    ] refl

pub times_in : (closed : Bool) (frame : WindowFrame) (S : Samples) → All (IsInFrame frame) (sample_times (window_at closed frame.moment.0 frame.range.0 S))
times_in closed frame S = All-from_recursion _ _ (all_in closed frame S)

-- ---- what comes of windows

range_same : {A B : Type 0} (arg : XFrac) (g : A → B) (rows : List A) → range_notes_of arg rows ≡ range_notes_of arg (map g rows)
range_same arg g [] = refl
range_same arg g (row ∷ rows) = refl

notes_are : (f : Window) (t : ℤ) (arg : XFrac) (windows : Windows) → window_notes f t arg windows ≡ notes_given f arg (map (window_outcome f t arg windows) windows.rows) (filter_map (counter_note f t arg windows) windows.rows)
notes_are window.QuantileOver t arg windows = range_same arg (window_outcome window.QuantileOver t arg windows) windows.rows
notes_are window.Rate t arg windows = refl
notes_are window.Increase t arg windows = refl
notes_are window.Delta t arg windows = refl
notes_are window.Irate t arg windows = refl
notes_are window.Idelta t arg windows = refl
notes_are window.Deriv t arg windows = refl
notes_are window.PredictLinear t arg windows = refl
notes_are window.Changes t arg windows = refl
notes_are window.Resets t arg windows = refl
notes_are window.AvgOver t arg windows = refl
notes_are window.MinOver t arg windows = refl
notes_are window.MaxOver t arg windows = refl
notes_are window.SumOver t arg windows = refl
notes_are window.CountOver t arg windows = refl
notes_are window.StdvarOver t arg windows = refl
notes_are window.LastOver t arg windows = refl
notes_are window.PresentOver t arg windows = refl

-- the step of what comes of windows is the meaning's
pub step_made : (f : Window) (frame : WindowFrame) (arg : XFrac) (rows : List WindowRow) (marks : Marks) (outcomes : List Outcome) (notes : List Note) → outcomes ≡ map (outcome_in f frame arg) rows → notes ≡ filter_map (note_in f frame arg) rows
    → settled (taken (with_notes marks (notes_given f arg outcomes notes)) outcomes) ≡ windowed f frame.eval.0 arg (windows_in frame rows marks)
step_made f frame arg rows marks outcomes notes o n =
    let O = map (outcome_in f frame arg) rows in
    ap (λ (os : List Outcome). settled (taken (with_notes marks (notes_given f arg os notes)) os)) o
    ∙ ap (λ (ns : List Note). settled (taken (with_notes marks (notes_given f arg O ns)) O)) n
    ∙ ap (λ (ns : List Note). settled (taken (with_notes marks ns) O)) (sym (notes_are f frame.eval.0 arg (windows_in frame rows marks)))

-- ---- one series more

no_true : true ≡ false → ⊥
no_true e = cc

no_false : false ≡ true → ⊥
no_false e = cc

pub row_none : (names : Names) (K : Fresh) → has_some (columns_of K) ≡ false → window_row names K ≡ None
row_none names [] h = refl
row_none names (x ∷ K) h = absurd (no_true h)

pub row_some : (names : Names) (K : Fresh) → has_some (columns_of K) ≡ true → window_row names K ≡ Some (window_with names (sample_times K) (sample_values K))
row_some names [] h = absurd (no_false h)
row_some names (x ∷ K) h = refl

pub rows_none : (R : ℕ → Option WindowRow) (xs : List ℕ) (i : ℕ) → i < length xs → R (get_or xs i 0) ≡ None → filter_map R (take i xs) ≡ filter_map R (take (i + 1) xs)
rows_none R xs i h e = sym (filtered_more R xs i 0 h ∙ ap (λ (o : Option WindowRow). filter_map R (take i xs) ++ option_to_list o) e ∙ append-nil (filter_map R (take i xs)))

pub rows_some : (R : ℕ → Option WindowRow) (xs : List ℕ) (i : ℕ) (w : WindowRow) → i < length xs → R (get_or xs i 0) ≡ Some w → filter_map R (take i xs) ++ w ∷ [] ≡ filter_map R (take (i + 1) xs)
rows_some R xs i w h e = sym (filtered_more R xs i 0 h ∙ ap (λ (o : Option WindowRow). filter_map R (take i xs) ++ option_to_list o) e)

-- there are samples
pub columns_some : (c : Columns) (K : Fresh) → c ≡ columns_of K → has_some c ≡ true → 0 < length c.values
columns_some c [] e h = absurd (no_false (sym (ap has_some e) ∙ h))
columns_some c (x ∷ K) e h = let n : length c.values ≡ suc (length (sample_values K)) = ap (λ (z : Columns). length z.values) e in omega arith

-- one window more
pub notes_next : (f : Window) (frame : WindowFrame) (arg : XFrac) (rows more : List WindowRow) (w : WindowRow) (was now : List Note) (o : Option Note) → AreOneSet was (filter_map (note_in f frame arg) rows) → AreOneSet now (was ++ option_to_list o) → o ≡ note_in f frame arg w → rows ++ w ∷ [] ≡ more
    → AreOneSet now (filter_map (note_in f frame arg) more)
notes_next f frame arg rows more w was now o h e n r =
    let N = note_in f frame arg in
    e ∙ with_more was (filter_map N rows) (option_to_list o) h
    ∙ ap (set_of note_cmp) (ap (λ (p : Option Note). filter_map N rows ++ option_to_list p) n ∙ ap (λ (ns : List Note). filter_map N rows ++ ns) (sym (filter_one N w)) ∙ sym (filter_both N rows (w ∷ [])) ∙ ap (filter_map N) r)

-- ---- a series at its place

pub walked_there : (F : ℕ → SeriesWindow) (ws : List SeriesWindow) (xs : List ℕ) (i : ℕ) (w : SeriesWindow) → ws ≡ map F xs → i < length xs → w ≡ get_or ws i w → w ≡ F (get_or xs i 0)
walked_there F ws xs i w e h is = is ∙ ap (λ (z : List SeriesWindow). get_or z i w) e ∙ mapped xs i h
  where
    mapped : (xs : List ℕ) (i : ℕ) → i < length xs → get_or (map F xs) i w ≡ F (get_or xs i 0)
    mapped [] i h = absurd (omega arith)
    mapped (x ∷ xs) zero h = refl
    mapped (x ∷ xs) (suc i) h = mapped xs i (omega arith)

pub mapped_length : {A B : Type 0} (f : A → B) (xs : List A) → length (map f xs) ≡ length xs
mapped_length f [] = refl
mapped_length f (x ∷ xs) = ap suc (mapped_length f xs)

pub columns_same : (c : Columns) (K : Fresh) → c ≡ columns_of K → length c.times ≡ length c.values
columns_same c K e =
    ap (λ (z : Columns). length z.times) e ∙ mapped_length (λ (s : Ms × XFrac). s.0) K ∙ sym (mapped_length (λ (s : Ms × XFrac). s.1) K) ∙ ap (λ (z : Columns). length z.values) (sym e)

pub columns_framed : (closed : Bool) (frame : WindowFrame) (S : Samples) (c : Columns) → c ≡ columns_of (window_at closed frame.moment.0 frame.range.0 S) → All (IsInFrame frame) c.times
columns_framed closed frame S c e = subst (λ (z : Columns). All (IsInFrame frame) z.times) (sym e) (times_in closed frame S)

-- ---- a lent window at its place

pub row_is : (rows : List WindowRow) (i : ℕ) (names : Names) (times : List Ms) (values : List XFrac) → option_map (λ (w : WindowRow). w.labels) (slice_get rows i) ≡ Some names → option_map (λ (w : WindowRow). w.times) (slice_get rows i) ≡ Some times
    → option_map (λ (w : WindowRow). w.values) (slice_get rows i) ≡ Some values → slice_get rows i ≡ Some (window_with names times values)
row_is [] i names times values a b c = absurd (cc)
row_is (w ∷ rows) zero names times values a b c =
    let l : w.labels ≡ names = cc in
    let t : w.times ≡ times = cc in
    let v : w.values ≡ values = cc in
    ap (λ (z : Names). Some (window_with z w.times w.values)) l ∙ ap (λ (z : List Ms). Some (window_with names z w.values)) t ∙ ap (λ (z : List XFrac). Some (window_with names times z)) v
row_is (w ∷ rows) (suc i) names times values a b c = row_is rows i names times values a b c

pub rows_more : (rows : List WindowRow) (i : ℕ) (w : WindowRow) → slice_get rows i ≡ Some w → take i rows ++ w ∷ [] ≡ take (i + 1) rows
rows_more [] i w e = absurd (cc)
rows_more (x ∷ rows) zero w e = let k : x ≡ w = cc in ap (λ (z : WindowRow). z ∷ []) (sym k)
rows_more (x ∷ rows) (suc i) w e = let k : suc i + 1 ≡ suc (i + 1) = omega arith in rw k (ap (λ (r : List WindowRow). x ∷ r) (rows_more rows i w e))

pub all_at : (P : WindowRow → Type 0) (rows : List WindowRow) (i : ℕ) (w : WindowRow) → AllByRecursion P rows → slice_get rows i ≡ Some w → P w
all_at P [] i w a e = absurd (cc)
all_at P (x ∷ rows) zero w a e = let k : x ≡ w = cc in subst P k a.0
all_at P (x ∷ rows) (suc i) w a e = all_at P rows i w a.1 e
