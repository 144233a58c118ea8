-- Windows that are lent: under each labels samples whose times rise, at least one.
use Rattle.std.specs.Prelude.{◌≡◌, ◌<◌, ◌<ℤ◌, ℕ, zero, suc, ℤ, List, [], ◌∷◌, ◌++◌, length, map, filter, if◌then◌else◌, ⊤}
use Rattle.std.specs.List.{AllByRecursion, IsDistinct}
use Rattle.label_set.specs.LabelEquality.{labels_eq}
use Rattle.step_table.specs.Groups.{Names}
use Rattle.step_table.specs.Unions.{united}
use Rattle.step_table.specs.declared.marks.Marks.{Marks}
use Rattle.step_table.specs.declared.windows.WindowRow.{WindowRow}
use Rattle.ticks.specs.declared.moment.Ms.{Ms}
use Rattle.xfrac.specs.declared.value.XFrac.{XFrac}
use Rattle.step_batch.specs.Columns.{Columns, columns_behind, has_some}

-- the windows of an instant, with its marks and notes
pub record WindowsAt : Type 0 where
  pub at : Ms
  pub rows : List WindowRow
  pub marks : Marks

abbrev pub TimesRise : List Ms → Type 0
TimesRise [] = ⊤
TimesRise (a ∷ []) = ⊤
TimesRise (a ∷ b ∷ times) = (a.0 <ℤ b.0) × TimesRise (b ∷ times)

-- as many values as times, at least one, and the times rise
pub record IsWindow (w : WindowRow) : Type 0 where
  pub same : length w.times ≡ length w.values
  pub some : 0 < length w.times
  pub rising : TimesRise w.times

abbrev pub names_of : List WindowRow → List Names
names_of rows = map (λ (w : WindowRow). w.labels) rows

-- what a reader may rely on: no two labels are equal, and each row is a window
pub record AreWindows (rows : List WindowRow) : Type 0 where
  pub distinct : IsDistinct labels_eq (names_of rows)
  pub each : AllByRecursion IsWindow rows

-- a window, out of its labels and its columns
abbrev pub window_of : Names × Columns → WindowRow
window_of entry = record { labels = entry.0; times = entry.1.times; values = entry.1.values }

abbrev pub windows_of : List (Names × Columns) → List WindowRow
windows_of entries = map window_of entries

-- ---- what the calls change

abbrev pub window_with : Names → List Ms → List XFrac → WindowRow
window_with names times values = record { labels = names; times = times; values = values }

-- one window more
abbrev pub with_window : WindowsAt → Names → List Ms → List XFrac → WindowsAt
with_window lent names times values = record { at = lent.at; rows = lent.rows ++ window_with names times values ∷ []; marks = lent.marks }

abbrev pub with_more_marks : WindowsAt → Marks → WindowsAt
with_more_marks lent marks = record { at = lent.at; rows = lent.rows; marks = united lent.marks marks }

-- a sample more at a window's end
abbrev pub lengthened : Ms → XFrac → WindowRow → WindowRow
lengthened at value w = record { labels = w.labels; times = w.times ++ at ∷ []; values = w.values ++ value ∷ [] }

-- the row at a place is changed
abbrev pub changed_at : {A : Type 0} → (A → A) → List A → ℕ → List A
changed_at f [] i = []
changed_at f (w ∷ rows) zero = f w ∷ rows
changed_at f (w ∷ rows) (suc i) = w ∷ changed_at f rows i

-- a sample more at the end of the window with these labels; where there is none it begins with that sample
abbrev pub with_sample : List WindowRow → Names → Ms → XFrac → List WindowRow
with_sample [] names at value = window_with names (at ∷ []) (value ∷ []) ∷ []
with_sample (w ∷ rows) names at value = if labels_eq names w.labels then lengthened at value w ∷ rows else w ∷ with_sample rows names at value

abbrev pub columns_in : WindowRow → Columns
columns_in w = record { times = w.times; values = w.values }

-- the samples of a window that are later than an edge
abbrev pub left_behind : ℤ → WindowRow → WindowRow
left_behind edge w = window_of (w.labels, columns_behind edge (columns_in w))

-- the windows that have samples later than an edge, each with these
abbrev pub behind : ℤ → List WindowRow → List WindowRow
behind edge rows = filter (λ w. has_some (columns_in w)) (map (left_behind edge) rows)

-- ---- what the calls ask for

-- all samples of a window are before an instant
abbrev pub EndsBefore : Ms → WindowRow → Type 0
EndsBefore at w = AllByRecursion (λ (t : Ms). t.0 <ℤ at.0) w.times
