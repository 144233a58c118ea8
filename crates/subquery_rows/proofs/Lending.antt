-- The windows that a ring lends, as those of the meaning.
use Rattle.std.proofs.Common.{◌≡◌, ◌∙◌, ℕ, zero, suc, ◌<◌, ◌++◌, true, false, cond, List, [], ◌∷◌, length, map, get_or, refl, sym, ap, subst, arith}
use Rattle.std.specs.Prelude.{◌&&◌, ℤ, ◌-ℤ◌, ◌<ℤ◌, ◌≤ℤ◌, int_le, int_lt, filter, ⊤}
use Rattle.std.specs.BTreeMap.{is_at}
use Rattle.std.specs.List.{All, AllByRecursion, filter_map}
use Rattle.std.specs.List.Sorted.{IsStrictlySortedBy}
use Rattle.std.specs.Map.{keys_of, values_of}
use Rattle.std.specs.declared.cmp.Ordering.TheVariants.{Less}
use Rattle.std.proofs.lemmas.Int.{ints}
use Rattle.func_table.specs.declared.table.Window.{Window}
use Rattle.label_set.specs.Entries.{recursion_map}
use Rattle.label_set.specs.LabelEquality.{labels_eq}
use Rattle.label_set.specs.LabelOrder.{labels_eq_at}
use Rattle.label_set.specs.Labels.{labels_cmp}
use Rattle.op_subquery.specs.Kept.{samples_under, steps_in}
use Rattle.op_subquery.specs.Rings.{AreLent, windows_at}
use Rattle.op_window.specs.Rules.{AreFramed, frame_at, windows_of_lent}
use Rattle.promql_meaning.specs.Meaning.{windowed_by}
use Rattle.promql_meaning.specs.Selecting.{sample_times}
use Rattle.promql_meaning.specs.Subqueries.{gathered_windows, group_window}
use Rattle.step_batch.specs.LentWindows.{AreWindows, IsWindow, WindowsAt}
use Rattle.step_table.specs.AllGathered.{groups_sorted}
use Rattle.step_table.specs.Groups.{Names, gathered, items_of, names_among}
use Rattle.step_table.specs.Shuffles.{OutcomesIgnoreOrder, Shuffled}
use Rattle.step_table.specs.Timed.{StepAt, rows_of_steps}
use Rattle.step_table.specs.declared.marks.Marks.{Marks}
use Rattle.step_table.specs.declared.step.Row.{Row}
use Rattle.step_table.specs.declared.step.Step.{Step}
use Rattle.step_table.specs.declared.windows.WindowRow.{WindowRow}
use Rattle.ticks.specs.Edges.{before, later-from, from-edge}
use Rattle.ticks.specs.Walks.{moment_at}
use Rattle.ticks.specs.declared.moment.Ms.{Ms}
use Rattle.ticks.specs.declared.walk.WalkMoment.{WalkMoment}
use Rattle.window_fn.specs.Windows.{IsInFrame}
use Rattle.xfrac.specs.declared.value.XFrac.{XFrac}
use Rattle.subquery_rows.proofs.Alike.{all_shuffled, by_alike}
use Rattle.subquery_rows.proofs.Reordered.{AreApart, HasSample, apart_of, reordered}

abbrev Sample : Type 0
Sample = Ms × XFrac

-- ---- the meaning's windows

-- what holds of the groups of items holds of their windows
module _ (P : Names → List Sample → Type 0) (Q : WindowRow → Type 0) (of : (names : Names) (s : Sample) (samples : List Sample) → P names (s ∷ samples) → Q (record { labels = names; times = sample_times (s ∷ samples); values = map (λ (e : Sample). e.1) (s ∷ samples) })) where
  windows_hold : (groups : List (Names × List Sample)) → AllByRecursion (λ (g : Names × List Sample). P g.0 g.1) groups → AllByRecursion Q (filter_map group_window groups)
  windows_hold [] a = tt
  windows_hold (g ∷ groups) a = one (windows_hold groups a.1) g.1 a.0
    where
      one : AllByRecursion Q (filter_map group_window groups) → (samples : List Sample) → P g.0 samples → AllByRecursion Q (filter_map group_window ((g.0, samples) ∷ groups))
      one rest [] p = rest
      one rest (s ∷ samples) p = (of g.0 s samples p, rest)

less_apart : (p q : Names) → labels_cmp p q ≡ Less → labels_eq p q ≡ false
less_apart p q h = sym (labels_eq_at p q) ∙ rw h refl

apart_groups : (groups : List (Names × List Sample)) → IsStrictlySortedBy labels_cmp (keys_of groups) → AreApart (filter_map group_window groups)
unfolding IsStrictlySortedBy
apart_groups [] s = tt
apart_groups (g ∷ groups) s = one (apart_groups groups s.1) (above groups s.0) g.1
  where
    above : (more : List (Names × List Sample)) → AllByRecursion (λ (q : Names). labels_cmp g.0 q ≡ Less) (keys_of more) → AllByRecursion (λ (h : Names × List Sample). labels_eq g.0 h.0 ≡ false) more
    above [] a = tt
    above (h ∷ more) a = (less_apart g.0 h.0 a.0, above more a.1)

    one : AreApart (filter_map group_window groups) → AllByRecursion (λ (h : Names × List Sample). labels_eq g.0 h.0 ≡ false) groups → (samples : List Sample) → AreApart (filter_map group_window ((g.0, samples) ∷ groups))
    one rest a [] = rest
    one rest a (x ∷ samples) = (windows_hold (λ names samples. labels_eq g.0 names ≡ false) (λ (w : WindowRow). labels_eq g.0 w.labels ≡ false) (λ names x samples p. p) groups a, rest)

meant_apart : (items : List (Names × Sample)) → AreApart (gathered_windows items)
meant_apart items = apart_groups (gathered items) (groups_sorted items)

anything : {A : Type 0} (xs : List A) → AllByRecursion (λ (x : A). ⊤) xs
anything [] = tt
anything (x ∷ xs) = (tt, anything xs)

meant_filled : (items : List (Names × Sample)) → AllByRecursion HasSample (gathered_windows items)
meant_filled items = windows_hold (λ names samples. ⊤) HasSample (λ names s samples p. omega arith) (gathered items) (anything (gathered items))

lent_filled : (rows : List WindowRow) → AllByRecursion IsWindow rows → AllByRecursion HasSample rows
lent_filled [] a = tt
lent_filled (w ∷ rows) a = (a.0.some, lent_filled rows a.1)

-- windows that are lent are those of the meaning in another order
lent_shuffled : (rows : List WindowRow) (items : List (Names × Sample)) → AreWindows rows → ((q : Names) → samples_under q rows ≡ samples_under q (gathered_windows items)) → Shuffled rows (gathered_windows items)
lent_shuffled rows items are e = reordered rows (gathered_windows items) (apart_of rows are.distinct) (meant_apart items) (lent_filled rows are.each) (meant_filled items) e

-- ---- times within a window

module _ (P : Ms → Type 0) where
  abbrev OfItem : Names × Sample → Type 0
  OfItem e = P e.1.0

  items_hold : (q : Names) (items : List (Names × Sample)) → AllByRecursion OfItem items → AllByRecursion P (sample_times (items_of items q))
  items_hold q [] a = tt
  items_hold q (e ∷ items) a =
      elim (is_at (labels_cmp q) e.0) as (λ b. AllByRecursion P (sample_times (values_of (cond b (e ∷ filter (λ (i : Names × Sample). is_at (labels_cmp q) i.0) items) (filter (λ (i : Names × Sample). is_at (labels_cmp q) i.0) items))))) [
        | true ↦ (a.0, items_hold q items a.1)
        | false ↦ items_hold q items a.1
      ]

  timed_hold : (u : Ms) (rows : List Row) (more : List (Names × Sample)) → P u → AllByRecursion OfItem more → AllByRecursion OfItem (map (λ (row : Row). (row.labels, (u, row.value))) rows ++ more)
  timed_hold u [] more p a = a
  timed_hold u (row ∷ rows) more p a = (p, timed_hold u rows more p a)

  rows_hold : (steps : List StepAt) → AllByRecursion (λ (s : StepAt). P s.at) steps → AllByRecursion OfItem (rows_of_steps steps)
  rows_hold [] a = tt
  rows_hold (s ∷ steps) a = timed_hold s.at s.step.table.rows (rows_of_steps steps) a.0 (rows_hold steps a.1)

  each : (ts : List Ms) → AllByRecursion P ts → All P ts
  each [] a = λ k d h. absurd (omega (arith, h))
  each (t ∷ ts) a = there (each ts a.1)
    where
      there : All P ts → (k : ℕ) (d : Ms) → k < length (t ∷ ts) → P (get_or (t ∷ ts) k d)
      there rest zero d h = a.0
      there rest (suc k) d h = rest k d (omega (arith, h))

  groups_hold : (items : List (Names × Sample)) (names : List Names) → AllByRecursion OfItem items → AllByRecursion (λ (g : Names × List Sample). AllByRecursion P (sample_times g.1)) (map (λ (n : Names). (n, items_of items n)) names)
  groups_hold items [] a = tt
  groups_hold items (n ∷ names) a = (items_hold n items a, groups_hold items names a)

  meant_hold : (items : List (Names × Sample)) → AllByRecursion OfItem items → AllByRecursion (λ (w : WindowRow). All P w.times) (gathered_windows items)
  unfolding gathered
  meant_hold items a =
      windows_hold (λ names samples. AllByRecursion P (sample_times samples)) (λ (w : WindowRow). All P w.times) (λ names s samples p. each (sample_times (s ∷ samples)) p) (gathered items) (groups_hold items (names_among items) a)

steps_within : (edge m : ℤ) (steps : List StepAt) → AllByRecursion (λ (s : StepAt). (edge <ℤ s.at.0) × (s.at.0 ≤ℤ m)) (steps_in edge m steps)
steps_within edge m [] = tt
steps_within edge m (s ∷ steps) =
    elim (int_lt edge s.at.0) as (λ b. int_lt edge s.at.0 ≡ b → AllByRecursion (λ (x : StepAt). (edge <ℤ x.at.0) × (x.at.0 ≤ℤ m)) (cond (b && int_le s.at.0 m) (s ∷ steps_in edge m steps) (steps_in edge m steps))) [
      | true ↦ λ h.
          elim (int_le s.at.0 m) as (λ c. int_le s.at.0 m ≡ c → AllByRecursion (λ (x : StepAt). (edge <ℤ x.at.0) × (x.at.0 ≤ℤ m)) (cond c (s ∷ steps_in edge m steps) (steps_in edge m steps))) [
            | true ↦ λ k. ((grind (arith, ints, h), grind (arith, ints, k)), steps_within edge m steps)
            | false ↦ λ k. steps_within edge m steps
          ] refl
      | false ↦ λ h. steps_within edge m steps
    ] refl

-- ---- at an outer instant

module _ (moment : WalkMoment) (range t : Ms) (steps : List StepAt) (lent : WindowsAt) (are : AreWindows lent.rows) (is : AreLent lent t (windows_at moment range steps t)) where
  abbrev m : ℤ
  m = moment_at moment t.0

  abbrev edge : ℤ
  edge = before moment.closed (m -ℤ range.0)

  abbrev items : List (Names × Sample)
  items = rows_of_steps (steps_in edge m steps)

  order : Shuffled lent.rows (gathered_windows items)
  order = lent_shuffled lent.rows items are is.rows

  in_frame : (x : Ms) → edge <ℤ x.0 → x.0 ≤ℤ m → IsInFrame (frame_at moment range t) x
  in_frame x h k = record { from_start = from-edge moment.closed (m -ℤ range.0) x.0 (later-from moment.closed (m -ℤ range.0) x.0 h); to_end = k }

  -- the samples that are lent lie in the window
  pub are_framed : AreFramed (frame_at moment range lent.at) lent.rows
  are_framed =
      let within = recursion_map (λ (s : StepAt). (edge <ℤ s.at.0) × (s.at.0 ≤ℤ m)) (λ (s : StepAt). IsInFrame (frame_at moment range t) s.at) (λ s b. in_frame s.at b.0 b.1) (steps_in edge m steps) (steps_within edge m steps) in
      subst (λ (u : Ms). AreFramed (frame_at moment range u) lent.rows) (sym is.at)
      (all_shuffled (λ (w : WindowRow). All (IsInFrame (frame_at moment range t)) w.times) lent.rows (gathered_windows items) order
      (meant_hold (IsInFrame (frame_at moment range t)) items (rows_hold (IsInFrame (frame_at moment range t)) (steps_in edge m steps) within)))

  -- and a function of them gives what it gives of the meaning's windows
  pub same_step : OutcomesIgnoreOrder → (f : Window) (scalar : Step) → windowed_by f t.0 scalar (windows_of_lent lent moment range t) ≡ windowed_by f t.0 scalar (windows_at moment range steps t)
  same_step law f scalar =
      by_alike (record { 0 = m }) range t.0 lent.rows (gathered_windows items) order law f scalar lent.marks
      ∙ ap (λ (ms : Marks). windowed_by f t.0 scalar (record { moment = record { 0 = m }; range = range; rules = []; rows = gathered_windows items; marks = ms })) is.marks
