-- A function of windows that a gather gives.
use Rattle.std.proofs.Common.{◌≡◌, ◌∙◌, ℕ, Bool, true, false, List, [], ◌∷◌, slice_get, Option, None, Some, refl, sym, ap, subst}
use Rattle.std.specs.Prelude.{ℤ, filter, if◌then◌else◌}
use Rattle.exchange.specs.declared.place.Place.{Place}
use Rattle.func_table.specs.declared.table.Window.{Window}
use Rattle.label_set.specs.declared.rules.Relabel.{Relabel}
use Rattle.label_set.specs.declared.rules.Relabel.TheVariants.{Replace, Join, Filter}
use Rattle.label_set.specs.declared.rules.Rule.{Rule}
use Rattle.match_rule.specs.Patterns.{labels_pass}
use Rattle.op_labels.specs.Rules.{IsFilter, Kept, Relabelling, filtered_windows}
use Rattle.op_window.specs.Kernels.{Kernel}
use Rattle.op_window.specs.Rules.{AreFramed, frame_at, windows_of_lent}
use Rattle.promql_meaning.specs.Meaning.{windowed_by}
use Rattle.step_batch.specs.Lent.{Lent, stages}
use Rattle.step_batch.specs.LentWindows.{WindowsAt}
use Rattle.step_table.specs.Timed.{StepAt, steps_over}
use Rattle.step_table.specs.declared.step.Step.{Step}
use Rattle.step_table.specs.declared.windows.WindowRow.{WindowRow}
use Rattle.ticks.specs.Walks.{HasTimes, IsTime, moment_at}
use Rattle.ticks.specs.declared.moment.Ms.{Ms}
use Rattle.ticks.specs.declared.walk.WalkMoment.{WalkMoment}
use Rattle.window_fn.specs.declared.frame.WindowFrame.{WindowFrame}
use Rattle.plan_tree.specs.Gathering.{AsksWindows, LendsInside}
use Rattle.plan_tree.specs.Nodes.{AreGiven, rules_in, rules_of, windows_at, windows_of}
use Rattle.plan_tree.specs.Shapes.{passing}
use Rattle.plan_tree.specs.Worlds.{Gathers}

-- ---- windows that pass

-- those that pass lie where all lie
framed_pass : (frame : WindowFrame) (kept : Kept) (rules : List Rule) (rows : List WindowRow) → AreFramed frame rows → AreFramed frame (filter (λ (row : WindowRow). labels_pass kept rules row.labels) rows)
framed_pass frame kept rules [] a = tt
framed_pass frame kept rules (row ∷ rows) a = by (labels_pass kept rules row.labels) (framed_pass frame kept rules rows a.1)
  where
    by : (b : Bool) → AreFramed frame (filter (λ (row : WindowRow). labels_pass kept rules row.labels) rows)
        → AreFramed frame (if b then row ∷ filter (λ (row : WindowRow). labels_pass kept rules row.labels) rows else filter (λ (row : WindowRow). labels_pass kept rules row.labels) rows)
    by true h = (a.0, h)
    by false h = h

pub given_pass : (kernel : Kernel) (kept : Kept) (rules : List Rule) (windows : WindowsAt) → AreGiven kernel windows → AreGiven kernel (filtered_windows kept rules windows)
given_pass kernel kept rules windows h = record { time = h.time; ends = h.ends; within = framed_pass (frame_at kernel.moment kernel.range windows.at) kept rules windows.rows h.within }

-- a filter is that of its rules
pub filter_is : (rule : Relabel) → IsFilter rule → rule ≡ Filter (rules_in rule)
filter_is (Replace target template source pattern) h = absurd h
filter_is (Join target separator sources) h = absurd h
filter_is (Filter rules) h = refl

-- ---- windows of a gather

module _ (places : List Place) (k : ℕ) (u : Ms) (place : Place) (here : slice_get places k ≡ Some place) where
  pub windows_are : windows_at places k ≡ place.gather.windows
  windows_are = ap (λ (o : Option Place). windows_of o) here

  pub there_at : LendsInside place u → (windows_at places k).at ≡ u
  there_at inside = ap (λ (w : WindowsAt). w.at) windows_are ∙ inside.at

  -- they may be fed to a kernel of the range and the moment that were asked
  pub are_given : (kernel : Kernel) → AsksWindows kernel.moment kernel.range place.gather.ask → LendsInside place u → IsTime u.0 → HasTimes (moment_at kernel.moment u.0) kernel.range.0 → AreGiven kernel (windows_at places k)
  are_given kernel asks inside time ends =
      let w = place.gather.windows in
      let ask = place.gather.ask in
      let framed : AreFramed (frame_at ask.moment ask.range w.at) w.rows = inside.inside in
      subst (λ (x : WindowsAt). AreGiven kernel x) (sym windows_are) (record {
        time = subst (λ (t : Ms). IsTime t.0) (sym inside.at) time;
        ends = subst (λ (t : Ms). HasTimes (moment_at kernel.moment t.0) kernel.range.0) (sym inside.at) ends;
        within = subst (λ (m : WalkMoment). AreFramed (frame_at m kernel.range w.at) w.rows) asks.ends (subst (λ (r : Ms). AreFramed (frame_at ask.moment r w.at) w.rows) asks.reaches framed);
      })

-- ---- what is made of them

-- the function of windows of the one instant is that of what gathers give there
pub windows_over : (kept was : Kept) (f : Window) (moment : WalkMoment) (range : Ms) (rules : Option (List Rule)) (scalar : ℤ → Step) (k : ℕ) (gathers : Gathers) (windows : WindowsAt) (u : Ms) (at : List Ms)
    → was ≡ kept → windows.at ≡ u → windows ≡ (gathers k u.0).windows → at ≡ u ∷ []
    → steps_over (λ t. windowed_by f t (scalar t) (windows_of_lent (passing was rules windows) moment range (record { 0 = t }))) (windows.at ∷ [])
    ≡ steps_over (λ t. windowed_by f t (scalar t) (windows_of_lent (passing kept rules (gathers k t).windows) moment range (record { 0 = t }))) at
windows_over kept was f moment range rules scalar k gathers windows u at same there is one =
    (λ j. steps_over (λ t. windowed_by f t (scalar t) (windows_of_lent (passing (same j) rules windows) moment range (record { 0 = t }))) (there j ∷ []))
    ∙ ap (λ (w : WindowsAt). steps_over (λ t. windowed_by f t (scalar t) (windows_of_lent (passing kept rules w) moment range (record { 0 = t }))) (u ∷ [])) is
    ∙ ap (λ (ts : List Ms). steps_over (λ t. windowed_by f t (scalar t) (windows_of_lent (passing kept rules (gathers k t).windows) moment range (record { 0 = t }))) ts) (sym one)

-- what is made of windows that are fed, is made of those that pass
module _ (f : Window) (moment : WalkMoment) (range : Ms) (kept : Kept) (passed : Option Relabelling) where
  -- the step at each of some instants
  abbrev over : (windows : WindowsAt) (scalar : ℤ → Step) → List Ms → List StepAt
  over windows scalar at = steps_over (λ t. windowed_by f t (scalar t) (windows_of_lent windows moment range (record { 0 = t }))) at

  pub lent_none : passed ≡ None → (windows given : WindowsAt) → given ≡ windows → (scalar : ℤ → Step) (arg buffer : Lent) → (stages arg ≡ steps_over scalar (given.at ∷ []) → stages buffer ≡ over given scalar (given.at ∷ []))
      → stages arg ≡ steps_over scalar (windows.at ∷ []) → stages buffer ≡ over (passing kept (rules_of passed) windows) scalar (windows.at ∷ [])
  lent_none none windows given is scalar arg buffer e h =
      let made : stages buffer ≡ over windows scalar (windows.at ∷ []) = subst (λ (w : WindowsAt). stages arg ≡ steps_over scalar (w.at ∷ []) → stages buffer ≡ over w scalar (w.at ∷ [])) is e h in
      made ∙ ap (λ (o : Option Relabelling). over (passing kept (rules_of o) windows) scalar (windows.at ∷ [])) (sym none)

  pub lent_some : (filter : Relabelling) → passed ≡ Some filter → (windows given : WindowsAt) → given ≡ filtered_windows kept (rules_in filter.rule) windows → (scalar : ℤ → Step) (arg buffer : Lent)
      → (stages arg ≡ steps_over scalar (given.at ∷ []) → stages buffer ≡ over given scalar (given.at ∷ []))
      → stages arg ≡ steps_over scalar (windows.at ∷ []) → stages buffer ≡ over (passing kept (rules_of passed) windows) scalar (windows.at ∷ [])
  lent_some filter some windows given is scalar arg buffer e h =
      let pass = filtered_windows kept (rules_in filter.rule) windows in
      let made : stages buffer ≡ over pass scalar (windows.at ∷ []) = subst (λ (w : WindowsAt). stages arg ≡ steps_over scalar (w.at ∷ []) → stages buffer ≡ over w scalar (w.at ∷ [])) is e h in
      made ∙ ap (λ (o : Option Relabelling). over (passing kept (rules_of o) windows) scalar (windows.at ∷ [])) (sym some)
