-- The step of an outer instant is that of the meaning.
use Rattle.std.proofs.Common.{◌≡◌, ◌∙◌, true, false, List, [], ◌∷◌, map, refl, sym, ap, subst}
use Rattle.std.specs.Prelude.{if◌then◌else◌}
use Rattle.std.specs.List.{AllByRecursion}
use Rattle.func_table.specs.declared.table.Window.{Window}
use Rattle.label_set.specs.Entries.{recursion_map}
use Rattle.op_subquery.specs.Rings.{AreLent, windows_at}
use Rattle.op_window.specs.Feeds.{CanFeedWindows}
use Rattle.op_window.specs.Kernels.{Kernel}
use Rattle.op_window.specs.Rules.{AreFramed, HasScalars, ScalarsAt, fed_by, frame_at, takes_scalar, windowed_at, windows_of_lent}
use Rattle.promql_meaning.specs.Givens.{barren, no_marks}
use Rattle.promql_meaning.specs.Meaning.{windowed_by}
use Rattle.promql_meaning.specs.declared.given.Windows.{Windows}
use Rattle.step_batch.specs.Lent.{Lent, stage_of, stages}
use Rattle.step_batch.specs.LentWindows.{AreWindows, WindowsAt}
use Rattle.step_batch.specs.declared.steps.PlacedStep.{PlacedStep}
use Rattle.step_table.specs.Shuffles.{OutcomesIgnoreOrder}
use Rattle.step_table.specs.Timed.{StepAt, steps_over}
use Rattle.step_table.specs.declared.step.Step.{Step}
use Rattle.ticks.specs.Walks.{HasTimes, IsTime, moment_at}
use Rattle.ticks.specs.declared.moment.Ms.{Ms}
use Rattle.ticks.specs.declared.walk.WalkMoment.{WalkMoment}
use Rattle.subquery_rows.proofs.Lending.{are_framed, same_step}

-- the windows that are lent may be fed
pub can_feed_windows : (kernel : Kernel) (moment : WalkMoment) (range t : Ms) (steps : List StepAt) (lent : WindowsAt) (scalar : Lent) → kernel.moment ≡ moment → kernel.range ≡ range → AreWindows lent.rows → AreLent lent t (windows_at moment range steps t)
    → IsTime t.0 → HasTimes (moment_at moment t.0) range.0 → HasScalars kernel.f (t ∷ []) scalar → CanFeedWindows kernel lent (lent.at ∷ []) scalar
can_feed_windows kernel moment range t steps lent scalar m r are is time ends scalars = record {
  instant = refl;
  time = subst (λ (u : Ms). IsTime u.0) (sym is.at) time;
  ends = subst (λ (z : WalkMoment). HasTimes (moment_at z lent.at.0) kernel.range.0) (sym m) (subst (λ (z : Ms). HasTimes (moment_at moment lent.at.0) z.0) (sym r) (subst (λ (u : Ms). HasTimes (moment_at moment u.0) range.0) (sym is.at) ends));
  within = subst (λ (z : WalkMoment). AreFramed (frame_at z kernel.range lent.at) lent.rows) (sym m) (subst (λ (z : Ms). AreFramed (frame_at moment z lent.at) lent.rows) (sym r) (are_framed moment range t steps lent are is));
  scalars = subst (λ (u : Ms). HasScalars kernel.f (u ∷ []) scalar) (sym is.at) scalars;
}

-- what is read beside the windows of one instant is of that instant
at_one : (f : Window) (t : Ms) (given : Lent) → HasScalars f (t ∷ []) given → AllByRecursion (λ (s : StepAt). s.at ≡ t) (fed_by f (t ∷ []) (stages given))
at_one f t given h =
    elim (takes_scalar f) as (λ b. (b ≡ true → ScalarsAt (t ∷ []) given.steps) → AllByRecursion (λ (s : StepAt). s.at ≡ t) (if b then stages given else steps_over (λ u. barren no_marks) (t ∷ []))) [
      | true ↦ λ k. one given.steps (k refl)
      | false ↦ λ k. (refl, tt)
    ] h
  where
    one : (steps : List PlacedStep) → ScalarsAt (t ∷ []) steps → AllByRecursion (λ (s : StepAt). s.at ≡ t) (map (stage_of given.labels) steps)
    one [] a = absurd a
    one (s ∷ []) a = (a.0, tt)
    one (s ∷ r ∷ steps) a = absurd a.2

abbrev step_at : Ms → Step → StepAt
step_at t step = record { at = t; step = step }

mapped_alike : (F G : StepAt → StepAt) (steps : List StepAt) → AllByRecursion (λ (s : StepAt). F s ≡ G s) steps → map F steps ≡ map G steps
mapped_alike F G [] a = refl
mapped_alike F G (s ∷ steps) a = λ i. a.0 i ∷ mapped_alike F G steps a.1 i

pub given_is : OutcomesIgnoreOrder → (f : Window) (moment : WalkMoment) (range t : Ms) (steps : List StepAt) (lent : WindowsAt) (scalar : Lent) (meant : Ms → Windows) (now : List StepAt) → AreWindows lent.rows → AreLent lent t (windows_at moment range steps t)
    → HasScalars f (t ∷ []) scalar → windows_at moment range steps t ≡ meant t → now ≡ map (windowed_at f (windows_of_lent lent moment range)) (fed_by f (lent.at ∷ []) (stages scalar))
    → now ≡ map (windowed_at f meant) (fed_by f (t ∷ []) (stages scalar))
given_is law f moment range t steps lent scalar meant now are is scalars same made =
    made ∙ ap (λ (u : Ms). map (windowed_at f (windows_of_lent lent moment range)) (fed_by f (u ∷ []) (stages scalar))) is.at
    ∙ mapped_alike (windowed_at f (windows_of_lent lent moment range)) (windowed_at f meant) (fed_by f (t ∷ []) (stages scalar))
    (recursion_map (λ (s : StepAt). s.at ≡ t) (λ (s : StepAt). windowed_at f (windows_of_lent lent moment range) s ≡ windowed_at f meant s) each (fed_by f (t ∷ []) (stages scalar)) (at_one f t scalar scalars))
  where
    there : (step : Step) → windowed_by f t.0 step (windows_of_lent lent moment range t) ≡ windowed_by f t.0 step (meant t)
    there step = same_step moment range t steps lent are is law f step ∙ ap (windowed_by f t.0 step) same

    each : (s : StepAt) → s.at ≡ t → windowed_at f (windows_of_lent lent moment range) s ≡ windowed_at f meant s
    each s e = subst (λ (u : Ms). step_at u (windowed_by f u.0 s.step (windows_of_lent lent moment range u)) ≡ step_at u (windowed_by f u.0 s.step (meant u))) (sym e) (ap (step_at t) (there s.step))
