-- The steps that are made, as those of the rule.
use Rattle.std.proofs.Common.{◌≡◌, ◌∙◌, ℕ, ◌+◌, ◌≤◌, List, [], ◌∷◌, ◌++◌, length, map, take, get_or, Some, sym, ap, subst, refl, arith}
use Rattle.std.specs.Prelude.{slice_get}
use Rattle.func_table.specs.declared.table.Window.{Window}
use Rattle.promql_meaning.specs.Givens.{no_marks}
use Rattle.sample_store.specs.Samples.{AllSeries}
use Rattle.step_batch.specs.Lent.{Lent, stages}
use Rattle.step_batch.specs.LentWindows.{WindowsAt}
use Rattle.step_table.specs.Timed.{StepAt}
use Rattle.step_table.specs.declared.step.Step.{Step}
use Rattle.ticks.specs.declared.moment.Ms.{Ms}
use Rattle.ticks.specs.declared.walk.WalkMoment.{WalkMoment}
use Rattle.op_window.specs.Rules.{HasScalars, by_scalar, fed_by, frame_at, rows_of_series, scalar_in, windowed_at, windows_of_lent, windows_of_series}
use Rattle.op_window.specs.declared.scalar.Scalar.{Scalar}
use Rattle.op_window.proofs.Instants.{fed_all, fed_there, steps_more}
use Rattle.op_window.proofs.Scalars.{marked_by, rule_is}

-- over series
abbrev pub series_made : Window → AllSeries → List ℕ → WalkMoment → Ms → Ms → Scalar → StepAt
series_made f store series moment range t scalar =
    record { at = t; step = by_scalar f (frame_at moment range t) scalar (rows_of_series moment.closed (frame_at moment range t) store series) }

series_stage : (f : Window) (store : AllSeries) (series : List ℕ) (moment : WalkMoment) (range t : Ms) (scalar : Scalar) (s : StepAt) → s.at ≡ t → scalar ≡ scalar_in f s.step
    → series_made f store series moment range t scalar ≡ windowed_at f (windows_of_series store series moment range) s
series_stage f store series moment range t scalar s at is =
    ap (λ (u : Ms). series_made f store series moment range u scalar) (sym at) ∙ ap (series_made f store series moment range s.at) is
    ∙ ap (λ (step : Step). record { at = s.at; step = step }) (rule_is f (frame_at moment range s.at) (rows_of_series moment.closed (frame_at moment range s.at) store series) no_marks s.step)

-- of lent windows
abbrev pub lent_made : Window → WindowsAt → WalkMoment → Ms → Ms → Scalar → StepAt
lent_made f windows moment range t scalar = record { at = t; step = by_scalar f (frame_at moment range t) (marked_by windows.marks scalar) windows.rows }

lent_stage : (f : Window) (windows : WindowsAt) (moment : WalkMoment) (range t : Ms) (scalar : Scalar) (s : StepAt) → s.at ≡ t → scalar ≡ scalar_in f s.step
    → lent_made f windows moment range t scalar ≡ windowed_at f (windows_of_lent windows moment range) s
lent_stage f windows moment range t scalar s at is =
    ap (λ (u : Ms). lent_made f windows moment range u scalar) (sym at) ∙ ap (lent_made f windows moment range s.at) is
    ∙ ap (λ (step : Step). record { at = s.at; step = step }) (rule_is f (frame_at moment range s.at) windows.rows windows.marks s.step)

-- one instant more
pub series_next : (f : Window) (store : AllSeries) (series : List ℕ) (moment : WalkMoment) (range : Ms) (at : List Ms) (given : Lent) (i : ℕ) (d t : Ms) (scalar : Scalar) (was now : List StepAt) → HasScalars f at given → i + 1 ≤ length at
    → ((s : StepAt) → slice_get (fed_by f at (stages given)) i ≡ Some s → scalar ≡ scalar_in f s.step) → t ≡ get_or at i d
    → was ≡ map (windowed_at f (windows_of_series store series moment range)) (take i (fed_by f at (stages given))) → now ≡ was ++ series_made f store series moment range t scalar ∷ []
    → now ≡ map (windowed_at f (windows_of_series store series moment range)) (take (i + 1) (fed_by f at (stages given)))
series_next f store series moment range at given i d t scalar was now h l told there begun made =
    let R = windowed_at f (windows_of_series store series moment range) in
    let fed = fed_by f at (stages given) in
    let x = fed_there f at given i d h (omega arith) in
    made ∙ ap (λ (z : List StepAt). z ++ series_made f store series moment range t scalar ∷ []) begun
    ∙ ap (λ (z : StepAt). map R (take i fed) ++ z ∷ []) (series_stage f store series moment range t scalar x.0 (x.2 ∙ sym there) (told x.0 x.1))
    ∙ steps_more R fed i x.0 x.1

pub series_all : (f : Window) (R : StepAt → StepAt) (at : List Ms) (given : Lent) (n : ℕ) (now : List StepAt) → HasScalars f at given → length at ≤ n → now ≡ map R (take n (fed_by f at (stages given))) → now ≡ map R (fed_by f at (stages given))
series_all f R at given n now h l e = e ∙ ap (map R) (fed_all f at given n h l)

pub lent_one : (f : Window) (windows : WindowsAt) (moment : WalkMoment) (range t : Ms) (given : Lent) (scalar : Scalar) (was now : List StepAt) → HasScalars f (t ∷ []) given
    → ((s : StepAt) → slice_get (fed_by f (t ∷ []) (stages given)) 0 ≡ Some s → scalar ≡ scalar_in f s.step) → was ≡ [] → now ≡ was ++ lent_made f windows moment range t scalar ∷ []
    → now ≡ map (windowed_at f (windows_of_lent windows moment range)) (fed_by f (t ∷ []) (stages given))
lent_one f windows moment range t given scalar was now h told none made =
    let R = windowed_at f (windows_of_lent windows moment range) in
    let fed = fed_by f (t ∷ []) (stages given) in
    let x = fed_there f (t ∷ []) given 0 t h (omega arith) in
    made ∙ ap (λ (z : List StepAt). z ++ lent_made f windows moment range t scalar ∷ []) none
    ∙ ap (λ (z : StepAt). z ∷ []) (lent_stage f windows moment range t scalar x.0 x.2 (told x.0 x.1))
    ∙ steps_more R fed 0 x.0 x.1 ∙ ap (map R) (fed_all f (t ∷ []) given 1 h (omega arith))

-- the same where the kernel's parts are those that it had at first
pub series_next_at : (f f' : Window) (store : AllSeries) (series series' : List ℕ) (moment moment' : WalkMoment) (range range' : Ms) (at : List Ms) (given : Lent) (i : ℕ) (d : Ms) (scalar : Scalar) (was now : List StepAt) → f' ≡ f → series' ≡ series → moment' ≡ moment → range' ≡ range
    → HasScalars f at given → i + 1 ≤ length at → ((s : StepAt) → slice_get (fed_by f' at (stages given)) i ≡ Some s → scalar ≡ scalar_in f' s.step)
    → was ≡ map (windowed_at f (windows_of_series store series moment range)) (take i (fed_by f at (stages given))) → now ≡ was ++ series_made f' store series' moment' range' (get_or at i d) scalar ∷ []
    → now ≡ map (windowed_at f (windows_of_series store series moment range)) (take (i + 1) (fed_by f at (stages given)))
series_next_at f f' store series series' moment moment' range range' at given i d scalar was now ef es em er h l told begun made =
    let t = get_or at i d in
    series_next f store series moment range at given i d t scalar was now h l
    (λ s e. told s (subst (λ (x : Window). slice_get (fed_by x at (stages given)) i ≡ Some s) (sym ef) e) ∙ ap (λ (x : Window). scalar_in x s.step) ef)
    refl begun
    (made ∙ ap (λ (z : StepAt). was ++ z ∷ [])
    (ap (λ (x : Window). series_made x store series' moment' range' t scalar) ef ∙ ap (λ (x : List ℕ). series_made f store x moment' range' t scalar) es
    ∙ ap (λ (x : WalkMoment). series_made f store series x range' t scalar) em ∙ ap (λ (x : Ms). series_made f store series moment x t scalar) er))
