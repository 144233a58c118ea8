-- Kernels that read several parts at the same instants.
use Rattle.std.proofs.Common.{◌≡◌, ◌∙◌, ◌≤◌, suc, Bool, true, false, List, [], ◌∷◌, length, map, refl, sym, ap}
use Rattle.std.specs.Prelude.{ℤ}
use Rattle.std.specs.List.{AllByRecursion}
use Rattle.func_table.specs.declared.table.Window.{Window}
use Rattle.func_table.specs.declared.table.Window.TheVariants.{Rate, Increase, Delta, Irate, Idelta, Deriv, PredictLinear, Changes, Resets, AvgOver, MinOver, MaxOver, SumOver, CountOver, StdvarOver, QuantileOver, LastOver, PresentOver}
use Rattle.op_element.specs.Rules.{IsScalar, element_step, elements}
use Rattle.op_element.specs.declared.formula.ElementRule.{ElementRule}
use Rattle.op_window.specs.Rules.{ScalarsAt, fed_by, takes_scalar, windowed_at}
use Rattle.promql_meaning.specs.Givens.{barren, no_marks}
use Rattle.promql_meaning.specs.Meaning.{windowed_by}
use Rattle.promql_meaning.specs.declared.given.Windows.{Windows}
use Rattle.step_batch.specs.Lent.{Lent, stage_of, stages}
use Rattle.step_batch.specs.declared.steps.PlacedStep.{PlacedStep}
use Rattle.step_table.specs.Timed.{StepAt, steps_over}
use Rattle.step_table.specs.declared.step.Step.{Step}
use Rattle.ticks.specs.declared.moment.Ms.{Ms}

-- ---- how many steps there are

count_of : {A B : Type 0} (f : A → B) (xs : List A) → length (map f xs) ≡ length xs
count_of f [] = refl
count_of f (x ∷ xs) = ap suc (count_of f xs)

steps_counted : (lent : Lent) (f : ℤ → Step) (at : List Ms) → stages lent ≡ steps_over f at → length lent.steps ≡ length at
steps_counted lent f at e = sym (count_of (stage_of lent.labels) lent.steps) ∙ ap length e ∙ count_of (λ (t : Ms). record { at = t; step = f t.0 }) at

pub as_many : (a b : Lent) (f g : ℤ → Step) (at : List Ms) → stages a ≡ steps_over f at → stages b ≡ steps_over g at → length a.steps ≡ length b.steps
as_many a b f g at e h = steps_counted a f at e ∙ sym (steps_counted b g at h)

-- ---- a function of rows that takes two scalars

elements_over : (rule : ElementRule) (f g h : ℤ → Step) (at : List Ms) → elements rule (steps_over g at) (steps_over h at) (steps_over f at) ≡ steps_over (λ t. element_step rule (g t) (h t) (f t)) at
elements_over rule f g h [] = refl
elements_over rule f g h (t ∷ at) = ap (λ (rest : List StepAt). record { at = t; step = element_step rule (g t.0) (h t.0) (f t.0) } ∷ rest) (elements_over rule f g h at)

pub clamped : (rule : ElementRule) (f g h : ℤ → Step) (at : List Ms) (made rows low high : List StepAt) → made ≡ elements rule low high rows → rows ≡ steps_over f at → low ≡ steps_over g at → high ≡ steps_over h at
    → made ≡ steps_over (λ t. element_step rule (g t) (h t) (f t)) at
clamped rule f g h at made rows low high e r l u = e ∙ (λ j. elements rule (l j) (u j) (r j)) ∙ elements_over rule f g h at

-- ---- functions of windows, and a scalar

pub scalars_at : (lent : Lent) (f : ℤ → Step) (at : List Ms) → IsScalar lent → stages lent ≡ steps_over f at → ScalarsAt at lent.steps
scalars_at lent f at s e = by lent.steps at s e
  where
    by : (steps : List PlacedStep) (at : List Ms) → AllByRecursion (λ (s : PlacedStep). length s.slots ≤ 1) steps → map (stage_of lent.labels) steps ≡ steps_over f at → ScalarsAt at steps
    by [] [] s e = tt
    by [] (t ∷ at) s e = absurd (cc)
    by (x ∷ steps) [] s e = absurd (cc)
    by (x ∷ steps) (t ∷ at) s e =
        let same : stage_of lent.labels x ≡ record { at = t; step = f t.0 } = cc in
        let rest : map (stage_of lent.labels) steps ≡ steps_over f at = cc in
        (ap (λ (y : StepAt). y.at) same, s.0, by steps at s.1 rest)

not_read : (f : Window) (t : ℤ) (a b : Step) (windows : Windows) → takes_scalar f ≡ false → windowed_by f t a windows ≡ windowed_by f t b windows
not_read Rate t a b windows e = refl
not_read Increase t a b windows e = refl
not_read Delta t a b windows e = refl
not_read Irate t a b windows e = refl
not_read Idelta t a b windows e = refl
not_read Deriv t a b windows e = refl
not_read PredictLinear t a b windows e = absurd (cc)
not_read Changes t a b windows e = refl
not_read Resets t a b windows e = refl
not_read AvgOver t a b windows e = refl
not_read MinOver t a b windows e = refl
not_read MaxOver t a b windows e = refl
not_read SumOver t a b windows e = refl
not_read CountOver t a b windows e = refl
not_read StdvarOver t a b windows e = refl
not_read QuantileOver t a b windows e = absurd (cc)
not_read LastOver t a b windows e = refl
not_read PresentOver t a b windows e = refl

over_read : (f : Window) (windows : Ms → Windows) (g : ℤ → Step) (at : List Ms) → map (windowed_at f windows) (steps_over g at) ≡ steps_over (λ t. windowed_by f t (g t) (windows (record { 0 = t }))) at
over_read f windows g [] = refl
over_read f windows g (t ∷ at) = ap (λ (rest : List StepAt). record { at = t; step = windowed_by f t.0 (g t.0) (windows t) } ∷ rest) (over_read f windows g at)

over_unread : (f : Window) (windows : Ms → Windows) (g : ℤ → Step) (at : List Ms) → takes_scalar f ≡ false
    → map (windowed_at f windows) (steps_over (λ t. barren no_marks) at) ≡ steps_over (λ t. windowed_by f t (g t) (windows (record { 0 = t }))) at
over_unread f windows g [] e = refl
over_unread f windows g (t ∷ at) e =
    (λ j. record { at = t; step = not_read f t.0 (barren no_marks) (g t.0) (windows t) e j } ∷ map (windowed_at f windows) (steps_over (λ t. barren no_marks) at))
    ∙ ap (λ (rest : List StepAt). record { at = t; step = windowed_by f t.0 (g t.0) (windows t) } ∷ rest) (over_unread f windows g at e)

pub windowed_over : (f : Window) (windows : Ms → Windows) (g : ℤ → Step) (at : List Ms) (fed : List StepAt) → fed ≡ steps_over g at
    → map (windowed_at f windows) (fed_by f at fed) ≡ steps_over (λ t. windowed_by f t (g t) (windows (record { 0 = t }))) at
windowed_over f windows g at fed e = ap (λ (x : List StepAt). map (windowed_at f windows) (fed_by f at x)) e ∙ by (takes_scalar f) refl
  where
    by : (b : Bool) → takes_scalar f ≡ b → map (windowed_at f windows) (fed_by f at (steps_over g at)) ≡ steps_over (λ t. windowed_by f t (g t) (windows (record { 0 = t }))) at
    by true h = rw h (over_read f windows g at)
    by false h = rw h (over_unread f windows g at h)
