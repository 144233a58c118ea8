-- What the tests of a frame come to.
use Rattle.std.proofs.Common.{◌≡◌, ◌∙◌, ℕ, zero, suc, Bool, true, false, List, [], ◌∷◌, drop, length, slice_get, refl, sym, ap, None, arith}
use Rattle.std.specs.Prelude.{◌==◌, ◌&&◌, ◌-ℤ◌, not, Option, Err}
use Rattle.std.specs.List.{AllByRecursion, list_all}
use Rattle.std.proofs.lemmas.Bool.{eqb-true}
use Rattle.step_table.specs.declared.cells.StepCells.{StepCells}
use Rattle.ticks.specs.Walks.{IsInstant, moment_at}
use Rattle.ticks.specs.declared.moment.Ms.{Ms}
use Rattle.ticks.specs.declared.walk.WalkMoment.{WalkMoment}
use Rattle.xfrac.specs.declared.value.XFrac.{XFrac}
use Rattle.remote_api.specs.Strays.{Answers, HasWindow, do_rise, first_of, is_empty, is_in_window, is_window, stray_of}
use Rattle.remote_api.specs.declared.asks.Ask.{Ask}
use Rattle.remote_api.specs.declared.checking.CheckFault.TheVariants as fault
use Rattle.remote_api.specs.declared.frame.Stray.TheVariants.{OutOfStep}

-- ---- windows

not_empty : {T : Type 0} (xs : List T) → (length xs == 0) ≡ false → is_empty xs ≡ false
not_empty [] e = absurd (cc)
not_empty (x ∷ xs) e = refl

pub window_is : (moment : WalkMoment) (range at : Ms) (times : List Ms) (values : List XFrac) (found : Bool)
    → (length times == length values) ≡ true → (length times == 0) ≡ false → do_rise times ≡ true
    → found ≡ list_all (is_in_window moment.closed (moment_at moment at.0 -ℤ range.0) (moment_at moment at.0)) times
    → found ≡ is_window moment range at times values
window_is moment range at times values found same some rising within =
    let rest = list_all (is_in_window moment.closed (moment_at moment at.0 -ℤ range.0) (moment_at moment at.0)) times in
    within
    ∙ sym (ap (λ (b : Bool). b && (not (is_empty times) && (do_rise times && rest))) same
    ∙ ap (λ (b : Bool). not b && (do_rise times && rest)) (not_empty times some)
    ∙ ap (λ (b : Bool). b && rest) rising)

pub all_have : (ask : Ask) (steps : List StepCells) → ((at : Ms) → IsInstant ask.walk at.0 → HasWindow ask at)
    → AllByRecursion (λ (step : StepCells). IsInstant ask.walk step.at.0) steps → AllByRecursion (λ (step : StepCells). HasWindow ask step.at) steps
all_have ask [] windows a = tt
all_have ask (step ∷ steps) windows a = (windows step.at a.0, all_have ask steps windows a.1)

-- ---- a frame without steps

first_left : (all : List Ms) (k : ℕ) → slice_get all k ≡ first_of (drop k all)
first_left [] zero = refl
first_left [] (suc k) = refl
first_left (t ∷ all) zero = refl
first_left (t ∷ all) (suc k) = first_left all k

one_more : (n : ℕ) → (suc n == 0) ≡ true → ⊥
one_more n e = absurd (omega (arith, eqb-true (suc n) 0 e))

pub none_given : (ask : Ask) (all : List Ms) (k : ℕ) (steps : List StepCells) (next : Option Ms) → (length steps == 0) ≡ true → next ≡ slice_get all k
    → Answers {T = Option Ms} (stray_of ask (drop k all) steps) (Err (fault.Strayed (OutOfStep next None)))
none_given ask all k [] next none e = ap (λ (o : Option Ms). OutOfStep o None) (e ∙ first_left all k)
none_given ask all k (step ∷ steps) next none e = absurd (one_more (length steps) none)
