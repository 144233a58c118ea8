-- Steps that follow the instants that are to come.
use Rattle.std.proofs.Common.{◌≡◌, map, take, length, true, false, List, [], ◌∷◌, refl, ap, Some, None}
use Rattle.std.specs.Prelude.{ℤ, if◌then◌else◌}
use Rattle.std.specs.Ordering.{int_cmp, int_eq, is_eq}
use Rattle.std.specs.declared.cmp.Ordering.{Ordering}
use Rattle.std.specs.declared.cmp.Ordering.TheVariants.{Less, Equal, Greater}
use Rattle.std.proofs.Common.{arith}
use Rattle.std.proofs.lemmas.Int.{ints}
use Rattle.step_table.specs.declared.cells.StepCells.{StepCells}
use Rattle.ticks.specs.declared.moment.Ms.{Ms}
use Rattle.remote_api.specs.Strays.{out_of_step}
use Rattle.remote_api.specs.declared.frame.Stray.TheVariants.{OutOfStep}

same_time : (t u : Ms) → int_eq t.0 u.0 ≡ true → t ≡ u
same_time t u e = ap (λ (z : ℤ). record { 0 = z }) (equal_from t.0 u.0 e)
  where
    is_tied : (o : Ordering) → is_eq o ≡ true → o ≡ Equal
    is_tied Less e = absurd (cc)
    is_tied Equal e = refl
    is_tied Greater e = absurd (cc)

    tied_ints : (a b : ℤ) → int_cmp a b ≡ Equal → a ≡ b
    tied_ints a b e = grind (arith, ints)

    equal_from : (a b : ℤ) → int_eq a b ≡ true → a ≡ b
    equal_from a b e = tied_ints a b (is_tied (int_cmp a b) e)

-- where no step is out of step, the steps stand at the first instants that are to come
pub has_followed : (ts : List Ms) (steps : List StepCells) → out_of_step ts steps ≡ None → map (λ (step : StepCells). step.at) steps ≡ take (length steps) ts
has_followed ts [] e = refl
has_followed [] (step ∷ steps) e = absurd (cc)
has_followed (t ∷ ts) (step ∷ steps) e =
    elim (int_eq t.0 step.at.0) as (λ b. int_eq t.0 step.at.0 ≡ b → (if b then out_of_step ts steps else Some (OutOfStep (Some t) (Some step.at))) ≡ None → map (λ (step : StepCells). step.at) (step ∷ steps) ≡ take (length (step ∷ steps)) (t ∷ ts)) [
      | true ↦ λ h f.
          let on : map (λ (step : StepCells). step.at) steps ≡ take (length steps) ts = has_followed ts steps f in
          let same : t ≡ step.at = same_time t step.at h in
          cc
      | false ↦ λ h f. absurd (cc)
    ] refl e
