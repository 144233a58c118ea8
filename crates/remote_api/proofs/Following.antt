-- Steps that follow the instants that are to come.
use Rattle.std.proofs.Common.{◌≡◌, ◌∙◌, ℕ, zero, suc, ◌+◌, true, false, List, [], ◌∷◌, drop, take, slice_get, refl, ap, subst, Some, None, add-one, arith}
use Rattle.std.specs.Prelude.{ℤ}
use Rattle.std.specs.List.{AllByRecursion}
use Rattle.std.specs.Ordering.{int_cmp, int_eq, is_eq}
use Rattle.std.specs.declared.cmp.Ordering.{Ordering}
use Rattle.std.specs.declared.cmp.Ordering.TheVariants.{Less, Equal, Greater}
use Rattle.std.proofs.lemmas.Int.{ints}
use Rattle.std.proofs.lemmas.Bool.{cond-true, cond-false}
use Rattle.step_table.specs.declared.cells.StepCells.{StepCells}
use Rattle.ticks.specs.declared.moment.Ms.{Ms}
use Rattle.remote_api.specs.Strays.{out_of_step}
use Rattle.remote_api.specs.declared.frame.Stray.TheVariants.{OutOfStep}

-- what is left of a list from a place on
left_suc : {X : Type 0} (xs : List X) (k : ℕ) (x : X) → slice_get xs k ≡ Some x → drop k xs ≡ x ∷ drop (suc k) xs
left_suc [] k x e = absurd (cc)
left_suc (y ∷ xs) zero x e = cc
left_suc (y ∷ xs) (suc k) x e = left_suc xs k x e

pub left_from : {X : Type 0} (xs : List X) (k : ℕ) (x : X) → slice_get xs k ≡ Some x → drop k xs ≡ x ∷ drop (k + 1) xs
left_from xs k x e = rw add-one (left_suc xs k x e)

pub none_left : {X : Type 0} (xs : List X) (k : ℕ) → slice_get xs k ≡ None → drop k xs ≡ []
none_left [] zero e = refl
none_left [] (suc k) e = refl
none_left (y ∷ xs) zero e = absurd (cc)
none_left (y ∷ xs) (suc k) e = none_left xs k e

-- what holds of the first items holds of one more
taken_suc : {X : Type 0} (P : X → Type 0) (xs : List X) (i : ℕ) (x : X) (ys : List X) → drop i xs ≡ x ∷ ys → P x → AllByRecursion P (take i xs) → AllByRecursion P (take (suc i) xs)
taken_suc P [] zero x ys e h a = absurd (cc)
taken_suc P [] (suc i) x ys e h a = absurd (cc)
taken_suc P (y ∷ xs) zero x ys e h a = let same : x ≡ y = cc in (subst P same h, tt)
taken_suc P (y ∷ xs) (suc i) x ys e h a = (a.0, taken_suc P xs i x ys e h a.1)

pub taken_more : {X : Type 0} (P : X → Type 0) (xs : List X) (i : ℕ) (x : X) (ys : List X) → drop i xs ≡ x ∷ ys → P x → AllByRecursion P (take i xs) → AllByRecursion P (take (i + 1) xs)
taken_more P xs i x ys e h a = rw add-one (taken_suc P xs i x ys e h a)

pub same_time : (t u : Ms) → int_eq t.0 u.0 ≡ true → t ≡ u
same_time t u e = ap (λ (z : ℤ). record { 0 = z }) (equal_from t.0 u.0 e)
  where
    is_tied : (o : Ordering) → is_eq o ≡ true → o ≡ Equal
    is_tied Less e = absurd (cc)
    is_tied Equal e = refl
    is_tied Greater e = absurd (cc)

    tied_ints : (a b : ℤ) → int_cmp a b ≡ Equal → a ≡ b
    tied_ints a b e = grind (arith, ints)

    equal_from : (a b : ℤ) → int_eq a b ≡ true → a ≡ b
    equal_from a b e = tied_ints a b (is_tied (int_cmp a b) e)

module _ (times : List Ms) (k : ℕ) (step : StepCells) (steps : List StepCells) where
  pub in_step : (t : Ms) → slice_get times k ≡ Some t → int_eq t.0 step.at.0 ≡ true → out_of_step (drop k times) (step ∷ steps) ≡ out_of_step (drop (k + 1) times) steps
  in_step t e same = ap (λ ts. out_of_step ts (step ∷ steps)) (left_from times k t e) ∙ cond-true _ _ _ same

  pub other_step : (t : Ms) → slice_get times k ≡ Some t → int_eq t.0 step.at.0 ≡ false → out_of_step (drop k times) (step ∷ steps) ≡ Some (OutOfStep (Some t) (Some step.at))
  other_step t e same = ap (λ ts. out_of_step ts (step ∷ steps)) (left_from times k t e) ∙ cond-false _ _ _ same

  pub no_step : slice_get times k ≡ None → out_of_step (drop k times) (step ∷ steps) ≡ Some (OutOfStep None (Some step.at))
  no_step e = ap (λ ts. out_of_step ts (step ∷ steps)) (none_left times k e)
