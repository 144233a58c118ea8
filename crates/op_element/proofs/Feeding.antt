-- Steps that are fed one after another, each beside its scalars.
use Rattle.std.proofs.Common.{◌≡◌, ◌∙◌, ◌+◌, ◌<◌, ◌≤◌, ℕ, zero, suc, arith, List, [], ◌∷◌, ◌++◌, length, slice_get, take, sym, ap, subst, Some}
use Rattle.std.specs.List.{AllByRecursion}
use Rattle.std.specs.Option.{option_map}
use Rattle.step_batch.specs.declared.steps.PlacedStep.{PlacedStep}
use Rattle.step_batch.specs.declared.steps.Slot.{Slot}
use Rattle.step_put.specs.Feeding.{some_here}
use Rattle.step_table.specs.Timed.{StepAt}
use Rattle.op_element.specs.Rules.{element_at, elements}
use Rattle.op_element.specs.declared.formula.ElementRule.{ElementRule}

pub few_more : (steps : List PlacedStep) (i : ℕ) (slots : List Slot) → option_map (λ (s : PlacedStep). s.slots) (slice_get steps i) ≡ Some slots → length slots ≤ 1
    → AllByRecursion (λ (s : PlacedStep). length s.slots ≤ 1) (take i steps) → AllByRecursion (λ (s : PlacedStep). length s.slots ≤ 1) (take (i + 1) steps)
few_more [] i slots e l a = absurd (cc)
few_more (s ∷ steps) zero slots e l a = let same : s.slots ≡ slots = cc in (subst (λ (z : List Slot). length z ≤ 1) (sym same) l, tt)
few_more (s ∷ steps) (suc i) slots e l a = let n : suc i + 1 ≡ suc (i + 1) = omega arith in rw n (a.0, few_more steps i slots e l a.1)

-- ---- what is made

-- one step more
elements_more : (rule : ElementRule) (fs gs ss : List StepAt) (i : ℕ) (f g s : StepAt) → slice_get fs i ≡ Some f → slice_get gs i ≡ Some g → slice_get ss i ≡ Some s
    → elements rule (take (i + 1) fs) (take (i + 1) gs) (take (i + 1) ss) ≡ elements rule (take i fs) (take i gs) (take i ss) ++ element_at rule f g s ∷ []
elements_more rule [] gs ss i f g s x y z = absurd (cc)
elements_more rule (p ∷ fs) [] ss i f g s x y z = absurd (cc)
elements_more rule (p ∷ fs) (q ∷ gs) [] i f g s x y z = absurd (cc)
elements_more rule (p ∷ fs) (q ∷ gs) (r ∷ ss) zero f g s x y z =
    let a : p ≡ f = cc in
    let b : q ≡ g = cc in
    let c : r ≡ s = cc in
    λ j. element_at rule (a j) (b j) (c j) ∷ []
elements_more rule (p ∷ fs) (q ∷ gs) (r ∷ ss) (suc i) f g s x y z =
    let n : suc i + 1 ≡ suc (i + 1) = omega arith in rw n (ap (λ (w : List StepAt). element_at rule p q r ∷ w) (elements_more rule fs gs ss i f g s x y z))

pub lent_more : (rule : ElementRule) (fs gs ss old new : List StepAt) (i : ℕ) → i < length fs → i < length gs → i < length ss
    → old ≡ elements rule (take i fs) (take i gs) (take i ss) → ((f g s : StepAt) → slice_get fs i ≡ Some f → slice_get gs i ≡ Some g → slice_get ss i ≡ Some s → new ≡ old ++ element_at rule f g s ∷ [])
    → new ≡ elements rule (take (i + 1) fs) (take (i + 1) gs) (take (i + 1) ss)
lent_more rule fs gs ss old new i x y z o n =
    let f = some_here fs i x in
    let g = some_here gs i y in
    let s = some_here ss i z in
    n f.0 g.0 s.0 f.1 g.1 s.1 ∙ ap (λ (w : List StepAt). w ++ element_at rule f.0 g.0 s.0 ∷ []) o ∙ sym (elements_more rule fs gs ss i f.0 g.0 s.0 f.1 g.1 s.1)
