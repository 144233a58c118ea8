-- Steps that are fed to a kernel one after another, for proofs: the instants that are still to come, and the stage of a step by what is
-- told of it.
use Rattle.std.proofs.Common.{◌≡◌, ◌∙◌, ◌+◌, ◌<◌, ◌≤◌, ℕ, zero, suc, arith, List, [], ◌∷◌, length, slice_get, take, drop, map, refl, sym, ap, subst, Some}
use Rattle.std.specs.Prelude.{◌<ℤ◌, ⊤}
use Rattle.std.specs.List.{AllByRecursion}
use Rattle.std.specs.Option.{option_map}
use Rattle.step_batch.specs.Lent.{InstantsRise, IsLater, LaterThanLast, Lent, entries_of, stage_of, step_of}
use Rattle.step_batch.specs.declared.steps.PlacedStep.{PlacedStep}
use Rattle.step_batch.specs.declared.steps.Slot.{Slot}
use Rattle.step_table.specs.Groups.{Names}
use Rattle.step_table.specs.Timed.{StepAt}
use Rattle.step_table.specs.declared.marks.Marks.{Marks}
use Rattle.ticks.specs.declared.moment.Ms.{Ms}

-- ---- instants

-- the first of some steps is later than the last that was made
abbrev pub Follow : Lent → List PlacedStep → Type 0
Follow lent [] = ⊤
Follow lent (s ∷ steps) = IsLater lent s.at

pub follow_none : (lent : Lent) (steps : List PlacedStep) → lent.steps ≡ [] → Follow lent steps
follow_none lent [] e = tt
follow_none lent (s ∷ steps) e = subst (λ (z : List PlacedStep). LaterThanLast z s.at) (sym e) tt

pub follow_here : (lent : Lent) (steps : List PlacedStep) (i : ℕ) (t : Ms) → option_map (λ (s : PlacedStep). s.at) (slice_get steps i) ≡ Some t → Follow lent (drop i steps) → IsLater lent t
follow_here lent [] i t e f = absurd (cc)
follow_here lent (s ∷ steps) zero t e f = let same : s.at ≡ t = cc in subst (IsLater lent) same f
follow_here lent (s ∷ steps) (suc i) t e f = follow_here lent steps i t e f

pub follow_next : (lent : Lent) (steps : List PlacedStep) (i : ℕ) (t : Ms) → option_map (λ (s : PlacedStep). s.at) (slice_get steps i) ≡ Some t → InstantsRise steps → ((u : Ms) → t.0 <ℤ u.0 → IsLater lent u) → Follow lent (drop (i + 1) steps)
follow_next lent [] i t e r k = absurd (cc)
follow_next lent (s ∷ []) zero t e r k = tt
follow_next lent (s ∷ u ∷ steps) zero t e r k = let same : s.at ≡ t = cc in k u.at (subst (λ (z : Ms). z.0 <ℤ u.at.0) same r.0)
follow_next lent (s ∷ steps) (suc i) t e r k = let n : suc i + 1 ≡ suc (i + 1) = omega arith in rw n (follow_next lent steps i t e r.1 k)

pub time_some : (steps : List PlacedStep) (i : ℕ) → i < length steps → (t : Ms) × (option_map (λ (s : PlacedStep). s.at) (slice_get steps i) ≡ Some t)
time_some [] i l = absurd (omega arith)
time_some (s ∷ steps) zero l = (s.at, refl)
time_some (s ∷ steps) (suc i) l = time_some steps i (omega arith)

-- ---- stages

unsome : {A : Type 0} (a b : A) → Some a ≡ Some b → a ≡ b
unsome a b e = cc

-- a stage by what is told of its step
pub step_here : (labels : List Names) (steps : List PlacedStep) (i : ℕ) (slots : List Slot) (marks : Marks) (f : StepAt)
    → option_map (λ (s : PlacedStep). s.slots) (slice_get steps i) ≡ Some slots → option_map (λ (s : PlacedStep). s.marks) (slice_get steps i) ≡ Some marks
    → slice_get (map (stage_of labels) steps) i ≡ Some f → f.step ≡ step_of (entries_of labels slots) marks
step_here labels [] i slots marks f b c e = absurd (cc)
step_here labels (s ∷ steps) zero slots marks f b c e =
    let slots_are : s.slots ≡ slots = unsome s.slots slots b in
    let marks_are : s.marks ≡ marks = unsome s.marks marks c in
    let told : step_of (entries_of labels s.slots) s.marks ≡ step_of (entries_of labels slots) marks = λ j. step_of (entries_of labels (slots_are j)) (marks_are j) in
    ap (λ (z : StepAt). z.step) (sym (unsome (stage_of labels s) f e)) ∙ told
step_here labels (s ∷ steps) (suc i) slots marks f b c e = step_here labels steps i slots marks f b c e

pub time_here : (labels : List Names) (steps : List PlacedStep) (i : ℕ) (t : Ms) (f : StepAt) → option_map (λ (s : PlacedStep). s.at) (slice_get steps i) ≡ Some t → slice_get (map (stage_of labels) steps) i ≡ Some f → f.at ≡ t
time_here labels [] i t f b e = absurd (cc)
time_here labels (s ∷ steps) zero t f b e = ap (λ (z : StepAt). z.at) (sym (unsome (stage_of labels s) f e)) ∙ unsome s.at t b
time_here labels (s ∷ steps) (suc i) t f b e = time_here labels steps i t f b e

pub stage_here : (labels : List Names) (steps : List PlacedStep) (i : ℕ) (t : Ms) (slots : List Slot) (marks : Marks) (f : StepAt)
    → option_map (λ (s : PlacedStep). s.at) (slice_get steps i) ≡ Some t → option_map (λ (s : PlacedStep). s.slots) (slice_get steps i) ≡ Some slots → option_map (λ (s : PlacedStep). s.marks) (slice_get steps i) ≡ Some marks
    → slice_get (map (stage_of labels) steps) i ≡ Some f → f ≡ record { at = t; step = step_of (entries_of labels slots) marks }
stage_here labels steps i t slots marks f a b c e =
    let at : f.at ≡ t = time_here labels steps i t f a e in
    let step : f.step ≡ step_of (entries_of labels slots) marks = step_here labels steps i slots marks f b c e in
    λ j. record { at = at j; step = step j }

pub few_here : (steps : List PlacedStep) (i : ℕ) (slots : List Slot) → AllByRecursion (λ (s : PlacedStep). length s.slots ≤ 1) steps → option_map (λ (s : PlacedStep). s.slots) (slice_get steps i) ≡ Some slots → length slots ≤ 1
few_here [] i slots a e = absurd (cc)
few_here (s ∷ steps) zero slots a e = let same : s.slots ≡ slots = cc in subst (λ (z : List Slot). length z ≤ 1) same a.0
few_here (s ∷ steps) (suc i) slots a e = few_here steps i slots a.1 e

-- ---- lists

pub some_here : {A : Type 0} (xs : List A) (i : ℕ) → i < length xs → (x : A) × (slice_get xs i ≡ Some x)
some_here [] i l = absurd (omega arith)
some_here (x ∷ xs) zero l = (x, refl)
some_here (x ∷ xs) (suc i) l = some_here xs i (omega arith)

pub count_of : {A B : Type 0} (f : A → B) (xs : List A) → length (map f xs) ≡ length xs
count_of f [] = refl
count_of f (x ∷ xs) = ap suc (count_of f xs)

pub whole : {A : Type 0} (xs : List A) (i : ℕ) → length xs ≤ i → take i xs ≡ xs
whole [] zero l = refl
whole [] (suc i) l = refl
whole (x ∷ xs) zero l = absurd (omega arith)
whole (x ∷ xs) (suc i) l = ap (λ r. x ∷ r) (whole xs i (omega arith))
