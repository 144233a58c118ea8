-- Steps that wait, as labels are placed and steps are put behind them.
use Rattle.std.proofs.Common.{◌≡◌, ◌∙◌, ◌+◌, ◌<◌, ◌≤◌, ℕ, zero, suc, Bool, true, false, List, [], ◌∷◌, ◌++◌, length, get_or, map, take, refl, sym, ap, subst, arith, Option, None, Some, slice_get}
use Rattle.std.specs.List.{cons_option}
use Rattle.std.specs.Option.{option_map}
use Rattle.std.proofs.lemmas.List.{map-append}
use Rattle.label_set.specs.Entries.{recursion_map}
use Rattle.step_batch.specs.Lent.{Lent, SlotsRise, entries_of, entry_of}
use Rattle.step_batch.specs.declared.steps.PlacedStep.{PlacedStep}
use Rattle.step_batch.specs.declared.steps.Slot.{Slot}
use Rattle.step_put.specs.Placed.{Naming, left_of}
use Rattle.step_put.specs.Puts.{AreAt}
use Rattle.step_put.specs.declared.labels_left.Left.{Left}
use Rattle.step_put.specs.declared.labels_left.Left.TheVariants as kind
use Rattle.step_table.specs.Groups.{Names}
use Rattle.step_table.specs.declared.marks.Marks.{Marks}
use Rattle.ticks.specs.declared.moment.Ms.{Ms}
use Rattle.op_subquery.specs.Kept.{AllPlaced, AreWithin, KeptStep, StepsWithin, kept_in, kept_of, moved}
use Rattle.op_subquery.specs.Rings.{last_kept}
use Rattle.op_subquery.specs.declared.waiting.WaitingStep.{WaitingStep}
use Rattle.op_subquery.proofs.Feeding.{entries_moved}

-- ---- labels that stay at their places

abbrev pub Stay : List Names → List Names → Type 0
Stay old new = (j : ℕ) (names : Names) → slice_get old j ≡ Some names → slice_get new j ≡ Some names

some_at : (labels : List Names) (p : ℕ) → p < length labels → (n : Names) × (slice_get labels p ≡ Some n)
some_at [] p h = absurd (omega (arith, h))
some_at (l ∷ labels) zero h = (l, refl)
some_at (l ∷ labels) (suc p) h = some_at labels p (omega (arith, h))

below : (labels : List Names) (p : ℕ) (n : Names) → slice_get labels p ≡ Some n → p < length labels
below [] p n h = absurd (cc)
below (l ∷ labels) zero n h = omega arith
below (l ∷ labels) (suc p) n h = let r : p < length labels = below labels p n h in omega (arith, r)

module _ (old new : List Names) (stay : Stay old new) where
  still_within : (p : ℕ) → p < length old → p < length new
  still_within p h = let some = some_at old p h in below new p some.0 (stay p some.0 some.1)

  entries_stay : (slots : List Slot) → AreWithin (length old) slots → entries_of new slots ≡ entries_of old slots
  entries_stay [] a = refl
  entries_stay (s ∷ slots) a =
      let some = some_at old s.place a.0 in
      let here : slice_get new s.place ≡ slice_get old s.place = stay s.place some.0 some.1 ∙ sym some.1 in
      ap (λ (o : Option Names). cons_option (option_map (λ (names : Names). (names, s.value)) o) (entries_of new slots)) here ∙ ap (cons_option (entry_of old s)) (entries_stay slots a.1)

  slots_within : (slots : List Slot) → AreWithin (length old) slots → AreWithin (length new) slots
  slots_within slots a = recursion_map (λ (s : Slot). s.place < length old) (λ (s : Slot). s.place < length new) (λ s h. still_within s.place h) slots a

  within_stay : (steps : List WaitingStep) → StepsWithin (length old) steps → StepsWithin (length new) steps
  within_stay steps a = recursion_map (λ (s : WaitingStep). AreWithin (length old) s.slots.items) (λ (s : WaitingStep). AreWithin (length new) s.slots.items) (λ s h. slots_within s.slots.items h) steps a

  kept_stay : (steps : List WaitingStep) → StepsWithin (length old) steps → map (kept_of new) steps ≡ map (kept_of old) steps
  kept_stay [] a = refl
  kept_stay (s ∷ steps) a =
      let entries = entries_stay s.slots.items a.0 in
      let here : kept_of new s ≡ kept_of old s = λ i. record { at = s.at; entries = entries i; marks = s.marks } in
      ap (λ (k : KeptStep). k ∷ map (kept_of new) steps) here ∙ ap (λ (ks : List KeptStep). kept_of old s ∷ ks) (kept_stay steps a.1)

-- the steps that wait are as they were
pub record StepsStay (old new : List Names) (steps : List WaitingStep) : Type 0 where
  pub within : StepsWithin (length new) steps
  pub kept : map (kept_of new) steps ≡ map (kept_of old) steps

pub steps_stay : (fresh : Bool) (old new : List Names) (steps : List WaitingStep) → (fresh ≡ true → steps ≡ []) → StepsWithin (length old) steps → (fresh ≡ false → Stay old new) → StepsStay old new steps
steps_stay true old new steps none a s =
    subst (λ (z : List WaitingStep). StepsStay old new z) (sym (none refl)) (record { within = tt; kept = refl })
steps_stay false old new steps none a s = record { within = within_stay old new (s refl) steps a; kept = kept_stay old new (s refl) steps a }

-- ---- labels that were fed

all_left : (fed : List Names) → map (left_of kind.All) fed ≡ fed
all_left [] = refl
all_left (n ∷ fed) = ap (λ r. n ∷ r) (all_left fed)

pub fed_at : (lent : Lent) (naming : Naming) (fed : List Names) → AllPlaced lent naming → naming.fed ≡ fed → AreAt lent.labels fed naming.places
fed_at lent naming fed placed e =
    let same : map (left_of naming.left) naming.fed ≡ fed = ap (λ (l : Left). map (left_of l) naming.fed) placed.0 ∙ all_left naming.fed ∙ e in
    subst (λ (z : List Names). AreAt lent.labels z naming.places) same placed.1

-- ---- a step that is fed

step_is : (o : Option PlacedStep) (at : Ms) (slots : List Slot) (marks : Marks) → option_map (λ (s : PlacedStep). s.at) o ≡ Some at → option_map (λ (s : PlacedStep). s.slots) o ≡ Some slots → option_map (λ (s : PlacedStep). s.marks) o ≡ Some marks
    → o ≡ Some (record { at = at; slots = slots; marks = marks })
step_is None at slots marks a b c = absurd (cc)
step_is (Some s) at slots marks a b c =
    let e : s.at ≡ at = cc in
    let f : s.slots ≡ slots = cc in
    let g : s.marks ≡ marks = cc in
    λ i. Some (record { at = e i; slots = f i; marks = g i })

pub step_kept : (fed labels : List Names) (places : List ℕ) (o : Option PlacedStep) (at : Ms) (slots own : List Slot) (marks copy : Marks)
    → option_map (λ (s : PlacedStep). s.at) o ≡ Some at → option_map (λ (s : PlacedStep). s.slots) o ≡ Some slots → option_map (λ (s : PlacedStep). s.marks) o ≡ Some marks
    → SlotsRise 0 (length fed) slots → own ≡ map (moved places) slots → copy ≡ marks → AreAt labels fed places
    → option_map (kept_in fed) o ≡ Some (record { at = at; entries = entries_of labels own; marks = copy })
step_kept fed labels places o at slots own marks copy a b c r same copied placed =
    let entries : entries_of fed slots ≡ entries_of labels own = sym (ap (entries_of labels) same ∙ entries_moved labels fed places 0 slots placed r) in
    ap (option_map (kept_in fed)) (step_is o at slots marks a b c) ∙ (λ i. Some (record { at = at; entries = entries i; marks = sym copied i }))

-- one step more
pub taken_next : (fed : List Names) (steps : List PlacedStep) (i : ℕ) (kept : KeptStep) → option_map (kept_in fed) (slice_get steps i) ≡ Some kept → map (kept_in fed) (take (i + 1) steps) ≡ map (kept_in fed) (take i steps) ++ kept ∷ []
taken_next fed [] i kept h = absurd (cc)
taken_next fed (s ∷ steps) zero kept h = let e : kept_in fed s ≡ kept = cc in ap (λ (k : KeptStep). k ∷ []) e
taken_next fed (s ∷ steps) (suc i) kept h =
    let n : suc i + 1 ≡ suc (i + 1) = omega arith in
    ap (λ (k : ℕ). map (kept_in fed) (take k (s ∷ steps))) n ∙ ap (λ (ks : List KeptStep). kept_in fed s ∷ ks) (taken_next fed steps i kept h)

pub taken_all : {A : Type 0} (steps : List A) (i : ℕ) → length steps ≤ i → take i steps ≡ steps
taken_all [] zero l = refl
taken_all [] (suc i) l = refl
taken_all (s ∷ steps) zero l = absurd (omega (arith, l))
taken_all (s ∷ steps) (suc i) l = ap (λ r. s ∷ r) (taken_all steps i (omega (arith, l)))

pub within_append : (high : ℕ) (steps : List WaitingStep) (s : WaitingStep) → StepsWithin high steps → AreWithin high s.slots.items → StepsWithin high (steps ++ s ∷ [])
within_append high [] s a b = (b, tt)
within_append high (t ∷ steps) s a b = (a.0, within_append high steps s a.1 b)

pub kept_more : (labels : List Names) (steps : List WaitingStep) (s : WaitingStep) → map (kept_of labels) (steps ++ s ∷ []) ≡ map (kept_of labels) steps ++ kept_of labels s ∷ []
kept_more labels steps s = map-append (kept_of labels) steps (s ∷ [])

-- the last one of some more steps
pub last_next : (last : Option Ms) (steps : List PlacedStep) (i : ℕ) (t : Ms) → option_map (λ (s : PlacedStep). s.at) (slice_get steps i) ≡ Some t → last_kept last (take (i + 1) steps) ≡ Some t
last_next last [] i t h = absurd (cc)
last_next last (s ∷ steps) zero t h = h
last_next last (s ∷ steps) (suc i) t h =
    let n : suc i + 1 ≡ suc (i + 1) = omega arith in
    ap (λ (k : ℕ). last_kept last (take k (s ∷ steps))) n ∙ last_next (Some s.at) steps i t h

-- ---- slots in their place

pub rise_within : (low high : ℕ) (slots : List Slot) (i : ℕ) (s : Slot) → SlotsRise low high slots → i < length slots → s ≡ get_or slots i s → s.place < high
rise_within low high [] i s r l is = absurd (omega arith)
rise_within low high (z ∷ slots) zero s r l is = subst (λ (y : Slot). y.place < high) (sym is) r.1
rise_within low high (z ∷ slots) (suc i) s r l is = rise_within (z.place + 1) high slots i s r.2 (omega arith) is

pub moved_next : (places : List ℕ) (slots : List Slot) (i : ℕ) (s own : Slot) → i < length slots → s ≡ get_or slots i s → own ≡ moved places s → map (moved places) (take (i + 1) slots) ≡ map (moved places) (take i slots) ++ own ∷ []
moved_next places [] i s own l is e = absurd (omega arith)
moved_next places (z ∷ slots) zero s own l is e = ap (λ (y : Slot). moved places y ∷ []) (sym is) ∙ ap (λ (y : Slot). y ∷ []) (sym e)
moved_next places (z ∷ slots) (suc i) s own l is e =
    let n : suc i + 1 ≡ suc (i + 1) = omega arith in
    ap (λ (k : ℕ). map (moved places) (take k (z ∷ slots))) n ∙ ap (λ (ys : List Slot). moved places z ∷ ys) (moved_next places slots i s own (omega arith) is e)
