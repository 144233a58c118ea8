-- Labels and slots that are copied one by one.
use Rattle.std.proofs.Common.{◌≡◌, ◌∙◌, ℕ, zero, suc, ◌+◌, ◌<◌, ◌≤◌, true, false, List, [], ◌∷◌, ◌++◌, length, get_or, slice_get, take, drop, map, Some, refl, sym, ap, subst, arith}
use Rattle.std.specs.Prelude.{⊤, ◌<ℤ◌, nat_lt}
use Rattle.std.specs.List.{AllByRecursion, IsDistinct, list_any}
use Rattle.std.specs.Option.{option_map}
use Rattle.std.proofs.lemmas.Bool.Decides.{nat_tests}
use Rattle.std.proofs.lemmas.Map.Keys.{IsDistinct-head, IsDistinct-tail}
use Rattle.indexmap.specs.IndexSet.{insert_key}
use Rattle.label_set.specs.LabelEquality.{labels_decide, labels_eq}
use Rattle.step_batch.specs.Lent.{IsLater, LaterThanLast, Lent, SlotsRise, insert_slot, no_marks, on_last, stage_of, with_marks}
use Rattle.step_batch.specs.LentWindows.{TimesRise}
use Rattle.step_batch.specs.declared.steps.PlacedStep.{PlacedStep}
use Rattle.step_batch.specs.declared.steps.Slot.{Slot}
use Rattle.step_table.specs.Groups.{Names}
use Rattle.step_table.specs.Timed.{StepAt, steps_over}
use Rattle.step_table.specs.declared.marks.Marks.{Marks}
use Rattle.ticks.specs.declared.moment.Ms.{Ms}

-- ---- distinct labels keep their places

told_apart : (l n : Names) (ls : List Names) (j : ℕ) → AllByRecursion (λ y. labels_eq l y ≡ false) ls → slice_get ls j ≡ Some n → labels_eq l n ≡ false
told_apart l n [] j a h = absurd (cc)
told_apart l n (m ∷ ls) zero a h = let same : m ≡ n = cc in subst (λ (x : Names). labels_eq l x ≡ false) same a.0
told_apart l n (m ∷ ls) (suc j) a h = told_apart l n ls j a.1 h

alike : (l n : Names) → labels_eq l n ≡ true → labels_eq n l ≡ true
alike l n e = let same = (labels_decide l n (labels_eq l n) refl).0 e in (labels_decide n l (labels_eq n l) refl).1 (sym same)

apart : (l n : Names) → labels_eq l n ≡ false → labels_eq n l ≡ false
apart l n e = elim (labels_eq n l) as (λ b. labels_eq n l ≡ b → b ≡ false) [ true ↦ λ h. let t = alike n l h in absurd (cc) | false ↦ λ h. refl ] refl

not_before : (n : Names) (ls : List Names) (i : ℕ) → IsDistinct labels_eq ls → slice_get ls i ≡ Some n → list_any (labels_eq n) (take i ls) ≡ false
not_before n [] i d e = absurd (cc)
not_before n (l ∷ ls) zero d e = refl
not_before n (l ∷ ls) (suc i) d e =
    let other : labels_eq n l ≡ false = apart l n (told_apart l n ls i (IsDistinct-head labels_eq l ls d) e) in
    rw other (not_before n ls i (IsDistinct-tail labels_eq l ls d) e)

taken_more : (ls : List Names) (i : ℕ) (n : Names) → slice_get ls i ≡ Some n → take (i + 1) ls ≡ take i ls ++ n ∷ []
taken_more [] i n e = absurd (cc)
taken_more (l ∷ ls) zero n e = let same : l ≡ n = cc in ap (λ (x : Names). x ∷ []) same
taken_more (l ∷ ls) (suc i) n e = let k : suc i + 1 ≡ suc (i + 1) = omega arith in rw k (ap (λ (r : List Names). l ∷ r) (taken_more ls i n e))

pub named_more : (ls : List Names) (i : ℕ) (n : Names) → IsDistinct labels_eq ls → slice_get ls i ≡ Some n → insert_key labels_eq (take i ls) n ≡ take (i + 1) ls
named_more ls i n d e = let k = not_before n ls i d e in rw k (sym (taken_more ls i n e))

-- ---- slots that rise go to the end of a step

pub last_changed : (f : PlacedStep → PlacedStep) (front : List PlacedStep) (s : PlacedStep) → on_last f (front ++ s ∷ []) ≡ front ++ f s ∷ []
last_changed f [] s = refl
last_changed f (r ∷ []) s = refl
last_changed f (r ∷ q ∷ front) s = ap (λ (rest : List PlacedStep). r ∷ rest) (last_changed f (q ∷ front) s)

-- how slots go on from one of them
pub record GoesOn (low high : ℕ) (slot : Slot) (rest : List Slot) : Type 0 where
  pub from : low ≤ slot.place
  pub within : slot.place < high
  pub on : SlotsRise (slot.place + 1) high rest

pub rise_here : (low high i : ℕ) (slots : List Slot) (d : Slot) → i < length slots → SlotsRise low high (drop i slots) → GoesOn low high (get_or slots i d) (drop (i + 1) slots)
rise_here low high i [] d l r = absurd (omega arith)
rise_here low high zero (s ∷ slots) d l r = record { from = r.0; within = r.1; on = r.2 }
rise_here low high (suc i) (s ∷ slots) d l r = let e : suc i + 1 ≡ suc (i + 1) = omega arith in rw e (rise_here low high i slots d (omega arith) r)

rise_at : (low high i : ℕ) (slots : List Slot) (d : Slot) → i < length slots → SlotsRise low high slots → low ≤ (get_or slots i d).place
rise_at low high i [] d l r = absurd (omega arith)
rise_at low high zero (s ∷ slots) d l r = r.0
rise_at low high (suc i) (s ∷ slots) d l r = let h = rise_at (s.place + 1) high i slots d (omega arith) r.2 in let k = r.0 in omega arith

pub insert_last : (low high i : ℕ) (slots : List Slot) (d : Slot) → i < length slots → SlotsRise low high slots
    → insert_slot (take i slots) (get_or slots i d).place (get_or slots i d).value ≡ take (i + 1) slots
insert_last low high i [] d l r = absurd (omega arith)
insert_last low high zero (s ∷ slots) d l r = refl
insert_last low high (suc i) (s ∷ slots) d l r =
    let h = rise_at (s.place + 1) high i slots d (omega arith) r.2 in
    let e : nat_lt s.place (get_or slots i d).place ≡ true = grind (arith, nat_tests, h) in
    let k : suc i + 1 ≡ suc (i + 1) = omega arith in
    rw (e, k) (ap (λ (rest : List Slot). s ∷ rest) (insert_last (s.place + 1) high i slots d (omega arith) r.2))

-- ---- one step more

pub unmarked : (marks : Marks) (front : List PlacedStep) (at : Ms) (slots : List Slot)
    → on_last (with_marks marks) (front ++ record { at = at; slots = slots; marks = no_marks } ∷ []) ≡ front ++ record { at = at; slots = slots; marks = marks } ∷ []
unmarked marks front at slots = last_changed (with_marks marks) front (record { at = at; slots = slots; marks = no_marks })

pub first_told : {A : Type 0} (steps rest : List PlacedStep) (s : PlacedStep) (f : PlacedStep → A) (a : A) → option_map f (slice_get steps 0) ≡ Some a → steps ≡ s ∷ rest → a ≡ f s
first_told {A} steps rest s f a e k = let h : Some a ≡ Some (f s) = sym e ∙ ap (λ (ss : List PlacedStep). option_map f (slice_get ss 0)) k in cc

-- ---- one step at many instants

-- the instants that are to come are behind the last step
abbrev pub Follow : Lent → List Ms → Type 0
Follow lent [] = ⊤
Follow lent (t ∷ at) = IsLater lent t

pub follow_none : (lent : Lent) (at : List Ms) → lent.steps ≡ [] → Follow lent at
follow_none lent [] e = tt
follow_none lent (t ∷ at) e = subst (λ (z : List PlacedStep). LaterThanLast z t) (sym e) tt

pub follow_here : (lent : Lent) (at : List Ms) (i : ℕ) (d : Ms) → i < length at → Follow lent (drop i at) → IsLater lent (get_or at i d)
follow_here lent [] i d l f = absurd (omega arith)
follow_here lent (t ∷ at) zero d l f = f
follow_here lent (t ∷ at) (suc i) d l f = follow_here lent at i d (omega arith) f

pub follow_next : (lent : Lent) (at : List Ms) (i : ℕ) (d : Ms) → i < length at → TimesRise at → ((u : Ms) → (get_or at i d).0 <ℤ u.0 → IsLater lent u) → Follow lent (drop (i + 1) at)
follow_next lent [] i d l r k = absurd (omega arith)
follow_next lent (t ∷ []) zero d l r k = tt
follow_next lent (t ∷ u ∷ at) zero d l r k = k u r.0
follow_next lent (t ∷ []) (suc i) d l r k = absurd (omega arith)
follow_next lent (t ∷ u ∷ at) (suc i) d l r k = let e : suc i + 1 ≡ suc (i + 1) = omega arith in rw e (follow_next lent (u ∷ at) i d (omega arith) r.1 k)

-- a step, put at some instants
abbrev pub put_at : PlacedStep → List Ms → List PlacedStep
put_at s at = map (λ (t : Ms). record { at = t; slots = s.slots; marks = s.marks }) at

pub put_more : (s : PlacedStep) (at : List Ms) (i : ℕ) (d : Ms) → i < length at → put_at s (take (i + 1) at) ≡ put_at s (take i at) ++ record { at = get_or at i d; slots = s.slots; marks = s.marks } ∷ []
put_more s [] i d l = absurd (omega arith)
put_more s (t ∷ at) zero d l = refl
put_more s (t ∷ at) (suc i) d l =
    let k : suc i + 1 ≡ suc (i + 1) = omega arith in
    rw k (ap (λ (rest : List PlacedStep). record { at = t; slots = s.slots; marks = s.marks } ∷ rest) (put_more s at i d (omega arith)))

pub repeats_are : (labels : List Names) (s : PlacedStep) (at : List Ms) → map (stage_of labels) (put_at s at) ≡ steps_over (λ t. (stage_of labels s).step) at
repeats_are labels s [] = refl
repeats_are labels s (t ∷ at) = ap (λ (rest : List StepAt). record { at = t; step = (stage_of labels s).step } ∷ rest) (repeats_are labels s at)

-- the one step of a batch that lends one
pub record IsOne (lent : Lent) (one : StepAt) : Type 0 where
  pub step : PlacedStep
  pub steps : lent.steps ≡ step ∷ []
  pub same : (stage_of lent.labels step).step ≡ one.step

pub one_of : (labels : List Names) (steps : List PlacedStep) (one : StepAt) → map (stage_of labels) steps ≡ one ∷ [] → IsOne (record { labels = labels; steps = steps }) one
one_of labels [] one e = absurd (cc)
one_of labels (s ∷ []) one e = record { step = s; steps = refl; same = let h : stage_of labels s ≡ one = cc in ap (λ (x : StepAt). x.step) h }
one_of labels (s ∷ r ∷ steps) one e = absurd (cc)

pub take_all : (i : ℕ) (at : List Ms) → length at ≤ i → take i at ≡ at
take_all zero [] h = refl
take_all zero (t ∷ at) h = absurd (omega arith)
take_all (suc i) [] h = refl
take_all (suc i) (t ∷ at) h = ap (λ (rest : List Ms). t ∷ rest) (take_all i at (omega arith))
