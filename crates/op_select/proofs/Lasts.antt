-- One more row in the last step.
use Rattle.std.proofs.Common.{◌≡◌, ◌∙◌, List, [], ◌∷◌, ◌++◌, map, refl, sym, ap}
use Rattle.std.specs.Prelude.{ℕ, ◌+◌, ◌<◌}
use Rattle.std.specs.List.{AllByRecursion}
use Rattle.std.proofs.Common.{arith}
use Rattle.std.proofs.lemmas.List.Sums.{fold-append}
use Rattle.step_batch.specs.Lent.{IsFreeFrom, Lent, entry_in, last_slots, on_last, row_of, stage_with_row, step_of}
use Rattle.step_batch.specs.Tables.{in_order, put_into}
use Rattle.step_batch.specs.declared.steps.Slot.{Slot}
use Rattle.step_table.specs.Groups.{Names}
use Rattle.step_table.specs.Timed.{StepAt}
use Rattle.step_table.specs.declared.marks.Marks.{Marks}
use Rattle.ticks.specs.declared.moment.Ms.{Ms}
use Rattle.xfrac.specs.declared.value.XFrac.{XFrac}

last_of_front : {A : Type 0} (f : A → A) (front : List A) (x : A) → on_last f (front ++ x ∷ []) ≡ front ++ f x ∷ []
last_of_front f [] x = refl
last_of_front f (y ∷ []) x = refl
last_of_front f (y ∷ z ∷ front) x = ap (λ xs. y ∷ xs) (last_of_front f (z ∷ front) x)

entries_back : (es : List (Names × XFrac)) → map entry_in (map row_of es) ≡ es
entries_back [] = refl
entries_back (e ∷ es) = ap (λ xs. e ∷ xs) (entries_back es)

put_last : (es : List (Names × XFrac)) (names : Names) (value : XFrac) → put_into (map entry_in (map row_of (in_order es))) (names, value) ≡ in_order (es ++ (names, value) ∷ [])
put_last es names value = ap (λ (xs : List (Names × XFrac)). put_into xs (names, value)) (entries_back (in_order es)) ∙ sym (fold-append put_into [] es ((names, value) ∷ []))

pub stages_row : (was now front : List StepAt) (at : Ms) (es : List (Names × XFrac)) (marks : Marks) (names : Names) (value : XFrac) → now ≡ on_last (stage_with_row names value) was
    → was ≡ front ++ record { at = at; step = step_of es marks } ∷ [] → now ≡ front ++ record { at = at; step = step_of (es ++ (names, value) ∷ []) marks } ∷ []
stages_row was now front at es marks names value put is =
    put ∙ ap (on_last (stage_with_row names value)) is ∙ last_of_front (stage_with_row names value) front (record { at = at; step = step_of es marks })
    ∙ ap (λ (xs : List (Names × XFrac)). front ++ record { at = at; step = record { table = record { rows = map row_of xs }; marks = marks } } ∷ []) (put_last es names value)

wider : (place : ℕ) (slots : List Slot) → AllByRecursion (λ (s : Slot). s.place < place) slots → AllByRecursion (λ (s : Slot). s.place < place + 1) slots
wider place [] a = tt
wider place (s ∷ slots) a = let h = a.0 in (omega arith, wider place slots a.1)

pub free_wider : (place : ℕ) (lent : Lent) → IsFreeFrom place lent → IsFreeFrom (place + 1) lent
free_wider place lent f = (f.0, wider place (last_slots lent.steps) f.1)
