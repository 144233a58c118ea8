-- Rows in the order of their places, and the last step that they are put into.
use Rattle.std.proofs.Common.{◌≡◌, ◌≢◌, ◌∙◌, ◌+◌, ◌<◌, ◌≤◌, ℕ, zero, suc, arith, List, [], ◌∷◌, ◌++◌, length, get_or, slice_get, take, drop, map, refl, sym, ap, subst, Some}
use Rattle.std.specs.List.{AllByRecursion}
use Rattle.std.specs.List.Sorted.{IsNonDecreasingBy}
use Rattle.std.proofs.lemmas.Grind.{fold-append}
use Rattle.std.proofs.lemmas.List.Elements.{filter_map-append}
use Rattle.step_batch.specs.Lent.{SlotsRise, entries_of, entry_in, entry_of, no_marks, on_last, row_of, stage_with_marks, stage_with_row, step_of}
use Rattle.step_batch.specs.Tables.{in_order, put_into}
use Rattle.step_batch.specs.declared.steps.Slot.{Slot}
use Rattle.step_table.specs.Groups.{Names}
use Rattle.step_table.specs.Shuffles.{Shuffled, none, kept, swapped, joined}
use Rattle.step_table.specs.Timed.{StepAt}
use Rattle.step_table.specs.Unions.{united}
use Rattle.step_table.specs.declared.marks.Marks.{Marks}
use Rattle.ticks.specs.declared.moment.Ms.{Ms}
use Rattle.xfrac.specs.declared.value.XFrac.{XFrac}
use Rattle.op_set.specs.Rising.{AreApart, AreWithin, DoRise}
use Rattle.op_set.proofs.Named.{take_more}

-- ---- another order

all_shuffled : (P : Slot → Type 0) (xs ys : List Slot) → Shuffled xs ys → AllByRecursion P xs → AllByRecursion P ys
all_shuffled P _ _ none a = tt
all_shuffled P _ _ (kept x xs ys s) a = (a.0, all_shuffled P xs ys s a.1)
all_shuffled P _ _ (swapped x y xs) a = (a.1.0, (a.0, a.1.1))
all_shuffled P _ _ (joined xs ys zs s t) a = all_shuffled P ys zs t (all_shuffled P xs ys s a)

pub within_shuffled : (high : ℕ) (xs ys : List Slot) → Shuffled xs ys → AreWithin high xs → AreWithin high ys
within_shuffled high xs ys s a = all_shuffled (λ (z : Slot). z.place < high) xs ys s a

pub apart_shuffled : (xs ys : List Slot) → Shuffled xs ys → AreApart xs → AreApart ys
apart_shuffled _ _ none a = tt
apart_shuffled _ _ (kept x xs ys s) a = (all_shuffled (λ (t : Slot). x.place ≡ t.place → ⊥) xs ys s a.0, apart_shuffled xs ys s a.1)
apart_shuffled _ _ (swapped x y xs) a = ((λ e. a.0.0 (sym e), a.1.0), (a.0.1, a.1.1))
apart_shuffled _ _ (joined xs ys zs s t) a = apart_shuffled ys zs t (apart_shuffled xs ys s a)

-- ---- rising places

rise_from : (high low : ℕ) (slots : List Slot) → AreWithin high slots → DoRise slots → ((d : Slot) → 0 < length slots → low ≤ (get_or slots 0 d).place) → SlotsRise low high slots
rise_from high low [] a r f = tt
rise_from high low (s ∷ slots) a r f =
    let next : (d : Slot) → 0 < length slots → s.place + 1 ≤ (get_or slots 0 d).place = λ d h. let k : s.place < (get_or slots 0 d).place = r 0 d (omega arith) in omega arith in
    let tail : DoRise slots = λ k d h. let e : suc k + 1 ≡ suc (k + 1) = omega arith in subst (λ (n : ℕ). (get_or slots k d).place < (get_or (s ∷ slots) n d).place) e (r (suc k) d (omega arith)) in
    (f s (omega arith), a.0, rise_from high (s.place + 1) slots a.1 tail next)

pub rise_all : (high : ℕ) (slots : List Slot) → AreWithin high slots → DoRise slots → SlotsRise 0 high slots
rise_all high slots a r = rise_from high 0 slots a r (λ d h. omega arith)

all_at : (P : Slot → Type 0) (slots : List Slot) (i : ℕ) (d : Slot) → i < length slots → AllByRecursion P slots → P (get_or slots i d)
all_at P [] i d h a = absurd (omega arith)
all_at P (s ∷ slots) zero d h a = a.0
all_at P (s ∷ slots) (suc i) d h a = all_at P slots i d (omega arith) a.1

apart_at : (slots : List Slot) (i j : ℕ) (d : Slot) → i < j → j < length slots → AreApart slots → (get_or slots i d).place ≡ (get_or slots j d).place → ⊥
apart_at [] i j d l h a = absurd (omega arith)
apart_at (s ∷ slots) i zero d l h a = absurd (omega arith)
apart_at (s ∷ slots) zero (suc j) d l h a = all_at (λ (t : Slot). s.place ≡ t.place → ⊥) slots j d (omega arith) a.0
apart_at (s ∷ slots) (suc i) (suc j) d l h a = apart_at slots i j d (omega arith) (omega arith) a.1

-- rows in the order of their places, no two of which are one
pub sorted_rise : (slots : List Slot) → IsNonDecreasingBy (λ (s : Slot). s.place) slots → AreApart slots → DoRise slots
sorted_rise slots n a k d h =
    let at_most : (get_or slots k d).place ≤ (get_or slots (k + 1) d).place = n k (k + 1) d (omega arith) h in
    let other : (get_or slots k d).place ≢ (get_or slots (k + 1) d).place = apart_at slots k (k + 1) d (omega arith) h a in
    omega arith

-- ---- rows that are put

pub drop_here : (slots : List Slot) (i : ℕ) (d : Slot) → i < length slots → drop i slots ≡ get_or slots i d ∷ drop (i + 1) slots
drop_here [] i d l = absurd (omega arith)
drop_here (s ∷ slots) zero d l = refl
drop_here (s ∷ slots) (suc i) d l = let e : suc i + 1 ≡ suc (i + 1) = omega arith in rw e (drop_here slots i d (omega arith))

pub get_there : (labels : List Names) (i : ℕ) → i < length labels → slice_get labels i ≡ Some (get_or labels i [])
get_there [] i h = absurd (omega arith)
get_there (l ∷ labels) zero h = refl
get_there (l ∷ labels) (suc i) h = get_there labels i (omega arith)

on_last_one : (f : StepAt → StepAt) (front : List StepAt) (s : StepAt) → on_last f (front ++ s ∷ []) ≡ front ++ f s ∷ []
on_last_one f [] s = refl
on_last_one f (x ∷ []) s = refl
on_last_one f (x ∷ y ∷ front) s = ap (λ (r : List StepAt). x ∷ r) (on_last_one f (y ∷ front) s)

back : (es : List (Names × XFrac)) → map entry_in (map row_of es) ≡ es
back [] = refl
back (e ∷ es) = ap (λ r. e ∷ r) (back es)

stage_more : (at : Ms) (es : List (Names × XFrac)) (marks : Marks) (n : Names) (v : XFrac) → stage_with_row n v (record { at = at; step = step_of es marks }) ≡ record { at = at; step = step_of (es ++ (n, v) ∷ []) marks }
stage_more at es marks n v =
    ap (λ (z : List (Names × XFrac)). record { at = at; step = record { table = record { rows = map row_of z }; marks = marks } }) (ap (λ (z : List (Names × XFrac)). put_into z (n, v)) (back (in_order es)) ∙ sym (fold-append put_into [] es ((n, v) ∷ [])))

entries_more : (labels : List Names) (slots : List Slot) (i : ℕ) (s : Slot) (n : Names) → i < length slots → s ≡ get_or slots i s → slice_get labels s.place ≡ Some n
    → entries_of labels (take (i + 1) slots) ≡ entries_of labels (take i slots) ++ (n, s.value) ∷ []
entries_more labels slots i s n l is h =
    let one : entries_of labels (s ∷ []) ≡ (n, s.value) ∷ [] = rw h refl in
    ap (entries_of labels) (take_more slots i s l) ∙ ap (λ (z : Slot). entries_of labels (take i slots ++ z ∷ [])) (sym is) ∙ filter_map-append (entry_of labels) (take i slots) (s ∷ [])
    ∙ ap (λ (z : List (Names × XFrac)). entries_of labels (take i slots) ++ z) one

-- one more row in the last step
pub row_more : (labels : List Names) (slots : List Slot) (i : ℕ) (s : Slot) (n : Names) (was now front : List StepAt) (at : Ms) (marks : Marks) → i < length slots → s ≡ get_or slots i s → slice_get labels s.place ≡ Some n
    → now ≡ on_last (stage_with_row n s.value) was → was ≡ front ++ record { at = at; step = step_of (entries_of labels (take i slots)) marks } ∷ []
    → now ≡ front ++ record { at = at; step = step_of (entries_of labels (take (i + 1) slots)) marks } ∷ []
row_more labels slots i s n was now front at marks l is h put o =
    let es : List (Names × XFrac) = entries_of labels (take i slots) in
    put ∙ ap (on_last (stage_with_row n s.value)) o ∙ on_last_one (stage_with_row n s.value) front (record { at = at; step = step_of es marks })
    ∙ ap (λ (z : StepAt). front ++ z ∷ []) (stage_more at es marks n s.value)
    ∙ ap (λ (z : List (Names × XFrac)). front ++ record { at = at; step = step_of z marks } ∷ []) (sym (entries_more labels slots i s n l is h))

-- a step that was begun, with the marks and notes of both sides
pub begun_with : (front began one both : List StepAt) (at : Ms) (left right : Marks) → began ≡ front ++ record { at = at; step = step_of [] no_marks } ∷ []
    → one ≡ on_last (stage_with_marks left) began → both ≡ on_last (stage_with_marks right) one → both ≡ front ++ record { at = at; step = step_of [] (united left right) } ∷ []
begun_with front began one both at left right b o t =
    let first : one ≡ front ++ record { at = at; step = step_of [] left } ∷ [] = o ∙ ap (on_last (stage_with_marks left)) b ∙ on_last_one (stage_with_marks left) front (record { at = at; step = step_of [] no_marks }) in
    t ∙ ap (on_last (stage_with_marks right)) first ∙ on_last_one (stage_with_marks right) front (record { at = at; step = step_of [] left })
