-- Rows that are put at the places of their labels, one by one.
use Rattle.std.proofs.Common.{◌≡◌, ◌∙◌, ◌+◌, ◌<◌, ℕ, zero, suc, arith, false, List, [], ◌∷◌, ◌++◌, length, get_or, slice_get, take, drop, map, refl, sym, ap, subst, Some}
use Rattle.std.specs.List.{AllByRecursion}
use Rattle.std.specs.List.Sorted.{IsStrictlySortedBy}
use Rattle.std.specs.Map.{keys_of}
use Rattle.std.specs.Ordering.{ordering_reverse}
use Rattle.std.specs.declared.cmp.Ordering.{Ordering}
use Rattle.std.specs.declared.cmp.Ordering.TheVariants.{Less, Equal, Greater}
use Rattle.std.proofs.lemmas.Grind.{fold-append}
use Rattle.std.proofs.lemmas.List.{map-append}
use Rattle.label_set.specs.LabelOrder.{labels_cmp_total}
use Rattle.label_set.specs.Labels.{labels_cmp}
use Rattle.step_table.specs.Groups.{Names}
use Rattle.step_table.specs.Timed.{StepAt}
use Rattle.step_table.specs.WellFormed.{IsTable}
use Rattle.step_table.specs.declared.marks.Marks.{Marks}
use Rattle.step_table.specs.declared.step.Row.{Row}
use Rattle.ticks.specs.declared.moment.Ms.{Ms}
use Rattle.xfrac.specs.declared.value.XFrac.{XFrac}
use Rattle.step_batch.specs.Laws.{SortedRowsAreTables}
use Rattle.step_batch.specs.Lent.{IsFreeFrom, Lent, entry_in, has_slot, last_slots, no_marks, on_last, row_of, stage_with_marks, stage_with_row, step_of}
use Rattle.step_batch.specs.Tables.{in_order, put_into}
use Rattle.step_batch.specs.declared.steps.PlacedStep.{PlacedStep}
use Rattle.step_batch.specs.declared.steps.Slot.{Slot}
use Rattle.step_put.specs.Puts.{AreAt, names_in}

abbrev Entry : Type 0
Entry = Names × XFrac

-- ---- places

pub at_more : (labels names : List Names) (places : List ℕ) (p : ℕ) (n : Names) → AreAt labels names places → slice_get labels p ≡ Some n → AreAt labels (names ++ n ∷ []) (places ++ p ∷ [])
at_more labels [] [] p n a h = (h, tt)
at_more labels [] (q ∷ places) p n a h = absurd a
at_more labels (m ∷ names) [] p n a h = absurd a
at_more labels (m ∷ names) (q ∷ places) p n a h = (a.0, at_more labels names places p n a.1 h)

pub at_kept : (labels now names : List Names) (places : List ℕ) → ((j : ℕ) (n : Names) → slice_get labels j ≡ Some n → slice_get now j ≡ Some n) → AreAt labels names places → AreAt now names places
at_kept labels now [] [] k a = tt
at_kept labels now [] (q ∷ places) k a = absurd a
at_kept labels now (m ∷ names) [] k a = absurd a
at_kept labels now (m ∷ names) (q ∷ places) k a = (k q m a.0, at_kept labels now names places k a.1)

pub take_more : {A : Type 0} (rows : List A) (i : ℕ) (d : A) → i < length rows → take (i + 1) rows ≡ take i rows ++ get_or rows i d ∷ []
take_more [] i d h = absurd (omega arith)
take_more (r ∷ rows) zero d h = refl
take_more (r ∷ rows) (suc i) d h = let e : suc i + 1 ≡ suc (i + 1) = omega arith in rw e (ap (λ rs. r ∷ rs) (take_more rows i d (omega arith)))

-- the places of one more row
pub at_next : (labels now : List Names) (rows : List Row) (places : List ℕ) (i p : ℕ) (d : Row) → i < length rows → ((j : ℕ) (n : Names) → slice_get labels j ≡ Some n → slice_get now j ≡ Some n)
    → AreAt labels (names_in (take i rows)) places → slice_get now p ≡ Some (get_or rows i d).labels → AreAt now (names_in (take (i + 1) rows)) (places ++ p ∷ [])
at_next labels now rows places i p d l k a h =
    let e : names_in (take (i + 1) rows) ≡ names_in (take i rows) ++ (get_or rows i d).labels ∷ [] = ap names_in (take_more rows i d l) ∙ map-append (λ (row : Row). row.labels) (take i rows) (get_or rows i d ∷ []) in
    subst (λ (z : List Names). AreAt now z (places ++ p ∷ [])) (sym e) (at_more now (names_in (take i rows)) places p (get_or rows i d).labels (at_kept labels now (names_in (take i rows)) places k a) h)

pub at_length : (labels : List Names) (rows : List Row) (places : List ℕ) → AreAt labels (names_in rows) places → length places ≡ length rows
at_length labels [] [] a = refl
at_length labels [] (p ∷ places) a = absurd a
at_length labels (r ∷ rows) [] a = absurd a
at_length labels (r ∷ rows) (p ∷ places) a = ap suc (at_length labels rows places a.1)

pub at_place : (labels : List Names) (rows : List Row) (places : List ℕ) (i e : ℕ) (d : Row) → i < length rows → AreAt labels (names_in rows) places → slice_get labels (get_or places i e) ≡ Some (get_or rows i d).labels
at_place labels [] places i e d h a = absurd (omega arith)
at_place labels (r ∷ rows) [] i e d h a = absurd a
at_place labels (r ∷ rows) (p ∷ places) zero e d h a = a.0
at_place labels (r ∷ rows) (p ∷ places) (suc i) e d h a = at_place labels rows places i e d (omega arith) a.1

pub within : (labels : List Names) (i : ℕ) (n : Names) → slice_get labels i ≡ Some n → i < length labels
within [] i n h = absurd (cc)
within (l ∷ labels) zero n h = omega arith
within (l ∷ labels) (suc i) n h = let k = within labels i n h in omega arith

-- ---- free places

-- no place of a row's labels has a slot in the last step
abbrev pub AreFree : List Names → List PlacedStep → List Row → Type 0
AreFree labels steps rows = AllByRecursion (λ (row : Row). (q : ℕ) → slice_get labels q ≡ Some row.labels → has_slot q (last_slots steps) ≡ false) rows

pub all_free : (labels : List Names) (steps : List PlacedStep) (rows : List Row) → ((q : ℕ) → has_slot q (last_slots steps) ≡ false) → AreFree labels steps rows
all_free labels steps [] h = tt
all_free labels steps (r ∷ rows) h = (λ q e. h q, all_free labels steps rows h)

pub free_here : (labels : List Names) (steps : List PlacedStep) (rows : List Row) (i p : ℕ) (d : Row) → i < length rows → AreFree labels steps (drop i rows) → slice_get labels p ≡ Some (get_or rows i d).labels → has_slot p (last_slots steps) ≡ false
free_here labels steps [] i p d l f h = absurd (omega arith)
free_here labels steps (r ∷ rows) zero p d l f h = f.0 p h
free_here labels steps (r ∷ rows) (suc i) p d l f h = free_here labels steps rows i p d (omega arith) f h

not_less : (o : Ordering) → o ≡ ordering_reverse o → o ≡ Less → ⊥
not_less Less e h = absurd (cc)
not_less Equal e h = absurd (cc)
not_less Greater e h = absurd (cc)

never_below : (n m : Names) → n ≡ m → labels_cmp n m ≡ Less → ⊥
never_below n m e h = not_less (labels_cmp n n) (labels_cmp_total.antisymm n n) (ap (labels_cmp n) e ∙ h)

still_free : (labels : List Names) (steps now : List PlacedStep) (rows : List Row) (n : Names) (p : ℕ) → AllByRecursion (λ (m : Names). labels_cmp n m ≡ Less) (names_in rows) → slice_get labels p ≡ Some n
    → ((q : ℕ) → (q ≡ p → ⊥) → has_slot q (last_slots steps) ≡ false → has_slot q (last_slots now) ≡ false) → AreFree labels steps rows → AreFree labels now rows
still_free labels steps now [] n p a h k f = tt
still_free labels steps now (r ∷ rows) n p a h k f =
    (λ q e. k q (λ same. never_below n r.labels (unsome (sym h ∙ ap (slice_get labels) (sym same) ∙ e)) a.0) (f.0 q e), still_free labels steps now rows n p a.1 h k f.1)
  where
    unsome : {x y : Names} → Some x ≡ Some y → x ≡ y
    unsome e = cc

pub free_next : (labels : List Names) (steps now : List PlacedStep) (rows : List Row) (i p : ℕ) (d : Row) → i < length rows → IsTable rows → slice_get labels p ≡ Some (get_or rows i d).labels
    → ((q : ℕ) → (q ≡ p → ⊥) → has_slot q (last_slots steps) ≡ false → has_slot q (last_slots now) ≡ false) → AreFree labels steps (drop i rows) → AreFree labels now (drop (i + 1) rows)
unfolding IsStrictlySortedBy
free_next labels steps now [] i p d l t h k f = absurd (omega arith)
free_next labels steps now (r ∷ rows) zero p d l t h k f = still_free labels steps now rows r.labels p t.0 h k f.1
free_next labels steps now (r ∷ rows) (suc i) p d l t h k f = let e : suc i + 1 ≡ suc (i + 1) = omega arith in rw e (free_next labels steps now rows i p d (omega arith) t.1 h k f)

last_count : (f : PlacedStep → PlacedStep) (xs : List PlacedStep) → length (on_last f xs) ≡ length xs
last_count f [] = refl
last_count f (s ∷ []) = refl
last_count f (s ∷ t ∷ ss) = ap suc (last_count f (t ∷ ss))

pub still_begun : (f : PlacedStep → PlacedStep) (steps now : List PlacedStep) → now ≡ on_last f steps → 0 < length steps → 0 < length now
still_begun f steps now e h = subst (λ (n : ℕ). 0 < n) (sym (ap length e ∙ last_count f steps)) h

-- a place behind a free one is free
pub free_wider : (place : ℕ) (lent : Lent) → IsFreeFrom place lent → IsFreeFrom (place + 1) lent
free_wider place lent f = (f.0, wider (last_slots lent.steps) f.1)
  where
    wider : (slots : List Slot) → AllByRecursion (λ (s : Slot). s.place < place) slots → AllByRecursion (λ (s : Slot). s.place < place + 1) slots
    wider [] a = tt
    wider (s ∷ slots) a = let h = a.0 in (omega arith, wider slots a.1)

-- ---- the step

pub on_last_one : (f : StepAt → StepAt) (front : List StepAt) (s : StepAt) → on_last f (front ++ s ∷ []) ≡ front ++ f s ∷ []
on_last_one f [] s = refl
on_last_one f (x ∷ []) s = refl
on_last_one f (x ∷ y ∷ front) s = ap (λ (r : List StepAt). x ∷ r) (on_last_one f (y ∷ front) s)

back : (es : List Entry) → map entry_in (map row_of es) ≡ es
back [] = refl
back (e ∷ es) = ap (λ r. e ∷ r) (back es)

pub rows_back : (rows : List Row) → map row_of (map entry_in rows) ≡ rows
rows_back [] = refl
rows_back (r ∷ rows) = ap (λ rs. r ∷ rs) (rows_back rows)

-- a row that is put last
stage_more : (at : Ms) (es : List Entry) (marks : Marks) (n : Names) (v : XFrac) → stage_with_row n v (record { at = at; step = step_of es marks }) ≡ record { at = at; step = step_of (es ++ (n, v) ∷ []) marks }
stage_more at es marks n v =
    ap (λ (z : List Entry). record { at = at; step = record { table = record { rows = map row_of z }; marks = marks } }) (ap (λ (z : List Entry). put_into z (n, v)) (back (in_order es)) ∙ sym (fold-append put_into [] es ((n, v) ∷ [])))

pub stages_next : (old new front : List StepAt) (at : Ms) (rows : List Row) (i : ℕ) (d : Row) (v : XFrac) → i < length rows → v ≡ (get_or rows i d).value
    → old ≡ front ++ record { at = at; step = step_of (map entry_in (take i rows)) no_marks } ∷ []
    → new ≡ on_last (stage_with_row (get_or rows i d).labels v) old
    → new ≡ front ++ record { at = at; step = step_of (map entry_in (take (i + 1) rows)) no_marks } ∷ []
stages_next old new front at rows i d v l w o e =
    let g : StepAt → StepAt = stage_with_row (get_or rows i d).labels v in
    let es : List Entry = map entry_in (take i rows) in
    let one : Entry = ((get_or rows i d).labels, v) in
    let more : map entry_in (take (i + 1) rows) ≡ es ++ one ∷ [] = ap (map entry_in) (take_more rows i d l) ∙ map-append entry_in (take i rows) (get_or rows i d ∷ []) ∙ ap (λ (x : XFrac). es ++ ((get_or rows i d).labels, x) ∷ []) (sym w) in
    e ∙ ap (on_last g) o ∙ on_last_one g front (record { at = at; step = step_of es no_marks })
    ∙ ap (λ (s : StepAt). front ++ s ∷ []) (stage_more at es no_marks (get_or rows i d).labels v)
    ∙ ap (λ (z : List Entry). front ++ record { at = at; step = step_of z no_marks } ∷ []) (sym more)

keys_are : (rows : List Row) → keys_of (map entry_in rows) ≡ names_in rows
keys_are [] = refl
keys_are (r ∷ rows) = ap (λ ns. r.labels ∷ ns) (keys_are rows)

-- the step that was put, with its marks
pub stages_whole : SortedRowsAreTables → (old new front : List StepAt) (at : Ms) (rows : List Row) (marks : Marks) → IsTable rows
    → old ≡ front ++ record { at = at; step = step_of (map entry_in rows) no_marks } ∷ []
    → new ≡ on_last (stage_with_marks marks) old → new ≡ front ++ record { at = at; step = record { table = record { rows = rows }; marks = marks } } ∷ []
stages_whole law old new front at rows marks t o e =
    let sorted : in_order (map entry_in rows) ≡ map entry_in rows = law (map entry_in rows) (subst (IsStrictlySortedBy labels_cmp) (sym (keys_are rows)) t) in
    e ∙ ap (on_last (stage_with_marks marks)) o ∙ on_last_one (stage_with_marks marks) front (record { at = at; step = step_of (map entry_in rows) no_marks })
    ∙ ap (λ (rs : List Row). front ++ record { at = at; step = record { table = record { rows = rs }; marks = marks } } ∷ []) (ap (map row_of) sorted ∙ rows_back rows)

-- one more row in the last step
pub stages_row : (was now front : List StepAt) (at : Ms) (es : List Entry) (marks : Marks) (names : Names) (value : XFrac) → now ≡ on_last (stage_with_row names value) was
    → was ≡ front ++ record { at = at; step = step_of es marks } ∷ [] → now ≡ front ++ record { at = at; step = step_of (es ++ (names, value) ∷ []) marks } ∷ []
stages_row was now front at es marks names value put o =
    put ∙ ap (on_last (stage_with_row names value)) o ∙ on_last_one (stage_with_row names value) front (record { at = at; step = step_of es marks })
    ∙ ap (λ (s : StepAt). front ++ s ∷ []) (stage_more at es marks names value)
