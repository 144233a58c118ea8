-- What is made of rows, one row after another, and the step that it comes to.
use Rattle.std.proofs.Common.{◌≡◌, ◌∙◌, ◌+◌, ◌<◌, ◌≤◌, ℕ, zero, suc, arith, Bool, true, false, cond, List, [], ◌∷◌, ◌++◌, length, get_or, slice_get, take, drop, map, refl, sym, ap, subst, Option, Some, None, append-nil}
use Rattle.std.specs.Prelude.{◌&&◌, ◌==◌, IsTrue, Result, Ok, Err, nat_lt, pos, slice_index_or}
use Rattle.std.specs.BTreeSet.{insert_key}
use Rattle.std.specs.List.{IsDistinct, cons_option, filter_map}
use Rattle.std.specs.Option.{option_map, option_to_list}
use Rattle.std.proofs.lemmas.List.Kept.{AllPairs-from_increasing}
use Rattle.label_set.specs.LabelEquality.{labels_eq}
use Rattle.step_batch.specs.Laws.{LentRowsAreTables, LentRowsAreThoseOfSlots}
use Rattle.step_batch.specs.Lent.{SlotsRise, entries_of, entry_of, no_marks, on_last, stage_with_marks, step_of}
use Rattle.step_batch.specs.Lent as lent
use Rattle.step_batch.specs.declared.steps.PlacedStep.{PlacedStep}
use Rattle.step_batch.specs.declared.steps.Slot.{Slot}
use Rattle.step_table.specs.Gathering.{settled_table}
use Rattle.step_table.specs.Groups.{Names, lone_items, shared_names}
use Rattle.std.specs.List.Sorted.{IsStrictlyIncreasing}
use Rattle.step_table.specs.KeySets.{set_more}
use Rattle.step_table.specs.Orders.{mark_cmp}
use Rattle.step_table.specs.Outcomes.{fault_mark, keyed, mark_of, mark_of_value, row_of, settled, taken}
use Rattle.step_table.specs.Shuffles.{SettledIgnoresOrder, Shuffled}
use Rattle.step_table.specs.Timed.{StepAt}
use Rattle.step_table.specs.Unions.{set_of, united, with_fatal}
use Rattle.step_table.specs.declared.marks.Mark.{Mark}
use Rattle.step_table.specs.declared.marks.Mark.TheVariants.{Overflow, Irrational, SameLabelset, OutOfCalendar}
use Rattle.step_table.specs.declared.marks.Marks.{Marks}
use Rattle.step_table.specs.declared.step.Row.{Row}
use Rattle.step_table.specs.declared.step.Step.{Step}
use Rattle.xfrac.specs.declared.value.NumFault.{NumFault}
use Rattle.xfrac.specs.declared.value.NumFault.TheVariants as fault
use Rattle.xfrac.specs.declared.value.XFrac.{XFrac}
use Rattle.step_put.specs.Placed.{PlacesRise, do_rise, has_value, is_behind, left_of, made_step, marks_made, marks_of_faults, noted, one_if, outcomes_of, slot_at, slot_made, slots_made, with_fault}
use Rattle.step_put.specs.Puts.{AreAt}
use Rattle.ticks.specs.declared.moment.Ms.{Ms}
use Rattle.step_put.specs.Clashes.{AreApart, cell_of, cells_of, is_single_at, lone_slots, marks_at, shared_places, slots_at, taken_by}
use Rattle.step_put.specs.declared.cells.Cell.{Cell}
use Rattle.step_put.specs.declared.cells.Cell.TheVariants.{Empty}
use Rattle.step_put.specs.declared.owners.Owners.{Owners}
use Rattle.step_put.proofs.Sharing.{lone_rows, rows_in, shared_marks_are}
use Rattle.step_put.proofs.Lone.{AllBelow, cell_is, cells_count, lone_rises, same_place, taken_more}
use Rattle.step_put.proofs.Putting.{on_last_one, within}
use Rattle.step_put.specs.declared.faults.Faults.{Faults}
use Rattle.step_put.specs.declared.labels_left.Left.{Left}
use Rattle.step_put.specs.declared.placed.PlacedOutcome.{PlacedOutcome}

-- ---- faults

insert_bits : (a b c : Bool) (x : NumFault)
    → insert_key mark_cmp (one_if a Overflow ++ one_if b Irrational ++ one_if c OutOfCalendar) (fault_mark x) ≡ marks_of_faults (with_fault (record { overflow = a; irrational = b; out_of_calendar = c }) x)
insert_bits true true true fault.Overflow = refl
insert_bits true true false fault.Overflow = refl
insert_bits true false true fault.Overflow = refl
insert_bits true false false fault.Overflow = refl
insert_bits false true true fault.Overflow = refl
insert_bits false true false fault.Overflow = refl
insert_bits false false true fault.Overflow = refl
insert_bits false false false fault.Overflow = refl
insert_bits true true true fault.Irrational = refl
insert_bits true true false fault.Irrational = refl
insert_bits true false true fault.Irrational = refl
insert_bits true false false fault.Irrational = refl
insert_bits false true true fault.Irrational = refl
insert_bits false true false fault.Irrational = refl
insert_bits false false true fault.Irrational = refl
insert_bits false false false fault.Irrational = refl
insert_bits true true true fault.OutOfCalendar = refl
insert_bits true true false fault.OutOfCalendar = refl
insert_bits true false true fault.OutOfCalendar = refl
insert_bits true false false fault.OutOfCalendar = refl
insert_bits false true true fault.OutOfCalendar = refl
insert_bits false true false fault.OutOfCalendar = refl
insert_bits false false true fault.OutOfCalendar = refl
insert_bits false false false fault.OutOfCalendar = refl

noted_more : (f : Faults) (v : Result (Option XFrac) NumFault) (ms : List Mark) → marks_of_faults f ≡ set_of mark_cmp ms
    → marks_of_faults (noted f v) ≡ set_of mark_cmp (ms ++ option_to_list (mark_of_value v))
noted_more f (Ok v) ms e = e ∙ ap (set_of mark_cmp) (sym (append-nil ms))
noted_more f (Err x) ms e =
    sym (insert_bits f.overflow f.irrational f.out_of_calendar x) ∙ ap (λ (z : List Mark). insert_key mark_cmp z (fault_mark x)) e ∙ sym (set_more mark_cmp ms (fault_mark x))

-- ---- one more row

pub chosen_more : {A B : Type 0} (f : A → Option B) (xs : List A) (i : ℕ) (d : A) → i < length xs → filter_map f (take (i + 1) xs) ≡ filter_map f (take i xs) ++ option_to_list (f (get_or xs i d))
chosen_more f [] i d h = absurd (omega arith)
chosen_more {A} {B} f (x ∷ xs) zero d h = elim (f x) as (λ (o : Option B). cons_option o [] ≡ option_to_list o) [ None ↦ refl | Some b ↦ refl ]
chosen_more {A} {B} f (x ∷ xs) (suc i) d h =
    let e : suc i + 1 ≡ suc (i + 1) = omega arith in
    rw e (ap (cons_option (f x)) (chosen_more f xs i d (omega arith)) ∙ behind (f x) (filter_map f (take i xs)) (option_to_list (f (get_or xs i d))))
  where
    behind : (o : Option B) (ys zs : List B) → cons_option o (ys ++ zs) ≡ cons_option o ys ++ zs
    behind None ys zs = refl
    behind (Some b) ys zs = refl

pub chosen_append : {A B : Type 0} (f : A → Option B) (xs ys : List A) → filter_map f (xs ++ ys) ≡ filter_map f xs ++ filter_map f ys
chosen_append f [] ys = refl
chosen_append {A} {B} f (x ∷ xs) ys = ap (cons_option (f x)) (chosen_append f xs ys) ∙ behind (f x) (filter_map f xs) (filter_map f ys)
  where
    behind : (o : Option B) (us ws : List B) → cons_option o (us ++ ws) ≡ cons_option o us ++ ws
    behind None us ws = refl
    behind (Some b) us ws = refl

pub faults_more : (f now : Faults) (placed : List PlacedOutcome) (i : ℕ) (r : PlacedOutcome) → i < length placed → r ≡ get_or placed i r → now ≡ noted f r.value
    → marks_of_faults f ≡ set_of mark_cmp (marks_made (take i placed)) → marks_of_faults now ≡ set_of mark_cmp (marks_made (take (i + 1) placed))
faults_more f now placed i r l is n e =
    ap marks_of_faults n ∙ noted_more f r.value (marks_made (take i placed)) e
    ∙ ap (λ (p : PlacedOutcome). set_of mark_cmp (marks_made (take i placed) ++ option_to_list (mark_of_value p.value))) is
    ∙ ap (set_of mark_cmp) (sym (chosen_more (λ (p : PlacedOutcome). mark_of_value p.value) placed i r l))

pub entry_here : (labels : List Names) (place : ℕ) (v : XFrac) (names : Names) → slice_get labels place ≡ Some names → entries_of labels (option_to_list (slot_at place (Ok (Some v)))) ≡ (names, v) ∷ []
entry_here labels place v names h = ap (λ (o : Option Names). cons_option (option_map (λ (n : Names). (n, v)) o) []) h

pub entries_more : (labels : List Names) (places : List ℕ) (placed : List PlacedOutcome) (i : ℕ) (r : PlacedOutcome) → i < length placed → r ≡ get_or placed i r
    → entries_of labels (slots_made places (take (i + 1) placed)) ≡ entries_of labels (slots_made places (take i placed)) ++ entries_of labels (option_to_list (slot_made places r))
entries_more labels places placed i r l is =
    ap (entries_of labels) (chosen_more (slot_made places) placed i r l)
    ∙ chosen_append (entry_of labels) (slots_made places (take i placed)) (option_to_list (slot_made places (get_or placed i r)))
    ∙ ap (λ (p : PlacedOutcome). entries_of labels (slots_made places (take i placed)) ++ entries_of labels (option_to_list (slot_made places p))) (sym is)

-- the cells to which one more row comes
pub cells_more : (count : ℕ) (places : List ℕ) (placed : List PlacedOutcome) (i own : ℕ) (r : PlacedOutcome) (was now : List Cell) → i < length placed → r ≡ get_or placed i r → own ≡ slice_index_or places r.place 0 → own < count
    → was ≡ cells_of count (slots_made places (take i placed)) → now ≡ taken_by was own r.value → now ≡ cells_of count (slots_made places (take (i + 1) placed))
cells_more count places placed i own r was now l is o below w n =
    let done : List Slot = slots_made places (take i placed) in
    n ∙ ap (λ (z : List Cell). taken_by z own r.value) w ∙ one r.value
    ∙ ap (cells_of count) (ap (λ (m : ℕ). done ++ option_to_list (slot_at m r.value)) o ∙ ap (λ (p : PlacedOutcome). done ++ option_to_list (slot_made places p)) is ∙ sym (chosen_more (slot_made places) placed i r l))
  where
    one : (v : Result (Option XFrac) NumFault) → taken_by (cells_of count (slots_made places (take i placed))) own v ≡ cells_of count (slots_made places (take i placed) ++ option_to_list (slot_at own v))
    one (Ok (Some v)) = taken_more count (slots_made places (take i placed)) (record { place = own; value = v }) below
    one (Ok None) = ap (cells_of count) (sym (append-nil (slots_made places (take i placed))))
    one (Err x) = ap (cells_of count) (sym (append-nil (slots_made places (take i placed))))

-- ---- places

pub get_there : (labels : List Names) (i : ℕ) (d : Names) → i < length labels → slice_get labels i ≡ Some (get_or labels i d)
get_there [] i d h = absurd (omega arith)
get_there (l ∷ labels) zero d h = refl
get_there (l ∷ labels) (suc i) d h = get_there labels i d (omega arith)

pub row_within : (high : ℕ) (placed : List PlacedOutcome) (i : ℕ) (r : PlacedOutcome) → i < length placed → r ≡ get_or placed i r → PlacesRise 0 high placed → r.place < high
row_within high placed i r l is rise = subst (λ (p : PlacedOutcome). p.place < high) (sym is) (place_within 0 high placed i r l rise)
  where
    place_within : (low high : ℕ) (placed : List PlacedOutcome) (i : ℕ) (d : PlacedOutcome) → i < length placed → PlacesRise low high placed → (get_or placed i d).place < high
    place_within low high [] i d l r = absurd (omega arith)
    place_within low high (p ∷ placed) zero d l r = r.1
    place_within low high (p ∷ placed) (suc i) d l r = place_within (p.place + 1) high placed i d (omega arith) r.2

slots_from : (places : List ℕ) (placed : List PlacedOutcome) (i : ℕ) (d : PlacedOutcome) → i < length placed → slots_made places (drop i placed) ≡ cons_option (slot_made places (get_or placed i d)) (slots_made places (drop (i + 1) placed))
slots_from places [] i d l = absurd (omega arith)
slots_from places (p ∷ placed) zero d l = refl
slots_from places (p ∷ placed) (suc i) d l = let e : suc i + 1 ≡ suc (i + 1) = omega arith in rw e (slots_from places placed i d (omega arith))

-- the slots of a row and of those behind it
pub slots_here : (places : List ℕ) (placed : List PlacedOutcome) (i : ℕ) (r : PlacedOutcome) → i < length placed → r ≡ get_or placed i r → slots_made places (drop i placed) ≡ cons_option (slot_made places r) (slots_made places (drop (i + 1) placed))
slots_here places placed i r l is = slots_from places placed i r l ∙ ap (λ (p : PlacedOutcome). cons_option (slot_made places p) (slots_made places (drop (i + 1) placed))) (sym is)

-- whether the places rise, one row after another
abbrev do_rise_in : List ℕ → List PlacedOutcome → Option ℕ → Bool
do_rise_in places placed last = do_rise last (slots_made places placed)

pub rise_skip : (last : Option ℕ) (places : List ℕ) (placed : List PlacedOutcome) (i : ℕ) (r : PlacedOutcome) → i < length placed → r ≡ get_or placed i r → has_value r.value ≡ false
    → do_rise_in places (drop i placed) last ≡ do_rise_in places (drop (i + 1) placed) last
rise_skip last places placed i r l is h = ap (do_rise last) (slots_here places placed i r l is) ∙ one (slice_index_or places r.place 0) r.value h
  where
    one : (place : ℕ) (v : Result (Option XFrac) NumFault) → has_value v ≡ false → do_rise last (cons_option (slot_at place v) (slots_made places (drop (i + 1) placed))) ≡ do_rise_in places (drop (i + 1) placed) last
    one place (Ok (Some v)) h = absurd (cc)
    one place (Ok None) h = refl
    one place (Err x) h = refl

pub rise_on : (last : Option ℕ) (places : List ℕ) (placed : List PlacedOutcome) (i : ℕ) (r : PlacedOutcome) (own : ℕ) (b : Bool) → i < length placed → r ≡ get_or placed i r → has_value r.value ≡ true → own ≡ slice_index_or places r.place 0 → is_behind last own ≡ b
    → do_rise_in places (drop i placed) last ≡ (b && do_rise_in places (drop (i + 1) placed) (Some own))
rise_on last places placed i r own b l is h e f =
    ap (do_rise last) (slots_here places placed i r l is) ∙ ap (λ (n : ℕ). do_rise last (cons_option (slot_at n r.value) (slots_made places (drop (i + 1) placed)))) (sym e) ∙ one own r.value h
    ∙ ap (λ (c : Bool). c && do_rise_in places (drop (i + 1) placed) (Some own)) f
  where
    one : (place : ℕ) (v : Result (Option XFrac) NumFault) → has_value v ≡ true → do_rise last (cons_option (slot_at place v) (slots_made places (drop (i + 1) placed))) ≡ (is_behind last place && do_rise_in places (drop (i + 1) placed) (Some place))
    one place (Ok (Some v)) h = refl
    one place (Ok None) h = absurd (cc)
    one place (Err x) h = absurd (cc)

-- the slot of a row may stand alone
pub slot_alone : (low high : ℕ) (o : Option Slot) (slots : List Slot) → SlotsRise low high (cons_option o slots) → SlotsRise low high (option_to_list o)
slot_alone low high None slots r = tt
slot_alone low high (Some s) slots r = (r.0, r.1, tt)

pub left_there : (left : Left) (labels fed : List Names) (places : List ℕ) (i : ℕ) → AreAt labels (map (left_of left) fed) places → i < length fed → slice_get labels (slice_index_or places i 0) ≡ Some (left_of left (get_or fed i []))
left_there left labels [] places i a l = absurd (omega arith)
left_there left labels (f ∷ fed) [] i a l = absurd a
left_there left labels (f ∷ fed) (p ∷ places) zero a l = a.0
left_there left labels (f ∷ fed) (p ∷ places) (suc i) a l = left_there left labels fed places i a.1 (omega arith)

-- ---- places that one labels alone have

module _ (owners : List Owners) (places : List ℕ) (apart : AreApart owners places) where
  row_from : (low : ℕ) (placed : List PlacedOutcome) (i : ℕ) (d : PlacedOutcome) → i < length placed → PlacesRise low (length places) placed → (low ≤ (get_or placed i d).place) × ((get_or placed i d).place < length places)
  row_from low [] i d l r = absurd (omega arith)
  row_from low (p ∷ placed) zero d l r = (r.0, r.1)
  row_from low (p ∷ placed) (suc i) d l r = let h = row_from (p.place + 1) placed i d (omega arith) r.2 in (omega (arith, h.0, r.0), h.1)

  none_from : (low : ℕ) (placed : List PlacedOutcome) (i : ℕ) (d : PlacedOutcome) → i < length placed → PlacesRise low (length places) placed
      → is_single_at owners (slice_index_or places (get_or placed i d).place 0) ≡ true → slots_at (slice_index_or places (get_or placed i d).place 0) (slots_made places (take i placed)) ≡ []
  none_from low [] i d l r e = absurd (omega arith)
  none_from low (p ∷ placed) zero d l r e = refl
  none_from low (p ∷ placed) (suc i) d l r e =
      let far = row_from (p.place + 1) placed i d (omega arith) r.2 in
      let own : ℕ = slice_index_or places (get_or placed i d).place 0 in
      one p.value (λ same. apart p.place (get_or placed i d).place (omega (arith, far.0)) far.1 same) (none_from (p.place + 1) placed i d (omega arith) r.2 e)
    where
      one : (v : Result (Option XFrac) NumFault) → (slice_index_or places p.place 0 ≡ slice_index_or places (get_or placed i d).place 0 → is_single_at owners (slice_index_or places (get_or placed i d).place 0) ≡ false)
          → slots_at (slice_index_or places (get_or placed i d).place 0) (slots_made places (take i placed)) ≡ []
          → slots_at (slice_index_or places (get_or placed i d).place 0) (cons_option (slot_at (slice_index_or places p.place 0) v) (slots_made places (take i placed))) ≡ []
      one (Ok (Some v)) f n =
          elim (slice_index_or places p.place 0 == slice_index_or places (get_or placed i d).place 0) as
          (λ (b : Bool). (slice_index_or places p.place 0 == slice_index_or places (get_or placed i d).place 0) ≡ b
          → cond b (record { place = slice_index_or places p.place 0; value = v } ∷ slots_at (slice_index_or places (get_or placed i d).place 0) (slots_made places (take i placed))) (slots_at (slice_index_or places (get_or placed i d).place 0) (slots_made places (take i placed))) ≡ []) [
            | true ↦ λ h. absurd (let z : true ≡ false = sym e ∙ f (same_place (slice_index_or places p.place 0) (slice_index_or places (get_or placed i d).place 0) h) in cc)
            | false ↦ λ h. n
          ] refl
      one (Ok None) f n = n
      one (Err x) f n = n

  -- nothing came before to a place that is noted as that of one labels alone
  pub still_empty : (placed : List PlacedOutcome) (i own count : ℕ) (r : PlacedOutcome) → i < length placed → r ≡ get_or placed i r → own ≡ slice_index_or places r.place 0 → own < count → PlacesRise 0 (length places) placed
      → is_single_at owners own ≡ true → slice_index_or (cells_of count (slots_made places (take i placed))) own Empty ≡ Empty
  still_empty placed i own count r l is o below rise e =
      let own_is : own ≡ slice_index_or places (get_or placed i r).place 0 = o ∙ ap (λ (p : PlacedOutcome). slice_index_or places p.place 0) is in
      let none : slots_at own (slots_made places (take i placed)) ≡ [] =
      subst (λ (n : ℕ). slots_at n (slots_made places (take i placed)) ≡ []) (sym own_is) (none_from 0 placed i r l rise (ap (is_single_at owners) (sym own_is) ∙ e)) in
      cell_is count own (slots_made places (take i placed)) Empty below ∙ ap cell_of none

-- ---- the step

parts : (b c : Bool) → IsTrue (b && c) → IsTrue b × IsTrue c
parts true true e = (refl, refl)
parts true false e = absurd (cc)
parts false c e = absurd (cc)

behind_is : (m n : ℕ) → nat_lt m n ≡ true → m + 1 ≤ n
behind_is m n h = grind (arith, h)

is_lower : (m n : ℕ) → m < n → nat_lt m n ≡ true
is_lower m n h = grind (arith, h)

-- where the own places of all that is fed rise, those of each step do
module _ (places : List ℕ) (inc : IsStrictlyIncreasing places) where
  rise_over : (start : ℕ) (last : Option ℕ) (placed : List PlacedOutcome) → PlacesRise start (length places) placed → ((n : ℕ) → start ≤ n → n < length places → is_behind last (slice_index_or places n 0) ≡ true) → IsTrue (do_rise last (slots_made places placed))
  rise_over start last [] r f = refl
  rise_over start last (p ∷ placed) r f =
      one (slice_index_or places p.place 0) p.value (f p.place r.0 r.1) (rise_over (p.place + 1) last placed r.2 (λ n a b. let l = r.0 in f n (omega arith) b))
      (rise_over (p.place + 1) (Some (slice_index_or places p.place 0)) placed r.2 (λ n a b. is_lower (slice_index_or places p.place 0) (slice_index_or places n 0) (AllPairs-from_increasing places inc p.place n 0 (omega arith) b)))
    where
      one : (own : ℕ) (v : Result (Option XFrac) NumFault) → is_behind last own ≡ true → IsTrue (do_rise last (slots_made places placed)) → IsTrue (do_rise (Some own) (slots_made places placed)) → IsTrue (do_rise last (cons_option (slot_at own v) (slots_made places placed)))
      one own (Ok (Some v)) b e g = rw b g
      one own (Ok None) b e g = e
      one own (Err x) b e g = e

  pub all_rising : (placed : List PlacedOutcome) → PlacesRise 0 (length places) placed → IsTrue (do_rise None (slots_made places placed))
  all_rising placed r = rise_over 0 None placed r (λ n a b. refl)

module _ (left : Left) (labels fed : List Names) (places : List ℕ) (a : AreAt labels (map (left_of left) fed) places) where
  -- the slots from a place on, where a value comes and where none does
  slots_rise : (start low : ℕ) (last : Option ℕ) (placed : List PlacedOutcome) → PlacesRise start (length fed) placed → ((n : ℕ) → IsTrue (is_behind last n) → low ≤ n) → IsTrue (do_rise last (slots_made places placed)) → SlotsRise low (length labels) (slots_made places placed)
  slots_rise start low last [] r w t = tt
  slots_rise start low last (p ∷ placed) r w t =
      one (slice_index_or places p.place 0) p.value (within labels (slice_index_or places p.place 0) (left_of left (get_or fed p.place [])) (left_there left labels fed places p.place a r.1))
      (λ e. slots_rise (p.place + 1) (slice_index_or places p.place 0 + 1) (Some (slice_index_or places p.place 0)) placed r.2 (λ n h. behind_is (slice_index_or places p.place 0) n h) e) (λ e. slots_rise (p.place + 1) low last placed r.2 w e) t
    where
      one : (own : ℕ) (v : Result (Option XFrac) NumFault) → own < length labels → (IsTrue (do_rise (Some own) (slots_made places placed)) → SlotsRise (own + 1) (length labels) (slots_made places placed))
          → (IsTrue (do_rise last (slots_made places placed)) → SlotsRise low (length labels) (slots_made places placed))
          → IsTrue (do_rise last (cons_option (slot_at own v) (slots_made places placed))) → SlotsRise low (length labels) (cons_option (slot_at own v) (slots_made places placed))
      one own (Ok (Some v)) l f g e = let both = parts (is_behind last own) (do_rise (Some own) (slots_made places placed)) e in (w own both.0, l, f both.1)
      one own (Ok None) l f g e = g e
      one own (Err x) l f g e = g e

  pub all_rise : (placed : List PlacedOutcome) → PlacesRise 0 (length fed) placed → IsTrue (do_rise None (slots_made places placed)) → SlotsRise 0 (length labels) (slots_made places placed)
  all_rise placed r t = slots_rise 0 0 None placed r (λ n h. omega arith) t

  rows_taken : (low : ℕ) (placed : List PlacedOutcome) → PlacesRise low (length fed) placed → filter_map row_of (outcomes_of left fed placed) ≡ map lent.row_of (entries_of labels (slots_made places placed))
  rows_taken low [] r = refl
  rows_taken low (p ∷ placed) r =
      one (slice_index_or places p.place 0) p.value (get_or fed p.place []) (get_there fed p.place [] r.1) (left_there left labels fed places p.place a r.1) (rows_taken (p.place + 1) placed r.2)
    where
      one : (own : ℕ) (v : Result (Option XFrac) NumFault) (names : Names) → slice_get fed p.place ≡ Some names → slice_get labels own ≡ Some (left_of left names) → filter_map row_of (outcomes_of left fed placed) ≡ map lent.row_of (entries_of labels (slots_made places placed))
          → filter_map row_of (cons_option (option_map (λ (n : Names). record { labels = left_of left n; value = v }) (slice_get fed p.place)) (outcomes_of left fed placed)) ≡ map lent.row_of (entries_of labels (cons_option (slot_at own v) (slots_made places placed)))
      one own (Ok (Some v)) names h k e = rw (h, k) (ap (λ (z : List Row). record { labels = left_of left names; value = v } ∷ z) e)
      one own (Ok None) names h k e = rw h e
      one own (Err x) names h k e = rw h e

  marks_taken : (low : ℕ) (placed : List PlacedOutcome) → PlacesRise low (length fed) placed → filter_map mark_of (outcomes_of left fed placed) ≡ marks_made placed
  marks_taken low [] r = refl
  marks_taken low (p ∷ placed) r =
      let here = get_there fed p.place [] r.1 in
      rw here (ap (cons_option (mark_of_value p.value)) (marks_taken (p.place + 1) placed r.2))

  -- where the values go to rising places, they are what is made
  pub made_apart : LentRowsAreThoseOfSlots → LentRowsAreTables → SettledIgnoresOrder → IsDistinct labels_eq labels → (marks : Marks) (placed : List PlacedOutcome) → PlacesRise 0 (length fed) placed → IsTrue (do_rise None (slots_made places placed))
      → made_step left fed marks placed ≡ step_of (entries_of labels (slots_made places placed)) (with_fatal marks (marks_made placed))
  made_apart law tables order d marks placed r t =
      let whole : Step = step_of (entries_of labels (slots_made places placed)) (with_fatal marks (marks_made placed)) in
      let s : PlacedStep = record { at = record { 0 = pos 0 }; slots = slots_made places placed; marks = with_fatal marks (marks_made placed) } in
      let same : Shuffled (map lent.row_of (entries_of labels (slots_made places placed))) whole.table.rows = law (record { labels = labels; steps = [] }) s (record { distinct = d; placed = tt; rising = tt }) (all_rise placed r t) in
      order (taken marks (outcomes_of left fed placed)) whole
      (record { rows = subst (λ (z : List Row). Shuffled z whole.table.rows) (sym (rows_taken 0 placed r)) same; marks = ap (with_fatal marks) (marks_taken 0 placed r) })
      ∙ settled_table whole (tables labels s)

  -- the slots of what is made are at places of labels
  pub all_placed : (low : ℕ) (placed : List PlacedOutcome) → PlacesRise low (length fed) placed → AllBelow (length labels) (slots_made places placed)
  all_placed low [] r = tt
  all_placed low (p ∷ placed) r =
      one (slice_index_or places p.place 0) p.value (within labels (slice_index_or places p.place 0) (left_of left (get_or fed p.place [])) (left_there left labels fed places p.place a r.1)) (all_placed (p.place + 1) placed r.2)
    where
      one : (own : ℕ) (v : Result (Option XFrac) NumFault) → own < length labels → AllBelow (length labels) (slots_made places placed) → AllBelow (length labels) (cons_option (slot_at own v) (slots_made places placed))
      one own (Ok (Some v)) l e = (l, e)
      one own (Ok None) l e = e
      one own (Err x) l e = e

  -- where rows may share labels, those are made that come alone to their places
  pub made_clashing : LentRowsAreThoseOfSlots → LentRowsAreTables → SettledIgnoresOrder → IsDistinct labels_eq labels → (marks : Marks) (placed : List PlacedOutcome) → PlacesRise 0 (length fed) placed
      → made_step left fed marks placed
      ≡ step_of (entries_of labels (lone_slots 0 (cells_of (length labels) (slots_made places placed)))) (with_fatal (with_fatal marks (marks_made placed)) (marks_at labels (shared_places 0 (cells_of (length labels) (slots_made places placed)))))
  made_clashing law tables order d marks placed r =
      let slots : List Slot = slots_made places placed in
      let below : AllBelow (length labels) slots = all_placed 0 placed r in
      let came : List Cell = cells_of (length labels) slots in
      let all : Marks = with_fatal marks (marks_made placed) in
      let made : Step = record { table = record { rows = rows_in labels slots }; marks = all } in
      let lone : Step = record { table = record { rows = rows_in labels (lone_slots 0 came) }; marks = all } in
      let whole : Step = step_of (entries_of labels (lone_slots 0 came)) all in
      let rise : SlotsRise 0 (length labels) (lone_slots 0 came) = lone_rises 0 (length labels) came (let n = cells_count 0 (length labels) slots in omega (arith, n)) in
      let s : PlacedStep = record { at = record { 0 = pos 0 }; slots = lone_slots 0 came; marks = all } in
      let same : Shuffled (rows_in labels (lone_slots 0 came)) whole.table.rows = law (record { labels = labels; steps = [] }) s (record { distinct = d; placed = tt; rising = tt }) rise in
      let taken_is : settled (taken marks (outcomes_of left fed placed)) ≡ settled made =
      ap settled (λ i. record { table = record { rows = rows_taken 0 placed r i }; marks = with_fatal marks (marks_taken 0 placed r i) }) in
      let apart : settled lone ≡ whole = order lone whole (record { rows = same; marks = refl }) ∙ settled_table whole (tables labels s) in
      let left_rows : lone_items (keyed (rows_in labels slots)) ≡ whole.table.rows = lone_rows labels d slots below ∙ ap (λ (z : Step). z.table.rows) apart in
      let left_marks : with_fatal all (map SameLabelset (shared_names (keyed (rows_in labels slots)))) ≡ with_fatal all (marks_at labels (shared_places 0 came)) =
      ap (λ (fs : List Mark). united all (record { fatal = fs; notes = [] })) (shared_marks_are labels d slots below) in
      taken_is ∙ (λ i. record { table = record { rows = left_rows i }; marks = left_marks i })

-- ---- the last step

pub entries_behind : (labels : List Names) (done : List Slot) (s : Slot) (names : Names) → slice_get labels s.place ≡ Some names → entries_of labels (done ++ s ∷ []) ≡ entries_of labels done ++ (names, s.value) ∷ []
entries_behind labels done s names h =
    chosen_append (entry_of labels) done (s ∷ []) ∙ ap (λ (o : Option Names). entries_of labels done ++ cons_option (option_map (λ (n : Names). (n, s.value)) o) []) h

pub mark_behind : (labels : List Names) (places : List ℕ) (place : ℕ) (names : Names) → place < length labels → names ≡ get_or labels place names → marks_at labels (place ∷ places) ≡ SameLabelset names ∷ marks_at labels places
mark_behind labels places place names l e =
    ap (λ (o : Option Names). cons_option (option_map SameLabelset o) (marks_at labels places)) (get_there labels place names l) ∙ ap (λ (n : Names). SameLabelset n ∷ marks_at labels places) (sym e)

-- more marks of a step without rows
pub unite_more : (front was now : List StepAt) (at : Ms) (marks more : Marks) → was ≡ front ++ record { at = at; step = step_of [] marks } ∷ [] → now ≡ on_last (stage_with_marks more) was → now ≡ front ++ record { at = at; step = step_of [] (united marks more) } ∷ []
unite_more front was now at marks more w n = n ∙ ap (on_last (stage_with_marks more)) w ∙ on_last_one (stage_with_marks more) front (record { at = at; step = step_of [] marks })

-- the marks of a step that was begun
pub unite_first : (front began now : List StepAt) (at : Ms) (marks : Marks) → began ≡ front ++ record { at = at; step = step_of [] no_marks } ∷ [] → now ≡ on_last (stage_with_marks marks) began
    → now ≡ front ++ record { at = at; step = step_of [] marks } ∷ []
unite_first front began now at marks b n = n ∙ ap (on_last (stage_with_marks marks)) b ∙ on_last_one (stage_with_marks marks) front (record { at = at; step = step_of [] no_marks })

-- the marks of faults
pub unite_faults : (front put now : List StepAt) (at : Ms) (marks more : Marks) (es : List (Names × XFrac)) (fs ms : List Mark) → put ≡ front ++ record { at = at; step = step_of es marks } ∷ [] → now ≡ on_last (stage_with_marks more) put
    → more ≡ record { fatal = fs; notes = [] } → fs ≡ set_of mark_cmp ms → now ≡ front ++ record { at = at; step = step_of es (with_fatal marks ms) } ∷ []
unite_faults front put now at marks more es fs ms p n m f =
    n ∙ ap (on_last (stage_with_marks more)) p ∙ on_last_one (stage_with_marks more) front (record { at = at; step = step_of es marks })
    ∙ ap (λ (z : Marks). front ++ record { at = at; step = step_of es (united marks z) } ∷ []) (m ∙ ap (λ (z : List Mark). record { fatal = z; notes = [] }) f)
