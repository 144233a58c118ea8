-- The last step, changed at its place.
use Rattle.std.proofs.Common.{◌≤◌, subst, ◌≡◌, ◌∙◌, ◌<◌, ◌+◌, ℕ, zero, suc, arith, false, List, [], ◌∷◌, ◌++◌, length, map, get_or, slice_get, slice_set, take, refl, sym, ap, Some}
use Rattle.std.specs.Prelude.{nat_lt, ◌||◌, if◌then◌else◌, ◌==◌, Bool, true, ◌<ℤ◌, Result, Ok, Err, OnErr}
use Rattle.std.specs.List.{AllByRecursion, IsDistinct, filter_map}
use Rattle.label_set.specs.LabelEquality.{labels_eq}
use Rattle.step_table.specs.Groups.{Names}
use Rattle.step_table.specs.KeySets.{merged-nil}
use Rattle.step_table.specs.Orders.{mark_cmp, note_cmp}
use Rattle.step_table.specs.Unions.{united}
use Rattle.step_table.specs.declared.marks.Marks.{Marks}
use Rattle.ticks.specs.declared.moment.Ms.{Ms}
use Rattle.xfrac.specs.declared.value.XFrac.{XFrac}
use Rattle.step_batch.specs.Lent.{ArePlaced, blank, IsFreeFrom, insert_slot, IsBefore, InstantsRise, IsLent, LaterThanLast, SlotsRise, entry_in, entry_of, has_slot, last_slots, no_marks, on_last, row_of, stage_of, stage_with_marks, stage_with_row, with_marks, with_slot}
use Rattle.step_batch.specs.Laws.{FreePlacesAreFree}
use Rattle.step_batch.specs.Tables.{in_order, put_into}
use Rattle.step_batch.specs.declared.steps.PlacedStep.{PlacedStep}
use Rattle.step_batch.specs.declared.steps.Slot.{Slot}
use Rattle.step_batch.proofs.Places.{table_put}
use Rattle.std.proofs.lemmas.Bool.Decides.{nat_tests}
use Rattle.step_batch.proofs.Slots.{rise_insert}

-- the last one of a front is changed at its place
pub front_changed : (f : PlacedStep → PlacedStep) (xs : List PlacedStep) (n m : ℕ) (y : PlacedStep) → n + 1 ≡ m → m ≤ length xs → y ≡ get_or xs n y → take m (slice_set xs n (f y)) ≡ on_last f (take m xs)
front_changed f [] n zero y e w h = absurd (omega arith)
front_changed f [] n (suc m) y e w h = absurd (omega arith)
front_changed f (s ∷ ss) n zero y e w h = absurd (omega arith)
front_changed f (s ∷ ss) zero (suc zero) y e w h = ap (λ z. f z ∷ []) h
front_changed f (s ∷ ss) zero (suc (suc m)) y e w h = absurd (omega arith)
front_changed f (s ∷ ss) (suc n) (suc zero) y e w h = absurd (omega arith)
front_changed f (s ∷ []) (suc n) (suc (suc m)) y e w h = absurd (omega arith)
front_changed f (s ∷ t ∷ ss) (suc n) (suc (suc m)) y e w h = ap (λ r. s ∷ r) (front_changed f (t ∷ ss) n (suc m) y (omega arith) (omega arith) h)

-- a change that changes nothing
set_same : (xs : List PlacedStep) (n : ℕ) (y z : PlacedStep) → y ≡ get_or xs n y → n < length xs → z ≡ y → slice_set xs n z ≡ xs
set_same [] n y z h l e = absurd (omega arith)
set_same (x ∷ xs) zero y z h l e = ap (λ r. r ∷ xs) (e ∙ h)
set_same (x ∷ xs) (suc n) y z h l e = ap (λ r. x ∷ r) (set_same xs n y z h (omega arith) e)

pub front_same : (xs : List PlacedStep) (n m : ℕ) (y z : PlacedStep) → y ≡ get_or xs n y → n < length xs → z ≡ y → take m (slice_set xs n z) ≡ take m xs
front_same xs n m y z h l e = ap (take m) (set_same xs n y z h l e)

-- the slots of the last one of a front rise
pub rises_at : (high : ℕ) (steps : List PlacedStep) (n m : ℕ) (y : PlacedStep) → n + 1 ≡ m → m ≤ length steps → y ≡ get_or steps n y → ArePlaced high (take m steps) → SlotsRise 0 high y.slots
rises_at high [] n zero y e w h a = absurd (omega arith)
rises_at high [] n (suc m) y e w h a = absurd (omega arith)
rises_at high (s ∷ steps) n zero y e w h a = absurd (omega arith)
rises_at high (s ∷ steps) zero (suc m) y e w h a = subst (λ (z : PlacedStep). SlotsRise 0 high z.slots) (sym h) a.0
rises_at high (s ∷ steps) (suc n) (suc m) y e w h a = rises_at high steps n m y (omega arith) (omega arith) h a.1

-- ---- the steps of rows

entries_back : (es : List (Names × XFrac)) → map entry_in (map row_of es) ≡ es
entries_back [] = refl
entries_back (e ∷ es) = ap (λ r. e ∷ r) (entries_back es)

stage_put : (labels : List Names) (place : ℕ) (value : XFrac) (names : Names) (s : PlacedStep) → IsDistinct labels_eq labels → slice_get labels place ≡ Some names → has_slot place s.slots ≡ false
    → stage_of labels (with_slot place value s) ≡ stage_with_row names value (stage_of labels s)
stage_put labels place value names s d at n =
    ap (λ (es : List (Names × XFrac)). record { at = s.at; step = record { table = record { rows = map row_of es }; marks = s.marks } }) (table_put labels place value names s.slots d at n)
    ∙ ap (λ (es : List (Names × XFrac)). record { at = s.at; step = record { table = record { rows = map row_of (put_into es (names, value)) }; marks = s.marks } }) (sym (entries_back (in_order (filter_map (entry_of labels) s.slots))))

pub stages_put : (labels : List Names) (place : ℕ) (value : XFrac) (names : Names) (steps : List PlacedStep) → IsDistinct labels_eq labels → slice_get labels place ≡ Some names → has_slot place (last_slots steps) ≡ false
    → map (stage_of labels) (on_last (with_slot place value) steps) ≡ on_last (stage_with_row names value) (map (stage_of labels) steps)
stages_put labels place value names [] d at n = refl
stages_put labels place value names (s ∷ []) d at n = ap (λ r. r ∷ []) (stage_put labels place value names s d at n)
stages_put labels place value names (s ∷ t ∷ ss) d at n = ap (λ r. stage_of labels s ∷ r) (stages_put labels place value names (t ∷ ss) d at n)

pub stages_marks : (labels : List Names) (marks : Marks) (steps : List PlacedStep) → map (stage_of labels) (on_last (with_marks marks) steps) ≡ on_last (stage_with_marks marks) (map (stage_of labels) steps)
stages_marks labels marks [] = refl
stages_marks labels marks (s ∷ []) = refl
stages_marks labels marks (s ∷ t ∷ ss) = ap (λ r. stage_of labels s ∷ r) (stages_marks labels marks (t ∷ ss))

-- ---- what is lent stays in order

pub placed_put : (n : ℕ) (steps : List PlacedStep) (place : ℕ) (value : XFrac) → place < n → has_slot place (last_slots steps) ≡ false → ArePlaced n steps
    → ArePlaced n (on_last (with_slot place value) steps)
placed_put n [] place value w h a = tt
placed_put n (s ∷ []) place value w h a = (rise_insert 0 n s.slots place value a.0 (omega arith) w h, tt)
placed_put n (s ∷ t ∷ ss) place value w h a = (a.0, placed_put n (t ∷ ss) place value w h a.1)

pub placed_marks : (n : ℕ) (steps : List PlacedStep) (marks : Marks) → ArePlaced n steps → ArePlaced n (on_last (with_marks marks) steps)
placed_marks n [] marks a = tt
placed_marks n (s ∷ []) marks a = a
placed_marks n (s ∷ t ∷ ss) marks a = (a.0, placed_marks n (t ∷ ss) marks a.1)

abbrev AtsKept : (PlacedStep → PlacedStep) → Type 0
AtsKept f = (s : PlacedStep) → (f s).at ≡ s.at

follows_last : (f : PlacedStep → PlacedStep) → AtsKept f → (s : PlacedStep) (steps : List PlacedStep) → IsBefore s steps → IsBefore s (on_last f steps)
follows_last f k s [] a = tt
follows_last f k s (t ∷ []) a = subst (λ (z : Ms). s.at.0 <ℤ z.0) (sym (k t)) a
follows_last f k s (t ∷ u ∷ steps) a = a

pub rising_last : (f : PlacedStep → PlacedStep) → AtsKept f → (steps : List PlacedStep) → InstantsRise steps → InstantsRise (on_last f steps)
rising_last f k [] a = tt
rising_last f k (s ∷ []) a = (tt, tt)
rising_last f k (s ∷ t ∷ steps) a = (follows_last f k s (t ∷ steps) a.0, rising_last f k (t ∷ steps) a.1)

pub rising_put : (place : ℕ) (value : XFrac) (steps : List PlacedStep) → InstantsRise steps → InstantsRise (on_last (with_slot place value) steps)
rising_put place value steps a = rising_last (with_slot place value) (λ s. refl) steps a

pub rising_marks : (marks : Marks) (steps : List PlacedStep) → InstantsRise steps → InstantsRise (on_last (with_marks marks) steps)
rising_marks marks steps a = rising_last (with_marks marks) (λ s. refl) steps a

pub placed_begun : (n : ℕ) (at : Ms) (steps : List PlacedStep) → ArePlaced n steps → ArePlaced n (steps ++ blank at ∷ [])
placed_begun n at [] a = (tt, tt)
placed_begun n at (s ∷ steps) a = (a.0, placed_begun n at steps a.1)

pub rising_begun : (at : Ms) (steps : List PlacedStep) → LaterThanLast steps at → InstantsRise steps → InstantsRise (steps ++ blank at ∷ [])
rising_begun at [] l a = (tt, tt)
rising_begun at (s ∷ []) l a = (l, (tt, tt))
rising_begun at (s ∷ t ∷ steps) l a = (a.0, rising_begun at (t ∷ steps) l a.1)

pub lent_put : (labels : List Names) (steps now : List PlacedStep) (place : ℕ) (value : XFrac) → IsLent (record { labels = labels; steps = steps }) → place < length labels → has_slot place (last_slots steps) ≡ false → now ≡ on_last (with_slot place value) steps
    → IsLent (record { labels = labels; steps = now })
lent_put labels steps now place value l w n e = subst (λ (z : List PlacedStep). IsLent (record { labels = labels; steps = z })) (sym e) (record {
  distinct = l.distinct;
  placed = placed_put (length labels) steps place value w n l.placed;
  rising = rising_put place value steps l.rising;
})

pub lent_marks : (labels : List Names) (steps now : List PlacedStep) (marks : Marks) → IsLent (record { labels = labels; steps = steps }) → now ≡ on_last (with_marks marks) steps → IsLent (record { labels = labels; steps = now })
lent_marks labels steps now marks l e = subst (λ (z : List PlacedStep). IsLent (record { labels = labels; steps = z })) (sym e) (record {
  distinct = l.distinct;
  placed = placed_marks (length labels) steps marks l.placed;
  rising = rising_marks marks steps l.rising;
})

pub lent_begun : (labels : List Names) (steps now : List PlacedStep) (at : Ms) → IsLent (record { labels = labels; steps = steps }) → LaterThanLast steps at → now ≡ steps ++ blank at ∷ [] → IsLent (record { labels = labels; steps = now })
lent_begun labels steps now at l w e = subst (λ (z : List PlacedStep). IsLent (record { labels = labels; steps = z })) (sym e) (record {
  distinct = l.distinct;
  placed = placed_begun (length labels) at steps l.placed;
  rising = rising_begun at steps w l.rising;
})

pub lent_same : (labels : List Names) (steps now : List PlacedStep) → IsLent (record { labels = labels; steps = steps }) → now ≡ steps → IsLent (record { labels = labels; steps = now })
lent_same labels steps now l e = subst (λ (z : List PlacedStep). IsLent (record { labels = labels; steps = z })) (sym e) l

pub on_err : {A E P : Type 0} (r : Result A E) → P → OnErr r P
on_err (Ok a) p = tt
on_err (Err e) p = p

-- ---- what stands in the last step

last_of_more : (steps : List PlacedStep) (s : PlacedStep) → last_slots (steps ++ s ∷ []) ≡ s.slots
last_of_more [] s = refl
last_of_more (x ∷ []) s = refl
last_of_more (x ∷ y ∷ steps) s = last_of_more (y ∷ steps) s

some_more : (steps : List PlacedStep) (s : PlacedStep) → 0 < length (steps ++ s ∷ [])
some_more [] s = omega arith
some_more (x ∷ steps) s = omega arith

pub free_begun : (labels : List Names) (steps now : List PlacedStep) (at : Ms) → now ≡ steps ++ blank at ∷ [] → IsFreeFrom 0 (record { labels = labels; steps = now })
free_begun labels steps now at e = subst (λ (z : List PlacedStep). IsFreeFrom 0 (record { labels = labels; steps = z })) (sym e) (some_more steps (blank at), subst (AllByRecursion (λ (s : Slot). s.place < 0)) (sym (last_of_more steps (blank at))) tt)

later_more : (steps : List PlacedStep) (s : PlacedStep) (u : Ms) → s.at.0 <ℤ u.0 → LaterThanLast (steps ++ s ∷ []) u
later_more [] s u h = h
later_more (x ∷ []) s u h = h
later_more (x ∷ y ∷ steps) s u h = later_more (y ∷ steps) s u h

pub later_begun : (steps now : List PlacedStep) (at u : Ms) → now ≡ steps ++ blank at ∷ [] → at.0 <ℤ u.0 → LaterThanLast now u
later_begun steps now at u e h = subst (λ (z : List PlacedStep). LaterThanLast z u) (sym e) (later_more steps (blank at) u h)

later_last : (f : PlacedStep → PlacedStep) → AtsKept f → (steps : List PlacedStep) (u : Ms) → LaterThanLast steps u → LaterThanLast (on_last f steps) u
later_last f k [] u h = tt
later_last f k (s ∷ []) u h = subst (λ (z : Ms). z.0 <ℤ u.0) (sym (k s)) h
later_last f k (s ∷ t ∷ []) u h = subst (λ (z : Ms). z.0 <ℤ u.0) (sym (k t)) h
later_last f k (s ∷ t ∷ v ∷ steps) u h = later_last f k (t ∷ v ∷ steps) u h

pub later_put : (place : ℕ) (value : XFrac) (steps now : List PlacedStep) (u : Ms) → now ≡ on_last (with_slot place value) steps → LaterThanLast steps u → LaterThanLast now u
later_put place value steps now u e h = subst (λ (z : List PlacedStep). LaterThanLast z u) (sym e) (later_last (with_slot place value) (λ s. refl) steps u h)

pub later_marks : (marks : Marks) (steps now : List PlacedStep) (u : Ms) → now ≡ on_last (with_marks marks) steps → LaterThanLast steps u → LaterThanLast now u
later_marks marks steps now u e h = subst (λ (z : List PlacedStep). LaterThanLast z u) (sym e) (later_last (with_marks marks) (λ s. refl) steps u h)

below_put : (low : ℕ) (slots : List Slot) (place : ℕ) (value : XFrac) → low ≤ place → AllByRecursion (λ (s : Slot). s.place < low) slots → AllByRecursion (λ (s : Slot). s.place < place + 1) (insert_slot slots place value)
below_put low [] place value l a = (omega arith, tt)
below_put low (s ∷ slots) place value l a =
    let h : s.place < low = a.0 in
    elim (nat_lt s.place place) as (λ b. AllByRecursion (λ (t : Slot). t.place < place + 1) (if b then s ∷ insert_slot slots place value else record { place = place; value = value } ∷ s ∷ slots)) [
      | true ↦ (omega arith, below_put low slots place value l a.1)
      | false ↦ (omega arith, (omega arith, wider slots a.1))
    ]
  where
    wider : (slots : List Slot) → AllByRecursion (λ (s : Slot). s.place < low) slots → AllByRecursion (λ (s : Slot). s.place < place + 1) slots
    wider [] b = tt
    wider (t ∷ slots) b = (let k : t.place < low = b.0 in omega arith, wider slots b.1)

free_last : (low : ℕ) (steps : List PlacedStep) (place : ℕ) (value : XFrac) → low ≤ place → AllByRecursion (λ (s : Slot). s.place < low) (last_slots steps) → 0 < length steps → AllByRecursion (λ (s : Slot). s.place < place + 1) (last_slots (on_last (with_slot place value) steps))
free_last low [] place value l a w = absurd (omega arith)
free_last low (s ∷ []) place value l a w = below_put low s.slots place value l a
free_last low (s ∷ t ∷ []) place value l a w = below_put low t.slots place value l a
free_last low (s ∷ t ∷ u ∷ steps) place value l a w = free_last low (t ∷ u ∷ steps) place value l a (omega arith)

last_length : (f : PlacedStep → PlacedStep) (xs : List PlacedStep) → length (on_last f xs) ≡ length xs
last_length f [] = refl
last_length f (s ∷ []) = refl
last_length f (s ∷ t ∷ ss) = ap suc (last_length f (t ∷ ss))

pub free_put : (labels : List Names) (low : ℕ) (steps now : List PlacedStep) (place : ℕ) (value : XFrac) → now ≡ on_last (with_slot place value) steps → low ≤ place → IsFreeFrom low (record { labels = labels; steps = steps }) → IsFreeFrom (place + 1) (record { labels = labels; steps = now })
free_put labels low steps now place value e l f = subst (λ (z : List PlacedStep). IsFreeFrom (place + 1) (record { labels = labels; steps = z })) (sym e) (let h = last_length (with_slot place value) steps in let k = f.0 in omega arith, free_last low steps place value l f.1 f.0)

free_marked : (low : ℕ) (steps : List PlacedStep) (marks : Marks) → AllByRecursion (λ (s : Slot). s.place < low) (last_slots steps) → AllByRecursion (λ (s : Slot). s.place < low) (last_slots (on_last (with_marks marks) steps))
free_marked low [] marks a = a
free_marked low (s ∷ []) marks a = a
free_marked low (s ∷ t ∷ []) marks a = a
free_marked low (s ∷ t ∷ u ∷ steps) marks a = free_marked low (t ∷ u ∷ steps) marks a

pub free_marks : (labels : List Names) (low : ℕ) (steps now : List PlacedStep) (marks : Marks) → now ≡ on_last (with_marks marks) steps → IsFreeFrom low (record { labels = labels; steps = steps }) → IsFreeFrom low (record { labels = labels; steps = now })
free_marks labels low steps now marks e f = subst (λ (z : List PlacedStep). IsFreeFrom low (record { labels = labels; steps = z })) (sym e) (let h = last_length (with_marks marks) steps in let k = f.0 in omega arith, free_marked low steps marks f.1)

-- no marks and no notes add nothing
pub united_none : (marks more : Marks) → more ≡ no_marks → marks ≡ united marks more
united_none marks more e = sym (ap (united marks) e ∙ (λ i. record { fatal = merged-nil mark_cmp marks.fatal i; notes = merged-nil note_cmp marks.notes i }))

-- ---- which places have a slot

pub none_begun : (steps now : List PlacedStep) (at : Ms) → now ≡ steps ++ blank at ∷ [] → (q : ℕ) → has_slot q (last_slots now) ≡ false
none_begun steps now at e q = ap (λ (z : List PlacedStep). has_slot q (last_slots z)) e ∙ ap (has_slot q) (last_of_more steps (blank at))

either_false : (b c d : Bool) → (c ≡ false → d ≡ false) → (b || c) ≡ false → (b || d) ≡ false
either_false true c d f h = h
either_false false c d f h = f h

has_inserted : (q place : ℕ) (slots : List Slot) (value : XFrac) → (q == place) ≡ false → has_slot q slots ≡ false → has_slot q (insert_slot slots place value) ≡ false
has_inserted q place [] value n h = rw n refl
has_inserted q place (s ∷ slots) value n h =
    elim (nat_lt s.place place) as (λ b. has_slot q (if b then s ∷ insert_slot slots place value else record { place = place; value = value } ∷ s ∷ slots) ≡ false) [
      | true ↦ either_false (q == s.place) (has_slot q slots) (has_slot q (insert_slot slots place value)) (λ f. has_inserted q place slots value n f) h
      | false ↦ rw n h
    ]

has_in_last : (q place : ℕ) (steps : List PlacedStep) (value : XFrac) → (q == place) ≡ false → has_slot q (last_slots steps) ≡ false → has_slot q (last_slots (on_last (with_slot place value) steps)) ≡ false
has_in_last q place [] value n h = h
has_in_last q place (s ∷ []) value n h = has_inserted q place s.slots value n h
has_in_last q place (s ∷ t ∷ []) value n h = has_inserted q place t.slots value n h
has_in_last q place (s ∷ t ∷ u ∷ steps) value n h = has_in_last q place (t ∷ u ∷ steps) value n h

pub others_put : (q place : ℕ) (steps now : List PlacedStep) (value : XFrac) → now ≡ on_last (with_slot place value) steps → (q ≡ place → ⊥) → has_slot q (last_slots steps) ≡ false → has_slot q (last_slots now) ≡ false
others_put q place steps now value e n h =
    let differ : (q == place) ≡ false = grind (arith, nat_tests, n) in
    ap (λ (z : List PlacedStep). has_slot q (last_slots z)) e ∙ has_in_last q place steps value differ h

last_marked : (marks : Marks) (steps : List PlacedStep) → last_slots (on_last (with_marks marks) steps) ≡ last_slots steps
last_marked marks [] = refl
last_marked marks (s ∷ []) = refl
last_marked marks (s ∷ t ∷ []) = refl
last_marked marks (s ∷ t ∷ u ∷ steps) = last_marked marks (t ∷ u ∷ steps)

pub others_marked : (marks : Marks) (steps now : List PlacedStep) → now ≡ on_last (with_marks marks) steps → last_slots now ≡ last_slots steps
others_marked marks steps now e = ap last_slots e ∙ last_marked marks steps

-- a place behind all slots has none
none_from : (low place : ℕ) (slots : List Slot) → low ≤ place → AllByRecursion (λ (s : Slot). s.place < low) slots → has_slot place slots ≡ false
none_from low place [] l a = refl
none_from low place (s ∷ slots) l a = let h : s.place < low = a.0 in let e : (place == s.place) ≡ false = grind (arith, nat_tests, h, l) in rw e (none_from low place slots l a.1)

pub free_places_are_free : FreePlacesAreFree
free_places_are_free lent low place l f = none_from low place (last_slots lent.steps) l f.1

-- ---- the last step alone

pub last_at : (steps : List PlacedStep) (n : ℕ) (d : PlacedStep) (at : Ms) → n + 1 ≡ length steps → LaterThanLast steps at ≡ ((get_or steps n d).at.0 <ℤ at.0)
last_at [] n d at e = absurd (omega arith)
last_at (s ∷ []) zero d at e = refl
last_at (s ∷ []) (suc n) d at e = absurd (omega arith)
last_at (s ∷ t ∷ steps) zero d at e = absurd (omega arith)
last_at (s ∷ t ∷ steps) (suc n) d at e = last_at (t ∷ steps) n d at (omega arith)

pub last_slots_at : (steps : List PlacedStep) (n : ℕ) (d : PlacedStep) → n + 1 ≡ length steps → last_slots steps ≡ (get_or steps n d).slots
last_slots_at [] n d e = absurd (omega arith)
last_slots_at (s ∷ []) zero d e = refl
last_slots_at (s ∷ []) (suc n) d e = absurd (omega arith)
last_slots_at (s ∷ t ∷ steps) zero d e = absurd (omega arith)
last_slots_at (s ∷ t ∷ steps) (suc n) d e = last_slots_at (t ∷ steps) n d (omega arith)
