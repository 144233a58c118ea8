-- Steps that are fed are kept: under each labels the same values, at places of their own.
use Rattle.std.proofs.Common.{◌≡◌, ◌∙◌, ◌+◌, ◌<◌, ℕ, zero, suc, true, false, cond, List, [], ◌∷◌, ◌++◌, length, map, refl, sym, ap, subst, arith, Option, None, Some, slice_get}
use Rattle.std.specs.Prelude.{ℤ, ◌<ℤ◌, ◌≤ℤ◌, filter, slice_index_or}
use Rattle.std.specs.BTreeMap.{is_at}
use Rattle.std.specs.List.{AllByRecursion, IsDistinct, cons_option}
use Rattle.std.specs.Map.{keys_of, values_of}
use Rattle.std.specs.Option.{option_map}
use Rattle.std.proofs.lemmas.Int.{ints}
use Rattle.label_set.specs.Entries.{recursion_map}
use Rattle.label_set.specs.LabelEquality.{labels_eq}
use Rattle.label_set.specs.LabelOrder.{labels_eq_at, labels_eq_equivalence}
use Rattle.label_set.specs.Labels.{labels_cmp}
use Rattle.step_batch.specs.Laws.{LentRowsAreThoseOfSlots, rows_at}
use Rattle.step_batch.specs.Lent.{ArePlaced, InstantsRise, IsLent, Lent, SlotsRise, entries_of, entry_of, row_of, stage_of, stages}
use Rattle.step_batch.specs.declared.steps.PlacedStep.{PlacedStep}
use Rattle.step_batch.specs.declared.steps.Slot.{Slot}
use Rattle.step_put.specs.Puts.{AreAt}
use Rattle.step_table.specs.Groups.{Names, alone, has_several, items_of}
use Rattle.step_table.specs.Shuffles.{Shuffled}
use Rattle.step_table.specs.Shuffling.{alone_shuffled, items_shuffled, mapped_shuffled, several_shuffled}
use Rattle.step_table.specs.Timed.{StepAt, timed}
use Rattle.step_table.specs.WellFormed.{AreSets}
use Rattle.step_table.specs.declared.step.Row.{Row}
use Rattle.ticks.specs.Listed.{AreRising}
use Rattle.ticks.specs.declared.moment.Ms.{Ms}
use Rattle.xfrac.specs.declared.value.XFrac.{XFrac}
use Rattle.op_subquery.specs.Kept.{AreKept, AreWithin, IsKept, KeptStep, instants_of, kept_in, moved, timed_entries}
use Rattle.op_subquery.specs.Rings.{IsBehind, last_instant, last_kept}

-- ---- places

pub at_place : (labels fed : List Names) (places : List ℕ) (p : ℕ) → AreAt labels fed places → p < length fed → slice_get labels (slice_index_or places p 0) ≡ slice_get fed p
at_place labels [] [] p a h = absurd (omega (arith, h))
at_place labels [] (q ∷ places) p a h = elim a [ ]
at_place labels (n ∷ fed) [] p a h = elim a [ ]
at_place labels (n ∷ fed) (q ∷ places) zero a h = a.0
at_place labels (n ∷ fed) (q ∷ places) (suc p) a h = at_place labels fed places p a.1 (omega (arith, h))

pub same_count : (labels fed : List Names) (places : List ℕ) → AreAt labels fed places → length places ≡ length fed
same_count labels [] [] a = refl
same_count labels [] (q ∷ places) a = elim a [ ]
same_count labels (n ∷ fed) [] a = elim a [ ]
same_count labels (n ∷ fed) (q ∷ places) a = ap suc (same_count labels fed places a.1)

some_below : (labels : List Names) (p : ℕ) (n : Names) → slice_get labels p ≡ Some n → p < length labels
some_below [] p n h = absurd (cc)
some_below (l ∷ labels) zero n h = omega arith
some_below (l ∷ labels) (suc p) n h = let r : p < length labels = some_below labels p n h in omega (arith, r)

pub places_below : (labels fed : List Names) (places : List ℕ) → AreAt labels fed places → AllByRecursion (λ (p : ℕ). p < length labels) places
places_below labels [] [] a = tt
places_below labels [] (q ∷ places) a = elim a [ ]
places_below labels (n ∷ fed) [] a = elim a [ ]
places_below labels (n ∷ fed) (q ∷ places) a = (some_below labels q n a.0, places_below labels fed places a.1)

-- the entries of values at their own places are those of the values that were fed
pub entries_moved : (labels fed : List Names) (places : List ℕ) (low : ℕ) (slots : List Slot) → AreAt labels fed places → SlotsRise low (length fed) slots → entries_of labels (map (moved places) slots) ≡ entries_of fed slots
entries_moved labels fed places low [] a r = refl
entries_moved labels fed places low (s ∷ slots) a r =
    let here : entry_of labels (moved places s) ≡ entry_of fed s = ap (λ (o : Option Names). option_map (λ (names : Names). (names, s.value)) o) (at_place labels fed places s.place a r.1) in
    let there : entries_of labels (map (moved places) slots) ≡ entries_of fed slots = entries_moved labels fed places (s.place + 1) slots a r.2 in
    ap (λ o. cons_option o (entries_of labels (map (moved places) slots))) here ∙ ap (cons_option (entry_of fed s)) there

get_below : (places : List ℕ) (p high : ℕ) → AllByRecursion (λ (q : ℕ). q < high) places → p < length places → slice_index_or places p 0 < high
get_below [] p high a h = absurd (omega (arith, h))
get_below (q ∷ places) zero high a h = a.0
get_below (q ∷ places) (suc p) high a h = get_below places p high a.1 (omega (arith, h))

pub moved_within : (places : List ℕ) (high low : ℕ) (slots : List Slot) → AllByRecursion (λ (p : ℕ). p < high) places → SlotsRise low (length places) slots → AreWithin high (map (moved places) slots)
moved_within places high low [] a r = tt
moved_within places high low (s ∷ slots) a r = (get_below places s.place high a r.1, moved_within places high (s.place + 1) slots a r.2)

-- ---- the same values

short_same : {A : Type 0} (xs ys : List A) → has_several xs ≡ false → Shuffled xs ys → xs ≡ ys
short_same xs ys h s = both xs ys h (sym (several_shuffled xs ys s) ∙ h) (alone_shuffled xs ys s)
  where
    both : {A : Type 0} (xs ys : List A) → has_several xs ≡ false → has_several ys ≡ false → alone xs ≡ alone ys → xs ≡ ys
    both [] [] h k e = refl
    both [] (y ∷ []) h k e = absurd (cc)
    both [] (y ∷ z ∷ ys) h k e = absurd (cc)
    both (x ∷ []) [] h k e = absurd (cc)
    both (x ∷ []) (y ∷ []) h k e = let same : x ≡ y = cc in ap (λ z. z ∷ []) same
    both (x ∷ []) (y ∷ z ∷ ys) h k e = absurd (cc)
    both (x ∷ z ∷ xs) ys h k e = absurd (cc)

timed_rows : (u : Ms) (entries : List (Names × XFrac)) → map (λ (row : Row). (row.labels, (u, row.value))) (map row_of entries) ≡ timed_entries u entries
timed_rows u [] = refl
timed_rows u (e ∷ entries) = ap (λ r. (e.0, (u, e.1)) ∷ r) (timed_rows u entries)

no_items : (u : Ms) (q : Names) (entries : List (Names × XFrac)) → AllByRecursion (λ y. labels_eq q y ≡ false) (keys_of entries) → items_of (timed_entries u entries) q ≡ []
no_items u q [] a = refl
no_items u q (e ∷ entries) a = let f : is_at (labels_cmp q) e.0 ≡ false = labels_eq_at q e.0 ∙ a.0 in rw f (no_items u q entries a.1)

pub none_of : (u : Ms) (q : Names) (entries : List (Names × XFrac)) → AllByRecursion (λ y. labels_eq y q ≡ false) (keys_of entries) → items_of (timed_entries u entries) q ≡ []
none_of u q entries a = no_items u q entries (recursion_map (λ (y : Names). labels_eq y q ≡ false) (λ (y : Names). labels_eq q y ≡ false) (λ y h. labels_eq_equivalence.symm q y ∙ h) (keys_of entries) a)

eq_apart : (q x y : Names) → labels_eq q x ≡ true → labels_eq x y ≡ false → labels_eq q y ≡ false
eq_apart q x y h k = labels_eq_equivalence.congr q x y h ∙ k

few_items : (u : Ms) (q : Names) (entries : List (Names × XFrac)) → IsDistinct labels_eq (keys_of entries) → has_several (items_of (timed_entries u entries) q) ≡ false
unfolding IsDistinct
few_items u q [] d = refl
few_items u q (e ∷ entries) d =
    elim (is_at (labels_cmp q) e.0) as (λ b. is_at (labels_cmp q) e.0 ≡ b → has_several (values_of (cond b ((e.0, (u, e.1)) ∷ filter (λ item. is_at (labels_cmp q) item.0) (timed_entries u entries)) (filter (λ item. is_at (labels_cmp q) item.0) (timed_entries u entries)))) ≡ false) [
      | true ↦ λ h.
          let same : labels_eq q e.0 ≡ true = sym (labels_eq_at q e.0) ∙ h in
          let rest : items_of (timed_entries u entries) q ≡ [] = no_items u q entries (recursion_map (λ (y : Names). labels_eq e.0 y ≡ false) (λ (y : Names). labels_eq q y ≡ false) (λ y k. eq_apart q e.0 y same k) (keys_of entries) d.0) in
          ap (λ (r : List (Ms × XFrac)). has_several ((u, e.1) ∷ r)) rest
      | false ↦ λ h. few_items u q entries d.1
    ] refl

-- ---- labels that are distinct

name_apart : (n : Names) (labels : List Names) (p : ℕ) (m : Names) → AllByRecursion (λ y. labels_eq n y ≡ false) labels → slice_get labels p ≡ Some m → labels_eq n m ≡ false
name_apart n [] p m a h = absurd (cc)
name_apart n (l ∷ labels) zero m a h = let same : l ≡ m = cc in subst (λ (z : Names). labels_eq n z ≡ false) same a.0
name_apart n (l ∷ labels) (suc p) m a h = name_apart n labels p m a.1 h

places_apart : (labels : List Names) (p q : ℕ) (n m : Names) → IsDistinct labels_eq labels → p < q → slice_get labels p ≡ Some n → slice_get labels q ≡ Some m → labels_eq n m ≡ false
unfolding IsDistinct
places_apart [] p q n m d l h k = absurd (cc)
places_apart (x ∷ labels) zero zero n m d l h k = absurd (omega (arith, l))
places_apart (x ∷ labels) zero (suc q) n m d l h k = let same : x ≡ n = cc in subst (λ (z : Names). labels_eq z m ≡ false) same (name_apart x labels q m d.0 k)
places_apart (x ∷ labels) (suc p) zero n m d l h k = absurd (omega (arith, l))
places_apart (x ∷ labels) (suc p) (suc q) n m d l h k = places_apart labels p q n m d.1 (omega (arith, l)) h k

keys_apart : (labels : List Names) (low p : ℕ) (n : Names) (slots : List Slot) → IsDistinct labels_eq labels → slice_get labels p ≡ Some n → p < low → SlotsRise low (length labels) slots → AllByRecursion (λ y. labels_eq n y ≡ false) (keys_of (entries_of labels slots))
keys_apart labels low p n [] d h l r = tt
keys_apart labels low p n (s ∷ slots) d h l r =
    let low' = r.0 in
    each (keys_apart labels (s.place + 1) p n slots d h (omega (arith, l, low')) r.2) (slice_get labels s.place) refl
  where
    each : AllByRecursion (λ y. labels_eq n y ≡ false) (keys_of (entries_of labels slots)) → (o : Option Names) → slice_get labels s.place ≡ o → AllByRecursion (λ y. labels_eq n y ≡ false) (keys_of (cons_option (option_map (λ (names : Names). (names, s.value)) o) (entries_of labels slots)))
    each rest None e = rest
    each rest (Some m) e = let low' = r.0 in (places_apart labels p s.place n m d (omega (arith, l, low')) h e, rest)

distinct_more : (labels : List Names) (s : Slot) (slots : List Slot) → IsDistinct labels_eq labels → SlotsRise (s.place + 1) (length labels) slots → IsDistinct labels_eq (keys_of (entries_of labels slots))
    → (o : Option Names) → slice_get labels s.place ≡ o → IsDistinct labels_eq (keys_of (cons_option (option_map (λ (names : Names). (names, s.value)) o) (entries_of labels slots)))
unfolding IsDistinct
distinct_more labels s slots d r rest None e = rest
distinct_more labels s slots d r rest (Some m) e = (keys_apart labels (s.place + 1) s.place m slots d e (omega arith) r, rest)

keys_distinct : (labels : List Names) (low : ℕ) (slots : List Slot) → IsDistinct labels_eq labels → SlotsRise low (length labels) slots → IsDistinct labels_eq (keys_of (entries_of labels slots))
unfolding IsDistinct
keys_distinct labels low [] d r = tt
keys_distinct labels low (s ∷ slots) d r = distinct_more labels s slots d r.2 (keys_distinct labels (s.place + 1) slots d r.2) (slice_get labels s.place) refl

-- ---- steps that are fed

one_kept : LentRowsAreThoseOfSlots → (lent : Lent) (s : PlacedStep) → IsLent lent → SlotsRise 0 (length lent.labels) s.slots → IsKept (kept_in lent.labels s) (stage_of lent.labels s)
one_kept law lent s is r =
    let distinct = keys_distinct lent.labels 0 s.slots is.distinct r in
    let entries = entries_of lent.labels s.slots in
    let f : Row → Names × (Ms × XFrac) = λ (row : Row). (row.labels, (s.at, row.value)) in
    let shuffled : Shuffled (timed_entries s.at entries) (timed s.at (stage_of lent.labels s).step) =
    subst (λ (items : List (Names × (Ms × XFrac))). Shuffled items (timed s.at (stage_of lent.labels s).step)) (timed_rows s.at entries)
    (mapped_shuffled f (rows_at lent.labels s) (stage_of lent.labels s).step.table.rows (law lent s is r)) in
    record {
      at = refl;
      rows = λ q. short_same (items_of (timed_entries s.at entries) q) (items_of (timed s.at (stage_of lent.labels s).step) q) (few_items s.at q entries distinct) (items_shuffled (timed_entries s.at entries) (timed s.at (stage_of lent.labels s).step) shuffled q);
      marks = refl;
      distinct = distinct;
    }

steps_kept : LentRowsAreThoseOfSlots → (lent : Lent) (steps : List PlacedStep) → IsLent lent → ArePlaced (length lent.labels) steps → AreKept (map (kept_in lent.labels) steps) (map (stage_of lent.labels) steps)
steps_kept law lent [] is r = tt
steps_kept law lent (s ∷ steps) is r = (one_kept law lent s is r.0, steps_kept law lent steps is r.1)

pub lent_kept : LentRowsAreThoseOfSlots → (lent : Lent) → IsLent lent → AreKept (map (kept_in lent.labels) lent.steps) (stages lent)
lent_kept law lent is = steps_kept law lent lent.steps is is.placed

pub kept_append : (kept more : List KeptStep) (steps others : List StepAt) → AreKept kept steps → AreKept more others → AreKept (kept ++ more) (steps ++ others)
kept_append [] more [] others a b = b
kept_append [] more (s ∷ steps) others a b = elim a [ ]
kept_append (k ∷ kept) more [] others a b = elim a [ ]
kept_append (k ∷ kept) more (s ∷ steps) others a b = (a.0, kept_append kept more steps others a.1 b)

-- ---- their instants

instants_append : (xs ys : List StepAt) → instants_of (xs ++ ys) ≡ instants_of xs ++ instants_of ys
instants_append [] ys = refl
instants_append (s ∷ xs) ys = ap (λ r. s.at ∷ r) (instants_append xs ys)

before_all : (t : ℤ) (labels : List Names) (steps : List PlacedStep) → InstantsRise steps → ((s : PlacedStep) (rest : List PlacedStep) → steps ≡ s ∷ rest → t <ℤ s.at.0) → AllByRecursion (λ (u : Ms). t <ℤ u.0) (instants_of (map (stage_of labels) steps))
before_all t labels [] r h = tt
before_all t labels (s ∷ []) r h = (h s [] refl, tt)
before_all t labels (s ∷ u ∷ steps) r h =
    let here : t <ℤ s.at.0 = h s (u ∷ steps) refl in
    let next : s.at.0 <ℤ u.at.0 = r.0 in
    (here, before_all t labels (u ∷ steps) r.1 (λ v rest e. let same : u ≡ v = cc in subst (λ (z : PlacedStep). t <ℤ z.at.0) same (omega (arith, ints, here, next))))

lent_rise : (labels : List Names) (steps : List PlacedStep) → InstantsRise steps → AreRising (instants_of (map (stage_of labels) steps))
lent_rise labels [] r = tt
lent_rise labels (s ∷ []) r = (tt, tt)
lent_rise labels (s ∷ u ∷ steps) r =
    (before_all s.at.0 labels (u ∷ steps) r.1 (λ v rest e. let same : u ≡ v = cc in let next : s.at.0 <ℤ u.at.0 = r.0 in subst (λ (z : PlacedStep). s.at.0 <ℤ z.at.0) same next), lent_rise labels (u ∷ steps) r.1)

all_of_append : (P : Ms → Type 0) (xs ys : List Ms) → AllByRecursion P xs → AllByRecursion P ys → AllByRecursion P (xs ++ ys)
all_of_append P [] ys a b = b
all_of_append P (x ∷ xs) ys a b = (a.0, all_of_append P xs ys a.1 b)

-- the steps begin behind the last one
head_behind : (last : Ms) (steps : List PlacedStep) → IsBehind (Some last) steps → (s : PlacedStep) (rest : List PlacedStep) → steps ≡ s ∷ rest → last.0 <ℤ s.at.0
head_behind last [] b s rest e = absurd (cc)
head_behind last (u ∷ steps) b s rest e = let same : u ≡ s = cc in subst (λ (z : PlacedStep). last.0 <ℤ z.at.0) same b

up_to_last : (fed : List StepAt) (s : StepAt) → AreRising (instants_of (s ∷ fed)) → (last : Ms) → last_instant (s ∷ fed) ≡ Some last → s.at.0 ≤ℤ last.0
up_to_last [] s r last e = let same : s.at ≡ last = cc in subst (λ (z : Ms). s.at.0 ≤ℤ z.0) same (omega (arith, ints))
up_to_last (t ∷ fed) s r last e = let h : s.at.0 <ℤ t.at.0 = r.0.0 in let k : t.at.0 ≤ℤ last.0 = up_to_last fed t r.1 last e in omega (arith, ints, h, k)

last_some : (s : StepAt) (fed : List StepAt) → (last : Ms) × (last_instant (s ∷ fed) ≡ Some last)
last_some s [] = (s.at, refl)
last_some s (t ∷ fed) = last_some t fed

-- fed steps go on rising
pub fed_rise : (labels : List Names) (fed : List StepAt) (steps : List PlacedStep) → AreRising (instants_of fed) → InstantsRise steps → IsBehind (last_instant fed) steps → AreRising (instants_of (fed ++ map (stage_of labels) steps))
fed_rise labels [] steps r i b = lent_rise labels steps i
fed_rise labels (s ∷ fed) steps r i b =
    let some = last_some s fed in
    let up : s.at.0 ≤ℤ some.0.0 = up_to_last fed s r some.0 some.1 in
    let behind : IsBehind (Some some.0) steps = subst (λ (o : Option Ms). IsBehind o steps) some.1 b in
    let later = before_all s.at.0 labels steps i (λ u rest e. let h : some.0.0 <ℤ u.at.0 = head_behind some.0 steps behind u rest e in omega (arith, ints, up, h)) in (
      subst (AllByRecursion (λ (u : Ms). s.at.0 <ℤ u.0)) (sym (instants_append fed (map (stage_of labels) steps))) (all_of_append (λ (u : Ms). s.at.0 <ℤ u.0) (instants_of fed) (instants_of (map (stage_of labels) steps)) r.0 later),
      fed_rise labels fed steps r.1 i (rest_behind fed b),
    )
  where
    rest_behind : (more : List StepAt) → IsBehind (last_instant (s ∷ more)) steps → IsBehind (last_instant more) steps
    rest_behind [] b = tt
    rest_behind (t ∷ more) b = b

pub fed_last : (labels : List Names) (fed : List StepAt) (steps : List PlacedStep) → last_kept (last_instant fed) steps ≡ last_instant (fed ++ map (stage_of labels) steps)
fed_last labels [] steps = of_lent steps
  where
    of_lent : (steps : List PlacedStep) → last_kept None steps ≡ last_instant (map (stage_of labels) steps)
    of_lent [] = refl
    of_lent (s ∷ []) = refl
    of_lent (s ∷ t ∷ steps) = of_lent (t ∷ steps)
fed_last labels (s ∷ []) [] = refl
fed_last labels (s ∷ []) (t ∷ steps) = fed_last labels [] (t ∷ steps)
fed_last labels (s ∷ t ∷ fed) steps = fed_last labels (t ∷ fed) steps

pub all_more : (P : StepAt → Type 0) (fed others : List StepAt) → AllByRecursion P fed → AllByRecursion P others → AllByRecursion P (fed ++ others)
all_more P [] others a b = b
all_more P (s ∷ fed) others a b = (a.0, all_more P fed others a.1 b)

pub stages_sets : (labels : List Names) (steps : List PlacedStep) → AllByRecursion (λ (s : PlacedStep). AreSets s.marks) steps → AllByRecursion (λ (s : StepAt). AreSets s.step.marks) (map (stage_of labels) steps)
stages_sets labels [] a = tt
stages_sets labels (s ∷ steps) a = (a.0, stages_sets labels steps a.1)
