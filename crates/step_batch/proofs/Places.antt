-- The entries of slots: one more slot, and more labels.
use Rattle.std.proofs.Common.{get_or, ◌≡◌, ◌∙◌, ◌<◌, ◌≤◌, ◌+◌, ℕ, zero, suc, arith, Bool, true, false, List, [], ◌∷◌, ◌++◌, length, map, slice_get, refl, sym, ap, subst, Some, None, Option}
use Rattle.std.proofs.lemmas.List.Quantifiers.{position-Some}
use Rattle.std.proofs.lemmas.Option.{slice_get-get_or}
use Rattle.std.specs.Prelude.{position, fold, nat_lt, ◌||◌, ◌==◌, if◌then◌else◌}
use Rattle.std.specs.List.{AllByRecursion, IsDistinct, cons_option, filter_map, list_any}
use Rattle.std.specs.List.Sorted.{IsStrictlySortedBy}
use Rattle.std.specs.Map.{keys_of}
use Rattle.std.specs.Option.{option_map}
use Rattle.std.proofs.lemmas.Bool.Decides.{nat_tests}
use Rattle.std.proofs.lemmas.Map.Keys.{IsDistinct-head, IsDistinct-tail}
use Rattle.label_set.specs.Entries.{sorted_insert}
use Rattle.label_set.specs.LabelEquality.{labels_eq, labels_decide}
use Rattle.label_set.specs.LabelOrder.{labels_cmp_total}
use Rattle.label_set.specs.Labels.{labels_cmp}
use Rattle.step_table.specs.Groups.{Names}
use Rattle.xfrac.specs.declared.value.XFrac.{XFrac}
use Rattle.indexmap.specs.IndexSet.{insert_key}
use Rattle.step_batch.specs.Tables.{in_order, put_into}
use Rattle.step_batch.specs.Lent.{ArePlaced, IsLent, SlotsRise, entry_of, has_slot, insert_slot, stage_of, step_of}
use Rattle.step_batch.specs.declared.steps.PlacedStep.{PlacedStep}
use Rattle.step_batch.specs.declared.steps.Slot.{Slot}
use Rattle.step_batch.proofs.Orders.{fold_swap}
use Rattle.step_batch.proofs.Slots.{rise_wider}

abbrev Entry : Type 0
Entry = Names × XFrac

-- ---- equal labels have one place

never : true ≡ false → ⊥
never e = cc

told_apart : (l n : Names) (ls : List Names) (j : ℕ) → AllByRecursion (λ y. labels_eq l y ≡ false) ls → slice_get ls j ≡ Some n → l ≡ n → ⊥
told_apart l n [] j a h e = absurd (cc)
told_apart l n (m ∷ ls) zero a h e =
    let same : m ≡ n = cc in
    let alike : labels_eq l m ≡ true = (labels_decide l m (labels_eq l m) refl).1 (e ∙ sym same) in
    never (sym alike ∙ a.0)
told_apart l n (m ∷ ls) (suc j) a h e = told_apart l n ls j a.1 h e

pub one_place : (ls : List Names) (i j : ℕ) (n : Names) → IsDistinct labels_eq ls → slice_get ls i ≡ Some n → slice_get ls j ≡ Some n → i ≡ j
one_place [] i j n d f g = absurd (cc)
one_place (l ∷ ls) zero zero n d f g = refl
one_place (l ∷ ls) zero (suc j) n d f g = let same : l ≡ n = cc in absurd (told_apart l n ls j (IsDistinct-head labels_eq l ls d) g same)
one_place (l ∷ ls) (suc i) zero n d f g = let same : l ≡ n = cc in absurd (told_apart l n ls i (IsDistinct-head labels_eq l ls d) f same)
one_place (l ∷ ls) (suc i) (suc j) n d f g = ap suc (one_place ls i j n (IsDistinct-tail labels_eq l ls d) f g)

-- ---- one more slot

other_slots : (place : ℕ) (s : Slot) (slots : List Slot) → ((place == s.place) || has_slot place slots) ≡ false → has_slot place slots ≡ false
other_slots place s slots h = elim (place == s.place) as (λ c. (c || has_slot place slots) ≡ false → has_slot place slots ≡ false) [ true ↦ λ f. absurd (cc) | false ↦ λ f. f ] h

not_this : (place : ℕ) (s : Slot) (slots : List Slot) → ((place == s.place) || has_slot place slots) ≡ false → place ≡ s.place → ⊥
not_this place s slots h e = let f : (place == s.place) ≡ true = grind (arith, nat_tests, e) in never (sym (ap (λ (c : Bool). c || has_slot place slots) f) ∙ h)

pub others_apart : (labels : List Names) (place : ℕ) (names : Names) (slots : List Slot) → IsDistinct labels_eq labels → slice_get labels place ≡ Some names → has_slot place slots ≡ false
    → AllByRecursion (λ (e : Entry). names ≡ e.0 → ⊥) (filter_map (entry_of labels) slots)
others_apart labels place names [] d at n = tt
others_apart labels place names (s ∷ slots) d at n =
    elim (slice_get labels s.place) as (λ o. slice_get labels s.place ≡ o → AllByRecursion (λ (e : Entry). names ≡ e.0 → ⊥) (cons_option (option_map (λ (m : Names). (m, s.value)) o) (filter_map (entry_of labels) slots))) [
      | None ↦ λ f. others_apart labels place names slots d at (other_slots place s slots n)
      | Some m ↦ λ f. (λ e. not_this place s slots n (one_place labels place s.place m d (at ∙ ap Some e) f), others_apart labels place names slots d at (other_slots place s slots n))
    ] refl

entries_put : (labels : List Names) (place : ℕ) (value : XFrac) (names : Names) (slots : List Slot) (done : List Entry) → IsDistinct labels_eq labels → slice_get labels place ≡ Some names → has_slot place slots ≡ false
    → IsStrictlySortedBy labels_cmp (keys_of done) → fold put_into done (filter_map (entry_of labels) (insert_slot slots place value)) ≡ put_into (fold put_into done (filter_map (entry_of labels) slots)) (names, value)
entries_put labels place value names [] done d at n s = rw at refl
entries_put labels place value names (x ∷ slots) done d at n s =
    elim (nat_lt x.place place) as (λ c. fold put_into done (filter_map (entry_of labels) (if c then x ∷ insert_slot slots place value else record { place = place; value = value } ∷ x ∷ slots)) ≡ put_into (fold put_into done (filter_map (entry_of labels) (x ∷ slots))) (names, value)) [
      | true ↦ elim (slice_get labels x.place) as (λ o. fold put_into done (cons_option (option_map (λ (m : Names). (m, x.value)) o) (filter_map (entry_of labels) (insert_slot slots place value))) ≡ put_into (fold put_into done (cons_option (option_map (λ (m : Names). (m, x.value)) o) (filter_map (entry_of labels) slots))) (names, value)) [
        | None ↦ entries_put labels place value names slots done d at (other_slots place x slots n) s
        | Some m ↦ entries_put labels place value names slots (put_into done (m, x.value)) d at (other_slots place x slots n) (sorted_insert labels_cmp labels_cmp_total m x.value done s)
      ]
      | false ↦ rw at (fold_swap done (filter_map (entry_of labels) (x ∷ slots)) (names, value) s (others_apart labels place names (x ∷ slots) d at n))
    ]

pub table_put : (labels : List Names) (place : ℕ) (value : XFrac) (names : Names) (slots : List Slot) → IsDistinct labels_eq labels → slice_get labels place ≡ Some names → has_slot place slots ≡ false
    → in_order (filter_map (entry_of labels) (insert_slot slots place value)) ≡ put_into (in_order (filter_map (entry_of labels) slots)) (names, value)
unfolding IsStrictlySortedBy
table_put labels place value names slots d at n = entries_put labels place value names slots [] d at n tt

-- ---- more labels

get_front : (labels more : List Names) (i : ℕ) → i < length labels → slice_get (labels ++ more) i ≡ slice_get labels i
get_front [] more i h = absurd (omega arith)
get_front (l ∷ labels) more zero h = refl
get_front (l ∷ labels) more (suc i) h = get_front labels more i (omega arith)

entries_wider : (labels more : List Names) (low : ℕ) (slots : List Slot) → SlotsRise low (length labels) slots → filter_map (entry_of (labels ++ more)) slots ≡ filter_map (entry_of labels) slots
entries_wider labels more low [] r = refl
entries_wider labels more low (s ∷ slots) r =
    ap (λ (o : Option Names). cons_option (option_map (λ (m : Names). (m, s.value)) o) (filter_map (entry_of (labels ++ more)) slots)) (get_front labels more s.place r.1)
    ∙ ap (cons_option (entry_of labels s)) (entries_wider labels more (s.place + 1) slots r.2)

stages_wider : (labels more : List Names) (steps : List PlacedStep) → ArePlaced (length labels) steps → map (stage_of (labels ++ more)) steps ≡ map (stage_of labels) steps
stages_wider labels more [] a = refl
stages_wider labels more (s ∷ steps) a =
    ap (λ (es : List Entry). record { at = s.at; step = step_of es s.marks } ∷ map (stage_of (labels ++ more)) steps) (entries_wider labels more 0 s.slots a.0)
    ∙ ap (λ r. stage_of labels s ∷ r) (stages_wider labels more steps a.1)

pub stages_named : (labels : List Names) (names : Names) (steps : List PlacedStep) → ArePlaced (length labels) steps → map (stage_of (insert_key labels_eq labels names)) steps ≡ map (stage_of labels) steps
stages_named labels names steps a =
    elim (list_any (labels_eq names) labels) as (λ b. map (stage_of (if b then labels else labels ++ names ∷ [])) steps ≡ map (stage_of labels) steps) [
      | true ↦ refl
      | false ↦ stages_wider labels (names ∷ []) steps a
    ]

length_front : (labels more : List Names) → length labels ≤ length (labels ++ more)
length_front [] more = omega arith
length_front (l ∷ labels) more = let h = length_front labels more in omega arith

pub named_more : (labels : List Names) (names : Names) → length labels ≤ length (insert_key labels_eq labels names)
named_more labels names = elim (list_any (labels_eq names) labels) as (λ b. length labels ≤ length (if b then labels else labels ++ names ∷ [])) [ true ↦ omega arith | false ↦ length_front labels (names ∷ []) ]

pub placed_named : (labels : List Names) (names : Names) (steps : List PlacedStep) → ArePlaced (length labels) steps → ArePlaced (length (insert_key labels_eq labels names)) steps
placed_named labels names [] a = tt
placed_named labels names (s ∷ steps) a = (rise_wider 0 0 (length labels) (length (insert_key labels_eq labels names)) s.slots (omega arith) (named_more labels names) a.0, placed_named labels names steps a.1)

-- labels that have a place keep it
get_front_of : (labels more : List Names) (i : ℕ) (n : Names) → slice_get labels i ≡ Some n → slice_get (labels ++ more) i ≡ Some n
get_front_of [] more i n h = absurd (cc)
get_front_of (l ∷ labels) more zero n h = h
get_front_of (l ∷ labels) more (suc i) n h = get_front_of labels more i n h

pub place_kept : (labels now : List Names) (names : Names) → now ≡ insert_key labels_eq labels names → (i : ℕ) (n : Names) → slice_get labels i ≡ Some n → slice_get now i ≡ Some n
place_kept labels now names e i n h =
    subst (λ (z : List Names). slice_get z i ≡ Some n) (sym e) (elim (list_any (labels_eq names) labels) as (λ b. slice_get (if b then labels else labels ++ names ∷ []) i ≡ Some n) [ true ↦ h | false ↦ get_front_of labels (names ∷ []) i n h ])

-- a place that has labels is one of the places
pub place_within : (labels : List Names) (i : ℕ) (n : Names) → slice_get labels i ≡ Some n → i < length labels
place_within [] i n h = absurd (cc)
place_within (l ∷ labels) zero n h = omega arith
place_within (l ∷ labels) (suc i) n h = let k = place_within labels i n h in omega arith

-- ---- the place of labels in a set

pub place_found : (n : Names) (ls : List Names) (i : ℕ) → Some i ≡ position (labels_eq n) ls → slice_get ls i ≡ Some n
place_found n ls i e =
    let p = position-Some (labels_eq n) ls i [] (sym e) in
    let same : n ≡ get_or ls i [] = (labels_decide n (get_or ls i []) (labels_eq n (get_or ls i [])) refl).0 p.1 in
    slice_get-get_or ls i [] p.0 ∙ ap Some (sym same)

pub place_put : (n : Names) (ls : List Names) (i : ℕ) → (k : Names) × (slice_get ls i ≡ Some k) × (labels_eq n k ≡ true) → slice_get ls i ≡ Some n
place_put n ls i s = s.1 ∙ ap Some (sym ((labels_decide n s.0 (labels_eq n s.0) refl).0 s.2))

pub lent_named : (labels now : List Names) (names : Names) (steps : List PlacedStep) → IsLent (record { labels = labels; steps = steps }) → IsDistinct labels_eq now → now ≡ insert_key labels_eq labels names → IsLent (record { labels = now; steps = steps })
lent_named labels now names steps l d e = record {
  distinct = d;
  placed = subst (λ (z : List Names). ArePlaced (length z) steps) (sym e) (placed_named labels names steps l.placed);
  rising = l.rising;
}

pub lent_unnamed : (labels now : List Names) (steps : List PlacedStep) → IsLent (record { labels = labels; steps = steps }) → now ≡ labels → IsLent (record { labels = now; steps = steps })
lent_unnamed labels now steps l e = subst (λ (z : List Names). IsLent (record { labels = z; steps = steps })) (sym e) l
