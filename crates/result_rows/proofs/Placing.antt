-- Labels that are placed, and the rows at their places.
use Rattle.std.proofs.Common.{◌≡◌, ◌∙◌, ◌+◌, ◌<◌, ℕ, zero, suc, true, false, cond, List, [], ◌∷◌, ◌++◌, length, drop, get_or, map, refl, sym, ap, subst, arith, Option, Some, slice_get}
use Rattle.std.specs.Prelude.{filter, slice_index_or}
use Rattle.std.specs.BTreeMap.{is_at}
use Rattle.std.specs.List.{AllByRecursion, cons_option}
use Rattle.std.specs.Map.{values_of}
use Rattle.std.specs.Option.{option_map}
use Rattle.label_set.specs.Labels.{labels_cmp}
use Rattle.promql_meaning.specs.declared.answer.Point.{Point}
use Rattle.step_batch.specs.Lent.{Lent, SlotsRise, entries_of}
use Rattle.step_batch.specs.declared.steps.Slot.{Slot}
use Rattle.step_put.specs.Placed.{IsPlaced, Naming, left_of}
use Rattle.step_put.specs.Puts.{AreAt}
use Rattle.step_put.specs.declared.labels_left.Left.{Left}
use Rattle.step_put.specs.declared.labels_left.Left.TheVariants as kind
use Rattle.step_rules.specs.Rests.{drop_item}
use Rattle.step_table.specs.Groups.{Names, items_of}
use Rattle.ticks.specs.declared.moment.Ms.{Ms}
use Rattle.result_rows.specs.Taken.{points_of}

all_left : (fed : List Names) → map (left_of kind.All) fed ≡ fed
all_left [] = refl
all_left (n ∷ fed) = ap (λ r. n ∷ r) (all_left fed)

-- the labels that were fed stand at their places
pub fed_at : (lent : Lent) (naming : Naming) (fed : List Names) → naming.left ≡ kind.All → IsPlaced lent naming → naming.fed ≡ fed → AreAt lent.labels fed naming.places
fed_at lent naming fed all placed e =
    let same : map (left_of naming.left) naming.fed ≡ fed = ap (λ (l : Left). map (left_of l) naming.fed) all ∙ all_left naming.fed ∙ e in
    subst (λ (z : List Names). AreAt lent.labels z naming.places) same placed

pub at_place : (labels fed : List Names) (places : List ℕ) (p : ℕ) → AreAt labels fed places → p < length places → slice_get labels (slice_index_or places p 0) ≡ slice_get fed p
at_place labels [] [] p a h = absurd (omega arith)
at_place labels [] (q ∷ places) p a h = elim a [ ]
at_place labels (n ∷ fed) [] p a h = elim a [ ]
at_place labels (n ∷ fed) (q ∷ places) zero a h = a.0
at_place labels (n ∷ fed) (q ∷ places) (suc p) a h = at_place labels fed places p a.1 (omega arith)

pub same_count : (labels fed : List Names) (places : List ℕ) → AreAt labels fed places → length places ≡ length fed
same_count labels [] [] a = refl
same_count labels [] (q ∷ places) a = elim a [ ]
same_count labels (n ∷ fed) [] a = elim a [ ]
same_count labels (n ∷ fed) (q ∷ places) a = ap suc (same_count labels fed places a.1)

some_below : (labels : List Names) (p : ℕ) (n : Names) → slice_get labels p ≡ Some n → p < length labels
some_below [] p n h = absurd (cc)
some_below (l ∷ labels) zero n h = omega arith
some_below (l ∷ labels) (suc p) n h = let r : p < length labels = some_below labels p n h in omega arith

pub places_below : (labels fed : List Names) (places : List ℕ) → AreAt labels fed places → AllByRecursion (λ (p : ℕ). p < length labels) places
places_below labels [] [] a = tt
places_below labels [] (q ∷ places) a = elim a [ ]
places_below labels (n ∷ fed) [] a = elim a [ ]
places_below labels (n ∷ fed) (q ∷ places) a = (some_below labels q n a.0, places_below labels fed places a.1)

pub get_below : (places : List ℕ) (p high : ℕ) → AllByRecursion (λ (q : ℕ). q < high) places → p < length places → slice_index_or places p 0 < high
get_below [] p high a h = absurd (omega arith)
get_below (q ∷ places) zero high a h = a.0
get_below (q ∷ places) (suc p) high a h = get_below places p high a.1 (omega arith)

pub some_at : (labels : List Names) (p : ℕ) → p < length labels → (n : Names) × (slice_get labels p ≡ Some n)
some_at [] p h = absurd (omega arith)
some_at (l ∷ labels) zero h = (l, refl)
some_at (l ∷ labels) (suc p) h = some_at labels p (omega arith)

-- a slot is within the places
pub rise_within : (low high : ℕ) (slots : List Slot) (i : ℕ) (s : Slot) → SlotsRise low high slots → i < length slots → s ≡ get_or slots i s → s.place < high
rise_within low high [] i s r l is = absurd (omega arith)
rise_within low high (z ∷ slots) zero s r l is = subst (λ (y : Slot). y.place < high) (sym is) r.1
rise_within low high (z ∷ slots) (suc i) s r l is = rise_within (z.place + 1) high slots i s r.2 (omega arith) is

-- ---- the next row

module _ (q : Names) (at : Ms) where
  first_apart : (n : Names) (p : Point) (xs : List (Names × Point)) → items_of ((n, p) ∷ xs) q ≡ items_of ((n, p) ∷ []) q ++ items_of xs q
  first_apart n p xs =
      elim (is_at (labels_cmp q) n) as (λ b. values_of (cond b ((n, p) ∷ filter (λ (item : Names × Point). is_at (labels_cmp q) item.0) xs) (filter (λ (item : Names × Point). is_at (labels_cmp q) item.0) xs)) ≡ values_of (cond b ((n, p) ∷ []) []) ++ items_of xs q) [
        | true ↦ refl
        | false ↦ refl
      ]

  pub row_next : (fed : List Names) (slots : List Slot) (i : ℕ) (s : Slot) (n : Names) → i < length slots → s ≡ get_or slots i s → slice_get fed s.place ≡ Some n
      → items_of (points_of at (entries_of fed (drop i slots))) q ≡ items_of (points_of at ((n, s.value) ∷ [])) q ++ items_of (points_of at (entries_of fed (drop (i + 1) slots))) q
  row_next fed slots i s n l is there =
      let rest = entries_of fed (drop (i + 1) slots) in
      ap (λ (ss : List Slot). items_of (points_of at (entries_of fed ss)) q) (drop_item slots i s l is)
      ∙ ap (λ (o : Option Names). items_of (points_of at (cons_option (option_map (λ (names : Names). (names, s.value)) o) rest)) q) there
      ∙ first_apart n (record { at = at; value = s.value }) (points_of at rest)
