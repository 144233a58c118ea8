-- Groups by places: one row more, and none at all.
use Rattle.std.proofs.Common.{◌≡◌, ◌∙◌, ◌+◌, ◌<◌, ◌≤◌, ◌^◌, ℕ, zero, suc, arith, Bool, true, false, List, [], ◌∷◌, ◌++◌, length, get_or, slice_get, take, refl, sym, ap, subst, Some, append-nil}
use Rattle.std.specs.Prelude.{◌==◌, ◌||◌, not, slice_set, slice_index_or, if◌then◌else◌}
use Rattle.std.specs.List.{All, AllByRecursion}
use Rattle.std.specs.Map.{keys_of, values_of}
use Rattle.std.proofs.lemmas.List.{map-append}
use Rattle.std.proofs.lemmas.List.Elements.{All-from_recursion}
use Rattle.std.proofs.lemmas.Option.{get_or_from_slice_get}
use Rattle.func_table.specs.declared.table.Aggregate.{Aggregate}
use Rattle.step_batch.specs.Lent.{SlotsRise}
use Rattle.step_batch.specs.declared.steps.Slot.{Slot}
use Rattle.step_table.specs.Shuffles.{Shuffled, none}
use Rattle.step_table.specs.Shuffling.{any_shuffled, back_kept}
use Rattle.xfrac.specs.Laws.{IsNumber}
use Rattle.xfrac.specs.declared.value.XFrac.{XFrac}
use Rattle.op_aggregate.specs.Places.{AreTallied, IsReady, AreReady, has_place, items_at, places_of, values_at, with_place}
use Rattle.op_aggregate.specs.Tallies.{HasRoom, group_of}
use Rattle.op_aggregate.specs.declared.groups.Groups.{Groups}
use Rattle.op_aggregate.specs.declared.tally.Group.{Group}
use Rattle.op_aggregate.proofs.AtPlaces.{Item, all_append, all_there, has_append, has_key, or_none, has_values, places_more, same_place, set_here, set_there, take_more, tests_itself, values_all, values_few, values_more}
use Rattle.op_aggregate.proofs.Tallying.{has_numbers, has_room}

-- ---- the group at a place

group_here : (items : List Item) (groups : Groups) (p : ℕ) (g : Group) → AreTallied items groups → p < length groups.all.items → g ≡ slice_index_or groups.all.items p g → g ≡ group_of groups.f (values_at items p)
group_here items groups p g t l e = e ∙ get_or_from_slice_get groups.all.items p (group_of groups.f (values_at items p)) g (t.kept p l)

pub rows_here : (items : List Item) (groups : Groups) (p : ℕ) (g : Group) → AreTallied items groups → p < length groups.all.items → g ≡ slice_index_or groups.all.items p g → length items + 1 < 2 ^ 64 → g.rows + 1 < 2 ^ 64
rows_here items groups p g t l e few =
    let rows : g.rows ≡ length (values_at items p) = ap (λ (z : Group). z.rows) (group_here items groups p g t l e) in
    let most = values_few items p in
    omega (arith, rows, most, few)

pub room_here : (items : List Item) (groups : Groups) (p : ℕ) (g : Group) → AreTallied items groups → p < length groups.all.items → g ≡ slice_index_or groups.all.items p g → length items + 1 < 2 ^ 64 → HasRoom g.tally
room_here items groups p g t l e few =
    let most = values_few items p in
    subst (λ (z : Group). HasRoom z.tally) (sym (group_here items groups p g t l e)) (has_room groups.f (values_at items p) (omega (arith, most, few)))

-- ---- one row more

kept_more : (f : Aggregate) (items : List Item) (all : List Group) (p : ℕ) (v : XFrac) (g : Group) → p < length all → ((q : ℕ) → q < length all → slice_get all q ≡ Some (group_of f (values_at items q))) → g ≡ group_of f (values_at items p ++ v ∷ [])
    → (q : ℕ) → q < length all → slice_get (slice_set all p g) q ≡ Some (group_of f (values_at (items ++ (p, v) ∷ []) q))
kept_more f items all p v g l kept e q m = elim (q == p) as (λ b. (q == p) ≡ b → slice_get (slice_set all p g) q ≡ Some (group_of f (values_at (items ++ (p, v) ∷ []) q))) [
  | true ↦ λ h.
      let same : q ≡ p = same_place q p h in
      let values : values_at (items ++ (p, v) ∷ []) p ≡ values_at items p ++ v ∷ [] = values_more items p v p ∙ ap (λ (b : Bool). values_at items p ++ (if b then v ∷ [] else [])) (tests_itself p) in
      subst (λ (z : ℕ). slice_get (slice_set all p g) z ≡ Some (group_of f (values_at (items ++ (p, v) ∷ []) z))) (sym same)
      (set_here all p g l ∙ ap Some (e ∙ ap (group_of f) (sym values)))
  | false ↦ λ h.
      let values : values_at (items ++ (p, v) ∷ []) q ≡ values_at items q = values_more items p v q ∙ ap (λ (b : Bool). values_at items q ++ (if b then v ∷ [] else [])) h ∙ append-nil (values_at items q) in
      set_there all p q g (λ s. differ s h) ∙ kept q m ∙ ap (λ (xs : List XFrac). Some (group_of f xs)) (sym values)
] refl
  where
    differ : q ≡ p → (q == p) ≡ false → ⊥
    differ s h = let t : (q == p) ≡ true = ap (λ (z : ℕ). q == z) (sym s) ∙ tests_itself q in absurd (cc)

filled_more : (items : List Item) (p : ℕ) (v : XFrac) (rows : ℕ) (filled now : List ℕ) → Shuffled (places_of items) filled → rows ≡ length (values_at items p) → now ≡ (if rows == 0 then filled ++ p ∷ [] else filled)
    → Shuffled (places_of (items ++ (p, v) ∷ [])) now
filled_more items p v rows filled now s r e =
    let test : (rows == 0) ≡ not (has_place p (places_of items)) = ap (λ (n : ℕ). n == 0) r ∙ has_values items p ∙ ap not (sym (has_key p items)) in
    subst (λ (z : List ℕ). Shuffled z now) (sym (places_more items p v))
    (subst (λ (z : List ℕ). Shuffled (with_place (places_of items) p) z) (sym (e ∙ ap (λ (b : Bool). if b then filled ++ p ∷ [] else filled) test)) (one (has_place p (places_of items))))
  where
    one : (b : Bool) → Shuffled (if b then places_of items else places_of items ++ p ∷ []) (if not b then filled ++ p ∷ [] else filled)
    one true = s
    one false = back_kept (p ∷ []) (places_of items) filled s

pub tallied_more : (items : List Item) (groups now : Groups) (p : ℕ) (v : XFrac) (was : Group) (g : Group) → p < length groups.all.items → was ≡ slice_index_or groups.all.items p was → IsNumber v
    → ((f : Aggregate) (xs : List XFrac) → All IsNumber xs → was ≡ group_of f xs → g ≡ group_of f (xs ++ v ∷ []))
    → now.f ≡ groups.f → now.all.items ≡ slice_set groups.all.items p g → length now.all.items ≡ length groups.all.items → now.filled.items ≡ (if was.rows == 0 then groups.filled.items ++ p ∷ [] else groups.filled.items)
    → AreTallied items groups → AreTallied (items ++ (p, v) ∷ []) now
tallied_more items groups now p v was g l e n step f all many filled t =
    let here = group_here items groups p was t l e in
    let added : g ≡ group_of groups.f (values_at items p ++ v ∷ []) = step groups.f (values_at items p) (All-from_recursion IsNumber (values_at items p) (values_all IsNumber items p t.numbers)) here in
    record {
      numbers = subst (AllByRecursion IsNumber) (sym (map-append (λ (x : Item). x.1) items ((p, v) ∷ []))) (all_append IsNumber (values_of items) (v ∷ []) t.numbers (n, tt));
      within = subst (λ (m : ℕ). AllByRecursion (λ (x : Item). x.0 < m) (items ++ (p, v) ∷ [])) (sym many) (all_append (λ (x : Item). x.0 < length groups.all.items) items ((p, v) ∷ []) t.within (l, tt));
      kept = λ q m.
          ap (λ (gs : List Group). slice_get gs q) all ∙ kept_more groups.f items groups.all.items p v g l t.kept added q (subst (λ (k : ℕ). q < k) many m)
          ∙ ap (λ (h : Aggregate). Some (group_of h (values_at (items ++ (p, v) ∷ []) q))) (sym f);
      filled = filled_more items p v was.rows groups.filled.items now.filled.items t.filled (ap (λ (z : Group). z.rows) here) filled;
    }

-- ---- slots

pub slot_place : (low high : ℕ) (slots : List Slot) (i : ℕ) (s : Slot) → i < length slots → s ≡ get_or slots i s → SlotsRise low high slots → s.place < high
slot_place low high slots i s l e r = subst (λ (z : Slot). z.place < high) (sym e) (at low slots i l r)
  where
    at : (low : ℕ) (slots : List Slot) (i : ℕ) → i < length slots → SlotsRise low high slots → (get_or slots i s).place < high
    at low [] i l r = absurd (omega arith)
    at low (x ∷ slots) zero l r = r.1
    at low (x ∷ slots) (suc i) l r = at (x.place + 1) slots i (omega arith) r.2

pub place_within : (n : ℕ) (places : List ℕ) (i p : ℕ) → i < length places → p ≡ slice_index_or places i 0 → AllByRecursion (λ q. q < n) places → p < n
place_within n places i p l e a = subst (λ (q : ℕ). q < n) (sym e) (at places i l a)
  where
    at : (places : List ℕ) (i : ℕ) → i < length places → AllByRecursion (λ q. q < n) places → slice_index_or places i 0 < n
    at [] i l a = absurd (omega arith)
    at (x ∷ places) zero l a = a.0
    at (x ∷ places) (suc i) l a = at places i (omega arith) a.1

pub items_more : (places : List ℕ) (slots : List Slot) (i p : ℕ) (s : Slot) → i < length slots → s ≡ get_or slots i s → p ≡ slice_index_or places s.place 0
    → items_at places (take (i + 1) slots) ≡ items_at places (take i slots) ++ (p, s.value) ∷ []
items_more places slots i p s l e h =
    ap (items_at places) (take_more slots i s l) ∙ map-append (λ (x : Slot). (slice_index_or places x.place 0, x.value)) (take i slots) (get_or slots i s ∷ [])
    ∙ ap (λ (x : Slot). items_at places (take i slots) ++ (slice_index_or places x.place 0, x.value) ∷ []) (sym e)
    ∙ ap (λ (q : ℕ). items_at places (take i slots) ++ (q, s.value) ∷ []) (sym h)

pub items_few : (places : List ℕ) (slots : List Slot) (i n : ℕ) → i < length slots → length slots < n → length (items_at places (take i slots)) + 1 < n
items_few places slots i n l m = let k = most slots i in omega (arith, k, l, m)
  where
    most : (slots : List Slot) (i : ℕ) → length (items_at places (take i slots)) ≤ i
    most [] zero = omega arith
    most [] (suc i) = omega arith
    most (s ∷ slots) zero = omega arith
    most (s ∷ slots) (suc i) = let k = most slots i in omega (arith, k)

-- ---- the groups that have rows

key_within : (n q : ℕ) (items : List Item) → AllByRecursion (λ (e : Item). e.0 < n) items → has_place q (keys_of items) ≡ true → q < n
key_within n q [] a h = absurd (cc)
key_within n q (e ∷ items) a h = elim (q == e.0) as (λ b. (q == e.0) ≡ b → (b || has_place q (keys_of items)) ≡ true → q < n) [
  | true ↦ λ f g. subst (λ (z : ℕ). z < n) (sym (same_place q e.0 f)) a.0
  | false ↦ λ f g. key_within n q items a.1 g
] refl h

some_values : (items : List Item) (q : ℕ) → has_place q (keys_of items) ≡ true → 0 < length (values_at items q)
some_values items q h = positive (length (values_at items q)) (has_values items q ∙ ap not h)
  where
    positive : (n : ℕ) → (n == 0) ≡ false → 0 < n
    positive zero e = absurd (cc)
    positive (suc n) e = omega arith

pub filled_key : (items : List Item) (groups : Groups) (q : ℕ) → AreTallied items groups → has_place q groups.filled.items ≡ has_place q (keys_of items)
filled_key items groups q t = sym (any_shuffled (λ p. q == p) (places_of items) groups.filled.items t.filled) ∙ has_key q items

pub filled_within : (items : List Item) (groups : Groups) → AreTallied items groups → AllByRecursion (λ q. q < length groups.all.items) groups.filled.items
filled_within items groups t = all_there (λ q. q < length groups.all.items) groups.filled.items (λ q h. key_within (length groups.all.items) q items t.within (sym (filled_key items groups q t) ∙ h))

pub filled_ready : (items : List Item) (groups : Groups) → AreTallied items groups → AreReady groups.all.items groups.filled.items
filled_ready items groups t = all_there (λ q. IsReady (slice_get groups.all.items q)) groups.filled.items (λ q h.
    let key : has_place q (keys_of items) ≡ true = sym (filled_key items groups q t) ∙ h in
    subst IsReady (sym (t.kept q (key_within (length groups.all.items) q items t.within key))) (has_numbers groups.f (values_at items q) (some_values items q key)))

-- ---- none

no_values : (items : List Item) (q : ℕ) → has_place q (keys_of items) ≡ false → values_at items q ≡ []
no_values items q h = empty (values_at items q) (has_values items q ∙ ap not h)
  where
    empty : (xs : List XFrac) → (length xs == 0) ≡ true → xs ≡ []
    empty [] e = refl
    empty (x ∷ xs) e = absurd (differ (length xs) e)
      where
        differ : (n : ℕ) → (suc n == 0) ≡ true → ⊥
        differ n e = let s = same_place (suc n) 0 e in absurd (omega (arith, s))

has_more : (places : List ℕ) (i q : ℕ) → i < length places → has_place q (take (i + 1) places) ≡ (has_place q (take i places) || (q == get_or places i 0))
has_more places i q l =
    ap (has_place q) (take_more places i 0 l) ∙ has_append q (take i places) (get_or places i 0 ∷ []) ∙ ap (λ (b : Bool). has_place q (take i places) || b) (or_none (q == get_or places i 0))

-- one group more is empty
pub one_emptied : (f : Aggregate) (all : List Group) (places : List ℕ) (i : ℕ) (g : Group) → i < length places → get_or places i 0 < length all → g ≡ group_of f []
    → ((q : ℕ) → has_place q (take i places) ≡ true → slice_get all q ≡ Some (group_of f []))
    → (q : ℕ) → has_place q (take (i + 1) places) ≡ true → slice_get (slice_set all (get_or places i 0) g) q ≡ Some (group_of f [])
one_emptied f all places i g l m e done q h = elim (q == get_or places i 0) as (λ b. (q == get_or places i 0) ≡ b → slice_get (slice_set all (get_or places i 0) g) q ≡ Some (group_of f [])) [
  | true ↦ λ t. subst (λ (z : ℕ). slice_get (slice_set all (get_or places i 0) g) z ≡ Some (group_of f [])) (sym (same_place q (get_or places i 0) t)) (set_here all (get_or places i 0) g m ∙ ap Some e)
  | false ↦ λ t.
      set_there all (get_or places i 0) q g (λ s. differ s t)
      ∙ done q (sym (or_none (has_place q (take i places))) ∙ ap (λ (b : Bool). has_place q (take i places) || b) (sym t) ∙ sym (has_more places i q l) ∙ h)
] refl
  where
    differ : q ≡ get_or places i 0 → (q == get_or places i 0) ≡ false → ⊥
    differ s t = let u : (q == get_or places i 0) ≡ true = ap (λ (z : ℕ). q == z) (sym s) ∙ tests_itself q in absurd (cc)

-- and the others are left
pub others_left : (old all : List Group) (places : List ℕ) (i : ℕ) (g : Group) → i < length places → ((q : ℕ) → has_place q (take i places) ≡ false → slice_get all q ≡ slice_get old q)
    → (q : ℕ) → has_place q (take (i + 1) places) ≡ false → slice_get (slice_set all (get_or places i 0) g) q ≡ slice_get old q
others_left old all places i g l done q h =
    let parts = neither (has_place q (take i places)) (q == get_or places i 0) (sym (has_more places i q l) ∙ h) in
    set_there all (get_or places i 0) q g (λ s. differ s parts.1) ∙ done q parts.0
  where
    neither : (a b : Bool) → (a || b) ≡ false → (a ≡ false) × (b ≡ false)
    neither true b e = absurd (cc)
    neither false b e = (refl, e)

    differ : q ≡ get_or places i 0 → (q == get_or places i 0) ≡ false → ⊥
    differ s t = let u : (q == get_or places i 0) ≡ true = ap (λ (z : ℕ). q == z) (sym s) ∙ tests_itself q in absurd (cc)

pub place_here : (n : ℕ) (places : List ℕ) (i : ℕ) → i < length places → AllByRecursion (λ q. q < n) places → get_or places i 0 < n
place_here n [] i l a = absurd (omega arith)
place_here n (x ∷ places) zero l a = a.0
place_here n (x ∷ places) (suc i) l a = place_here n places i (omega arith) a.1

-- all groups are empty where those are that had rows
pub all_emptied : (items : List Item) (groups now : Groups) → AreTallied items groups → now.f ≡ groups.f → length now.all.items ≡ length groups.all.items → now.filled.items ≡ []
    → ((q : ℕ) → has_place q groups.filled.items ≡ true → slice_get now.all.items q ≡ Some (group_of groups.f []))
    → ((q : ℕ) → has_place q groups.filled.items ≡ false → slice_get now.all.items q ≡ slice_get groups.all.items q)
    → AreTallied [] now
all_emptied items groups now t f many filled emptied others = record {
  numbers = tt;
  within = tt;
  kept = λ q m. at q (subst (λ (k : ℕ). q < k) many m) ∙ ap (λ (h : Aggregate). Some (group_of h [])) (sym f);
  filled = subst (λ (z : List ℕ). Shuffled [] z) (sym filled) none;
}
  where
    at : (q : ℕ) → q < length groups.all.items → slice_get now.all.items q ≡ Some (group_of groups.f [])
    at q m = elim (has_place q groups.filled.items) as (λ b. has_place q groups.filled.items ≡ b → slice_get now.all.items q ≡ Some (group_of groups.f [])) [
      | true ↦ λ h. emptied q h
      | false ↦ λ h. others q h ∙ t.kept q m ∙ ap (λ (xs : List XFrac). Some (group_of groups.f xs)) (no_values items q (sym (filled_key items groups q t) ∙ h))
    ] refl

pub none_tallied : (groups : Groups) → groups.filled.items ≡ [] → ((q : ℕ) → q < length groups.all.items → slice_get groups.all.items q ≡ Some (group_of groups.f [])) → AreTallied [] groups
none_tallied groups filled kept = record {
  numbers = tt;
  within = tt;
  kept = kept;
  filled = subst (λ (z : List ℕ). Shuffled [] z) (sym filled) none;
}
