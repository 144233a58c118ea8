-- What is made in an order, put into slots.
use Rattle.std.proofs.Common.{◌≡◌, ◌∙◌, ℕ, zero, suc, ◌+◌, ◌<◌, ◌≤◌, true, List, [], ◌∷◌, ◌++◌, length, take, slice_get, slice_set, refl, sym, ap, subst, Some, None, ⊎_elim, arith, replicate, append-nil, length-append}
use Rattle.std.proofs.lemmas.Bool.{cases_eq}
use Rattle.std.specs.Prelude.{Option, is_some}
use Rattle.std.specs.List.{filter_map}
use Rattle.promql_type.specs.Replacements.{Kept}
use Rattle.remote_api.specs.Seen.{EngineSeen}
use Rattle.ticks.specs.declared.grid.Grid.{Grid}
use Rattle.exchange.specs.declared.place.Place.{Place}
use Rattle.exchange.specs.declared.request.Request.{Request}
use Rattle.exchange.specs.InOrder.{AreInSlots, IsAskOrder, in_order_of_asks}
use Rattle.exchange.specs.Opened.{AreOpened, IsOpened}
use Rattle.exchange.specs.Standing.{AreApart}
use Rattle.exchange.proofs.Lists.{back_get, filter_all, filter_get, front_get, get_set_other, get_set_same, get_within, many, same_at, some_same, split_get, take_one_more}

pub take_size : {X : Type 0} (xs : List X) (i : ℕ) → i ≤ length xs → length (take i xs) ≡ i
take_size [] zero l = refl
take_size [] (suc i) l = absurd (omega arith)
take_size (x ∷ xs) zero l = refl
take_size (x ∷ xs) (suc i) l = ap suc (take_size xs i (omega (arith, l)))

-- ---- a turn of the order

pub turn_is : (requests : List Request) (order : List ℕ) (j k : ℕ) (r : Request) → IsAskOrder requests order → slice_get order j ≡ Some k → slice_get requests k ≡ Some r → slice_get (in_order_of_asks requests) j ≡ Some r
turn_is requests order j k r is at r_at = let q = is.each j k at in q.2 ∙ ap Some (same_at requests k q.0 r q.1 r_at)

pub turn_within : (requests : List Request) (order : List ℕ) (j k : ℕ) → IsAskOrder requests order → slice_get order j ≡ Some k → k < length requests
turn_within requests order j k is at = let q = is.each j k at in get_within requests k q.0 q.1

-- ---- slots that were filled

pub as_many_slots : (n : ℕ) (slots : List (Option Place)) → slots ≡ replicate n None → length slots ≡ n
as_many_slots n slots e = ap length e ∙ many n None

pub none_in_slots : (slots : List (Option Place)) → AreInSlots [] [] slots
none_in_slots slots = record { as_many = refl; each = λ i k e. absurd (cc) }

one_in : (front : List ℕ) (k : ℕ) (made : List Place) (slots : List (Option Place)) (place : Place) → k < length slots → AreInSlots front made slots → AreInSlots (front ++ k ∷ []) (made ++ place ∷ []) (slice_set slots k (Some place))
one_in front k made slots place l s = record {
  as_many = length-append made (place ∷ []) ∙ ap (λ (n : ℕ). n + 1) s.as_many ∙ sym (length-append front (k ∷ []));
  each = λ i m at. ⊎_elim
      (λ same.
      let here : slice_get (front ++ k ∷ []) (length front) ≡ Some m = back_get front k ∙ ap Some (sym same) in
      let mine : slice_get (made ++ place ∷ []) (length front) ≡ Some place = ap (slice_get (made ++ place ∷ [])) (sym s.as_many) ∙ back_get made place in
      let now : slice_get (slice_set slots k (Some place)) m ≡ Some (Some place) = ap (slice_get (slice_set slots k (Some place))) same ∙ get_set_same slots k (Some place) l in
      (length front, place, here, mine, now))
      (λ other. ⊎_elim
      (λ old.
      let u = s.each i m old in
      (u.0, u.1, front_get front (k ∷ []) u.0 (get_within front u.0 m u.2) ∙ u.2, front_get made (place ∷ []) u.0 (get_within made u.0 u.1 u.3) ∙ u.3, get_set_other slots k m (Some place) other ∙ u.4))
      (λ new. absurd (other new.1))
      (split_get front k i m at))
      (cases_eq m k);
}

pub slots_more : (order : List ℕ) (i k : ℕ) (made : List Place) (slots : List (Option Place)) (place : Place) → slice_get order i ≡ Some k → k < length slots → AreInSlots (take i order) made slots
    → AreInSlots (take (i + 1) order) (made ++ place ∷ []) (slice_set slots k (Some place))
slots_more order i k made slots place at l s = subst (λ (os : List ℕ). AreInSlots os (made ++ place ∷ []) (slice_set slots k (Some place))) (take_one_more order i k at) (one_in (take i order) k made slots place l s)

-- ---- what stands in slots, taken out one by one

pub all_standing : (places : List Place) (rest all slots : List (Option Place)) → rest ≡ [] → all ≡ slots → places ++ filter_map (λ (slot : Option Place). slot) rest ≡ filter_map (λ (slot : Option Place). slot) all
    → places ≡ filter_map (λ (slot : Option Place). slot) slots
all_standing places rest all slots none same e =
    let last : places ++ filter_map (λ (slot : Option Place). slot) rest ≡ places = ap (λ (l : List (Option Place)). places ++ filter_map (λ (slot : Option Place). slot) l) none ∙ append-nil places in
    sym last ∙ e ∙ ap (λ (l : List (Option Place)). filter_map (λ (slot : Option Place). slot) l) same

-- ---- all slots are filled

module _ (requests : List Request) (order : List ℕ) (made places : List Place) (slots : List (Option Place)) (is : IsAskOrder requests order) (size : length slots ≡ length requests) (s : AreInSlots order made slots) (e : places ≡ filter_map (λ (slot : Option Place). slot) slots) where
  stands_at : (k : ℕ) → k < length slots → (j : ℕ) × (place : Place) × (slice_get order j ≡ Some k) × (slice_get made j ≡ Some place) × (slice_get slots k ≡ Some (Some place))
  stands_at k l = let there = is.all k (subst (λ (n : ℕ). k < n) size l) in s.each there.0 k there.1

  full : (k : ℕ) (slot : Option Place) → slice_get slots k ≡ Some slot → is_some slot ≡ true
  full k slot at = let u = stands_at k (get_within slots k slot at) in ap is_some (same_at slots k slot (Some u.1) at u.4)

  pub places_size : length places ≡ length requests
  places_size = ap length e ∙ filter_all (λ (slot : Option Place). slot) slots full ∙ size

  made_at : (k : ℕ) (place : Place) → slice_get places k ≡ Some place → (j : ℕ) × (slice_get order j ≡ Some k) × (slice_get made j ≡ Some place)
  made_at k place at =
      let l : k < length slots = subst (λ (n : ℕ). k < n) (places_size ∙ sym size) (get_within places k place at) in
      let u = stands_at k l in
      let here : slice_get places k ≡ Some u.1 = ap (λ (ps : List Place). slice_get ps k) e ∙ filter_get (λ (slot : Option Place). slot) slots k (Some u.1) full u.4 in
      (u.0, u.2, u.3 ∙ sym here ∙ at)

  pub places_opened : (span : Grid) (kept : Kept) (es fs : List EngineSeen) → AreOpened span kept es fs (in_order_of_asks requests) made → AreOpened span kept es fs requests places
  places_opened span kept es fs opened k r place r_at at =
      let u = made_at k place at in
      let q = is.each u.0 k u.1 in
      subst (λ (z : Request). IsOpened span kept es fs z place) (same_at requests k q.0 r q.1 r_at) (opened u.0 q.0 place q.2 u.2)

  pub places_apart : AreApart made → AreApart places
  places_apart apart j k m n x y a b x_at y_at ne a_at b_at =
      let u = made_at j x x_at in
      let v = made_at k y y_at in
      apart u.0 v.0 m n x y a b u.2 v.2 (λ same. ne (some_same j k (sym u.1 ∙ ap (slice_get order) same ∙ v.1))) a_at b_at
