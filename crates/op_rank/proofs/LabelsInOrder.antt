-- Labels beside their places, sorted by labels: ranks stand to one another as labels do.
use Rattle.std.proofs.Common.{◌≡◌, ◌∙◌, ℕ, zero, suc, ◌+◌, ◌-◌, ◌<◌, ◌≤◌, List, [], ◌∷◌, ◌++◌, length, get_or, slice_get, take, map, refl, sym, ap, subst, Some, arith, Bool, true, false}
use Rattle.std.specs.Prelude.{nat_lt}
use Rattle.std.proofs.Math.ListN.{set}
use Rattle.std.specs.Cmp.{IsTotalOrder}
use Rattle.std.specs.List.{All, AllByRecursion, Contains, IsDistinct}
use Rattle.std.specs.List.Sorted.{IsPermutation, IsSortedBy, IsStrictlySortedBy}
use Rattle.std.specs.Ordering.{MatchOrdering, eq_by_cmp, is_lt, nat_cmp, ordering_reverse}
use Rattle.std.specs.declared.cmp.Ordering.{Ordering}
use Rattle.std.specs.declared.cmp.Ordering.TheVariants.{Less, Equal, Greater}
use Rattle.std.specs.Cmp.{IsStrictWeakOrder, eq_by_cmp_equiv}
use Rattle.std.proofs.lemmas.Bool.{ltb-true, ltb-false}
use Rattle.std.proofs.lemmas.Cmp.{on_total, ranked, tied_itself}
use Rattle.std.proofs.lemmas.List.{get_or-set_other, get_or-set_same, length-map}
use Rattle.std.proofs.lemmas.List.Elements.{All-from_recursion, recursion_from_All}
use Rattle.std.proofs.lemmas.List.MinMax.{ranks_by}
use Rattle.std.proofs.lemmas.List.Sorted.{All-permutation, Contains-permutation, IsPermutation-map, length_permutation}
use Rattle.std.proofs.lemmas.Map.Keys.{IsDistinct-IsPermutation, sorted_from_all_adjacent}
use Rattle.label_set.specs.LabelEquality.{labels_eq}
use Rattle.label_set.specs.LabelOrder.{labels_cmp_total, labels_eq_at}
use Rattle.label_set.specs.Labels.{labels_cmp}
use Rattle.step_table.specs.Groups.{Names}
use Rattle.op_rank.specs.Contenders.{AreRanks}
use Rattle.op_rank.specs.LabelOrders.{AreInverse, AreListed, ArePlaces, LabelsRise, names_at}
use Rattle.op_rank.specs.declared.label_order.LabelAt.{LabelAt}
use Rattle.op_rank.proofs.Firsts.{strict}

-- ---- the sort

abbrev pub by_labels : LabelAt → LabelAt → Ordering
by_labels a b = labels_cmp a.labels.now b.labels.now

pub labels_total : IsTotalOrder by_labels
labels_total = on_total (λ (a : LabelAt). a.labels.now) labels_cmp_total

abbrev pub is_below : LabelAt → LabelAt → Bool
is_below a b = is_lt (by_labels a b)

pub is_below_is_weak : IsStrictWeakOrder is_below
is_below_is_weak = ranks_by labels_total (λ (a : LabelAt). a)

-- ---- what is listed

listed_more_from : (place : ℕ) (labels : List Names) (all : List LabelAt) (i : ℕ) (names : Names) (one : LabelAt) → i < length labels → names ≡ get_or labels i names → AreListed place (take i labels) all → one.place ≡ place + i → one.labels.now ≡ names
    → AreListed place (take (i + 1) labels) (all ++ one ∷ [])
listed_more_from place [] all i names one l e a p n = absurd (omega arith)
listed_more_from place (x ∷ labels) [] zero names one l e a p n = (omega (arith, p), n ∙ e, tt)
listed_more_from place (x ∷ labels) (b ∷ all) zero names one l e a p n = absurd a
listed_more_from place (x ∷ labels) [] (suc i) names one l e a p n = absurd a
listed_more_from place (x ∷ labels) (b ∷ all) (suc i) names one l e a p n =
    let m : suc i + 1 ≡ suc (i + 1) = omega arith in
    rw m (a.0, a.1, listed_more_from (place + 1) labels all i names one (omega arith) e a.2 (omega (arith, p)) n)

pub listed_more : (labels : List Names) (old new : List LabelAt) (i : ℕ) (names : Names) (one : LabelAt) → i < length labels → names ≡ get_or labels i names → AreListed 0 (take i labels) old → one.place ≡ i → one.labels.now ≡ names → new ≡ old ++ one ∷ []
    → AreListed 0 (take (i + 1) labels) new
listed_more labels old new i names one l e a p n w = subst (AreListed 0 (take (i + 1) labels)) (sym w) (listed_more_from 0 labels old i names one l e a (omega (arith, p)) n)

listed_count : (place : ℕ) (labels : List Names) (all : List LabelAt) → AreListed place labels all → length all ≡ length labels
listed_count place [] [] a = refl
listed_count place [] (b ∷ all) a = absurd a
listed_count place (x ∷ labels) [] a = absurd a
listed_count place (x ∷ labels) (b ∷ all) a = ap suc (listed_count (place + 1) labels all a.2)

-- the labels of each are those at its place
pub record IsAt (labels : List Names) (one : LabelAt) : Type 0 where
  pub within : one.place < length labels
  pub is : one.labels.now ≡ names_at labels one.place

names_behind : (front labels : List Names) (names : Names) → get_or (front ++ names ∷ labels) (length front) [] ≡ names
names_behind [] labels names = refl
names_behind (x ∷ front) labels names = names_behind front labels names

count_behind : {X : Type 0} (front : List X) (x : X) (back : List X) → length front < length (front ++ x ∷ back)
count_behind [] x back = omega arith
count_behind (y ∷ front) x back = let l = count_behind front x back in omega (arith, l)

one_longer : {X : Type 0} (front : List X) (x : X) → length (front ++ x ∷ []) ≡ length front + 1
one_longer [] x = refl
one_longer (y ∷ front) x = let m = one_longer front x in omega (arith, m)

joined_behind : {X : Type 0} (front : List X) (x : X) (back : List X) → (front ++ x ∷ []) ++ back ≡ front ++ x ∷ back
joined_behind [] x back = refl
joined_behind (y ∷ front) x back = ap (λ r. y ∷ r) (joined_behind front x back)

listed_at : (front labels : List Names) (place : ℕ) (all : List LabelAt) → place ≡ length front → AreListed place labels all → AllByRecursion (IsAt (front ++ labels)) all
listed_at front [] place [] e a = tt
listed_at front [] place (b ∷ all) e a = absurd a
listed_at front (x ∷ labels) place [] e a = absurd a
listed_at front (x ∷ labels) place (b ∷ all) e a =
    let here : b.place ≡ length front = a.0 ∙ e in
    let whole = joined_behind front x labels in (
      record { within = subst (λ (n : ℕ). n < length (front ++ x ∷ labels)) (sym here) (count_behind front x labels); is = a.1 ∙ sym (ap (λ (n : ℕ). get_or (front ++ x ∷ labels) n []) here ∙ names_behind front labels x) },
      subst (λ (ls : List Names). AllByRecursion (IsAt ls) all) whole (listed_at (front ++ x ∷ []) labels (place + 1) all (let m = one_longer front x in omega (arith, e, m)) a.2),
    )

has_place : (place : ℕ) (labels : List Names) (all : List LabelAt) (n : ℕ) → AreListed place labels all → n < length labels → Contains (map (λ (one : LabelAt). one.place) all) (place + n)
has_place place [] all n a l = absurd (omega arith)
has_place place (x ∷ labels) [] n a l = absurd a
has_place place (x ∷ labels) (b ∷ all) zero a l = (0, omega arith, (let e = a.0 in let m : place + 0 ≡ place = omega arith in e ∙ sym m))
has_place place (x ∷ labels) (b ∷ all) (suc n) a l =
    let h = has_place (place + 1) labels all n a.2 (omega arith) in
    let m : (place + 1) + n ≡ place + suc n = omega arith in
    (suc h.0, omega (arith, h.1), subst (λ (k : ℕ). get_or (map (λ (one : LabelAt). one.place) all) h.0 k ≡ k) m h.2)

none_alike : (b : LabelAt) (place : ℕ) (labels : List Names) (all : List LabelAt) → AreListed place labels all → AllByRecursion (λ (names : Names). labels_eq b.labels.now names ≡ false) labels → AllByRecursion (λ (o : LabelAt). eq_by_cmp by_labels b o ≡ false) all
none_alike b place [] [] a d = tt
none_alike b place [] (c ∷ all) a d = absurd a
none_alike b place (x ∷ labels) [] a d = absurd a
none_alike b place (x ∷ labels) (c ∷ all) a d =
    (labels_eq_at b.labels.now c.labels.now ∙ ap (labels_eq b.labels.now) a.1 ∙ d.0, none_alike b (place + 1) labels all a.2 d.1)

listed_distinct : (place : ℕ) (labels : List Names) (all : List LabelAt) → AreListed place labels all → IsDistinct labels_eq labels → IsDistinct (eq_by_cmp by_labels) all
unfolding IsDistinct
listed_distinct place [] [] a d = tt
listed_distinct place [] (c ∷ all) a d = absurd a
listed_distinct place (x ∷ labels) [] a d = absurd a
listed_distinct place (x ∷ labels) (c ∷ all) a d =
    (none_alike c (place + 1) labels all a.2 (subst (λ (z : Names). AllByRecursion (λ (names : Names). labels_eq z names ≡ false) labels) (sym a.1) d.0), listed_distinct (place + 1) labels all a.2 d.1)

all_rise : (labels : List Names) (b : LabelAt) (all : List LabelAt) → IsAt labels b → AllByRecursion (IsAt labels) all → AllByRecursion (λ (o : LabelAt). by_labels b o ≡ Less) all
    → AllByRecursion (λ (names : Names). labels_cmp (names_at labels b.place) names ≡ Less) (map (names_at labels) (map (λ (one : LabelAt). one.place) all))
all_rise labels b [] h a s = tt
all_rise labels b (c ∷ all) h a s = ((λ j. labels_cmp (sym h.is j) (sym a.0.is j)) ∙ s.0, all_rise labels b all h a.1 s.1)

rise_by_place : (labels : List Names) (all : List LabelAt) → AllByRecursion (IsAt labels) all → IsStrictlySortedBy by_labels all → LabelsRise labels (map (λ (one : LabelAt). one.place) all)
unfolding IsStrictlySortedBy
rise_by_place labels [] a s = tt
rise_by_place labels (b ∷ all) a s = (all_rise labels b all a.0 a.1 s.0, rise_by_place labels all a.1 s.1)

places_within : (labels : List Names) (all : List LabelAt) → AllByRecursion (IsAt labels) all → AllByRecursion (λ (place : ℕ). place < length labels) (map (λ (one : LabelAt). one.place) all)
places_within labels [] a = tt
places_within labels (b ∷ all) a = (a.0.within, places_within labels all a.1)

-- labels that are listed and then sorted
pub places_are : (labels : List Names) (listed sorted : List LabelAt) → IsDistinct labels_eq labels → AreListed 0 labels listed → IsPermutation listed sorted → IsSortedBy is_below sorted → ArePlaces labels (map (λ (one : LabelAt). one.place) sorted)
places_are labels listed sorted d a p s =
    let apart = IsDistinct-IsPermutation (eq_by_cmp by_labels) (eq_by_cmp_equiv labels_total).symm listed sorted p (listed_distinct 0 labels listed a d) in
    let ats : AllByRecursion (IsAt labels) sorted = recursion_from_All (IsAt labels) sorted (All-permutation (IsAt labels) listed sorted p (All-from_recursion (IsAt labels) listed (listed_at [] labels 0 listed refl a))) in
    record {
      count = length-map sorted (λ (one : LabelAt). one.place) ∙ length_permutation listed sorted p ∙ listed_count 0 labels listed a;
      within = All-from_recursion (λ (place : ℕ). place < length labels) (map (λ (one : LabelAt). one.place) sorted) (places_within labels sorted ats);
      rise = rise_by_place labels sorted ats (strict labels_total sorted s apart);
      all = λ place l. Contains-permutation (map (λ (one : LabelAt). one.place) listed) (map (λ (one : LabelAt). one.place) sorted) place (IsPermutation-map (λ (one : LabelAt). one.place) listed sorted p) (let none : 0 + place ≡ place = omega arith in subst (Contains (map (λ (one : LabelAt). one.place) listed)) none (has_place 0 labels listed place a l));
    }

-- ---- ranks

less_at : (ks : List Names) (i j : ℕ) → IsStrictlySortedBy labels_cmp ks → i < j → j < length ks → labels_cmp (get_or ks i []) (get_or ks j []) ≡ Less
unfolding IsStrictlySortedBy
less_at [] i j s l m = absurd (omega arith)
less_at (k ∷ ks) zero zero s l m = absurd (omega arith)
less_at (k ∷ ks) zero (suc j) s l m = each ks j s.0 (omega arith)
  where
    each : (ks : List Names) (j : ℕ) → AllByRecursion (λ q. labels_cmp k q ≡ Less) ks → j < length ks → labels_cmp k (get_or ks j []) ≡ Less
    each [] j a l = absurd (omega arith)
    each (q ∷ ks) zero a l = a.0
    each (q ∷ ks) (suc j) a l = each ks j a.1 (omega arith)
less_at (k ∷ ks) (suc i) zero s l m = absurd (omega arith)
less_at (k ∷ ks) (suc i) (suc j) s l m = less_at ks i j s.1 (omega arith) (omega arith)

get_mapped : (f : ℕ → Names) (places : List ℕ) (i : ℕ) → i < length places → get_or (map f places) i [] ≡ f (get_or places i 0)
get_mapped f [] i l = absurd (omega arith)
get_mapped f (p ∷ places) zero l = refl
get_mapped f (p ∷ places) (suc i) l = get_mapped f places i (omega arith)

pub rise_at : (labels : List Names) (places : List ℕ) (i j : ℕ) → LabelsRise labels places → i < j → j < length places → labels_cmp (names_at labels (get_or places i 0)) (names_at labels (get_or places j 0)) ≡ Less
rise_at labels places i j r l m =
    let n = length-map places (names_at labels) in
    (λ k. labels_cmp (sym (get_mapped (names_at labels) places i (omega arith)) k) (sym (get_mapped (names_at labels) places j m) k)) ∙ less_at (map (names_at labels) places) i j r l (omega (arith, n))

pub places_apart : (labels : List Names) (places : List ℕ) → LabelsRise labels places → (i j : ℕ) → i < length places → j < length places → get_or places i 0 ≡ get_or places j 0 → i ≡ j
places_apart labels places r i j l m e = pick (nat_cmp i j) (ranked i j (nat_cmp i j) refl)
  where
    tie : labels_cmp (names_at labels (get_or places i 0)) (names_at labels (get_or places j 0)) ≡ Equal
    tie = ap (λ (p : ℕ). labels_cmp (names_at labels (get_or places i 0)) (names_at labels p)) (sym e) ∙ tied_itself labels_cmp_total (names_at labels (get_or places i 0))

    tie' : labels_cmp (names_at labels (get_or places j 0)) (names_at labels (get_or places i 0)) ≡ Equal
    tie' = ap (λ (p : ℕ). labels_cmp (names_at labels p) (names_at labels (get_or places i 0))) (sym e) ∙ tied_itself labels_cmp_total (names_at labels (get_or places i 0))

    pick : (o : Ordering) → MatchOrdering o (i < j) (i ≡ j) (j < i) → i ≡ j
    pick Less h = let less = rise_at labels places i j r h m in let t = tie in absurd (cc)
    pick Equal h = h
    pick Greater h = let less = rise_at labels places j i r h l in let t = tie' in absurd (cc)

pub inverse_are : (labels : List Names) (places ranks : List ℕ) → ArePlaces labels places → length ranks ≡ length places → ((i : ℕ) → i < length places → get_or ranks (get_or places i 0) 0 ≡ i) → AreInverse places ranks
inverse_are labels places ranks a n f = record {
  count = n;
  within = subst (λ (m : ℕ). All (λ (place : ℕ). place < m) places) (sym a.count) a.within;
  below = λ place l. let h = a.all place (subst (λ (m : ℕ). place < m) a.count l) in subst (λ (m : ℕ). m < length places) (sym (told place h)) h.1;
  back = λ place l. let h = a.all place (subst (λ (m : ℕ). place < m) a.count l) in ap (λ (m : ℕ). get_or places m 0) (told place h) ∙ at place h;
}
  where
    at : (place : ℕ) (h : Contains places place) → get_or places h.0 0 ≡ place
    at place h = any_default places h.0 place h.1 ∙ h.2
      where
        any_default : (xs : List ℕ) (i d : ℕ) → i < length xs → get_or xs i 0 ≡ get_or xs i d
        any_default [] i d l = absurd (omega arith)
        any_default (x ∷ xs) zero d l = refl
        any_default (x ∷ xs) (suc i) d l = any_default xs i d (omega arith)

    told : (place : ℕ) (h : Contains places place) → get_or ranks place 0 ≡ h.0
    told place h = ap (λ (m : ℕ). get_or ranks m 0) (sym (at place h)) ∙ f h.0 h.1

some_is : (labels : List Names) (i : ℕ) (a : Names) → slice_get labels i ≡ Some a → (i < length labels) × (names_at labels i ≡ a)
some_is [] i a e = absurd (cc)
some_is (x ∷ labels) zero a e = (omega arith, cc)
some_is (x ∷ labels) (suc i) a e = let h = some_is labels i a e in (omega (arith, h.0), h.1)

-- ranks of places in the order of labels
pub ranks_are : (labels : List Names) (places ranks : List ℕ) → length places ≡ length labels → LabelsRise labels places → AreInverse places ranks → AreRanks labels ranks
ranks_are labels places ranks n r v = record {
  count = v.count ∙ n;
  order = λ i j a b ea eb. told i j a b (some_is labels i a ea) (some_is labels j b eb);
}
  where
    told : (i j : ℕ) (a b : Names) → (i < length labels) × (names_at labels i ≡ a) → (j < length labels) × (names_at labels j ≡ b) → nat_cmp (get_or ranks i 0) (get_or ranks j 0) ≡ labels_cmp a b
    told i j a b ha hb = pick (nat_cmp (get_or ranks i 0) (get_or ranks j 0)) refl (ranked (get_or ranks i 0) (get_or ranks j 0) (nat_cmp (get_or ranks i 0) (get_or ranks j 0)) refl) ∙ (λ k. labels_cmp (ha.1 k) (hb.1 k))
      where
        i_in : i < length places
        i_in = omega (arith, n, ha.0)

        j_in : j < length places
        j_in = omega (arith, n, hb.0)

        pick : (o : Ordering) → nat_cmp (get_or ranks i 0) (get_or ranks j 0) ≡ o → MatchOrdering o (get_or ranks i 0 < get_or ranks j 0) (get_or ranks i 0 ≡ get_or ranks j 0) (get_or ranks j 0 < get_or ranks i 0) → nat_cmp (get_or ranks i 0) (get_or ranks j 0) ≡ labels_cmp (names_at labels i) (names_at labels j)
        pick Less e h =
            e ∙ sym ((λ k. labels_cmp (names_at labels (sym (v.back i i_in) k)) (names_at labels (sym (v.back j j_in) k))) ∙ rise_at labels places (get_or ranks i 0) (get_or ranks j 0) r h (v.below j j_in))
        pick Equal e h =
            let same : i ≡ j = sym (v.back i i_in) ∙ ap (λ (m : ℕ). get_or places m 0) h ∙ v.back j j_in in
            e ∙ sym (ap (λ (m : ℕ). labels_cmp (names_at labels i) (names_at labels m)) (sym same) ∙ tied_itself labels_cmp_total (names_at labels i))
        pick Greater e h =
            let less : labels_cmp (names_at labels j) (names_at labels i) ≡ Less = (λ k. labels_cmp (names_at labels (sym (v.back j j_in) k)) (names_at labels (sym (v.back i i_in) k))) ∙ rise_at labels places (get_or ranks j 0) (get_or ranks i 0) r h (v.below i i_in) in
            e ∙ sym (labels_cmp_total.antisymm (names_at labels i) (names_at labels j) ∙ ap ordering_reverse less)

-- ---- loops

-- ranks that are set one by one
pub rank_more : (places ranks : List ℕ) (i : ℕ) → length ranks ≡ length places → All (λ (place : ℕ). place < length places) places
    → ((i j : ℕ) → i < length places → j < length places → get_or places i 0 ≡ get_or places j 0 → i ≡ j) → i < length places → ((k : ℕ) → k < i → get_or ranks (get_or places k 0) 0 ≡ k)
    → (k : ℕ) → k < i + 1 → get_or (set ranks (get_or places i 0) i) (get_or places k 0) 0 ≡ k
rank_more places ranks i n w apart l f k h = by (nat_lt k i) refl
  where
    by : (b : Bool) → nat_lt k i ≡ b → get_or (set ranks (get_or places i 0) i) (get_or places k 0) 0 ≡ k
    by true e =
        let less : k < i = ltb-true k i e in
        get_or-set_other ranks (get_or places i 0) (get_or places k 0) i 0 (λ s. let same : k ≡ i = apart k i (omega arith) l s in absurd (omega arith)) ∙ f k less
    by false e =
        let most : i ≤ k = ltb-false k i e in
        let same : i ≡ k = omega arith in
        subst (λ (m : ℕ). get_or (set ranks (get_or places i 0) i) (get_or places m 0) 0 ≡ m) same (get_or-set_same ranks (get_or places i 0) i 0 (let p : get_or places i 0 < length places = w i 0 l in omega (arith, n, p)))

-- labels that rise so far
pub rise_more : (labels : List Names) (places : List ℕ) (i : ℕ) → 0 < i → i < length places → labels_cmp (names_at labels (get_or places (i - 1) 0)) (names_at labels (get_or places i 0)) ≡ Less
    → ((k : ℕ) → k + 1 < i → labels_cmp (get_or (map (names_at labels) places) k []) (get_or (map (names_at labels) places) (k + 1) []) ≡ Less)
    → (k : ℕ) → k + 1 < i + 1 → labels_cmp (get_or (map (names_at labels) places) k []) (get_or (map (names_at labels) places) (k + 1) []) ≡ Less
rise_more labels places i p l less f k h = by (nat_lt (k + 1) i) refl
  where
    by : (b : Bool) → nat_lt (k + 1) i ≡ b → labels_cmp (get_or (map (names_at labels) places) k []) (get_or (map (names_at labels) places) (k + 1) []) ≡ Less
    by true e = f k (ltb-true (k + 1) i e)
    by false e =
        let most : i ≤ k + 1 = ltb-false (k + 1) i e in
        let same : i ≡ k + 1 = omega arith in
        let before : i - 1 ≡ k = omega arith in
        (λ j. labels_cmp ((get_mapped (names_at labels) places k (omega arith) ∙ ap (λ (m : ℕ). names_at labels (get_or places m 0)) (sym before)) j) ((get_mapped (names_at labels) places (k + 1) (omega arith) ∙ ap (λ (m : ℕ). names_at labels (get_or places m 0)) (sym same)) j)) ∙ less

pub rising_are : (labels : List Names) (places : List ℕ) → ((k : ℕ) → k + 1 < length places → labels_cmp (get_or (map (names_at labels) places) k []) (get_or (map (names_at labels) places) (k + 1) []) ≡ Less) → LabelsRise labels places
rising_are labels places f =
    let n = length-map places (names_at labels) in
    sorted_from_all_adjacent labels_cmp_total (map (names_at labels) places) [] (λ k h. f k (omega (arith, n, h)))
