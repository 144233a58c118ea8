-- Slots in another order, as their numbers.
use Rattle.std.proofs.Common.{◌≡◌, ◌∙◌, ℕ, zero, suc, ◌+◌, ◌<◌, ◌≤◌, Bool, true, false, List, [], ◌∷◌, ◌++◌, length, get_or, slice_get, take, refl, sym, ap, subst, arith, Option, Some}
use Rattle.std.proofs.Math.ListN.{set}
use Rattle.std.specs.Prelude.{◌==◌, if◌then◌else◌}
use Rattle.std.specs.List.{AllByRecursion, cons_option, filter_map, range_with_len}
use Rattle.std.specs.List.Sorted.{IsPermutation}
use Rattle.std.specs.Option.{option_and_then, option_to_list}
use Rattle.std.proofs.lemmas.Bool.{eqb-true, eq-eqb}
use Rattle.std.proofs.lemmas.List.FromFn.{length-range_with_len}
use Rattle.std.proofs.lemmas.List.Elements.{All-from_recursion, recursion_from_All}
use Rattle.std.proofs.lemmas.List.Sorted.{All-permutation, length_permutation}
use Rattle.step_batch.specs.Lent.{SlotsRise}
use Rattle.step_batch.specs.declared.steps.Slot.{Slot}
use Rattle.step_table.specs.Shuffles.{Shuffled, none, kept, swapped, joined}
use Rattle.step_table.specs.Shuffling.{chosen_shuffled, from_permutation, itself, mapped_shuffled, to_permutation, turned_back}
use Rattle.op_buckets.specs.SlotOrders.{IsOrder, slots_in, times}
use Rattle.op_buckets.specs.declared.order.SlotKey.{SlotKey}
use Rattle.op_buckets.proofs.Splitting.{chosen_more}

-- ---- numbers

times_shuffled : (k : ℕ) (xs ys : List ℕ) → Shuffled xs ys → times k xs ≡ times k ys
times_shuffled k _ _ none = refl
times_shuffled k _ _ (kept x xs ys s) = ap (λ (n : ℕ). if k == x then suc n else n) (times_shuffled k xs ys s)
times_shuffled k _ _ (swapped x y xs) = both (k == x) (k == y) (times k xs)
  where
    both : (a b : Bool) (n : ℕ) → (if a then suc (if b then suc n else n) else (if b then suc n else n)) ≡ (if b then suc (if a then suc n else n) else (if a then suc n else n))
    both true true n = refl
    both true false n = refl
    both false true n = refl
    both false false n = refl
times_shuffled k _ _ (joined xs ys zs s t) = times_shuffled k xs ys s ∙ times_shuffled k ys zs t

-- a number of a list comes to the front
fronted : (k : ℕ) (ys : List ℕ) → 0 < times k ys → (rest : List ℕ) × Shuffled ys (k ∷ rest)
fronted k [] l = absurd (omega arith)
fronted k (y ∷ ys) l = pick (k == y) refl (λ m. fronted k ys m) l
  where
    pick : (b : Bool) → (k == y) ≡ b → (0 < times k ys → (rest : List ℕ) × Shuffled ys (k ∷ rest)) → 0 < (if b then suc (times k ys) else times k ys) → (rest : List ℕ) × Shuffled (y ∷ ys) (k ∷ rest)
    pick true e f l = (ys, subst (λ (z : ℕ). Shuffled (y ∷ ys) (z ∷ ys)) (sym (eqb-true k y e)) (itself (y ∷ ys)))
    pick false e f l = let r = f l in (y ∷ r.0, joined (y ∷ ys) (y ∷ k ∷ r.0) (k ∷ y ∷ r.0) (kept y ys (k ∷ r.0) r.1) (swapped y k r.0))

times_own : (k : ℕ) (xs : List ℕ) → times k (k ∷ xs) ≡ suc (times k xs)
times_own k xs = ap (λ (b : Bool). if b then suc (times k xs) else times k xs) (eq-eqb k k refl)

-- lists in which each number stands as often are the same in another order
by_times : (xs ys : List ℕ) → ((k : ℕ) → times k xs ≡ times k ys) → Shuffled xs ys
by_times [] [] e = none
by_times [] (y ∷ ys) e = let no : 0 ≡ suc (times y ys) = e y ∙ times_own y ys in absurd (omega (arith, no))
by_times (x ∷ xs) ys e =
    let some : suc (times x xs) ≡ times x ys = sym (times_own x xs) ∙ e x in
    let r = fronted x ys (omega (arith, some)) in
    let rest : (k : ℕ) → times k xs ≡ times k r.0 = λ k. less (k == x) (times k xs) (times k r.0) (e k ∙ times_shuffled k ys (x ∷ r.0) r.1) in
    joined (x ∷ xs) (x ∷ r.0) ys (kept x xs r.0 (by_times xs r.0 rest)) (turned_back ys (x ∷ r.0) r.1)
  where
    less : (b : Bool) (m n : ℕ) → (if b then suc m else m) ≡ (if b then suc n else n) → m ≡ n
    less true m n h = omega (arith, h)
    less false m n h = h

-- the numbers in order are all in another order
all_moved : (numbers : List ℕ) → IsOrder numbers → Shuffled (range_with_len 0 (length numbers)) numbers
all_moved numbers o = by_times (range_with_len 0 (length numbers)) numbers (λ k. sym (o k))

numbers_more : (a n : ℕ) → range_with_len a (n + 1) ≡ range_with_len a n ++ (a + n) ∷ []
numbers_more a zero = let e : a ≡ a + 0 = omega arith in ap (λ (z : ℕ). z ∷ []) e
numbers_more a (suc n) =
    let e : suc n + 1 ≡ suc (n + 1) = omega arith in
    let f : a + 1 + n ≡ a + suc n = omega arith in
    rw e (ap (λ (r : List ℕ). a ∷ r) (numbers_more (a + 1) n ∙ ap (λ (z : ℕ). range_with_len (a + 1) n ++ z ∷ []) f))

pub order_of_numbers : (numbers : List ℕ) (n : ℕ) → numbers ≡ range_with_len 0 n → IsOrder numbers
order_of_numbers numbers n e = λ k. ap (times k) (e ∙ ap (range_with_len 0) (sym (ap length e ∙ length-range_with_len 0 n)))

below : (a n high : ℕ) → a + n ≤ high → AllByRecursion (λ (k : ℕ). k < high) (range_with_len a n)
below a zero high l = tt
below a (suc n) high l = (omega arith, below (a + 1) n high (omega arith))

-- ---- slots

pub slots_count : (keys : List SlotKey) → length (slots_in keys) ≡ length keys
slots_count [] = refl
slots_count (key ∷ keys) = ap suc (slots_count keys)

pub numbers_count : (keys : List SlotKey) (n : ℕ) → slots_in keys ≡ range_with_len 0 n → length keys ≡ n
numbers_count keys n e = sym (slots_count keys) ∙ ap length e ∙ length-range_with_len 0 n

pub slots_more : (old new : List SlotKey) (key : SlotKey) (i : ℕ) → slots_in old ≡ range_with_len 0 i → key.slot ≡ i → new ≡ old ++ key ∷ [] → slots_in new ≡ range_with_len 0 (i + 1)
slots_more old new key i o k n =
    let e : 0 + i ≡ i = omega arith in
    let more : range_with_len 0 (i + 1) ≡ range_with_len 0 i ++ i ∷ [] = numbers_more 0 i ∙ ap (λ (z : ℕ). range_with_len 0 i ++ z ∷ []) e in
    ap slots_in n ∙ behind old ∙ (λ j. o j ++ k j ∷ []) ∙ sym more
  where
    behind : (ks : List SlotKey) → slots_in (ks ++ key ∷ []) ≡ slots_in ks ++ key.slot ∷ []
    behind [] = refl
    behind (x ∷ ks) = ap (λ (r : List ℕ). x.slot ∷ r) (behind ks)

-- another key of the same slot
pub slots_set : (keys : List SlotKey) (i : ℕ) (was key : SlotKey) → i < length keys → was ≡ get_or keys i was → key.slot ≡ was.slot → slots_in (set keys i key) ≡ slots_in keys
slots_set [] i was key l w s = absurd (omega arith)
slots_set (x ∷ keys) zero was key l w s = ap (λ (n : ℕ). n ∷ slots_in keys) (s ∙ ap (λ (z : SlotKey). z.slot) w)
slots_set (x ∷ keys) (suc i) was key l w s = ap (λ (r : List ℕ). x.slot ∷ r) (slots_set keys i was key (omega arith) w s)

pub slots_moved : (old new : List SlotKey) → IsPermutation old new → IsOrder (slots_in old) → IsOrder (slots_in new)
slots_moved old new p o =
    let moved : Shuffled (slots_in old) (slots_in new) = mapped_shuffled (λ (key : SlotKey). key.slot) old new (from_permutation old new p) in
    let counts : length (slots_in old) ≡ length (slots_in new) = slots_count old ∙ sym (length_permutation old new p) ∙ sym (slots_count new) in
    λ k. sym (times_shuffled k (slots_in old) (slots_in new) moved) ∙ o k ∙ ap (λ (n : ℕ). times k (range_with_len 0 n)) counts

-- a slot that is sorted is there
pub slot_below : (keys : List SlotKey) (n i : ℕ) (key : SlotKey) → IsOrder (slots_in keys) → length keys ≡ n → i < length keys → key ≡ get_or keys i key → key.slot < n
slot_below keys n i key o c l e = at keys i l e all
  where
    all : AllByRecursion (λ (k : ℕ). k < n) (slots_in keys)
    all =
        let m : ℕ = length (slots_in keys) in
        let counts : m ≡ length keys = slots_count keys in
        recursion_from_All (λ (k : ℕ). k < n) (slots_in keys)
        (All-permutation (λ (k : ℕ). k < n) (range_with_len 0 m) (slots_in keys) (to_permutation (range_with_len 0 m) (slots_in keys) (all_moved (slots_in keys) o)) (All-from_recursion (λ (k : ℕ). k < n) (range_with_len 0 m) (below 0 m n (omega (arith, counts, c)))))

    at : (ks : List SlotKey) (j : ℕ) → j < length ks → key ≡ get_or ks j key → AllByRecursion (λ (k : ℕ). k < n) (slots_in ks) → key.slot < n
    at [] j l e a = absurd (omega arith)
    at (x ∷ ks) zero l e a = subst (λ (z : SlotKey). z.slot < n) (sym e) a.0
    at (x ∷ ks) (suc j) l e a = at ks j (omega arith) e a.1

-- a slot that is there has a place
pub place_below : (high low : ℕ) (slots : List Slot) (n : ℕ) (slot : Slot) → SlotsRise low high slots → slice_get slots n ≡ Some slot → slot.place < high
place_below high low [] n slot r e = absurd (cc)
place_below high low (s ∷ slots) zero slot r e = let same : s ≡ slot = cc in subst (λ (z : Slot). z.place < high) same r.1
place_below high low (s ∷ slots) (suc n) slot r e = place_below high (s.place + 1) slots n slot r.2 e

-- ---- what is made of slots in their order

-- what is made of the slot of a number
abbrev pub made_at : {B : Type 0} → (Slot → Option B) → List Slot → ℕ → Option B
made_at f slots n = option_and_then f (slice_get slots n)

abbrev pub made_by : {B : Type 0} → (Slot → Option B) → List Slot → SlotKey → Option B
made_by f slots key = made_at f slots key.slot

shifted : {B : Type 0} (f : Slot → Option B) (x : Slot) (xs : List Slot) (a n : ℕ) → filter_map (made_at f (x ∷ xs)) (range_with_len (a + 1) n) ≡ filter_map (made_at f xs) (range_with_len a n)
shifted f x xs a zero = refl
shifted f x xs a (suc n) =
    let e : a + 1 ≡ suc a = omega arith in
    (λ j. cons_option (made_at f (x ∷ xs) (e j)) (shifted f x xs (a + 1) n j))

of_numbers : {B : Type 0} (f : Slot → Option B) (slots : List Slot) → filter_map (made_at f slots) (range_with_len 0 (length slots)) ≡ filter_map f slots
of_numbers f [] = refl
of_numbers f (x ∷ xs) = ap (cons_option (f x)) (shifted f x xs 0 (length xs) ∙ of_numbers f xs)

of_keys : {B : Type 0} (f : Slot → Option B) (slots : List Slot) (keys : List SlotKey) → filter_map (made_by f slots) keys ≡ filter_map (made_at f slots) (slots_in keys)
of_keys f slots [] = refl
of_keys f slots (key ∷ keys) = ap (cons_option (made_by f slots key)) (of_keys f slots keys)

-- what is made of slots in an order is what is made of them, in another order
pub made_moved : {B : Type 0} (f : Slot → Option B) (slots : List Slot) (keys : List SlotKey) (made : List B) → IsOrder (slots_in keys) → length keys ≡ length slots → made ≡ filter_map (made_by f slots) keys → IsPermutation (filter_map f slots) made
made_moved {B} f slots keys made o c m =
    let n : ℕ = length (slots_in keys) in
    let count : n ≡ length slots = slots_count keys ∙ c in
    let there : Shuffled (filter_map (made_at f slots) (range_with_len 0 n)) (filter_map (made_at f slots) (slots_in keys)) = chosen_shuffled (made_at f slots) (range_with_len 0 n) (slots_in keys) (all_moved (slots_in keys) o) in
    let front : filter_map (made_at f slots) (range_with_len 0 n) ≡ filter_map f slots = ap (λ (k : ℕ). filter_map (made_at f slots) (range_with_len 0 k)) count ∙ of_numbers f slots in
    let back : filter_map (made_at f slots) (slots_in keys) ≡ made = sym (of_keys f slots keys) ∙ sym m in
    to_permutation (filter_map f slots) made (subst (λ (z : List B). Shuffled (filter_map f slots) z) back (subst (λ (z : List B). Shuffled z (filter_map (made_at f slots) (slots_in keys))) front there))

-- one slot more in an order
pub made_more : {B : Type 0} (f : Slot → Option B) (slots : List Slot) (keys : List SlotKey) (i : ℕ) (key : SlotKey) (slot : Slot) (o : Option B) (old new : List B) → i < length keys → key ≡ get_or keys i key → slice_get slots key.slot ≡ Some slot
    → o ≡ f slot → old ≡ filter_map (made_by f slots) (take i keys) → new ≡ old ++ option_to_list o → new ≡ filter_map (made_by f slots) (take (i + 1) keys)
made_more {B} f slots keys i key slot o old new l k s e h n =
    let one : o ≡ made_by f slots (get_or keys i key) = e ∙ ap (option_and_then f) (sym s) ∙ ap (made_by f slots) k in
    n ∙ (λ j. h j ++ option_to_list (one j)) ∙ sym (chosen_more (made_by f slots) keys i key l)
