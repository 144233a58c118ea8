-- The first rows of a group by value: those that are no later than the k-th.
use Rattle.std.proofs.Common.{◌≡◌, ◌∙◌, ℕ, zero, suc, ◌+◌, ◌<◌, ◌≤◌, Bool, true, false, cond, List, [], ◌∷◌, length, get_or, refl, sym, ap, subst, arith}
use Rattle.std.specs.Prelude.{◌&&◌, not, nat_lt, filter, count_by}
use Rattle.std.specs.BTreeMap.{is_at}
use Rattle.std.specs.Cmp.{IsStrictWeakOrder}
use Rattle.std.specs.List.{All, AllByRecursion}
use Rattle.std.specs.List.Sorted.{IsPermutation, IsSortedBy}
use Rattle.std.specs.Map.{values_of}
use Rattle.std.specs.Ordering.{is_lt}
use Rattle.std.proofs.lemmas.Bool.{le-ltb, lt-ltb, ltb-true, ltb-false}
use Rattle.std.proofs.lemmas.List.Elements.{All-head, All-tail}
use Rattle.std.proofs.lemmas.List.MinMax.{ranks_by}
use Rattle.std.proofs.lemmas.List.Sorted.{All-permutation, sum_by-IsPermutation}
use Rattle.std.proofs.lemmas.List.Sums.{sum_by-cons}
use Rattle.label_set.specs.Entries.{recursion_map}
use Rattle.label_set.specs.Labels.{labels_cmp}
use Rattle.label_set.specs.declared.rules.Grouping.{Grouping}
use Rattle.xfrac.specs.Laws.{IsNumber, EqualIsSame, LessIsTransitive, OrderIsReversed}
use Rattle.step_table.specs.Gathering.{found}
use Rattle.step_table.specs.Groups.{Names, gathered, items_of}
use Rattle.step_table.specs.declared.step.Row.{Row}
use Rattle.promql_meaning.specs.Ranks.{comes_before, is_ahead, is_ranked, kept_labels}
use Rattle.promql_meaning.specs.RankedGroups.{AreNumbers, AreRanked, IsByValue, Rises, group_in, grouped_refs, is_among, seen}
use Rattle.promql_meaning.proofs.Weak.{rows_total, tidied_order, tidied_same}
use denote.Ref.{Bor}

-- ---- counting

module _ {X : Type 0} (p : X → Bool) where
  count-cons : (x : X) (xs : List X) → count_by p (x ∷ xs) ≡ cond (p x) 1 0 + count_by p xs
  count-cons x xs = sum_by-cons (λ y. cond (p y) 1 0) x xs

  count-none : (xs : List X) → AllByRecursion (λ x. p x ≡ false) xs → count_by p xs ≡ 0
  count-none [] a = refl
  count-none (x ∷ xs) a =
      let head : count_by p (x ∷ xs) ≡ 0 + count_by p xs = count-cons x xs ∙ ap (λ b. cond b 1 0 + count_by p xs) a.0 in
      let rest : count_by p xs ≡ 0 = count-none xs a.1 in
      omega (arith, head, rest)

count-alike : {X : Type 0} (p q : X → Bool) (xs : List X) → AllByRecursion (λ x. p x ≡ q x) xs → count_by p xs ≡ count_by q xs
count-alike p q [] a = refl
count-alike p q (x ∷ xs) a =
    count-cons p x xs ∙ ap (λ b. cond b 1 0 + count_by p xs) a.0 ∙ ap (λ n. cond (q x) 1 0 + n) (count-alike p q xs a.1) ∙ sym (count-cons q x xs)

lt-both : (m n : ℕ) → nat_lt (1 + m) (suc n) ≡ nat_lt m n
lt-both m n = by (nat_lt m n) refl
  where
    by : (b : Bool) → nat_lt m n ≡ b → nat_lt (1 + m) (suc n) ≡ b
    by true h = let l : m < n = ltb-true m n h in lt-ltb (1 + m) (suc n) (omega arith)
    by false h = let l : n ≤ m = ltb-false m n h in le-ltb (1 + m) (suc n) (omega arith)

-- ---- the first k of a list that rises

module _ (down : Bool) (row : Row) (number : IsNumber row.value)
    (chain : (a b c : Row) → IsNumber a.value → IsNumber b.value → IsNumber c.value → comes_before down a b ≡ false → comes_before down b c ≡ false → comes_before down a c ≡ false) where
  none_ahead : (r : Bor Row) (rs : List (Bor Row)) → IsNumber r.now.value → AreNumbers rs → AllByRecursion (λ (s : Bor Row). comes_before down s.now r.now ≡ false) rs → comes_before down r.now row ≡ false
      → AllByRecursion (λ (s : Bor Row). comes_before down s.now row ≡ false) rs
  none_ahead r [] n ns a h = tt
  none_ahead r (s ∷ rs) n ns a h = (chain s.now r.now row ns.0 n number a.0 h, none_ahead r rs n ns.1 a.1 h)

  pub first_ones : (k : ℕ) (rs : List (Bor Row)) → AreNumbers rs → Rises down rs → is_among down k (seen rs) row ≡ nat_lt (count_by (λ (s : Bor Row). comes_before down s.now row) rs) k
  first_ones zero rs ns up = sym (le-ltb (count_by (λ (s : Bor Row). comes_before down s.now row) rs) 0 (omega arith))
  first_ones (suc k) [] ns up = sym (lt-ltb 0 (suc k) (omega arith))
  first_ones (suc zero) (r ∷ rs) ns up = by (comes_before down r.now row) refl
    where
      by : (b : Bool) → comes_before down r.now row ≡ b → not (comes_before down r.now row) ≡ nat_lt (count_by (λ (s : Bor Row). comes_before down s.now row) (r ∷ rs)) 1
      by true h =
          let count = count-cons (λ (s : Bor Row). comes_before down s.now row) r rs ∙ ap (λ b. cond b 1 0 + count_by (λ (s : Bor Row). comes_before down s.now row) rs) h in
          ap not h ∙ sym (ap (λ n. nat_lt n 1) count ∙ le-ltb (1 + count_by (λ (s : Bor Row). comes_before down s.now row) rs) 1 (omega arith))
      by false h =
          let count = count-none (λ (s : Bor Row). comes_before down s.now row) (r ∷ rs) (h, none_ahead r rs ns.0 ns.1 up.0 h) in
          ap not h ∙ sym (ap (λ n. nat_lt n 1) count)
  first_ones (suc (suc k)) (r ∷ rs) ns up = by (first_ones (suc k) rs ns.1 up.1) (comes_before down r.now row) refl
    where
      by : is_among down (suc k) (seen rs) row ≡ nat_lt (count_by (λ (s : Bor Row). comes_before down s.now row) rs) (suc k) → (b : Bool) → comes_before down r.now row ≡ b
          → is_among down (suc k) (seen rs) row ≡ nat_lt (count_by (λ (s : Bor Row). comes_before down s.now row) (r ∷ rs)) (suc (suc k))
      by rest true h =
          let count = count-cons (λ (s : Bor Row). comes_before down s.now row) r rs ∙ ap (λ b. cond b 1 0 + count_by (λ (s : Bor Row). comes_before down s.now row) rs) h in
          rest ∙ sym (ap (λ n. nat_lt n (suc (suc k))) count ∙ lt-both (count_by (λ (s : Bor Row). comes_before down s.now row) rs) (suc k))
      by rest false h =
          let later = none_ahead r rs ns.0 ns.1 up.0 h in
          let none = count-none (λ (s : Bor Row). comes_before down s.now row) rs later in
          let all = count-none (λ (s : Bor Row). comes_before down s.now row) (r ∷ rs) (h, later) in
          rest ∙ ap (λ n. nat_lt n (suc k)) none ∙ lt-ltb 0 (suc k) (omega arith) ∙ sym (ap (λ n. nat_lt n (suc (suc k))) all ∙ lt-ltb 0 (suc (suc k)) (omega arith))

-- ---- where a row stands beside the k-th

pub among_none : (down : Bool) (k : ℕ) (group : List Row) (row : Row) → k ≡ 0 → is_among down k group row ≡ false
among_none down zero group row e = refl
among_none down (suc k) group row e = absurd (omega arith)

pub among_beyond : (down : Bool) (k : ℕ) (group : List (Bor Row)) (row : Row) → length group < k → is_among down k (seen group) row ≡ true
among_beyond down zero group row l = absurd (omega arith)
among_beyond down (suc k) [] row l = refl
among_beyond down (suc zero) (r ∷ rs) row l = absurd (omega arith)
among_beyond down (suc (suc k)) (r ∷ rs) row l = among_beyond down (suc k) rs row (omega arith)

pub among_at : (down : Bool) (k n : ℕ) (group : List (Bor Row)) (row : Row) (r : Bor Row) → k ≡ suc n → n < length group → r ≡ get_or group n r → is_among down k (seen group) row ≡ not (comes_before down r.now row)
among_at down zero n group row r e l at = absurd (omega arith)
among_at down (suc k) n group row r e l at = let same : k ≡ n = omega (arith, e) in subst (λ m. is_among down (suc m) (seen group) row ≡ not (comes_before down r.now row)) (sym same) (here n group l at)
  where
    here : (n : ℕ) (group : List (Bor Row)) → n < length group → r ≡ get_or group n r → is_among down (suc n) (seen group) row ≡ not (comes_before down r.now row)
    here n [] l at = absurd (omega arith)
    here zero (s ∷ rs) l at = ap (λ (x : Bor Row). not (comes_before down x.now row)) (sym at)
    here (suc n) (s ∷ rs) l at = here n rs (omega arith) at

-- ---- the rows of one group

module _ (by : Grouping) (names : Names) where
  group_all : (P : Bor Row → Type 0) (refs : List (Bor Row)) → AllByRecursion P refs → AllByRecursion P (items_of (grouped_refs by refs) names)
  group_all P [] a = tt
  group_all P (r ∷ refs) a = pick (is_at (labels_cmp names) (kept_labels by r.now.labels)) (group_all P refs a.1)
    where
      pick : (b : Bool) → AllByRecursion P (items_of (grouped_refs by refs) names)
          → AllByRecursion P (values_of (cond b ((kept_labels by r.now.labels, r) ∷ filter (λ item. is_at (labels_cmp names) item.0) (grouped_refs by refs)) (filter (λ item. is_at (labels_cmp names) item.0) (grouped_refs by refs))))
      pick true rest = (a.0, rest)
      pick false rest = rest

  group_rises : (down : Bool) (refs : List (Bor Row)) → Rises down refs → Rises down (items_of (grouped_refs by refs) names)
  group_rises down [] up = tt
  group_rises down (r ∷ refs) up = pick (is_at (labels_cmp names) (kept_labels by r.now.labels)) (group_all (λ (s : Bor Row). comes_before down s.now r.now ≡ false) refs up.0) (group_rises down refs up.1)
    where
      pick : (b : Bool) → AllByRecursion (λ (s : Bor Row). comes_before down s.now r.now ≡ false) (items_of (grouped_refs by refs) names) → Rises down (items_of (grouped_refs by refs) names)
          → Rises down (values_of (cond b ((kept_labels by r.now.labels, r) ∷ filter (λ item. is_at (labels_cmp names) item.0) (grouped_refs by refs)) (filter (λ item. is_at (labels_cmp names) item.0) (grouped_refs by refs))))
      pick true first rest = (first, rest)
      pick false first rest = rest

  group_count : (p : Bor Row → Bool) (refs : List (Bor Row)) → count_by (λ (r : Bor Row). is_at (labels_cmp names) (kept_labels by r.now.labels) && p r) refs ≡ count_by p (items_of (grouped_refs by refs) names)
  group_count p [] = refl
  group_count p (r ∷ refs) =
      count-cons (λ (s : Bor Row). is_at (labels_cmp names) (kept_labels by s.now.labels) && p s) r refs ∙ pick (is_at (labels_cmp names) (kept_labels by r.now.labels)) (group_count p refs)
    where
      pick : (b : Bool) → count_by (λ (s : Bor Row). is_at (labels_cmp names) (kept_labels by s.now.labels) && p s) refs ≡ count_by p (items_of (grouped_refs by refs) names)
          → cond (b && p r) 1 0 + count_by (λ (s : Bor Row). is_at (labels_cmp names) (kept_labels by s.now.labels) && p s) refs
          ≡ count_by p (values_of (cond b ((kept_labels by r.now.labels, r) ∷ filter (λ item. is_at (labels_cmp names) item.0) (grouped_refs by refs)) (filter (λ item. is_at (labels_cmp names) item.0) (grouped_refs by refs))))
      pick true rest = ap (λ n. cond (p r) 1 0 + n) rest ∙ sym (count-cons p r (items_of (grouped_refs by refs) names))
      pick false rest = (let none : 0 + count_by (λ (s : Bor Row). is_at (labels_cmp names) (kept_labels by s.now.labels) && p s) refs ≡ count_by (λ (s : Bor Row). is_at (labels_cmp names) (kept_labels by s.now.labels) && p s) refs = omega arith in none) ∙ rest

-- ---- the order of numbers

before_chain : EqualIsSame → OrderIsReversed → LessIsTransitive → (down : Bool) (a b c : Row) → IsNumber a.value → IsNumber b.value → IsNumber c.value → comes_before down a b ≡ false → comes_before down b c ≡ false → comes_before down a c ≡ false
before_chain equal reversed transitive down a b c na nb nc h k =
    let weak = ranks_by (rows_total equal reversed transitive down) (λ (row : Row). row) in
    let first : is_lt (tidied_order down a b) ≡ false = ap is_lt (tidied_same down a b na nb) ∙ h in
    let second : is_lt (tidied_order down b c) ≡ false = ap is_lt (tidied_same down b c nb nc) ∙ k in
    ap is_lt (sym (tidied_same down a c na nc)) ∙ weak.chain a b c first second

-- groups of rows that are sorted by value
pub ranked_are : EqualIsSame → OrderIsReversed → LessIsTransitive → (down : Bool) (by : Grouping) (rows : List Row) (refs : List (Bor Row)) → IsByValue down rows refs → AreRanked down by rows (gathered (grouped_refs by refs))
ranked_are equal reversed transitive down by rows refs sorted = record { told = λ k row number. one k row number }
  where
    one : (k : ℕ) (row : Row) → IsNumber row.value → is_among down k (group_in (gathered (grouped_refs by refs)) (kept_labels by row.labels)) row ≡ is_ranked down by k rows row
    one k row number =
        let names = kept_labels by row.labels in
        ap (λ g. is_among down k (seen g) row) (found (grouped_refs by refs) names)
        ∙ first_ones down row number (before_chain equal reversed transitive down) k (items_of (grouped_refs by refs) names)
        (group_all by names (λ (r : Bor Row). IsNumber r.now.value) refs sorted.numbers) (group_rises by names down refs sorted.rises)
        ∙ ap (λ n. nat_lt n k) (sym (group_count by names (λ (s : Bor Row). comes_before down s.now row) refs) ∙ sorted.counts (is_ahead down by row))

-- ---- what a sort gives

abbrev pub below : Bool → Bor Row → Bor Row → Bool
below down a b = is_lt (tidied_order down a.now b.now)

pub below_is_weak : EqualIsSame → OrderIsReversed → LessIsTransitive → (down : Bool) → IsStrictWeakOrder (below down)
below_is_weak equal reversed transitive down = ranks_by (rows_total equal reversed transitive down) (λ (row : Bor Row). row.now)

pub below_is : (down : Bool) (a b : Bor Row) → IsNumber a.now.value → IsNumber b.now.value → below down a b ≡ comes_before down a.now b.now
below_is down a b na nb = ap is_lt (tidied_same down a.now b.now na nb)

module _ (down : Bool) (weak : IsStrictWeakOrder (below down)) where
  sorted_tail : (x y : Bor Row) (ys : List (Bor Row)) → IsSortedBy (below down) (x ∷ y ∷ ys) → IsSortedBy (below down) (y ∷ ys)
  sorted_tail x y ys up k d low high = next (up (suc k) d (omega arith) (omega arith))
    where
      next : below down (get_or (x ∷ y ∷ ys) (suc k + 1) d) (get_or (x ∷ y ∷ ys) (suc k) d) ≡ false → below down (get_or (y ∷ ys) (k + 1) d) (get_or (y ∷ ys) k d) ≡ false
      next h = let behind : suc k + 1 ≡ suc (k + 1) = omega arith in subst (λ n. below down (get_or (x ∷ y ∷ ys) n d) (get_or (y ∷ ys) k d) ≡ false) behind h

  -- none of the later ones is below the first
  above : (x : Bor Row) (xs : List (Bor Row)) → IsSortedBy (below down) (x ∷ xs) → AllByRecursion (λ (y : Bor Row). below down y x ≡ false) xs
  above x [] up = tt
  above x (y ∷ ys) up =
      let first : below down y x ≡ false = up 0 x (omega arith) (omega arith) in
      (first, recursion_map (λ (z : Bor Row). below down z y ≡ false) (λ (z : Bor Row). below down z x ≡ false) (λ z h. weak.chain z y x h first) ys (above y ys (sorted_tail x y ys up)))

  as_before : (x : Bor Row) (xs : List (Bor Row)) → IsNumber x.now.value → AreNumbers xs → AllByRecursion (λ (y : Bor Row). below down y x ≡ false) xs → AllByRecursion (λ (y : Bor Row). comes_before down y.now x.now ≡ false) xs
  as_before x [] n ns a = tt
  as_before x (y ∷ ys) n ns a = (sym (below_is down y x ns.0 n) ∙ a.0, as_before x ys n ns.1 a.1)

  rises : (xs : List (Bor Row)) → AreNumbers xs → IsSortedBy (below down) xs → Rises down xs
  rises [] ns up = tt
  rises (x ∷ []) ns up = (tt, tt)
  rises (x ∷ y ∷ ys) ns up = (as_before x (y ∷ ys) ns.0 ns.1 (above x (y ∷ ys) up), rises (y ∷ ys) ns.1 (sorted_tail x y ys up))

pub same_direction : (down other : Bool) (rows : List Row) (refs : List (Bor Row)) → down ≡ other → IsByValue other rows refs → IsByValue down rows refs
same_direction down other rows refs e v = subst (λ d. IsByValue d rows refs) (sym e) v

numbers_from : (refs : List (Bor Row)) → All (λ (r : Bor Row). IsNumber r.now.value) refs → AreNumbers refs
numbers_from [] a = tt
numbers_from (r ∷ refs) a = (All-head (λ (s : Bor Row). IsNumber s.now.value) r refs a, numbers_from refs (All-tail (λ (s : Bor Row). IsNumber s.now.value) r refs a))

count-seen : (p : Row → Bool) (refs : List (Bor Row)) → count_by (λ (r : Bor Row). p r.now) refs ≡ count_by p (seen refs)
count-seen p [] = refl
count-seen p (r ∷ refs) = count-cons (λ (s : Bor Row). p s.now) r refs ∙ ap (λ n. cond (p r.now) 1 0 + n) (count-seen p refs) ∙ sym (count-cons p r.now (seen refs))

-- references to rows that are sorted by the order of numbers
pub by_value_is : (down : Bool) (rows : List Row) (refs sorted : List (Bor Row)) → IsStrictWeakOrder (below down) → seen refs ≡ rows → All (λ (r : Bor Row). IsNumber r.now.value) refs
    → IsPermutation refs sorted → IsSortedBy (below down) sorted → IsByValue down rows sorted
by_value_is down rows refs sorted weak same numbers moved up =
    let all = numbers_from sorted (All-permutation (λ (r : Bor Row). IsNumber r.now.value) refs sorted moved numbers) in
    record {
      numbers = all;
      rises = rises down weak sorted all up;
      counts = λ p. sum_by-IsPermutation (λ (r : Bor Row). cond (p r.now) 1 0) refs sorted moved ∙ count-seen p refs ∙ ap (count_by p) same;
    }
