-- The buckets of sorted rest, bound by bound.
use Rattle.std.proofs.Common.{◌≡◌, ◌∙◌, ℕ, zero, suc, ◌<◌, Bool, true, false, List, [], ◌∷◌, ◌++◌, length, get_or, take, drop, map, refl, sym, ap, subst, Result, Ok, Err, arith}
use Rattle.std.specs.Prelude.{◌&&◌}
use Rattle.std.specs.BTreeMap.{is_at}
use Rattle.std.specs.List.{All, AllByRecursion, prefix_len}
use Rattle.std.specs.List.Sorted.{IsPermutation, IsSortedBy, IsStableBy}
use Rattle.std.proofs.lemmas.List.Elements.{All-append, All-cons, All-head, All-nil, All-tail}
use Rattle.std.proofs.lemmas.List.Sorted.{All-permutation}
use Rattle.window_fn.specs.Aggregates.{total}
use Rattle.xfrac.specs.Laws.{EqualIsSame, IsNumber, LessIsTransitive, OrderIsReversed}
use Rattle.xfrac.specs.Order.{total_order}
use Rattle.xfrac.specs.declared.value.NumFault.{NumFault}
use Rattle.xfrac.specs.declared.value.XFrac.{XFrac}
use Rattle.promql_meaning.specs.declared.buckets.Bucket.{Bucket}
use Rattle.promql_meaning.specs.Buckets.{are_finite, merged}
use Rattle.window_fn.specs.Slopes.{is_finite}
use Rattle.step_rules.specs.Counts.{AreCounts, IsCount}
use Rattle.step_rules.proofs.Merging.{Finite, Numbers, all_joined, below, joined_same, merged_is, one_bound, prefix_number, then_all, then_fault, then_more, total_finite, with_first}
use Rattle.step_rules.proofs.Stable.{Rises, rises_from}

abbrev pub AreFinite : List Bucket → Type 0
AreFinite bs = All (λ (b : Bucket). is_finite b.count ≡ true) bs

abbrev pub HaveBounds : List Bucket → Type 0
HaveBounds bs = All (λ (b : Bucket). IsNumber b.bound) bs

-- what holds of the buckets that are left
pub record AreLeft (answer : Result (List Bucket) NumFault) (all rest : List Bucket) : Type 0 where
  pub whole : then_all all (all_joined rest) ≡ answer
  pub rises : Rises below rest
  pub finite : AreFinite rest
  pub bounds : HaveBounds rest
  pub counts : AreCounts all

module _ {X : Type 0} (P : X → Type 0) where
  by_recursion : (xs : List X) → All P xs → AllByRecursion P xs
  by_recursion [] a = tt
  by_recursion (x ∷ xs) a = (All-head P x xs a, by_recursion xs (All-tail P x xs a))

  all_drop : (n : ℕ) (xs : List X) → All P xs → All P (drop n xs)
  all_drop zero xs a = a
  all_drop (suc n) [] a = a
  all_drop (suc n) (x ∷ xs) a = all_drop n xs (All-tail P x xs a)

  recursion_take : (n : ℕ) (xs : List X) → AllByRecursion P xs → AllByRecursion P (take n xs)
  recursion_take zero xs a = tt
  recursion_take (suc n) [] a = tt
  recursion_take (suc n) (x ∷ xs) a = (a.0, recursion_take n xs a.1)

finite_from : (bs : List Bucket) → are_finite bs ≡ true → AreFinite bs
finite_from [] h = All-nil (λ (b : Bucket). is_finite b.count ≡ true)
finite_from (b ∷ bs) h = by (is_finite b.count) refl (finite_from bs) h
  where
    by : (t : Bool) → is_finite b.count ≡ t → (are_finite bs ≡ true → AreFinite bs) → are_finite (b ∷ bs) ≡ true → AreFinite (b ∷ bs)
    by true e rest f = All-cons (λ (b : Bucket). is_finite b.count ≡ true) b bs e (rest (sym (ap (λ t. t && are_finite bs) e) ∙ f))
    by false e rest f = let g : false ≡ true = sym (ap (λ t. t && are_finite bs) e) ∙ f in absurd (cc)

finite_counts : (bs : List Bucket) → AllByRecursion (λ (b : Bucket). is_finite b.count ≡ true) bs → Finite (map (λ (b : Bucket). b.count) bs)
finite_counts [] a = tt
finite_counts (b ∷ bs) a = (a.0, finite_counts bs a.1)

before_all : (rest : Result (List Bucket) NumFault) → then_all [] rest ≡ rest
before_all (Ok more) = refl
before_all (Err fault) = refl

module _ (equal : EqualIsSame) (reversed : OrderIsReversed) (transitive : LessIsTransitive) where
  pub starts : (xs ys : List Bucket) → HaveBounds xs → are_finite xs ≡ true → IsPermutation xs ys → IsSortedBy below ys → IsStableBy below xs ys → AreLeft (merged xs) [] ys
  starts xs ys numbers finite moved up stable = record {
    whole = before_all (all_joined ys) ∙ joined_same equal reversed transitive xs ys stable ∙ sym (merged_is equal reversed transitive xs (by_recursion (λ (b : Bucket). IsNumber b.bound) xs numbers));
    rises = rises_from below ys up;
    finite = All-permutation (λ (b : Bucket). is_finite b.count ≡ true) xs ys moved (finite_from xs finite);
    bounds = All-permutation (λ (b : Bucket). IsNumber b.bound) xs ys moved numbers;
    counts = All-nil (λ (b : Bucket). IsCount b.count);
  }

  pub starts_at : (xs vec ys all rest : List Bucket) → vec ≡ xs → all ≡ [] → rest ≡ ys → HaveBounds xs → are_finite xs ≡ true → IsPermutation vec ys → IsSortedBy below ys → IsStableBy below vec ys → AreLeft (merged xs) all rest
  starts_at xs vec ys all rest taken none lent numbers finite moved up stable =
      let told = starts vec ys (subst HaveBounds (sym taken) numbers) (ap are_finite taken ∙ finite) moved up stable in
      subst (λ a. AreLeft (merged xs) a rest) (sym none) (subst (λ r. AreLeft (merged xs) [] r) (sym lent) (subst (λ x. AreLeft (merged x) [] ys) taken told))

  module _ (answer : Result (List Bucket) NumFault) (all : List Bucket) (x : Bucket) (rest same behind : List Bucket) (n : ℕ)
      (left : AreLeft answer all (x ∷ rest)) (size : n ≡ prefix_len (λ (b : Bucket). is_at (total_order x.bound) b.bound) (x ∷ rest))
      (front : same ≡ take n (x ∷ rest)) (back : behind ≡ drop n (x ∷ rest)) where
    abbrev counts : List XFrac
    counts = map (λ (b : Bucket). b.count) same

    numbers : Numbers (x ∷ rest)
    numbers = by_recursion (λ (b : Bucket). IsNumber b.bound) (x ∷ rest) left.bounds

    parted : (all_joined (x ∷ rest) ≡ with_first x (total (map (λ (c : Bucket). c.count) (take n (x ∷ rest)))) (all_joined (drop n (x ∷ rest)))) × Rises below (drop n (x ∷ rest))
    parted = one_bound equal reversed transitive x rest left.rises n (size ∙ prefix_number equal reversed transitive x.bound (x ∷ rest) numbers.0 numbers)

    whole : all_joined (x ∷ rest) ≡ with_first x (total counts) (all_joined behind)
    whole =
        parted.0 ∙ ap (λ s. with_first x (total (map (λ (c : Bucket). c.count) s)) (all_joined (drop n (x ∷ rest)))) (sym front)
        ∙ ap (λ b. with_first x (total counts) (all_joined b)) (sym back)

    pub fault_stops : (fault : NumFault) → total counts ≡ Err fault → Err fault ≡ answer
    fault_stops fault e = then_fault all x fault (total counts) (all_joined (x ∷ rest)) (all_joined behind) answer whole e left.whole

    finite_sum : (count : XFrac) → total counts ≡ Ok count → is_finite count ≡ true
    finite_sum count e =
        total_finite counts count
        (subst (λ s. Finite (map (λ (b : Bucket). b.count) s)) (sym front)
        (finite_counts (take n (x ∷ rest)) (recursion_take (λ (b : Bucket). is_finite b.count ≡ true) n (x ∷ rest) (by_recursion (λ (b : Bucket). is_finite b.count ≡ true) (x ∷ rest) left.finite))))
        e

    pub count_goes_on : (count : XFrac) (new : List Bucket) → total counts ≡ Ok count → IsNumber count → new ≡ all ++ record { bound = x.bound; count = count } ∷ [] → AreLeft answer new behind
    count_goes_on count new e number made = record {
      whole = then_more all new x count (total counts) (all_joined (x ∷ rest)) (all_joined behind) answer whole e made left.whole;
      rises = subst (Rises below) (sym back) parted.1;
      finite = subst AreFinite (sym back) (all_drop (λ (b : Bucket). is_finite b.count ≡ true) n (x ∷ rest) left.finite);
      bounds = subst HaveBounds (sym back) (all_drop (λ (b : Bucket). IsNumber b.bound) n (x ∷ rest) left.bounds);
      counts = subst AreCounts (sym made)
          (All-append (λ (b : Bucket). IsCount b.count) all (record { bound = x.bound; count = count } ∷ []) left.counts
          (All-cons (λ (b : Bucket). IsCount b.count) (record { bound = x.bound; count = count }) [] (record { number = number; finite = finite_sum count e }) (All-nil (λ (b : Bucket). IsCount b.count))));
    }

-- the same of a list that has a first bucket
front_is : (rest : List Bucket) (x : Bucket) → 0 < length rest → x ≡ get_or rest 0 x → rest ≡ x ∷ drop 1 rest
front_is [] x w is = absurd (omega arith)
front_is (y ∷ rest) x w is = ap (λ b. b ∷ rest) (sym is)

module _ (equal : EqualIsSame) (reversed : OrderIsReversed) (transitive : LessIsTransitive)
    (answer : Result (List Bucket) NumFault) (all rest : List Bucket) (x : Bucket) (same behind : List Bucket) (n : ℕ)
    (left : AreLeft answer all rest) (some : 0 < length rest) (is : x ≡ get_or rest 0 x)
    (size : n ≡ prefix_len (λ (b : Bucket). is_at (total_order x.bound) b.bound) rest) (front : same ≡ take n rest) (back : behind ≡ drop n rest) where
  whole_rest : rest ≡ x ∷ drop 1 rest
  whole_rest = front_is rest x some is

  left_now : AreLeft answer all (x ∷ drop 1 rest)
  left_now = subst (AreLeft answer all) whole_rest left

  size_now : n ≡ prefix_len (λ (b : Bucket). is_at (total_order x.bound) b.bound) (x ∷ drop 1 rest)
  size_now = size ∙ ap (prefix_len (λ (b : Bucket). is_at (total_order x.bound) b.bound)) whole_rest

  front_now : same ≡ take n (x ∷ drop 1 rest)
  front_now = front ∙ ap (take n) whole_rest

  back_now : behind ≡ drop n (x ∷ drop 1 rest)
  back_now = back ∙ ap (drop n) whole_rest

  pub turn_stops : (fault : NumFault) → total (map (λ (b : Bucket). b.count) same) ≡ Err fault → Err fault ≡ answer
  turn_stops fault e = fault_stops equal reversed transitive answer all x (drop 1 rest) same behind n left_now size_now front_now back_now fault e

  pub turn_goes_on : (count : XFrac) (new : List Bucket) → total (map (λ (b : Bucket). b.count) same) ≡ Ok count → IsNumber count → new ≡ all ++ record { bound = x.bound; count = count } ∷ [] → AreLeft answer new behind
  turn_goes_on count new e number made = count_goes_on equal reversed transitive answer all x (drop 1 rest) same behind n left_now size_now front_now back_now count new e number made
