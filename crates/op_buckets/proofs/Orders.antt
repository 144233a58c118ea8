-- The quantile of a histogram doesn't depend on the order of its buckets.
use Rattle.std.proofs.Common.{◌≡◌, ◌∙◌, Bool, true, false, cond, List, [], ◌∷◌, map, fold, refl, sym, ap, Result, Ok}
use Rattle.std.specs.Prelude.{◌&&◌, not, filter, if◌then◌else◌}
use Rattle.std.specs.BTreeMap.{is_at}
use Rattle.std.specs.BTreeSet.{insert_key}
use Rattle.std.specs.Cmp.{IsTotalOrder}
use Rattle.std.specs.List.{AllByRecursion, list_all}
use Rattle.std.specs.Ordering.{match_ordering, ordering_then}
use Rattle.std.specs.declared.cmp.Ordering.{Ordering}
use Rattle.std.specs.declared.cmp.Ordering.TheVariants.{Less, Equal, Greater}
use Rattle.std.proofs.lemmas.Cmp.{on_total, then_total, tied_itself}
use Rattle.std.proofs.lemmas.List.Elements.{All-from_recursion}
use Rattle.promql_meaning.specs.Buckets.{are_finite, count_at, each_of, histogram_quantile, is_fixed, is_fixed_of, merged, merged_at, quantile_of_merged}
use Rattle.promql_meaning.specs.NumberOrder.{tidy, tidy-same, values_total}
use Rattle.promql_meaning.specs.Outcomes.{is_outside}
use Rattle.promql_meaning.specs.declared.buckets.Bucket.{Bucket}
use Rattle.step_rules.specs.Counts.{number_order}
use Rattle.step_table.specs.OrderLaws.{note_cmp_ties, note_cmp_total}
use Rattle.step_table.specs.Orders.{note_cmp}
use Rattle.step_table.specs.Shuffles.{Shuffled, none, kept, swapped, joined}
use Rattle.step_table.specs.Shuffling.{filtered_shuffled, mapped_shuffled, set_shuffled, to_permutation}
use Rattle.step_table.specs.Unions.{set_of}
use Rattle.step_table.specs.declared.marks.Note.TheVariants.{QuantileRange}
use Rattle.window_fn.specs.Laws.{OrderDoesntMatter}
use Rattle.window_fn.specs.Slopes.{is_finite}
use Rattle.xfrac.specs.Arithmetic.{whole_number}
use Rattle.xfrac.specs.Kinds.{is_not_a_number}
use Rattle.xfrac.specs.Laws.{EqualIsSame, IsNumber, LessIsTransitive, OrderIsReversed}
use Rattle.xfrac.specs.Order.{compares, total_order}
use Rattle.xfrac.specs.Sequencing.{◌>>=◌}
use Rattle.xfrac.specs.declared.value.CompareOp.TheVariants.{Lt, Gt}
use Rattle.xfrac.specs.declared.value.NumFault.{NumFault}
use Rattle.xfrac.specs.declared.value.XFrac.{XFrac}
use Rattle.xfrac.specs.declared.value.XFrac.TheVariants.{PosInf, NegInf, NaN}

abbrev pub AreNumbers : List Bucket → Type 0
AreNumbers buckets = AllByRecursion (λ (b : Bucket). IsNumber b.bound × IsNumber b.count) buckets

-- ---- whether all are finite

and_swapped : (a b c : Bool) → (a && (b && c)) ≡ (b && (a && c))
and_swapped true b c = refl
and_swapped false true c = refl
and_swapped false false c = refl

all_shuffled : {A : Type 0} (p : A → Bool) (xs ys : List A) → Shuffled xs ys → list_all p xs ≡ list_all p ys
all_shuffled p _ _ none = refl
all_shuffled p _ _ (kept x xs ys s) = ap (λ (b : Bool). p x && b) (all_shuffled p xs ys s)
all_shuffled p _ _ (swapped x y xs) = and_swapped (p x) (p y) (list_all p xs)
all_shuffled p _ _ (joined xs ys zs s t) = all_shuffled p xs ys s ∙ all_shuffled p ys zs t

-- ---- the counts of a bound

abbrev bound_of : Bucket → XFrac
bound_of b = b.bound

abbrev count_of : Bucket → XFrac
count_of b = b.count

counts_are : (p : Bucket → Bool) (buckets : List Bucket) → AreNumbers buckets → AllByRecursion IsNumber (map count_of (filter p buckets))
counts_are p [] a = tt
counts_are p (b ∷ buckets) a = pick (p b) (counts_are p buckets a.1)
  where
    pick : (t : Bool) → AllByRecursion IsNumber (map count_of (filter p buckets)) → AllByRecursion IsNumber (map count_of (cond t (b ∷ filter p buckets) (filter p buckets)))
    pick true rest = (a.0.1, rest)
    pick false rest = rest

bounds_are : (buckets : List Bucket) → AreNumbers buckets → AllByRecursion IsNumber (map bound_of buckets)
bounds_are [] a = tt
bounds_are (b ∷ buckets) a = (a.0.0, bounds_are buckets a.1)

numbers_shuffled : (xs ys : List Bucket) → Shuffled xs ys → AreNumbers xs → AreNumbers ys
numbers_shuffled _ _ none a = tt
numbers_shuffled _ _ (kept x xs ys s) a = (a.0, numbers_shuffled xs ys s a.1)
numbers_shuffled _ _ (swapped x y xs) a = (a.1.0, (a.0, a.1.1))
numbers_shuffled _ _ (joined xs ys zs s t) a = numbers_shuffled ys zs t (numbers_shuffled xs ys s a)

count_same : OrderDoesntMatter → (bound : XFrac) (xs ys : List Bucket) → AreNumbers xs → Shuffled xs ys → count_at xs bound ≡ count_at ys bound
count_same law bound xs ys a s =
    let p : Bucket → Bool = λ b. is_at (total_order bound) b.bound in
    let us : List XFrac = map count_of (filter p xs) in
    let vs : List XFrac = map count_of (filter p ys) in
    let moved : Shuffled us vs = mapped_shuffled count_of (filter p xs) (filter p ys) (filtered_shuffled p xs ys s) in
    sym (law us vs (All-from_recursion IsNumber us (counts_are p xs a)) (to_permutation us vs moved)).sum

merged_each : OrderDoesntMatter → (xs ys : List Bucket) (bounds : List XFrac) → AreNumbers xs → Shuffled xs ys → map (merged_at xs) bounds ≡ map (merged_at ys) bounds
merged_each law xs ys [] a s = refl
merged_each law xs ys (bound ∷ bounds) a s =
    let one : merged_at xs bound ≡ merged_at ys bound = ap (λ (r : Result XFrac NumFault). r >>= λ count. Ok (record { bound = bound; count = count })) (count_same law bound xs ys a s) in
    λ j. one j ∷ merged_each law xs ys bounds a s j

-- ---- the order of bounds

noted : (a b : XFrac) → note_cmp (QuantileRange a) (QuantileRange b) ≡ Equal → a ≡ b
noted a b e = let same : QuantileRange a ≡ QuantileRange b = note_cmp_ties (QuantileRange a) (QuantileRange b) e in cc

second_equal : (a b : Ordering) → ordering_then a b ≡ Equal → b ≡ Equal
second_equal Less b e = absurd (cc)
second_equal Equal b e = e
second_equal Greater b e = absurd (cc)

number_ties : (a b : XFrac) → number_order a b ≡ Equal → a ≡ b
number_ties a b e = noted a b (second_equal (total_order (tidy a) (tidy b)) (note_cmp (QuantileRange a) (QuantileRange b)) e)

module _ (equal : EqualIsSame) (reversed : OrderIsReversed) (transitive : LessIsTransitive) where
  number_total : IsTotalOrder number_order
  number_total = then_total (values_total equal reversed transitive false) (on_total QuantileRange note_cmp_total)

  -- numbers are in their order
  as_numbers : (a b : XFrac) → IsNumber a → IsNumber b → number_order a b ≡ total_order a b
  as_numbers a b na nb =
      ap (λ v. ordering_then (total_order v (tidy b)) (note_cmp (QuantileRange a) (QuantileRange b))) (tidy-same a na)
      ∙ ap (λ v. ordering_then (total_order a v) (note_cmp (QuantileRange a) (QuantileRange b))) (tidy-same b nb) ∙ by (total_order a b) refl
    where
      by : (o : Ordering) → total_order a b ≡ o → ordering_then (total_order a b) (note_cmp (QuantileRange a) (QuantileRange b)) ≡ total_order a b
      by Less e = ap (λ o. ordering_then o (note_cmp (QuantileRange a) (QuantileRange b))) e ∙ sym e
      by Greater e = ap (λ o. ordering_then o (note_cmp (QuantileRange a) (QuantileRange b))) e ∙ sym e
      by Equal e =
          let same : a ≡ b = equal a b na nb e in
          let tied : note_cmp (QuantileRange a) (QuantileRange b) ≡ Equal = ap (λ v. note_cmp (QuantileRange a) (QuantileRange v)) (sym same) ∙ tied_itself note_cmp_total (QuantileRange a) in
          ap (λ o. ordering_then o (note_cmp (QuantileRange a) (QuantileRange b))) e ∙ tied ∙ sym e

  all_insert : (ks : List XFrac) (k : XFrac) → IsNumber k → AllByRecursion IsNumber ks → AllByRecursion IsNumber (insert_key number_order ks k)
  all_insert [] k p all = (p, tt)
  all_insert (m ∷ ks) k p all =
      elim (number_order k m) as (λ o. AllByRecursion IsNumber (match_ordering o (k ∷ m ∷ ks) (m ∷ ks) (m ∷ insert_key number_order ks k))) [
        | Less ↦ (p, all)
        | Equal ↦ all
        | Greater ↦ (all.0, all_insert ks k p all.1)
      ]

  same_insert : (ks : List XFrac) (k : XFrac) → IsNumber k → AllByRecursion IsNumber ks → insert_key total_order ks k ≡ insert_key number_order ks k
  same_insert [] k n all = refl
  same_insert (m ∷ ks) k n all =
      ap (λ o. match_ordering o (k ∷ m ∷ ks) (m ∷ ks) (m ∷ insert_key total_order ks k)) (sym (as_numbers k m n all.0))
      ∙ ap (λ ls. match_ordering (number_order k m) (k ∷ m ∷ ks) (m ∷ ks) (m ∷ ls)) (same_insert ks k n all.1)

  same_fold : (ms ks : List XFrac) → AllByRecursion IsNumber ms → AllByRecursion IsNumber ks → fold (insert_key total_order) ms ks ≡ fold (insert_key number_order) ms ks
  same_fold ms [] all more = refl
  same_fold ms (k ∷ ks) all more =
      ap (λ ls. fold (insert_key total_order) ls ks) (same_insert ms k more.0 all) ∙ same_fold (insert_key number_order ms k) ks (all_insert ms k more.0 all) more.1

  bounds_same : (xs ys : List Bucket) → AreNumbers xs → Shuffled xs ys → set_of total_order (map bound_of xs) ≡ set_of total_order (map bound_of ys)
  bounds_same xs ys a s =
      same_fold [] (map bound_of xs) tt (bounds_are xs a) ∙ set_shuffled number_total number_ties (map bound_of xs) (map bound_of ys) (mapped_shuffled bound_of xs ys s)
      ∙ sym (same_fold [] (map bound_of ys) tt (bounds_are ys (numbers_shuffled xs ys s a)))

  merged_same : OrderDoesntMatter → (xs ys : List Bucket) → AreNumbers xs → Shuffled xs ys → merged xs ≡ merged ys
  merged_same law xs ys a s =
      ap (λ (bounds : List XFrac). each_of (map (merged_at xs) bounds)) (bounds_same xs ys a s)
      ∙ ap (each_of {A = Bucket}) (merged_each law xs ys (set_of total_order (map bound_of ys)) a s)

  pub quantile_same : OrderDoesntMatter → (q : XFrac) (xs ys : List Bucket) → AreNumbers xs → Shuffled xs ys → histogram_quantile q xs ≡ histogram_quantile q ys
  quantile_same law q xs ys a s =
      let finite : are_finite xs ≡ are_finite ys = all_shuffled (λ (b : Bucket). is_finite b.count) xs ys s in
      let all : merged xs ≡ merged ys = merged_same law xs ys a s in
      λ j.
      if is_not_a_number q then Ok NaN
      else if compares Lt q (whole_number 0) then Ok NegInf
      else if compares Gt q (whole_number 1) then Ok PosInf
      else if finite j then (all j >>= λ some. quantile_of_merged q some)
      else Ok NaN

  pub fixed_same : OrderDoesntMatter → (q : XFrac) (xs ys : List Bucket) → AreNumbers xs → Shuffled xs ys → is_fixed q xs ≡ is_fixed q ys
  fixed_same law q xs ys a s =
      let finite : are_finite xs ≡ are_finite ys = all_shuffled (λ (b : Bucket). is_finite b.count) xs ys s in
      let all : merged xs ≡ merged ys = merged_same law xs ys a s in
      λ j. not (is_outside q) && (finite j && is_fixed_of (all j))
