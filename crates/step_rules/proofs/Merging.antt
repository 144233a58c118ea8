-- Buckets in the order of their bounds, and the bucket of each bound.
use Rattle.std.proofs.Common.{◌≡◌, ◌∙◌, ℕ, zero, suc, ◌+◌, Bool, true, false, cond, List, [], ◌∷◌, ◌++◌, take, drop, map, fold, refl, sym, ap, subst, None, Some, Result, Ok, Err, append-nil, append_assoc, arith}
use Rattle.std.specs.Prelude.{◌||◌, ◌&&◌, not, filter}
use Rattle.std.specs.BTreeMap.{is_at}
use Rattle.std.specs.BTreeSet.{insert_key}
use Rattle.std.specs.Cmp.{IsStrictWeakOrder, IsTotalOrder}
use Rattle.std.specs.List.{AllByRecursion, list_any, prefix_len}
use Rattle.std.specs.List.Sorted.{IsStableBy, IsStrictlySortedBy, ties}
use Rattle.std.specs.Option.{ok_or}
use Rattle.std.specs.Ordering.{is_eq, is_lt, match_ordering, ordering_reverse, ordering_then}
use Rattle.std.specs.declared.cmp.Ordering.{Ordering}
use Rattle.std.specs.declared.cmp.Ordering.TheVariants.{Less, Equal, Greater}
use Rattle.std.proofs.lemmas.Cmp.{on_total, then_total, tied_itself}
use Rattle.std.proofs.lemmas.List.Elements.{filter-append}
use Rattle.std.proofs.lemmas.List.MinMax.{ranks_by}
use Rattle.label_set.specs.Entries.{recursion_map}
use Rattle.window_fn.specs.Aggregates.{total}
use Rattle.xfrac.specs.Kinds.{is_not_a_number, is_negative_infinity, is_positive_infinity}
use Rattle.xfrac.specs.Laws.{EqualIsSame, IsNumber, LessIsTransitive, OrderIsReversed}
use Rattle.xfrac.specs.Order.{total_order}
use Rattle.xfrac.specs.Sequencing.{◌>>=◌}
use Rattle.xfrac.specs.Sums.{fits, totals, value_of}
use Rattle.xfrac.specs.declared.value.NumFault.{NumFault}
use Rattle.xfrac.specs.declared.value.NumFault.TheVariants.{Overflow}
use Rattle.xfrac.specs.declared.value.XFrac.{XFrac}
use Rattle.xfrac.specs.declared.value.XFrac.TheVariants.{Fin, PosInf, NegInf, NaN}
use Rattle.step_table.specs.KeySets.{any_of_set, sorted_set}
use Rattle.step_table.specs.OrderLaws.{note_cmp_ties, note_cmp_total}
use Rattle.step_table.specs.Orders.{note_cmp}
use Rattle.step_table.specs.Unions.{set_of}
use Rattle.step_table.specs.declared.marks.Note.TheVariants.{QuantileRange}
use Rattle.promql_meaning.specs.declared.buckets.Bucket.{Bucket}
use Rattle.promql_meaning.specs.Buckets.{each_of, merged, merged_at}
use Rattle.window_fn.specs.Slopes.{is_finite}
use Rattle.promql_meaning.specs.NumberOrder.{tidy, tidy-same, values_total}
use Rattle.step_rules.specs.Counts.{bound_order, number_order}
use Rattle.step_rules.proofs.Stable.{Rises, all_above, rises_tail}

abbrev pub below : Bucket → Bucket → Bool
below a b = is_lt (bound_order a b)

abbrev pub Numbers : List Bucket → Type 0
Numbers bs = AllByRecursion (λ (b : Bucket). IsNumber b.bound) bs

-- ---- the bucket of each bound, by an order of all that look like numbers

abbrev pub bounds : List Bucket → List XFrac
bounds bs = map (λ (b : Bucket). b.bound) bs

abbrev pub at : XFrac → List Bucket → List Bucket
at b bs = filter (λ (c : Bucket). is_at (number_order b) c.bound) bs

abbrev some : List Bucket → Bool
some [] = false
some (b ∷ bs) = true

abbrev pub joined : List Bucket → XFrac → Result Bucket NumFault
joined bs b = total (map (λ (c : Bucket). c.count) (at b bs)) >>= λ count. Ok (record { bound = b; count = count })

abbrev pub all_joined : List Bucket → Result (List Bucket) NumFault
all_joined bs = each_of (map (joined bs) (set_of number_order (bounds bs)))

abbrev pub here : XFrac → Bucket → Bool
here b c = is_at (number_order b) c.bound

abbrev pub counts_of : List Bucket → List XFrac
counts_of bs = map (λ (c : Bucket). c.count) bs

-- the first bound, and what comes of the buckets behind it
abbrev pub with_first : Bucket → Result XFrac NumFault → Result (List Bucket) NumFault → Result (List Bucket) NumFault
with_first x first rest = first >>= λ count. rest >>= λ all. Ok (record { bound = x.bound; count = count } ∷ all)

-- what comes of buckets behind some that are there
abbrev pub then_all : List Bucket → Result (List Bucket) NumFault → Result (List Bucket) NumFault
then_all all rest = rest >>= λ more. Ok (all ++ more)

pub then_fault : (all : List Bucket) (x : Bucket) (fault : NumFault) (first : Result XFrac NumFault) (whole rest answer : Result (List Bucket) NumFault) → whole ≡ with_first x first rest → first ≡ Err fault → then_all all whole ≡ answer → Err fault ≡ answer
then_fault all x fault first whole rest answer is e told = sym (ap (then_all all) (is ∙ ap (λ f. with_first x f rest) e)) ∙ told

pub then_more : (all new : List Bucket) (x : Bucket) (count : XFrac) (first : Result XFrac NumFault) (whole rest answer : Result (List Bucket) NumFault) → whole ≡ with_first x first rest → first ≡ Ok count
    → new ≡ all ++ record { bound = x.bound; count = count } ∷ [] → then_all all whole ≡ answer → then_all new rest ≡ answer
then_more all new x count first whole rest answer is e made told =
    ap (λ l. then_all l rest) made ∙ by rest ∙ sym (ap (then_all all) (is ∙ ap (λ f. with_first x f rest) e)) ∙ told
  where
    by : (rest : Result (List Bucket) NumFault) → then_all (all ++ record { bound = x.bound; count = count } ∷ []) rest ≡ then_all all (with_first x (Ok count) rest)
    by (Ok more) = ap Ok (append_assoc all (record { bound = x.bound; count = count } ∷ []) more)
    by (Err fault) = refl

-- ---- the order of bounds

noted : (a b : XFrac) → note_cmp (QuantileRange a) (QuantileRange b) ≡ Equal → a ≡ b
noted a b e = let same : QuantileRange a ≡ QuantileRange b = note_cmp_ties (QuantileRange a) (QuantileRange b) e in cc

second_equal : (a b : Ordering) → ordering_then a b ≡ Equal → b ≡ Equal
second_equal Less b e = absurd (cc)
second_equal Equal b e = e
second_equal Greater b e = absurd (cc)

pub number_ties : (a b : XFrac) → number_order a b ≡ Equal → a ≡ b
number_ties a b e = noted a b (second_equal (total_order (tidy a) (tidy b)) (note_cmp (QuantileRange a) (QuantileRange b)) e)

module _ (equal : EqualIsSame) (reversed : OrderIsReversed) (transitive : LessIsTransitive) where
  pub number_total : IsTotalOrder number_order
  number_total = then_total (values_total equal reversed transitive false) (on_total QuantileRange note_cmp_total)

  -- numbers are in their order
  pub as_numbers : (a b : XFrac) → IsNumber a → IsNumber b → number_order a b ≡ total_order a b
  as_numbers a b na nb =
      ap (λ v. ordering_then (total_order v (tidy b)) (note_cmp (QuantileRange a) (QuantileRange b))) (tidy-same a na)
      ∙ ap (λ v. ordering_then (total_order a v) (note_cmp (QuantileRange a) (QuantileRange b))) (tidy-same b nb) ∙ by (total_order a b) refl
    where
      by : (o : Ordering) → total_order a b ≡ o → ordering_then (total_order a b) (note_cmp (QuantileRange a) (QuantileRange b)) ≡ total_order a b
      by Less e = ap (λ o. ordering_then o (note_cmp (QuantileRange a) (QuantileRange b))) e ∙ sym e
      by Greater e = ap (λ o. ordering_then o (note_cmp (QuantileRange a) (QuantileRange b))) e ∙ sym e
      by Equal e =
          let same : a ≡ b = equal a b na nb e in
          let tied : note_cmp (QuantileRange a) (QuantileRange b) ≡ Equal = ap (λ v. note_cmp (QuantileRange a) (QuantileRange v)) (sym same) ∙ tied_itself note_cmp_total (QuantileRange a) in
          ap (λ o. ordering_then o (note_cmp (QuantileRange a) (QuantileRange b))) e ∙ tied ∙ sym e

  pub below_weak : IsStrictWeakOrder below
  below_weak = ranks_by number_total (λ (b : Bucket). b.bound)

  -- what is equal to a bound ties with a bucket that has it
  at_ties : (b c : Bucket) → ties below b c ≡ is_at (number_order b.bound) c.bound
  at_ties b c = ap (λ p. not (is_lt (number_order b.bound c.bound)) && not (is_lt p)) (number_total.antisymm c.bound b.bound) ∙ neither (number_order b.bound c.bound)
    where
      neither : (o : Ordering) → (not (is_lt o) && not (is_lt (ordering_reverse o))) ≡ is_eq o
      neither Less = refl
      neither Equal = refl
      neither Greater = refl

  -- ---- strictly sorted lists of the same bounds

  not_at : (a b : XFrac) → number_order a b ≡ Less → is_at (number_order a) b ≡ false
  not_at a b e = ap is_eq e

  none_at : (a : XFrac) (ks : List XFrac) → AllByRecursion (λ k. number_order a k ≡ Less) ks → list_any (is_at (number_order a)) ks ≡ false
  none_at a [] all = refl
  none_at a (k ∷ ks) all = ap (λ t. t || list_any (is_at (number_order a)) ks) (not_at a k all.0) ∙ none_at a ks all.1

  at_itself : (a : XFrac) → is_at (number_order a) a ≡ true
  at_itself a = ap is_eq (tied_itself number_total a)

  strict_same : (ks ls : List XFrac) → IsStrictlySortedBy number_order ks → IsStrictlySortedBy number_order ls
      → ((b : XFrac) → list_any (is_at (number_order b)) ks ≡ list_any (is_at (number_order b)) ls) → ks ≡ ls
  unfolding IsStrictlySortedBy
  strict_same [] [] sk sl f = refl
  strict_same [] (l ∷ ls) sk sl f = let t : false ≡ true = f l ∙ ap (λ x. x || list_any (is_at (number_order l)) ls) (at_itself l) in absurd (cc)
  strict_same (k ∷ ks) [] sk sl f = let t : true ≡ false = sym (ap (λ x. x || list_any (is_at (number_order k)) ks) (at_itself k)) ∙ f k in absurd (cc)
  strict_same (k ∷ ks) (l ∷ ls) sk sl f = by (λ g. strict_same ks ls sk.1 sl.1 g) (number_order k l) refl
    where
      absent_in : (a : XFrac) (m : XFrac) (ms : List XFrac) → AllByRecursion (λ y. number_order m y ≡ Less) ms → number_order a m ≡ Less → list_any (is_at (number_order a)) (m ∷ ms) ≡ false
      absent_in a m ms all e = none_at a (m ∷ ms) (e, recursion_map (λ y. number_order m y ≡ Less) (λ y. number_order a y ≡ Less) (λ y h. number_total.trans a m y e h) ms all)

      tails : k ≡ l → (b : XFrac) → (t : Bool) → is_at (number_order b) k ≡ t → list_any (is_at (number_order b)) ks ≡ list_any (is_at (number_order b)) ls
      tails same b false e =
          let el : is_at (number_order b) l ≡ false = ap (is_at (number_order b)) (sym same) ∙ e in
          sym (ap (λ x. x || list_any (is_at (number_order b)) ks) e) ∙ f b ∙ ap (λ x. x || list_any (is_at (number_order b)) ls) el
      tails same b true e =
          let is : b ≡ k = number_ties b k (equal_from (number_order b k) e) in
          ap (λ x. list_any (is_at (number_order x)) ks) is ∙ none_at k ks sk.0
          ∙ sym (ap (λ x. list_any (is_at (number_order x)) ls) (is ∙ same) ∙ none_at l ls sl.0)
        where
          equal_from : (o : Ordering) → is_eq o ≡ true → o ≡ Equal
          equal_from Less h = absurd (cc)
          equal_from Equal h = refl
          equal_from Greater h = absurd (cc)

      by : (((b : XFrac) → list_any (is_at (number_order b)) ks ≡ list_any (is_at (number_order b)) ls) → ks ≡ ls) → (o : Ordering) → number_order k l ≡ o → k ∷ ks ≡ l ∷ ls
      by rest Less e = let t : true ≡ false = sym (ap (λ x. x || list_any (is_at (number_order k)) ks) (at_itself k)) ∙ f k ∙ absent_in k l ls sl.0 e in absurd (cc)
      by rest Greater e =
          let less : number_order l k ≡ Less = number_total.antisymm l k ∙ ap ordering_reverse e in
          let t : false ≡ true = sym (absent_in l k ks sk.0 less) ∙ f l ∙ ap (λ x. x || list_any (is_at (number_order l)) ls) (at_itself l) in absurd (cc)
      by rest Equal e =
          let same = number_ties k l e in
          ap (λ x. x ∷ ks) same ∙ ap (λ xs. l ∷ xs) (rest (λ b. tails same b (is_at (number_order b) k) refl))

  any_kept : (b : XFrac) (bs : List Bucket) → list_any (is_at (number_order b)) (bounds bs) ≡ some (at b bs)
  any_kept b [] = refl
  any_kept b (c ∷ bs) =
      let rest = any_kept b bs in
      elim (is_at (number_order b) c.bound) as (λ t. (t || list_any (is_at (number_order b)) (bounds bs)) ≡ some (cond t (c ∷ at b bs) (at b bs))) [ true ↦ refl | false ↦ rest ]

  at_is : (b : XFrac) (bs : List Bucket) → filter (ties below (record { bound = b; count = b })) bs ≡ at b bs
  at_is b bs = λ i. filter (λ (c : Bucket). at_ties (record { bound = b; count = b }) c i) bs

  module _ (xs ys : List Bucket) (stable : IsStableBy below xs ys) where
    same_at : (b : XFrac) → at b ys ≡ at b xs
    same_at b = sym (at_is b ys) ∙ stable (record { bound = b; count = b }) ∙ at_is b xs

    same_set : set_of number_order (bounds ys) ≡ set_of number_order (bounds xs)
    same_set =
        strict_same (set_of number_order (bounds ys)) (set_of number_order (bounds xs)) (sorted_set number_total number_ties (bounds ys)) (sorted_set number_total number_ties (bounds xs))
        (λ b. any_of_set number_total number_ties (is_at (number_order b)) (bounds ys) ∙ any_kept b ys ∙ ap some (same_at b) ∙ sym (any_kept b xs) ∙ sym (any_of_set number_total number_ties (is_at (number_order b)) (bounds xs)))

  pub joined_same : (xs ys : List Bucket) → IsStableBy below xs ys → all_joined ys ≡ all_joined xs
  joined_same xs ys stable =
      ap (λ ks. each_of (map (joined ys) ks)) (same_set xs ys stable)
      ∙ (λ i. each_of (map (λ (b : XFrac). total (map (λ (c : Bucket). c.count) (same_at xs ys stable b i)) >>= λ count. Ok (record { bound = b; count = count })) (set_of number_order (bounds xs))))

  -- ---- numbers alone

  module _ (P : XFrac → Type 0) (R : XFrac → XFrac → Ordering) where
    all_insert : (ks : List XFrac) (k : XFrac) → P k → AllByRecursion P ks → AllByRecursion P (insert_key R ks k)
    all_insert [] k p all = (p, tt)
    all_insert (m ∷ ks) k p all =
        elim (R k m) as (λ o. AllByRecursion P (match_ordering o (k ∷ m ∷ ks) (m ∷ ks) (m ∷ insert_key R ks k))) [
          | Less ↦ (p, all)
          | Equal ↦ all
          | Greater ↦ (all.0, all_insert ks k p all.1)
        ]

    all_folded : (ms ks : List XFrac) → AllByRecursion P ms → AllByRecursion P ks → AllByRecursion P (fold (insert_key R) ms ks)
    all_folded ms [] all more = all
    all_folded ms (k ∷ ks) all more = all_folded (insert_key R ms k) ks (all_insert ms k more.0 all) more.1

  same_insert : (ks : List XFrac) (k : XFrac) → IsNumber k → AllByRecursion IsNumber ks → insert_key total_order ks k ≡ insert_key number_order ks k
  same_insert [] k n all = refl
  same_insert (m ∷ ks) k n all =
      ap (λ o. match_ordering o (k ∷ m ∷ ks) (m ∷ ks) (m ∷ insert_key total_order ks k)) (sym (as_numbers k m n all.0))
      ∙ ap (λ ls. match_ordering (number_order k m) (k ∷ m ∷ ks) (m ∷ ks) (m ∷ ls)) (same_insert ks k n all.1)

  same_fold : (ms ks : List XFrac) → AllByRecursion IsNumber ms → AllByRecursion IsNumber ks → fold (insert_key total_order) ms ks ≡ fold (insert_key number_order) ms ks
  same_fold ms [] all more = refl
  same_fold ms (k ∷ ks) all more =
      ap (λ ls. fold (insert_key total_order) ls ks) (same_insert ms k more.0 all) ∙ same_fold (insert_key number_order ms k) ks (all_insert IsNumber number_order ms k more.0 all) more.1

  numbers_bounds : (bs : List Bucket) → Numbers bs → AllByRecursion IsNumber (bounds bs)
  numbers_bounds [] n = tt
  numbers_bounds (b ∷ bs) n = (n.0, numbers_bounds bs n.1)

  at_number : (b : XFrac) (bs : List Bucket) → IsNumber b → Numbers bs → filter (λ (c : Bucket). is_at (total_order b) c.bound) bs ≡ at b bs
  at_number b [] nb n = refl
  at_number b (c ∷ bs) nb n =
      ap (λ o. cond (is_eq o) (c ∷ filter (λ (c : Bucket). is_at (total_order b) c.bound) bs) (filter (λ (c : Bucket). is_at (total_order b) c.bound) bs)) (sym (as_numbers b c.bound nb n.0))
      ∙ ap (λ ls. cond (is_at (number_order b) c.bound) (c ∷ ls) ls) (at_number b bs nb n.1)

  same_each : (bs : List Bucket) (ks : List XFrac) → Numbers bs → AllByRecursion IsNumber ks → map (merged_at bs) ks ≡ map (joined bs) ks
  same_each bs [] n all = refl
  same_each bs (k ∷ ks) n all =
      ap (λ cs. (total (map (λ (c : Bucket). c.count) cs) >>= λ count. Ok (record { bound = k; count = count })) ∷ map (merged_at bs) ks) (at_number k bs all.0 n)
      ∙ ap (λ rs. joined bs k ∷ rs) (same_each bs ks n all.1)

  pub merged_is : (bs : List Bucket) → Numbers bs → merged bs ≡ all_joined bs
  merged_is bs n =
      ap (λ ks. each_of (map (merged_at bs) ks)) (same_fold [] (bounds bs) tt (numbers_bounds bs n))
      ∙ ap each_of (same_each bs (set_of number_order (bounds bs)) n (all_folded IsNumber number_order [] (bounds bs) tt (numbers_bounds bs n)))

  -- ---- one bound of sorted buckets

  module _ (x : Bucket) where
    abbrev Equals : List Bucket → Type 0
    Equals bs = AllByRecursion (λ (c : Bucket). number_order x.bound c.bound ≡ Equal) bs

    abbrev Follow : List Bucket → Type 0
    Follow bs = AllByRecursion (λ (c : Bucket). number_order x.bound c.bound ≡ Less) bs

    less_from : (o p : Ordering) → is_eq o ≡ false → p ≡ ordering_reverse o → is_lt p ≡ false → o ≡ Less
    less_from Less p a r b = refl
    less_from Equal p a r b = absurd (cc)
    less_from Greater p a r b = let t : is_lt p ≡ true = ap is_lt r in absurd (cc)

    is_less : (o : Ordering) → is_lt o ≡ true → o ≡ Less
    is_less Less h = refl
    is_less Equal h = absurd (cc)
    is_less Greater h = absurd (cc)

    is_equal : (o : Ordering) → is_eq o ≡ true → o ≡ Equal
    is_equal Less h = absurd (cc)
    is_equal Equal h = refl
    is_equal Greater h = absurd (cc)

    follow_on : (y : Bucket) (ys : List Bucket) → number_order x.bound y.bound ≡ Less → AllByRecursion (λ (z : Bucket). below z y ≡ false) ys → Follow ys
    follow_on y ys e all = recursion_map (λ (z : Bucket). below z y ≡ false) (λ (z : Bucket). number_order x.bound z.bound ≡ Less) (λ z h. is_less (number_order x.bound z.bound) (by z h (below x z) refl)) ys all
      where
        by : (z : Bucket) → below z y ≡ false → (t : Bool) → below x z ≡ t → below x z ≡ true
        by z h true f = f
        by z h false f = let no : below x y ≡ false = below_weak.chain x z y f h in let yes : below x y ≡ true = ap is_lt e in absurd (cc)

    parted : (ys : List Bucket) → AllByRecursion (λ (y : Bucket). below y x ≡ false) ys → Rises below ys
        → Equals (take (prefix_len (here x.bound) ys) ys) × Follow (drop (prefix_len (here x.bound) ys) ys)
    parted [] all up = (tt, tt)
    parted (y ∷ ys) all up =
        elim (here x.bound y) as (λ t. here x.bound y ≡ t → Equals (take (cond t (1 + prefix_len (here x.bound) ys) 0) (y ∷ ys)) × Follow (drop (cond t (1 + prefix_len (here x.bound) ys) 0) (y ∷ ys))) [
          | true ↦ λ h.
              let rest = parted ys all.1 (rises_tail below below_weak y ys up) in
              let P : ℕ → Type 0 = λ n. Equals (take n (y ∷ ys)) × Follow (drop n (y ∷ ys)) in
              let size : suc (prefix_len (here x.bound) ys) ≡ 1 + prefix_len (here x.bound) ys = omega arith in
              let first : Equals (y ∷ take (prefix_len (here x.bound) ys) ys) = (is_equal (number_order x.bound y.bound) h, rest.0) in
              subst P size (first, rest.1)
          | false ↦ λ h.
              let e = less_from (number_order x.bound y.bound) (number_order y.bound x.bound) h (number_total.antisymm y.bound x.bound) all.0 in
              (tt, (e, follow_on y ys e (all_above below below_weak y ys up)))
        ] refl

    at_equals : (bs : List Bucket) → Equals bs → at x.bound bs ≡ bs
    at_equals [] all = refl
    at_equals (c ∷ bs) all = ap (λ o. cond (is_eq o) (c ∷ at x.bound bs) (at x.bound bs)) all.0 ∙ ap (λ cs. c ∷ cs) (at_equals bs all.1)

    at_follow : (bs : List Bucket) → Follow bs → at x.bound bs ≡ []
    at_follow [] all = refl
    at_follow (c ∷ bs) all = ap (λ o. cond (is_eq o) (c ∷ at x.bound bs) (at x.bound bs)) all.0 ∙ at_follow bs all.1

    -- a later bound has none of the first buckets
    later_none : (b : XFrac) (bs : List Bucket) → number_order x.bound b ≡ Less → Equals bs → at b bs ≡ []
    later_none b [] e all = refl
    later_none b (c ∷ bs) e all =
        let same : x.bound ≡ c.bound = number_ties x.bound c.bound all.0 in
        let behind = number_total.antisymm b x.bound ∙ ap ordering_reverse e in
        ap (λ v. cond (is_eq (number_order b v)) (c ∷ at b bs) (at b bs)) (sym same) ∙ ap (λ o. cond (is_eq o) (c ∷ at b bs) (at b bs)) behind ∙ later_none b bs e all.1

    equals_fold : (bs : List Bucket) → Equals bs → fold (insert_key number_order) (x.bound ∷ []) (bounds bs) ≡ x.bound ∷ []
    equals_fold [] all = refl
    equals_fold (c ∷ bs) all =
        let same : x.bound ≡ c.bound = number_ties x.bound c.bound all.0 in
        let tied : number_order c.bound x.bound ≡ Equal = number_total.antisymm c.bound x.bound ∙ ap ordering_reverse all.0 in
        ap (λ o. fold (insert_key number_order) (match_ordering o (c.bound ∷ x.bound ∷ []) (x.bound ∷ []) (x.bound ∷ c.bound ∷ [])) (bounds bs)) tied ∙ equals_fold bs all.1

    follow_fold : (ms : List XFrac) (bs : List Bucket) → Follow bs → fold (insert_key number_order) (x.bound ∷ ms) (bounds bs) ≡ x.bound ∷ fold (insert_key number_order) ms (bounds bs)
    follow_fold ms [] all = refl
    follow_fold ms (c ∷ bs) all =
        let behind : number_order c.bound x.bound ≡ Greater = number_total.antisymm c.bound x.bound ∙ ap ordering_reverse all.0 in
        ap (λ o. fold (insert_key number_order) (match_ordering o (c.bound ∷ x.bound ∷ ms) (x.bound ∷ ms) (x.bound ∷ insert_key number_order ms c.bound)) (bounds bs)) behind
        ∙ follow_fold (insert_key number_order ms c.bound) bs all.1

    fold_on : (ms : List XFrac) (fs bs : List Bucket) → fold (insert_key number_order) ms (bounds (fs ++ bs)) ≡ fold (insert_key number_order) (fold (insert_key number_order) ms (bounds fs)) (bounds bs)
    fold_on ms [] bs = refl
    fold_on ms (f ∷ fs) bs = fold_on (insert_key number_order ms f.bound) fs bs

    set_parted : (fs bs : List Bucket) → Equals fs → Follow bs → set_of number_order (bounds (x ∷ fs ++ bs)) ≡ x.bound ∷ set_of number_order (bounds bs)
    set_parted fs bs first later = fold_on (x.bound ∷ []) fs bs ∙ ap (λ ms. fold (insert_key number_order) ms (bounds bs)) (equals_fold fs first) ∙ follow_fold [] bs later

    follow_bounds : (bs : List Bucket) → Follow bs → AllByRecursion (λ k. number_order x.bound k ≡ Less) (bounds bs)
    follow_bounds [] all = tt
    follow_bounds (c ∷ bs) all = (all.0, follow_bounds bs all.1)

    at_later : (b : XFrac) (fs bs : List Bucket) → number_order x.bound b ≡ Less → Equals (x ∷ fs) → at b (x ∷ fs ++ bs) ≡ at b bs
    at_later b fs bs e first = filter-append (here b) (x ∷ fs) bs ∙ ap (λ cs. cs ++ at b bs) (later_none b (x ∷ fs) e first)

    each_later : (fs bs : List Bucket) (ks : List XFrac) → Equals (x ∷ fs) → AllByRecursion (λ k. number_order x.bound k ≡ Less) ks → map (joined (x ∷ fs ++ bs)) ks ≡ map (joined bs) ks
    each_later fs bs [] first all = refl
    each_later fs bs (k ∷ ks) first all =
        ap (λ cs. (total (map (λ (c : Bucket). c.count) cs) >>= λ count. Ok (record { bound = k; count = count })) ∷ map (joined (x ∷ fs ++ bs)) ks) (at_later k fs bs all.0 first)
        ∙ ap (λ rs. joined bs k ∷ rs) (each_later fs bs ks first all.1)

    in_turn : (first : Result XFrac NumFault) (rest : Result (List Bucket) NumFault) → ((first >>= λ count. Ok (record { bound = x.bound; count = count })) >>= λ (b : Bucket). rest >>= λ all. Ok (b ∷ all)) ≡ with_first x first rest
    in_turn (Ok count) rest = refl
    in_turn (Err fault) rest = refl

    joined_parted : (fs bs : List Bucket) → Equals (x ∷ fs) → Follow bs → all_joined (x ∷ fs ++ bs) ≡ with_first x (total (counts_of (x ∷ fs))) (all_joined bs)
    joined_parted fs bs first later =
        ap (λ ks. each_of (map (joined (x ∷ fs ++ bs)) ks)) (set_parted fs bs first.1 later)
        ∙ ap (λ cs. (total (counts_of cs) >>= λ count. Ok (record { bound = x.bound; count = count })) >>= λ (b : Bucket). each_of (map (joined (x ∷ fs ++ bs)) (set_of number_order (bounds bs))) >>= λ all. Ok (b ∷ all))
        (filter-append (here x.bound) (x ∷ fs) bs ∙ ap (λ cs. cs ++ at x.bound bs) (at_equals (x ∷ fs) first) ∙ ap (λ cs. (x ∷ fs) ++ cs) (at_follow bs later) ∙ append-nil (x ∷ fs))
        ∙ in_turn (total (counts_of (x ∷ fs))) (each_of (map (joined (x ∷ fs ++ bs)) (set_of number_order (bounds bs))))
        ∙ ap (λ rs. with_first x (total (counts_of (x ∷ fs))) (each_of rs)) (each_later fs bs (set_of number_order (bounds bs)) first (all_folded (λ k. number_order x.bound k ≡ Less) number_order [] (bounds bs) tt (follow_bounds bs later)))

  take_drop : {X : Type 0} (n : ℕ) (xs : List X) → take n xs ++ drop n xs ≡ xs
  take_drop zero xs = refl
  take_drop (suc n) [] = refl
  take_drop (suc n) (x ∷ xs) = ap (λ ys. x ∷ ys) (take_drop n xs)

  rises_drop : (n : ℕ) (bs : List Bucket) → Rises below bs → Rises below (drop n bs)
  rises_drop zero bs up = up
  rises_drop (suc n) [] up = tt
  rises_drop (suc n) (b ∷ bs) up = rises_drop n bs (rises_tail below below_weak b bs up)

  pub one_bound : (x : Bucket) (rest : List Bucket) → Rises below (x ∷ rest) → (n : ℕ) → n ≡ prefix_len (here x.bound) (x ∷ rest)
      → (all_joined (x ∷ rest) ≡ with_first x (total (map (λ (c : Bucket). c.count) (take n (x ∷ rest)))) (all_joined (drop n (x ∷ rest)))) × Rises below (drop n (x ∷ rest))
  one_bound x rest up n is =
      let inner = prefix_len (here x.bound) rest in
      let size : n ≡ suc inner = is ∙ ap (λ t. cond t (1 + inner) 0) (at_itself x.bound) ∙ (let e : 1 + inner ≡ suc inner = omega arith in e) in
      let parts = parted x rest (all_above below below_weak x rest up) (rises_tail below below_weak x rest up) in
      let own : number_order x.bound x.bound ≡ Equal = is_equal x (number_order x.bound x.bound) (at_itself x.bound) in
      let told = joined_parted x (take inner rest) (drop inner rest) (own, parts.0) parts.1 in
      let whole = ap all_joined (ap (λ ys. x ∷ ys) (sym (take_drop inner rest))) ∙ told in
      let P : ℕ → Type 0 = λ m. (all_joined (x ∷ rest) ≡ with_first x (total (map (λ (c : Bucket). c.count) (take m (x ∷ rest)))) (all_joined (drop m (x ∷ rest)))) × Rises below (drop m (x ∷ rest)) in
      subst P (sym size) (whole, rises_drop inner rest (rises_tail below below_weak x rest up))

  pub prefix_number : (b : XFrac) (bs : List Bucket) → IsNumber b → Numbers bs → prefix_len (λ (c : Bucket). is_at (total_order b) c.bound) bs ≡ prefix_len (here b) bs
  prefix_number b [] nb n = refl
  prefix_number b (c ∷ bs) nb n =
      ap (λ o. cond (is_eq o) (1 + prefix_len (λ (c : Bucket). is_at (total_order b) c.bound) bs) 0) (sym (as_numbers b c.bound nb n.0))
      ∙ ap (λ m. cond (here b c) (1 + m) 0) (prefix_number b bs nb n.1)

-- ---- finite sums

abbrev pub Finite : List XFrac → Type 0
Finite vs = AllByRecursion (λ v. is_finite v ≡ true) vs

none_special : (p : XFrac → Bool) → ((v : XFrac) → is_finite v ≡ true → p v ≡ false) → (vs : List XFrac) → Finite vs → list_any p vs ≡ false
none_special p f [] all = refl
none_special p f (v ∷ vs) all = ap (λ t. t || list_any p vs) (f v all.0) ∙ none_special p f vs all.1

finite_nan : (v : XFrac) → is_finite v ≡ true → is_not_a_number v ≡ false
finite_nan (Fin f) h = refl
finite_nan PosInf h = absurd (cc)
finite_nan NegInf h = absurd (cc)
finite_nan NaN h = absurd (cc)

finite_above : (v : XFrac) → is_finite v ≡ true → is_positive_infinity v ≡ false
finite_above (Fin f) h = refl
finite_above PosInf h = absurd (cc)
finite_above NegInf h = absurd (cc)
finite_above NaN h = absurd (cc)

finite_below : (v : XFrac) → is_finite v ≡ true → is_negative_infinity v ≡ false
finite_below (Fin f) h = refl
finite_below PosInf h = absurd (cc)
finite_below NegInf h = absurd (cc)
finite_below NaN h = absurd (cc)

value_finite : (vs : List XFrac) → Finite vs → is_finite (value_of (totals vs)) ≡ true
unfolding totals
value_finite vs all =
    let a = none_special is_not_a_number finite_nan vs all in
    let b = none_special is_positive_infinity finite_above vs all in
    let c = none_special is_negative_infinity finite_below vs all in
    rw a (rw b (rw c refl))

pub total_finite : (vs : List XFrac) (v : XFrac) → Finite vs → total vs ≡ Ok v → is_finite v ≡ true
total_finite vs v all e = by (fits (totals vs)) refl
  where
    by : (t : Bool) → fits (totals vs) ≡ t → is_finite v ≡ true
    by true h = let same : Ok (value_of (totals vs)) ≡ Ok v = sym (ap (λ t. ok_or (cond t (Some (value_of (totals vs))) None) Overflow) h) ∙ e in let is : value_of (totals vs) ≡ v = cc in sym (ap is_finite is) ∙ value_finite vs all
    by false h = let none : Err Overflow ≡ Ok v = sym (ap (λ t. ok_or (cond t (Some (value_of (totals vs))) None) Overflow) h) ∙ e in absurd (cc)
