-- Sets with the same members are one, and items that are the same under all labels are gathered alike: lemmas that the
-- crates above cite too.
use Rattle.std.proofs.Common.{◌≡◌, ◌∙◌, Bool, true, false, cond, List, [], ◌∷◌, map, refl, sym, ap, subst, Some, None}
use Rattle.std.specs.Prelude.{◌||◌, filter, unwrap_or, if◌then◌else◌}
use Rattle.std.specs.declared.cmp.Ordering.{Ordering}
use Rattle.std.specs.declared.cmp.Ordering.TheVariants.{Less, Equal, Greater}
use Rattle.std.specs.Ordering.{is_eq, match_ordering, ordering_reverse}
use Rattle.std.specs.Cmp.{IsTotalOrder}
use Rattle.std.specs.BTreeMap.{is_at}
use Rattle.std.specs.List.{AllByRecursion, cons_option, filter_map, list_any}
use Rattle.std.specs.List.Sorted.{IsStrictlySortedBy}
use Rattle.std.specs.Map.{keys_of, values_of, lookup}
use Rattle.std.specs.Set.{sorted_merge}
use Rattle.std.proofs.lemmas.Bool.{false≢true}
use Rattle.std.proofs.lemmas.Cmp.{tied_itself}
use Rattle.label_set.specs.Labels.{labels_cmp}
use Rattle.label_set.specs.Entries.{recursion_map}
use Rattle.label_set.specs.LabelOrder.{labels_cmp_total, labels_cmp_ties}
use Rattle.step_table.specs.Gathering.{found, names_sorted}
use Rattle.step_table.specs.Groups.{Names, names_among, items_of, gathered, has_several, shared_names, shared_of}
use Rattle.step_table.specs.KeySets.{any_of_set, merged-nil}

-- ---- sets

module _ {K : Type 0} (R : K → K → Ordering) where
  pub merged-less : (x : K) (xs : List K) (y : K) (ys : List K) → R x y ≡ Less → sorted_merge R true (x ∷ xs) (y ∷ ys) ≡ x ∷ sorted_merge R true xs (y ∷ ys)
  merged-less x xs y ys e = rw e refl

  pub merged-equal : (x : K) (xs : List K) (y : K) (ys : List K) → R x y ≡ Equal → sorted_merge R true (x ∷ xs) (y ∷ ys) ≡ x ∷ sorted_merge R true xs ys
  merged-equal x xs y ys e = rw e refl

  pub merged-greater : (x : K) (xs : List K) (y : K) (ys : List K) → R x y ≡ Greater → sorted_merge R true (x ∷ xs) (y ∷ ys) ≡ y ∷ sorted_merge R true (x ∷ xs) ys
  merged-greater x xs y ys e = rw e refl

module _ {K : Type 0} {R : K → K → Ordering} (o : IsTotalOrder R) (ties : (x y : K) → R x y ≡ Equal → x ≡ y) where
  is_here : (k : K) (ks : List K) → list_any (is_at (R k)) (k ∷ ks) ≡ true
  is_here k ks = rw (tied_itself o k) refl

  none_above : (k : K) (ks : List K) → AllByRecursion (λ q. R k q ≡ Less) ks → list_any (is_at (R k)) ks ≡ false
  none_above k [] a = refl
  none_above k (q ∷ ks) a = rw a.0 (none_above k ks a.1)

  not_among : (k q : K) (ks : List K) → R k q ≡ Less → AllByRecursion (λ z. R q z ≡ Less) ks → list_any (is_at (R k)) (q ∷ ks) ≡ false
  not_among k q ks l a = none_above k (q ∷ ks) (l, recursion_map (λ z. R q z ≡ Less) (λ z. R k z ≡ Less) (λ z m. o.trans k q z l m) ks a)

  tails : (x : K) (xs ys : List K) → AllByRecursion (λ q. R x q ≡ Less) xs → AllByRecursion (λ q. R x q ≡ Less) ys → ((k : K) → list_any (is_at (R k)) (x ∷ xs) ≡ list_any (is_at (R k)) (x ∷ ys)) → (k : K) → list_any (is_at (R k)) xs ≡ list_any (is_at (R k)) ys
  tails x xs ys a b e k =
      elim (R k x) as (λ r. R k x ≡ r → (is_eq r || list_any (is_at (R k)) xs) ≡ (is_eq r || list_any (is_at (R k)) ys) → list_any (is_at (R k)) xs ≡ list_any (is_at (R k)) ys) [
        | Less ↦ λ h f. f
        | Equal ↦ λ h f. subst (λ q. list_any (is_at (R q)) xs ≡ list_any (is_at (R q)) ys) (sym (ties k x h)) (none_above x xs a ∙ sym (none_above x ys b))
        | Greater ↦ λ h f. f
      ] refl (e k)

  -- two sets with the same members are one
  pub same_sets : (xs ys : List K) → IsStrictlySortedBy R xs → IsStrictlySortedBy R ys → ((k : K) → list_any (is_at (R k)) xs ≡ list_any (is_at (R k)) ys) → xs ≡ ys
  unfolding IsStrictlySortedBy
  same_sets [] [] s t e = refl
  same_sets [] (y ∷ ys) s t e = absurd (false≢true (e y ∙ is_here y ys))
  same_sets (x ∷ xs) [] s t e = absurd (false≢true (sym (e x) ∙ is_here x xs))
  same_sets (x ∷ xs) (y ∷ ys) s t e =
      elim (R x y) as (λ r. R x y ≡ r → x ∷ xs ≡ y ∷ ys) [
        | Less ↦ λ h. absurd (false≢true (sym (not_among x y ys h t.0) ∙ sym (e x) ∙ is_here x xs))
        | Equal ↦ λ h.
            let same : x ≡ y = ties x y h in
            let above : AllByRecursion (λ q. R x q ≡ Less) ys = subst (λ z. AllByRecursion (λ q. R z q ≡ Less) ys) (sym same) t.0 in
            let members : (k : K) → list_any (is_at (R k)) (x ∷ xs) ≡ list_any (is_at (R k)) (x ∷ ys) = subst (λ z. (k : K) → list_any (is_at (R k)) (x ∷ xs) ≡ list_any (is_at (R k)) (z ∷ ys)) (sym same) e in
            let rest : xs ≡ ys = same_sets xs ys s.1 t.1 (tails x xs ys s.0 above members) in
            cc
        | Greater ↦ λ h. absurd (false≢true (sym (not_among y x xs (o.antisymm y x ∙ ap ordering_reverse h) s.0) ∙ e y ∙ is_here y ys))
      ] refl

  swapped_onto : (x : K) (xs : List K) → ((ys : List K) → sorted_merge R true xs ys ≡ sorted_merge R true ys xs) → (ys : List K) → sorted_merge R true (x ∷ xs) ys ≡ sorted_merge R true ys (x ∷ xs)
  swapped_onto x xs h [] = refl
  swapped_onto x xs h (y ∷ ys) =
      elim (R x y) as (λ r. R x y ≡ r → match_ordering r (x ∷ sorted_merge R true xs (y ∷ ys)) (x ∷ sorted_merge R true xs ys) (y ∷ sorted_merge R true (x ∷ xs) ys) ≡ sorted_merge R true (y ∷ ys) (x ∷ xs)) [
        | Less ↦ λ k. ap (λ zs. x ∷ zs) (h (y ∷ ys)) ∙ sym (merged-greater R y ys x xs (o.antisymm y x ∙ ap ordering_reverse k))
        | Equal ↦ λ k. ap (λ zs. x ∷ zs) (h ys) ∙ ap (λ z. z ∷ sorted_merge R true ys xs) (ties x y k) ∙ sym (merged-equal R y ys x xs (o.antisymm y x ∙ ap ordering_reverse k))
        | Greater ↦ λ k. ap (λ zs. y ∷ zs) (swapped_onto x xs h ys) ∙ sym (merged-less R y ys x xs (o.antisymm y x ∙ ap ordering_reverse k))
      ] refl

  -- a union doesn't depend on which set is the first
  pub union_swapped : (xs ys : List K) → sorted_merge R true xs ys ≡ sorted_merge R true ys xs
  union_swapped [] ys = sym (merged-nil R ys)
  union_swapped (x ∷ xs) ys = swapped_onto x xs (union_swapped xs) ys

-- ---- items under labels

module _ {T : Type 0} where
  abbrev pub has_some : List T → Bool
  has_some [] = false
  has_some (item ∷ items) = true

  pub any_key : (items : List (Names × T)) (names : Names) → list_any (is_at (labels_cmp names)) (keys_of items) ≡ has_some (items_of items names)
  any_key [] names = refl
  any_key (item ∷ items) names =
      elim (is_at (labels_cmp names) item.0) as (λ b. (b || list_any (is_at (labels_cmp names)) (keys_of items)) ≡ has_some (values_of (cond b (item ∷ filter (λ e. is_at (labels_cmp names) e.0) items) (filter (λ e. is_at (labels_cmp names) e.0) items)))) [
        | true ↦ refl
        | false ↦ any_key items names
      ]

  pub any_name : (items : List (Names × T)) (names : Names) → list_any (is_at (labels_cmp names)) (names_among items) ≡ has_some (items_of items names)
  any_name items names = any_of_set labels_cmp_total labels_cmp_ties (is_at (labels_cmp names)) (keys_of items) ∙ any_key items names

  names_alike : (xs ys : List (Names × T)) → ((names : Names) → items_of xs names ≡ items_of ys names) → names_among xs ≡ names_among ys
  names_alike xs ys e =
      same_sets labels_cmp_total labels_cmp_ties (names_among xs) (names_among ys) (names_sorted xs) (names_sorted ys)
      (λ names. any_name xs names ∙ ap has_some (e names) ∙ sym (any_name ys names))

  pub gathered_alike : (xs ys : List (Names × T)) → ((names : Names) → items_of xs names ≡ items_of ys names) → gathered xs ≡ gathered ys
  unfolding gathered
  gathered_alike xs ys e =
      ap (map (λ names. (names, items_of xs names))) (names_alike xs ys e)
      ∙ ap (λ (f : Names → Names × List T). map f (names_among ys)) (λ i names. (names, e names i))

  not_several : (groups : List (Names × List T)) (test : Names → Bool) → filter_map shared_of groups ≡ [] → has_several (unwrap_or (lookup test groups) []) ≡ false
  not_several [] test e = refl
  not_several (group ∷ groups) test e =
      elim (has_several group.1) as (λ b. has_several group.1 ≡ b → cons_option (if b then Some group.0 else None) (filter_map shared_of groups) ≡ [] → has_several (unwrap_or (cond (test group.0) (Some group.1) (lookup test groups)) []) ≡ false) [
        | true ↦ λ h f. absurd (cc)
        | false ↦ λ h f. elim (test group.0) as (λ c. has_several (unwrap_or (cond c (Some group.1) (lookup test groups)) []) ≡ false) [ true ↦ h | false ↦ not_several groups test f ]
      ] refl e

  -- where no labels are shared, no labels have several items
  pub none_shared : (items : List (Names × T)) → shared_names items ≡ [] → (names : Names) → has_several (items_of items names) ≡ false
  none_shared items e names = subst (λ (xs : List T). has_several xs ≡ false) (found items names) (not_several (gathered items) (is_at (labels_cmp names)) e)
