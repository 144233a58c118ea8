-- No group of gathered items is empty.
use Rattle.std.proofs.Common.{◌≡◌, ◌<◌, Bool, true, false, cond, List, [], ◌∷◌, length, refl, sym, subst, ap, map, fold, arith}
use Rattle.std.specs.Prelude.{◌||◌, filter}
use Rattle.std.specs.BTreeMap.{is_at}
use Rattle.std.specs.BTreeSet.{insert_key}
use Rattle.std.specs.List.{AllByRecursion, list_any}
use Rattle.std.specs.Map.{keys_of, values_of}
use Rattle.std.specs.Ordering.{is_eq, match_ordering}
use Rattle.std.specs.declared.cmp.Ordering.TheVariants.{Less, Equal, Greater}
use Rattle.std.proofs.lemmas.Cmp.{tied_itself}
use Rattle.label_set.specs.Entries.{recursion_map}
use Rattle.label_set.specs.Labels.{labels_cmp}
use Rattle.label_set.specs.LabelOrder.{labels_cmp_total}
use Rattle.step_table.specs.Groups.{Names, gathered, items_of, names_among}

each_there : (keys : List Names) → AllByRecursion (λ k. list_any (is_at (labels_cmp k)) keys ≡ true) keys
each_there [] = tt
each_there (k ∷ keys) = (
  ap (λ o. is_eq o || list_any (is_at (labels_cmp k)) keys) (tied_itself labels_cmp_total k),
  recursion_map (λ n. list_any (is_at (labels_cmp n)) keys ≡ true) (λ n. (is_at (labels_cmp n) k || list_any (is_at (labels_cmp n)) keys) ≡ true) (λ n h. either (is_at (labels_cmp n) k) (list_any (is_at (labels_cmp n)) keys) h) keys (each_there keys),
)
  where
    either : (a b : Bool) → b ≡ true → (a || b) ≡ true
    either true b h = refl
    either false b h = h

module _ (P : Names → Type 0) where
  all_insert : (k : Names) (ks : List Names) → P k → AllByRecursion P ks → AllByRecursion P (insert_key labels_cmp ks k)
  all_insert k [] p a = (p, tt)
  all_insert k (q ∷ ks) p a =
      elim (labels_cmp k q) as (λ r. AllByRecursion P (match_ordering r (k ∷ q ∷ ks) (q ∷ ks) (q ∷ insert_key labels_cmp ks k))) [
        | Less ↦ (p, a)
        | Equal ↦ a
        | Greater ↦ (a.0, all_insert k ks p a.1)
      ]

  all_set : (keys done : List Names) → AllByRecursion P done → AllByRecursion P keys → AllByRecursion P (fold (insert_key labels_cmp) done keys)
  all_set [] done d a = d
  all_set (k ∷ keys) done d a = all_set keys (insert_key labels_cmp done k) (all_insert k done a.0 d) a.1

module _ {T : Type 0} where
  abbrev pub AreFilled : List (Names × List T) → Type 0
  AreFilled groups = AllByRecursion (λ group. 0 < length group.1) groups

  has_item : (items : List (Names × T)) (names : Names) → list_any (is_at (labels_cmp names)) (keys_of items) ≡ true → 0 < length (items_of items names)
  has_item [] names h = absurd (cc)
  has_item (p ∷ items) names h =
      elim (is_at (labels_cmp names) p.0) as (λ b. (b || list_any (is_at (labels_cmp names)) (keys_of items)) ≡ true → 0 < length (values_of (cond b (p ∷ filter (λ item. is_at (labels_cmp names) item.0) items) (filter (λ item. is_at (labels_cmp names) item.0) items)))) [
        | true ↦ λ f. omega arith
        | false ↦ λ f. has_item items names f
      ] h

  over : (items : List (Names × T)) (ks : List Names) → AllByRecursion (λ k. 0 < length (items_of items k)) ks → AreFilled (map (λ names. (names, items_of items names)) ks)
  over items [] a = tt
  over items (k ∷ ks) a = (a.0, over items ks a.1)

  pub gathered_filled : (items : List (Names × T)) → AreFilled (gathered items)
  unfolding gathered
  gathered_filled items =
      over items (names_among items) (all_set (λ k. 0 < length (items_of items k)) (keys_of items) [] tt
      (recursion_map (λ k. list_any (is_at (labels_cmp k)) (keys_of items) ≡ true) (λ k. 0 < length (items_of items k)) (λ k h. has_item items k h) (keys_of items) (each_there (keys_of items))))

  pub filled_of : (groups : List (Names × List T)) (items : List (Names × T)) → groups ≡ gathered items → AreFilled groups
  filled_of groups items is = subst AreFilled (sym is) (gathered_filled items)
