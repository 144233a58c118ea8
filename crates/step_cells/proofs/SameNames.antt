-- Labels among sorted ones, two lists of items whose labels are the same, and what is under labels.
use Rattle.std.specs.Map.{values_of}
use Rattle.std.specs.Prelude.{filter}
use Rattle.label_set.specs.Labels.{labels_cmp}
use Rattle.std.proofs.Common.{map, cond, true, ◌≡◌, ◌∙◌, false, List, [], ◌∷◌, refl, sym}
use Rattle.std.specs.BTreeMap.{is_at}
use Rattle.std.specs.Cmp.{IsTotalOrder}
use Rattle.std.specs.List.{AllByRecursion, list_any}
use Rattle.std.specs.declared.cmp.Ordering.{Ordering}
use Rattle.std.specs.declared.cmp.Ordering.TheVariants.{Less, Equal}
use Rattle.label_set.specs.LabelOrder.{labels_cmp_ties, labels_cmp_total}
use Rattle.step_table.specs.Alike.{any_name, has_some, same_sets}
use Rattle.step_table.specs.Gathering.{names_sorted}
use Rattle.step_table.specs.Shuffles.{Shuffled, none, kept, swapped, joined}
use Rattle.step_table.specs.Groups.{Names, items_of, names_among}

module _ {K : Type 0} {R : K → K → Ordering} (o : IsTotalOrder R) (ties : (x y : K) → R x y ≡ Equal → x ≡ y) where
  pub none_above : (k : K) (ks : List K) → AllByRecursion (λ q. R k q ≡ Less) ks → list_any (is_at (R k)) ks ≡ false
  none_above k [] a = refl
  none_above k (q ∷ ks) a = rw a.0 (none_above k ks a.1)

pub names_alike : {T U : Type 0} (xs : List (Names × T)) (ys : List (Names × U)) → ((names : Names) → has_some (items_of xs names) ≡ has_some (items_of ys names)) → names_among xs ≡ names_among ys
names_alike xs ys e =
    same_sets labels_cmp_total labels_cmp_ties (names_among xs) (names_among ys) (names_sorted xs) (names_sorted ys)
    (λ names. any_name xs names ∙ e names ∙ sym (any_name ys names))

-- groups under the same labels, of which the same is made
pub groups_alike : {X Y B : Type 0} (f : Names × X → B) (g : Names × Y → B) (xs : Names → X) (ys : Names → Y) → ((names : Names) → f (names, xs names) ≡ g (names, ys names)) → (all : List Names)
    → map f (map (λ names. (names, xs names)) all) ≡ map g (map (λ names. (names, ys names)) all)
groups_alike f g xs ys e [] = refl
groups_alike f g xs ys e (names ∷ all) = λ i. e names i ∷ groups_alike f g xs ys e all i

-- what holds of each item holds of those under labels
pub each_under : {T : Type 0} (P : T → Type 0) (items : List (Names × T)) (names : Names) → AllByRecursion (λ (item : Names × T). P item.1) items → AllByRecursion P (items_of items names)
each_under P [] names a = tt
each_under P (item ∷ items) names a =
    elim (is_at (labels_cmp names) item.0) as (λ b. AllByRecursion P (values_of (cond b (item ∷ filter (λ e. is_at (labels_cmp names) e.0) items) (filter (λ e. is_at (labels_cmp names) e.0) items)))) [
      | true ↦ (a.0, each_under P items names a.1)
      | false ↦ each_under P items names a.1
    ]

-- what holds of each item of a list holds of each in another order
module _ {A : Type 0} (P : A → Type 0) where
  pub all_kept : (xs ys : List A) → Shuffled xs ys → AllByRecursion P xs → AllByRecursion P ys
  all_kept _ _ none a = a
  all_kept _ _ (kept x xs ys s) a = (a.0, all_kept xs ys s a.1)
  all_kept _ _ (swapped x y xs) a = (a.1.0, (a.0, a.1.1))
  all_kept _ _ (joined xs ys zs s t) a = all_kept ys zs t (all_kept xs ys s a)
