-- The groups, and the items that stand alone, of a part of the items.
use Rattle.std.proofs.Common.{◌≡◌, ◌∙◌, Bool, true, false, cond, List, [], ◌∷◌, map, refl, sym, ap, subst, Some, None}
use Rattle.std.specs.Prelude.{◌||◌, ◌&&◌, filter, fold}
use Rattle.std.specs.declared.cmp.Ordering.TheVariants.{Less, Equal, Greater}
use Rattle.std.specs.Ordering.{is_eq, match_ordering}
use Rattle.std.specs.BTreeSet.{insert_key}
use Rattle.std.specs.BTreeMap.{is_at}
use Rattle.std.specs.List.{AllByRecursion, filter_map, list_any}
use Rattle.std.specs.Map.{keys_of, values_of}
use Rattle.std.proofs.lemmas.Cmp.{tied_itself}
use Rattle.std.proofs.lemmas.List.Kept.{IsStrictlySortedBy-filter}
use Rattle.label_set.specs.Entries.{keys_filter}
use Rattle.label_set.specs.Labels.{labels_cmp}
use Rattle.label_set.specs.LabelOrder.{labels_cmp_ties, labels_cmp_total}
use Rattle.step_table.specs.Alike.{same_sets}
use Rattle.step_table.specs.Gathering.{names_sorted}
use Rattle.step_table.specs.Groups.{Names, alone, gathered, has_several, items_of, names_among, shared_names, shared_of}
use Rattle.step_table.specs.KeySets.{any_of_set}
use Rattle.step_table.specs.Outcomes.{keyed_by, lone_by}
use Rattle.parting_laws.proofs.Chosen.{chosen_all, chosen_filter, everywhere}

module _ (part : Names → Bool) where
  -- ---- a part of a set

  any_part : (n : Names) (ms : List Names) → list_any (is_at (labels_cmp n)) (filter part ms) ≡ (part n && list_any (is_at (labels_cmp n)) ms)
  any_part n [] = by (part n)
    where
      by : (b : Bool) → false ≡ (b && false)
      by true = refl
      by false = refl
  any_part n (m ∷ ms) =
      elim (labels_cmp n m) as (λ r. labels_cmp n m ≡ r → list_any (is_at (labels_cmp n)) (cond (part m) (m ∷ filter part ms) (filter part ms)) ≡ (part n && (is_eq r || list_any (is_at (labels_cmp n)) ms))) [
        | Less ↦ λ h. other (part m) (ap is_eq h) (any_part n ms)
        | Equal ↦ λ h. rw (sym (labels_cmp_ties n m h)) (same (part n) (any_part n ms))
        | Greater ↦ λ h. other (part m) (ap is_eq h) (any_part n ms)
      ] refl
    where
      other : (b : Bool) → is_at (labels_cmp n) m ≡ false → list_any (is_at (labels_cmp n)) (filter part ms) ≡ (part n && list_any (is_at (labels_cmp n)) ms) → list_any (is_at (labels_cmp n)) (cond b (m ∷ filter part ms) (filter part ms)) ≡ (part n && list_any (is_at (labels_cmp n)) ms)
      other true h rest = rw h rest
      other false h rest = rest

      same : (b : Bool) → list_any (is_at (labels_cmp n)) (filter part ms) ≡ (b && list_any (is_at (labels_cmp n)) ms) → list_any (is_at (labels_cmp n)) (cond b (n ∷ filter part ms) (filter part ms)) ≡ (b && true)
      same true rest = rw (tied_itself labels_cmp_total n) refl
      same false rest = rest

  -- ---- a part of items

  module _ {T : Type 0} where
    abbrev pub items_in : List (Names × T) → List (Names × T)
    items_in items = filter (λ (item : Names × T). part item.0) items

    names_in : (items : List (Names × T)) → names_among (items_in items) ≡ filter part (names_among items)
    names_in items =
        same_sets labels_cmp_total labels_cmp_ties (names_among (items_in items)) (filter part (names_among items)) (names_sorted (items_in items)) (IsStrictlySortedBy-filter labels_cmp part (names_among items) (names_sorted items))
        (λ n. any_of_set labels_cmp_total labels_cmp_ties (is_at (labels_cmp n)) (keys_of (items_in items)) ∙ ap (list_any (is_at (labels_cmp n))) (keys_filter part items) ∙ any_part n (keys_of items)
        ∙ ap (λ b. part n && b) (sym (any_of_set labels_cmp_total labels_cmp_ties (is_at (labels_cmp n)) (keys_of items))) ∙ sym (any_part n (names_among items)))

    items_same : (items : List (Names × T)) (n : Names) → part n ≡ true → items_of (items_in items) n ≡ items_of items n
    items_same [] n e = refl
    items_same (item ∷ items) n e =
        elim (labels_cmp n item.0) as (λ r. labels_cmp n item.0 ≡ r → values_of (filter (λ (i : Names × T). is_at (labels_cmp n) i.0) (cond (part item.0) (item ∷ items_in items) (items_in items))) ≡ values_of (cond (is_eq r) (item ∷ filter (λ (i : Names × T). is_at (labels_cmp n) i.0) items) (filter (λ (i : Names × T). is_at (labels_cmp n) i.0) items))) [
          | Less ↦ λ h. apart (part item.0) (ap is_eq h) (items_same items n e)
          | Equal ↦ λ h. let p : part item.0 ≡ true = ap part (sym (labels_cmp_ties n item.0 h)) ∙ e in rw (p, h) (ap (λ xs. item.1 ∷ xs) (items_same items n e))
          | Greater ↦ λ h. apart (part item.0) (ap is_eq h) (items_same items n e)
        ] refl
      where
        apart : (b : Bool) → is_at (labels_cmp n) item.0 ≡ false → items_of (items_in items) n ≡ items_of items n → values_of (filter (λ (i : Names × T). is_at (labels_cmp n) i.0) (cond b (item ∷ items_in items) (items_in items))) ≡ items_of items n
        apart true h rest = rw h rest
        apart false h rest = rest

    abbrev group_in : Names × List T → Bool
    group_in group = part group.0

    groups_in : (items : List (Names × T)) (ms : List Names) → map (λ n. (n, items_of (items_in items) n)) (filter part ms) ≡ filter group_in (map (λ n. (n, items_of items n)) ms)
    groups_in items [] = refl
    groups_in items (m ∷ ms) = by (part m) refl (groups_in items ms)
      where
        by : (b : Bool) → part m ≡ b → map (λ n. (n, items_of (items_in items) n)) (filter part ms) ≡ filter group_in (map (λ n. (n, items_of items n)) ms)
            → map (λ n. (n, items_of (items_in items) n)) (cond b (m ∷ filter part ms) (filter part ms)) ≡ cond b ((m, items_of items m) ∷ filter group_in (map (λ n. (n, items_of items n)) ms)) (filter group_in (map (λ n. (n, items_of items n)) ms))
        by true h rest = (λ i. (m, items_same items m h i) ∷ rest i)
        by false h rest = rest

    -- the groups of a part of the items are the groups under its labels
    pub gathered_in : (items : List (Names × T)) → gathered (items_in items) ≡ filter group_in (gathered items)
    unfolding gathered
    gathered_in items = ap (map (λ n. (n, items_of (items_in items) n))) (names_in items) ∙ groups_in items (names_among items)

    shared_is : (group : Names × List T) (n : Names) → shared_of group ≡ Some n → part n ≡ group_in group
    shared_is group n e = by (has_several group.1) e
      where
        by : (b : Bool) → cond b (Some group.0) None ≡ Some n → part n ≡ part group.0
        by true f = let same : group.0 ≡ n = cc in ap part (sym same)
        by false f = absurd (cc)

    -- the labels that items of a part share are those that all share, as far as they are its own
    pub shared_in : (items : List (Names × T)) → shared_names (items_in items) ≡ filter part (shared_names items)
    shared_in items =
        ap (filter_map shared_of) (gathered_in items)
        ∙ chosen_filter shared_of group_in part (gathered items) (everywhere (λ (g : Names × List T). (n : Names) → shared_of g ≡ Some n → part n ≡ group_in g) shared_is (gathered items))

  -- ---- items that have labels

  module _ {X : Type 0} (labels : X → Names) where
    abbrev own : X → Bool
    own x = part (labels x)

    pub keyed_in : (xs : List X) → keyed_by labels (filter own xs) ≡ items_in (keyed_by labels xs)
    keyed_in [] = refl
    keyed_in (x ∷ xs) = elim (own x) as (λ b. keyed_by labels (cond b (x ∷ filter own xs) (filter own xs)) ≡ cond b ((labels x, x) ∷ items_in (keyed_by labels xs)) (items_in (keyed_by labels xs))) [
      | true ↦ ap (λ r. (labels x, x) ∷ r) (keyed_in xs)
      | false ↦ keyed_in xs
    ]

    -- each item of a group has the group's labels
    under_own : (n : Names) (xs : List X) → AllByRecursion (λ (x : X). labels x ≡ n) (items_of (keyed_by labels xs) n)
    under_own n [] = tt
    under_own n (x ∷ xs) =
        elim (labels_cmp n (labels x)) as (λ r. labels_cmp n (labels x) ≡ r → AllByRecursion (λ (x : X). labels x ≡ n) (values_of (cond (is_eq r) ((labels x, x) ∷ filter (λ (i : Names × X). is_at (labels_cmp n) i.0) (keyed_by labels xs)) (filter (λ (i : Names × X). is_at (labels_cmp n) i.0) (keyed_by labels xs))))) [
          | Less ↦ λ h. under_own n xs
          | Equal ↦ λ h. (sym (labels_cmp_ties n (labels x) h), under_own n xs)
          | Greater ↦ λ h. under_own n xs
        ] refl

    alone_is : (n : Names) (xs : List X) → AllByRecursion (λ (x : X). labels x ≡ n) xs → (y : X) → alone xs ≡ Some y → own y ≡ part n
    alone_is n [] a y e = absurd (cc)
    alone_is n (x ∷ []) a y e = let same : x ≡ y = cc in ap (λ (z : X). own z) (sym same) ∙ ap part a.0
    alone_is n (x ∷ z ∷ xs) a y e = absurd (cc)

    all_alone : (xs : List X) (ms : List Names) → AllByRecursion (λ (g : Names × List X). (y : X) → alone g.1 ≡ Some y → own y ≡ part g.0) (map (λ n. (n, items_of (keyed_by labels xs) n)) ms)
    all_alone xs [] = tt
    all_alone xs (m ∷ ms) = (alone_is m (items_of (keyed_by labels xs) m) (under_own m xs), all_alone xs ms)

    -- the items of a part that stand alone are those of all that stand alone, as far as they are its own
    pub lone_in : (xs : List X) → lone_by labels (filter own xs) ≡ filter own (lone_by labels xs)
    unfolding gathered
    lone_in xs =
        ap (λ items. filter_map (λ (g : Names × List X). alone g.1) (gathered items)) (keyed_in xs)
        ∙ ap (filter_map (λ (g : Names × List X). alone g.1)) (gathered_in (keyed_by labels xs))
        ∙ chosen_filter (λ (g : Names × List X). alone g.1) (λ (g : Names × List X). part g.0) own (gathered (keyed_by labels xs)) (all_alone xs (names_among (keyed_by labels xs)))

-- what holds of all items holds of those that stand alone
module _ {X : Type 0} (labels : X → Names) (Q : X → Type 0) where
  items_all : (n : Names) (xs : List X) → AllByRecursion Q xs → AllByRecursion Q (items_of (keyed_by labels xs) n)
  items_all n [] a = tt
  items_all n (x ∷ xs) a = by (is_at (labels_cmp n) (labels x)) (items_all n xs a.1)
    where
      by : (b : Bool) → AllByRecursion Q (items_of (keyed_by labels xs) n) → AllByRecursion Q (values_of (cond b ((labels x, x) ∷ filter (λ (i : Names × X). is_at (labels_cmp n) i.0) (keyed_by labels xs)) (filter (λ (i : Names × X). is_at (labels_cmp n) i.0) (keyed_by labels xs))))
      by true rest = (a.0, rest)
      by false rest = rest

  alone_holds : (xs : List X) (y : X) → alone xs ≡ Some y → AllByRecursion Q xs → Q y
  alone_holds [] y e a = absurd (cc)
  alone_holds (x ∷ []) y e a = let same : x ≡ y = cc in subst Q same a.0
  alone_holds (x ∷ z ∷ xs) y e a = absurd (cc)

  groups_all : (xs : List X) (ms : List Names) → AllByRecursion Q xs → AllByRecursion (λ (g : Names × List X). AllByRecursion Q g.1) (map (λ n. (n, items_of (keyed_by labels xs) n)) ms)
  groups_all xs [] a = tt
  groups_all xs (m ∷ ms) a = (items_all m xs a, groups_all xs ms a)

  pub lone_all : (xs : List X) → AllByRecursion Q xs → AllByRecursion Q (lone_by labels xs)
  unfolding gathered
  lone_all xs a =
      chosen_all (λ (g : Names × List X). alone g.1) (λ (g : Names × List X). AllByRecursion Q g.1) Q (λ g y e h. alone_holds g.1 y e h) (map (λ n. (n, items_of (keyed_by labels xs) n)) (names_among (keyed_by labels xs)))
      (groups_all xs (names_among (keyed_by labels xs)) a)

-- what holds of the labels of all items holds of those of their groups
module _ (Q : Names → Type 0) where
  insert_all : (k : Names) (ks : List Names) → Q k → AllByRecursion Q ks → AllByRecursion Q (insert_key labels_cmp ks k)
  insert_all k [] p a = (p, tt)
  insert_all k (q ∷ ks) p a =
      elim (labels_cmp k q) as (λ r. AllByRecursion Q (match_ordering r (k ∷ q ∷ ks) (q ∷ ks) (q ∷ insert_key labels_cmp ks k))) [
        | Less ↦ (p, a)
        | Equal ↦ a
        | Greater ↦ (a.0, insert_all k ks p a.1)
      ]

  set_all : (done keys : List Names) → AllByRecursion Q done → AllByRecursion Q keys → AllByRecursion Q (fold (insert_key labels_cmp) done keys)
  set_all done [] d a = d
  set_all done (k ∷ keys) d a = set_all (insert_key labels_cmp done k) keys (insert_all k done a.0 d) a.1

  pub names_all : {T : Type 0} (items : List (Names × T)) → AllByRecursion Q (keys_of items) → AllByRecursion Q (names_among items)
  names_all items a = set_all [] (keys_of items) tt a

  under_names : {T : Type 0} (h : Names → List T) (ms : List Names) → AllByRecursion Q ms → AllByRecursion (λ (g : Names × List T). Q g.0) (map (λ n. (n, h n)) ms)
  under_names h [] a = tt
  under_names h (m ∷ ms) a = (a.0, under_names h ms a.1)

  pub groups_named : {T : Type 0} (items : List (Names × T)) → AllByRecursion Q (keys_of items) → AllByRecursion (λ (g : Names × List T). Q g.0) (gathered items)
  unfolding gathered
  groups_named items a = under_names (items_of items) (names_among items) (names_all items a)
