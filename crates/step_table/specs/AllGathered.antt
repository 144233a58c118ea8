-- The groups of items have all of them: lemmas that the crates above cite too.
use Rattle.std.proofs.Common.{◌≡◌, ◌∙◌, true, false, cond, List, [], ◌∷◌, ◌++◌, map, refl, sym, ap, subst, append_assoc, append-nil, Some, None}
use Rattle.std.specs.Prelude.{unwrap_or}
use Rattle.std.specs.BTreeMap.{insert_entry, is_at}
use Rattle.std.specs.List.Sorted.{IsPermutation, IsStrictlySortedBy}
use Rattle.std.specs.Map.{keys_of, lookup, values_of}
use Rattle.std.specs.Ordering.{match_ordering}
use Rattle.std.specs.declared.cmp.Ordering.TheVariants.{Less, Equal, Greater}
use Rattle.std.proofs.lemmas.List.{map-append}
use Rattle.std.proofs.lemmas.List.Sorted.{IsPermutation-append_left, IsPermutation-append_right, IsPermutation-refl, IsPermutation-to_front, IsPermutation-trans}
use Rattle.std.proofs.lemmas.Map.{lookup-none}
use Rattle.std.proofs.lemmas.Map.Entries.{none_below_head}
use Rattle.label_set.specs.Labels.{labels_cmp}
use Rattle.label_set.specs.LabelOrder.{labels_cmp_total}
use Rattle.step_table.specs.Gathering.{gathered_more, names_sorted}
use Rattle.step_table.specs.Groups.{Names, gathered, items_of, names_among, with_item}

module _ {T : Type 0} where
  -- the items of all groups, one group behind the other
  abbrev pub all_in : List (Names × List T) → List T
  all_in [] = []
  all_in (group ∷ groups) = group.1 ++ all_in groups

  abbrev more_under : List (Names × List T) → Names → T → List T
  more_under groups names x = unwrap_or (lookup (is_at (labels_cmp names)) groups) [] ++ x ∷ []

  one_more : (groups : List (Names × List T)) (names : Names) (x : T) (v : List T) → IsStrictlySortedBy labels_cmp (keys_of groups) → v ≡ more_under groups names x
      → IsPermutation (all_in groups ++ x ∷ []) (all_in (insert_entry labels_cmp groups names v))
  unfolding IsStrictlySortedBy
  one_more [] names x v s e = subst (λ w. IsPermutation (x ∷ []) (w ++ [])) (sym e) (IsPermutation-refl (x ∷ []))
  one_more (group ∷ groups) names x v s e =
      elim (labels_cmp names group.0) as (λ r. labels_cmp names group.0 ≡ r → v ≡ more_under (group ∷ groups) names x → IsPermutation (all_in (group ∷ groups) ++ x ∷ []) (all_in (match_ordering r ((names, v) ∷ group ∷ groups) ((group.0, v) ∷ groups) (group ∷ insert_entry labels_cmp groups names v)))) [
        | Less ↦ λ h f.
            let none : lookup (is_at (labels_cmp names)) (group ∷ groups) ≡ None = lookup-none (is_at (labels_cmp names)) (group ∷ groups) (none_below_head labels_cmp_total names group groups s h) in
            let is : v ≡ x ∷ [] = f ∙ ap (λ o. unwrap_or o [] ++ x ∷ []) none in
            subst (λ w. IsPermutation (all_in (group ∷ groups) ++ x ∷ []) (w ++ all_in (group ∷ groups))) (sym is) (IsPermutation-to_front (all_in (group ∷ groups)) x)
        | Equal ↦ λ h f.
            let is : v ≡ group.1 ++ x ∷ [] = f ∙ ap (λ r. unwrap_or (cond r (Some group.1) (lookup (is_at (labels_cmp names)) groups)) [] ++ x ∷ []) (let q : is_at (labels_cmp names) group.0 ≡ true = rw h refl in q) in
            subst (λ w. IsPermutation (all_in (group ∷ groups) ++ x ∷ []) (w ++ all_in groups)) (sym is)
            (subst (λ ys. IsPermutation ys ((group.1 ++ x ∷ []) ++ all_in groups)) (sym (append_assoc group.1 (all_in groups) (x ∷ [])))
            (subst (λ ys. IsPermutation (group.1 ++ (all_in groups ++ x ∷ [])) ys) (sym (append_assoc group.1 (x ∷ []) (all_in groups)))
            (IsPermutation-append_right group.1 (all_in groups ++ x ∷ []) (x ∷ all_in groups) (IsPermutation-to_front (all_in groups) x))))
        | Greater ↦ λ h f.
            let is : v ≡ more_under groups names x = f ∙ ap (λ r. unwrap_or (cond r (Some group.1) (lookup (is_at (labels_cmp names)) groups)) [] ++ x ∷ []) (let q : is_at (labels_cmp names) group.0 ≡ false = rw h refl in q) in
            subst (λ ys. IsPermutation ys (group.1 ++ all_in (insert_entry labels_cmp groups names v))) (sym (append_assoc group.1 (all_in groups) (x ∷ [])))
            (IsPermutation-append_right group.1 (all_in groups ++ x ∷ []) (all_in (insert_entry labels_cmp groups names v)) (one_more groups names x v s.1 is))
      ] refl e

  pub keys_under : (f : Names → List T) (ks : List Names) → keys_of (map (λ n. (n, f n)) ks) ≡ ks
  keys_under f [] = refl
  keys_under f (k ∷ ks) = ap (λ r. k ∷ r) (keys_under f ks)

  pub groups_sorted : (items : List (Names × T)) → IsStrictlySortedBy labels_cmp (keys_of (gathered items))
  unfolding gathered
  groups_sorted items = subst (IsStrictlySortedBy labels_cmp) (sym (keys_under (items_of items) (names_among items))) (names_sorted items)

  all_from : (done rest : List (Names × T)) → IsPermutation (values_of done) (all_in (gathered done)) → IsPermutation (values_of (done ++ rest)) (all_in (gathered (done ++ rest)))
  all_from done [] h = subst (λ all. IsPermutation (values_of all) (all_in (gathered all))) (sym (append-nil done)) h
  all_from done (p ∷ rest) h =
      let values : values_of (done ++ p ∷ []) ≡ values_of done ++ p.1 ∷ [] = map-append (λ e. e.1) done (p ∷ []) in
      let inner : IsPermutation (values_of done ++ p.1 ∷ []) (all_in (gathered done) ++ p.1 ∷ []) = IsPermutation-append_left (p.1 ∷ []) (values_of done) (all_in (gathered done)) h in
      let outer : IsPermutation (all_in (gathered done) ++ p.1 ∷ []) (all_in (with_item (gathered done) p.0 p.1)) = one_more (gathered done) p.0 p.1 (more_under (gathered done) p.0 p.1) (groups_sorted done) refl in
      let both : IsPermutation (values_of done ++ p.1 ∷ []) (all_in (with_item (gathered done) p.0 p.1)) = IsPermutation-trans _ _ _ inner outer in
      let here : IsPermutation (values_of (done ++ p ∷ [])) (all_in (gathered (done ++ p ∷ []))) =
      subst (λ ys. IsPermutation ys (all_in (gathered (done ++ p ∷ [])))) (sym values) (subst (λ gs. IsPermutation (values_of done ++ p.1 ∷ []) (all_in gs)) (sym (gathered_more done p)) both) in
      subst (λ all. IsPermutation (values_of all) (all_in (gathered all))) (append_assoc done (p ∷ []) rest) (all_from (done ++ p ∷ []) rest here)

  -- the groups of items have all of them
  pub all_gathered : (items : List (Names × T)) → IsPermutation (values_of items) (all_in (gathered items))
  unfolding gathered
  all_gathered items = all_from [] items (IsPermutation-refl [])
