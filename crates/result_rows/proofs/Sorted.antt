-- Series that are put under their labels one by one are the points gathered by labels.
use Rattle.std.proofs.Common.{◌≡◌, ◌∙◌, Bool, true, false, cond, List, [], ◌∷◌, ◌++◌, map, refl, sym, ap, append-nil}
use Rattle.std.specs.Prelude.{◌||◌, fold, if◌then◌else◌}
use Rattle.std.specs.BTreeMap.{is_at}
use Rattle.std.specs.BTreeSet.{insert_key}
use Rattle.std.specs.Cmp.{eq_by_cmp_equiv}
use Rattle.std.specs.List.{AllByRecursion, IsDistinct, list_any}
use Rattle.std.specs.List.Sorted.{IsStrictlySortedBy}
use Rattle.std.specs.Ordering.{is_eq}
use Rattle.std.specs.declared.cmp.Ordering.{Ordering}
use Rattle.std.proofs.lemmas.Cmp.{tied_itself}
use Rattle.label_set.specs.Entries.{recursion_map}
use Rattle.label_set.specs.LabelEquality.{labels_eq}
use Rattle.label_set.specs.LabelOrder.{labels_cmp_ties, labels_cmp_total, labels_eq_at, labels_eq_equivalence}
use Rattle.label_set.specs.Labels.{labels_cmp}
use Rattle.promql_meaning.specs.declared.answer.Point.{Point}
use Rattle.promql_meaning.specs.declared.answer.ResultSeries.{ResultSeries}
use Rattle.step_table.specs.Alike.{any_name, has_some, same_sets}
use Rattle.step_table.specs.Gathering.{names_sorted}
use Rattle.step_table.specs.Groups.{Names, gathered, items_of, names_among}
use Rattle.step_table.specs.KeySets.{any_insert, sorted_insert, valued_insert}
use Rattle.result_rows.specs.Taken.{names_of, points_under, with_series}

-- the points that are put under labels, and the labels of those that have some
abbrev Under : Type 0
Under = Names → List Point

-- the groups of labels that have some
abbrev groups_of : Under → List Names → List (Names × List Point)
groups_of under ks = map (λ n. (n, under n)) ks

-- the points of one series more
abbrev put_under : Under → ResultSeries → Under
put_under under s names = under names ++ cond (is_at (labels_cmp names) s.labels) s.points []

record IsPut (under : Under) (ks : List Names) : Type 0 where
  sorted : IsStrictlySortedBy labels_cmp ks
  some : (names : Names) → list_any (is_at (labels_cmp names)) ks ≡ has_some (under names)

-- nothing is put under the labels of series that are still to come
abbrev AreFresh : Under → List ResultSeries → Type 0
AreFresh under series = AllByRecursion (λ (s : ResultSeries). under s.labels ≡ []) series

none_under : (names : Names) (series : List ResultSeries) → AllByRecursion (λ y. labels_eq names y ≡ false) (names_of series) → points_under names series ≡ []
none_under names [] a = refl
none_under names (s ∷ series) a = let f : is_at (labels_cmp names) s.labels ≡ false = labels_eq_at names s.labels ∙ a.0 in rw f (none_under names series a.1)

module _ (under : Under) (s : ResultSeries) where
  unseen : (q : Names) → is_at (labels_cmp q) s.labels ≡ false → put_under under s q ≡ under q
  unseen q f = rw f (append-nil (under q))

  fresh_next : (series : List ResultSeries) → AllByRecursion (λ y. labels_eq s.labels y ≡ false) (names_of series) → AreFresh under series → AreFresh (put_under under s) series
  fresh_next [] a f = tt
  fresh_next (t ∷ series) a f = (unseen t.labels (labels_eq_at t.labels s.labels ∙ labels_eq_equivalence.symm t.labels s.labels ∙ a.0) ∙ f.0, fresh_next series a.1 f.1)

  -- what is put and what is to come are as before
  same_points : (series : List ResultSeries) (q : Names) → AllByRecursion (λ y. labels_eq s.labels y ≡ false) (names_of series) → under q ++ points_under q (s ∷ series) ≡ put_under under s q ++ points_under q series
  same_points series q a =
      elim (is_at (labels_cmp q) s.labels) as (λ b. is_at (labels_cmp q) s.labels ≡ b → under q ++ (if b then s.points else points_under q series) ≡ (under q ++ cond b s.points []) ++ points_under q series) [
        | true ↦ λ h.
            let apart : AllByRecursion (λ y. labels_eq q y ≡ false) (names_of series) =
            recursion_map (λ y. labels_eq s.labels y ≡ false) (λ y. labels_eq q y ≡ false) (λ y k. labels_eq_equivalence.congr q s.labels y (sym (labels_eq_at q s.labels) ∙ h) ∙ k) (names_of series) a in
            sym (ap (λ (r : List Point). (under q ++ s.points) ++ r) (none_under q series apart) ∙ append-nil (under q ++ s.points))
        | false ↦ λ h. ap (λ (r : List Point). r ++ points_under q series) (sym (append-nil (under q)))
      ] refl

-- ---- one series more

-- the groups with it are those of the labels that have points now
abbrev PutsOn : Under → List Names → ResultSeries → Type 0
PutsOn under ks s = (more : List Names) × IsPut (put_under under s) more × (with_series (groups_of under ks) s ≡ groups_of (put_under under s) more)

put_one : (under : Under) (ks : List Names) (labels : Names) (points : List Point) → IsPut under ks → under labels ≡ [] → PutsOn under ks (record { labels = labels; points = points })
put_one under ks labels [] put fresh =
    let same : (q : Names) → put_under under (record { labels = labels; points = [] }) q ≡ under q = λ q. nothing q (is_at (labels_cmp q) labels) in (
      ks,
      record { sorted = put.sorted; some = λ q. put.some q ∙ ap has_some (sym (same q)) },
      ap (λ (f : Under). groups_of f ks) (λ i q. sym (same q) i),
    )
  where
    nothing : (q : Names) (b : Bool) → under q ++ cond b [] [] ≡ under q
    nothing q true = append-nil (under q)
    nothing q false = append-nil (under q)
put_one under ks labels (p ∷ points) put fresh =
    let s : ResultSeries = record { labels = labels; points = p ∷ points } in
    let here : put_under under s labels ≡ p ∷ points =
    ap (λ (r : List Point). r ++ cond (is_at (labels_cmp labels) labels) (p ∷ points) []) fresh ∙ ap (λ (r : Ordering). cond (is_eq r) (p ∷ points) []) (tied_itself labels_cmp_total labels) in (
      insert_key labels_cmp ks labels,
      record {
        sorted = sorted_insert labels_cmp_total labels_cmp_ties labels ks put.sorted;
        some = λ q.
            any_insert labels_cmp_total labels_cmp_ties (is_at (labels_cmp q)) labels ks
            ∙ ap (λ (b : Bool). is_at (labels_cmp q) labels || b) (put.some q) ∙ joined (is_at (labels_cmp q) labels) (under q);
      },
      sym (valued_insert labels_cmp_total labels_cmp_ties under (put_under under s) labels (p ∷ points) here
          (λ n apart. unseen under s n ((eq_by_cmp_equiv labels_cmp_total).symm n labels ∙ apart)) ks put.sorted),
    )
  where
    joined : (b : Bool) (xs : List Point) → (b || has_some xs) ≡ has_some (xs ++ cond b (p ∷ points) [])
    joined true [] = refl
    joined true (x ∷ xs) = refl
    joined false xs = ap has_some (sym (append-nil xs))

module _ (items : List (Names × Point)) where
  all_put : (under : Under) (ks : List Names) → IsPut under ks → ((q : Names) → items_of items q ≡ under q) → groups_of under ks ≡ gathered items
  unfolding gathered
  all_put under ks put same =
      let keys : ks ≡ names_among items =
      same_sets labels_cmp_total labels_cmp_ties ks (names_among items) put.sorted (names_sorted items) (λ q. put.some q ∙ ap has_some (sym (same q)) ∙ sym (any_name items q)) in
      ap (groups_of under) keys ∙ ap (λ (f : Under). groups_of f (names_among items)) (λ i q. sym (same q) i)

  put_rest : (under : Under) (ks : List Names) (series : List ResultSeries) → IsPut under ks → AreFresh under series → IsDistinct labels_eq (names_of series)
      → ((q : Names) → items_of items q ≡ under q ++ points_under q series) → fold with_series (groups_of under ks) series ≡ gathered items
  unfolding IsDistinct
  put_rest under ks [] put fresh distinct same = all_put under ks put (λ q. same q ∙ append-nil (under q))
  put_rest under ks (s ∷ series) put fresh distinct same =
      let next : PutsOn under ks s = put_one under ks s.labels s.points put fresh.0 in
      ap (λ (groups : List (Names × List Point)). fold with_series groups series) next.2
      ∙ put_rest (put_under under s) next.0 series next.1 (fresh_next under s series distinct.0 fresh.1) distinct.1 (λ q. same q ∙ same_points under s series q distinct.0)

  pub groups_are : (series : List ResultSeries) → IsDistinct labels_eq (names_of series) → ((q : Names) → points_under q series ≡ items_of items q) → fold with_series [] series ≡ gathered items
  unfolding IsStrictlySortedBy
  groups_are series distinct same = put_rest (λ q. []) [] series (record { sorted = tt; some = λ q. refl }) (all_fresh series) distinct (λ q. sym (same q))
    where
      all_fresh : (series : List ResultSeries) → AreFresh (λ q. []) series
      all_fresh [] = tt
      all_fresh (s ∷ series) = (refl, all_fresh series)
