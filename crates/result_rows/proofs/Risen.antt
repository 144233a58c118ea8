-- Series whose labels rise are their own groups.
use Rattle.std.proofs.Common.{◌≡◌, ◌∙◌, ◌<◌, ◌+◌, ℕ, Bool, true, false, cond, List, [], ◌∷◌, ◌++◌, map, length, get_or, refl, sym, ap, subst, append_assoc, append-nil, arith}
use Rattle.std.proofs.lemmas.List.{get_or-map, length-map}
use Rattle.std.proofs.lemmas.Map.Keys.{sorted_from_all_adjacent}
use Rattle.std.specs.Prelude.{fold}
use Rattle.std.specs.BTreeMap.{insert_entry}
use Rattle.std.specs.List.{AllAdjacentBelow, AllByRecursion, filter}
use Rattle.std.specs.List.Sorted.{IsStrictlySortedBy}
use Rattle.std.specs.Ordering.{ordering_reverse}
use Rattle.std.specs.declared.cmp.Ordering.TheVariants.{Less, Greater}
use Rattle.label_set.specs.LabelOrder.{labels_cmp_total}
use Rattle.label_set.specs.Labels.{labels_cmp}
use Rattle.promql_meaning.specs.declared.answer.Point.{Point}
use Rattle.promql_meaning.specs.declared.answer.ResultSeries.{ResultSeries}
use Rattle.promql_meaning.specs.Results.{series_of_group}
use Rattle.step_table.specs.Alike.{has_some}
use Rattle.step_table.specs.Groups.{Names}
use Rattle.step_table.specs.KeySets.{all_before}
use Rattle.result_rows.specs.Taken.{names_of, with_series}
use Rattle.result_rows.proofs.Under.{series_with}

-- ---- labels each of which is below the next ones

abbrev pub IsBelow : ResultSeries → ResultSeries → Type 0
IsBelow a b = labels_cmp a.labels b.labels ≡ Less

pub names_risen : (series : List ResultSeries) → AllAdjacentBelow IsBelow series (length series) → IsStrictlySortedBy labels_cmp (names_of series)
names_risen series next = sorted_from_all_adjacent labels_cmp_total (names_of series) [] (λ k h. below k (let size = length-map series (λ (s : ResultSeries). s.labels) in omega (arith, size, h)))
  where
    any : ResultSeries
    any = series_with [] []

    below : (k : ℕ) → k + 1 < length series → labels_cmp (get_or (names_of series) k []) (get_or (names_of series) (k + 1) []) ≡ Less
    below k h =
        let a : get_or (names_of series) k [] ≡ (get_or series k any).labels = get_or-map (λ (s : ResultSeries). s.labels) series k any [] (omega (arith, h)) in
        let b : get_or (names_of series) (k + 1) [] ≡ (get_or series (k + 1) any).labels = get_or-map (λ (s : ResultSeries). s.labels) series (k + 1) any [] h in
        rw (a, b) (next k any h)

-- ---- a series behind others

abbrev group_of : ResultSeries → Names × List Point
group_of s = (s.labels, s.points)

abbrev groups_in : List ResultSeries → List (Names × List Point)
groups_in series = map group_of series

as_series : (series : List ResultSeries) → map series_of_group (groups_in series) ≡ series
as_series [] = refl
as_series (s ∷ series) = ap (λ (r : List ResultSeries). s ∷ r) (as_series series)

groups_more : (series : List ResultSeries) (one : ResultSeries) → groups_in (series ++ one ∷ []) ≡ groups_in series ++ group_of one ∷ []
groups_more [] one = refl
groups_more (s ∷ series) one = ap (λ (r : List (Names × List Point)). group_of s ∷ r) (groups_more series one)

names_more : (series : List ResultSeries) (one : ResultSeries) → names_of (series ++ one ∷ []) ≡ names_of series ++ one.labels ∷ []
names_more [] one = refl
names_more (s ∷ series) one = ap (λ (r : List Names). s.labels ∷ r) (names_more series one)

insert_last : (names : Names) (points : List Point) (series : List ResultSeries) → AllByRecursion (λ (q : Names). labels_cmp q names ≡ Less) (names_of series)
    → insert_entry labels_cmp (groups_in series) names points ≡ groups_in series ++ (names, points) ∷ []
insert_last names points [] below = refl
insert_last names points (s ∷ series) below =
    let above : labels_cmp names s.labels ≡ Greater = labels_cmp_total.antisymm names s.labels ∙ ap ordering_reverse below.0 in
    rw above (ap (λ (r : List (Names × List Point)). group_of s ∷ r) (insert_last names points series below.1))

-- the labels of series, and of those that are to come
abbrev AreRisen : List ResultSeries → List ResultSeries → Type 0
AreRisen sorted rest = IsStrictlySortedBy labels_cmp (names_of sorted ++ names_of rest)

module _ (sorted rest : List ResultSeries) (labels : Names) where
  put_behind : (points : List Point) → AreRisen sorted (series_with labels points ∷ rest) → has_some points ≡ true
      → with_series (groups_in sorted) (series_with labels points) ≡ groups_in sorted ++ (labels, points) ∷ []
  put_behind [] s some = absurd (cc)
  put_behind (p ∷ points) s some = insert_last labels (p ∷ points) sorted (all_before labels_cmp_total (names_of sorted) labels (names_of rest) s)

  pass_over : (points : List Point) → has_some points ≡ false → with_series (groups_in sorted) (series_with labels points) ≡ groups_in sorted
  pass_over [] none = refl
  pass_over (p ∷ points) none = absurd (cc)

module _ (sorted rest : List ResultSeries) (one : ResultSeries) (risen : AreRisen sorted (one ∷ rest)) where
  -- one that has points goes behind
  behind : has_some one.points ≡ true → fold with_series (groups_in sorted) (one ∷ rest) ≡ fold with_series (groups_in (sorted ++ one ∷ [])) rest
  behind some = ap (λ (groups : List (Names × List Point)). fold with_series groups rest) (put_behind sorted rest one.labels one.points risen some ∙ sym (groups_more sorted one))

  risen_behind : AreRisen (sorted ++ one ∷ []) rest
  risen_behind = subst (IsStrictlySortedBy labels_cmp) (sym (ap (λ (r : List Names). r ++ names_of rest) (names_more sorted one) ∙ append_assoc (names_of sorted) (one.labels ∷ []) (names_of rest))) risen

  -- one that has none is passed over
  passed : has_some one.points ≡ false → fold with_series (groups_in sorted) (one ∷ rest) ≡ fold with_series (groups_in sorted) rest
  passed none = ap (λ (groups : List (Names × List Point)). fold with_series groups rest) (pass_over sorted rest one.labels one.points none)

  risen_passed : AreRisen sorted rest
  unfolding IsStrictlySortedBy
  risen_passed = without (names_of sorted) one.labels (names_of rest) risen
    where
      all_without : (P : Names → Type 0) (xs : List Names) (y : Names) (ys : List Names) → AllByRecursion P (xs ++ y ∷ ys) → AllByRecursion P (xs ++ ys)
      all_without P [] y ys a = a.1
      all_without P (x ∷ xs) y ys a = (a.0, all_without P xs y ys a.1)

      without : (xs : List Names) (y : Names) (ys : List Names) → IsStrictlySortedBy labels_cmp (xs ++ y ∷ ys) → IsStrictlySortedBy labels_cmp (xs ++ ys)
      without [] y ys s = s.1
      without (x ∷ xs) y ys s = (all_without (λ (q : Names). labels_cmp x q ≡ Less) xs y ys s.0, without xs y ys s.1)

-- ---- all of them

abbrev pub has_points : ResultSeries → Bool
has_points s = has_some s.points

risen_groups : (sorted rest : List ResultSeries) → AreRisen sorted rest → fold with_series (groups_in sorted) rest ≡ groups_in (sorted ++ filter has_points rest)
risen_groups sorted [] risen = ap groups_in (sym (append-nil sorted))
risen_groups sorted (one ∷ rest) risen = by_points (λ s r. risen_groups s rest r) (has_points one) refl
  where
    by_points : ((s : List ResultSeries) → AreRisen s rest → fold with_series (groups_in s) rest ≡ groups_in (s ++ filter has_points rest)) → (b : Bool) → has_points one ≡ b
        → fold with_series (groups_in sorted) (one ∷ rest) ≡ groups_in (sorted ++ cond b (one ∷ filter has_points rest) (filter has_points rest))
    by_points later true e = behind sorted rest one risen e ∙ later (sorted ++ one ∷ []) (risen_behind sorted rest one risen) ∙ ap groups_in (append_assoc sorted (one ∷ []) (filter has_points rest))
    by_points later false e = passed sorted rest one risen e ∙ later sorted (risen_passed sorted rest one risen)

pub kept_risen : (series : List ResultSeries) → IsStrictlySortedBy labels_cmp (names_of series) → filter has_points series ≡ map series_of_group (fold with_series [] series)
kept_risen series risen = sym (as_series (filter has_points series)) ∙ sym (ap (map series_of_group) (risen_groups [] series risen))
