-- The sum of a vector is the sum of its sums by any grouping.
use Rattle.std.proofs.Common.{◌≡◌, ◌∙◌, ℕ, Bool, true, false, List, [], ◌∷◌, ◌++◌, length, map, refl, sym, ap, subst, arith, append_assoc, Some, None}
use Rattle.std.specs.Prelude.{Option, Ok, filter, fold}
use Rattle.std.specs.Option.{ok_or}
use Rattle.std.specs.BTreeSet.{insert_key}
use Rattle.std.specs.List.{AllByRecursion, filter_map}
use Rattle.std.specs.List.Sorted.{IsPermutation}
use Rattle.std.specs.Map.{keys_of, values_of}
use Rattle.std.proofs.lemmas.List.Elements.{All-from_recursion, recursion_from_All}
use Rattle.std.proofs.lemmas.List.Sorted.{All-permutation, IsPermutation-append_comm, IsPermutation-append_left, IsPermutation-middle, IsPermutation-sym, length_permutation}
use Rattle.func_table.specs.declared.table.Aggregate.TheVariants.{Sum}
use Rattle.label_set.specs.Labels.{labels_cmp}
use Rattle.label_set.specs.declared.rules.Grouping.{Grouping}
use Rattle.xfrac.specs.Laws.{AloneStandsForOne, IsNumber, JoinedStandsForBoth, LcmIsLeast, LcmIsMultiple, PartOverflowsWhole, SumIgnoresOrder}
use Rattle.xfrac.specs.Sums.{sum_of}
use Rattle.xfrac.specs.declared.value.NumFault.TheVariants.{Overflow}
use Rattle.xfrac.specs.declared.value.XFrac.{XFrac}
use Rattle.step_table.specs.AllGathered.{all_gathered, all_in}
use Rattle.step_table.specs.Gathering.{nothing_more}
use Rattle.step_table.specs.Groups.{Names, gathered, items_of}
use Rattle.step_table.specs.Operators.{some_value}
use Rattle.step_table.specs.Outcomes.{mark_of, row_of}
use Rattle.step_table.specs.Unions.{with_fatal}
use Rattle.step_table.specs.declared.outcomes.Outcome.{Outcome}
use Rattle.step_table.specs.declared.step.Row.{Row}
use Rattle.step_table.specs.declared.step.Step.{Step}
use Rattle.promql_meaning.specs.Aggregations.{aggregated, group_outcome, keyed_values}
use Rattle.step_table.specs.Sets.{step_of_rows}
use Rattle.promql_meaning.specs.Laws.{SumsOfSums}
use Rattle.promql_meaning.specs.Orders.{ungrouped}
use Rattle.promql_meaning.specs.Outcomes.{with_notes}
use Rattle.promql_meaning.specs.Ranks.{kept_labels}
use Rattle.promql_meaning.proofs.Replaced.{front_replaced}

module _ {T : Type 0} where
  abbrev has_some : List T → Bool
  has_some [] = false
  has_some (x ∷ xs) = true

-- ---- one group of all rows

abbrev values : List Row → List XFrac
values rows = map (λ (row : Row). row.value) rows

filter_none : {X : Type 0} (xs : List X) → filter (λ x. false) xs ≡ []
filter_none [] = refl
filter_none (x ∷ xs) = filter_none xs

kept_none : (names : Names) → kept_labels ungrouped names ≡ []
kept_none names = filter_none names

abbrev bare : List Row → List (Names × XFrac)
bare rows = map (λ (row : Row). ([], row.value)) rows

keyed_bare : (rows : List Row) → keyed_values ungrouped rows ≡ bare rows
keyed_bare [] = refl
keyed_bare (row ∷ rows) = ap (λ names. (names, row.value) ∷ keyed_values ungrouped rows) (kept_none row.labels) ∙ ap (λ pairs. ([], row.value) ∷ pairs) (keyed_bare rows)

-- the one group of some rows
abbrev whole_group : List Row → List (Names × List XFrac)
whole_group [] = []
whole_group (row ∷ rows) = ([], values (row ∷ rows)) ∷ []

values_bare : (rows : List Row) → items_of (bare rows) [] ≡ values rows
values_bare [] = refl
values_bare (row ∷ rows) = ap (λ vs. row.value ∷ vs) (values_bare rows)

names_bare : (rows : List Row) → fold (insert_key labels_cmp) ([] ∷ []) (keys_of (bare rows)) ≡ [] ∷ []
names_bare [] = refl
names_bare (row ∷ rows) = names_bare rows

gathered_bare : (rows : List Row) → gathered (keyed_values ungrouped rows) ≡ whole_group rows
unfolding gathered
gathered_bare [] = refl
gathered_bare (row ∷ rows) =
    ap gathered (keyed_bare (row ∷ rows)) ∙ ap (map (λ names. (names, items_of (bare (row ∷ rows)) names))) (names_bare rows)
    ∙ ap (λ (vs : List XFrac). ([], vs) ∷ []) (values_bare (row ∷ rows))

-- ---- the sums of groups

abbrev outcome_of : Names → Option XFrac → Outcome
outcome_of names sum = record { labels = names; value = some_value (ok_or sum Overflow) }

abbrev outcomes : XFrac → List (Names × List XFrac) → List Outcome
outcomes arg groups = map (group_outcome Sum arg) groups

-- what comes of the sums of groups, behind numbers that are summed too, where all together have a sum
record AreSummed (done : List XFrac) (made : List Outcome) (some : Bool) (s : XFrac) : Type 0 where
  marks : filter_map mark_of made ≡ []
  sum : sum_of (done ++ values (filter_map row_of made)) ≡ Some s
  rows : has_some (filter_map row_of made) ≡ some

no_sum : {X : Type 0} (s : XFrac) (o : Option XFrac) → o ≡ Some s → o ≡ None → X
no_sum s (Some x) e f = absurd (cc)
no_sum s None e f = absurd (cc)

all_append : (xs ys : List XFrac) → AllByRecursion IsNumber xs → AllByRecursion IsNumber ys → AllByRecursion IsNumber (xs ++ ys)
all_append [] ys a b = b
all_append (x ∷ xs) ys a b = (a.0, all_append xs ys a.1 b)

all_left : (xs ys : List XFrac) → AllByRecursion IsNumber (xs ++ ys) → AllByRecursion IsNumber xs
all_left [] ys a = tt
all_left (x ∷ xs) ys a = (a.0, all_left xs ys a.1)

all_right : (xs ys : List XFrac) → AllByRecursion IsNumber (xs ++ ys) → AllByRecursion IsNumber ys
all_right [] ys a = a
all_right (x ∷ xs) ys a = all_right xs ys a.1

-- a part behind others comes to the front
to_front : (done part rest : List XFrac) → IsPermutation (done ++ (part ++ rest)) (part ++ (done ++ rest))
to_front done part rest =
    subst (λ xs. IsPermutation xs (part ++ (done ++ rest))) (append_assoc done part rest)
    (subst (λ ys. IsPermutation ((done ++ part) ++ rest) ys) (append_assoc part done rest) (IsPermutation-append_left rest (done ++ part) (part ++ done) (IsPermutation-append_comm done part)))

module _ (ignores : SumIgnoresOrder) (both : JoinedStandsForBoth) (one : AloneStandsForOne) (overflows : PartOverflowsWhole) (multiple : LcmIsMultiple) (least : LcmIsLeast) where
  shuffled : (xs ys : List XFrac) (s : XFrac) → AllByRecursion IsNumber xs → IsPermutation xs ys → sum_of xs ≡ Some s → sum_of ys ≡ Some s
  shuffled xs ys s a p e = ignores xs ys (All-from_recursion IsNumber xs a) p ∙ e

  sums_of : (arg : XFrac) (done : List XFrac) (groups : List (Names × List XFrac)) (s : XFrac) → AllByRecursion IsNumber done → AllByRecursion IsNumber (all_in groups)
      → sum_of (done ++ all_in groups) ≡ Some s → AreSummed done (outcomes arg groups) (has_some groups) s
  sums_of arg done [] s nd ng e = record { marks = refl; sum = e; rows = refl }
  sums_of arg done (group ∷ groups) s nd ng e =
      by (λ x number sum. sums_of arg (done ++ x ∷ []) groups s (all_append done (x ∷ []) nd (number, tt)) (all_right group.1 (all_in groups) ng) sum) (sum_of group.1) refl
    where
      front : sum_of (group.1 ++ (done ++ all_in groups)) ≡ Some s
      front = shuffled (done ++ (group.1 ++ all_in groups)) (group.1 ++ (done ++ all_in groups)) s (all_append done (group.1 ++ all_in groups) nd ng) (to_front done group.1 (all_in groups)) e

      rest : AllByRecursion IsNumber (done ++ all_in groups)
      rest = all_append done (all_in groups) nd (all_right group.1 (all_in groups) ng)

      by : ((x : XFrac) → IsNumber x → sum_of ((done ++ x ∷ []) ++ all_in groups) ≡ Some s → AreSummed (done ++ x ∷ []) (outcomes arg groups) (has_some groups) s) → (o : Option XFrac) → sum_of group.1 ≡ o → AreSummed done (outcome_of group.0 o ∷ outcomes arg groups) true s
      by goes None f =
          no_sum s (sum_of (group.1 ++ (done ++ all_in groups))) front
          (overflows group.1 (done ++ all_in groups) (All-from_recursion IsNumber group.1 (all_left group.1 (all_in groups) ng)) (All-from_recursion IsNumber (done ++ all_in groups) rest) f)
      by goes (Some x) f =
          let r = front_replaced multiple least both one group.1 (done ++ all_in groups) x s (all_left group.1 (all_in groups) ng) rest f front in
          let assoc : (done ++ x ∷ []) ++ all_in groups ≡ done ++ x ∷ all_in groups = append_assoc done (x ∷ []) (all_in groups) in
          let back : IsPermutation (x ∷ (done ++ all_in groups)) (done ++ x ∷ all_in groups) = IsPermutation-sym (done ++ x ∷ all_in groups) (x ∷ (done ++ all_in groups)) (IsPermutation-middle done x (all_in groups)) in
          let sum : sum_of ((done ++ x ∷ []) ++ all_in groups) ≡ Some s = ap sum_of assoc ∙ shuffled (x ∷ (done ++ all_in groups)) (done ++ x ∷ all_in groups) s (r.0, rest) back r.1 in
          let more : AreSummed (done ++ x ∷ []) (outcomes arg groups) (has_some groups) s = goes x r.0 sum in
          record {
            marks = more.marks;
            sum = ap sum_of (sym (append_assoc done (x ∷ []) (values (filter_map row_of (outcomes arg groups))))) ∙ more.sum;
            rows = refl;
          }

  values_keyed : (by : Grouping) (rows : List Row) → values_of (keyed_values by rows) ≡ values rows
  values_keyed by [] = refl
  values_keyed by (row ∷ rows) = ap (λ vs. row.value ∷ vs) (values_keyed by rows)

  numbers_of : (rows : List Row) → AllByRecursion (λ (row : Row). IsNumber row.value) rows → AllByRecursion IsNumber (values rows)
  numbers_of [] a = tt
  numbers_of (row ∷ rows) a = (a.0, numbers_of rows a.1)

  has_groups : (by : Grouping) (rows : List Row) (groups : List (Names × List XFrac)) → IsPermutation (values rows) (all_in groups) → groups ≡ gathered (keyed_values by rows) → has_some groups ≡ has_some rows
  unfolding gathered
  has_groups by [] groups p e = ap has_some e
  has_groups by (row ∷ rows) [] p e = let l : 0 ≡ length (values (row ∷ rows)) = length_permutation (values (row ∷ rows)) [] p in absurd (omega (arith, l))
  has_groups by (row ∷ rows) (group ∷ groups) p e = refl

  -- ---- both sides

  abbrev lone_row : Bool → XFrac → List Row
  lone_row true s = record { labels = []; value = s } ∷ []
  lone_row false s = []

  whole_rows : (arg s : XFrac) (rows : List Row) → sum_of (values rows) ≡ Some s → filter_map row_of (outcomes arg (whole_group rows)) ≡ lone_row (has_some rows) s
  whole_rows arg s [] e = refl
  whole_rows arg s (row ∷ rows) e = ap (λ o. filter_map row_of (outcome_of [] o ∷ [])) e

  whole_marks : (arg s : XFrac) (rows : List Row) → sum_of (values rows) ≡ Some s → filter_map mark_of (outcomes arg (whole_group rows)) ≡ []
  whole_marks arg s [] e = refl
  whole_marks arg s (row ∷ rows) e = ap (λ o. filter_map mark_of (outcome_of [] o ∷ [])) e

  -- the sum of all rows of a step whose values have one
  whole_sum : (arg s : XFrac) (label : List ℕ) (v : Step) → sum_of (values v.table.rows) ≡ Some s → aggregated Sum ungrouped arg label v ≡ step_of_rows (lone_row (has_some v.table.rows) s) v.marks
  whole_sum arg s label v e =
      let groups = gathered_bare v.table.rows in
      let rows = ap (λ gs. filter_map row_of (outcomes arg gs)) groups ∙ whole_rows arg s v.table.rows e in
      let fatal = ap (λ gs. filter_map mark_of (outcomes arg gs)) groups ∙ whole_marks arg s v.table.rows e in
      let marks : with_fatal (with_notes v.marks []) (filter_map mark_of (outcomes arg (gathered (keyed_values ungrouped v.table.rows)))) ≡ v.marks =
      ap (with_fatal (with_notes v.marks [])) fatal ∙ nothing_more (with_notes v.marks []) ∙ nothing_more v.marks in
      λ i. step_of_rows (rows i) (marks i)

  total_is : (s : XFrac) (o : Option XFrac) → ok_or o Overflow ≡ Ok s → o ≡ Some s
  total_is s (Some x) e = cc
  total_is s None e = absurd (cc)

  pub sums : SumsOfSums
  sums by arg s label v numbers total =
      let rows : List Row = v.table.rows in
      let groups : List (Names × List XFrac) = gathered (keyed_values by rows) in
      let e : sum_of (values rows) ≡ Some s = total_is s (sum_of (values rows)) total in
      let n : AllByRecursion IsNumber (values rows) = numbers_of rows numbers in
      let p : IsPermutation (values rows) (all_in groups) = subst (λ vs. IsPermutation vs (all_in groups)) (values_keyed by rows) (all_gathered (keyed_values by rows)) in
      let ng : AllByRecursion IsNumber (all_in groups) = recursion_from_All IsNumber (all_in groups) (All-permutation IsNumber (values rows) (all_in groups) p (All-from_recursion IsNumber (values rows) n)) in
      let r : AreSummed [] (outcomes arg groups) (has_some groups) s = sums_of arg [] groups s tt ng (shuffled (values rows) (all_in groups) s n p e) in
      let w : Step = aggregated Sum by arg label v in
      let marks : w.marks ≡ v.marks = ap (with_fatal (with_notes v.marks [])) r.marks ∙ nothing_more (with_notes v.marks []) ∙ nothing_more v.marks in
      let some : has_some w.table.rows ≡ has_some rows = r.rows ∙ has_groups by rows groups p refl in
      whole_sum arg s label w r.sum ∙ (λ i. step_of_rows (lone_row (some i) s) (marks i)) ∙ sym (whole_sum arg s label v e)
