-- The sum of one number, and the sums of rows that are groups of their own.
use Rattle.std.proofs.Common.{◌≡◌, ◌∙◌, ℕ, suc, ◌+◌, Bool, true, false, cond, List, [], ◌∷◌, map, refl, sym, ap, subst, arith, Some, None}
use Rattle.std.specs.Prelude.{Option, pos, negsuc, neg_ℤ, ◌-ℤ◌, ◌/◌, Ok}
use Rattle.std.specs.Option.{ok_or}
use Rattle.std.specs.List.{AllByRecursion, filter_map}
use Rattle.std.specs.List.Sorted.{IsStrictlySortedBy}
use Rattle.std.specs.Map.{keys_of}
use Rattle.std.proofs.Math.IntN.{+ℤ_idl, +ℤ_idr}
use Rattle.std.proofs.lemmas.Bool.{cond-true, and_from, le-leb}
use Rattle.func_table.specs.declared.table.Aggregate.TheVariants.{Sum}
use Rattle.label_set.specs.Labels.{labels_cmp}
use Rattle.label_set.specs.declared.rules.Grouping.{Grouping}
use Rattle.xfrac.specs.Divisors.{gcd}
use Rattle.xfrac.specs.Formed.{lowest-with_sign}
use Rattle.xfrac.specs.Fractions.{IsReduced, lowest, with_sign}
use Rattle.xfrac.specs.Gcds.{reduced_is}
use Rattle.xfrac.specs.Laws.{AloneStandsForOne, IsNumber}
use Rattle.xfrac.specs.Sums.{Totals, alone, fits, sum_of, value_of}
use Rattle.xfrac.specs.declared.value.NumFault.TheVariants.{Overflow}
use Rattle.xfrac.specs.declared.value.XFrac.{XFrac}
use Rattle.xfrac.specs.declared.value.XFrac.TheVariants.{Fin, PosInf, NegInf, NaN}
use Rattle.step_table.specs.Gathering.{gathered_single, labels_of, nothing_more, single}
use Rattle.step_table.specs.Groups.{Names, gathered}
use Rattle.step_table.specs.Operators.{some_value}
use Rattle.step_table.specs.Outcomes.{mark_of, row_of}
use Rattle.step_table.specs.Unions.{with_fatal}
use Rattle.step_table.specs.declared.outcomes.Outcome.{Outcome}
use Rattle.step_table.specs.declared.step.Row.{Row}
use Rattle.promql_meaning.specs.Aggregations.{group_outcome, keyed_values}
use Rattle.promql_meaning.specs.Laws.{SumOfEachRow}
use Rattle.promql_meaning.specs.Outcomes.{with_notes}
use Rattle.promql_meaning.specs.Ranks.{kept_labels}

-- ---- one number

lowest_same : (s : Bool) (m d : ℕ) → IsReduced m d → lowest (with_sign s m) d ≡ (with_sign s m, d)
lowest_same s m d r =
    let both = reduced_is m d m d r.positive r.positive r.lowest refl in
    lowest-with_sign s m d ∙ ap (λ x. (with_sign s x, d / gcd m d)) both.0 ∙ ap (λ y. (with_sign s m, y)) both.1

abbrev told : Totals → Option XFrac
told t = cond (fits t) (Some (value_of t)) None

alone_told : (x : XFrac) → IsNumber x → told (alone x) ≡ Some x
alone_told (Fin (pos n, d)) r =
    cond-true _ _ _ (and_from _ _ (le-leb _ _ r.denominator_within) (le-leb _ _ (omega (arith, r.numerator_within))))
    ∙ ap (λ z. Some (Fin (lowest z d))) (above n) ∙ ap (λ f. Some (Fin f)) (lowest_same false n d r)
  where
    above : (n : ℕ) → pos n -ℤ pos 0 ≡ pos n
    above n = +ℤ_idr (pos n)
alone_told (Fin (negsuc n, d)) r =
    cond-true _ _ _ (and_from _ _ (le-leb _ _ r.denominator_within) (le-leb _ _ (omega (arith, r.numerator_within))))
    ∙ ap (λ z. Some (Fin (lowest z d))) (below n) ∙ ap (λ f. Some (Fin f)) (lowest_same true (suc n) d r)
  where
    below : (n : ℕ) → pos 0 -ℤ pos (n + 1) ≡ negsuc n
    below n = +ℤ_idl (neg_ℤ (pos (n + 1))) ∙ ap (λ k. neg_ℤ (pos k)) (let next : n + 1 ≡ suc n = omega arith in next)
alone_told PosInf r = refl
alone_told NegInf r = refl
alone_told NaN r = refl

sum_of_one : AloneStandsForOne → (x : XFrac) → IsNumber x → sum_of (x ∷ []) ≡ Some x
sum_of_one stands x number = ap told (sym (stands x number)) ∙ alone_told x number

-- ---- rows

abbrev pair_of : Row → Names × XFrac
pair_of row = (row.labels, row.value)

keyed_whole : (by : Grouping) (rows : List Row) → AllByRecursion (λ (row : Row). kept_labels by row.labels ≡ row.labels) rows → keyed_values by rows ≡ map pair_of rows
keyed_whole by [] a = refl
keyed_whole by (row ∷ rows) a =
    ap (λ names. (names, row.value) ∷ keyed_values by rows) a.0 ∙ ap (λ pairs. (row.labels, row.value) ∷ pairs) (keyed_whole by rows a.1)

keys_of_pairs : (rows : List Row) → keys_of (map pair_of rows) ≡ labels_of rows
keys_of_pairs [] = refl
keys_of_pairs (row ∷ rows) = ap (λ ks. row.labels ∷ ks) (keys_of_pairs rows)

abbrev sums : XFrac → List Row → List Outcome
sums q rows = map (group_outcome Sum q) (map single (map pair_of rows))

module _ (stands : AloneStandsForOne) (q : XFrac) where
  one_outcome : (row : Row) → IsNumber row.value → group_outcome Sum q (single (pair_of row)) ≡ record { labels = row.labels; value = Ok (Some row.value) }
  one_outcome row number = ap (λ o. record { labels = row.labels; value = some_value (ok_or o Overflow) }) (sum_of_one stands row.value number)

  rows_again : (rows : List Row) → AllByRecursion (λ (row : Row). IsNumber row.value) rows → filter_map row_of (sums q rows) ≡ rows
  rows_again [] a = refl
  rows_again (row ∷ rows) a =
      ap (λ (o : Outcome). filter_map row_of (o ∷ sums q rows)) (one_outcome row a.0) ∙ ap (λ more. row ∷ more) (rows_again rows a.1)

  no_marks_of : (rows : List Row) → AllByRecursion (λ (row : Row). IsNumber row.value) rows → filter_map mark_of (sums q rows) ≡ []
  no_marks_of [] a = refl
  no_marks_of (row ∷ rows) a = ap (λ (o : Outcome). filter_map mark_of (o ∷ sums q rows)) (one_outcome row a.0) ∙ no_marks_of rows a.1

pub each_row : AloneStandsForOne → SumOfEachRow
each_row stands by arg label v table whole numbers =
    let sorted : IsStrictlySortedBy labels_cmp (keys_of (map pair_of v.table.rows)) = subst (IsStrictlySortedBy labels_cmp) (sym (keys_of_pairs v.table.rows)) table in
    let groups : gathered (keyed_values by v.table.rows) ≡ map single (map pair_of v.table.rows) = ap gathered (keyed_whole by v.table.rows whole) ∙ gathered_single (map pair_of v.table.rows) sorted in
    let rows : filter_map row_of (map (group_outcome Sum arg) (gathered (keyed_values by v.table.rows))) ≡ v.table.rows = ap (λ g. filter_map row_of (map (group_outcome Sum arg) g)) groups ∙ rows_again stands arg v.table.rows numbers in
    let fatal : filter_map mark_of (map (group_outcome Sum arg) (gathered (keyed_values by v.table.rows))) ≡ [] = ap (λ g. filter_map mark_of (map (group_outcome Sum arg) g)) groups ∙ no_marks_of stands arg v.table.rows numbers in
    let marks : with_fatal (with_notes v.marks []) (filter_map mark_of (map (group_outcome Sum arg) (gathered (keyed_values by v.table.rows)))) ≡ v.marks =
    ap (with_fatal (with_notes v.marks [])) fatal ∙ nothing_more (with_notes v.marks []) ∙ nothing_more v.marks in
    λ i. record { table = record { rows = rows i }; marks = marks i }
