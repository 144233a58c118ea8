-- Totals that are merged one after another are the totals of all their numbers, as long as these have a sum.
use Rattle.std.proofs.Common.{◌≡◌, ◌∙◌, ℕ, ◌+◌, ◌*◌, ◌<◌, Bool, true, false, List, [], ◌∷◌, ◌++◌, length, map, refl, sym, ap, arith, append_assoc, append-nil, length-append, Some, None}
use Rattle.std.specs.Prelude.{Option, Ok, fold, if◌then◌else◌, is_some}
use Rattle.std.specs.Option.{ok_or, option_map, option_and_then}
use Rattle.std.specs.List.{All, AllByRecursion, filter_map}
use Rattle.std.proofs.lemmas.Bool.{cond-true, cond-false}
use Rattle.std.proofs.lemmas.List.Elements.{All-from_recursion, All-weaker}
use Rattle.std.proofs.Math.Nat.{dvd-mul_left, dvd-mul_right, pos_of_dvd_of_pos}
use Rattle.holders.specs.Joins.{both_of, front_of, back_of}
use Rattle.func_table.specs.declared.table.Aggregate.{Aggregate}
use Rattle.func_table.specs.declared.table.Aggregate.TheVariants.{Sum, Avg, Count}
use Rattle.xfrac.specs.AnySize.{AnyPartOverflowsWhole, InLowestTerms, NumberIsLowest}
use Rattle.xfrac.specs.Arithmetic.{quotient, whole_number}
use Rattle.xfrac.specs.Divisors.{lcm}
use Rattle.xfrac.specs.Gcds.{product_positive}
use Rattle.xfrac.specs.Laws.{IsNumber, JoinedStandsForBoth, LcmIsLeast}
use Rattle.xfrac.specs.NumberLaws.{HasDenominator}
use Rattle.xfrac.specs.Sums.{Totals, denominator_of, fits, joined, multiple_of, sum_of, totals, value_of}
use Rattle.xfrac.specs.declared.value.NumFault.TheVariants.{Overflow}
use Rattle.xfrac.specs.declared.value.XFrac.{XFrac}
use Rattle.xfrac.specs.declared.value.XFrac.TheVariants.{Fin, PosInf, NegInf, NaN}
use Rattle.step_table.specs.Operators.{some_value}
use Rattle.step_table.specs.declared.cells.Cell.{Cell}
use Rattle.promql_meaning.specs.Aggregations.{aggregate_of}
use Rattle.step_table.specs.declared.cells.Cell.TheVariants as cell
use Rattle.window_fn.specs.Aggregates.{average, greatest, least as least_of, total}
use Rattle.step_cells.specs.Joined.{counted_in, finished, mean_in, merged, merged_with, totals_in_cell, value_in_cell}
use Rattle.step_cells.specs.Owed.{partial_cell, sum_cell}
use Rattle.step_cells.proofs.Asked.{IsAsked}

abbrev pub flat : {X : Type 0} → List (List X) → List X
flat [] = []
flat (x ∷ xs) = x ++ flat xs

-- values that are in lowest terms, and those that are numbers
abbrev pub AllLowest : List XFrac → Type 0
AllLowest xs = AllByRecursion InLowestTerms xs

abbrev pub AreNumbers : List XFrac → Type 0
AreNumbers xs = AllByRecursion IsNumber xs

pub lowest_numbers : NumberIsLowest → (xs : List XFrac) → AreNumbers xs → AllLowest xs
lowest_numbers lowest [] a = tt
lowest_numbers lowest (x ∷ xs) a = (lowest x a.0, lowest_numbers lowest xs a.1)

-- totals that fit
abbrev pub held : Totals → Option Totals
held t = if fits t then Some t else None

pub sum_none : (xs : List XFrac) → fits (totals xs) ≡ false → sum_of xs ≡ None
sum_none xs e = cond-false _ _ _ e

pub fit_false : (b : Bool) (v : XFrac) → (if b then Some v else None) ≡ None → b ≡ false
fit_false true v e = absurd (cc)
fit_false false v e = refl

count_is : (xs : List XFrac) → (totals xs).count ≡ length xs
unfolding totals
count_is xs = refl

pub nothing_fits : fits (totals []) ≡ true
unfolding totals
nothing_fits = refl

module _ (both : JoinedStandsForBoth) (overflows : AnyPartOverflowsWhole) (least : LcmIsLeast) where
  lcm_positive : (a b : ℕ) → 0 < a → 0 < b → 0 < lcm a b
  lcm_positive a b pa pb = pos_of_dvd_of_pos (least a b (a * b) pa pb (dvd-mul_right a b) (dvd-mul_left b a)) (product_positive a b pa pb)

  positive_denominator : (x : XFrac) → InLowestTerms x → HasDenominator x
  positive_denominator (Fin f) r = r.positive
  positive_denominator PosInf r = omega arith
  positive_denominator NegInf r = omega arith
  positive_denominator NaN r = omega arith

  denominators : (xs : List XFrac) → AllLowest xs → All HasDenominator xs
  denominators xs a = All-weaker InLowestTerms HasDenominator positive_denominator xs (All-from_recursion InLowestTerms xs a)

  pub totals_positive : (xs : List XFrac) → AllLowest xs → 0 < (totals xs).multiple
  unfolding totals
  totals_positive [] a = omega arith
  totals_positive (x ∷ xs) a = lcm_positive (denominator_of x) (multiple_of xs) (positive_denominator x a.0) (totals_positive xs a.1)

  pub joined_totals : (xs ys : List XFrac) → AllLowest xs → AllLowest ys → joined (totals xs) (totals ys) ≡ totals (xs ++ ys)
  joined_totals xs ys a b = both (totals xs) (totals ys) xs ys (totals_positive xs a) (totals_positive ys b) refl refl

  -- a part that doesn't fit leaves the whole without a sum
  pub part_unfit : (xs ys : List XFrac) → AllLowest xs → AllLowest ys → fits (totals xs) ≡ false → fits (totals (xs ++ ys)) ≡ false
  part_unfit xs ys a b e =
      fit_false (fits (totals (xs ++ ys))) (value_of (totals (xs ++ ys)))
      (overflows xs ys (denominators xs a) (denominators ys b) (sum_none xs e))

  one_merged : (done p : List XFrac) → AllLowest done → AllLowest p → (b : Bool) → fits (totals done) ≡ b → merged_with (if b then Some (totals done) else None) (totals p) ≡ held (totals (done ++ p))
  one_merged done p a n true e = ap held (joined_totals done p a n)
  one_merged done p a n false e = sym (cond-false _ _ _ (part_unfit done p a n e))

  merged_from : (done : List XFrac) (parts : List (List XFrac)) → AllLowest done → AllLowest (flat parts) → fold merged_with (held (totals done)) (map totals parts) ≡ held (totals (done ++ flat parts))
  merged_from done [] a n = ap (λ xs. held (totals xs)) (sym (append-nil done))
  merged_from done (p ∷ parts) a n =
      let np : AllLowest p = front_of InLowestTerms p (flat parts) n in
      ap (λ o. fold merged_with o (map totals parts)) (one_merged done p a np (fits (totals done)) refl)
      ∙ merged_from (done ++ p) parts (both_of InLowestTerms done p a np) (back_of InLowestTerms p (flat parts) n)
      ∙ ap (λ xs. held (totals xs)) (append_assoc done p (flat parts))

  pub merged_all : (parts : List (List XFrac)) → AllLowest (flat parts) → merged (map totals parts) ≡ held (totals (flat parts))
  merged_all parts n = ap (λ o. fold merged_with o (map totals parts)) (sym (cond-true _ _ _ nothing_fits)) ∙ merged_from [] parts tt n

-- ---- the cells of a group

-- every part has a cell
abbrev pub HasCell : Aggregate → List XFrac → Type 0
HasCell f xs = is_some (partial_cell f xs) ≡ true

fits_from : (b : Bool) (c : Cell) → is_some (if b then Some c else None) ≡ true → b ≡ true
fits_from true c e = refl
fits_from false c e = absurd (cc)

sums_of_cells : (parts : List (List XFrac)) → AllByRecursion (HasCell Sum) parts → filter_map totals_in_cell (filter_map sum_cell parts) ≡ map totals parts
sums_of_cells [] a = refl
sums_of_cells (p ∷ parts) a = rw (fits_from (fits (totals p)) _ a.0) (ap (λ ts. totals p ∷ ts) (sums_of_cells parts a.1))

summed : (t : Totals) (b : Bool) → option_map value_of (if b then Some t else None) ≡ (if b then Some (value_of t) else None)
summed t true = refl
summed t false = refl

averaged : (xs : List XFrac) (b : Bool) → option_and_then mean_in (if b then Some (totals xs) else None) ≡ option_and_then (λ (s : XFrac). quotient s (whole_number (length xs))) (if b then Some (value_of (totals xs)) else None)
averaged xs true = ap (λ n. quotient (value_of (totals xs)) (whole_number n)) (count_is xs)
averaged xs false = refl

counts : (parts : List (List XFrac)) → counted_in (filter_map (partial_cell Count) parts) ≡ length (flat parts)
counts [] = refl
counts (p ∷ parts) = ap (λ n. length p + n) (counts parts) ∙ sym (length-append p (flat parts))

-- the least of parts' least values is the least of all, and so is the greatest
pub record Extremes : Type 0 where
  pub least_parts : (parts : List (List XFrac)) → AllLowest (flat parts) → least_of (map least_of parts) ≡ least_of (flat parts)
  pub greatest_parts : (parts : List (List XFrac)) → AllLowest (flat parts) → greatest (map greatest parts) ≡ greatest (flat parts)

values_of_cells : (f : List XFrac → XFrac) (parts : List (List XFrac)) → filter_map value_in_cell (filter_map (λ xs. Some (cell.Value (f xs))) parts) ≡ map f parts
values_of_cells f [] = refl
values_of_cells f (p ∷ parts) = ap (λ vs. f p ∷ vs) (values_of_cells f parts)

module _ (both : JoinedStandsForBoth) (overflows : AnyPartOverflowsWhole) (least : LcmIsLeast) where
  -- the merged totals of lists come to the sum and to the mean of all their numbers
  pub total_merged : (parts : List (List XFrac)) → AllLowest (flat parts) → ok_or (option_map value_of (merged (map totals parts))) Overflow ≡ total (flat parts)
  total_merged parts n =
      ap (λ o. ok_or (option_map value_of o) Overflow) (merged_all both overflows least parts n)
      ∙ ap (λ o. ok_or o Overflow) (summed (totals (flat parts)) (fits (totals (flat parts))))

  pub mean_merged : (parts : List (List XFrac)) → AllLowest (flat parts) → ok_or (option_and_then mean_in (merged (map totals parts))) Overflow ≡ average (flat parts)
  mean_merged parts n =
      ap (λ o. ok_or (option_and_then mean_in o) Overflow) (merged_all both overflows least parts n)
      ∙ ap (λ o. ok_or o Overflow) (averaged (flat parts) (fits (totals (flat parts))))

  -- what is finished of the cells of parts is the aggregation of all their values
  sum_finished : (q : XFrac) (parts : List (List XFrac)) → AllLowest (flat parts) → AllByRecursion (HasCell Sum) parts → finished Sum (filter_map (partial_cell Sum) parts) ≡ aggregate_of Sum q (flat parts)
  sum_finished q parts n a =
      ap (λ ts. some_value (ok_or (option_map value_of (merged ts)) Overflow)) (sums_of_cells parts a) ∙ ap some_value (total_merged parts n)

  avg_finished : (q : XFrac) (parts : List (List XFrac)) → AllLowest (flat parts) → AllByRecursion (HasCell Sum) parts → finished Avg (filter_map (partial_cell Avg) parts) ≡ aggregate_of Avg q (flat parts)
  avg_finished q parts n a =
      ap (λ ts. some_value (ok_or (option_and_then mean_in (merged ts)) Overflow)) (sums_of_cells parts a) ∙ ap some_value (mean_merged parts n)

  module _ (ends : Extremes) where
    pub group_finished : (f : Aggregate) (q : XFrac) (parts : List (List XFrac)) → IsAsked f → AllLowest (flat parts) → AllByRecursion (HasCell f) parts → finished f (filter_map (partial_cell f) parts) ≡ aggregate_of f q (flat parts)
    group_finished f q parts IsAsked.sum n a = sum_finished q parts n a
    group_finished f q parts IsAsked.avg n a = avg_finished q parts n a
    group_finished f q parts IsAsked.count n a = ap (λ k. Ok (Some (whole_number k))) (counts parts)
    group_finished f q parts IsAsked.group n a = refl
    group_finished f q parts IsAsked.min n a = ap (λ vs. Ok (Some (least_of vs))) (values_of_cells least_of parts) ∙ ap (λ v. Ok (Some v)) (ends.least_parts parts n)
    group_finished f q parts IsAsked.max n a = ap (λ vs. Ok (Some (greatest vs))) (values_of_cells greatest parts) ∙ ap (λ v. Ok (Some v)) (ends.greatest_parts parts n)
