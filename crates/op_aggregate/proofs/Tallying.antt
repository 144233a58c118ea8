-- What is kept of values, and what it comes to.
use Rattle.std.proofs.Common.{◌≡◌, ◌∙◌, ◌+◌, ◌<◌, ◌^◌, ℕ, arith, Bool, true, false, List, length, map, refl, sym, ap, subst, Option, Some, None}
use Rattle.std.specs.Prelude.{IsTrue, Result, Ok, Err, IfSome, is_ok, if◌then◌else◌}
use Rattle.std.specs.List.{filter_map, list_all}
use Rattle.std.specs.Option.{ok_or, option_and_then}
use Rattle.std.specs.Result.{result_ok}
use Rattle.func_table.specs.declared.table.Aggregate.{Aggregate}
use Rattle.func_table.specs.declared.table.Aggregate.TheVariants as aggregate
use Rattle.promql_meaning.specs.Aggregations.{aggregate_of}
use Rattle.promql_meaning.specs.Meaning.{zero_number}
use Rattle.step_table.specs.Operators.{some_value}
use Rattle.window_fn.specs.Aggregates.{average, count_of, squared_distance, total, total_of_answers, variance}
use Rattle.xfrac.specs.Arithmetic.{arithmetic, quotient, whole_number}
use Rattle.xfrac.specs.Sequencing.{◌>>=◌}
use Rattle.xfrac.specs.Sums.{fits, sum_of, totals, value_of}
use Rattle.xfrac.specs.declared.value.ArithOp.TheVariants.{Div}
use Rattle.xfrac.specs.declared.value.NumFault.{NumFault}
use Rattle.xfrac.specs.declared.value.NumFault.TheVariants.{Overflow}
use Rattle.xfrac.specs.declared.value.XFrac.{XFrac}
use Rattle.op_aggregate.specs.Rules.{is_grouped}
use Rattle.op_aggregate.specs.Tallies.{HasNumbers, HasRoom, group_of, group_value, held, or_overflow, sum_or_mean, tally_of}

-- ---- the one fault

-- an answer with no fault but Overflow
abbrev OverflowsAlone : Result XFrac NumFault → Type 0
OverflowsAlone r = or_overflow (result_ok r) ≡ some_value r

by_option : (o : Option XFrac) → OverflowsAlone (ok_or o Overflow)
by_option None = refl
by_option (Some v) = refl

answers_alone : (answers : List (Result XFrac NumFault)) (b : Bool) → OverflowsAlone (if b then total (filter_map result_ok answers) else Err Overflow)
answers_alone answers true = by_option (sum_of (filter_map result_ok answers))
answers_alone answers false = refl

in_turn : (r : Result XFrac NumFault) (next : XFrac → Result XFrac NumFault) → OverflowsAlone r → ((v : XFrac) → OverflowsAlone (next v)) → OverflowsAlone (r >>= next)
in_turn (Ok v) next e f = f v
in_turn (Err x) next e f = e

variance_alone : (xs : List XFrac) → OverflowsAlone (variance xs)
variance_alone xs =
    in_turn (average xs) (λ mean. total_of_answers (map (squared_distance mean) xs) >>= (λ squares. arithmetic Div squares (count_of xs))) (by_option (option_and_then (λ s. quotient s (whole_number (length xs))) (sum_of xs)))
    (λ mean. in_turn (total_of_answers (map (squared_distance mean) xs)) (λ squares. arithmetic Div squares (count_of xs)) (answers_alone (map (squared_distance mean) xs) (list_all is_ok (map (squared_distance mean) xs)))
    (λ squares. by_option (quotient squares (count_of xs))))

-- ---- what it comes to

sum_made : (xs : List XFrac) (b : Bool) → or_overflow (sum_or_mean aggregate.Sum (if b then Some (totals xs) else None)) ≡ some_value (ok_or (if b then Some (value_of (totals xs)) else None) Overflow)
sum_made xs true = refl
sum_made xs false = refl

count_totals : (xs : List XFrac) → (totals xs).count ≡ length xs
unfolding totals
count_totals xs = refl

mean_made : (xs : List XFrac) (b : Bool)
    → or_overflow (sum_or_mean aggregate.Avg (if b then Some (totals xs) else None)) ≡ some_value (ok_or (option_and_then (λ s. quotient s (whole_number (length xs))) (if b then Some (value_of (totals xs)) else None)) Overflow)
mean_made xs true =
    ap (λ (n : ℕ). or_overflow (quotient (value_of (totals xs)) (whole_number n))) (count_totals xs) ∙ told (quotient (value_of (totals xs)) (whole_number (length xs)))
  where
    told : (o : Option XFrac) → or_overflow o ≡ some_value (ok_or o Overflow)
    told None = refl
    told (Some v) = refl
mean_made xs false = refl

-- what is kept of the values of a group comes to what is made of them
pub value_made : (f : Aggregate) (xs : List XFrac) → IsTrue (is_grouped f) → or_overflow (group_value f (group_of f xs)) ≡ aggregate_of f zero_number xs
value_made aggregate.Sum xs g = sum_made xs (fits (totals xs))
value_made aggregate.Avg xs g = mean_made xs (fits (totals xs))
value_made aggregate.Min xs g = refl
value_made aggregate.Max xs g = refl
value_made aggregate.Count xs g = refl
value_made aggregate.Group xs g = refl
value_made aggregate.Stdvar xs g = variance_alone xs
value_made aggregate.TopK xs g = absurd (cc)
value_made aggregate.BottomK xs g = absurd (cc)
value_made aggregate.Quantile xs g = absurd (cc)
value_made aggregate.CountValues xs g = absurd (cc)

-- ---- what the calls ask for

held_has : (xs : List XFrac) → 0 < length xs → IfSome (held xs) (λ s. 0 < s.count)
held_has xs l = one (fits (totals xs))
  where
    one : (b : Bool) → IfSome (if b then Some (totals xs) else None) (λ s. 0 < s.count)
    one true = subst (λ (m : ℕ). 0 < m) (sym (count_totals xs)) l
    one false = tt

pub has_numbers : (f : Aggregate) (xs : List XFrac) → 0 < length xs → HasNumbers (tally_of f xs)
has_numbers aggregate.Sum xs l = held_has xs l
has_numbers aggregate.Avg xs l = held_has xs l
has_numbers aggregate.Min xs l = tt
has_numbers aggregate.Max xs l = tt
has_numbers aggregate.Count xs l = tt
has_numbers aggregate.Group xs l = tt
has_numbers aggregate.Stdvar xs l = l
has_numbers aggregate.TopK xs l = tt
has_numbers aggregate.BottomK xs l = tt
has_numbers aggregate.Quantile xs l = tt
has_numbers aggregate.CountValues xs l = tt

held_room : (xs : List XFrac) → length xs + 1 < 2 ^ 96 → IfSome (held xs) (λ s. s.count + 1 < 2 ^ 96)
held_room xs l = one (fits (totals xs))
  where
    one : (b : Bool) → IfSome (if b then Some (totals xs) else None) (λ s. s.count + 1 < 2 ^ 96)
    one true = subst (λ (m : ℕ). m + 1 < 2 ^ 96) (sym (count_totals xs)) l
    one false = tt

pub has_room : (f : Aggregate) (xs : List XFrac) → length xs + 1 < 2 ^ 64 → HasRoom (tally_of f xs)
has_room f xs l = one f
  where
    most : length xs + 1 < 2 ^ 96
    most = omega (arith, l)

    one : (f : Aggregate) → HasRoom (tally_of f xs)
    one aggregate.Sum = held_room xs most
    one aggregate.Avg = held_room xs most
    one aggregate.Min = tt
    one aggregate.Max = tt
    one aggregate.Count = tt
    one aggregate.Group = tt
    one aggregate.Stdvar = tt
    one aggregate.TopK = tt
    one aggregate.BottomK = tt
    one aggregate.Quantile = tt
    one aggregate.CountValues = tt
