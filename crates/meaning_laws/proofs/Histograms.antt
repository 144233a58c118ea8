-- Quantiles of histograms are numbers.
use Rattle.std.proofs.Common.{◌≡◌, ℕ, List, [], ◌∷◌, map, refl, Option, Some, None, Result, Ok, Err, arith}
use Rattle.std.specs.Prelude.{IfOk, IfSome, filter, fold, ◌==◌, if◌then◌else◌}
use Rattle.std.specs.BTreeMap.{is_at}
use Rattle.std.specs.BTreeSet.{insert_key}
use Rattle.std.specs.List.{AllByRecursion, filter_map, last_or}
use Rattle.std.specs.Option.{ok_or, option_map}
use Rattle.std.specs.Ordering.{match_ordering}
use Rattle.std.specs.Result.{result_ok}
use Rattle.std.specs.declared.cmp.Ordering.TheVariants.{Less, Equal, Greater}
use Rattle.std.proofs.lemmas.List.Elements.{All-from_recursion}
use Rattle.frac_text.specs.Readings.{literal_answer, turned}
use Rattle.frac_text.specs.declared.refusal.NumberRefusal.{NumberRefusal}
use Rattle.label_set.specs.Entries.{recursion_filter}
use Rattle.step_table.specs.Groups.{Names}
use Rattle.step_table.specs.Unions.{set_of}
use Rattle.step_table.specs.declared.step.Row.{Row}
use Rattle.step_table.specs.declared.step.Step.{Step}
use Rattle.xfrac.specs.Arithmetic.{arithmetic, whole_number}
use Rattle.xfrac.specs.Kinds.{is_not_a_number, is_zero}
use Rattle.xfrac.specs.Laws.{IsNumber}
use Rattle.xfrac.specs.NumberLaws.{FormedIsNumber, FractionIsFormed, HasDenominator, NegatedIsNumber, NumberHasDenominator, SumIsNumber}
use Rattle.xfrac.specs.Order.{compares, total_order}
use Rattle.xfrac.specs.Sequencing.{◌>>=◌, then_holds}
use Rattle.xfrac.specs.Sums.{sum_of}
use Rattle.xfrac.specs.declared.value.ArithOp.TheVariants.{Add, Sub, Mul, Div}
use Rattle.xfrac.specs.declared.value.CompareOp.TheVariants.{Lt, Le, Gt, Ge}
use Rattle.xfrac.specs.declared.value.NumFault.{NumFault}
use Rattle.xfrac.specs.declared.value.NumFault.TheVariants.{Overflow}
use Rattle.xfrac.specs.declared.value.XFrac.{XFrac}
use Rattle.xfrac.specs.declared.value.XFrac.TheVariants.{PosInf, NegInf, NaN}
use Rattle.promql_meaning.specs.declared.buckets.Bucket.{Bucket}
use Rattle.promql_meaning.specs.Buckets.{are_finite, at_least, at_rank, bound_or, bound_text, bucket_of, bucket_quantiles, count_at, each_of, histogram_labels, histogram_outcome, histogram_quantile, histograms, interpolated, is_whole, last_count, merged, merged_at, quantile_of_merged, quantile_of_rising, raised, signed_number, within_bucket}
use Rattle.meaning_laws.specs.ValueLaws.{HasValues}
use Rattle.meaning_laws.proofs.Operations.{V, chosen, has_denominator, literal_is, or_whole, turned_is}
use Rattle.meaning_laws.proofs.Rows.{IsOutcome, R, gathered_all, made_all, mapped_all, settled_outcomes}

-- a bucket as rows have it, and one whose count is a sum
record IsBucket (b : Bucket) : Type 0 where
  bound : IsNumber b.bound
  count : V b.count

record IsSummed (b : Bucket) : Type 0 where
  bound : IsNumber b.bound
  count : IsNumber b.count

abbrev N : Result XFrac NumFault → Type 0
N r = IfOk r IsNumber

-- ---- the bounds as a set

one_more : (xs : List XFrac) (x : XFrac) → AllByRecursion IsNumber xs → IsNumber x → AllByRecursion IsNumber (insert_key total_order xs x)
one_more [] x h k = (k, tt)
one_more (y ∷ ys) x h k =
    elim (total_order x y) as (λ o. AllByRecursion IsNumber (match_ordering o (x ∷ y ∷ ys) (y ∷ ys) (y ∷ insert_key total_order ys x))) [
      | Less ↦ (k, h)
      | Equal ↦ h
      | Greater ↦ (h.0, one_more ys x h.1 k)
    ]

set_from : (xs done : List XFrac) → AllByRecursion IsNumber xs → AllByRecursion IsNumber done → AllByRecursion IsNumber (fold (insert_key total_order) done xs)
set_from [] done h k = k
set_from (x ∷ xs) done h k = set_from xs (insert_key total_order done x) h.1 (one_more done x k h.0)

each_is : {A : Type 0} (P : A → Type 0) (rs : List (Result A NumFault)) → AllByRecursion (λ r. IfOk r P) rs → IfOk (each_of rs) (AllByRecursion P)
each_is P [] h = tt
each_is P (r ∷ rs) h =
    then_holds P (AllByRecursion P) r (λ a. each_of rs >>= λ all. Ok (a ∷ all)) h.0
    (λ a k. then_holds (AllByRecursion P) (AllByRecursion P) (each_of rs) (λ all. Ok (a ∷ all)) (each_is P rs h.1) (λ all l. (k, l)))

raised_is : (count : XFrac) (b : Bucket) → IsNumber count → IsSummed b → IsSummed (at_least count b)
raised_is count b h k = record { bound = k.bound; count = chosen IsNumber (compares Lt b.count count) count b.count h k.count }

all_raised : (buckets : List Bucket) → AllByRecursion IsSummed buckets → AllByRecursion IsSummed (raised buckets)
all_raised [] h = tt
all_raised (b ∷ buckets) h = (h.0, mapped_all IsSummed IsSummed (at_least b.count) (λ c k. raised_is b.count c h.0.count k) (raised buckets) (all_raised buckets h.1))

last_is : (o : Option Bucket) (buckets : List Bucket) → IfSome o IsSummed → AllByRecursion IsSummed buckets → IfSome (last_or o buckets) IsSummed
last_is o [] h k = h
last_is o (b ∷ buckets) h k = last_is (Some b) buckets k.0 k.1

bound_is : (o : Option Bucket) → IfSome o IsSummed → IsNumber (bound_or NaN o)
bound_is None h = tt
bound_is (Some b) h = h.bound

module _ (formed : FormedIsNumber) (has : NumberHasDenominator) (fraction : FractionIsFormed) (negated_is : NegatedIsNumber) (sum_is : SumIsNumber) (zero_is : IsNumber (whole_number 0)) where
  add_is : (a b : XFrac) → IsNumber a → IsNumber b → N (arithmetic Add a b)
  add_is a b h k = formed Add a b (λ is. cc is) (has a h) (has b k)

  sub_is : (a b : XFrac) → IsNumber a → IsNumber b → N (arithmetic Sub a b)
  sub_is a b h k = formed Sub a b (λ is. cc is) (has a h) (has b k)

  mul_is : (a b : XFrac) → IsNumber a → IsNumber b → N (arithmetic Mul a b)
  mul_is a b h k = formed Mul a b (λ is. cc is) (has a h) (has b k)

  div_is : (a b : XFrac) → IsNumber a → IsNumber b → N (arithmetic Div a b)
  div_is a b h k = formed Div a b (λ is. cc is) (has a h) (has b k)

  -- ---- buckets

  signed_is : (text : List ℕ) → IfOk (signed_number text) IsNumber
  signed_is [] = tt
  signed_is (first ∷ rest) =
      let P : Result XFrac NumberRefusal → Type 0 = λ r. IfOk r IsNumber in
      chosen P (first == 45) (turned (literal_answer rest)) (if first == 43 then literal_answer rest else literal_answer (first ∷ rest))
      (turned_is formed has fraction negated_is (literal_answer rest) (literal_is formed has fraction negated_is rest))
      (chosen P (first == 43) (literal_answer rest) (literal_answer (first ∷ rest)) (literal_is formed has fraction negated_is rest) (literal_is formed has fraction negated_is (first ∷ rest)))

  bucket_is : (row : Row) → R row → IfSome (bucket_of row) (λ b. IsBucket b.1)
  bucket_is row h = by (signed_number (bound_text row)) (signed_is (bound_text row))
    where
      by : (r : Result XFrac NumberRefusal) → IfOk r IsNumber → IfSome (option_map (λ (bound : XFrac). (histogram_labels row, record { bound = bound; count = row.value })) (result_ok r)) (λ (b : Names × Bucket). IsBucket b.1)
      by (Ok v) k = record { bound = k; count = h }
      by (Err e) k = tt

  -- ---- buckets of one bound each

  count_is : (buckets : List Bucket) (bound : XFrac) → AllByRecursion IsBucket buckets → N (count_at buckets bound)
  count_is buckets bound h =
      out (sum_of counts) (sum_is counts (All-from_recursion HasDenominator counts
      (mapped_all HasDenominator IsBucket (λ (b : Bucket). b.count) (λ b k. has_denominator formed has fraction negated_is b.count k.count) here (recursion_filter IsBucket (λ (b : Bucket). is_at (total_order bound) b.bound) buckets h))))
    where
      here : List Bucket
      here = filter (λ (b : Bucket). is_at (total_order bound) b.bound) buckets

      counts : List XFrac
      counts = map (λ (b : Bucket). b.count) here

      out : (o : Option XFrac) → IfSome o IsNumber → N (ok_or o Overflow)
      out (Some v) k = k
      out None k = tt

  merged_is : (buckets : List Bucket) → AllByRecursion IsBucket buckets → IfOk (merged buckets) (AllByRecursion IsSummed)
  merged_is buckets h =
      each_is IsSummed _ (mapped_all (λ r. IfOk r IsSummed) IsNumber (merged_at buckets) at (set_of total_order (map (λ (b : Bucket). b.bound) buckets))
      (set_from (map (λ (b : Bucket). b.bound) buckets) [] (mapped_all IsNumber IsBucket (λ (b : Bucket). b.bound) (λ b k. k.bound) buckets h) tt))
    where
      at : (bound : XFrac) → IsNumber bound → IfOk (merged_at buckets bound) IsSummed
      at bound k = then_holds IsNumber IsSummed (count_at buckets bound) (λ count. Ok (record { bound = bound; count = count })) (count_is buckets bound h) (λ count c. record { bound = k; count = c })

  -- ---- the quantile

  between_is : (start end rank count : XFrac) → IsNumber start → IsNumber end → IsNumber rank → IsNumber count → N (interpolated start end rank count)
  between_is start end rank count h k l m =
      then_holds IsNumber IsNumber (arithmetic Div rank count) (λ share. arithmetic Sub end start >>= λ width. arithmetic Mul width share >>= λ way. arithmetic Add start way) (div_is rank count l m)
      (λ share s. then_holds IsNumber IsNumber (arithmetic Sub end start) (λ width. arithmetic Mul width share >>= λ way. arithmetic Add start way) (sub_is end start k h)
      (λ width w. then_holds IsNumber IsNumber (arithmetic Mul width share) (λ way. arithmetic Add start way) (mul_is width share w s) (λ way y. add_is start way h y)))

  within_is : (o : Option Bucket) (b : Bucket) (rank : XFrac) → IfSome o IsSummed → IsSummed b → IsNumber rank → N (within_bucket o b rank)
  within_is None b rank h k l =
      chosen N (compares Le b.bound (whole_number 0)) (Ok b.bound) (interpolated (whole_number 0) b.bound rank b.count) k.bound (between_is (whole_number 0) b.bound rank b.count zero_is k.bound l k.count)
  within_is (Some earlier) b rank h k l =
      then_holds IsNumber IsNumber (arithmetic Sub rank earlier.count) (λ rest. arithmetic Sub b.count earlier.count >>= λ count. interpolated earlier.bound b.bound rest count) (sub_is rank earlier.count l h.count)
      (λ rest r. then_holds IsNumber IsNumber (arithmetic Sub b.count earlier.count) (λ count. interpolated earlier.bound b.bound rest count) (sub_is b.count earlier.count k.count h.count)
      (λ count c. between_is earlier.bound b.bound rest count h.bound k.bound r c))

  rank_is : (rank : XFrac) (o : Option Bucket) (buckets : List Bucket) → IsNumber rank → IfSome o IsSummed → AllByRecursion IsSummed buckets → N (at_rank rank o buckets)
  rank_is rank o [] h k l = bound_is o k
  rank_is rank o (b ∷ []) h k l = bound_is o k
  rank_is rank o (b ∷ c ∷ buckets) h k l =
      chosen N (compares Ge b.count rank) (within_bucket o b rank) (at_rank rank (Some b) (c ∷ buckets)) (within_is o b rank k l.0 h) (rank_is rank (Some b) (c ∷ buckets) h l.0 l.1)

  last_count_is : (buckets : List Bucket) → AllByRecursion IsSummed buckets → HasDenominator (last_count buckets)
  last_count_is buckets h = by (last_or None buckets) refl (last_is None buckets tt h)
    where
      by : (o : Option Bucket) → last_or None buckets ≡ o → IfSome o IsSummed → HasDenominator (last_count buckets)
      by None e k = rw e (omega arith)
      by (Some b) e k = rw e (has b.count k.count)

  rising_is : (q : XFrac) (buckets : List Bucket) → HasDenominator q → AllByRecursion IsSummed buckets → N (quantile_of_rising q buckets)
  rising_is q buckets h k =
      chosen N (is_zero (last_count buckets)) (Ok NaN) (arithmetic Mul q (last_count buckets) >>= λ rank. at_rank rank None buckets) tt
      (then_holds IsNumber IsNumber (arithmetic Mul q (last_count buckets)) (λ rank. at_rank rank None buckets) (formed Mul q (last_count buckets) (λ is. cc is) h (last_count_is buckets k))
      (λ rank r. rank_is rank None buckets r tt k))

  quantile_is : (q : XFrac) (buckets : List Bucket) → V q → AllByRecursion IsBucket buckets → N (histogram_quantile q buckets)
  quantile_is q buckets h k =
      let inner : Result XFrac NumFault = if are_finite buckets then (merged buckets >>= λ all. quantile_of_merged q all) else Ok NaN in
      chosen N (is_not_a_number q) (Ok NaN) (if compares Lt q (whole_number 0) then Ok NegInf else if compares Gt q (whole_number 1) then Ok PosInf else inner) tt
      (chosen N (compares Lt q (whole_number 0)) (Ok NegInf) (if compares Gt q (whole_number 1) then Ok PosInf else inner) tt
      (chosen N (compares Gt q (whole_number 1)) (Ok PosInf) inner tt
      (chosen N (are_finite buckets) (merged buckets >>= λ all. quantile_of_merged q all) (Ok NaN)
      (then_holds (AllByRecursion IsSummed) IsNumber (merged buckets) (λ all. quantile_of_merged q all) (merged_is buckets k)
      (λ all a. chosen N (is_whole all) (quantile_of_rising q (raised all)) (Ok NaN) (rising_is q (raised all) (has_denominator formed has fraction negated_is q h) (all_raised all a)) tt)) tt)))

  pub quantiles_have : (q : XFrac) (step : Step) → V q → HasValues step → HasValues (bucket_quantiles q step)
  quantiles_have q step h k =
      settled_outcomes (map (histogram_outcome q) (histograms step.table.rows))
      (mapped_all IsOutcome (λ (g : Names × List Bucket). AllByRecursion IsBucket g.1) (histogram_outcome q) (λ g l. or_whole (histogram_quantile q g.1) (quantile_is q g.1 h l)) (histograms step.table.rows)
      (gathered_all IsBucket (filter_map bucket_of step.table.rows) (made_all (λ (b : Names × Bucket). IsBucket b.1) R bucket_of bucket_is step.table.rows k)))
