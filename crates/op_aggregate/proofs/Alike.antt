-- What is made of values doesn't depend on their order.
use Rattle.std.proofs.Common.{◌≡◌, ◌∙◌, Bool, true, false, List, [], ◌∷◌, map, refl, sym, ap, Option, Some, None}
use Rattle.std.specs.Prelude.{◌&&◌, Result, Ok, Err, IfOk, IfSome, if◌then◌else◌, is_ok}
use Rattle.std.specs.List.{All, AllByRecursion, cons_option, filter_map, list_all}
use Rattle.std.specs.Option.{ok_or}
use Rattle.std.specs.Result.{result_ok}
use Rattle.std.proofs.lemmas.List.Elements.{All-from_recursion, recursion_from_All}
use Rattle.func_table.specs.declared.table.Aggregate.{Aggregate}
use Rattle.func_table.specs.declared.table.Aggregate.TheVariants as aggregate
use Rattle.promql_meaning.specs.Aggregations.{aggregate_of}
use Rattle.step_table.specs.Operators.{some_value}
use Rattle.step_table.specs.Shuffles.{Shuffled, none, kept, swapped, joined}
use Rattle.step_table.specs.Shuffling.{chosen_shuffled, mapped_shuffled, to_permutation}
use Rattle.window_fn.specs.Aggregates.{average, count_of, squared_distance, total, total_of_answers, variance}
use Rattle.window_fn.specs.Laws.{AreAggregatedAlike, OrderDoesntMatter}
use Rattle.xfrac.specs.Arithmetic.{arithmetic, mean_of}
use Rattle.xfrac.specs.Laws.{IsNumber, SumIgnoresOrder}
use Rattle.xfrac.specs.NumberLaws.{ArithmeticIsNumber, HasDenominator, MeanIsNumber, NumberHasDenominator}
use Rattle.xfrac.specs.Sequencing.{◌>>=◌}
use Rattle.xfrac.specs.declared.value.ArithOp.TheVariants.{Sub, Mul, Div}
use Rattle.xfrac.specs.declared.value.NumFault.{NumFault}
use Rattle.xfrac.specs.declared.value.NumFault.TheVariants.{Overflow}
use Rattle.xfrac.specs.declared.value.XFrac.{XFrac}

and_swapped : (a b c : Bool) → (a && (b && c)) ≡ (b && (a && c))
and_swapped true true c = refl
and_swapped true false c = refl
and_swapped false true c = refl
and_swapped false false c = refl

all_shuffled : {A : Type 0} (p : A → Bool) (xs ys : List A) → Shuffled xs ys → list_all p xs ≡ list_all p ys
all_shuffled p _ _ none = refl
all_shuffled p _ _ (kept x xs ys s) = ap (λ b. p x && b) (all_shuffled p xs ys s)
all_shuffled p _ _ (swapped x y xs) = and_swapped (p x) (p y) (list_all p xs)
all_shuffled p _ _ (joined xs ys zs s t) = all_shuffled p xs ys s ∙ all_shuffled p ys zs t

-- ---- sums of answers

total_alike : SumIgnoresOrder → (xs ys : List (Result XFrac NumFault)) → All IsNumber (filter_map result_ok xs) → Shuffled xs ys → total_of_answers ys ≡ total_of_answers xs
total_alike order xs ys n s =
    let same : total (filter_map result_ok ys) ≡ total (filter_map result_ok xs) = ap (λ (o : Option XFrac). ok_or o Overflow) (order (filter_map result_ok xs) (filter_map result_ok ys) n (to_permutation (filter_map result_ok xs) (filter_map result_ok ys) (chosen_shuffled result_ok xs ys s))) in
    ap (λ (b : Bool). if b then total (filter_map result_ok ys) else Err Overflow) (sym (all_shuffled is_ok xs ys s))
    ∙ ap (λ (r : Result XFrac NumFault). if list_all is_ok xs then r else Err Overflow) same

-- ---- distances from the mean

square_number : ArithmeticIsNumber → (mean x : XFrac) → IsNumber mean → IsNumber x → IfOk (squared_distance mean x) IsNumber
square_number law mean x m n = next (arithmetic Sub x mean) (law Sub x mean n m)
  where
    next : (r : Result XFrac NumFault) → IfOk r IsNumber → IfOk (r >>= (λ d. arithmetic Mul d d)) IsNumber
    next (Ok d) k = law Mul d d k k
    next (Err e) k = tt

squares_numbers : ArithmeticIsNumber → (mean : XFrac) (xs : List XFrac) → IsNumber mean → AllByRecursion IsNumber xs → AllByRecursion IsNumber (filter_map result_ok (map (squared_distance mean) xs))
squares_numbers law mean [] m a = tt
squares_numbers law mean (x ∷ xs) m a = one (squared_distance mean x) (square_number law mean x m a.0) (filter_map result_ok (map (squared_distance mean) xs)) (squares_numbers law mean xs m a.1)
  where
    one : (r : Result XFrac NumFault) → IfOk r IsNumber → (rest : List XFrac) → AllByRecursion IsNumber rest → AllByRecursion IsNumber (cons_option (result_ok r) rest)
    one (Ok v) k rest b = (k, b)
    one (Err e) k rest b = b

mean_number : MeanIsNumber → NumberHasDenominator → (xs : List XFrac) → All IsNumber xs → IfOk (average xs) IsNumber
mean_number law whole xs a = told (mean_of xs) (law xs (All-from_recursion HasDenominator xs (wholes xs (recursion_from_All IsNumber xs a))))
  where
    wholes : (xs : List XFrac) → AllByRecursion IsNumber xs → AllByRecursion HasDenominator xs
    wholes [] a = tt
    wholes (x ∷ xs) a = (whole x a.0, wholes xs a.1)

    told : (o : Option XFrac) → IfSome o IsNumber → IfOk (ok_or o Overflow) IsNumber
    told None k = tt
    told (Some v) k = k

-- ---- aggregations

module _ (order : SumIgnoresOrder) (law : ArithmeticIsNumber) (means : MeanIsNumber) (whole : NumberHasDenominator) where
  variance_alike : (xs ys : List XFrac) → All IsNumber xs → Shuffled xs ys → AreAggregatedAlike xs ys → variance ys ≡ variance xs
  variance_alike xs ys n s same =
      ap (λ (r : Result XFrac NumFault). r >>= (λ mean. total_of_answers (map (squared_distance mean) ys) >>= (λ squares. arithmetic Div squares (count_of ys)))) same.avg
      ∙ spread (average xs) (mean_number means whole xs n)
    where
      squares : (mean : XFrac) → IsNumber mean → total_of_answers (map (squared_distance mean) ys) ≡ total_of_answers (map (squared_distance mean) xs)
      squares mean m =
          total_alike order (map (squared_distance mean) xs) (map (squared_distance mean) ys)
          (All-from_recursion IsNumber (filter_map result_ok (map (squared_distance mean) xs)) (squares_numbers law mean xs m (recursion_from_All IsNumber xs n)))
          (mapped_shuffled (squared_distance mean) xs ys s)

      spread : (r : Result XFrac NumFault) → IfOk r IsNumber
          → (r >>= (λ mean. total_of_answers (map (squared_distance mean) ys) >>= (λ squares. arithmetic Div squares (count_of ys)))) ≡ (r >>= (λ mean. total_of_answers (map (squared_distance mean) xs) >>= (λ squares. arithmetic Div squares (count_of xs))))
      spread (Err e) m = refl
      spread (Ok mean) m = λ i. squares mean m i >>= (λ all. arithmetic Div all (same.count i))

  pub aggregate_alike : OrderDoesntMatter → (f : Aggregate) (q : XFrac) (xs ys : List XFrac) → All IsNumber xs → Shuffled xs ys → aggregate_of f q xs ≡ aggregate_of f q ys
  aggregate_alike alike f q xs ys n s = one f (alike xs ys n (to_permutation xs ys s))
    where
      one : (f : Aggregate) → AreAggregatedAlike xs ys → aggregate_of f q xs ≡ aggregate_of f q ys
      one aggregate.Sum same = ap some_value (sym same.sum)
      one aggregate.Avg same = ap some_value (sym same.avg)
      one aggregate.Min same = ap (λ (v : XFrac). Ok (Some v)) (sym same.min)
      one aggregate.Max same = ap (λ (v : XFrac). Ok (Some v)) (sym same.max)
      one aggregate.Count same = ap (λ (v : XFrac). Ok (Some v)) (sym same.count)
      one aggregate.Group same = refl
      one aggregate.Stdvar same = ap some_value (sym (variance_alike xs ys n s same))
      one aggregate.Quantile same = ap some_value (sym (same.quantiles q))
      one aggregate.TopK same = refl
      one aggregate.BottomK same = refl
      one aggregate.CountValues same = refl
