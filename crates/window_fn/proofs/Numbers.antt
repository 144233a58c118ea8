-- The aggregations and the functions over windows give numbers where the values are numbers.
use Rattle.std.proofs.Common.{◌≡◌, ◌<◌, ◌≤◌, ◌-◌, ◌∙◌, ◌⊎◌, inl, inr, ℕ, zero, suc, Bool, true, false, refl, ap, subst, arith, List, [], ◌∷◌, length, drop, map, filter, fold, Option, Some, None, Result, Ok, Err, min}
use Rattle.std.specs.Prelude.{ℤ, pos, ◌-ℤ◌, ◌*ℤ◌, unsigned_abs, IfOk, IfSome, ◌&&◌, ◌||◌, is_ok, count_by, if◌then◌else◌, slice_index_or}
use Rattle.std.specs.List.{All, filter_map, list_all, zip}
use Rattle.std.specs.Option.{ok_or}
use Rattle.std.specs.Result.{result_ok}
use Rattle.std.proofs.lemmas.Int.{ints}
use Rattle.std.proofs.lemmas.List.{length-drop}
use Rattle.std.proofs.lemmas.List.Elements.{All-cons, All-drop, All-filter, All-head, All-map, All-nil, All-tail, All-weaker}
use Rattle.std.proofs.lemmas.List.Sums.{count_by-le-length}
use Rattle.std.proofs.lemmas.Slice.Zip.{length-zip}
use Rattle.func_table.specs.declared.table.Window.{Window}
use Rattle.func_table.specs.declared.table.Window.TheVariants.{Rate, Increase, Delta, Irate, Idelta, Deriv, PredictLinear, Changes, Resets, AvgOver, MinOver, MaxOver, SumOver, CountOver, StdvarOver, QuantileOver, LastOver, PresentOver}
use Rattle.ticks.specs.declared.moment.Ms.{Ms}
use Rattle.xfrac.specs.AnySize.{NumberIsLowest, WholeIsLowest}
use Rattle.xfrac.specs.Arithmetic.{arithmetic, mean_of, whole_number}
use Rattle.xfrac.specs.Forming.{floor_of, formed as formed_of, negated}
use Rattle.xfrac.specs.Fractions.{limit, lowest}
use Rattle.xfrac.specs.Kinds.{is_not_a_number}
use Rattle.xfrac.specs.Laws.{IsNumber, IsWhole}
use Rattle.xfrac.specs.NumberLaws.{FloorIsNumber, FormedIsNumber, FractionIsFormed, HasDenominator, MeanIsNumber, NumberHasDenominator, SumIsNumber}
use Rattle.xfrac.specs.Order.{compares}
use Rattle.xfrac.specs.Reduced.{whole_is_reduced}
use Rattle.xfrac.specs.Sequencing.{◌>>=◌, then_holds}
use Rattle.xfrac.specs.Sums.{sum_of}
use Rattle.xfrac.specs.declared.value.ArithOp.TheVariants.{Add, Sub, Mul, Div, Rem}
use Rattle.xfrac.specs.declared.value.CompareOp.TheVariants.{Lt, Gt, Ge}
use Rattle.xfrac.specs.declared.value.NumFault.{NumFault}
use Rattle.xfrac.specs.declared.value.NumFault.TheVariants.{Overflow}
use Rattle.xfrac.specs.declared.value.XFrac.{XFrac}
use Rattle.xfrac.specs.declared.value.XFrac.TheVariants.{Fin, PosInf, NegInf, NaN}
use Rattle.window_fn.specs.declared.frame.WindowFrame.{WindowFrame}
use Rattle.window_fn.specs.declared.increases.Layout.{Layout}
use Rattle.window_fn.specs.declared.slopes.Moments.{Moments}
use Rattle.window_fn.specs.Aggregates.{ascending, at_rank, average, count_of, greater, greatest, inserted, interpolated, is_before, least, lesser, low_share, overflow_alone, place_of, quantile_of, squared_distance, total, total_of_answers, variance, weighed, weighed_at}
use Rattle.window_fn.specs.Increases.{at_most, carried, change, covered, eleven_tenths, extrapolated, increase, layout_of, lost, mean_gap, rate, start_way, way_back, way_to_edge, way_to_zero}
use Rattle.window_fn.specs.NumberLaws.{AggregateIsAlike, AggregateIsNumber, AreAggregatedAlike, AreAggregatedToNumbers, IsNumberOrWhole, SecondsAreNumbers, ValueIsLowest, WindowIsAlike, WindowIsNumber}
use Rattle.window_fn.specs.Points.{begun, ended, ended_before, first_of, in_seconds, last_but_one, last_of, milliseconds, neighbours}
use Rattle.window_fn.specs.Slopes.{both, cross, derivative, extended_line, intercept_of, is_finite, moments_of, prediction, products, rise_in, slope_by_seconds, slope_of, spans, squares, value_after}
use Rattle.window_fn.specs.Steps.{changes, differ, instant_rate, last_difference, last_rise, resets}
use Rattle.window_fn.specs.Windows.{has_no_row, over_of, value_over}

abbrev answered : Option XFrac → Result XFrac NumFault
answered o = ok_or o Overflow

abbrev D : XFrac → Type 0
D = HasDenominator

-- ---- choices and lists

chosen : {A : Type 0} (P : A → Type 0) (b : Bool) (x y : A) → P x → P y → P (if b then x else y)
chosen P true x y h k = h
chosen P false x y h k = k

or_overflow : (P : XFrac → Type 0) (o : Option XFrac) → IfSome o P → IfOk (ok_or o Overflow) P
or_overflow P (Some v) h = h
or_overflow P None h = tt

overflow_kept : (P : XFrac → Type 0) (r : Result XFrac NumFault) → IfOk r P → IfOk (overflow_alone r) P
overflow_kept P (Ok v) h = h
overflow_kept P (Err f) h = tt

item_is : (P : XFrac → Type 0) (xs : List XFrac) (i : ℕ) → All P xs → P NaN → P (slice_index_or xs i NaN)
item_is P [] i all none = none
item_is P (x ∷ xs) zero all none = All-head P x xs all
item_is P (x ∷ xs) (suc i) all none = item_is P xs i (All-tail P x xs all) none

zip_all : {A B : Type 0} (P : A → Type 0) (Q : B → Type 0) (xs : List A) (ys : List B) → All P xs → All Q ys → All (λ (p : A × B). P p.0 × Q p.1) (zip xs ys)
zip_all P Q [] ys h k = All-nil (λ p. P p.0 × Q p.1)
zip_all P Q (x ∷ xs) [] h k = All-nil (λ p. P p.0 × Q p.1)
zip_all P Q (x ∷ xs) (y ∷ ys) h k =
    All-cons (λ p. P p.0 × Q p.1) (x, y) (zip xs ys) (All-head P x xs h, All-head Q y ys k) (zip_all P Q xs ys (All-tail P x xs h) (All-tail Q y ys k))

answers_all : {A : Type 0} (P : XFrac → Type 0) (Q : A → Type 0) (f : A → Result XFrac NumFault) → ((x : A) → Q x → IfOk (f x) P) → (xs : List A) → All Q xs → All P (filter_map result_ok (map f xs))
answers_all P Q f each [] h = All-nil P
answers_all P Q f each (x ∷ xs) h = by_answer (f x) (each x (All-head Q x xs h)) (answers_all P Q f each xs (All-tail Q x xs h))
  where
    by_answer : (r : Result XFrac NumFault) → IfOk r P → All P (filter_map result_ok (map f xs)) → All P (filter_map result_ok (r ∷ map f xs))
    by_answer (Ok v) here rest = All-cons P v (filter_map result_ok (map f xs)) here rest
    by_answer (Err e) here rest = rest

fold_all : (P : XFrac → Type 0) (f : XFrac → XFrac → XFrac) → ((m x : XFrac) → P m → P x → P (f m x)) → (xs : List XFrac) (m : XFrac) → P m → All P xs → P (fold f m xs)
fold_all P f each [] m h all = h
fold_all P f each (x ∷ xs) m h all = fold_all P f each xs (f m x) (each m x h (All-head P x xs all)) (All-tail P x xs all)

inserted_all : (P : XFrac → Type 0) (xs : List XFrac) (x : XFrac) → All P xs → P x → All P (inserted is_before xs x)
inserted_all P [] x all h = All-cons P x [] h (All-nil P)
inserted_all P (y ∷ ys) x all h =
    chosen (All P) (is_before x y) (x ∷ y ∷ ys) (y ∷ inserted is_before ys x) (All-cons P x (y ∷ ys) h all)
    (All-cons P y (inserted is_before ys x) (All-head P y ys all) (inserted_all P ys x (All-tail P y ys all) h))

sorted_from : (P : XFrac → Type 0) (xs done : List XFrac) → All P xs → All P done → All P (fold (inserted is_before) done xs)
sorted_from P [] done all h = h
sorted_from P (x ∷ xs) done all h = sorted_from P xs (inserted is_before done x) (All-tail P x xs all) (inserted_all P done x h (All-head P x xs all))

sorted_all : (P : XFrac → Type 0) (values : List XFrac) → All P values → All P (ascending values)
sorted_all P values all = sorted_from P values [] all (All-nil P)

negated_has : (v : XFrac) → D v → D (negated v)
negated_has (Fin f) h = h
negated_has PosInf h = omega arith
negated_has NegInf h = omega arith
negated_has NaN h = omega arith

neighbours_few : (values : List XFrac) → length (neighbours values) ≤ length values
neighbours_few values = let e = length-zip values (drop 1 values) in omega arith

counted_number : (p : XFrac × XFrac → Bool) (values : List XFrac) → length values ≤ limit → IsNumber (whole_number (count_by p (neighbours values)))
counted_number p values few = whole_is_reduced _ (omega (arith, count_by-le-length p (neighbours values), neighbours_few values))

every_span : (origin : ℤ) (times : List Ms) → All D (spans origin times)
every_span origin [] = All-nil D
every_span origin (t ∷ times) = All-cons D (milliseconds (t.0 -ℤ origin)) (spans origin times) (omega arith) (every_span origin times)

module _ (formed : FormedIsNumber) (has : NumberHasDenominator) (sum_is : SumIsNumber) (mean_is : MeanIsNumber) (floor_is : FloorIsNumber) where
  all_have : (values : List XFrac) → All IsNumber values → All D values
  all_have values all = All-weaker IsNumber D has values all

  if_has : (r : Result XFrac NumFault) → IfOk r IsNumber → IfOk r D
  if_has (Ok v) h = has v h
  if_has (Err f) h = tt

  add_is : (a b : XFrac) → D a → D b → IfOk (arithmetic Add a b) IsNumber
  add_is a b h k = formed Add a b (λ is. cc is) h k

  sub_is : (a b : XFrac) → D a → D b → IfOk (arithmetic Sub a b) IsNumber
  sub_is a b h k = formed Sub a b (λ is. cc is) h k

  mul_is : (a b : XFrac) → D a → D b → IfOk (arithmetic Mul a b) IsNumber
  mul_is a b h k = formed Mul a b (λ is. cc is) h k

  div_is : (a b : XFrac) → D a → D b → IfOk (arithmetic Div a b) IsNumber
  div_is a b h k = formed Div a b (λ is. cc is) h k

  -- ---- aggregations

  total_is : (values : List XFrac) → All D values → IfOk (total values) IsNumber
  total_is values all = or_overflow IsNumber (sum_of values) (sum_is values all)

  average_is : (values : List XFrac) → All D values → IfOk (average values) IsNumber
  average_is values all = or_overflow IsNumber (mean_of values) (mean_is values all)

  answers_total : (answers : List (Result XFrac NumFault)) → All D (filter_map result_ok answers) → IfOk (total_of_answers answers) IsNumber
  answers_total answers all =
      chosen (λ (r : Result XFrac NumFault). IfOk r IsNumber) (list_all is_ok answers) (total (filter_map result_ok answers)) (Err Overflow) (total_is (filter_map result_ok answers) all) tt

  distance_is : (mean value : XFrac) → D mean → D value → IfOk (squared_distance mean value) D
  distance_is mean value h k =
      if_has (squared_distance mean value)
      (then_holds IsNumber IsNumber (arithmetic Sub value mean) (λ distance. arithmetic Mul distance distance) (sub_is value mean k h) (λ distance d. mul_is distance distance (has distance d) (has distance d)))

  variance_is : (values : List XFrac) → All D values → IfOk (variance values) IsNumber
  variance_is values all =
      then_holds IsNumber IsNumber (average values) (λ mean. total_of_answers (map (squared_distance mean) values) >>= λ squares. arithmetic Div squares (count_of values))
      (average_is values all)
      (λ mean m. then_holds IsNumber IsNumber (total_of_answers (map (squared_distance mean) values)) (λ squares. arithmetic Div squares (count_of values))
      (answers_total (map (squared_distance mean) values) (answers_all D D (squared_distance mean) (λ value v. distance_is mean value (has mean m) v) values all))
      (λ squares s. div_is squares (count_of values) (has squares s) (omega arith)))

  share_is : (low weight : XFrac) → D low → D weight → IfOk (low_share low weight) IsNumber
  unfolding low_share
  share_is low weight h k =
      then_holds IsNumber IsNumber (arithmetic Sub (whole_number 1) weight) (λ rest. arithmetic Mul low rest) (sub_is (whole_number 1) weight (omega arith) k) (λ rest r. mul_is low rest h (has rest r))

  weighed_is : (low high weight : XFrac) → D low → D high → D weight → IfOk (weighed low high weight) IsNumber
  unfolding weighed
  weighed_is low high weight h k l =
      then_holds IsNumber IsNumber (low_share low weight) (λ below. arithmetic Mul high weight >>= λ above. arithmetic Add below above)
      (share_is low weight h l)
      (λ below b. then_holds IsNumber IsNumber (arithmetic Mul high weight) (λ above. arithmetic Add below above) (mul_is high weight k l) (λ above a. add_is below above (has below b) (has above a)))

  place_is : (sorted : List XFrac) (i : ℕ) (weight : XFrac) → All D sorted → D weight → IfOk (weighed_at sorted i weight) IsNumber
  place_is sorted i weight all h = weighed_is _ _ weight (item_is D sorted i all (omega arith)) (item_is D sorted _ all (omega arith)) h

  rank_is : (rank : XFrac) (sorted : List XFrac) → IsNumber rank → All D sorted → IfOk (at_rank rank sorted) IsNumber
  unfolding at_rank
  rank_is rank sorted h all =
      then_holds IsNumber IsNumber (arithmetic Sub rank (floor_of rank)) (λ weight. weighed_at sorted (place_of (floor_of rank)) weight)
      (sub_is rank (floor_of rank) (has rank h) (has (floor_of rank) (floor_is rank h))) (λ weight w. place_is sorted (place_of (floor_of rank)) weight all (has weight w))

  interpolated_is : (q : XFrac) (sorted : List XFrac) → D q → All D sorted → IfOk (interpolated q sorted) IsNumber
  unfolding interpolated
  interpolated_is q sorted h all =
      then_holds IsNumber IsNumber (arithmetic Mul q (whole_number (length sorted - 1))) (λ rank. at_rank rank sorted)
      (mul_is q (whole_number (length sorted - 1)) h (omega arith)) (λ rank r. rank_is rank sorted r all)

  quantile_is : (q : XFrac) (values : List XFrac) → D q → All D values → IfOk (quantile_of q values) IsNumber
  quantile_is q values h all =
      let P : Result XFrac NumFault → Type 0 = λ r. IfOk r IsNumber in
      let inner = overflow_alone (interpolated q (ascending values)) in
      chosen P (is_not_a_number q) (Ok NaN) (if compares Lt q (whole_number 0) then Ok NegInf else if compares Gt q (whole_number 1) then Ok PosInf else inner) tt
      (chosen P (compares Lt q (whole_number 0)) (Ok NegInf) (if compares Gt q (whole_number 1) then Ok PosInf else inner) tt
      (chosen P (compares Gt q (whole_number 1)) (Ok PosInf) inner tt
      (overflow_kept IsNumber (interpolated q (ascending values)) (interpolated_is q (ascending values) h (sorted_all D values all)))))

  greatest_is : (values : List XFrac) → All IsNumber values → IsNumber (greatest values)
  greatest_is values all = fold_all IsNumber greater (λ m x h k. chosen IsNumber (is_not_a_number m || compares Gt x m) x m k h) values NaN tt all

  least_is : (values : List XFrac) → All IsNumber values → IsNumber (least values)
  least_is values all = fold_all IsNumber lesser (λ m x h k. chosen IsNumber (is_not_a_number m || compares Lt x m) x m k h) values NaN tt all

  pub aggregates_are : AggregateIsNumber
  aggregates_are values all few =
      record {
        total = total_is values (all_have values all);
        average = average_is values (all_have values all);
        count = whole_is_reduced (length values) few;
        greatest = greatest_is values all;
        least = least_is values all;
        variance = variance_is values (all_have values all);
        quantile = λ q h. quantile_is q values (has q h) (all_have values all);
      }

  -- ---- the change of a window

  lost_have : (values : List XFrac) → All D values → All D (lost values)
  lost_have values all =
      let pairs = zip_all D D values (drop 1 values) all (All-drop D 1 values all) in
      let falls = filter (λ (p : XFrac × XFrac). compares Lt p.1 p.0) (neighbours values) in
      All-map D (λ (p : XFrac × XFrac). p.0) falls
      (All-weaker (λ (p : XFrac × XFrac). D p.0 × D p.1) (λ (p : XFrac × XFrac). D p.0) (λ p h. h.0) falls (All-filter (λ (p : XFrac × XFrac). compares Lt p.1 p.0) (λ (p : XFrac × XFrac). D p.0 × D p.1) (neighbours values) pairs))

  change_is : (is_counter : Bool) (values : List XFrac) → All D values → IfOk (change is_counter values) IsNumber
  change_is is_counter values all =
      let made_good = if is_counter then lost values else [] in
      let more : All D made_good = chosen (All D) is_counter (lost values) [] (lost_have values all) (All-nil D) in
      total_is _ (All-cons D (last_of values) (negated (first_of values) ∷ made_good) (item_is D values _ all (omega arith))
      (All-cons D (negated (first_of values)) made_good (negated_has (first_of values) (item_is D values 0 all (omega arith))) more))

  record IsLaid (layout : Layout) : Type 0 where
    sampled_has : D layout.sampled
    gap_has : D layout.gap
    start_has : D layout.to_start
    end_has : D layout.to_end

  layout_is : (times : List Ms) (frame : WindowFrame) → IfOk (layout_of times frame) IsLaid
  unfolding layout_of
  layout_is times frame =
      let sampled = milliseconds (ended times -ℤ begun times) in
      then_holds IsNumber IsLaid (mean_gap times sampled)
      (λ gap. Ok (record {
        sampled = sampled;
        gap = gap;
        to_start = milliseconds (begun times -ℤ (frame.moment.0 -ℤ frame.range.0));
        to_end = milliseconds (frame.moment.0 -ℤ ended times);
      }))
      (div_is sampled (whole_number (length times - 1)) (omega arith) (omega arith))
      (λ gap g. record { sampled_has = omega arith; gap_has = has gap g; start_has = omega arith; end_has = omega arith })

  edge_is : (way gap : XFrac) → D way → D gap → IfOk (way_to_edge way gap) D
  unfolding way_to_edge
  edge_is way gap h k =
      then_holds IsNumber D (arithmetic Mul gap eleven_tenths) (λ far. if compares Ge way far then arithmetic Div gap (whole_number 2) else Ok way)
      (mul_is gap eleven_tenths k (omega arith))
      (λ far f. chosen (λ (r : Result XFrac NumFault). IfOk r D) (compares Ge way far) (arithmetic Div gap (whole_number 2)) (Ok way) (if_has (arithmetic Div gap (whole_number 2)) (div_is gap (whole_number 2) k (omega arith))) h)

  zero_is : (sampled first change : XFrac) → D sampled → D first → D change → IfOk (way_to_zero sampled first change) D
  unfolding way_to_zero
  zero_is sampled first change h k l =
      then_holds IsNumber D (arithmetic Div first change) (λ share. arithmetic Mul sampled share)
      (div_is first change k l) (λ share s. if_has (arithmetic Mul sampled share) (mul_is sampled share h (has share s)))

  most_is : (way : XFrac) (most : Result XFrac NumFault) → D way → IfOk most D → IfOk (at_most way most) D
  unfolding at_most
  most_is way most h k = then_holds D D most (λ m. Ok (if compares Gt way m then m else way)) k (λ m l. chosen D (compares Gt way m) m way l h)

  back_is : (is_counter : Bool) (way sampled first change : XFrac) → D way → D sampled → D first → D change → IfOk (way_back is_counter way sampled first change) D
  back_is is_counter way sampled first change h k l m =
      chosen (λ (r : Result XFrac NumFault). IfOk r D) (is_counter && (compares Gt change (whole_number 0) && compares Ge first (whole_number 0))) (at_most way (way_to_zero sampled first change)) (Ok way)
      (most_is way (way_to_zero sampled first change) h (zero_is sampled first change k l m)) h

  covered_is : (sampled to_start to_end : XFrac) → D sampled → D to_start → D to_end → IfOk (covered sampled to_start to_end) D
  unfolding covered
  covered_is sampled to_start to_end h k l =
      then_holds IsNumber D (arithmetic Add sampled to_start) (λ longer. arithmetic Add longer to_end)
      (add_is sampled to_start h k) (λ longer s. if_has (arithmetic Add longer to_end) (add_is longer to_end (has longer s) l))

  extrapolated_is : (change sampled to_start to_end : XFrac) → D change → D sampled → D to_start → D to_end → IfOk (extrapolated change sampled to_start to_end) IsNumber
  unfolding extrapolated
  extrapolated_is change sampled to_start to_end h k l m =
      then_holds D IsNumber (covered sampled to_start to_end) (λ all. arithmetic Div all sampled >>= λ factor. arithmetic Mul change factor)
      (covered_is sampled to_start to_end k l m)
      (λ all a. then_holds IsNumber IsNumber (arithmetic Div all sampled) (λ factor. arithmetic Mul change factor) (div_is all sampled a k) (λ factor f. mul_is change factor h (has factor f)))

  start_is : (is_counter : Bool) (layout : Layout) (first change : XFrac) → IsLaid layout → D first → D change → IfOk (start_way is_counter layout first change) D
  unfolding start_way
  start_is is_counter layout first change laid h k =
      then_holds D D (way_to_edge layout.to_start layout.gap) (λ way. way_back is_counter way layout.sampled first change)
      (edge_is layout.to_start layout.gap laid.start_has laid.gap_has) (λ way w. back_is is_counter way layout.sampled first change w laid.sampled_has h k)

  carried_is : (is_counter : Bool) (layout : Layout) (first change : XFrac) → IsLaid layout → D first → D change → IfOk (carried is_counter layout first change) IsNumber
  unfolding carried
  carried_is is_counter layout first change laid h k =
      then_holds D IsNumber (start_way is_counter layout first change) (λ to_start. way_to_edge layout.to_end layout.gap >>= λ to_end. extrapolated change layout.sampled to_start to_end)
      (start_is is_counter layout first change laid h k)
      (λ to_start s. then_holds D IsNumber (way_to_edge layout.to_end layout.gap) (λ to_end. extrapolated change layout.sampled to_start to_end)
      (edge_is layout.to_end layout.gap laid.end_has laid.gap_has) (λ to_end e. extrapolated_is change layout.sampled to_start to_end k laid.sampled_has s e))

  increase_is : (is_counter : Bool) (times : List Ms) (values : List XFrac) (frame : WindowFrame) → All D values → IfOk (increase is_counter times values frame) IsNumber
  unfolding increase
  increase_is is_counter times values frame all =
      then_holds IsNumber IsNumber (change is_counter values) (λ change. layout_of times frame >>= λ layout. carried is_counter layout (first_of values) change)
      (change_is is_counter values all)
      (λ change c. then_holds IsLaid IsNumber (layout_of times frame) (λ layout. carried is_counter layout (first_of values) change)
      (layout_is times frame) (λ layout laid. carried_is is_counter layout (first_of values) change laid (item_is D values 0 all (omega arith)) (has change c)))

  seconds_is : (span : XFrac) → D span → IfOk (in_seconds span) IsNumber
  seconds_is span h = div_is span (whole_number 1000) h (omega arith)

  rate_is : (times : List Ms) (values : List XFrac) (frame : WindowFrame) → All D values → IfOk (rate times values frame) IsNumber
  unfolding rate
  rate_is times values frame all =
      then_holds IsNumber IsNumber (increase true times values frame) (λ increase. in_seconds (milliseconds frame.range.0) >>= λ range. arithmetic Div increase range)
      (increase_is true times values frame all)
      (λ increase i. then_holds IsNumber IsNumber (in_seconds (milliseconds frame.range.0)) (λ range. arithmetic Div increase range)
      (seconds_is (milliseconds frame.range.0) (omega arith)) (λ range r. div_is increase range (has increase i) (has range r)))

  -- ---- the last two samples

  difference_is : (values : List XFrac) → All D values → IfOk (last_difference values) IsNumber
  difference_is values all = sub_is (last_of values) (last_but_one values) (item_is D values _ all (omega arith)) (item_is D values _ all (omega arith))

  rise_is : (values : List XFrac) → All D values → IfOk (last_rise values) D
  rise_is values all =
      chosen (λ (r : Result XFrac NumFault). IfOk r D) (compares Lt (last_of values) (last_but_one values)) (Ok (last_of values)) (last_difference values)
      (item_is D values _ all (omega arith)) (if_has (last_difference values) (difference_is values all))

  instant_is : (times : List Ms) (values : List XFrac) → All D values → IfOk (instant_rate times values) IsNumber
  unfolding instant_rate
  instant_is times values all =
      let way = milliseconds (ended times -ℤ ended_before times) in
      then_holds D IsNumber (last_rise values) (λ rise. in_seconds way >>= λ span. arithmetic Div rise span)
      (rise_is values all)
      (λ rise r. then_holds IsNumber IsNumber (in_seconds way) (λ span. arithmetic Div rise span) (seconds_is way (omega arith)) (λ span s. div_is rise span r (has span s)))

  -- ---- the line through the samples

  record AreMoments (sums : Moments) : Type 0 where
    x_has : D sums.x
    y_has : D sums.y
    xy_has : D sums.xy
    xx_has : D sums.xx

  both_are : (a b : Result XFrac NumFault) → IfOk a IsNumber → IfOk b IsNumber → IfOk (both a b) (λ p. D p.0 × D p.1)
  both_are a b h k =
      then_holds IsNumber (λ p. D p.0 × D p.1) a (λ first. b >>= λ second. Ok (first, second)) h
      (λ first f. then_holds IsNumber (λ p. D p.0 × D p.1) b (λ second. Ok (first, second)) k (λ second s. (has first f, has second s)))

  products_total : (xs ys : List XFrac) → All D xs → All D ys → IfOk (total_of_answers (products xs ys)) IsNumber
  products_total xs ys h k =
      answers_total (products xs ys) (answers_all D (λ (p : XFrac × XFrac). D p.0 × D p.1) (λ (p : XFrac × XFrac). arithmetic Mul p.0 p.1) (λ p d. if_has (arithmetic Mul p.0 p.1) (mul_is p.0 p.1 d.0 d.1)) (zip xs ys) (zip_all D D xs ys h k))

  squares_total : (xs : List XFrac) → All D xs → IfOk (total_of_answers (squares xs)) IsNumber
  squares_total xs h = answers_total (squares xs) (answers_all D D (λ x. arithmetic Mul x x) (λ x d. if_has (arithmetic Mul x x) (mul_is x x d d)) xs h)

  moments_are : (xs ys : List XFrac) → All D xs → All D ys → IfOk (moments_of xs ys) AreMoments
  unfolding moments_of
  moments_are xs ys h k =
      let pair : XFrac × XFrac → Type 0 = λ p. D p.0 × D p.1 in
      then_holds pair AreMoments (both (total xs) (total ys)) (λ first. both (total_of_answers (products xs ys)) (total_of_answers (squares xs)) >>= λ second. Ok (record { x = first.0; y = first.1; xy = second.0; xx = second.1 }))
      (both_are (total xs) (total ys) (total_is xs h) (total_is ys k))
      (λ first f. then_holds pair AreMoments (both (total_of_answers (products xs ys)) (total_of_answers (squares xs))) (λ second. Ok (record { x = first.0; y = first.1; xy = second.0; xx = second.1 }))
      (both_are (total_of_answers (products xs ys)) (total_of_answers (squares xs)) (products_total xs ys h k) (squares_total xs h))
      (λ second s. record { x_has = f.0; y_has = f.1; xy_has = s.0; xx_has = s.1 }))

  cross_is : (k p a b : XFrac) → D k → D p → D a → D b → IfOk (cross k p a b) IsNumber
  unfolding cross
  cross_is k p a b hk hp ha hb =
      then_holds IsNumber IsNumber (arithmetic Mul k p) (λ scaled. arithmetic Mul a b >>= λ product. arithmetic Sub scaled product)
      (mul_is k p hk hp)
      (λ scaled s. then_holds IsNumber IsNumber (arithmetic Mul a b) (λ product. arithmetic Sub scaled product) (mul_is a b ha hb) (λ product t. sub_is scaled product (has scaled s) (has product t)))

  slope_is : (k : XFrac) (sums : Moments) → D k → AreMoments sums → IfOk (slope_of k sums) IsNumber
  unfolding slope_of
  slope_is k sums h m =
      then_holds IsNumber IsNumber (cross k sums.xy sums.x sums.y) (λ joint. cross k sums.xx sums.x sums.x >>= λ spread. arithmetic Div joint spread)
      (cross_is k sums.xy sums.x sums.y h m.xy_has m.x_has m.y_has)
      (λ joint j. then_holds IsNumber IsNumber (cross k sums.xx sums.x sums.x) (λ spread. arithmetic Div joint spread)
      (cross_is k sums.xx sums.x sums.x h m.xx_has m.x_has m.x_has) (λ spread s. div_is joint spread (has joint j) (has spread s)))

  intercept_is : (k : XFrac) (sums : Moments) (slope : XFrac) → D k → AreMoments sums → D slope → IfOk (intercept_of k sums slope) IsNumber
  unfolding intercept_of
  intercept_is k sums slope h m l =
      then_holds IsNumber IsNumber (arithmetic Mul slope sums.x) (λ fall. arithmetic Sub sums.y fall >>= λ rest. arithmetic Div rest k)
      (mul_is slope sums.x l m.x_has)
      (λ fall f. then_holds IsNumber IsNumber (arithmetic Sub sums.y fall) (λ rest. arithmetic Div rest k) (sub_is sums.y fall m.y_has (has fall f)) (λ rest r. div_is rest k (has rest r) h))

  rise_in_is : (slope seconds : XFrac) → D slope → D seconds → IfOk (rise_in slope seconds) IsNumber
  unfolding rise_in
  rise_in_is slope seconds h k =
      then_holds IsNumber IsNumber (arithmetic Mul slope (whole_number 1000)) (λ by_second. arithmetic Mul by_second seconds)
      (mul_is slope (whole_number 1000) h (omega arith)) (λ by_second b. mul_is by_second seconds (has by_second b) k)

  after_is : (k : XFrac) (sums : Moments) (slope seconds : XFrac) → D k → AreMoments sums → D slope → D seconds → IfOk (value_after k sums slope seconds) IsNumber
  unfolding value_after
  after_is k sums slope seconds h m l n =
      then_holds IsNumber IsNumber (intercept_of k sums slope) (λ intercept. rise_in slope seconds >>= λ rise. arithmetic Add intercept rise)
      (intercept_is k sums slope h m l)
      (λ intercept i. then_holds IsNumber IsNumber (rise_in slope seconds) (λ rise. arithmetic Add intercept rise) (rise_in_is slope seconds l n) (λ rise r. add_is intercept rise (has intercept i) (has rise r)))

  slope_seconds_is : (times : List Ms) (values : List XFrac) → All D values → IfOk (slope_by_seconds times values) IsNumber
  unfolding slope_by_seconds
  slope_seconds_is times values all =
      let k = whole_number (length values) in
      then_holds AreMoments IsNumber (moments_of (spans (begun times) times) values) (λ sums. slope_of k sums >>= λ slope. arithmetic Mul slope (whole_number 1000))
      (moments_are (spans (begun times) times) values (every_span (begun times) times) all)
      (λ sums m. then_holds IsNumber IsNumber (slope_of k sums) (λ slope. arithmetic Mul slope (whole_number 1000)) (slope_is k sums (omega arith) m) (λ slope s. mul_is slope (whole_number 1000) (has slope s) (omega arith)))

  derivative_is : (times : List Ms) (values : List XFrac) → All D values → IfOk (derivative times values) IsNumber
  derivative_is times values all =
      chosen (λ (r : Result XFrac NumFault). IfOk r IsNumber) (list_all is_finite values) (slope_by_seconds times values) (Ok NaN) (slope_seconds_is times values all) tt

  line_is : (instant : ℤ) (times : List Ms) (values : List XFrac) (seconds : XFrac) → All D values → D seconds → IfOk (extended_line instant times values seconds) IsNumber
  unfolding extended_line
  line_is instant times values seconds all h =
      let k = whole_number (length values) in
      then_holds AreMoments IsNumber (moments_of (spans instant times) values) (λ sums. slope_of k sums >>= λ slope. value_after k sums slope seconds)
      (moments_are (spans instant times) values (every_span instant times) all)
      (λ sums m. then_holds IsNumber IsNumber (slope_of k sums) (λ slope. value_after k sums slope seconds) (slope_is k sums (omega arith) m) (λ slope s. after_is k sums slope seconds (omega arith) m (has slope s) h))

  prediction_is : (instant : ℤ) (times : List Ms) (values : List XFrac) (seconds : XFrac) → All D values → D seconds → IfOk (prediction instant times values seconds) IsNumber
  prediction_is instant times values seconds all h =
      chosen (λ (r : Result XFrac NumFault). IfOk r IsNumber) (list_all is_finite values) (extended_line instant times values seconds) (Ok NaN) (line_is instant times values seconds all h) tt

  -- ---- all functions

  value_is : (f : Window) (times : List Ms) (values : List XFrac) (frame : WindowFrame) (arg : XFrac) → All IsNumber values → length values ≤ limit → IsNumber arg → IfOk (value_over f times values frame arg) IsNumber
  value_is Rate times values frame arg all few h = rate_is times values frame (all_have values all)
  value_is Increase times values frame arg all few h = increase_is true times values frame (all_have values all)
  value_is Delta times values frame arg all few h = increase_is false times values frame (all_have values all)
  value_is Irate times values frame arg all few h = instant_is times values (all_have values all)
  value_is Idelta times values frame arg all few h = difference_is values (all_have values all)
  value_is Deriv times values frame arg all few h = derivative_is times values (all_have values all)
  value_is PredictLinear times values frame arg all few h = prediction_is frame.eval.0 times values arg (all_have values all) (has arg h)
  value_is Changes times values frame arg all few h = counted_number (λ p. differ p.0 p.1) values few
  value_is Resets times values frame arg all few h = counted_number (λ p. compares Lt p.1 p.0) values few
  value_is AvgOver times values frame arg all few h = average_is values (all_have values all)
  value_is MinOver times values frame arg all few h = least_is values all
  value_is MaxOver times values frame arg all few h = greatest_is values all
  value_is SumOver times values frame arg all few h = total_is values (all_have values all)
  value_is CountOver times values frame arg all few h = whole_is_reduced (length values) few
  value_is StdvarOver times values frame arg all few h = variance_is values (all_have values all)
  value_is QuantileOver times values frame arg all few h = quantile_is arg values (has arg h) (all_have values all)
  value_is LastOver times values frame arg all few h = item_is IsNumber values _ all tt
  value_is PresentOver times values frame arg all few h = whole_is_reduced 1 (omega arith)

  pub windows_are : WindowIsNumber
  windows_are f times values frame arg all few h =
      chosen (λ (r : Result (Option XFrac) NumFault). IfOk r (λ row. IfSome row IsNumber)) (has_no_row f values) (Ok None) (overflow_alone (value_over f times values frame arg) >>= λ value. Ok (Some value)) tt
      (then_holds IsNumber (λ row. IfSome row IsNumber) (overflow_alone (value_over f times values frame arg)) (λ value. Ok (Some value))
      (overflow_kept IsNumber (value_over f times values frame arg) (value_is f times values frame arg all few h)) (λ value v. v))

  -- ---- numbers and whole numbers of any size

  whole_has : (v : XFrac) → IsWhole v → D v
  whole_has (Fin f) h = omega (arith, h)
  whole_has PosInf h = absurd h
  whole_has NegInf h = absurd h
  whole_has NaN h = absurd h

  alike_has : (v : XFrac) → IsNumberOrWhole v → D v
  alike_has v (inl h) = has v h
  alike_has v (inr h) = whole_has v h

  all_alike : (values : List XFrac) → All IsNumberOrWhole values → All D values
  all_alike values all = All-weaker IsNumberOrWhole D alike_has values all

  if_alike : (r : Result XFrac NumFault) → IfOk r IsNumber → IfOk r IsNumberOrWhole
  if_alike (Ok v) h = inl h
  if_alike (Err f) h = tt

  greatest_alike : (values : List XFrac) → All IsNumberOrWhole values → IsNumberOrWhole (greatest values)
  greatest_alike values all = fold_all IsNumberOrWhole greater (λ m x h k. chosen IsNumberOrWhole (is_not_a_number m || compares Gt x m) x m k h) values NaN (inl tt) all

  least_alike : (values : List XFrac) → All IsNumberOrWhole values → IsNumberOrWhole (least values)
  least_alike values all = fold_all IsNumberOrWhole lesser (λ m x h k. chosen IsNumberOrWhole (is_not_a_number m || compares Lt x m) x m k h) values NaN (inl tt) all

  pub aggregates_alike : AggregateIsAlike
  aggregates_alike values all =
      record {
        total = total_is values (all_alike values all);
        average = average_is values (all_alike values all);
        greatest = greatest_alike values all;
        least = least_alike values all;
        variance = variance_is values (all_alike values all);
        quantile = λ q h. quantile_is q values (alike_has q h) (all_alike values all);
      }

  value_alike : (f : Window) (times : List Ms) (values : List XFrac) (frame : WindowFrame) (arg : XFrac) → All IsNumberOrWhole values → IsNumberOrWhole arg → IfOk (value_over f times values frame arg) IsNumberOrWhole
  value_alike Rate times values frame arg all h = if_alike (rate times values frame) (rate_is times values frame (all_alike values all))
  value_alike Increase times values frame arg all h = if_alike (increase true times values frame) (increase_is true times values frame (all_alike values all))
  value_alike Delta times values frame arg all h = if_alike (increase false times values frame) (increase_is false times values frame (all_alike values all))
  value_alike Irate times values frame arg all h = if_alike (instant_rate times values) (instant_is times values (all_alike values all))
  value_alike Idelta times values frame arg all h = if_alike (last_difference values) (difference_is values (all_alike values all))
  value_alike Deriv times values frame arg all h = if_alike (derivative times values) (derivative_is times values (all_alike values all))
  value_alike PredictLinear times values frame arg all h =
      if_alike (prediction frame.eval.0 times values arg) (prediction_is frame.eval.0 times values arg (all_alike values all) (alike_has arg h))
  value_alike Changes times values frame arg all h = inr refl
  value_alike Resets times values frame arg all h = inr refl
  value_alike AvgOver times values frame arg all h = if_alike (average values) (average_is values (all_alike values all))
  value_alike MinOver times values frame arg all h = least_alike values all
  value_alike MaxOver times values frame arg all h = greatest_alike values all
  value_alike SumOver times values frame arg all h = if_alike (total values) (total_is values (all_alike values all))
  value_alike CountOver times values frame arg all h = inr refl
  value_alike StdvarOver times values frame arg all h = if_alike (variance values) (variance_is values (all_alike values all))
  value_alike QuantileOver times values frame arg all h = if_alike (quantile_of arg values) (quantile_is arg values (alike_has arg h) (all_alike values all))
  value_alike LastOver times values frame arg all h = item_is IsNumberOrWhole values _ all (inl tt)
  value_alike PresentOver times values frame arg all h = inr refl

  pub windows_alike : WindowIsAlike
  windows_alike f times values frame arg all h =
      chosen (λ (r : Result (Option XFrac) NumFault). IfOk r (λ row. IfSome row IsNumberOrWhole)) (has_no_row f values) (Ok None) (overflow_alone (value_over f times values frame arg) >>= λ value. Ok (Some value)) tt
      (then_holds IsNumberOrWhole (λ row. IfSome row IsNumberOrWhole) (overflow_alone (value_over f times values frame arg)) (λ value. Ok (Some value))
      (overflow_kept IsNumberOrWhole (value_over f times values frame arg) (value_alike f times values frame arg all h)) (λ value v. v))

-- ---- seconds

module _ (fraction : FractionIsFormed) (formed : FormedIsNumber) where
  in_thousandths : (t : ℤ) → unsigned_abs t ≤ limit → in_seconds (milliseconds t) ≡ answered (Some (Fin (lowest t 1000)))
  in_thousandths t few =
      let same : t *ℤ pos 1 ≡ t = omega (arith, ints) in
      ap (λ (n : ℤ). answered (formed_of n 1000)) same ∙ ap answered (fraction t 1000 (omega arith) few (omega arith))

  pub seconds_are : SecondsAreNumbers
  seconds_are t few = (in_thousandths t few, subst (λ r. IfOk r IsNumber) (in_thousandths t few) (formed Div (milliseconds t) (whole_number 1000) (λ is. cc is) (omega arith) (omega arith)))

-- ---- numbers and whole numbers of any size

pub value_is_lowest : NumberIsLowest → WholeIsLowest → ValueIsLowest
value_is_lowest number whole v (inl is) = number v is
value_is_lowest number whole v (inr is) = whole v is
