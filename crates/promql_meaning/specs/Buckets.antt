-- histogram_quantile: a quantile of the counts in a histogram's buckets. (Prometheus querying, "Functions"; its edge cases, its
-- notes and that every fall of the counts is raised are this project's own.)
use Rattle.std.specs.Prelude.{ℕ, Bool, true, false, ◌==◌, ◌&&◌, not, List, [], ◌∷◌, map, filter, length, nat_lt, codes, Option, None, Some, Result, Ok, Err, if◌then◌else◌}
use Rattle.std.specs.BTreeMap.{is_at}
use Rattle.std.specs.List.{filter_map, last_or, list_all, list_any}
use Rattle.std.specs.Option.{option_map}
use Rattle.std.specs.Result.{result_ok}
use Rattle.label_set.specs.Labels.{value_of, without}
use Rattle.frac_text.specs.Readings.{literal_answer, turned}
use Rattle.frac_text.specs.declared.refusal.NumberRefusal.{NumberRefusal}
use Rattle.frac_text.specs.declared.refusal.NumberRefusal.TheVariants.{BadNumber}
use Rattle.window_fn.specs.Aggregates.{total}
use Rattle.window_fn.specs.Slopes.{is_finite}
use Rattle.xfrac.specs.Arithmetic.{arithmetic, whole_number}
use Rattle.xfrac.specs.Kinds.{is_not_a_number, is_positive_infinity, is_zero}
use Rattle.xfrac.specs.Order.{compares, total_order}
use Rattle.xfrac.specs.Sequencing.{◌>>=◌}
use Rattle.xfrac.specs.declared.value.ArithOp.TheVariants.{Add, Sub, Mul, Div}
use Rattle.xfrac.specs.declared.value.CompareOp.TheVariants.{Lt, Le, Gt, Ge}
use Rattle.xfrac.specs.declared.value.NumFault.{NumFault}
use Rattle.xfrac.specs.declared.value.XFrac.{XFrac}
use Rattle.xfrac.specs.declared.value.XFrac.TheVariants.{PosInf, NegInf, NaN}
use Rattle.step_table.specs.Groups.{Names, gathered}
use Rattle.step_table.specs.Operators.{some_value}
use Rattle.step_table.specs.Outcomes.{taken, settled}
use Rattle.step_table.specs.Unions.{set_of}
use Rattle.step_table.specs.declared.marks.Note.{Note}
use Rattle.step_table.specs.declared.marks.Note.TheVariants.{BadBucket, FixedBuckets}
use Rattle.step_table.specs.declared.outcomes.Outcome.{Outcome}
use Rattle.step_table.specs.declared.step.Row.{Row}
use Rattle.step_table.specs.declared.step.Step.{Step}
use Rattle.promql_meaning.specs.declared.buckets.Bucket.{Bucket}
use Rattle.promql_meaning.specs.Elements.{nameless}
use Rattle.promql_meaning.specs.Outcomes.{is_outside, range_notes, with_notes}

-- ---- buckets

abbrev pub bucket_label : List ℕ
bucket_label = codes "le"

-- the text of a row's bound; one that is missing reads as the empty text
abbrev pub bound_text : Row → List ℕ
bound_text row = value_of row.labels bucket_label

-- a literal with an optional sign
abbrev pub signed_number : List ℕ → Result XFrac NumberRefusal
signed_number [] = Err BadNumber
signed_number (first ∷ rest) =
    if first == 45 then turned (literal_answer rest)
    else if first == 43 then literal_answer rest
    else literal_answer (first ∷ rest)

abbrev pub bound_of : Row → Option XFrac
bound_of row = result_ok (signed_number (bound_text row))

-- the labels that the buckets of one histogram share
abbrev pub histogram_labels : Row → Names
histogram_labels row = without (bucket_label ∷ []) row.labels

-- a row as a bucket of its histogram, where its bound is a number
abbrev pub bucket_of : Row → Option (Names × Bucket)
bucket_of row = option_map (λ (bound : XFrac). (histogram_labels row, record { bound = bound; count = row.value })) (bound_of row)

-- a row whose bound is no number has a note of its text
abbrev pub bound_note : Row → Option Note
bound_note row = noted (bound_of row)
  where
    noted : Option XFrac → Option Note
    noted None = Some (BadBucket (bound_text row))
    noted (Some bound) = None

-- ---- the buckets of one histogram

abbrev pub are_finite : List Bucket → Bool
are_finite buckets = list_all (λ (b : Bucket). is_finite b.count) buckets

-- the counts of the buckets of one bound, added up
abbrev pub count_at : List Bucket → XFrac → Result XFrac NumFault
count_at buckets bound =
    total (map (λ (b : Bucket). b.count) (filter (λ (b : Bucket). is_at (total_order bound) b.bound) buckets))

-- all answers, or the fault of one
abbrev pub each_of : {A : Type 0} → List (Result A NumFault) → Result (List A) NumFault
each_of [] = Ok []
each_of (answer ∷ answers) = answer >>= λ a. each_of answers >>= λ all. Ok (a ∷ all)

-- the bucket of each bound, by rising bounds
abbrev pub merged_at : List Bucket → XFrac → Result Bucket NumFault
merged_at buckets bound = count_at buckets bound >>= λ count. Ok (record { bound = bound; count = count })

abbrev pub merged : List Bucket → Result (List Bucket) NumFault
merged buckets = each_of (map (merged_at buckets) (set_of total_order (map (λ (b : Bucket). b.bound) buckets)))

abbrev pub ends_above : Option Bucket → Bool
ends_above None = false
ends_above (Some b) = is_positive_infinity b.bound

-- the greatest bound is +Inf, and there are at least two bounds
abbrev pub is_whole : List Bucket → Bool
is_whole buckets = nat_lt 1 (length buckets) && ends_above (last_or None buckets)

abbrev pub at_least : XFrac → Bucket → Bucket
at_least count b = record { bound = b.bound; count = if compares Lt b.count count then count else b.count }

-- each count below an earlier one is raised to it
abbrev pub raised : List Bucket → List Bucket
raised [] = []
raised (b ∷ buckets) = b ∷ map (at_least b.count) (raised buckets)

-- a count is below an earlier one
abbrev pub falls : List Bucket → Bool
falls [] = false
falls (b ∷ buckets) = if list_any (λ (c : Bucket). compares Lt c.count b.count) buckets then true else falls buckets

-- ---- the quantile

-- start + (end - start) * (rank / count)
abbrev pub interpolated : XFrac → XFrac → XFrac → XFrac → Result XFrac NumFault
interpolated start end rank count =
    arithmetic Div rank count >>= λ share.
    arithmetic Sub end start >>= λ width.
    arithmetic Mul width share >>= λ way.
    arithmetic Add start way

-- within a bucket that a rank falls into, behind an earlier one or as the first, which begins at 0 where its bound is above 0
abbrev pub within_bucket : Option Bucket → Bucket → XFrac → Result XFrac NumFault
within_bucket None b rank = if compares Le b.bound (whole_number 0) then Ok b.bound else interpolated (whole_number 0) b.bound rank b.count
within_bucket (Some earlier) b rank =
    arithmetic Sub rank earlier.count >>= λ rest.
    arithmetic Sub b.count earlier.count >>= λ count.
    interpolated earlier.bound b.bound rest count

abbrev pub bound_or : XFrac → Option Bucket → XFrac
bound_or other None = other
bound_or other (Some b) = b.bound

-- in the first bucket whose count is at least a rank, the last one aside; where there is none, the bound before the last
abbrev pub at_rank : XFrac → Option Bucket → List Bucket → Result XFrac NumFault
at_rank rank earlier [] = Ok (bound_or NaN earlier)
at_rank rank earlier (b ∷ []) = Ok (bound_or NaN earlier)
at_rank rank earlier (b ∷ c ∷ buckets) =
    if compares Ge b.count rank then within_bucket earlier b rank else at_rank rank (Some b) (c ∷ buckets)

abbrev pub last_count : List Bucket → XFrac
last_count buckets = count_or (last_or None buckets)
  where
    count_or : Option Bucket → XFrac
    count_or None = whole_number 0
    count_or (Some b) = b.count

-- the quantile of counts that rise: NaN where the last one is 0, else at the rank q * last count
abbrev pub quantile_of_rising : XFrac → List Bucket → Result XFrac NumFault
quantile_of_rising q buckets =
    if is_zero (last_count buckets) then Ok NaN
    else arithmetic Mul q (last_count buckets) >>= λ rank. at_rank rank None buckets

abbrev pub quantile_of_merged : XFrac → List Bucket → Result XFrac NumFault
quantile_of_merged q buckets = if is_whole buckets then quantile_of_rising q (raised buckets) else Ok NaN

-- the quantile of a histogram: NaN at NaN, -Inf below 0, +Inf above 1, NaN where a count isn't finite, else by its buckets
abbrev pub histogram_quantile : XFrac → List Bucket → Result XFrac NumFault
histogram_quantile q buckets =
    if is_not_a_number q then Ok NaN
    else if compares Lt q (whole_number 0) then Ok NegInf
    else if compares Gt q (whole_number 1) then Ok PosInf
    else if are_finite buckets then (merged buckets >>= λ all. quantile_of_merged q all)
    else Ok NaN

-- the counts of a histogram's buckets were raised on the way to its quantile
abbrev pub is_fixed_of : Result (List Bucket) NumFault → Bool
is_fixed_of (Err fault) = false
is_fixed_of (Ok buckets) = is_whole buckets && falls buckets

abbrev pub is_fixed : XFrac → List Bucket → Bool
is_fixed q buckets = not (is_outside q) && (are_finite buckets && is_fixed_of (merged buckets))

-- ---- all histograms of a step

abbrev pub histograms : List Row → List (Names × List Bucket)
histograms rows = gathered (filter_map bucket_of rows)

abbrev pub histogram_outcome : XFrac → Names × List Bucket → Outcome
histogram_outcome q group = record { labels = nameless group.0; value = some_value (histogram_quantile q group.1) }

abbrev pub fixed_note : XFrac → Names × List Bucket → Option Note
fixed_note q group = if is_fixed q group.1 then Some FixedBuckets else None

-- histogram_quantile: a row for each labels but `le` and the metric's name; a quantile outside 0 to 1 has a note also without rows
abbrev pub bucket_quantiles : XFrac → Step → Step
bucket_quantiles q step =
    settled (taken
    (with_notes (with_notes (with_notes step.marks (range_notes q)) (filter_map bound_note step.table.rows)) (filter_map (fixed_note q) (histograms step.table.rows)))
    (map (histogram_outcome q) (histograms step.table.rows)))
