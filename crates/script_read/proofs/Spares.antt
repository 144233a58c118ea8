-- No line but an expectation is refused for its pattern.
use Rattle.std.proofs.Common.{◌≡◌, subst, ℕ, zero, suc, ◌+◌, ◌∷◌, ◌++◌, Bool, true, false, List, [], IfErr, Result, Ok, Err, Option, None, Some, drop, take, refl, ap, sym, ◌∙◌, ◌==◌, position}
use Rattle.label_set.specs.declared.labels.LabelRefusal.{LabelRefusal}
use Rattle.label_set.specs.Labels.{metric_name, put_refusal, with_pair}
use Rattle.promql_lex.specs.Tokens.{tokens_of}
use Rattle.promql_lex.specs.declared.token.Token.{Token}
use Rattle.promql_lex.specs.declared.token.TokenKind.{TokenKind}
use Rattle.promql_lex.specs.declared.token.TokenKind.TheVariants as kinds
use Rattle.std.specs.List.{Contains, list_all, slice_split}
use Rattle.std.specs.Prelude.{◌-◌, ◌^◌, ◌&&◌, not, nat_le, nat_lt, int_lt, pos, bytes_eq, codes}
use Rattle.std.specs.Char.{is_ascii_digit}
use Rattle.std.specs.Str.Parse.{digits_value}
use Rattle.xfrac.specs.declared.value.NumFault.{NumFault}
use Rattle.xfrac.specs.declared.value.XFrac.{XFrac}
use Rattle.ticks.specs.declared.moment.Ms.{Ms}
use Rattle.frac_text.specs.Times.{time_answer}
use Rattle.frac_text.specs.declared.refusal.TimeRefusal.{TimeRefusal}
use Rattle.promql_meaning.specs.declared.answer.ResultSeries.{ResultSeries}
use Rattle.script_read.specs.Commands.{Order, Clearing, Loading, after_word, duration_after, eval_mode, evaluated, evaluation_of, heading_of, if_alone, instant_heading, moment_at, moments_from, load_heading, range_heading, range_of, time_after}
use Rattle.script_read.specs.Expects.{RefusesOnLine, RefusesPattern, search_on}
use Rattle.script_read.specs.Lines.{Numbered, behind_word, first_word, from_blank, is_empty, words_behind, words_of}
use Rattle.script_read.specs.Quotes.{has_histogram, without_comment}
use Rattle.script_read.specs.Reading.{Instruction, items_spelled, line_with, load_of, series_lines, series_of, series_worded}
use Rattle.script_read.specs.Refusals.{at_line, fault_at}
use Rattle.script_read.specs.declared.expectation.Mode.{Mode}
use Rattle.script_read.specs.declared.expectation.Mode.TheVariants as modes
use Rattle.script_read.specs.declared.fault.ReadFault.{ReadFault}
use Rattle.script_read.specs.declared.fault.ReadFault.TheVariants as files
use Rattle.script_read.specs.declared.script.ScriptRefusal.TheVariants as refusals
use Rattle.script_read.specs.Items.{count_spelled, gap_spelled, item_spelled, item_unmarked, run_spelled, run_values, step_place, step_signed, values_spelled}
use Rattle.script_read.specs.Moments.{point_at}
use Rattle.ticks.specs.Moments.{Moments, is_grid, places}
use Rattle.script_read.specs.Outcomes.{Gives, Makes, PatternList, Refuses, each_of, onto, then_give}
use Rattle.script_read.specs.Results.{cells_from, cells_spelled, if_number, instant_points, number_alone, begins_series, labels_in, stands_in, points_behind, points_from, range_points, result_added, room_after, row_added, row_beside, run_points, scalar_added}
use Rattle.script_read.specs.Series.{LabelList, Series, closed_at, if_last, behind_name, name_front, opened, is_comma, without_empty_end, is_sign, label_named, labels_inside, labels_named, labels_put, labels_with, pair_put, part_put, put_unless, series_at, series_bare, series_named, value_quoted}
use Rattle.script_read.specs.Words.{interval_spelled, is_ascii, is_metric_name, time_or_refused, time_spelled}
use Rattle.script_read.specs.declared.fault.LineFault.{LineFault}
use Rattle.script_read.specs.declared.fault.LineFault.TheVariants.{Malformed, NativeHistogram, NumberRange, BadPattern, BadLabels, Memory}
use Rattle.script_read.specs.declared.script.Expectations.{Expectations}
use Rattle.script_read.specs.declared.script.Expected.{Expected}
use Rattle.script_read.specs.declared.script.Expected.TheVariants.{Scalar, Rows}
use Rattle.script_read.specs.declared.script.SeriesItem.{SeriesItem}
use Rattle.script_read.specs.declared.script.SeriesItem.TheVariants.{Gap, Stale, Run}
use Rattle.script_read.proofs.Sparing.{filled_spares, front_spares, give_spares, if_spares, is_other, joined_spares, Spared, spares, number_spares, spared, spared_by, text_spares, try_spares}

count_spares : (text : List ℕ) → Spared (count_spelled text)
count_spares text =
    if_spares (not (is_empty text) && (list_all is_ascii_digit text && nat_lt (digits_value 10 text) (2 ^ 32))) (Ok (digits_value 10 text)) (Err Malformed) (record { is = refl }) (record { is = refl })

-- ---- items

step_spares : (text : List ℕ) → Spared (step_signed text)
step_spares [] = record { is = refl }
step_spares (sign ∷ rest) = if_spares _ _ _ (give_spares _ _ (number_spares rest)) (number_spares rest)

run_values_spares : (place : Option ℕ) (text : List ℕ) → Spared (run_values place text)
run_values_spares None text = give_spares _ _ (number_spares text)
run_values_spares (Some place) text = try_spares _ _ (number_spares (take place text)) (λ first. give_spares _ (λ by. (first, by)) (step_spares (drop place text)))

run_spares : (values count : List ℕ) → Spared (run_spelled values count)
run_spares values count = try_spares _ _ (run_values_spares (step_place values) values) (λ run. give_spares _ _ (count_spares count))

gap_spares : (text : List ℕ) → Spared (gap_spelled text)
gap_spares [] = record { is = refl }
gap_spares (first ∷ count) = if_spares (first == 120) _ (Err Malformed) (give_spares _ Gap (count_spares count)) (record { is = refl })

values_spares : (place : Option ℕ) (text : List ℕ) → Spared (values_spelled place text)
values_spares None text = give_spares _ _ (number_spares text)
values_spares (Some place) text = run_spares (take place text) (drop (place + 1) text)

unmarked_spares : (word : List ℕ) → Spared (item_unmarked word)
unmarked_spares [] = record { is = refl }
unmarked_spares (first ∷ rest) = if_spares _ _ _ (gap_spares rest) (values_spares (position (λ byte. byte == 120) (first ∷ rest)) (first ∷ rest))

pub item_spares : (word : List ℕ) → Spared (item_spelled word)
item_spares word = if_spares (bytes_eq word (codes "stale")) (Ok Stale) _ (record { is = refl }) (unmarked_spares word)

-- ---- series

put_spares : (refusal : Option LabelRefusal) (labels : LabelList) → Spared (put_unless refusal labels)
put_spares None labels = record { is = refl }
put_spares (Some refusal) labels = record { is = refl }

labels_put_spares : (labels : LabelList) (name value : List ℕ) → Spared (labels_put labels name value)
labels_put_spares labels name value = put_spares (put_refusal labels name value) (with_pair labels name value)

last_spares : {X : Type 0} (tokens : List Token) (x : X) → Spared (if_last tokens x)
last_spares [] x = record { is = refl }
last_spares (t ∷ ts) x = record { is = refl }

label_spares : (kind : TokenKind) (spelled : List ℕ) → Spared (label_named kind spelled)
label_spares (kinds.Quoted name) spelled = record { is = refl }
label_spares kinds.Word spelled = text_spares spelled
label_spares kinds.Name spelled = if_spares (list_all (λ byte. not (byte == 58)) spelled) _ (Err Malformed) (text_spares spelled) (record { is = refl })
label_spares _ spelled = record { is = refl }

value_spares : (kind : TokenKind) → Spared (value_quoted kind)
value_spares (kinds.Quoted value) = record { is = refl }
value_spares _ = record { is = refl }

pair_spares : (text : List ℕ) (labels : LabelList) (part : List Token) → Spared (pair_put text labels part)
pair_spares text labels (label ∷ (sign ∷ (value ∷ rest))) =
    try_spares _ _ (label_spares label.kind _) (λ name. if_spares (is_sign text 61 sign) _ (Err Malformed) (try_spares _ _ (value_spares value.kind) (λ worth.
    try_spares _ _ (labels_put_spares labels name worth) (λ more. last_spares rest more))) (record { is = refl }))
pair_spares text labels (label ∷ (sign ∷ [])) = record { is = refl }
pair_spares text labels (label ∷ []) = record { is = refl }
pair_spares text labels [] = record { is = refl }

part_spares : (text : List ℕ) (first : Bool) (labels : LabelList) (part : List Token) → Spared (part_put text first labels part)
part_spares text first labels [] = pair_spares text labels []
part_spares text first labels (name ∷ []) = if_spares first _ _ (try_spares _ _ (value_spares name.kind) (λ value. labels_put_spares labels metric_name value)) (record { is = refl })
part_spares text first labels (a ∷ (b ∷ part)) = pair_spares text labels (a ∷ (b ∷ part))

labels_spares : (text : List ℕ) (first : Bool) (labels : LabelList) (parts : List (List Token)) → Spared (labels_with text first labels parts)
labels_spares text first labels [] = record { is = refl }
labels_spares text first labels (part ∷ parts) = try_spares _ _ (part_spares text first labels part) (λ more. labels_spares text false more parts)

named_spares : (name : List ℕ) → Spared (labels_named name)
named_spares [] = record { is = refl }
named_spares (first ∷ rest) = if_spares (is_metric_name (first ∷ rest)) _ (Err Malformed) (labels_put_spares [] metric_name (first ∷ rest)) (record { is = refl })

inside_spares : (name inside : List ℕ) → Spared (labels_inside name inside)
inside_spares name inside = try_spares _ _ (named_spares name) (λ named. try_spares _ _ (text_spares inside) (λ text. labels_spares text true named (without_empty_end (slice_split (is_comma text) (tokens_of text)))))

closed_spares : (place : Option ℕ) (text : List ℕ) (labels : LabelList) → Spared (closed_at place text labels)
closed_spares None text labels = record { is = refl }
closed_spares (Some place) text labels = record { is = refl }

bare_spares : (name behind : List ℕ) → Spared (series_bare name behind)
bare_spares [] behind = record { is = refl }
bare_spares (first ∷ rest) behind = give_spares _ _ (named_spares (first ∷ rest))

named_series_spares : (name behind : List ℕ) (inside : Option (List ℕ)) → Spared (series_named name behind inside)
named_series_spares name behind None = bare_spares name behind
named_series_spares name behind (Some inside) = try_spares _ _ (inside_spares name _) (λ labels. closed_spares _ inside labels)

pub series_spares : (text : List ℕ) → Spared (series_at text)
series_spares text = named_series_spares (name_front text) (behind_name text) (opened (from_blank (behind_name text)))

-- ---- results

alone_spares : (words : List (List ℕ)) → Spared (number_alone words)
alone_spares [] = record { is = refl }
alone_spares (word ∷ []) = number_spares word
alone_spares (word ∷ (next ∷ words)) = try_spares _ _ (number_spares word) (λ _. record { is = refl })

room_spares : (room : ℕ) (item : SeriesItem) → Spared (room_after room item)
room_spares room Stale = record { is = refl }
room_spares room (Gap gap) = if_spares (nat_le gap room) (Ok (room - gap)) (Err Malformed) (record { is = refl }) (record { is = refl })
room_spares room (Run first by more) = if_spares (nat_lt more room) (Ok (room - more - 1)) (Err Malformed) (record { is = refl }) (record { is = refl })

cells_spares : (room : ℕ) (words : List (List ℕ)) → Spared (cells_from room words)
cells_spares room [] = record { is = refl }
cells_spares room (word ∷ words) =
    try_spares _ _ (try_spares _ _ (item_spares word) (λ item. give_spares _ _ (room_spares room item))) (λ cell. front_spares (cell.0 ∷ []) _ (cells_spares cell.1 words))

some_cells_spares : (room : ℕ) (words : List (List ℕ)) → Spared (cells_spelled room words)
some_cells_spares room [] = record { is = refl }
some_cells_spares room (word ∷ words) = cells_spares room (word ∷ words)

sum_spares : (r : Result XFrac NumFault) → Spared (if_number r)
sum_spares (Ok value) = record { is = refl }
sum_spares (Err fault) = record { is = refl }

run_points_spares : (m : Moments) (place more : ℕ) (value by : XFrac) → Spared (run_points m place more value by)
run_points_spares m place zero value by = record { is = refl }
run_points_spares m place (suc more) value by = front_spares (record { at = point_at m place; value = value } ∷ []) _ (try_spares _ _ (sum_spares _) (λ next. run_points_spares m (place + 1) more next by))

points_spares : (m : Moments) (place : ℕ) (items : List SeriesItem) → Spared (points_from m place items)
points_spares m place [] = record { is = refl }
points_spares m place (Gap gap ∷ items) = points_spares m (place + gap) items
points_spares m place (Stale ∷ items) = record { is = refl }
points_spares m place (Run first by more ∷ items) = joined_spares _ _ (run_points_spares m place more first by) (points_spares m (place + more + 1) items)

behind_spares : (m : Moments) (behind : List ℕ) → Spared (points_behind m behind)
behind_spares m behind =
    if_spares m.instant (instant_points m behind) (range_points m behind) (give_spares _ (λ value. record { at = m.start; value = value } ∷ []) (alone_spares (words_behind behind)))
    (try_spares _ _ (some_cells_spares (places m) (words_behind behind)) (λ items. points_spares m 0 items))

beside_spares : (m : Moments) (rows : List ResultSeries) (series : Series) → Spared (row_beside m rows series)
beside_spares m rows series =
    if_spares (stands_in (labels_in rows) series.0) (Err Malformed) _ (record { is = refl })
    (give_spares _ (λ points. rows ++ record { labels = series.0; points = points } ∷ []) (behind_spares m series.1))

row_spares : (m : Moments) (result : Expected) (text : List ℕ) → Spared (row_added m result text)
row_spares m (Scalar value) text = record { is = refl }
row_spares m (Rows rows) text = give_spares _ Rows (try_spares _ _ (series_spares text) (λ series. beside_spares m rows series))

scalar_spares : (instant : Bool) (result : Expected) (text : List ℕ) → Spared (scalar_added instant result text)
scalar_spares true (Rows []) text = give_spares _ Scalar (alone_spares (words_of text))
scalar_spares true (Rows (row ∷ rows)) text = record { is = refl }
scalar_spares true (Scalar value) text = record { is = refl }
scalar_spares false result text = record { is = refl }

pub result_spares : (m : Moments) (e : Expectations) (text : List ℕ) → Spared (result_added m e text)
result_spares m e text =
    if_spares (is_empty e.fail) _ (Err Malformed) (give_spares _ (λ result. record e { result = result })
    (if_spares (begins_series text) (row_added m e.result text) (scalar_added m.instant e.result text) (row_spares m e.result text) (scalar_spares m.instant e.result text)))
    (record { is = refl })

-- ---- loads

each_spares : {X Y : Type 0} (f : X → Result Y LineFault) → ((x : X) → Spared (f x)) → (xs : List X) → Spared (each_of f xs)
each_spares f h [] = record { is = refl }
each_spares f h (x ∷ xs) = onto_spares (f x) (each_of f xs) (h x) (each_spares f h xs)
  where
    onto_spares : {Y : Type 0} (r : Result Y LineFault) (s : Result (List Y) LineFault) → Spared r → Spared s → Spared (onto r s)
    onto_spares (Err e) s h k = record { is = h.is }
    onto_spares (Ok y) (Err e) h k = record { is = k.is }
    onto_spares (Ok y) (Ok ys) h k = record { is = refl }

items_spares : (words : List (List ℕ)) → Spared (items_spelled words)
items_spares [] = record { is = refl }
items_spares (word ∷ words) = each_spares item_spelled item_spares (word ∷ words)

line_spares : (n : ℕ) (labels : LabelList) (behind : List ℕ) → Spared (line_with n labels behind)
line_spares n [] behind = record { is = refl }
line_spares n (pair ∷ pairs) behind = give_spares _ (λ items. record { line = n; labels = pair ∷ pairs; items = items }) (items_spares (words_behind behind))

pub load_spares : (n : ℕ) (text : List ℕ) → Spared (series_worded n text)
load_spares n text =
    if_spares (has_histogram (without_comment text)) (Err NativeHistogram) _ (record { is = refl })
    (try_spares _ _ (series_spares (without_comment text)) (λ series. line_spares n series.0 series.1))

-- ---- commands

time_answer_spares : (r : Result Ms TimeRefusal) → Spared (time_or_refused r)
time_answer_spares (Ok time) = record { is = refl }
time_answer_spares (Err refusal) = record { is = refl }

time_spares : (text : List ℕ) → Spared (time_spelled text)
time_spares text = if_spares (is_ascii text) _ (Err Malformed) (time_answer_spares (time_answer text)) (record { is = refl })

interval_spares : (text : List ℕ) → Spared (interval_spelled text)
interval_spares text = try_spares _ _ (time_spares text) (λ time. if_spares (int_lt (pos 0) time.0) (Ok time) (Err Malformed) (record { is = refl }) (record { is = refl }))

after_spares : (word text : List ℕ) → Spared (after_word word text)
after_spares word text = if_spares (bytes_eq (first_word text) word) (Ok (behind_word text)) (Err Malformed) (record { is = refl }) (record { is = refl })

time_after_spares : (word text : List ℕ) → Spared (time_after word text)
time_after_spares word text = try_spares _ _ (after_spares word text) (λ behind. give_spares _ (λ time. (time, behind_word behind)) (time_spares (first_word behind)))

duration_after_spares : (word text : List ℕ) → Spared (duration_after word text)
duration_after_spares word text = try_spares _ _ (after_spares word text) (λ behind. give_spares _ (λ time. (time, behind_word behind)) (interval_spares (first_word behind)))

evaluated_spares : (mode : Mode) (m : Moments) (text : List ℕ) → Spared (evaluated mode m text)
evaluated_spares mode m text = try_spares _ _ (if_spares (is_grid m) (Ok m) (Err Malformed) (record { is = refl }) (record { is = refl })) (λ taken. give_spares _ _ (filled_spares text))

instant_spares : (mode : Mode) (text : List ℕ) → Spared (instant_heading mode text)
instant_spares mode text = try_spares _ _ (time_after_spares _ text) (λ at. evaluated_spares mode (moment_at at.0) at.1)

range_spares : (mode : Mode) (text : List ℕ) → Spared (range_heading mode text)
range_spares mode text = try_spares _ _ (time_after_spares _ text) (λ start. try_spares _ _ (time_after_spares _ start.1) (λ end.
    try_spares _ _ (duration_after_spares _ end.1) (λ step. evaluated_spares mode (moments_from start.0 end.0 step.0) step.1)))

range_of_spares : (mode : Mode) (text : List ℕ) → Spared (range_of mode text)
range_of_spares modes.Ordered text = record { is = refl }
range_of_spares modes.Plain text = range_spares modes.Plain text
range_of_spares modes.Fail text = range_spares modes.Fail text
range_of_spares modes.Warn text = range_spares modes.Warn text
range_of_spares modes.Info text = range_spares modes.Info text

evaluation_spares : (mode : Option Mode) (text : List ℕ) → Spared (evaluation_of mode text)
evaluation_spares None text = record { is = refl }
evaluation_spares (Some mode) text =
    if_spares (bytes_eq (first_word text) (codes "instant")) (instant_heading mode (behind_word text)) _ (instant_spares mode (behind_word text))
    (if_spares (bytes_eq (first_word text) (codes "range")) (range_of mode (behind_word text)) (Err Malformed) (range_of_spares mode (behind_word text)) (record { is = refl }))

alone_order_spares : (order : Order) (text : List ℕ) → Spared (if_alone order text)
alone_order_spares order [] = record { is = refl }
alone_order_spares order (byte ∷ bytes) = record { is = refl }

pub heading_spares : (text : List ℕ) → Spared (heading_of text)
heading_spares text =
    if_spares (bytes_eq (first_word text) (codes "clear")) (if_alone Clearing (behind_word text)) _ (alone_order_spares Clearing (behind_word text))
    (if_spares (bytes_eq (first_word text) (codes "load")) (load_heading (behind_word text)) _
    (try_spares _ _ (interval_spares (first_word (behind_word text))) (λ interval. alone_order_spares (Loading interval) (behind_word (behind_word text))))
    (if_spares (bytes_eq (first_word text) (codes "load_with_nhcb")) (Err NativeHistogram) _ (record { is = refl }) (evaluation_spares (eval_mode (first_word text)) (behind_word text))))

-- ---- what this says of the clauses

-- a line's fault that is spared, as the file's
pub spared_line : (kept : PatternList) (lines : List Numbered) (n : ℕ) (e : LineFault) → is_other e ≡ true → RefusesOnLine kept lines (fault_at n e)
spared_line kept lines n Malformed h = tt
spared_line kept lines n NativeHistogram h = tt
spared_line kept lines n NumberRange h = tt
spared_line kept lines n BadLabels h = tt
spared_line kept lines n Memory h = tt
spared_line kept lines n BadPattern h = absurd (cc)

-- a line's fault, as the file's
pub refused_line : (kept : PatternList) (lines : List Numbered) (line : Numbered) (e : LineFault) → Contains lines line
    → RefusesPattern kept (search_on line.text) e → RefusesOnLine kept lines (fault_at line.number e)
refused_line kept lines line Malformed at h = tt
refused_line kept lines line NativeHistogram at h = tt
refused_line kept lines line NumberRange at h = tt
refused_line kept lines line BadLabels at h = tt
refused_line kept lines line Memory at h = tt
refused_line kept lines line BadPattern at h = (line, at, refl, h)

-- of more lines
pub refused_among : (kept : PatternList) (lines more : List Numbered) (e : ReadFault) → ((line : Numbered) → Contains lines line → Contains more line)
    → RefusesOnLine kept lines e → RefusesOnLine kept more e
refused_among kept lines more (files.Refused (refusals.BadPattern n)) there h = (h.0, there h.0 h.1, h.2, h.3)
refused_among kept lines more (files.Refused (refusals.Malformed n)) there h = tt
refused_among kept lines more (files.Refused (refusals.NativeHistogram n)) there h = tt
refused_among kept lines more (files.Refused (refusals.NotUtf8 n)) there h = tt
refused_among kept lines more (files.Refused refusals.TooLarge) there h = tt
refused_among kept lines more (files.Refused (refusals.NumberRange n)) there h = tt
refused_among kept lines more (files.Refused (refusals.BadLabels n)) there h = tt
refused_among kept lines more files.Memory there h = tt

-- a step that makes what is said, where that is spared
pub spared_makes : {X Y : Type 0} (kept : PatternList) (search : Option (List ℕ)) (r : Result X LineFault) (now : Y) (said : Result Y LineFault) → Spared said
    → Makes r now said → IfErr r (RefusesPattern kept search)
spared_makes kept search (Ok x) now said s h = tt
spared_makes kept search (Err e) now said s h = spared kept search e (spared_by said e s h)

-- ---- the same of a file

abbrev is_no_pattern : ReadFault → Bool
is_no_pattern (files.Refused (refusals.BadPattern n)) = false
is_no_pattern _ = true

abbrev spares_file : {X : Type 0} → Result X ReadFault → Bool
spares_file (Ok x) = true
spares_file (Err fault) = is_no_pattern fault

fault_spares : (n : ℕ) (e : LineFault) → is_other e ≡ true → is_no_pattern (fault_at n e) ≡ true
fault_spares n Malformed h = refl
fault_spares n NativeHistogram h = refl
fault_spares n NumberRange h = refl
fault_spares n BadLabels h = refl
fault_spares n Memory h = refl
fault_spares n BadPattern h = absurd (cc)

at_spares : {X : Type 0} (n : ℕ) (said : Result X LineFault) → Spared said → spares_file (at_line n said) ≡ true
at_spares n (Ok x) h = refl
at_spares n (Err e) h = fault_spares n e h.is

onto_file : {X : Type 0} (r : Result X ReadFault) (s : Result (List X) ReadFault) → spares_file r ≡ true → spares_file s ≡ true → spares_file (onto r s) ≡ true
onto_file (Err e) s h k = h
onto_file (Ok x) (Err e) h k = k
onto_file (Ok x) (Ok xs) h k = refl

give_file : {X Y : Type 0} (r : Result X ReadFault) (make : X → Y) → spares_file r ≡ true → spares_file (then_give r make) ≡ true
give_file (Ok x) make h = refl
give_file (Err e) make h = h

lines_spares : (body : List Numbered) → spares_file (series_lines body) ≡ true
lines_spares [] = refl
lines_spares (line ∷ body) = onto_file (series_of line) (series_lines body) (at_spares line.number (series_worded line.number line.text) (load_spares line.number line.text)) (lines_spares body)

spared_file : (kept : PatternList) (lines : List Numbered) (e : ReadFault) → is_no_pattern e ≡ true → RefusesOnLine kept lines e
spared_file kept lines (files.Refused (refusals.BadPattern n)) h = absurd (cc)
spared_file kept lines (files.Refused (refusals.Malformed n)) h = tt
spared_file kept lines (files.Refused (refusals.NativeHistogram n)) h = tt
spared_file kept lines (files.Refused (refusals.NotUtf8 n)) h = tt
spared_file kept lines (files.Refused refusals.TooLarge) h = tt
spared_file kept lines (files.Refused (refusals.NumberRange n)) h = tt
spared_file kept lines (files.Refused (refusals.BadLabels n)) h = tt
spared_file kept lines files.Memory h = tt

refused_spared : {X : Type 0} (e : ReadFault) (said : Result X ReadFault) → spares_file said ≡ true → Refuses e said → is_no_pattern e ≡ true
refused_spared (files.Refused r) said s h = sym (ap spares_file h) ∙ s
refused_spared files.Memory said s h = refl

-- no load is refused for a pattern
pub load_refused : {X : Type 0} (kept : PatternList) (lines : List Numbered) (r : Result X ReadFault) (view : X → Instruction) (n : ℕ) (interval : Ms) (body : List Numbered)
    → Gives (then_give r view) (load_of n interval body) → IfErr r (RefusesOnLine kept lines)
load_refused kept lines (Ok x) view n interval body h = tt
load_refused kept lines (Err e) view n interval body h =
    spared_file kept lines e (refused_spared e (load_of n interval body) (give_file (series_lines body) _ (lines_spares body)) h)

-- of one line more
pub refused_more : {X : Type 0} (kept : PatternList) (lines more : List Numbered) (r : Result X ReadFault) → ((line : Numbered) → Contains lines line → Contains more line)
    → IfErr r (RefusesOnLine kept lines) → IfErr r (RefusesOnLine kept more)
refused_more kept lines more (Ok x) there h = tt
refused_more kept lines more (Err e) there h = refused_among kept lines more e there h

-- no command's line is refused for a pattern
pub heading_refused : {X : Type 0} (kept : PatternList) (lines : List Numbered) (n : ℕ) (r : Result X LineFault) (view : X → Order) (text : List ℕ) (e : ReadFault)
    → then_give r view ≡ heading_of text → at_line n r ≡ Err e → RefusesOnLine kept lines e
heading_refused kept lines n (Ok x) view text e h k = absurd (cc)
heading_refused kept lines n (Err fault) view text e h k =
    let same : fault_at n fault ≡ e = cc in
    subst (RefusesOnLine kept lines) same (spared_line kept lines n fault (ap spares h ∙ (heading_spares text).is))
