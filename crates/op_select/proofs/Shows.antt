-- What a mark shows is the newest value.
use Rattle.std.proofs.Common.{◌≡◌, ◌∙◌, ℕ, Bool, true, false, List, [], ◌∷◌, Option, None, Some, refl, sym, ap, arith}
use Rattle.std.specs.Prelude.{ℤ, ◌-ℤ◌, ◌≤ℤ◌, ◌&&◌, int_le, int_lt, slice_get, unwrap_or, if◌then◌else◌}
use Rattle.std.specs.List.{cons_option, filter_map, last_or}
use Rattle.std.specs.Option.{option_and_then, option_map}
use Rattle.std.proofs.lemmas.Int.{ints}
use Rattle.xfrac.specs.declared.value.XFrac.{XFrac}
use Rattle.ticks.specs.Edges.{before, is_from-later}
use Rattle.ticks.specs.declared.moment.Ms.{Ms}
use Rattle.promql_meaning.specs.Selecting.{between, fresh_sample, lookback, newest, newest_rows}
use Rattle.promql_meaning.specs.declared.given.Stamped.{Stamped}
use Rattle.sample_store.specs.Samples.{AllSeries, Names, Samples, labels_at, samples_at}
use Rattle.series_marks.specs.Reads.{Rises, Sample, after, in_span, last_of, mark_at}
use Rattle.series_marks.specs.Walked.{after_after, last_front, rises_after, rises_next, span_is}
use Rattle.series_marks.specs.Reaches.{numbered, window_edge}
use Rattle.op_select.specs.Newest.{entry_told, entry_under, shown, told}

-- ---- one series

-- a sample that is later than an edge
abbrev within : ℤ → Option Sample → Option Sample
within edge None = None
within edge (Some x) = if int_lt edge x.0.0 then Some x else None

all_within : (d m : ℤ) (x : Sample) (xs : Samples) → Rises (Some x) xs → int_lt d x.0.0 ≡ true → within d (last_of m xs (Some x)) ≡ last_of m xs (Some x)
all_within d m x [] r h = rw h refl
all_within d m x (y ∷ ys) r h = elim (int_lt m y.0.0) as (λ b. within d (if b then Some x else last_of m ys (Some y)) ≡ (if b then Some x else last_of m ys (Some y))) [
  | true ↦ rw h refl
  | false ↦ all_within d m y ys r.1 (grind (arith, ints, h, r.0))
]

last_within : (d m : ℤ) (T : Samples) (l : Option Sample) → Rises None T → d ≤ℤ m → within d l ≡ None → last_of m (after d T) None ≡ within d (last_of m T l)
last_within d m [] l r h n = sym n
last_within d m (x ∷ xs) l r h n = elim (int_lt d x.0.0) as (λ b. int_lt d x.0.0 ≡ b → last_of m (if b then x ∷ xs else after d xs) None ≡ within d (last_of m (x ∷ xs) l)) [
  | true ↦ λ e. elim (int_lt m x.0.0) as (λ b. (if b then None else last_of m xs (Some x)) ≡ within d (if b then l else last_of m xs (Some x))) [
    | true ↦ sym n
    | false ↦ sym (all_within d m x xs r e)
  ]
  | false ↦ λ e. let f : int_lt m x.0.0 ≡ false = grind (arith, ints, h, e) in let k : within d (Some x) ≡ None = rw e refl in
      rw f (last_within d m xs (Some x) (rises_next x xs r) h k)
] refl

shown_within : (stamped : Bool) (d : ℤ) (l : Option Sample) → shown stamped d l ≡ option_and_then (told stamped) (option_and_then fresh_sample (within d l))
shown_within stamped d None = refl
shown_within stamped d (Some x) = elim (int_lt d x.0.0) as (λ b. (if b then option_and_then (told stamped) (fresh_sample x) else None) ≡ option_and_then (told stamped) (option_and_then fresh_sample (if b then Some x else None))) [ true ↦ refl | false ↦ refl ]

-- a window of the meaning is what lies behind the last time before it, up to its moment
pub between_is : (closed : Bool) (edge m : ℤ) (S : Samples) → between closed edge m S ≡ in_span (before closed edge) m S
between_is closed edge m [] = refl
between_is closed edge m (x ∷ xs) =
    let rest = between_is closed edge m xs in
    ap (λ (q : Bool). if q && int_le x.0.0 m then x ∷ between closed edge m xs else between closed edge m xs) (is_from-later closed edge x.0.0)
    ∙ elim (int_lt (before closed edge) x.0.0 && int_le x.0.0 m) as (λ q. (if q then x ∷ between closed edge m xs else between closed edge m xs) ≡ (if q then x ∷ in_span (before closed edge) m xs else in_span (before closed edge) m xs))
    [ true ↦ ap (λ (ss : Samples). x ∷ ss) rest | false ↦ rest ]

edge_up : (closed : Bool) (m : ℤ) → window_edge closed lookback m ≤ℤ m
edge_up false m = omega (arith, ints)
edge_up true m = omega (arith, ints)

shows_newest : (stamped closed : Bool) (e m : ℤ) (S : Samples) → Rises None S → e ≤ℤ window_edge closed lookback m → shown stamped (window_edge closed lookback m) (mark_at e m S).last ≡ option_and_then (told stamped) (newest closed m S)
shows_newest stamped closed e m S r h =
    let d = window_edge closed lookback m in
    shown_within stamped d (last_of m (after e S) None)
    ∙ ap (λ (l : Option Sample). option_and_then (told stamped) (option_and_then fresh_sample l))
    (sym (last_within d m (after e S) None (rises_after e S r) (edge_up closed m) refl) ∙ ap (λ (xs : Samples). last_of m xs None) (after_after e d S h)
    ∙ last_front m (after d S) None ∙ ap (last_or None) (span_is d m S r ∙ sym (between_is closed (m -ℤ lookback) m S)))

-- ---- all series

-- the entry of the series with a number
abbrev pub newest_entry : AllSeries → Bool → Bool → ℤ → ℕ → Option (Names × XFrac)
newest_entry store stamped closed m s = entry_under (labels_at store s) (option_and_then (told stamped) (newest closed m (samples_at store s)))

pub entry_is : (store : AllSeries) (stamped closed : Bool) (e m : ℤ) (s : ℕ) → Rises None (samples_at store s) → e ≤ℤ window_edge closed lookback m
    → entry_under (labels_at store s) (shown stamped (window_edge closed lookback m) (mark_at e m (samples_at store s)).last) ≡ newest_entry store stamped closed m s
entry_is store stamped closed e m s r h = ap (entry_under (labels_at store s)) (shows_newest stamped closed e m (samples_at store s) r h)

abbrev row_under : Names → Ms × XFrac → Stamped
row_under names s = record { labels = names; at = s.0; value = s.1 }

one_row : (stamped : Bool) (names : Names) (n : Option (Ms × XFrac)) (es : List (Names × XFrac)) (rows : List Stamped) → es ≡ filter_map (entry_told stamped) rows
    → cons_option (entry_under names (option_and_then (told stamped) n)) es ≡ filter_map (entry_told stamped) (cons_option (option_map (row_under names) n) rows)
one_row stamped names None es rows h = h
one_row stamped names (Some x) es rows h = ap (cons_option (entry_told stamped (row_under names x))) h

-- the entries of numbers are those of the meaning's rows
pub numbered_rows : (store : AllSeries) (stamped closed : Bool) (m : ℤ) (series : List ℕ) → filter_map (newest_entry store stamped closed m) series ≡ filter_map (entry_told stamped) (newest_rows closed m (numbered store series))
numbered_rows store stamped closed m [] = refl
numbered_rows store stamped closed m (s ∷ series) =
    let rest = numbered_rows store stamped closed m series in
    elim (slice_get store s) as (λ (o : Option (Names × Samples)). cons_option (entry_under (unwrap_or (option_map (λ (one : Names × Samples). one.0) o) []) (option_and_then (told stamped) (newest closed m (unwrap_or (option_map (λ (one : Names × Samples). one.1) o) [])))) (filter_map (newest_entry store stamped closed m) series)
    ≡ filter_map (entry_told stamped) (newest_rows closed m (cons_option o (numbered store series)))) [
      | None ↦ rest
      | Some one ↦ one_row stamped one.0 (newest closed m one.1) (filter_map (newest_entry store stamped closed m) series) (newest_rows closed m (numbered store series)) rest
    ]
