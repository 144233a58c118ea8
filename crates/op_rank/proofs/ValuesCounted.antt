-- What is counted of runs of equal values is what is counted of rows.
use Rattle.std.proofs.Common.{◌≡◌, ◌∙◌, ℕ, zero, suc, ◌+◌, ◌<◌, ◌≤◌, Bool, true, false, cond, List, [], ◌∷◌, ◌++◌, length, get_or, map, refl, sym, ap, subst, arith, Option, Some, None}
use Rattle.std.specs.Prelude.{◌==◌, ◌||◌, filter, fold, is_none, not, pos, replicate, if◌then◌else◌}
use Rattle.std.specs.BTreeMap.{is_at}
use Rattle.std.specs.BTreeSet.{insert_key}
use Rattle.std.specs.List.{AllByRecursion, IsDistinct, cons_option, filter_map, list_any}
use Rattle.std.specs.Map.{keys_of, values_of}
use Rattle.std.specs.Option.{option_map}
use Rattle.std.proofs.lemmas.Bool.{eqb-true, ne_eqb}
use Rattle.std.proofs.lemmas.List.Sorted.{length_permutation}
use Rattle.frac_text.specs.Spellings.{spelling}
use Rattle.label_set.specs.LabelEquality.{labels_eq}
use Rattle.label_set.specs.LabelOrder.{labels_cmp_ties, labels_cmp_total}
use Rattle.label_set.specs.Labels.{labels_cmp}
use Rattle.label_set.specs.declared.rules.Grouping.{Grouping}
use Rattle.promql_meaning.specs.Countings.{count_row, counted, counting_outcome, is_left_out, tallied, with_label}
use Rattle.promql_meaning.specs.Ranks.{kept_labels}
use Rattle.step_batch.specs.Laws.{LentRowsAreTables, LentRowsAreThoseOfSlots}
use Rattle.step_batch.specs.Lent.{SlotsRise, entries_of, step_of}
use Rattle.step_batch.specs.declared.steps.PlacedStep.{PlacedStep}
use Rattle.step_batch.specs.declared.steps.Slot.{Slot}
use Rattle.step_table.specs.Groups.{Names, gathered, items_of, names_among}
use Rattle.step_table.specs.Matching.{labelled}
use Rattle.step_table.specs.Orders.{mark_cmp}
use Rattle.step_table.specs.Outcomes.{keyed, mark_of, row_of, taken}
use Rattle.step_table.specs.Shuffles.{Shuffled, TableIsOneOrder, joined}
use Rattle.step_table.specs.Shuffling.{chosen_shuffled, fatal_shuffled, from_permutation, items_shuffled, mapped_shuffled, names_shuffled, to_permutation, turned_back}
use Rattle.step_table.specs.Unions.{set_of, united, with_fatal}
use Rattle.step_table.specs.declared.marks.Mark.{Mark}
use Rattle.step_table.specs.declared.marks.Mark.TheVariants.{Overflow}
use Rattle.step_table.specs.declared.marks.Marks.{Marks}
use Rattle.step_table.specs.declared.outcomes.Outcome.{Outcome}
use Rattle.step_table.specs.declared.step.Row.{Row}
use Rattle.xfrac.specs.Arithmetic.{whole_number}
use Rattle.xfrac.specs.declared.value.XFrac.{XFrac}
use Rattle.op_rank.specs.Contenders.{number_at}
use Rattle.op_rank.specs.Entries.{entry_of}
use Rattle.op_rank.specs.ValueCounts.{AreTallied, CountsRise, IsCounting, counts_under, has_lost, is_next, labels_of, overflow_if, rolled_out, runs_under, slots_counted}
use Rattle.op_rank.specs.declared.entries.Entry.{Entry}
use Rattle.op_rank.specs.declared.value_counts.Count.{Count}
use Rattle.op_rank.specs.declared.value_counts.Run.{Run}
use Rattle.op_rank.specs.declared.value_labels.Counting.{Counting}
use Rattle.op_rank.proofs.FirstsMade.{AreWithin, row_at, rows_are, rows_at, within_all}
use Rattle.op_rank.proofs.QuantilesMade.{AreDistinct, group_named, name, name_same}
use Rattle.op_rank.proofs.Splitting.{strictly_above}
use Rattle.op_rank.proofs.Sums.{Numbered, SameSums, alike, alike_back, alike_then, behind_one, in_another_order, number_row, rows_are_table, rows_of_sums, same_rows, sum_row, sum_rows, total, two_as_one}

-- ---- counts that are brought together by place

abbrev pub merged : ℕ → List Count → List Count
merged rows [] = []
merged rows (n ∷ counts) = if is_next counts n.place then merged (rows + n.rows) counts else record { place = n.place; rows = rows + n.rows } ∷ merged 0 counts

abbrev pub as_slot : Count → Slot
as_slot n = record { place = n.place; value = whole_number n.rows }

slots_are : (rows : ℕ) (counts : List Count) → slots_counted rows counts ≡ map as_slot (merged rows counts)
slots_are rows [] = refl
slots_are rows (n ∷ counts) =
    let s : Slot = record { place = n.place; value = whole_number (rows + n.rows) } in
    (λ j. if is_next counts n.place then slots_are (rows + n.rows) counts j else s ∷ slots_are 0 counts j) ∙ inside (is_next counts n.place)
  where
    inside : (b : Bool) → (if b then map as_slot (merged (rows + n.rows) counts) else record { place = n.place; value = whole_number (rows + n.rows) } ∷ map as_slot (merged 0 counts))
        ≡ map as_slot (if b then merged (rows + n.rows) counts else record { place = n.place; rows = rows + n.rows } ∷ merged 0 counts)
    inside true = refl
    inside false = refl

merged_from : (labels : List Names) (rows : ℕ) (n : Count) (counts : List Count) → SameSums ((name labels n.place, rows) ∷ counts_under labels (n ∷ counts)) (counts_under labels (merged rows (n ∷ counts)))
merged_from labels rows n [] = two_as_one (name labels n.place) rows n.rows (rows + n.rows) [] refl
merged_from labels rows n (m ∷ counts) = pick (m.place == n.place) refl (merged_from labels (rows + n.rows) m counts) (merged_from labels 0 m counts)
  where
    more : SameSums ((name labels n.place, rows) ∷ counts_under labels (n ∷ m ∷ counts)) ((name labels n.place, rows + n.rows) ∷ counts_under labels (m ∷ counts))
    more = two_as_one (name labels n.place) rows n.rows (rows + n.rows) (counts_under labels (m ∷ counts)) refl

    pick : (b : Bool) → (m.place == n.place) ≡ b
        → SameSums ((name labels m.place, rows + n.rows) ∷ counts_under labels (m ∷ counts)) (counts_under labels (merged (rows + n.rows) (m ∷ counts)))
        → SameSums ((name labels m.place, 0) ∷ counts_under labels (m ∷ counts)) (counts_under labels (merged 0 (m ∷ counts)))
        → SameSums ((name labels n.place, rows) ∷ counts_under labels (n ∷ m ∷ counts))
        (counts_under labels (if b then merged (rows + n.rows) (m ∷ counts) else record { place = n.place; rows = rows + n.rows } ∷ merged 0 (m ∷ counts)))
    pick true e joined_up apart =
        let same : m.place ≡ n.place = eqb-true m.place n.place e in
        alike_then ((name labels n.place, rows) ∷ counts_under labels (n ∷ m ∷ counts)) ((name labels n.place, rows + n.rows) ∷ counts_under labels (m ∷ counts)) (counts_under labels (merged (rows + n.rows) (m ∷ counts))) more
        (subst (λ (p : ℕ). SameSums ((name labels p, rows + n.rows) ∷ counts_under labels (m ∷ counts)) (counts_under labels (merged (rows + n.rows) (m ∷ counts)))) same joined_up)
    pick false e joined_up apart =
        alike_then ((name labels n.place, rows) ∷ counts_under labels (n ∷ m ∷ counts)) ((name labels n.place, rows + n.rows) ∷ counts_under labels (m ∷ counts))
        ((name labels n.place, rows + n.rows) ∷ counts_under labels (merged 0 (m ∷ counts))) more
        (behind_one (name labels n.place, rows + n.rows) (counts_under labels (m ∷ counts)) (counts_under labels (merged 0 (m ∷ counts)))
        (alike_then (counts_under labels (m ∷ counts)) ((name labels m.place, 0) ∷ counts_under labels (m ∷ counts)) (counts_under labels (merged 0 (m ∷ counts)))
        (alike_back ((name labels m.place, 0) ∷ counts_under labels (m ∷ counts)) (counts_under labels (m ∷ counts)) (two_as_one (name labels m.place) 0 m.rows m.rows (counts_under labels counts) (omega arith)))
        apart))

counts_merged : (labels : List Names) (counts : List Count) → SameSums (counts_under labels counts) (counts_under labels (merged 0 counts))
counts_merged labels [] = alike []
counts_merged labels (n ∷ counts) =
    alike_then (counts_under labels (n ∷ counts)) ((name labels n.place, 0) ∷ counts_under labels (n ∷ counts)) (counts_under labels (merged 0 (n ∷ counts)))
    (alike_back ((name labels n.place, 0) ∷ counts_under labels (n ∷ counts)) (counts_under labels (n ∷ counts)) (two_as_one (name labels n.place) 0 n.rows n.rows (counts_under labels counts) (omega arith)))
    (merged_from labels 0 n counts)

rise_from : (low high rows : ℕ) (counts : List Count) → CountsRise counts → AllByRecursion (λ (n : Count). n.place < high) counts → AllByRecursion (λ (n : Count). low ≤ n.place) counts → SlotsRise low high (slots_counted rows counts)
rise_from low high rows [] r w a = tt
rise_from low high rows (n ∷ []) r w a = (a.0, w.0, tt)
rise_from low high rows (n ∷ m ∷ counts) r w a = pick (m.place == n.place) refl (rise_from low high (rows + n.rows) (m ∷ counts) r.1 w.1 a.1) (rise_from (n.place + 1) high 0 (m ∷ counts) r.1 w.1)
  where
    later : (least : ℕ) (some : List Count) → least ≤ m.place → AllByRecursion (λ (o : Count). m.place ≤ o.place) some → AllByRecursion (λ (o : Count). least ≤ o.place) some
    later least [] l b = tt
    later least (o ∷ some) l b = let k : m.place ≤ o.place = b.0 in (omega (arith, l, k), later least some l b.1)

    pick : (b : Bool) → (m.place == n.place) ≡ b → SlotsRise low high (slots_counted (rows + n.rows) (m ∷ counts)) → (AllByRecursion (λ (o : Count). n.place + 1 ≤ o.place) (m ∷ counts) → SlotsRise (n.place + 1) high (slots_counted 0 (m ∷ counts)))
        → SlotsRise low high (if b then slots_counted (rows + n.rows) (m ∷ counts) else record { place = n.place; value = whole_number (rows + n.rows) } ∷ slots_counted 0 (m ∷ counts))
    pick true e joined_up apart = joined_up
    pick false e joined_up apart =
        let less : n.place < m.place = strictly_above n.place m.place r.0.0 e in
        let above : n.place + 1 ≤ m.place = omega (arith, less) in
        (a.0, w.0, apart (above, later (n.place + 1) counts above r.1.0))

pub counts_rise : (high : ℕ) (counts : List Count) → CountsRise counts → AllByRecursion (λ (n : Count). n.place < high) counts → SlotsRise 0 high (slots_counted 0 counts)
counts_rise high counts r w = rise_from 0 high 0 counts r w (least counts)
  where
    least : (some : List Count) → AllByRecursion (λ (n : Count). 0 ≤ n.place) some
    least [] = tt
    least (n ∷ some) = (omega arith, least some)

module _ (labels : List Names) (d : IsDistinct labels_eq labels) where
  none_named : (g low : ℕ) (counts : List Count) → g < low → g < length labels → SlotsRise low (length labels) (map as_slot counts) → list_any (is_at (labels_cmp (name labels g))) (keys_of (counts_under labels counts)) ≡ false
  none_named g low [] l m r = refl
  none_named g low (n ∷ counts) l m r =
      let k : low ≤ n.place = r.0 in
      let out : is_at (labels_cmp (name labels g)) (name labels n.place) ≡ false = name_same labels g n.place d m r.1 ∙ ne_eqb g n.place (λ e. absurd (omega (arith, l, k, e))) in
      ap (λ (b : Bool). b || list_any (is_at (labels_cmp (name labels g))) (keys_of (counts_under labels counts))) out ∙ none_named g (n.place + 1) counts (omega (arith, l, k)) m r.2

  counts_apart : (low : ℕ) (counts : List Count) → SlotsRise low (length labels) (map as_slot counts) → AreDistinct labels_cmp_total labels_cmp_ties (keys_of (counts_under labels counts))
  counts_apart low [] r = tt
  counts_apart low (n ∷ counts) r = (none_named n.place (n.place + 1) counts (omega arith) r.1 r.2, counts_apart (n.place + 1) counts r.2)

slot_rows : (labels : List Names) (counts : List Count) → map (row_at labels) (map as_slot counts) ≡ map number_row (counts_under labels counts)
slot_rows labels [] = refl
slot_rows labels (n ∷ counts) = ap (λ (r : List Row). number_row (name labels n.place, n.rows) ∷ r) (slot_rows labels counts)

-- ---- values under their labels

module _ (c : Counting) where
  abbrev outcome : Entry → Outcome
  outcome e = labelled (labels_of c e) e.value

  abbrev one_under : Entry → Option (Names × ℕ)
  one_under e = option_map (λ (names : Names). (names, 1)) (labels_of c e)

  abbrev ones : List Entry → Numbered
  ones es = filter_map one_under es

  abbrev rows_left : List Entry → List (Names × Row)
  rows_left es = keyed (filter_map row_of (map outcome es))

  keys_same : (es : List Entry) → keys_of (rows_left es) ≡ keys_of (ones es)
  keys_same [] = refl
  keys_same (e ∷ es) = told (keys_same es) (labels_of c e)
    where
      told : keys_of (rows_left es) ≡ keys_of (ones es) → (o : Option Names) → keys_of (keyed (cons_option (row_of (labelled o e.value)) (filter_map row_of (map outcome es)))) ≡ keys_of (cons_option (option_map (λ (names : Names). (names, 1)) o) (ones es))
      told rest None = rest
      told rest (Some names) = ap (λ (r : List Names). names ∷ r) rest

  count_same : (n : Names) (es : List Entry) → length (items_of (rows_left es) n) ≡ total n (ones es)
  count_same n [] = refl
  count_same n (e ∷ es) = told (count_same n es) (labels_of c e)
    where
      within : length (items_of (rows_left es) n) ≡ total n (ones es) → (names : Names) (row : Row) (b : Bool)
          → length (values_of (cond b ((names, row) ∷ filter (λ (item : Names × Row). is_at (labels_cmp n) item.0) (rows_left es)) (filter (λ (item : Names × Row). is_at (labels_cmp n) item.0) (rows_left es)))) ≡ (if b then 1 else 0) + total n (ones es)
      within rest names row true = let k : length (items_of (rows_left es) n) ≡ total n (ones es) = rest in omega (arith, k)
      within rest names row false = let k : length (items_of (rows_left es) n) ≡ total n (ones es) = rest in omega (arith, k)

      told : length (items_of (rows_left es) n) ≡ total n (ones es) → (o : Option Names) → length (items_of (keyed (cons_option (row_of (labelled o e.value)) (filter_map row_of (map outcome es)))) n) ≡ total n (cons_option (option_map (λ (names : Names). (names, 1)) o) (ones es))
      told rest None = rest
      told rest (Some names) = within rest names (record { labels = names; value = e.value }) (is_at (labels_cmp n) names)

  rows_counted : (es : List Entry) → map count_row (gathered (rows_left es)) ≡ sum_rows (ones es)
  unfolding gathered
  rows_counted es = each (names_among (rows_left es)) ∙ ap (λ (ks : List Names). map (sum_row (ones es)) (set_of labels_cmp ks)) (keys_same es)
    where
      each : (ns : List Names) → map count_row (map (λ (names : Names). (names, items_of (rows_left es) names)) ns) ≡ map (sum_row (ones es)) ns
      each [] = refl
      each (n ∷ ns) = λ j. record { labels = n; value = whole_number (count_same n es j) } ∷ each ns j

  -- ---- runs

  none_there : (k : ℕ) (e : Entry) (es : List Entry) → labels_of c e ≡ None → ones (replicate k e ++ es) ≡ ones es
  none_there zero e es n = refl
  none_there (suc k) e es n = ap (λ (o : Option Names). cons_option (option_map (λ (names : Names). (names, 1)) o) (ones (replicate k e ++ es))) n ∙ none_there k e es n

  as_many : (k : ℕ) (e : Entry) (names : Names) (es : List Entry) → labels_of c e ≡ Some names → SameSums (ones (replicate (suc k) e ++ es)) ((names, suc k) ∷ ones es)
  as_many k e names es s = subst (λ (z : Numbered). SameSums z ((names, suc k) ∷ ones es)) (sym (first (replicate k e ++ es))) (rest k)
    where
      first : (some : List Entry) → ones (e ∷ some) ≡ (names, 1) ∷ ones some
      first some = ap (λ (o : Option Names). cons_option (option_map (λ (n : Names). (n, 1)) o) (ones some)) s

      rest : (k : ℕ) → SameSums ((names, 1) ∷ ones (replicate k e ++ es)) ((names, suc k) ∷ ones es)
      rest zero = alike ((names, 1) ∷ ones es)
      rest (suc k) =
          subst (λ (z : Numbered). SameSums ((names, 1) ∷ z) ((names, suc (suc k)) ∷ ones es)) (sym (first (replicate k e ++ es)))
          (alike_then ((names, 1) ∷ (names, 1) ∷ ones (replicate k e ++ es)) ((names, 1) ∷ (names, suc k) ∷ ones es) ((names, suc (suc k)) ∷ ones es)
          (behind_one (names, 1) ((names, 1) ∷ ones (replicate k e ++ es)) ((names, suc k) ∷ ones es) (rest k)) (two_as_one names 1 (suc k) (suc (suc k)) (ones es) (omega arith)))

  pub runs_same : (runs : List Run) → AllByRecursion (λ (r : Run). 0 < r.rows) runs → SameSums (ones (rolled_out runs)) (runs_under c runs)
  runs_same [] a = alike []
  runs_same (r ∷ runs) a = told (runs_same runs a.1) (labels_of c r.entry) refl r.rows refl a.0
    where
      told : SameSums (ones (rolled_out runs)) (runs_under c runs) → (o : Option Names) → labels_of c r.entry ≡ o → (k : ℕ) → r.rows ≡ k → 0 < k
          → SameSums (ones (replicate k r.entry ++ rolled_out runs)) (cons_option (option_map (λ (names : Names). (names, k)) o) (runs_under c runs))
      told rest o e zero q p = absurd (omega (arith, p))
      told rest None e (suc k) q p = subst (λ (z : Numbered). SameSums z (runs_under c runs)) (sym (none_there (suc k) r.entry (rolled_out runs) e)) rest
      told rest (Some names) e (suc k) q p =
          alike_then (ones (replicate (suc k) r.entry ++ rolled_out runs)) ((names, suc k) ∷ ones (rolled_out runs)) ((names, suc k) ∷ runs_under c runs)
          (as_many k r.entry names (rolled_out runs) e) (behind_one (names, suc k) (ones (rolled_out runs)) (runs_under c runs) rest)

  -- ---- marks

  abbrev are_lost : List Entry → Bool
  are_lost es = list_any (λ (e : Entry). is_none (labels_of c e)) es

  marks_from : (b : Bool) (es : List Entry) → fold (insert_key mark_cmp) (overflow_if b) (filter_map mark_of (map outcome es)) ≡ overflow_if (b || are_lost es)
  marks_from b [] = ap overflow_if (same b)
    where
      same : (b : Bool) → b ≡ (b || false)
      same true = refl
      same false = refl
  marks_from b (e ∷ es) = told (marks_from b es) (marks_from true es) (labels_of c e)
    where
      with_one : (b : Bool) → insert_key mark_cmp (overflow_if b) Overflow ≡ overflow_if true
      with_one true = refl
      with_one false = refl

      any : (b : Bool) → true ≡ (b || true)
      any true = refl
      any false = refl

      told : fold (insert_key mark_cmp) (overflow_if b) (filter_map mark_of (map outcome es)) ≡ overflow_if (b || are_lost es) → fold (insert_key mark_cmp) (overflow_if true) (filter_map mark_of (map outcome es)) ≡ overflow_if true
          → (o : Option Names) → fold (insert_key mark_cmp) (overflow_if b) (cons_option (mark_of (labelled o e.value)) (filter_map mark_of (map outcome es))) ≡ overflow_if (b || (is_none o || are_lost es))
      told same more (Some names) = same
      told same more None = ap (λ (ms : List Mark). fold (insert_key mark_cmp) ms (filter_map mark_of (map outcome es))) (with_one b) ∙ more ∙ ap overflow_if (any b)

  lost_again : (k : ℕ) (e : Entry) (es : List Entry) → are_lost (replicate (suc k) e ++ es) ≡ (is_none (labels_of c e) || are_lost es)
  lost_again zero e es = refl
  lost_again (suc k) e es = ap (λ (b : Bool). is_none (labels_of c e) || b) (lost_again k e es) ∙ twice (is_none (labels_of c e)) (are_lost es)
    where
      twice : (a b : Bool) → (a || (a || b)) ≡ (a || b)
      twice true b = refl
      twice false b = refl

  lost_same : (runs : List Run) → AllByRecursion (λ (r : Run). 0 < r.rows) runs → are_lost (rolled_out runs) ≡ has_lost c runs
  lost_same [] a = refl
  lost_same (r ∷ runs) a = told (lost_same runs a.1) r.rows a.0
    where
      told : are_lost (rolled_out runs) ≡ has_lost c runs → (k : ℕ) → 0 < k → are_lost (replicate k r.entry ++ rolled_out runs) ≡ (is_none (labels_of c r.entry) || has_lost c runs)
      told rest zero p = absurd (omega (arith, p))
      told rest (suc k) p = lost_again k r.entry (rolled_out runs) ∙ ap (λ (b : Bool). is_none (labels_of c r.entry) || b) rest

  marks_same : (marks : Marks) (runs : List Run) (lost : Bool) → AllByRecursion (λ (r : Run). 0 < r.rows) runs → lost ≡ has_lost c runs
      → united marks (record { fatal = overflow_if lost; notes = [] }) ≡ with_fatal marks (filter_map mark_of (map outcome (rolled_out runs)))
  marks_same marks runs lost a l =
      ap (λ (ms : List Mark). united marks (record { fatal = ms; notes = [] })) (ap overflow_if (l ∙ sym (lost_same runs a)) ∙ sym (marks_from false (rolled_out runs)))

-- ---- the order of rows

counting_order : (marks : Marks) (xs ys : List Outcome) → Shuffled xs ys → tallied (taken marks xs) ≡ tallied (taken marks ys)
unfolding gathered
counting_order marks xs ys s =
    let kx : List (Names × Row) = keyed (filter_map row_of xs) in
    let ky : List (Names × Row) = keyed (filter_map row_of ys) in
    let same : Shuffled kx ky = mapped_shuffled (λ (row : Row). (row.labels, row)) (filter_map row_of xs) (filter_map row_of ys) (chosen_shuffled row_of xs ys s) in
    let names = names_shuffled kx ky same in
    let rows : map count_row (gathered kx) ≡ map count_row (gathered ky) = each kx ky same (names_among kx) ∙ ap (λ (ns : List Names). map count_row (map (λ (n : Names). (n, items_of ky n)) ns)) names in
    let more = fatal_shuffled marks (filter_map mark_of xs) (filter_map mark_of ys) (chosen_shuffled mark_of xs ys s) in
    λ j. record { table = record { rows = rows j }; marks = more j }
  where
    each : (kx ky : List (Names × Row)) → Shuffled kx ky → (ns : List Names) → map count_row (map (λ (n : Names). (n, items_of kx n)) ns) ≡ map count_row (map (λ (n : Names). (n, items_of ky n)) ns)
    each kx ky s [] = refl
    each kx ky s (n ∷ ns) =
        let many : length (items_of kx n) ≡ length (items_of ky n) = sym (length_permutation (items_of kx n) (items_of ky n) (to_permutation (items_of kx n) (items_of ky n) (items_shuffled kx ky s n))) in
        λ j. record { labels = n; value = whole_number (many j) } ∷ each kx ky s ns j

-- ---- slots that are fed

labels_same : (is_set left_out : Bool) (label : List ℕ) (a b : Names) (v : XFrac) → is_set ≡ not left_out → a ≡ b
    → (if is_set then with_label a label (spelling v) else Some a) ≡ (if left_out then Some b else with_label b label (spelling v))
labels_same is_set true label a b v e s = ap (λ (t : Bool). if t then with_label a label (spelling v) else Some a) e ∙ ap (λ (z : Names). Some z) s
labels_same is_set false label a b v e s = ap (λ (t : Bool). if t then with_label a label (spelling v) else Some a) e ∙ ap (λ (z : Names). with_label z label (spelling v)) s

outcomes_same : (by : Grouping) (fed : List Names) (c : Counting) (slots : List Slot) → IsCounting by fed c → AreWithin (length fed) slots
    → map (outcome c) (map (entry_of c.places.now) slots) ≡ map (counting_outcome by c.label.now) (map (row_at fed) slots)
outcomes_same by fed c [] i w = refl
outcomes_same by fed c (s ∷ slots) i w =
    let named = (group_named by fed c.groups.now c.places.now i.placed s w.0).1 in
    let one = labels_same c.is_set (is_left_out by c.label.now) c.label.now (name c.groups.now (number_at c.places.now s)) (kept_labels by (get_or fed s.place [])) s.value i.set named in
    λ j. labelled (one j) s.value ∷ outcomes_same by fed c slots i w.1 j

pub step_counted : LentRowsAreTables → LentRowsAreThoseOfSlots → TableIsOneOrder → (by : Grouping) (fed labels : List Names) (c : Counting) (slots : List Slot) (own : Marks) (counts : List Count) (lost : Bool)
    → IsDistinct labels_eq fed → IsDistinct labels_eq labels → SlotsRise 0 (length fed) slots → IsCounting by fed c → AreTallied c slots labels counts lost
    → step_of (entries_of labels (slots_counted 0 counts)) (united own (record { fatal = overflow_if lost; notes = [] })) ≡ counted by c.label.now (step_of (entries_of fed slots) own)
step_counted tables law one_order by fed labels c slots own counts lost df dl rise i t =
    let w : AreWithin (length fed) slots = within_all 0 (length fed) slots rise in
    let fed_step : PlacedStep = record { at = record { 0 = pos 0 }; slots = slots; marks = own } in
    let rows : List Row = (step_of (entries_of fed slots) own).table.rows in
    let there : Shuffled (rows_at fed slots) rows = law (record { labels = fed; steps = [] }) fed_step (record { distinct = df; placed = tt; rising = tt }) rise in
    let rows_in : Shuffled (map (row_at fed) slots) rows = subst (λ (z : List Row). Shuffled z rows) (rows_are fed slots w) there in
    let es : List Entry = rolled_out t.runs in
    let listed : List Entry = map (entry_of c.places.now) slots in
    let all : Numbered = ones c es in
    let made : List Count = merged 0 counts in
    let under : Numbered = counts_under labels made in
    let sums : SameSums all under =
    alike_then all (runs_under c t.runs) under (runs_same c t.runs t.some)
    (subst (λ (z : Numbered). SameSums z under) t.under
    (alike_then (counts_under labels t.found) (counts_under labels counts) under
    (in_another_order (counts_under labels t.found) (counts_under labels counts) (mapped_shuffled (λ (n : Count). (name labels n.place, n.rows)) t.found counts (from_permutation t.found counts t.sorted)))
    (counts_merged labels counts))) in
    let slots_rise : SlotsRise 0 (length labels) (map as_slot made) = subst (SlotsRise 0 (length labels)) (slots_are 0 counts) (counts_rise (length labels) counts t.rise t.within) in
    let put : PlacedStep = record { at = record { 0 = pos 0 }; slots = map as_slot made; marks = own } in
    let table : List Row = (step_of (entries_of labels (map as_slot made)) own).table.rows in
    let mine : Shuffled (rows_at labels (map as_slot made)) table = law (record { labels = labels; steps = [] }) put (record { distinct = dl; placed = tt; rising = tt }) slots_rise in
    let mine_rows : Shuffled (map number_row under) table = subst (λ (z : List Row). Shuffled z table) (rows_are labels (map as_slot made) (within_all 0 (length labels) (map as_slot made) slots_rise) ∙ slot_rows labels made) mine in
    let theirs : Shuffled (map number_row under) (sum_rows all) = subst (Shuffled (map number_row under)) (sym (same_rows all under sums)) (rows_of_sums under (counts_apart labels dl 0 made slots_rise)) in
    let same_table : table ≡ sum_rows all = one_order table (sum_rows all) (tables labels put) (rows_are_table all) (joined table (map number_row under) (sum_rows all) (turned_back (map number_row under) table mine_rows) theirs) in
    let same_rows' : (step_of (entries_of labels (slots_counted 0 counts)) own).table.rows ≡ map count_row (gathered (rows_left c es)) =
    ap (λ (z : List Slot). (step_of (entries_of labels z) own).table.rows) (slots_are 0 counts) ∙ same_table ∙ sym (rows_counted c es) in
    let same_marks = marks_same c own t.runs lost t.some t.some_lost in
    let step : step_of (entries_of labels (slots_counted 0 counts)) (united own (record { fatal = overflow_if lost; notes = [] })) ≡ tallied (taken own (map (outcome c) es)) =
    λ j. record { table = record { rows = same_rows' j }; marks = same_marks j } in
    step
    ∙ counting_order own (map (outcome c) es) (map (outcome c) listed) (mapped_shuffled (outcome c) es listed (turned_back listed es (from_permutation listed es t.moved)))
    ∙ ap (λ (os : List Outcome). tallied (taken own os)) (outcomes_same by fed c slots i w)
    ∙ counting_order own (map (counting_outcome by c.label.now) (map (row_at fed) slots)) (map (counting_outcome by c.label.now) rows) (mapped_shuffled (counting_outcome by c.label.now) (map (row_at fed) slots) rows rows_in)
