-- The slots that are chosen are the first rows of each group.
use Rattle.std.proofs.Common.{◌≡◌, ◌∙◌, ℕ, zero, suc, ◌+◌, ◌<◌, ◌≤◌, Bool, true, false, cond, List, [], ◌∷◌, ◌++◌, length, get_or, slice_get, map, refl, sym, ap, subst, arith, Option, Some, None}
use Rattle.std.specs.Prelude.{◌&&◌, ◌==◌, nat_lt, count_by, filter, pos, unwrap_or, Ok}
use Rattle.std.specs.BTreeMap.{is_at}
use Rattle.std.specs.List.{All, AllByRecursion, IsDistinct, filter_map}
use Rattle.std.specs.List.Sorted.{IsStrictlySortedBy}
use Rattle.std.specs.Ordering.{is_lt, nat_cmp, ordering_then}
use Rattle.std.specs.declared.cmp.Ordering.TheVariants.{Less, Equal}
use Rattle.std.proofs.lemmas.Bool.{eqb-true, eq-eqb, le-ltb}
use Rattle.std.proofs.lemmas.Cmp.{nat_cmp_total, tied_itself}
use Rattle.std.proofs.lemmas.List.Elements.{All-from_recursion}
use Rattle.std.proofs.lemmas.List.Sorted.{sum_by-IsPermutation}
use Rattle.label_set.specs.LabelEquality.{labels_decide, labels_eq}
use Rattle.label_set.specs.LabelOrder.{labels_cmp_ties, labels_cmp_total, labels_eq_at}
use Rattle.label_set.specs.Labels.{labels_cmp}
use Rattle.label_set.specs.declared.rules.Grouping.{Grouping}
use Rattle.promql_meaning.specs.Givens.{marked, with_scalar}
use Rattle.promql_meaning.specs.Ranks.{first_rows, is_ahead, is_ranked, kept_labels, rank_count, ranked, ranked_to, value_order}
use Rattle.step_batch.specs.Laws.{LentRowsAreTables, LentRowsAreThoseOfSlots}
use Rattle.step_batch.specs.Lent.{SlotsRise, entries_of, row_of, step_of}
use Rattle.step_batch.specs.declared.steps.PlacedStep.{PlacedStep}
use Rattle.step_batch.specs.declared.steps.Slot.{Slot}
use Rattle.step_put.specs.Placed.{PlacesRise, made_step, outcomes_of}
use Rattle.step_put.specs.Puts.{AreAt}
use Rattle.step_put.specs.declared.labels_left.Left.TheVariants as kind
use Rattle.step_put.specs.declared.placed.PlacedOutcome.{PlacedOutcome}
use Rattle.step_table.specs.Gathering.{nothing_more, settled_table}
use Rattle.step_table.specs.Groups.{Names}
use Rattle.step_table.specs.Outcomes.{settled, taken}
use Rattle.step_table.specs.Outcomes as outcomes
use Rattle.step_table.specs.Sets.{step_of_rows}
use Rattle.step_table.specs.Shuffles.{SettledIgnoresOrder, Shuffled}
use Rattle.step_table.specs.Shuffling.{filtered_shuffled, to_permutation}
use Rattle.step_table.specs.Timed.{StepAt}
use Rattle.step_table.specs.Unions.{united, with_fatal}
use Rattle.step_table.specs.WellFormed.{IsTable}
use Rattle.step_table.specs.declared.marks.Mark.TheVariants.{Overflow}
use Rattle.step_table.specs.declared.marks.Marks.{Marks}
use Rattle.step_table.specs.declared.outcomes.Outcome.{Outcome}
use Rattle.step_table.specs.declared.step.Row.{Row}
use Rattle.step_table.specs.declared.step.Step.{Step}
use Rattle.ticks.specs.declared.moment.Ms.{Ms}
use Rattle.op_rank.specs.Contenders.{AreApart, AreRanks, as_made, chosen, goes_ahead, is_chosen}
use Rattle.op_rank.specs.Groups.{IsGrouped}
use Rattle.op_rank.specs.Rules.{count_asked, first_at, marks_asked}
use Rattle.op_rank.proofs.Firsts.{count-cons}

-- ---- places

pub get_some : {X : Type 0} (xs : List X) (i : ℕ) (d : X) → i < length xs → slice_get xs i ≡ Some (get_or xs i d)
get_some [] i d h = absurd (omega arith)
get_some (x ∷ xs) zero d h = refl
get_some (x ∷ xs) (suc i) d h = get_some xs i d (omega arith)

pub same_some : {X : Type 0} (x y : X) → Some x ≡ Some y → x ≡ y
same_some x y e = cc

pub placed_there : (groups names : List Names) (places : List ℕ) (i : ℕ) → AreAt groups names places → i < length names → slice_get groups (get_or places i 0) ≡ Some (get_or names i [])
placed_there groups [] places i a l = absurd (omega arith)
placed_there groups (n ∷ names) [] i a l = absurd a
placed_there groups (n ∷ names) (p ∷ places) zero a l = a.0
placed_there groups (n ∷ names) (p ∷ places) (suc i) a l = placed_there groups names places i a.1 (omega arith)

place_in : (groups : List Names) (p : ℕ) (n : Names) → slice_get groups p ≡ Some n → p < length groups
place_in [] p n e = absurd (cc)
place_in (g ∷ groups) zero n e = omega arith
place_in (g ∷ groups) (suc p) n e = let l = place_in groups p n e in omega (arith, l)

placed_in : (groups names : List Names) (places : List ℕ) → AreAt groups names places → AllByRecursion (λ (p : ℕ). p < length groups) places
placed_in groups [] [] a = tt
placed_in groups [] (p ∷ places) a = absurd a
placed_in groups (n ∷ names) [] a = absurd a
placed_in groups (n ∷ names) (p ∷ places) a = (place_in groups p n a.0, placed_in groups names places a.1)

pub placed_within : (groups names : List Names) (places : List ℕ) → AreAt groups names places → All (λ (p : ℕ). p < length groups) places
placed_within groups names places a = All-from_recursion (λ (p : ℕ). p < length groups) places (placed_in groups names places a)

pub placed_count : (groups names : List Names) (places : List ℕ) → AreAt groups names places → length places ≡ length names
placed_count groups [] [] a = refl
placed_count groups [] (p ∷ places) a = absurd a
placed_count groups (n ∷ names) [] a = absurd a
placed_count groups (n ∷ names) (p ∷ places) a = ap suc (placed_count groups names places a.1)

pub map_count : {A B : Type 0} (f : A → B) (xs : List A) → length (map f xs) ≡ length xs
map_count f [] = refl
map_count f (x ∷ xs) = ap suc (map_count f xs)

pub placed_as_many : (f : Names → Names) (groups fed : List Names) (places : List ℕ) → AreAt groups (map f fed) places → length places ≡ length fed
placed_as_many f groups fed places a = placed_count groups (map f fed) places a ∙ map_count f fed

pub map_there : (f : Names → Names) (fed : List Names) (i : ℕ) → i < length fed → get_or (map f fed) i [] ≡ f (get_or fed i [])
map_there f [] i l = absurd (omega arith)
map_there f (x ∷ fed) zero l = refl
map_there f (x ∷ fed) (suc i) l = map_there f fed i (omega arith)

not_among : (names : Names) (groups : List Names) (i : ℕ) → AllByRecursion (λ (g : Names). labels_eq names g ≡ false) groups → slice_get groups i ≡ Some names → ⊥
not_among names [] i a e = absurd (cc)
not_among names (g ∷ groups) zero a e =
    let same : g ≡ names = cc in
    let own : labels_eq names names ≡ true = sym (labels_eq_at names names) ∙ tied_itself' names in
    let no : labels_eq names names ≡ false = subst (λ (z : Names). labels_eq names z ≡ false) same a.0 in
    absurd (cc)
  where
    tied_itself' : (n : Names) → is_at (labels_cmp n) n ≡ true
    tied_itself' n = rw (tied_itself labels_cmp_total n) refl
not_among names (g ∷ groups) (suc i) a e = not_among names groups i a.1 e

pub one_place : (groups : List Names) (names : Names) (i j : ℕ) → IsDistinct labels_eq groups → slice_get groups i ≡ Some names → slice_get groups j ≡ Some names → i ≡ j
unfolding IsDistinct
one_place [] names i j d e f = absurd (cc)
one_place (g ∷ groups) names zero zero d e f = refl
one_place (g ∷ groups) names zero (suc j) d e f = let same : g ≡ names = cc in absurd (not_among names groups j (subst (λ (z : Names). AllByRecursion (λ (q : Names). labels_eq z q ≡ false) groups) same d.0) f)
one_place (g ∷ groups) names (suc i) zero d e f = let same : g ≡ names = cc in absurd (not_among names groups i (subst (λ (z : Names). AllByRecursion (λ (q : Names). labels_eq z q ≡ false) groups) same d.0) e)
one_place (g ∷ groups) names (suc i) (suc j) d e f = ap suc (one_place groups names i j d.1 e f)

pub at_same : (a b : Names) → is_at (labels_cmp a) b ≡ true → a ≡ b
at_same a b h = (labels_decide a b (labels_eq a b) refl).0 (sym (labels_eq_at a b) ∙ h)

-- places are equal where the labels of groups are
same_group : (by : Grouping) (fed groups : List Names) (places : List ℕ) (i j : ℕ) → IsDistinct labels_eq groups → AreAt groups (map (kept_labels by) fed) places → i < length fed → j < length fed
    → (get_or places i 0 == get_or places j 0) ≡ is_at (labels_cmp (kept_labels by (get_or fed i []))) (kept_labels by (get_or fed j []))
same_group by fed groups places i j d a l m = pick (get_or places i 0 == get_or places j 0) refl (is_at (labels_cmp (kept_labels by (get_or fed i []))) (kept_labels by (get_or fed j []))) refl
  where
    n : length (map (kept_labels by) fed) ≡ length fed
    n = map_count (kept_labels by) fed

    at_i : slice_get groups (get_or places i 0) ≡ Some (kept_labels by (get_or fed i []))
    at_i = placed_there groups (map (kept_labels by) fed) places i a (omega (arith, n)) ∙ ap (λ (z : Names). Some z) (map_there (kept_labels by) fed i l)

    at_j : slice_get groups (get_or places j 0) ≡ Some (kept_labels by (get_or fed j []))
    at_j = placed_there groups (map (kept_labels by) fed) places j a (omega (arith, n)) ∙ ap (λ (z : Names). Some z) (map_there (kept_labels by) fed j m)

    tied : (o : Names) → is_at (labels_cmp o) o ≡ true
    tied o = rw (tied_itself labels_cmp_total o) refl

    pick : (b : Bool) → (get_or places i 0 == get_or places j 0) ≡ b → (c : Bool) → is_at (labels_cmp (kept_labels by (get_or fed i []))) (kept_labels by (get_or fed j [])) ≡ c
        → (get_or places i 0 == get_or places j 0) ≡ is_at (labels_cmp (kept_labels by (get_or fed i []))) (kept_labels by (get_or fed j []))
    pick true e true f = e ∙ sym f
    pick false e false f = e ∙ sym f
    pick true e false f =
        let place : get_or places i 0 ≡ get_or places j 0 = eqb-true (get_or places i 0) (get_or places j 0) e in
        let same : kept_labels by (get_or fed i []) ≡ kept_labels by (get_or fed j []) = same_some (kept_labels by (get_or fed i [])) (kept_labels by (get_or fed j [])) (sym at_i ∙ ap (slice_get groups) place ∙ at_j) in
        let yes : is_at (labels_cmp (kept_labels by (get_or fed i []))) (kept_labels by (get_or fed j [])) ≡ true = subst (λ (z : Names). is_at (labels_cmp (kept_labels by (get_or fed i []))) z ≡ true) same (tied (kept_labels by (get_or fed i []))) in
        absurd (cc)
    pick false e true f =
        let same : kept_labels by (get_or fed i []) ≡ kept_labels by (get_or fed j []) = at_same (kept_labels by (get_or fed i [])) (kept_labels by (get_or fed j [])) f in
        let place : get_or places i 0 ≡ get_or places j 0 = one_place groups (kept_labels by (get_or fed i [])) (get_or places i 0) (get_or places j 0) d at_i (at_j ∙ ap (λ (z : Names). Some z) (sym same)) in
        let yes : (get_or places i 0 == get_or places j 0) ≡ true = eq-eqb (get_or places i 0) (get_or places j 0) place in
        absurd (cc)

-- ---- rows in the order of places

abbrev pub row_at : List Names → Slot → Row
row_at fed slot = record { labels = get_or fed slot.place []; value = slot.value }

abbrev pub rows_at : List Names → List Slot → List Row
rows_at fed slots = map row_of (entries_of fed slots)

abbrev pub AreWithin : ℕ → List Slot → Type 0
AreWithin n slots = AllByRecursion (λ (s : Slot). s.place < n) slots

pub within_all : (low n : ℕ) (slots : List Slot) → SlotsRise low n slots → AreWithin n slots
within_all low n [] r = tt
within_all low n (s ∷ slots) r = (r.1, within_all (s.place + 1) n slots r.2)

pub rows_are : (fed : List Names) (slots : List Slot) → AreWithin (length fed) slots → rows_at fed slots ≡ map (row_at fed) slots
rows_are fed [] w = refl
rows_are fed (s ∷ slots) w = let e = get_some fed s.place [] w.0 in rw e (ap (λ (r : List Row). row_at fed s ∷ r) (rows_are fed slots w.1))

module _ (down : Bool) (by : Grouping) (fed groups : List Names) (places ranks : List ℕ) (d : IsDistinct labels_eq groups) (a : AreAt groups (map (kept_labels by) fed) places) (r : AreRanks fed ranks) where
  ahead_same : (s o : Slot) → s.place < length fed → o.place < length fed → goes_ahead down places ranks s o ≡ is_ahead down by (row_at fed s) (row_at fed o)
  ahead_same s o l m =
      let same = same_group by fed groups places s.place o.place d a l m in
      let order = r.order o.place s.place (get_or fed o.place []) (get_or fed s.place []) (get_some fed o.place [] m) (get_some fed s.place [] l) in
      λ j. same j && is_lt (ordering_then (value_order down o.value s.value) (order j))

  count_same : (s : Slot) (slots : List Slot) → s.place < length fed → AreWithin (length fed) slots → count_by (goes_ahead down places ranks s) slots ≡ count_by (is_ahead down by (row_at fed s)) (map (row_at fed) slots)
  count_same s [] l w = refl
  count_same s (o ∷ slots) l w =
      count-cons (goes_ahead down places ranks s) o slots ∙ (λ j. cond (ahead_same s o l w.0 j) 1 0 + count_same s slots l w.1 j) ∙ sym (count-cons (is_ahead down by (row_at fed s)) (row_at fed o) (map (row_at fed) slots))

  chosen_from : (k : ℕ) (all some : List Slot) → AreWithin (length fed) all → AreWithin (length fed) some → map (row_at fed) (filter (is_chosen down places ranks k all) some) ≡ filter (is_ranked down by k (map (row_at fed) all)) (map (row_at fed) some)
  chosen_from k all [] w v = refl
  chosen_from k all (s ∷ some) w v =
      let same : is_chosen down places ranks k all s ≡ is_ranked down by k (map (row_at fed) all) (row_at fed s) = ap (λ (n : ℕ). nat_lt n k) (count_same s all v.0 w) in
      inside (is_chosen down places ranks k all s) ∙ (λ j. cond (same j) (row_at fed s ∷ chosen_from k all some w v.1 j) (chosen_from k all some w v.1 j))
    where
      inside : (b : Bool) → map (row_at fed) (cond b (s ∷ filter (is_chosen down places ranks k all) some) (filter (is_chosen down places ranks k all) some))
          ≡ cond b (row_at fed s ∷ map (row_at fed) (filter (is_chosen down places ranks k all) some)) (map (row_at fed) (filter (is_chosen down places ranks k all) some))
      inside true = refl
      inside false = refl

  -- what is chosen, as rows in the order of places
  chosen_rows : (k : ℕ) (slots : List Slot) → AreWithin (length fed) slots → map (row_at fed) (chosen down places ranks k slots) ≡ first_rows down by k (rows_at fed slots)
  chosen_rows k slots w = chosen_from k slots slots w w ∙ ap (first_rows down by k) (sym (rows_are fed slots w))

-- ---- the order of rows

module _ (down : Bool) (by : Grouping) (k : ℕ) (xs ys : List Row) (s : Shuffled xs ys) where
  ranked_same : (row : Row) → is_ranked down by k xs row ≡ is_ranked down by k ys row
  ranked_same row = ap (λ (n : ℕ). nat_lt n k) (sym (sum_by-IsPermutation (λ (o : Row). cond (is_ahead down by row o) 1 0) xs ys (to_permutation xs ys s)))

  first_shuffled : Shuffled (first_rows down by k xs) (first_rows down by k ys)
  first_shuffled = subst (λ (p : Row → Bool). Shuffled (first_rows down by k xs) (filter p ys)) (λ j row. ranked_same row j) (filtered_shuffled (is_ranked down by k xs) xs ys s)

abbrev labels_in : List Row → List Names
labels_in rows = map (λ (row : Row). row.labels) rows

filter_all : (P : Names → Type 0) (p : Row → Bool) (rows : List Row) → AllByRecursion P (labels_in rows) → AllByRecursion P (labels_in (filter p rows))
filter_all P p [] a = tt
filter_all P p (row ∷ rows) a = pick (p row) (filter_all P p rows a.1)
  where
    pick : (b : Bool) → AllByRecursion P (labels_in (filter p rows)) → AllByRecursion P (labels_in (cond b (row ∷ filter p rows) (filter p rows)))
    pick true rest = (a.0, rest)
    pick false rest = rest

filter_table : (p : Row → Bool) (rows : List Row) → IsTable rows → IsTable (filter p rows)
unfolding IsStrictlySortedBy
filter_table p [] t = tt
filter_table p (row ∷ rows) t = pick (p row) (filter_all (λ q. labels_cmp row.labels q ≡ Less) p rows t.0) (filter_table p rows t.1)
  where
    pick : (b : Bool) → AllByRecursion (λ q. labels_cmp row.labels q ≡ Less) (labels_in (filter p rows)) → IsStrictlySortedBy labels_cmp (labels_in (filter p rows)) → IsStrictlySortedBy labels_cmp (labels_in (cond b (row ∷ filter p rows) (filter p rows)))
    pick true all rest = (all, rest)
    pick false all rest = rest

-- ---- what is made

abbrev lone : Row → Outcome
lone row = record { labels = row.labels; value = Ok (Some row.value) }

made_outcomes : (fed : List Names) (slots : List Slot) → AreWithin (length fed) slots → outcomes_of kind.All fed (map as_made slots) ≡ map lone (map (row_at fed) slots)
made_outcomes fed [] w = refl
made_outcomes fed (s ∷ slots) w = let e = get_some fed s.place [] w.0 in rw e (ap (λ (r : List Outcome). lone (row_at fed s) ∷ r) (made_outcomes fed slots w.1))

taken_lone : (marks : Marks) (rows : List Row) → taken marks (map lone rows) ≡ step_of_rows rows marks
taken_lone marks rows = λ j. record { table = record { rows = same rows j }; marks = (ap (with_fatal marks) (none rows) ∙ nothing_more marks) j }
  where
    same : (rows : List Row) → filter_map outcomes.row_of (map lone rows) ≡ rows
    same [] = refl
    same (row ∷ rows) = ap (λ (r : List Row). row ∷ r) (same rows)

    none : (rows : List Row) → filter_map outcomes.mark_of (map lone rows) ≡ []
    none [] = refl
    none (row ∷ rows) = none rows

within_filter : (n : ℕ) (p : Slot → Bool) (slots : List Slot) → AreWithin n slots → AreWithin n (filter p slots)
within_filter n p [] w = tt
within_filter n p (s ∷ slots) w = pick (p s) (within_filter n p slots w.1)
  where
    pick : (b : Bool) → AreWithin n (filter p slots) → AreWithin n (cond b (s ∷ filter p slots) (filter p slots))
    pick true rest = (w.0, rest)
    pick false rest = rest

later_rise : (low more high : ℕ) (slots : List Slot) → low ≤ more → SlotsRise more high slots → SlotsRise low high slots
later_rise low more high [] l r = tt
later_rise low more high (s ∷ slots) l r = (omega (arith, r.0), r.1, r.2)

filter_rise : (p : Slot → Bool) (low high : ℕ) (slots : List Slot) → SlotsRise low high slots → SlotsRise low high (filter p slots)
filter_rise p low high [] r = tt
filter_rise p low high (s ∷ slots) r = pick (p s) (filter_rise p (s.place + 1) high slots r.2)
  where
    pick : (b : Bool) → SlotsRise (s.place + 1) high (filter p slots) → SlotsRise low high (cond b (s ∷ filter p slots) (filter p slots))
    pick true rest = (r.0, r.1, rest)
    pick false rest = later_rise low (s.place + 1) high (filter p slots) (omega (arith, r.0)) rest

made_rise : (low high : ℕ) (slots : List Slot) → SlotsRise low high slots → PlacesRise low high (map as_made slots)
made_rise low high [] r = tt
made_rise low high (s ∷ slots) r = (r.0, r.1, made_rise (s.place + 1) high slots r.2)

pub chosen_rise : (down : Bool) (places ranks : List ℕ) (k high : ℕ) (slots : List Slot) → SlotsRise 0 high slots → PlacesRise 0 high (map as_made (chosen down places ranks k slots))
chosen_rise down places ranks k high slots r = made_rise 0 high (chosen down places ranks k slots) (filter_rise (is_chosen down places ranks k slots) 0 high slots r)

-- the step of what is chosen
pub chosen_step : LentRowsAreTables → LentRowsAreThoseOfSlots → SettledIgnoresOrder → (down : Bool) (by : Grouping) (fed groups : List Names) (places ranks : List ℕ) (k : ℕ) (slots : List Slot) (own marks : Marks)
    → IsDistinct labels_eq fed → IsDistinct labels_eq groups → AreAt groups (map (kept_labels by) fed) places → AreRanks fed ranks → SlotsRise 0 (length fed) slots
    → made_step kind.All fed marks (map as_made (chosen down places ranks k slots)) ≡ step_of_rows (first_rows down by k (step_of (entries_of fed slots) own).table.rows) marks
chosen_step tables law order down by fed groups places ranks k slots own marks df dg a r rise =
    let w : AreWithin (length fed) slots = within_all 0 (length fed) slots rise in
    let placed : PlacedStep = record { at = record { 0 = pos 0 }; slots = slots; marks = own } in
    let rows : List Row = (step_of (entries_of fed slots) own).table.rows in
    let same : Shuffled (rows_at fed slots) rows = law (record { labels = fed; steps = [] }) placed (record { distinct = df; placed = tt; rising = tt }) rise in
    let table : IsTable rows = tables fed placed in
    let first : IsTable (first_rows down by k rows) = filter_table (is_ranked down by k rows) rows table in
    let made : outcomes_of kind.All fed (map as_made (chosen down places ranks k slots)) ≡ map lone (first_rows down by k (rows_at fed slots)) =
    made_outcomes fed (chosen down places ranks k slots) (within_filter (length fed) (is_chosen down places ranks k slots) slots w) ∙ ap (map lone) (chosen_rows down by fed groups places ranks dg a r k slots w) in
    ap (λ (z : List Outcome). settled (taken marks z)) made ∙ ap settled (taken_lone marks (first_rows down by k (rows_at fed slots)))
    ∙ order (step_of_rows (first_rows down by k (rows_at fed slots)) marks) (step_of_rows (first_rows down by k rows) marks) (record { rows = first_shuffled down by k (rows_at fed slots) rows same; marks = refl })
    ∙ settled_table (step_of_rows (first_rows down by k rows) marks) first

-- ---- the parameter

first_none : (down : Bool) (by : Grouping) (all some : List Row) → filter (is_ranked down by 0 all) some ≡ []
first_none down by all [] = refl
first_none down by all (row ∷ some) =
    let out : is_ranked down by 0 all row ≡ false = le-ltb (count_by (is_ahead down by row) all) 0 (omega arith) in
    ap (λ (b : Bool). cond b (row ∷ filter (is_ranked down by 0 all) some) (filter (is_ranked down by 0 all) some)) out ∙ first_none down by all some

-- the rule by how many rows are asked for
abbrev step_asked : Bool → Grouping → List Row → Marks → Option ℕ → Step
step_asked down by rows marks count = step_of_rows (first_rows down by (unwrap_or count 0) rows) (marks_asked count marks)

ranked_asked : (down : Bool) (by : Grouping) (step : Step) (count : Option ℕ) → ranked_to down by step count ≡ step_asked down by step.table.rows step.marks count
ranked_asked down by step None = ap (λ (rows : List Row). step_of_rows rows (with_fatal step.marks (Overflow ∷ []))) (sym (first_none down by step.table.rows step.table.rows))
ranked_asked down by step (Some k) = refl

rule_asked : (down : Bool) (by : Grouping) (step : Step) (params : List Names) (pslots : List Slot) (pmarks : Marks) → SlotsRise 0 (length params) pslots → length pslots ≤ 1
    → with_scalar (λ k. ranked down by k) (step_of (entries_of params pslots) pmarks) step ≡ step_asked down by step.table.rows (united step.marks pmarks) (count_asked pslots)
rule_asked down by step params [] pmarks r f = ap (λ (rows : List Row). step_of_rows rows (united step.marks pmarks)) (sym (first_none down by step.table.rows step.table.rows))
rule_asked down by step params (p ∷ []) pmarks r f =
    let e = get_some params p.place [] r.1 in
    rw e (ranked_asked down by (marked pmarks step) (rank_count p.value))
rule_asked down by step params (p ∷ q ∷ pslots) pmarks r f = absurd (omega arith)

-- the step that is put, by what is known of each of its parts
pub one_made : LentRowsAreTables → LentRowsAreThoseOfSlots → SettledIgnoresOrder → (down : Bool) (by : Grouping) (fed params : List Names) (places ranks : List ℕ) (slots pslots : List Slot) (own more : Marks) (t : Ms) (p s : StepAt)
    → (names : List Names) (count : Option ℕ) (marks : Marks) (placed : List PlacedOutcome) (old new : List StepAt)
    → IsGrouped by fed places → AreRanks fed ranks → IsDistinct labels_eq fed → SlotsRise 0 (length fed) slots → SlotsRise 0 (length params) pslots → length pslots ≤ 1
    → p.step ≡ step_of (entries_of params pslots) more → s ≡ record { at = t; step = step_of (entries_of fed slots) own }
    → names ≡ fed → count ≡ count_asked pslots → marks ≡ marks_asked count (united own more) → placed ≡ map as_made (chosen down places ranks (unwrap_or count 0) slots)
    → new ≡ old ++ record { at = t; step = made_step kind.All names marks placed } ∷ [] → new ≡ old ++ first_at down by p s ∷ []
one_made tables law order down by fed params places ranks slots pslots own more t p s names count marks placed old new g r d rise prise few ep es en ec em epl n =
    let step : Step = step_of (entries_of fed slots) own in
    let made : made_step kind.All names marks placed ≡ made_step kind.All fed (marks_asked count (united own more)) (map as_made (chosen down places ranks (unwrap_or count 0) slots)) = λ j. made_step kind.All (en j) (em j) (epl j) in
    let chose : made_step kind.All fed (marks_asked count (united own more)) (map as_made (chosen down places ranks (unwrap_or count 0) slots)) ≡ step_asked down by step.table.rows (united own more) count =
    chosen_step tables law order down by fed g.0 places ranks (unwrap_or count 0) slots own (marks_asked count (united own more)) d g.1 g.2 r rise in
    let asked : step_asked down by step.table.rows (united own more) count ≡ with_scalar (λ k. ranked down by k) (step_of (entries_of params pslots) more) step =
    ap (step_asked down by step.table.rows (united own more)) ec ∙ sym (rule_asked down by step params pslots more prise few) in
    let there : first_at down by p s ≡ record { at = t; step = with_scalar (λ k. ranked down by k) (step_of (entries_of params pslots) more) step } = λ j. record { at = (es j).at; step = with_scalar (λ k. ranked down by k) (ep j) (es j).step } in
    n ∙ ap (λ (z : Step). old ++ record { at = t; step = z } ∷ []) (made ∙ chose ∙ asked) ∙ ap (λ (z : StepAt). old ++ z ∷ []) (sym there)

-- ranks of labels of which no two are equal
pub ranks_apart : (fed : List Names) (ranks : List ℕ) → IsDistinct labels_eq fed → AreRanks fed ranks → AreApart ranks
ranks_apart fed ranks d r i j l m e =
    let a : Names = get_or fed i [] in
    let b : Names = get_or fed j [] in
    let at_i = get_some fed i [] (let n = r.count in omega (arith, n, l)) in
    let at_j = get_some fed j [] (let n = r.count in omega (arith, n, m)) in
    let tie : labels_cmp a b ≡ Equal = sym (r.order i j a b at_i at_j) ∙ ap (λ (n : ℕ). nat_cmp n (get_or ranks j 0)) e ∙ tied_itself nat_cmp_total (get_or ranks j 0) in
    let same : a ≡ b = labels_cmp_ties a b tie in
    one_place fed a i j d at_i (at_j ∙ ap (λ (z : Names). Some z) (sym same))
