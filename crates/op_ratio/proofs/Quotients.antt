-- The quotients of slots are the ratio of the steps that they stand for.
use Rattle.std.proofs.Common.{◌≡◌, ◌⊎◌, ◌∙◌, ◌+◌, ◌<◌, ℕ, zero, suc, arith, Bool, true, false, cond, List, [], ◌∷◌, ◌++◌, length, get_or, slice_get, map, refl, sym, ap, subst, Option, None, Some, inl, inr}
use Rattle.std.specs.Prelude.{pos}
use Rattle.std.specs.BTreeMap.{is_at}
use Rattle.std.specs.List.{AllByRecursion, IsDistinct}
use Rattle.std.specs.List.Sorted.{IsStrictlySortedBy}
use Rattle.std.specs.Map.{lookup}
use Rattle.std.specs.Ordering.{is_eq}
use Rattle.std.specs.declared.cmp.Ordering.{Ordering}
use Rattle.std.specs.declared.cmp.Ordering.TheVariants.{Less, Equal, Greater}
use Rattle.std.proofs.lemmas.Bool.{false≢true}
use Rattle.std.proofs.lemmas.Cmp.{tied_itself}
use Rattle.label_set.specs.LabelEquality.{labels_decide, labels_eq}
use Rattle.label_set.specs.LabelOrder.{labels_cmp_ties, labels_cmp_total}
use Rattle.label_set.specs.Labels.{labels_cmp}
use Rattle.logical_plan.specs.PlanRules.{divided_by, keyed, ratio, ratio_outcome}
use Rattle.step_batch.specs.Laws.{LentRowsAreTables, LentRowsAreThoseOfSlots}
use Rattle.step_batch.specs.Lent.{SlotsRise, entries_of, row_of, step_of}
use Rattle.step_batch.specs.declared.steps.PlacedStep.{PlacedStep}
use Rattle.step_batch.specs.declared.steps.Slot.{Slot}
use Rattle.step_put.specs.Placed.{made_step, outcomes_of}
use Rattle.step_put.specs.Puts.{AreAt}
use Rattle.step_put.specs.declared.labels_left.Left.{Left}
use Rattle.step_put.specs.declared.labels_left.Left.TheVariants as kind
use Rattle.step_put.specs.declared.placed.PlacedOutcome.{PlacedOutcome}
use Rattle.step_table.specs.Gathering.{settled_table}
use Rattle.step_table.specs.Groups.{Names}
use Rattle.step_table.specs.Laws.{TakenIsTable}
use Rattle.step_table.specs.Outcomes.{settled, taken}
use Rattle.step_table.specs.Shuffles.{OutcomesIgnoreOrder, Shuffled, none, kept, swapped, joined}
use Rattle.step_table.specs.Shuffling.{mapped_shuffled}
use Rattle.step_table.specs.Timed.{StepAt}
use Rattle.step_table.specs.Unions.{united}
use Rattle.step_table.specs.WellFormed.{IsTable}
use Rattle.step_table.specs.declared.marks.Marks.{Marks}
use Rattle.step_table.specs.declared.outcomes.Outcome.{Outcome}
use Rattle.step_table.specs.declared.step.Row.{Row}
use Rattle.step_table.specs.declared.step.Step.{Step}
use Rattle.ticks.specs.declared.moment.Ms.{Ms}
use Rattle.xfrac.specs.declared.value.XFrac.{XFrac}
use Rattle.op_ratio.specs.Counts.{AreQuotients, HasCount, IsCount, number_of}
use Rattle.op_ratio.specs.Ratios.{ratio_at}
use Rattle.op_ratio.proofs.Naming.{at_place}

-- ---- labels that are distinct

all_get : (P : Names → Type 0) (xs : List Names) (i : ℕ) (x : Names) → slice_get xs i ≡ Some x → AllByRecursion P xs → P x
all_get P [] i x h a = absurd (cc)
all_get P (y ∷ xs) zero x h a = let e : y ≡ x = cc in subst P e a.0
all_get P (y ∷ xs) (suc i) x h a = all_get P xs i x h a.1

never_equal : (a b : Names) → a ≡ b → labels_eq a b ≡ false → ⊥
never_equal a b e h = false≢true (sym h ∙ (labels_decide a b (labels_eq a b) refl).1 e)

-- labels have one place
one_place : (labels : List Names) (i j : ℕ) (n : Names) → IsDistinct labels_eq labels → slice_get labels i ≡ Some n → slice_get labels j ≡ Some n → i ≡ j
unfolding IsDistinct
one_place [] i j n d h k = absurd (cc)
one_place (l ∷ labels) zero zero n d h k = refl
one_place (l ∷ labels) zero (suc j) n d h k = let e : l ≡ n = cc in absurd (never_equal l n e (all_get (λ y. labels_eq l y ≡ false) labels j n k d.0))
one_place (l ∷ labels) (suc i) zero n d h k = let e : l ≡ n = cc in absurd (never_equal l n e (all_get (λ y. labels_eq l y ≡ false) labels i n h d.0))
one_place (l ∷ labels) (suc i) (suc j) n d h k = ap suc (one_place labels i j n d.1 h k)

unsome : {A : Type 0} (a b : A) → Some a ≡ Some b → a ≡ b
unsome a b e = cc

get_there : (labels : List Names) (i : ℕ) → i < length labels → slice_get labels i ≡ Some (get_or labels i [])
get_there [] i h = absurd (omega arith)
get_there (l ∷ labels) zero h = refl
get_there (l ∷ labels) (suc i) h = get_there labels i (omega arith)

-- ---- a row among others

-- one of some rows has these labels, and this value
abbrev HasRow : Names → XFrac → List Row → Type 0
HasRow names value [] = ⊥
HasRow names value (r ∷ rows) = ((r.labels ≡ names) × (r.value ≡ value)) ⊎ HasRow names value rows

-- none has these labels
abbrev LacksRow : Names → List Row → Type 0
LacksRow names rows = AllByRecursion (λ (r : Row). r.labels ≡ names → ⊥) rows

has_shuffled : (names : Names) (value : XFrac) (xs ys : List Row) → Shuffled xs ys → HasRow names value xs → HasRow names value ys
has_shuffled names value _ _ none h = h
has_shuffled names value _ _ (kept x us vs s) (inl e) = inl e
has_shuffled names value _ _ (kept x us vs s) (inr h) = inr (has_shuffled names value us vs s h)
has_shuffled names value _ _ (swapped x y us) (inl e) = inr (inl e)
has_shuffled names value _ _ (swapped x y us) (inr (inl e)) = inl e
has_shuffled names value _ _ (swapped x y us) (inr (inr h)) = inr (inr h)
has_shuffled names value _ _ (joined us vs ws s t) h = has_shuffled names value vs ws t (has_shuffled names value us vs s h)

lacks_first : (names : Names) (r : Row) (rows : List Row) → LacksRow names (r ∷ rows) → r.labels ≡ names → ⊥
lacks_first names r rows l = l.0

lacks_more : (names : Names) (r : Row) (rows : List Row) → LacksRow names (r ∷ rows) → LacksRow names rows
lacks_more names r rows l = l.1

lacks_shuffled : (names : Names) (xs ys : List Row) → Shuffled xs ys → LacksRow names xs → LacksRow names ys
lacks_shuffled names _ _ none l = l
lacks_shuffled names _ _ (kept x us vs s) l = (l.0, lacks_shuffled names us vs s l.1)
lacks_shuffled names _ _ (swapped x y us) l =
    let rest : LacksRow names (y ∷ us) = lacks_more names x (y ∷ us) l in
    (lacks_first names y us rest, (lacks_first names x (y ∷ us) l, lacks_more names y us rest))
lacks_shuffled names _ _ (joined us vs ws s t) l = lacks_shuffled names vs ws t (lacks_shuffled names us vs s l)

is_equal : (o : Ordering) → is_eq o ≡ true → o ≡ Equal
is_equal Less h = absurd (cc)
is_equal Equal h = refl
is_equal Greater h = absurd (cc)

at_itself : (names : Names) → is_at (labels_cmp names) names ≡ true
at_itself names = ap is_eq (tied_itself labels_cmp_total names)

at_other : (names others : Names) → (others ≡ names → ⊥) → is_at (labels_cmp names) others ≡ false
at_other names others f = one (is_at (labels_cmp names) others) refl
  where
    one : (b : Bool) → is_at (labels_cmp names) others ≡ b → b ≡ false
    one true e = absurd (f (sym (labels_cmp_ties names others (is_equal (labels_cmp names others) e))))
    one false e = refl

lookup_none : (names : Names) (rows : List Row) → LacksRow names rows → lookup (is_at (labels_cmp names)) (map keyed rows) ≡ None
lookup_none names [] l = refl
lookup_none names (r ∷ rows) l =
    ap (λ (b : Bool). cond b (Some r.value) (lookup (is_at (labels_cmp names)) (map keyed rows))) (at_other names r.labels l.0) ∙ lookup_none names rows l.1

-- labels that stand before others are other ones
before_other : (names others : Names) → labels_cmp names others ≡ Less → names ≡ others → ⊥
before_other names others h e =
    let tied : labels_cmp names others ≡ Equal = ap (labels_cmp names) (sym e) ∙ tied_itself labels_cmp_total names in
    absurd (cc)

first_other : (first names : Names) (value : XFrac) (rows : List Row) → AllByRecursion (λ (y : Names). labels_cmp first y ≡ Less) (map (λ (row : Row). row.labels) rows) → HasRow names value rows → first ≡ names → ⊥
first_other first names value [] a h e = absurd h
first_other first names value (r ∷ rows) a (inl w) e = before_other first r.labels a.0 (e ∙ sym w.0)
first_other first names value (r ∷ rows) a (inr h) e = first_other first names value rows a.1 h e

lookup_some : (names : Names) (value : XFrac) (rows : List Row) → IsTable rows → HasRow names value rows → lookup (is_at (labels_cmp names)) (map keyed rows) ≡ Some value
unfolding IsStrictlySortedBy
lookup_some names value [] t h = absurd h
lookup_some names value (r ∷ rows) t (inl w) =
    let e : is_at (labels_cmp names) r.labels ≡ true = ap (is_at (labels_cmp names)) w.0 ∙ at_itself names in
    ap (λ (b : Bool). cond b (Some r.value) (lookup (is_at (labels_cmp names)) (map keyed rows))) e ∙ ap Some w.1
lookup_some names value (r ∷ rows) t (inr h) =
    let e = at_other names r.labels (first_other r.labels names value rows t.0 h) in
    ap (λ (b : Bool). cond b (Some r.value) (lookup (is_at (labels_cmp names)) (map keyed rows))) e ∙ lookup_some names value rows t.1 h

-- ---- rows by their slots

abbrev rows_at : List Names → List Slot → List Row
rows_at labels slots = map row_of (entries_of labels slots)

abbrev row_at : List Names → Slot → Row
row_at labels slot = record { labels = get_or labels slot.place []; value = slot.value }

rows_here : (labels : List Names) (s : Slot) (slots : List Slot) → s.place < length labels → rows_at labels (s ∷ slots) ≡ row_at labels s ∷ rows_at labels slots
rows_here labels s slots h = let e = get_there labels s.place h in rw e refl

-- labels are numbered on both sides
module _ (names : List Names) (d : IsDistinct labels_eq names) (fed : List Names) (places : List ℕ) (a : AreAt names fed places) (counted : List Names) (numbers : List ℕ) (b : AreAt names counted numbers) where
  -- numbers are equal where labels are, and only there
  same_labels : (p q : ℕ) → p < length fed → q < length counted → get_or numbers q 0 ≡ get_or places p 0 → get_or counted q [] ≡ get_or fed p []
  same_labels p q h k e = unsome (get_or counted q []) (get_or fed p []) (sym (at_place names counted numbers q b k) ∙ ap (slice_get names) e ∙ at_place names fed places p a h)

  same_numbers : (p q : ℕ) → p < length fed → q < length counted → get_or counted q [] ≡ get_or fed p [] → get_or numbers q 0 ≡ get_or places p 0
  same_numbers p q h k e = one_place names (get_or numbers q 0) (get_or places p 0) (get_or fed p []) d (at_place names counted numbers q b k ∙ ap Some e) (at_place names fed places p a h)

  has_row : (s : Slot) → s.place < length fed → (value : XFrac) (low : ℕ) (counts : List Slot) → SlotsRise low (length counted) counts → HasCount numbers (number_of places s) value counts → HasRow (get_or fed s.place []) value (rows_at counted counts)
  has_row s h value low [] r x = absurd x
  has_row s h value low (c ∷ counts) r (inl w) =
      let e = same_labels s.place c.place h r.1 w.0 in
      subst (HasRow (get_or fed s.place []) value) (sym (rows_here counted c counts r.1)) (inl (e, w.1))
  has_row s h value low (c ∷ counts) r (inr x) =
      subst (HasRow (get_or fed s.place []) value) (sym (rows_here counted c counts r.1)) (inr (has_row s h value (c.place + 1) counts r.2 x))

  lacks_row : (s : Slot) → s.place < length fed → (low : ℕ) (counts : List Slot) → SlotsRise low (length counted) counts → AllByRecursion (λ (c : Slot). number_of numbers c ≡ number_of places s → ⊥) counts → LacksRow (get_or fed s.place []) (rows_at counted counts)
  lacks_row s h low [] r x = tt
  lacks_row s h low (c ∷ counts) r x =
      subst (LacksRow (get_or fed s.place [])) (sym (rows_here counted c counts r.1))
      (λ e. x.0 (same_numbers s.place c.place h r.1 e), lacks_row s h (c.place + 1) counts r.2 x.1)

  module _ (counts : List Slot) (cr : SlotsRise 0 (length counted) counts) (C : List Row) (t : IsTable C) (same : Shuffled (rows_at counted counts) C) where
    -- the count under the number of a row is the one that has its labels
    count_is : (s : Slot) → s.place < length fed → (o : Option XFrac) → IsCount numbers counts (number_of places s) o → o ≡ lookup (is_at (labels_cmp (get_or fed s.place []))) (map keyed C)
    count_is s h None x = sym (lookup_none (get_or fed s.place []) C (lacks_shuffled (get_or fed s.place []) (rows_at counted counts) C same (lacks_row s h 0 counts cr x)))
    count_is s h (Some value) x = sym (lookup_some (get_or fed s.place []) value C t (has_shuffled (get_or fed s.place []) value (rows_at counted counts) C same (has_row s h value 0 counts cr x)))

    outcomes_are : (low : ℕ) (sums : List Slot) (placed : List PlacedOutcome) → SlotsRise low (length fed) sums → AreQuotients places numbers counts sums placed → outcomes_of kind.All fed placed ≡ map (ratio_outcome C) (rows_at fed sums)
    outcomes_are low [] [] r q = refl
    outcomes_are low [] (p ∷ placed) r q = absurd q
    outcomes_are low (s ∷ sums) [] r q = absurd q
    outcomes_are low (s ∷ sums) (p ∷ placed) r q =
        let place : p.place ≡ s.place = q.0.place in
        let there : slice_get fed p.place ≡ Some (get_or fed s.place []) = ap (slice_get fed) place ∙ get_there fed s.place r.1 in
        let count = count_is s r.1 q.0.count q.0.found in
        let value : p.value ≡ (ratio_outcome C (row_at fed s)).value = q.0.value ∙ ap (λ (o : Option XFrac). divided_by o s.value) count in
        let rest = outcomes_are (s.place + 1) sums placed r.2 q.1 in
        let first : outcomes_of kind.All fed (p ∷ placed) ≡ record { labels = get_or fed s.place []; value = p.value } ∷ outcomes_of kind.All fed placed = rw there refl in
        let told : record { labels = get_or fed s.place []; value = p.value } ∷ outcomes_of kind.All fed placed ≡ ratio_outcome C (row_at fed s) ∷ map (ratio_outcome C) (rows_at fed sums) = λ j. record { labels = get_or fed s.place []; value = value j } ∷ rest j in
        first ∙ told ∙ sym (ap (map (ratio_outcome C)) (rows_here fed s sums r.1))

-- ---- the step

labels_of : (C : List Row) (rows : List Row) → map (λ (outcome : Outcome). outcome.labels) (map (ratio_outcome C) rows) ≡ map (λ (row : Row). row.labels) rows
labels_of C [] = refl
labels_of C (r ∷ rows) = ap (λ (z : List Names). r.labels ∷ z) (labels_of C rows)

-- a table's quotients are a table, which stays
ratio_stays : TakenIsTable → (S C : Step) → IsTable S.table.rows → settled (ratio S C) ≡ ratio S C
ratio_stays law S C t =
    settled_table (ratio S C) (law (united S.marks C.marks) (map (ratio_outcome C.table.rows) S.table.rows) (subst (IsStrictlySortedBy labels_cmp) (sym (labels_of C.table.rows S.table.rows)) t))

pub record Laws : Type 0 where
  pub rows : LentRowsAreThoseOfSlots
  pub tables : LentRowsAreTables
  pub order : OutcomesIgnoreOrder
  pub taken : TakenIsTable

abbrev placed_step : List Slot → Marks → PlacedStep
placed_step slots marks = record { at = record { 0 = pos 0 }; slots = slots; marks = marks }

shuffled_rows : Laws → (labels : List Names) (slots : List Slot) (marks : Marks) → IsDistinct labels_eq labels → SlotsRise 0 (length labels) slots → Shuffled (rows_at labels slots) (step_of (entries_of labels slots) marks).table.rows
shuffled_rows laws labels slots marks d r = laws.rows (record { labels = labels; steps = [] }) (placed_step slots marks) (record { distinct = d; placed = tt; rising = tt }) r

-- what is known of what is fed
pub record AreFed (names fed counted : List Names) (places numbers : List ℕ) (sums counts : List Slot) : Type 0 where
  pub distinct : IsDistinct labels_eq names
  pub sums_apart : IsDistinct labels_eq fed
  pub counts_apart : IsDistinct labels_eq counted
  pub sums_at : AreAt names fed places
  pub counts_at : AreAt names counted numbers
  pub sums_rise : SlotsRise 0 (length fed) sums
  pub counts_rise : SlotsRise 0 (length counted) counts

-- the quotients of slots are the ratio of their steps
ratio_is : Laws → (names fed counted : List Names) (places numbers : List ℕ) (sums counts : List Slot) (sum_marks count_marks : Marks) (placed : List PlacedOutcome) → AreFed names fed counted places numbers sums counts → AreQuotients places numbers counts sums placed
    → made_step kind.All fed (united sum_marks count_marks) placed ≡ ratio (step_of (entries_of fed sums) sum_marks) (step_of (entries_of counted counts) count_marks)
ratio_is laws names fed counted places numbers sums counts sum_marks count_marks placed f q =
    let S : Step = step_of (entries_of fed sums) sum_marks in
    let C : Step = step_of (entries_of counted counts) count_marks in
    let marks : Marks = united sum_marks count_marks in
    let table : IsTable C.table.rows = laws.tables counted (placed_step counts count_marks) in
    let counts_are : Shuffled (rows_at counted counts) C.table.rows = shuffled_rows laws counted counts count_marks f.counts_apart f.counts_rise in
    let sums_are : Shuffled (rows_at fed sums) S.table.rows = shuffled_rows laws fed sums sum_marks f.sums_apart f.sums_rise in
    let outcomes = outcomes_are names f.distinct fed places f.sums_at counted numbers f.counts_at counts f.counts_rise C.table.rows table counts_are 0 sums placed f.sums_rise q in
    ap (λ (z : List Outcome). settled (taken marks z)) outcomes
    ∙ laws.order marks (map (ratio_outcome C.table.rows) (rows_at fed sums)) (map (ratio_outcome C.table.rows) S.table.rows) (mapped_shuffled (ratio_outcome C.table.rows) (rows_at fed sums) S.table.rows sums_are)
    ∙ ratio_stays laws.taken S C (laws.tables fed (placed_step sums sum_marks))

-- the step that is put, by what is known of each of its parts
pub one_made : Laws → (names fed counted : List Names) (places numbers : List ℕ) (sums counts : List Slot) (sum_marks count_marks marks : Marks) (t : Ms) (s c : StepAt) (left : Left) (made : List Names) (placed : List PlacedOutcome) (old new : List StepAt)
    → AreFed names fed counted places numbers sums counts → AreQuotients places numbers counts sums placed → s ≡ record { at = t; step = step_of (entries_of fed sums) sum_marks } → c.step ≡ step_of (entries_of counted counts) count_marks
    → marks ≡ united sum_marks count_marks → left ≡ kind.All → made ≡ fed → new ≡ old ++ record { at = t; step = made_step left made marks placed } ∷ [] → new ≡ old ++ ratio_at s c ∷ []
one_made laws names fed counted places numbers sums counts sum_marks count_marks marks t s c left made placed old new f q es ec em el ef n =
    let S : Step = step_of (entries_of fed sums) sum_marks in
    let C : Step = step_of (entries_of counted counts) count_marks in
    let whole : made_step left made marks placed ≡ made_step kind.All fed (united sum_marks count_marks) placed = λ j. made_step (el j) (ef j) (em j) placed in
    let there : ratio_at s c ≡ record { at = t; step = ratio S C } = λ j. record { at = (es j).at; step = ratio (es j).step (ec j) } in
    n ∙ ap (λ (z : Step). old ++ record { at = t; step = z } ∷ []) (whole ∙ ratio_is laws names fed counted places numbers sums counts sum_marks count_marks placed f q) ∙ ap (λ (z : StepAt). old ++ z ∷ []) (sym there)
