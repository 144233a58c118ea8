-- The rows of a lent step are as many as its slots, and its points stand under the labels of these.
use Rattle.std.proofs.Common.{◌≡◌, ◌∙◌, ◌+◌, ℕ, suc, false, List, [], ◌∷◌, length, map, refl, sym, ap, subst, Option, None, Some}
use Rattle.std.specs.List.{cons_option, filter_map}
use Rattle.std.specs.List.Sorted.{IsStrictlySortedBy}
use Rattle.std.specs.Map.{keys_of}
use Rattle.std.specs.Option.{option_map}
use Rattle.label_set.specs.Labels.{labels_cmp}
use Rattle.promql_meaning.specs.declared.answer.Point.{Point}
use Rattle.promql_meaning.specs.Results.{points_at}
use Rattle.step_batch.specs.Laws.{LentRowsAreTables, LentRowsAreThoseOfSlots, rows_at}
use Rattle.step_batch.specs.Lent.{IsLent, Lent, SlotsRise, entries_of, row_of, stage_of}
use Rattle.step_batch.specs.declared.steps.PlacedStep.{PlacedStep}
use Rattle.step_batch.specs.declared.steps.Slot.{Slot}
use Rattle.step_table.specs.Alike.{none_shared}
use Rattle.step_table.specs.Gathering.{gathered_single, single}
use Rattle.step_table.specs.Groups.{Names, alone, has_several, items_of, shared_names, shared_of}
use Rattle.step_table.specs.Shuffles.{Shuffled}
use Rattle.step_table.specs.Shuffling.{alone_shuffled, items_shuffled, mapped_shuffled, several_shuffled}
use Rattle.step_table.specs.declared.marks.Marks.{Marks}
use Rattle.step_table.specs.declared.step.Row.{Row}
use Rattle.ticks.specs.declared.moment.Ms.{Ms}
use Rattle.xfrac.specs.declared.value.XFrac.{XFrac}
use Rattle.result_rows.specs.Taken.{points_of}
use Rattle.result_rows.proofs.Placing.{some_at}

-- ---- how many

same_length : {A : Type 0} (xs ys : List A) → Shuffled xs ys → length xs ≡ length ys
same_length xs ys Shuffled.none = refl
same_length xs ys (Shuffled.kept x ps qs s) = ap suc (same_length ps qs s)
same_length xs ys (Shuffled.swapped x y ps) = refl
same_length xs ys (Shuffled.joined ps qs rs s t) = same_length ps qs s ∙ same_length qs rs t

entries_counted : (labels : List Names) (low : ℕ) (slots : List Slot) → SlotsRise low (length labels) slots → length (entries_of labels slots) ≡ length slots
entries_counted labels low [] r = refl
entries_counted labels low (s ∷ slots) r =
    let some = some_at labels s.place r.1 in
    ap (λ (o : Option Names). length (cons_option (option_map (λ (names : Names). (names, s.value)) o) (entries_of labels slots))) some.1
    ∙ ap suc (entries_counted labels (s.place + 1) slots r.2)

mapped_length : {A B : Type 0} (f : A → B) (xs : List A) → length (map f xs) ≡ length xs
mapped_length f [] = refl
mapped_length f (x ∷ xs) = ap suc (mapped_length f xs)

module _ (law : LentRowsAreThoseOfSlots) (lent : Lent) (s : PlacedStep) (is : IsLent lent) (rise : SlotsRise 0 (length lent.labels) s.slots) where
  pub rows_counted : length (stage_of lent.labels s).step.table.rows ≡ length s.slots
  rows_counted =
      sym (same_length (rows_at lent.labels s) (stage_of lent.labels s).step.table.rows (law lent s is rise))
      ∙ mapped_length row_of (entries_of lent.labels s.slots) ∙ entries_counted lent.labels 0 s.slots rise

-- ---- the same points

short_same : {A : Type 0} (xs ys : List A) → has_several ys ≡ false → Shuffled xs ys → xs ≡ ys
short_same xs ys h s = both xs ys (several_shuffled xs ys s ∙ h) h (alone_shuffled xs ys s)
  where
    both : {A : Type 0} (xs ys : List A) → has_several xs ≡ false → has_several ys ≡ false → alone xs ≡ alone ys → xs ≡ ys
    both [] [] h k e = refl
    both [] (y ∷ []) h k e = absurd (cc)
    both [] (y ∷ z ∷ ys) h k e = absurd (cc)
    both (x ∷ []) [] h k e = absurd (cc)
    both (x ∷ []) (y ∷ []) h k e = let same : x ≡ y = cc in ap (λ z. z ∷ []) same
    both (x ∷ []) (y ∷ z ∷ ys) h k e = absurd (cc)
    both (x ∷ z ∷ xs) ys h k e = absurd (cc)

none_single : {T : Type 0} (items : List (Names × T)) → filter_map shared_of (map single items) ≡ []
none_single [] = refl
none_single (item ∷ items) = none_single items

abbrev point_at : Ms → Row → Names × Point
point_at at row = (row.labels, record { at = at; value = row.value })

points_are : (at : Ms) (entries : List (Names × XFrac)) → map (point_at at) (map row_of entries) ≡ points_of at entries
points_are at [] = refl
points_are at (e ∷ entries) = ap (λ r. (e.0, record { at = at; value = e.1 }) ∷ r) (points_are at entries)

keys_are : (at : Ms) (rows : List Row) → keys_of (map (point_at at) rows) ≡ map (λ (row : Row). row.labels) rows
keys_are at [] = refl
keys_are at (row ∷ rows) = ap (λ r. row.labels ∷ r) (keys_are at rows)

module _ (table : LentRowsAreTables) (law : LentRowsAreThoseOfSlots) (lent : Lent) (s : PlacedStep) (is : IsLent lent) (rise : SlotsRise 0 (length lent.labels) s.slots) where
  pub points_same : (q : Names) → items_of (points_of s.at (entries_of lent.labels s.slots)) q ≡ items_of (points_at (stage_of lent.labels s)) q
  points_same q =
      let rows = (stage_of lent.labels s).step.table.rows in
      let points = map (point_at s.at) rows in
      let sorted : IsStrictlySortedBy labels_cmp (keys_of points) = subst (IsStrictlySortedBy labels_cmp) (sym (keys_are s.at rows)) (table lent.labels s) in
      let none : shared_names points ≡ [] = ap (filter_map shared_of) (gathered_single points sorted) ∙ none_single points in
      let shuffled : Shuffled (points_of s.at (entries_of lent.labels s.slots)) points =
      subst (λ (items : List (Names × Point)). Shuffled items points) (points_are s.at (entries_of lent.labels s.slots)) (mapped_shuffled (point_at s.at) (rows_at lent.labels s) rows (law lent s is rise)) in
      short_same (items_of (points_of s.at (entries_of lent.labels s.slots)) q) (items_of points q) (none_shared points none q) (items_shuffled (points_of s.at (entries_of lent.labels s.slots)) points shuffled q)

-- ---- a step of a batch

pub step_is : (o : Option PlacedStep) (at : Ms) (slots : List Slot) (marks : Marks) → option_map (λ (s : PlacedStep). s.at) o ≡ Some at → option_map (λ (s : PlacedStep). s.slots) o ≡ Some slots → option_map (λ (s : PlacedStep). s.marks) o ≡ Some marks
    → o ≡ Some (record { at = at; slots = slots; marks = marks })
step_is None at slots marks a b c = absurd (cc)
step_is (Some s) at slots marks a b c =
    let e : s.at ≡ at = cc in
    let f : s.slots ≡ slots = cc in
    let g : s.marks ≡ marks = cc in
    λ i. Some (record { at = e i; slots = f i; marks = g i })
