-- What is joined doesn't depend on the order of engines.
use Rattle.std.proofs.Common.{◌≡◌, ◌∙◌, ◌+◌, Bool, true, false, ◌||◌, List, [], ◌∷◌, ◌++◌, map, refl, sym, ap, arith, Some}
use Rattle.std.specs.Prelude.{Ok}
use Rattle.std.specs.List.Sorted.{IsStrictlySortedBy}
use Rattle.std.specs.List.{AllByRecursion, filter_map}
use Rattle.std.specs.Option.{ok_or, option_map, option_and_then}
use Rattle.std.proofs.lemmas.List.Elements.{All-from_recursion, recursion_from_All}
use Rattle.func_table.specs.declared.table.Aggregate.{Aggregate}
use Rattle.holders.specs.Joins.{both_of}
use Rattle.xfrac.specs.Arithmetic.{whole_number}
use Rattle.xfrac.specs.AnySize.{AnyPartOverflowsWhole, InLowestTerms, NumberIsLowest}
use Rattle.xfrac.specs.Laws.{IsNumber, JoinedStandsForBoth, LcmIsLeast}
use Rattle.xfrac.specs.Sums.{Totals, totals, value_of}
use Rattle.xfrac.specs.declared.value.NumFault.TheVariants.{Overflow}
use Rattle.xfrac.specs.declared.value.XFrac.{XFrac}
use Rattle.window_fn.specs.Laws.{AreAggregatedAlike, OrderOfAnyDoesntMatter}
use Rattle.step_table.specs.Alike.{same_sets}
use Rattle.step_table.specs.Groups.{Names, gathered, items_of, names_among}
use Rattle.step_table.specs.Laws.{UnionHasMarks, UnionHasNotes, UnionIsSet, has_mark, has_note}
use Rattle.step_table.specs.Operators.{some_value}
use Rattle.step_table.specs.OrderLaws.{mark_cmp_ties, mark_cmp_total, note_cmp_ties, note_cmp_total}
use Rattle.step_table.specs.Outcomes.{keyed_by, lone_by, shared_marks, taken}
use Rattle.step_table.specs.Shuffles.{Shuffled, none, kept, swapped, joined}
use Rattle.step_table.specs.Shuffling.{chosen_shuffled, front_kept, items_shuffled, itself, lone_shuffled, mapped_shuffled, names_shuffled, shared_shuffled, to_back, to_permutation}
use Rattle.step_table.specs.Unions.{united, with_fatal}
use Rattle.step_table.specs.WellFormed.{AreSets}
use Rattle.step_table.specs.declared.cells.Cell.{Cell}
use Rattle.step_table.specs.declared.cells.Cell.TheVariants as cell
use Rattle.step_table.specs.declared.cells.CellRow.{CellRow}
use Rattle.step_table.specs.declared.cells.StepCells.{StepCells}
use Rattle.step_table.specs.declared.marks.Mark.TheVariants.{SameLabelset}
use Rattle.step_table.specs.declared.marks.Marks.{Marks}
use Rattle.step_table.specs.declared.step.Row.{Row}
use Rattle.step_table.specs.declared.windows.WindowRow.{WindowRow}
use Rattle.promql_meaning.specs.Givens.{no_marks}
use Rattle.step_cells.specs.CellLaws.{AreSound, HaveSets, IsSound, PartialsIgnoreOrder, RowsIgnoreOrder, WindowsIgnoreOrder}
use Rattle.step_cells.specs.Joined.{all_cells, all_marks, cell_row, count_in_cell, counted_in, finished, finished_outcome, keyed_cells, marks_with, mean_in, merged, rows_in, totals_in_cell, value_in_cell, window_under, windows_in}
use Rattle.step_cells.proofs.Merges.{AllLowest, flat, lowest_numbers, mean_merged, total_merged}
use Rattle.step_cells.proofs.SameNames.{all_kept, each_under, groups_alike}
use Rattle.step_cells.proofs.Asked.{IsAsked, asked}

-- ---- lists of lists

blocks_swapped : {A : Type 0} (xs ys zs : List A) → Shuffled (xs ++ (ys ++ zs)) (ys ++ (xs ++ zs))
blocks_swapped [] ys zs = itself (ys ++ zs)
blocks_swapped (x ∷ xs) ys zs = joined (x ∷ (xs ++ (ys ++ zs))) (x ∷ (ys ++ (xs ++ zs))) (ys ++ x ∷ (xs ++ zs)) (kept x (xs ++ (ys ++ zs)) (ys ++ (xs ++ zs)) (blocks_swapped xs ys zs)) (to_back x ys (xs ++ zs))

flat_shuffled : {A : Type 0} (xs ys : List (List A)) → Shuffled xs ys → Shuffled (flat xs) (flat ys)
flat_shuffled _ _ none = none
flat_shuffled _ _ (kept x xs ys s) = front_kept x (flat xs) (flat ys) (flat_shuffled xs ys s)
flat_shuffled _ _ (swapped x y xs) = blocks_swapped x y (flat xs)
flat_shuffled _ _ (joined xs ys zs s t) = joined (flat xs) (flat ys) (flat zs) (flat_shuffled xs ys s) (flat_shuffled ys zs t)

cells_shuffled : (steps others : List StepCells) → Shuffled steps others → Shuffled (all_cells steps) (all_cells others)
cells_shuffled _ _ none = none
cells_shuffled _ _ (kept x xs ys s) = front_kept x.rows (all_cells xs) (all_cells ys) (cells_shuffled xs ys s)
cells_shuffled _ _ (swapped x y xs) = blocks_swapped x.rows y.rows (all_cells xs)
cells_shuffled _ _ (joined xs ys zs s t) = joined (all_cells xs) (all_cells ys) (all_cells zs) (cells_shuffled xs ys s) (cells_shuffled ys zs t)

-- lists that a function makes, in another order, are made of the same in another order
module _ {A B : Type 0} (f : A → B) where
  record IsMade (xs : List A) (bs : List B) : Type 0 where
    items : List A
    made : bs ≡ map f items
    shuffled : Shuffled xs items

  made_of : (bs cs : List B) → Shuffled bs cs → (xs : List A) → bs ≡ map f xs → IsMade xs cs
  made_of _ _ none [] e = record { items = []; made = refl; shuffled = none }
  made_of _ _ none (a ∷ xs) e = absurd (cc)
  made_of _ _ (kept b bs cs s) [] e = absurd (cc)
  made_of _ _ (kept b bs cs s) (a ∷ xs) e =
      let head : b ≡ f a = cc in
      let tail : bs ≡ map f xs = cc in
      let rest = made_of bs cs s xs tail in
      record { items = a ∷ rest.items; made = (λ i. head i ∷ rest.made i); shuffled = kept a xs rest.items rest.shuffled }
  made_of _ _ (swapped b c bs) [] e = absurd (cc)
  made_of _ _ (swapped b c bs) (a ∷ []) e = absurd (cc)
  made_of _ _ (swapped b c bs) (a ∷ d ∷ xs) e =
      let head : b ≡ f a = cc in
      let next : c ≡ f d = cc in
      let tail : bs ≡ map f xs = cc in
      record { items = d ∷ a ∷ xs; made = (λ i. next i ∷ head i ∷ tail i); shuffled = swapped a d xs }
  made_of _ _ (joined bs cs ds s t) xs e =
      let first = made_of bs cs s xs e in
      let second = made_of cs ds t first.items first.made in
      record { items = second.items; made = second.made; shuffled = joined xs first.items second.items first.shuffled second.shuffled }

-- ---- marks

or_turned : (a b c : Bool) → ((a || b) || c) ≡ ((a || c) || b)
or_turned true b c = refl
or_turned false true true = refl
or_turned false true false = refl
or_turned false false true = refl
or_turned false false false = refl

module _ (sets : UnionIsSet) (marks_of : UnionHasMarks) (notes_of : UnionHasNotes) where
  united_turned : (m a b : Marks) → AreSets m → AreSets a → AreSets b → united (united m a) b ≡ united (united m b) a
  united_turned m a b sm sa sb =
      let left : AreSets (united (united m a) b) = sets (united m a) b (sets m a sm sa) sb in
      let right : AreSets (united (united m b) a) = sets (united m b) a (sets m b sm sb) sa in
      let fatal : (united (united m a) b).fatal ≡ (united (united m b) a).fatal =
      same_sets mark_cmp_total mark_cmp_ties (united (united m a) b).fatal (united (united m b) a).fatal left.fatal right.fatal
      (λ k. marks_of (united m a) b k ∙ ap (λ z. z || has_mark b.fatal k) (marks_of m a k) ∙ or_turned (has_mark m.fatal k) (has_mark a.fatal k) (has_mark b.fatal k)
      ∙ ap (λ z. z || has_mark a.fatal k) (sym (marks_of m b k)) ∙ sym (marks_of (united m b) a k)) in
      let notes : (united (united m a) b).notes ≡ (united (united m b) a).notes =
      same_sets note_cmp_total note_cmp_ties (united (united m a) b).notes (united (united m b) a).notes left.notes right.notes
      (λ k. notes_of (united m a) b k ∙ ap (λ z. z || has_note b.notes k) (notes_of m a k) ∙ or_turned (has_note m.notes k) (has_note a.notes k) (has_note b.notes k)
      ∙ ap (λ z. z || has_note a.notes k) (sym (notes_of m b k)) ∙ sym (notes_of (united m b) a k)) in
      λ i. record { fatal = fatal i; notes = notes i }

  marks_turned : (m : Marks) (steps others : List StepCells) → Shuffled steps others → AreSets m → HaveSets steps → marks_with m steps ≡ marks_with m others
  marks_turned m _ _ none sm a = refl
  marks_turned m _ _ (kept x xs ys s) sm a = marks_turned (united m x.marks) xs ys s (sets m x.marks sm a.0) a.1
  marks_turned m _ _ (swapped x y xs) sm a = ap (λ z. marks_with z xs) (united_turned m x.marks y.marks sm a.0 a.1.0)
  marks_turned m _ _ (joined xs ys zs s t) sm a = marks_turned m xs ys s sm a ∙ marks_turned m ys zs t sm (all_kept (λ (step : StepCells). AreSets step.marks) xs ys s a)

  none_are_sets : AreSets no_marks
  unfolding IsStrictlySortedBy
  none_are_sets = record { fatal = tt; notes = tt }

  marks_shuffled : (steps others : List StepCells) → Shuffled steps others → HaveSets steps → all_marks steps ≡ all_marks others
  marks_shuffled steps others s a = marks_turned no_marks steps others s none_are_sets a

  -- ---- rows and windows

  module _ {T : Type 0} (labels : T → Names) where
    keyed_shuffled : (xs ys : List T) → Shuffled xs ys → Shuffled (keyed_by labels xs) (keyed_by labels ys)
    keyed_shuffled xs ys s = mapped_shuffled (λ (item : T). (labels item, item)) xs ys s

    lone_alike : (xs ys : List T) → Shuffled xs ys → lone_by labels xs ≡ lone_by labels ys
    lone_alike xs ys s = lone_shuffled (keyed_by labels xs) (keyed_by labels ys) (keyed_shuffled xs ys s)

    shared_alike : (xs ys : List T) → Shuffled xs ys → shared_marks labels xs ≡ shared_marks labels ys
    shared_alike xs ys s = ap (map SameLabelset) (shared_shuffled (keyed_by labels xs) (keyed_by labels ys) (keyed_shuffled xs ys s))

  pub rows_ignore : RowsIgnoreOrder
  rows_ignore steps others sound s =
      let rows : Shuffled (rows_in steps) (rows_in others) = chosen_shuffled cell_row (all_cells steps) (all_cells others) (cells_shuffled steps others s) in
      let marks : all_marks steps ≡ all_marks others = marks_shuffled steps others s sound in
      let alone = lone_alike (λ (row : Row). row.labels) (rows_in steps) (rows_in others) rows in
      let shared = shared_alike (λ (row : Row). row.labels) (rows_in steps) (rows_in others) rows in
      λ i. record { table = record { rows = alone i }; marks = with_fatal (marks i) (shared i) }

  pub windows_ignore : WindowsIgnoreOrder
  windows_ignore at steps others sound s =
      let rows : Shuffled (windows_in steps) (windows_in others) = chosen_shuffled (λ (row : CellRow). window_under row.labels row.cell) (all_cells steps) (all_cells others) (cells_shuffled steps others s) in
      let marks : all_marks steps ≡ all_marks others = marks_shuffled steps others s sound in
      let alone = lone_alike (λ (w : WindowRow). w.labels) (windows_in steps) (windows_in others) rows in
      let shared = shared_alike (λ (w : WindowRow). w.labels) (windows_in steps) (windows_in others) rows in
      λ i. record { at = at; rows = alone i; marks = with_fatal (marks i) (shared i) }

  -- ---- groups

  module _ (both : JoinedStandsForBoth) (overflows : AnyPartOverflowsWhole) (least : LcmIsLeast) (order : OrderOfAnyDoesntMatter) (lowest : NumberIsLowest) where
    values_sound : (cells : List Cell) → AllByRecursion IsSound cells → AllLowest (filter_map value_in_cell cells)
    values_sound [] a = tt
    values_sound (cell.Value v ∷ cells) a = (lowest v a.0, values_sound cells a.1)
    values_sound (cell.Sum t ∷ cells) a = values_sound cells a.1
    values_sound (cell.Count n ∷ cells) a = values_sound cells a.1
    values_sound (cell.Window times values ∷ cells) a = values_sound cells a.1

    record AreOfLowest (sums : List Totals) : Type 0 where
      lists : List (List XFrac)
      are : sums ≡ map totals lists
      terms : AllLowest (flat lists)

    sums_sound : (cells : List Cell) → AllByRecursion IsSound cells → AreOfLowest (filter_map totals_in_cell cells)
    sums_sound [] a = record { lists = []; are = refl; terms = tt }
    sums_sound (cell.Value v ∷ cells) a = sums_sound cells a.1
    sums_sound (cell.Sum t ∷ cells) a =
        let rest = sums_sound cells a.1 in
        record { lists = a.0.0 ∷ rest.lists; are = (λ i. a.0.2 i ∷ rest.are i); terms = both_of InLowestTerms a.0.0 (flat rest.lists) (lowest_numbers lowest a.0.0 (recursion_from_All IsNumber a.0.0 a.0.1)) rest.terms }
    sums_sound (cell.Count n ∷ cells) a = sums_sound cells a.1
    sums_sound (cell.Window times values ∷ cells) a = sums_sound cells a.1

    counted_shuffled : (xs ys : List Cell) → Shuffled xs ys → counted_in xs ≡ counted_in ys
    counted_shuffled _ _ none = refl
    counted_shuffled _ _ (kept x xs ys s) = ap (λ n. count_in_cell x + n) (counted_shuffled xs ys s)
    counted_shuffled _ _ (swapped x y xs) = omega arith
    counted_shuffled _ _ (joined xs ys zs s t) = counted_shuffled xs ys s ∙ counted_shuffled ys zs t

    alike_in : (xs ys : List XFrac) → AllLowest xs → Shuffled xs ys → AreAggregatedAlike xs ys
    alike_in xs ys n s = order xs ys (All-from_recursion InLowestTerms xs n) (to_permutation xs ys s)

    finished_shuffled : (f : Aggregate) (xs ys : List Cell) → IsAsked f → AllByRecursion IsSound xs → Shuffled xs ys → finished f xs ≡ finished f ys
    finished_shuffled f xs ys IsAsked.sum a s =
        let front = sums_sound xs a in
        let back = made_of totals (filter_map totals_in_cell xs) (filter_map totals_in_cell ys) (chosen_shuffled totals_in_cell xs ys s) front.lists front.are in
        let all = flat_shuffled front.lists back.items back.shuffled in
        ap (λ ts. some_value (ok_or (option_map value_of (merged ts)) Overflow)) front.are
        ∙ ap some_value (total_merged both overflows least front.lists front.terms ∙ sym (alike_in (flat front.lists) (flat back.items) front.terms all).sum ∙ sym (total_merged both overflows least back.items (all_kept InLowestTerms (flat front.lists) (flat back.items) all front.terms)))
        ∙ ap (λ ts. some_value (ok_or (option_map value_of (merged ts)) Overflow)) (sym back.made)
    finished_shuffled f xs ys IsAsked.avg a s =
        let front = sums_sound xs a in
        let back = made_of totals (filter_map totals_in_cell xs) (filter_map totals_in_cell ys) (chosen_shuffled totals_in_cell xs ys s) front.lists front.are in
        let all = flat_shuffled front.lists back.items back.shuffled in
        ap (λ ts. some_value (ok_or (option_and_then mean_in (merged ts)) Overflow)) front.are
        ∙ ap some_value (mean_merged both overflows least front.lists front.terms ∙ sym (alike_in (flat front.lists) (flat back.items) front.terms all).avg ∙ sym (mean_merged both overflows least back.items (all_kept InLowestTerms (flat front.lists) (flat back.items) all front.terms)))
        ∙ ap (λ ts. some_value (ok_or (option_and_then mean_in (merged ts)) Overflow)) (sym back.made)
    finished_shuffled f xs ys IsAsked.count a s = ap (λ n. Ok (Some (whole_number n))) (counted_shuffled xs ys s)
    finished_shuffled f xs ys IsAsked.group a s = refl
    finished_shuffled f xs ys IsAsked.min a s = ap (λ v. Ok (Some v)) (sym (alike_in (filter_map value_in_cell xs) (filter_map value_in_cell ys) (values_sound xs a) (chosen_shuffled value_in_cell xs ys s)).min)
    finished_shuffled f xs ys IsAsked.max a s = ap (λ v. Ok (Some v)) (sym (alike_in (filter_map value_in_cell xs) (filter_map value_in_cell ys) (values_sound xs a) (chosen_shuffled value_in_cell xs ys s)).max)

    -- the cells of all engines are sound
    all_sound : (steps : List StepCells) → AllByRecursion AreSound steps → AllByRecursion (λ (row : CellRow). IsSound row.cell) (all_cells steps)
    all_sound [] a = tt
    all_sound (step ∷ steps) a = both_of (λ (row : CellRow). IsSound row.cell) step.rows (all_cells steps) a.0.cells (all_sound steps a.1)

    keyed_sound : (rows : List CellRow) → AllByRecursion (λ (row : CellRow). IsSound row.cell) rows → AllByRecursion (λ (item : Names × Cell). IsSound item.1) (keyed_cells rows)
    keyed_sound [] a = tt
    keyed_sound (row ∷ rows) a = (a.0, keyed_sound rows a.1)

    have_sets : (steps : List StepCells) → AllByRecursion AreSound steps → HaveSets steps
    have_sets [] a = tt
    have_sets (step ∷ steps) a = (a.0.marks, have_sets steps a.1)

    pub partials_ignore : PartialsIgnoreOrder
    unfolding gathered
    partials_ignore f steps others is a s =
        let front : List (Names × Cell) = keyed_cells (all_cells steps) in
        let back : List (Names × Cell) = keyed_cells (all_cells others) in
        let turned : Shuffled front back = mapped_shuffled (λ (row : CellRow). (row.labels, row.cell)) (all_cells steps) (all_cells others) (cells_shuffled steps others s) in
        let marks : all_marks steps ≡ all_marks others = marks_shuffled steps others s (have_sets steps a) in
        let sound : AllByRecursion (λ (item : Names × Cell). IsSound item.1) front = keyed_sound (all_cells steps) (all_sound steps a) in
        let outcomes : map (finished_outcome f) (gathered front) ≡ map (finished_outcome f) (gathered back) =
        groups_alike (finished_outcome f) (finished_outcome f) (items_of front) (items_of back)
        (λ n i. record { labels = n; value = finished_shuffled f (items_of front n) (items_of back n) (asked f is) (each_under IsSound front n sound) (items_shuffled front back turned n) i }) (names_among front)
        ∙ ap (λ ns. map (finished_outcome f) (map (λ n. (n, items_of back n)) ns)) (names_shuffled front back turned) in
        λ i. taken (marks i) (outcomes i)
