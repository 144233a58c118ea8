-- What the engines give that are asked for an expression is what it means.
use Rattle.std.proofs.Common.{◌≡◌, ◌∙◌, Bool, true, false, cond, List, [], ◌∷◌, ◌++◌, length, map, refl, sym, ap, subst, inl, inr}
use Rattle.std.specs.Prelude.{◌||◌, filter, ℤ, IsTrue}
use Rattle.std.specs.List.{AllByRecursion, filter_map, list_any}
use Rattle.std.proofs.lemmas.Simd.{map-map}
use Rattle.func_table.specs.declared.table.Aggregate.{Aggregate}
use Rattle.func_table.specs.declared.table.Aggregate.TheVariants as aggregate
use Rattle.label_set.specs.Entries.{recursion_filter}
use Rattle.label_set.specs.declared.rules.Grouping.{Grouping}
use Rattle.promql_ast.specs.Folds.{fold-Aggregate}
use Rattle.promql_ast.specs.declared.tree.Expr.{Expr}
use Rattle.promql_ast.specs.declared.tree.Node.TheVariants as node
use Rattle.step_table.specs.Alike.{same_sets}
use Rattle.step_table.specs.Groups.{Names, gathered, shared_names}
use Rattle.step_table.specs.KeySets.{sorted_set}
use Rattle.step_table.specs.Laws.{UnionHasMarks, UnionHasNotes, UnionIsSet, has_mark, has_note}
use Rattle.step_table.specs.OrderLaws.{mark_cmp_ties, mark_cmp_total, note_cmp_ties, note_cmp_total}
use Rattle.step_table.specs.Orders.{mark_cmp}
use Rattle.step_table.specs.Outcomes.{keyed, mark_of, row_of}
use Rattle.step_table.specs.Sets.{step_of_rows}
use Rattle.step_table.specs.Shuffles.{Shuffled, none, kept, swapped, joined}
use Rattle.step_table.specs.Shuffling.{mapped_shuffled, shared_shuffled}
use Rattle.step_table.specs.Timed.{StepAt}
use Rattle.step_table.specs.Unions.{set_of, united, with_fatal}
use Rattle.step_table.specs.WellFormed.{AreSets}
use Rattle.step_table.specs.declared.cells.PartKind.TheVariants as part
use Rattle.step_table.specs.declared.marks.Mark.{Mark}
use Rattle.step_table.specs.declared.marks.Mark.TheVariants.{Overflow}
use Rattle.step_table.specs.declared.marks.Marks.{Marks}
use Rattle.step_table.specs.declared.marks.Note.{Note}
use Rattle.step_table.specs.declared.step.Row.{Row}
use Rattle.step_table.specs.declared.step.Step.{Step}
use Rattle.step_table.specs.declared.windows.WindowRow.{WindowRow}
use Rattle.step_batch.specs.LentWindows.{WindowsAt}
use Rattle.step_cells.specs.CellLaws.{Agree, HaveLowestTerms, PartialsAgree, has_overflow, rows_of_all}
use Rattle.step_cells.specs.InOrder.{none_share}
use Rattle.step_cells.specs.Joined.{joined_partials, joined_rows}
use Rattle.step_cells.specs.Owed.{is_partial, partial_cells, row_cells, value_cell, window_cell, windows_at}
use Rattle.ticks.specs.declared.moment.Ms.{Ms}
use Rattle.xfrac.specs.AnySize.{InLowestTerms}
use Rattle.promql_meaning.specs.Aggregations.{aggregated, group_outcome, keyed_values}
use Rattle.promql_meaning.specs.Givens.{marked, step_of}
use Rattle.promql_meaning.specs.Laws.{MeaningIsWellFormed}
use Rattle.promql_meaning.specs.Meaning.{aggregation, meaning, meaning_step, node_meaning, zero_number}
use Rattle.promql_meaning.specs.Outcomes.{with_notes}
use Rattle.promql_meaning.specs.Selecting.{Asked, selected_windows}
use Rattle.promql_meaning.specs.declared.given.Given.{Given}
use Rattle.parting_laws.specs.Gathers.{AllRowsAreGathered, GroupsAreGathered, MayLeaveOut, RowsAreGathered, WindowsAreGathered, gathered_groups, gathered_rows, is_asked, marks_of_none}
use Rattle.parting_laws.specs.PartLaws.{IsPartOf, over, owed_at}
use Rattle.parting_laws.specs.Parted.{Engine, Parted, declared_names, takes}
use Rattle.parting_laws.specs.Portions.{IsOfOne, IsParted, Portion, StepParts, portion_of, portions_of}
use Rattle.parting_laws.proofs.Chosen.{both_along, everywhere, filtered_none, mapped_along, of_mapped}
use Rattle.parting_laws.proofs.Held.{each_one, engines_hold}
use Rattle.parting_laws.proofs.Joins.{rows_of_parts, window_labels, windows_of_parts}
use Rattle.parting_laws.proofs.Made.{row_labels}
use Rattle.parting_laws.proofs.MarksParted.{all_have, all_have_notes, all_sets, no_sets, none_over, nothing, same_union, union_over}
use Rattle.parting_laws.proofs.Parts.{all_parted, in_part, of_parts}
use Rattle.parting_laws.proofs.Selectors.{range_means, windows_one, windows_part, windows_sorted}
use Rattle.parting_laws.proofs.StepsParted.{step_parts}
use Rattle.parting_laws.proofs.Unasked.{engines_are_portions, one_of_engines, unasked_gives_nothing}

-- ---- marks with the same members

pub same_marks : (a b : Marks) → AreSets a → AreSets b → ((mark : Mark) → has_mark a.fatal mark ≡ has_mark b.fatal mark) → ((note : Note) → has_note a.notes note ≡ has_note b.notes note) → a ≡ b
same_marks a b s t f n =
    let fatal : a.fatal ≡ b.fatal = same_sets mark_cmp_total mark_cmp_ties a.fatal b.fatal s.fatal t.fatal f in
    let notes : a.notes ≡ b.notes = same_sets note_cmp_total note_cmp_ties a.notes b.notes s.notes t.notes n in
    λ i. record { fatal = fatal i; notes = notes i }

-- ---- the parts of those that are asked

module _ {P : Type 0} (called : P → Bool) where
  -- parts that aren't asked have no items
  of_called : {X : Type 0} (test : P → Names → Bool) (labels : X → Names) (xs : List X) (ps : List P) → AllByRecursion (λ (p : P). called p ≡ false → in_part test labels p xs ≡ []) ps
      → of_parts test labels ps xs ≡ of_parts test labels (filter called ps) xs
  of_called test labels xs [] a = refl
  of_called {X = X} test labels xs (p ∷ ps) a = by (called p) refl (of_called test labels xs ps a.1)
    where
      by : (b : Bool) → called p ≡ b → of_parts test labels ps xs ≡ of_parts test labels (filter called ps) xs → in_part test labels p xs ++ of_parts test labels ps xs ≡ of_parts test labels (cond b (p ∷ filter called ps) (filter called ps)) xs
      by true e rest = ap (λ (r : List X). in_part test labels p xs ++ r) rest
      by false e rest = ap (λ (r : List X). r ++ of_parts test labels ps xs) (a.0 e) ∙ rest

  -- nor marks of their own
  any_called : (a : P → Bool) (c : Bool) (ps : List P) → AllByRecursion (λ (p : P). called p ≡ false → a p ≡ c) ps → (list_any a (filter called ps) || c) ≡ (c || list_any a ps)
  any_called a c [] h = turned c
    where
      turned : (c : Bool) → (false || c) ≡ (c || false)
      turned true = refl
      turned false = refl
  any_called a c (p ∷ ps) h = by (called p) refl (any_called a c ps h.1)
    where
      asked_one : (x c y z : Bool) → (y || c) ≡ (c || z) → ((x || y) || c) ≡ (c || (x || z))
      asked_one true true y z e = refl
      asked_one true false y z e = refl
      asked_one false c y z e = e

      other_one : (x c y z : Bool) → x ≡ c → (y || c) ≡ (c || z) → (y || c) ≡ (c || (x || z))
      other_one x true y z e f = f
      other_one true false y z e f = absurd (cc)
      other_one false false y z e f = f

      by : (b : Bool) → called p ≡ b → (list_any a (filter called ps) || c) ≡ (c || list_any a ps) → (list_any a (cond b (p ∷ filter called ps) (filter called ps)) || c) ≡ (c || (a p || list_any a ps))
      by true e rest = asked_one (a p) c (list_any a (filter called ps)) (list_any a ps) rest
      by false e rest = other_one (a p) c (list_any a (filter called ps)) (list_any a ps) (h.0 e) rest

-- ---- what engines give

any_mapped : {A B : Type 0} (a : B → Bool) (f : A → B) (xs : List A) → list_any a (map f xs) ≡ list_any (λ x. a (f x)) xs
any_mapped a f [] = refl
any_mapped a f (x ∷ xs) = ap (λ b. a (f x) || b) (any_mapped a f xs)

module _ (unions : UnionHasMarks) (note_unions : UnionHasNotes) (sets : UnionIsSet) (well : MeaningIsWellFormed)
    (engines : List Engine) (asked : Asked) (e : Expr) (wanted : Engine → Bool) (at : Ms) (parted : Parted engines asked.samples) (is_parted : IsParted (declared_names engines) e) (may : MayLeaveOut e wanted) where
  abbrev t : ℤ
  t = at.0

  abbrev whole : Step
  whole = meaning_step asked e t

  abbrev piece : Engine → Step
  piece engine = meaning_step (over engine.samples asked) e t

  abbrev empty : Step
  empty = meaning_step (over [] asked) e t

  parts : StepParts (portions_of engines) whole (λ p. step_of (meaning (over p.samples asked) e t))
  parts = step_parts (portions_of engines) (meaning asked e t) (λ p. meaning (over p.samples asked) e t) (is_parted asked (portions_of engines) t (engines_are_portions engines asked.samples parted))

  engine_rows : AllByRecursion (λ (engine : Engine). (piece engine).table.rows ≡ in_part takes row_labels engine whole.table.rows) engines
  engine_rows = of_mapped (λ (p : Portion). (step_of (meaning (over p.samples asked) e t)).table.rows ≡ filter (λ (row : Row). p.test row.labels) whole.table.rows) portion_of engines parts.rows.1

  unasked : AllByRecursion (λ (engine : Engine). wanted engine ≡ false → piece engine ≡ empty) engines
  unasked =
      mapped_along (λ (engine : Engine). is_asked e engine ≡ false → meaning (over engine.samples asked) e t ≡ meaning (over [] asked) e t) (λ (engine : Engine). wanted engine ≡ false → piece engine ≡ empty) (λ engine h n. ap step_of (h (may engine n))) engines
      (unasked_gives_nothing engines asked e t parted)

  unasked_rows : AllByRecursion (λ (engine : Engine). wanted engine ≡ false → in_part takes row_labels engine whole.table.rows ≡ []) engines
  unasked_rows =
      mapped_along (λ (engine : Engine). ((piece engine).table.rows ≡ in_part takes row_labels engine whole.table.rows) × (wanted engine ≡ false → piece engine ≡ empty)) (λ (engine : Engine). wanted engine ≡ false → in_part takes row_labels engine whole.table.rows ≡ [])
      (λ engine h n. sym h.0 ∙ ap (λ (s : Step). s.table.rows) (h.1 n) ∙ parts.rows.0 ∙ filtered_none whole.table.rows) engines
      (both_along (λ (engine : Engine). (piece engine).table.rows ≡ in_part takes row_labels engine whole.table.rows) (λ (engine : Engine). wanted engine ≡ false → piece engine ≡ empty) engines engine_rows unasked)

  abbrev called : List Engine
  called = filter wanted engines

  turned : Shuffled whole.table.rows (of_parts takes row_labels called whole.table.rows)
  turned =
      subst (λ (r : List Row). Shuffled whole.table.rows r) (of_called wanted takes row_labels whole.table.rows engines unasked_rows)
      (all_parted takes row_labels engines whole.table.rows (mapped_along (λ (row : Row). IsOfOne (portions_of engines) row.labels) (λ (row : Row). length (filter (λ (engine : Engine). takes engine row.labels) engines) ≡ 1) (λ row h. one_of_engines engines row.labels h) whole.table.rows parts.one))

  called_rows : AllByRecursion (λ (engine : Engine). (piece engine).table.rows ≡ in_part takes row_labels engine whole.table.rows) called
  called_rows = recursion_filter (λ (engine : Engine). (piece engine).table.rows ≡ in_part takes row_labels engine whole.table.rows) wanted engines engine_rows

  abbrev together : Marks
  together = union_over (λ (engine : Engine). (piece engine).marks) nothing called

  together_sets : AreSets together
  together_sets = all_sets sets (λ (engine : Engine). (piece engine).marks) nothing called no_sets (everywhere (λ (engine : Engine). AreSets (piece engine).marks) (λ engine. (well (over engine.samples asked) e t).marks) called)

  -- the marks of those that are asked, with those over no samples, are those of the whole
  marks_together : united together empty.marks ≡ whole.marks
  marks_together =
      same_marks (united together empty.marks) whole.marks (sets together empty.marks together_sets (well (over [] asked) e t).marks) (well asked e t).marks
      (λ mark. unions together empty.marks mark ∙ ap (λ b. b || has_mark empty.marks.fatal mark) (all_have unions (λ (engine : Engine). (piece engine).marks) mark nothing called)
      ∙ any_called wanted (λ (engine : Engine). has_mark (piece engine).marks.fatal mark) (has_mark empty.marks.fatal mark) engines
      (mapped_along (λ (engine : Engine). wanted engine ≡ false → piece engine ≡ empty) (λ (engine : Engine). wanted engine ≡ false → has_mark (piece engine).marks.fatal mark ≡ has_mark empty.marks.fatal mark) (λ engine h n. ap (λ (s : Step). has_mark s.marks.fatal mark) (h n)) engines unasked)
      ∙ ap (λ b. has_mark empty.marks.fatal mark || b) (sym (any_mapped (λ (p : Portion). has_mark (step_of (meaning (over p.samples asked) e t)).marks.fatal mark) portion_of engines)) ∙ parts.marks.fatal mark)
      (λ note. note_unions together empty.marks note ∙ ap (λ b. b || has_note empty.marks.notes note) (all_have_notes note_unions (λ (engine : Engine). (piece engine).marks) note nothing called)
      ∙ any_called wanted (λ (engine : Engine). has_note (piece engine).marks.notes note) (has_note empty.marks.notes note) engines
      (mapped_along (λ (engine : Engine). wanted engine ≡ false → piece engine ≡ empty) (λ (engine : Engine). wanted engine ≡ false → has_note (piece engine).marks.notes note ≡ has_note empty.marks.notes note) (λ engine h n. ap (λ (s : Step). has_note s.marks.notes note) (h n)) engines unasked)
      ∙ ap (λ b. has_note empty.marks.notes note || b) (sym (any_mapped (λ (p : Portion). has_note (step_of (meaning (over p.samples asked) e t)).marks.notes note) portion_of engines)) ∙ parts.marks.notes note)

  -- the rows of those that are asked are those of the whole
  rows_together : joined_rows (map (owed_at part.Rows asked e at) called) ≡ step_of_rows whole.table.rows together
  rows_together =
      rows_of_parts takes (owed_at part.Rows asked e at) called whole.table.rows (well asked e t).rows turned
      (mapped_along (λ (engine : Engine). (piece engine).table.rows ≡ in_part takes row_labels engine whole.table.rows) (λ (engine : Engine). (owed_at part.Rows asked e at engine).rows ≡ map value_cell (in_part takes row_labels engine whole.table.rows)) (λ engine h. ap (map value_cell) h) called called_rows)

  pub rows_gathered : marked (marks_of_none asked e at) (joined_rows (map (owed_at part.Rows asked e at) called)) ≡ whole
  rows_gathered = ap (marked (marks_of_none asked e at)) rows_together ∙ (λ i. record { table = whole.table; marks = marks_together i })

  -- ---- an aggregation of them

  all_shuffled : {X : Type 0} (Q : X → Type 0) (xs ys : List X) → Shuffled xs ys → AllByRecursion Q xs → AllByRecursion Q ys
  all_shuffled Q _ _ none a = tt
  all_shuffled Q _ _ (kept x xs ys s) a = (a.0, all_shuffled Q xs ys s a.1)
  all_shuffled Q _ _ (swapped x y xs) a = (a.1.0, (a.0, a.1.1))
  all_shuffled Q _ _ (joined xs ys zs s u) a = all_shuffled Q ys zs u (all_shuffled Q xs ys s a)

  abbrev step_given : Engine → StepAt
  step_given engine = record { at = at; step = piece engine }

  rows_given : (ps : List Engine) → AllByRecursion (λ (engine : Engine). (piece engine).table.rows ≡ in_part takes row_labels engine whole.table.rows) ps → rows_of_all (map step_given ps) ≡ of_parts takes row_labels ps whole.table.rows
  rows_given [] a = refl
  rows_given (p ∷ ps) a = λ i. a.0 i ++ rows_given ps a.1 i

  all_turned : Shuffled whole.table.rows (rows_of_all (map step_given called))
  all_turned = subst (λ (r : List Row). Shuffled whole.table.rows r) (sym (rows_given called called_rows)) turned

  none_shared : shared_names (keyed (rows_of_all (map step_given called))) ≡ []
  none_shared =
      sym (shared_shuffled (keyed whole.table.rows) (keyed (rows_of_all (map step_given called))) (mapped_shuffled (λ (row : Row). (row.labels, row)) whole.table.rows (rows_of_all (map step_given called)) all_turned))
      ∙ none_share row_labels whole.table.rows (well asked e t).rows

  mark_sets : (fs : List Mark) → AreSets (record { fatal = set_of mark_cmp fs; notes = [] })
  mark_sets fs = record { fatal = sorted_set mark_cmp_total mark_cmp_ties fs; notes = no_sets.notes }

  -- marks that stand beside those of an aggregation
  marks_beside : (u c : Marks) (fs : List Mark) → AreSets u → AreSets c → united (with_fatal (with_notes u []) fs) c ≡ with_fatal (with_notes (united u c) []) fs
  marks_beside u c fs su sc =
      let f : Marks = record { fatal = set_of mark_cmp fs; notes = [] } in
      let bare : (a : Marks) → AreSets a → AreSets (with_notes a []) = λ a s. sets a nothing s no_sets in
      same_marks (united (with_fatal (with_notes u []) fs) c) (with_fatal (with_notes (united u c) []) fs)
      (sets (with_fatal (with_notes u []) fs) c (sets (with_notes u []) f (bare u su) (mark_sets fs)) sc)
      (sets (with_notes (united u c) []) f (bare (united u c) (sets u c su sc)) (mark_sets fs))
      (λ mark.
      unions (with_fatal (with_notes u []) fs) c mark ∙ ap (λ b. b || has_mark c.fatal mark) (unions (with_notes u []) f mark ∙ ap (λ b. b || has_mark f.fatal mark) (unions u nothing mark))
      ∙ four (has_mark u.fatal mark) (has_mark nothing.fatal mark) (has_mark f.fatal mark) (has_mark c.fatal mark)
      ∙ sym (unions (with_notes (united u c) []) f mark ∙ ap (λ b. b || has_mark f.fatal mark) (unions (united u c) nothing mark ∙ ap (λ b. b || has_mark nothing.fatal mark) (unions u c mark))))
      (λ note.
      note_unions (with_fatal (with_notes u []) fs) c note ∙ ap (λ b. b || has_note c.notes note) (note_unions (with_notes u []) f note ∙ ap (λ b. b || has_note f.notes note) (note_unions u nothing note))
      ∙ four (has_note u.notes note) (has_note nothing.notes note) (has_note f.notes note) (has_note c.notes note)
      ∙ sym (note_unions (with_notes (united u c) []) f note ∙ ap (λ b. b || has_note f.notes note) (note_unions (united u c) nothing note ∙ ap (λ b. b || has_note nothing.notes note) (note_unions u c note))))
    where
      four : (a b c d : Bool) → (((a || b) || c) || d) ≡ (((a || d) || b) || c)
      four true b c d = refl
      four false true c d = over_true d c
        where
          over_true : (d c : Bool) → true ≡ ((d || true) || c)
          over_true true c = refl
          over_true false c = refl
      four false false true d = last d
        where
          last : (d : Bool) → true ≡ ((d || false) || true)
          last true = refl
          last false = refl
      four false false false true = refl
      four false false false false = refl

  abbrev summed : Aggregate → Grouping → Step → Step
  summed f by step = aggregated f by zero_number [] step

  marked_aggregation : (f : Aggregate) (by : Grouping) → IsTrue (is_partial f) → marked empty.marks (summed f by (step_of_rows whole.table.rows together)) ≡ summed f by whole
  marked_aggregation f by is = of f is ∙ ap (λ (m : Marks). summed f by (step_of_rows whole.table.rows m)) marks_together
    where
      rows : Aggregate → List Row
      rows g = filter_map row_of (map (group_outcome g zero_number) (gathered (keyed_values by whole.table.rows)))

      faults : Aggregate → List Mark
      faults g = filter_map mark_of (map (group_outcome g zero_number) (gathered (keyed_values by whole.table.rows)))

      beside : (g : Aggregate) → step_of_rows (rows g) (united (with_fatal (with_notes together []) (faults g)) empty.marks) ≡ step_of_rows (rows g) (with_fatal (with_notes (united together empty.marks) []) (faults g))
      beside g = ap (step_of_rows (rows g)) (marks_beside together empty.marks (faults g) together_sets (well (over [] asked) e t).marks)

      of : (g : Aggregate) → IsTrue (is_partial g) → marked empty.marks (summed g by (step_of_rows whole.table.rows together)) ≡ summed g by (step_of_rows whole.table.rows (united together empty.marks))
      of aggregate.Sum h = beside aggregate.Sum
      of aggregate.Avg h = beside aggregate.Avg
      of aggregate.Min h = beside aggregate.Min
      of aggregate.Max h = beside aggregate.Max
      of aggregate.Count h = beside aggregate.Count
      of aggregate.Group h = beside aggregate.Group
      of aggregate.Stdvar h = absurd (cc)
      of aggregate.Quantile h = absurd (cc)
      of aggregate.TopK h = absurd (cc)
      of aggregate.BottomK h = absurd (cc)
      of aggregate.CountValues h = absurd (cc)

  agree_beside : (c : Marks) (a b : Step) → Agree a b → Agree (marked c a) (marked c b)
  agree_beside c a b (inl same) = inl (ap (marked c) same)
  agree_beside c a b (inr both) = inr (over_flows a both.0, over_flows b both.1)
    where
      over_flows : (s : Step) → has_overflow s ≡ true → has_overflow (marked c s) ≡ true
      over_flows s h = unions s.marks c Overflow ∙ ap (λ b. b || has_mark c.fatal Overflow) h

  pub groups_gathered : PartialsAgree → (f : Aggregate) (by : Grouping) → IsTrue (is_partial f) → HaveLowestTerms whole.table.rows
      → Agree (marked (marks_of_none asked e at) (joined_partials f (map (owed_at (part.Partial f by) asked e at) called))) (summed f by whole)
  groups_gathered law f by is numbers =
      let steps : List StepAt = map step_given called in
      let rows : joined_rows (map row_cells steps) ≡ step_of_rows whole.table.rows together = ap joined_rows (map-map row_cells step_given called) ∙ rows_together in
      let plain : Agree (joined_partials f (map (partial_cells f by) steps)) (summed f by (joined_rows (map row_cells steps))) = law f by zero_number [] steps is none_shared (all_shuffled (λ (row : Row). InLowestTerms row.value) whole.table.rows (rows_of_all steps) all_turned numbers) in
      let cells : joined_partials f (map (partial_cells f by) steps) ≡ joined_partials f (map (owed_at (part.Partial f by) asked e at) called) = ap (joined_partials f) (map-map (partial_cells f by) step_given called) in
      subst (λ (s : Step). Agree (marked empty.marks (joined_partials f (map (owed_at (part.Partial f by) asked e at) called))) s) (marked_aggregation f by is)
      (agree_beside empty.marks (joined_partials f (map (owed_at (part.Partial f by) asked e at) called)) (summed f by (step_of_rows whole.table.rows together))
      (subst (λ (s : Step). Agree (joined_partials f (map (owed_at (part.Partial f by) asked e at) called)) (summed f by s)) rows
      (subst (λ (s : Step). Agree s (summed f by (joined_rows (map row_cells steps)))) cells plain)))

-- ---- the laws

aggregation_means : (asked : Asked) (e inner : Expr) (f : Aggregate) (by : Grouping) (t : ℤ) → e.node ≡ node.Aggregate f by (inner ∷ []) → IsTrue (is_partial f) → meaning_step asked e t ≡ aggregated f by zero_number [] (meaning_step asked inner t)
aggregation_means asked e inner f by t is partial = ap (λ (m : ℤ → Given). step_of (m t)) (fold-Aggregate (node_meaning asked) (λ e. e.node) e f by (inner ∷ []) is) ∙ of f partial
  where
    of : (g : Aggregate) → IsTrue (is_partial g) → aggregation g by (meaning asked inner t ∷ []) ≡ aggregated g by zero_number [] (meaning_step asked inner t)
    of aggregate.Sum h = refl
    of aggregate.Avg h = refl
    of aggregate.Min h = refl
    of aggregate.Max h = refl
    of aggregate.Count h = refl
    of aggregate.Group h = refl
    of aggregate.Stdvar h = absurd (cc)
    of aggregate.Quantile h = absurd (cc)
    of aggregate.TopK h = absurd (cc)
    of aggregate.BottomK h = absurd (cc)
    of aggregate.CountValues h = absurd (cc)

pub rows_are_gathered : UnionHasMarks → UnionHasNotes → UnionIsSet → MeaningIsWellFormed → RowsAreGathered
rows_are_gathered unions note_unions sets well engines asked e wanted at parted is_parted may = rows_gathered unions note_unions sets well engines asked e wanted at parted is_parted may

all_wanted : (engines : List Engine) → filter (λ (engine : Engine). true) engines ≡ engines
all_wanted [] = refl
all_wanted (engine ∷ engines) = ap (λ (es : List Engine). engine ∷ es) (all_wanted engines)

pub all_rows_are_gathered : UnionHasMarks → UnionHasNotes → UnionIsSet → MeaningIsWellFormed → AllRowsAreGathered
all_rows_are_gathered unions note_unions sets well engines asked e at parted is_parted =
    ap (λ (es : List Engine). gathered_rows asked e es at) (sym (all_wanted engines)) ∙ rows_gathered unions note_unions sets well engines asked e (λ engine. true) at parted is_parted (λ engine h. absurd (cc))

pub groups_are_gathered : UnionHasMarks → UnionHasNotes → UnionIsSet → MeaningIsWellFormed → PartialsAgree → GroupsAreGathered
groups_are_gathered unions note_unions sets well law engines asked e inner f by wanted at parted is_parted may is partial numbers =
    subst (λ (s : Step). Agree (gathered_groups f by asked inner (filter wanted engines) at) s) (sym (aggregation_means asked e inner f by at.0 is partial))
    (groups_gathered unions note_unions sets well engines asked inner wanted at parted is_parted may law f by partial numbers)

pub windows_are_gathered : WindowsAreGathered
windows_are_gathered engines asked e selector wanted range at parted is may =
    let xs : List WindowRow = selected_windows asked selector range.0 at.0 in
    let means = λ (a : Asked). range_means a e selector range at is in
    let called : List Engine = filter wanted engines in
    let windows : AllByRecursion (λ (engine : Engine). selected_windows (over engine.samples asked) selector range.0 at.0 ≡ in_part takes window_labels engine xs) engines =
    mapped_along (λ (engine : Engine). IsPartOf (takes engine) asked.samples engine.samples) (λ (engine : Engine). selected_windows (over engine.samples asked) selector range.0 at.0 ≡ in_part takes window_labels engine xs)
    (λ engine h. windows_part (takes engine) asked engine.samples selector range.0 at.0 h) engines (engines_hold engines asked.samples parted) in
    let none : AllByRecursion (λ (engine : Engine). wanted engine ≡ false → in_part takes window_labels engine xs ≡ []) engines =
    mapped_along (λ (engine : Engine). (selected_windows (over engine.samples asked) selector range.0 at.0 ≡ in_part takes window_labels engine xs) × (is_asked e engine ≡ false → meaning (over engine.samples asked) e at.0 ≡ meaning (over [] asked) e at.0)) (λ (engine : Engine). wanted engine ≡ false → in_part takes window_labels engine xs ≡ [])
    (λ engine h n. sym h.0 ∙ ap (λ (w : WindowsAt). w.rows) (sym (means (over engine.samples asked)) ∙ ap (windows_at at) (h.1 (may engine n)) ∙ means (over [] asked))) engines
    (both_along (λ (engine : Engine). selected_windows (over engine.samples asked) selector range.0 at.0 ≡ in_part takes window_labels engine xs) (λ (engine : Engine). is_asked e engine ≡ false → meaning (over engine.samples asked) e at.0 ≡ meaning (over [] asked) e at.0) engines windows (unasked_gives_nothing engines asked e at.0 parted)) in
    windows_of_parts takes (owed_at part.Windows asked e at) called at xs (windows_sorted asked selector range.0 at.0)
    (subst (λ (r : List WindowRow). Shuffled xs r) (of_called wanted takes window_labels xs engines none) (all_parted takes window_labels engines xs (windows_one takes engines asked selector range.0 at.0 (each_one engines asked.samples parted))))
    (mapped_along (λ (engine : Engine). selected_windows (over engine.samples asked) selector range.0 at.0 ≡ in_part takes window_labels engine xs) (λ (engine : Engine). (owed_at part.Windows asked e at engine).rows ≡ map window_cell (in_part takes window_labels engine xs))
    (λ engine h. ap (map window_cell) (ap (λ (w : WindowsAt). w.rows) (means (over engine.samples asked)) ∙ h)) called
    (recursion_filter (λ (engine : Engine). selected_windows (over engine.samples asked) selector range.0 at.0 ≡ in_part takes window_labels engine xs) wanted engines windows))
    ∙ ap (λ (m : Marks). record { at = at; rows = xs; marks = m })
    (same_union (λ (engine : Engine). (owed_at part.Windows asked e at engine).marks) (λ (engine : Engine). nothing) nothing called
    (everywhere (λ (engine : Engine). (owed_at part.Windows asked e at engine).marks ≡ nothing) (λ engine. ap (λ (w : WindowsAt). w.marks) (means (over engine.samples asked))) called)
    ∙ none_over called)
    ∙ sym (means asked)
