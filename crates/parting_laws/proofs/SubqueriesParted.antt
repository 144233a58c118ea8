-- Subqueries that are parted.
use Rattle.std.proofs.Common.{◌≡◌, ◌∙◌, Bool, true, false, cond, List, [], ◌∷◌, ◌++◌, map, refl, sym, ap, subst, Some}
use Rattle.std.specs.Prelude.{◌||◌, filter, ℤ}
use Rattle.std.specs.List.{AllByRecursion, filter_map, list_any}
use Rattle.std.specs.Map.{keys_of}
use Rattle.std.proofs.lemmas.List.{map-append}
use Rattle.std.proofs.lemmas.List.Elements.{filter-append}
use Rattle.promql_ast.specs.Folds.{fold-Subquery}
use Rattle.xfrac.specs.declared.value.XFrac.{XFrac}
use Rattle.step_table.specs.Groups.{Names, gathered}
use Rattle.step_table.specs.Laws.{UnionHasMarks, UnionHasNotes, has_mark, has_note}
use Rattle.step_table.specs.Timed.{marks_of_steps, rows_of_steps, steps_over, timed}
use Rattle.step_table.specs.Unions.{united}
use Rattle.step_table.specs.declared.marks.Mark.{Mark}
use Rattle.step_table.specs.declared.marks.Marks.{Marks}
use Rattle.step_table.specs.declared.marks.Note.{Note}
use Rattle.step_table.specs.declared.step.Row.{Row}
use Rattle.step_table.specs.declared.step.Step.{Step}
use Rattle.step_table.specs.declared.windows.WindowRow.{WindowRow}
use Rattle.ticks.specs.declared.moment.Ms.{Ms}
use Rattle.promql_meaning.specs.Givens.{step_of}
use Rattle.promql_meaning.specs.Meaning.{meaning, node_meaning}
use Rattle.promql_meaning.specs.Selecting.{moment_of, window_row}
use Rattle.promql_meaning.specs.Subqueries.{as_times, gathered_windows, group_window, multiples, points_of}
use Rattle.promql_meaning.specs.declared.given.Given.{Given}
use Rattle.promql_meaning.specs.declared.given.Given.TheVariants as given
use Rattle.promql_meaning.specs.declared.given.Windows.{Windows}
use Rattle.parting_laws.specs.LocalLaws.{SubqueriesAreParted}
use Rattle.parting_laws.specs.PartLaws.{over}
use Rattle.parting_laws.specs.Portions.{ArePortions, GivenParts, HaveMarks, IsOfOne, Portion, StepParts, windows_in}
use Rattle.parting_laws.specs.Portions as portions_of
use Rattle.parting_laws.proofs.Chosen.{chosen_all, chosen_filter, everywhere, mapped_along}
use Rattle.parting_laws.proofs.Locals.{along}
use Rattle.parting_laws.proofs.MarksParted.{all_have, all_have_notes, any_same, any_two, nothing, union_over}
use Rattle.parting_laws.proofs.PartedGroups.{gathered_in, groups_named, items_in}
use Rattle.parting_laws.proofs.StepsParted.{none_any, step_parts}

abbrev Timed : Type 0
Timed = Names × (Ms × XFrac)

-- ---- rows beside their instants

abbrev timed_row : Ms → Row → Timed
timed_row u row = (row.labels, (u, row.value))

abbrev timed_of : (Names → Bool) → List Timed → List Timed
timed_of part items = items_in part items

timed_in : (part : Names → Bool) (u : Ms) (rows : List Row) → map (timed_row u) (filter (λ (row : Row). part row.labels) rows) ≡ timed_of part (map (timed_row u) rows)
timed_in part u [] = refl
timed_in part u (row ∷ rows) = by (part row.labels) (timed_in part u rows)
  where
    by : (b : Bool) → map (timed_row u) (filter (λ (row : Row). part row.labels) rows) ≡ timed_of part (map (timed_row u) rows)
        → map (timed_row u) (cond b (row ∷ filter (λ (row : Row). part row.labels) rows) (filter (λ (row : Row). part row.labels) rows))
        ≡ cond b (timed_row u row ∷ timed_of part (map (timed_row u) rows)) (timed_of part (map (timed_row u) rows))
    by true rest = ap (λ (r : List Timed). timed_row u row ∷ r) rest
    by false rest = rest

over_in : (part : Names → Bool) (whole piece : ℤ → Step) → ((u : ℤ) → (piece u).table.rows ≡ filter (λ (row : Row). part row.labels) (whole u).table.rows) → (us : List Ms)
    → rows_of_steps (steps_over piece us) ≡ timed_of part (rows_of_steps (steps_over whole us))
over_in part whole piece e [] = refl
over_in part whole piece e (u ∷ us) =
    let here : timed u (piece u.0) ≡ timed_of part (timed u (whole u.0)) = ap (map (timed_row u)) (e u.0) ∙ timed_in part u (whole u.0).table.rows in
    let rest : rows_of_steps (steps_over piece us) ≡ timed_of part (rows_of_steps (steps_over whole us)) = over_in part whole piece e us in
    (λ i. here i ++ rest i) ∙ sym (filter-append (λ (item : Timed). part item.0) (timed u (whole u.0)) (rows_of_steps (steps_over whole us)))

group_is : (g : Names × List (Ms × XFrac)) (w : WindowRow) → group_window g ≡ Some w → w.labels ≡ g.0
group_is g w e = by g.1 e
  where
    by : (xs : List (Ms × XFrac)) → window_row g.0 xs ≡ Some w → w.labels ≡ g.0
    by [] f = absurd (cc)
    by (x ∷ xs) f = let same : record { labels = g.0; times = map (λ (y : Ms × XFrac). y.0) (x ∷ xs); values = map (λ (y : Ms × XFrac). y.1) (x ∷ xs) } ≡ w = cc in ap (λ (r : WindowRow). r.labels) (sym same)

windows_part : (part : Names → Bool) (whole piece : ℤ → Step) → ((u : ℤ) → (piece u).table.rows ≡ filter (λ (row : Row). part row.labels) (whole u).table.rows) → (us : List Ms)
    → gathered_windows (rows_of_steps (steps_over piece us)) ≡ filter (λ (w : WindowRow). part w.labels) (gathered_windows (rows_of_steps (steps_over whole us)))
windows_part part whole piece e us =
    let all : List Timed = rows_of_steps (steps_over whole us) in
    ap gathered_windows (over_in part whole piece e us) ∙ ap (filter_map group_window) (gathered_in part all)
    ∙ chosen_filter group_window (λ (g : Names × List (Ms × XFrac)). part g.0) (λ (w : WindowRow). part w.labels) (gathered all)
    (everywhere (λ (g : Names × List (Ms × XFrac)). (w : WindowRow) → group_window g ≡ Some w → part w.labels ≡ part g.0) (λ g w f. ap part (group_is g w f)) (gathered all))

-- ---- the labels of windows

module _ (Q : Names → Type 0) where
  all_append : (xs ys : List Names) → AllByRecursion Q xs → AllByRecursion Q ys → AllByRecursion Q (xs ++ ys)
  all_append [] ys a b = b
  all_append (x ∷ xs) ys a b = (a.0, all_append xs ys a.1 b)

  keys_timed : (u : Ms) (rows : List Row) → AllByRecursion (λ (row : Row). Q row.labels) rows → AllByRecursion Q (keys_of (map (timed_row u) rows))
  keys_timed u [] a = tt
  keys_timed u (row ∷ rows) a = (a.0, keys_timed u rows a.1)

  keys_over : (whole : ℤ → Step) → ((u : ℤ) → AllByRecursion (λ (row : Row). Q row.labels) (whole u).table.rows) → (us : List Ms) → AllByRecursion Q (keys_of (rows_of_steps (steps_over whole us)))
  keys_over whole a [] = tt
  keys_over whole a (u ∷ us) =
      subst (AllByRecursion Q) (sym (map-append (λ (item : Timed). item.0) (timed u (whole u.0)) (rows_of_steps (steps_over whole us))))
      (all_append (keys_of (timed u (whole u.0))) (keys_of (rows_of_steps (steps_over whole us))) (keys_timed u (whole u.0).table.rows (a u.0)) (keys_over whole a us))

  windows_all : (whole : ℤ → Step) → ((u : ℤ) → AllByRecursion (λ (row : Row). Q row.labels) (whole u).table.rows) → (us : List Ms) → AllByRecursion (λ (w : WindowRow). Q w.labels) (gathered_windows (rows_of_steps (steps_over whole us)))
  windows_all whole a us =
      let all : List Timed = rows_of_steps (steps_over whole us) in
      chosen_all group_window (λ (g : Names × List (Ms × XFrac)). Q g.0) (λ (w : WindowRow). Q w.labels) (λ g w e h. subst Q (sym (group_is g w e)) h) (gathered all) (groups_named Q all (keys_over whole a us))

-- ---- marks

any_exchanged : {A B : Type 0} (a : A → B → Bool) (xs : List A) (ys : List B) → list_any (λ x. list_any (λ y. a x y) ys) xs ≡ list_any (λ y. list_any (λ x. a x y) xs) ys
any_exchanged a [] ys = sym (none_any ys)
any_exchanged a (x ∷ xs) ys = ap (λ b. list_any (λ y. a x y) ys || b) (any_exchanged a xs ys) ∙ sym (any_two (λ y. a x y) (λ y. list_any (λ z. a z y) xs) ys)

marks_over_are : (inner : ℤ → Step) (marks : Marks) (us : List Ms) → marks_of_steps marks (steps_over inner us) ≡ union_over (λ (u : Ms). (inner u.0).marks) marks us
marks_over_are inner marks [] = refl
marks_over_are inner marks (u ∷ us) = marks_over_are inner (united marks (inner u.0).marks) us

module _ (unions : UnionHasMarks) (note_unions : UnionHasNotes) where
  over_have : (portions : List Portion) (whole : ℤ → Step) (pieces : Portion → ℤ → Step) → ((u : ℤ) → HaveMarks portions (whole u).marks (λ p. (pieces p u).marks)) → (us : List Ms)
      → HaveMarks portions (marks_of_steps nothing (steps_over whole us)) (λ p. marks_of_steps nothing (steps_over (pieces p) us))
  over_have portions whole pieces have us =
      let fatal : (inner : ℤ → Step) (mark : Mark) → has_mark (marks_of_steps nothing (steps_over inner us)).fatal mark ≡ list_any (λ (u : Ms). has_mark (inner u.0).marks.fatal mark) us =
      λ inner mark. ap (λ (m : Marks). has_mark m.fatal mark) (marks_over_are inner nothing us) ∙ all_have unions (λ (u : Ms). (inner u.0).marks) mark nothing us in
      let notes : (inner : ℤ → Step) (note : Note) → has_note (marks_of_steps nothing (steps_over inner us)).notes note ≡ list_any (λ (u : Ms). has_note (inner u.0).marks.notes note) us =
      λ inner note. ap (λ (m : Marks). has_note m.notes note) (marks_over_are inner nothing us) ∙ all_have_notes note_unions (λ (u : Ms). (inner u.0).marks) note nothing us in
      record {
        fatal = λ mark.
            any_same (λ (p : Portion). has_mark (marks_of_steps nothing (steps_over (pieces p) us)).fatal mark) (λ (p : Portion). list_any (λ (u : Ms). has_mark (pieces p u.0).marks.fatal mark) us) portions
            (everywhere (λ (p : Portion). has_mark (marks_of_steps nothing (steps_over (pieces p) us)).fatal mark ≡ list_any (λ (u : Ms). has_mark (pieces p u.0).marks.fatal mark) us) (λ p. fatal (pieces p) mark) portions)
            ∙ any_exchanged (λ (p : Portion) (u : Ms). has_mark (pieces p u.0).marks.fatal mark) portions us
            ∙ any_same (λ (u : Ms). list_any (λ (p : Portion). has_mark (pieces p u.0).marks.fatal mark) portions) (λ (u : Ms). has_mark (whole u.0).marks.fatal mark) us
            (everywhere (λ (u : Ms). list_any (λ (p : Portion). has_mark (pieces p u.0).marks.fatal mark) portions ≡ has_mark (whole u.0).marks.fatal mark) (λ u. (have u.0).fatal mark) us)
            ∙ sym (fatal whole mark);
        notes = λ note.
            any_same (λ (p : Portion). has_note (marks_of_steps nothing (steps_over (pieces p) us)).notes note) (λ (p : Portion). list_any (λ (u : Ms). has_note (pieces p u.0).marks.notes note) us) portions
            (everywhere (λ (p : Portion). has_note (marks_of_steps nothing (steps_over (pieces p) us)).notes note ≡ list_any (λ (u : Ms). has_note (pieces p u.0).marks.notes note) us) (λ p. notes (pieces p) note) portions)
            ∙ any_exchanged (λ (p : Portion) (u : Ms). has_note (pieces p u.0).marks.notes note) portions us
            ∙ any_same (λ (u : Ms). list_any (λ (p : Portion). has_note (pieces p u.0).marks.notes note) portions) (λ (u : Ms). has_note (whole u.0).marks.notes note) us
            (everywhere (λ (u : Ms). list_any (λ (p : Portion). has_note (pieces p u.0).marks.notes note) portions ≡ has_note (whole u.0).marks.notes note) (λ u. (have u.0).notes note) us)
            ∙ sym (notes whole note);
      }

  -- ---- the windows of a subquery

  for_each : {A B : Type 0} (Q : A → B → Type 0) (ys : List B) → ((x : A) → AllByRecursion (Q x) ys) → AllByRecursion (λ (y : B). (x : A) → Q x y) ys
  for_each Q [] h = tt
  for_each Q (y ∷ ys) h = (λ x. (h x).0, for_each Q ys (λ x. (h x).1))

  points_parts : (portions : List Portion) (closed : Bool) (whole : ℤ → Step) (pieces : Portion → ℤ → Step) (range step : Ms) (m : ℤ) → ((u : ℤ) → StepParts portions (whole u) (λ p. pieces p u))
      → GivenParts portions (given.Windows (points_of closed whole range step m)) (λ p. given.Windows (points_of closed (pieces p) range step m))
  points_parts portions closed whole pieces range step m parts =
      let us : List Ms = as_times (multiples closed m range.0 step.0) in
      let all : Windows = points_of closed whole range step m in
      let marks : Portion → Marks = λ p. marks_of_steps nothing (steps_over (pieces p) us) in
      portions_of.windows all marks refl
      (mapped_along (λ (p : Portion). (u : ℤ) → (pieces p u).table.rows ≡ filter (λ (row : Row). p.test row.labels) (whole u).table.rows) (λ (p : Portion). given.Windows (points_of closed (pieces p) range step m) ≡ given.Windows (record all { rows = windows_in p all.rows; marks = marks p }))
      (λ p e. ap (λ (rows : List WindowRow). given.Windows (record all { rows = rows; marks = marks p })) (windows_part p.test whole (pieces p) e us)) portions
      (for_each (λ (u : ℤ) (p : Portion). (pieces p u).table.rows ≡ filter (λ (row : Row). p.test row.labels) (whole u).table.rows) portions (λ u. (parts u).rows)))
      (windows_all (IsOfOne portions) whole (λ u. (parts u).one) us)
      (over_have portions whole pieces (λ u. (parts u).marks) us)

  pub subqueries_parted : SubqueriesAreParted
  subqueries_parted names e inner range step moment is parted asked portions t ok =
      along portions asked (λ a. meaning a e t) (λ a. given.Windows (points_of moment.closed (λ u. step_of (meaning a inner u)) range step (moment_of a moment t)))
      (λ a. ap (λ (f : ℤ → Given). f t) (fold-Subquery (node_meaning a) (λ e. e.node) e inner range step moment is))
      (points_parts portions moment.closed (λ u. step_of (meaning asked inner u)) (λ p u. step_of (meaning (over p.samples asked) inner u)) range step (moment_of asked moment t)
      (λ u. step_parts portions (meaning asked inner u) (λ p. meaning (over p.samples asked) inner u) (parted asked portions u ok)))
