-- The marks and notes that are raised are those of steps together.
use Rattle.std.proofs.Common.{◌≡◌, ◌∙◌, Bool, true, false, List, [], ◌∷◌, refl, sym, ap}
use Rattle.std.specs.Prelude.{◌||◌, is_some}
use Rattle.std.specs.List.{AllByRecursion}
use Rattle.std.specs.List.Sorted.{IsStrictlySortedBy}
use Rattle.std.specs.Map.{keys_of}
use Rattle.promql_meaning.specs.Givens.{no_marks}
use Rattle.step_table.specs.Laws.{UnionHasMarks, UnionHasNotes, UnionIsSet, has_mark, has_note}
use Rattle.step_table.specs.OrderLaws.{mark_cmp_ties, mark_cmp_total, note_cmp_ties, note_cmp_total}
use Rattle.step_table.specs.Orders.{mark_cmp, note_cmp}
use Rattle.step_table.specs.Timed.{StepAt, marks_of_steps}
use Rattle.step_table.specs.Unions.{united}
use Rattle.step_table.specs.WellFormed.{AreSets}
use Rattle.step_table.specs.declared.marks.Mark.{Mark}
use Rattle.step_table.specs.declared.marks.Marks.{Marks}
use Rattle.step_table.specs.declared.marks.Note.{Note}
use Rattle.op_subquery.specs.Raised.{AreRaised, Raised, fatal_in, last_raised, notes_in}
use Rattle.op_subquery.proofs.Raising.{raised_are, some_more}

or_again : (a b c : Bool) → ((a || b) || c) ≡ (a || (b || c))
or_again true b c = refl
or_again false b c = refl

or_false : (b : Bool) → (b || false) ≡ b
or_false true = refl
or_false false = refl

module _ (set : UnionIsSet) where
  sets_stay : (marks : Marks) (steps : List StepAt) → AreSets marks → AllByRecursion (λ (s : StepAt). AreSets s.step.marks) steps → AreSets (marks_of_steps marks steps)
  sets_stay marks [] m a = m
  sets_stay marks (s ∷ steps) m a = sets_stay (united marks s.step.marks) steps (set marks s.step.marks m a.0) a.1

has_fatal : UnionHasMarks → (k : Mark) (marks : Marks) (steps : List StepAt) → has_mark (marks_of_steps marks steps).fatal k ≡ (has_mark marks.fatal k || is_some (last_raised mark_cmp fatal_in k steps))
has_fatal has k marks [] = sym (or_false (has_mark marks.fatal k))
has_fatal has k marks (s ∷ steps) =
    has_fatal has k (united marks s.step.marks) steps ∙ ap (λ b. b || is_some (last_raised mark_cmp fatal_in k steps)) (has marks s.step.marks k)
    ∙ or_again (has_mark marks.fatal k) (has_mark s.step.marks.fatal k) (is_some (last_raised mark_cmp fatal_in k steps))
    ∙ ap (λ b. has_mark marks.fatal k || b) (sym (some_more mark_cmp fatal_in k s steps))

has_notes : UnionHasNotes → (k : Note) (marks : Marks) (steps : List StepAt) → has_note (marks_of_steps marks steps).notes k ≡ (has_note marks.notes k || is_some (last_raised note_cmp notes_in k steps))
has_notes has k marks [] = sym (or_false (has_note marks.notes k))
has_notes has k marks (s ∷ steps) =
    has_notes has k (united marks s.step.marks) steps ∙ ap (λ b. b || is_some (last_raised note_cmp notes_in k steps)) (has marks s.step.marks k)
    ∙ or_again (has_note marks.notes k) (has_note s.step.marks.notes k) (is_some (last_raised note_cmp notes_in k steps))
    ∙ ap (λ b. has_note marks.notes k || b) (sym (some_more note_cmp notes_in k s steps))

none_are_sets : AreSets no_marks
unfolding IsStrictlySortedBy
none_are_sets = record { fatal = tt; notes = tt }

-- what is raised is what the steps have together
pub marks_are : UnionIsSet → UnionHasMarks → UnionHasNotes → (raised : Raised) (steps : List StepAt) → AllByRecursion (λ (s : StepAt). AreSets s.step.marks) steps → AreRaised raised steps
    → record { fatal = keys_of raised.fatal; notes = keys_of raised.notes } ≡ marks_of_steps no_marks steps
marks_are set marks notes raised steps a is =
    let sets = sets_stay set no_marks steps none_are_sets a in
    let fatal : keys_of raised.fatal ≡ (marks_of_steps no_marks steps).fatal =
    raised_are mark_cmp_total mark_cmp_ties fatal_in raised.fatal steps (marks_of_steps no_marks steps).fatal is.fatal sets.fatal (λ k. has_fatal marks k no_marks steps) in
    let noted : keys_of raised.notes ≡ (marks_of_steps no_marks steps).notes =
    raised_are note_cmp_total note_cmp_ties notes_in raised.notes steps (marks_of_steps no_marks steps).notes is.notes sets.notes (λ k. has_notes notes k no_marks steps) in
    λ i. record { fatal = fatal i; notes = noted i }
