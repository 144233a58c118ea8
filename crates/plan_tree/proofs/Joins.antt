-- Marks and notes of what is joined are sets, and what is lent is what is joined.
use Rattle.std.proofs.Common.{◌≡◌, ◌∙◌, List, [], ◌∷◌, map, true, false, sym, ap, subst}
use Rattle.std.specs.Prelude.{IsTrue}
use Rattle.std.specs.List.Sorted.{IsStrictlySortedBy}
use Rattle.op_gather.specs.Joined.{LendsJoined}
use Rattle.op_gather.specs.Joins.{as_sets, groups_joined, rows_joined, with_sets}
use Rattle.promql_meaning.specs.Givens.{barren, no_marks}
use Rattle.step_batch.specs.Lent.{Lent, stages}
use Rattle.step_batch.specs.LentWindows.{WindowsAt}
use Rattle.step_cells.specs.Joined.{all_cells, all_marks, finished_outcome, keyed_cells, marks_with, rows_in, windows_in}
use Rattle.step_table.specs.Groups.{gathered}
use Rattle.step_table.specs.KeySets.{sorted_set}
use Rattle.step_table.specs.Laws.{SettledIsWellFormed, TakenHasSets, UnionIsSet}
use Rattle.step_table.specs.Orders.{mark_cmp}
use Rattle.step_table.specs.OrderLaws.{mark_cmp_ties, mark_cmp_total, note_cmp_ties, note_cmp_total}
use Rattle.step_table.specs.Outcomes.{shared_marks}
use Rattle.step_table.specs.Sets.{step_of_rows}
use Rattle.step_table.specs.Timed.{StepAt}
use Rattle.step_table.specs.Unions.{set_of, united, with_fatal}
use Rattle.step_table.specs.WellFormed.{AreSets}
use Rattle.step_table.specs.declared.cells.PartKind.{PartKind}
use Rattle.step_table.specs.declared.cells.PartKind.TheVariants as part
use Rattle.step_table.specs.declared.cells.StepCells.{StepCells}
use Rattle.step_table.specs.declared.marks.Mark.{Mark}
use Rattle.step_table.specs.declared.marks.Marks.{Marks}
use Rattle.step_table.specs.declared.step.Step.{Step}
use Rattle.step_table.specs.declared.windows.WindowRow.{WindowRow}
use Rattle.ticks.specs.declared.moment.Ms.{Ms}
use Rattle.plan_tree.specs.Gathering.{LendsGiven, gives_steps, joined_of}
use Rattle.plan_tree.specs.Worlds.{Gathered, HasSets, no_windows}

sets_are : (marks : Marks) → AreSets (as_sets marks)
sets_are marks = record { fatal = sorted_set mark_cmp_total mark_cmp_ties marks.fatal; notes = sorted_set note_cmp_total note_cmp_ties marks.notes }

pub no_sets : AreSets no_marks
unfolding IsStrictlySortedBy
no_sets = record { fatal = tt; notes = tt }

with_are_sets : UnionIsSet → (marks : Marks) (steps : List StepCells) → AreSets marks → AreSets (marks_with marks (map with_sets steps))
with_are_sets union marks [] h = h
with_are_sets union marks (step ∷ steps) h = with_are_sets union (united marks (as_sets step.marks)) steps (union marks (as_sets step.marks) h (sets_are step.marks))

fatal_are_sets : UnionIsSet → (marks : Marks) (fatal : List Mark) → AreSets marks → AreSets (with_fatal marks fatal)
unfolding IsStrictlySortedBy
fatal_are_sets union marks fatal h = union marks (record { fatal = set_of mark_cmp fatal; notes = [] }) h (record { fatal = sorted_set mark_cmp_total mark_cmp_ties fatal; notes = tt })

pub joined_are_sets : UnionIsSet → SettledIsWellFormed → TakenHasSets → (kind : PartKind) (t : Ms) (steps : List StepCells) → HasSets (joined_of kind t steps)
joined_are_sets union settled taken part.Rows t steps =
    let all = map with_sets steps in
    record { step = (settled (step_of_rows (rows_in all) (all_marks all)) (with_are_sets union no_marks steps no_sets)).marks; windows = no_sets }
joined_are_sets union settled taken part.Windows t steps =
    let all = map with_sets steps in
    record { step = no_sets; windows = fatal_are_sets union (all_marks all) (shared_marks (λ (w : WindowRow). w.labels) (windows_in all)) (with_are_sets union no_marks steps no_sets) }
joined_are_sets union settled taken (part.Partial f by) t steps =
    let all = map with_sets steps in
    record { step = taken (all_marks all) (map (finished_outcome f) (gathered (keyed_cells (all_cells all)))) (with_are_sets union no_marks steps no_sets); windows = no_sets }

-- ---- what is lent

module _ (t : Ms) (lent : Lent) (windows : WindowsAt) where
  pub lends_given : (kind : PartKind) (steps : List StepCells) → LendsJoined kind t steps lent windows → LendsGiven kind t (joined_of kind t steps) lent windows
  lends_given part.Rows steps h = h
  lends_given part.Windows steps h = h
  lends_given (part.Partial f by) steps h = h

  one_step : (a b : Step) (xs : List StepAt) → xs ≡ record { at = t; step = a } ∷ [] → xs ≡ record { at = t; step = b } ∷ [] → a ≡ b
  one_step a b xs e f =
      let one : StepAt = record { at = t; step = a } in
      let two : StepAt = record { at = t; step = b } in
      let h : one ∷ [] ≡ two ∷ [] = sym e ∙ f in
      ap (λ (z : StepAt). z.step) (head_same one two h)
    where
      head_same : (a b : StepAt) → a ∷ [] ≡ b ∷ [] → a ≡ b
      head_same a b e = cc

  -- what is lent is joined of one step at most
  pub joined_same : (kind : PartKind) (xs ys : List StepCells) → LendsJoined kind t xs lent windows → LendsJoined kind t ys lent windows → joined_of kind t xs ≡ joined_of kind t ys
  joined_same part.Rows xs ys h k = ap (λ (s : Step). record { step = s; windows = no_windows t.0 }) (one_step (rows_joined xs) (rows_joined ys) (stages lent) h k)
  joined_same part.Windows xs ys h k = ap (λ (w : WindowsAt). record { step = barren no_marks; windows = w }) (sym h ∙ k)
  joined_same (part.Partial f by) xs ys h k = ap (λ (s : Step). record { step = s; windows = no_windows t.0 }) (one_step (groups_joined f xs) (groups_joined f ys) (stages lent) h k)

  -- windows that are lent are those of the instant
  pub windows_there : (kind : PartKind) (steps : List StepCells) → kind ≡ part.Windows → LendsJoined kind t steps lent windows → windows.at ≡ t
  windows_there kind steps is h = ap (λ (w : WindowsAt). w.at) (subst (λ (q : PartKind). LendsJoined q t steps lent windows) is h)

  pub steps_given : (kind : PartKind) (given : Gathered) → IsTrue (gives_steps kind) → LendsGiven kind t given lent windows → stages lent ≡ record { at = t; step = given.step } ∷ []
  steps_given part.Rows given k h = h
  steps_given part.Windows given k h = absurd (cc)
  steps_given (part.Partial f by) given k h = h

  pub windows_given : (kind : PartKind) (given : Gathered) → kind ≡ part.Windows → LendsGiven kind t given lent windows → windows ≡ given.windows
  windows_given kind given is h = subst (λ (q : PartKind). LendsGiven q t given lent windows) is h
