-- The mark Overflow is kept.
use Rattle.std.proofs.Common.{◌≡◌, ◌∙◌, Bool, true, false, List, [], ◌∷◌, refl}
use Rattle.std.specs.Prelude.{◌||◌}
use Rattle.step_table.specs.Laws.{UnionHasMarks, has_mark}
use Rattle.step_table.specs.Orders.{mark_cmp, note_cmp}
use Rattle.step_table.specs.Timed.{StepAt, marks_of_steps}
use Rattle.step_table.specs.Unions.{set_of, united, with_fatal}
use Rattle.step_table.specs.declared.marks.Mark.{Mark}
use Rattle.step_table.specs.declared.marks.Mark.TheVariants.{Overflow}
use Rattle.step_table.specs.declared.marks.Marks.{Marks}
use Rattle.step_table.specs.declared.marks.Note.{Note}
use Rattle.step_table.specs.declared.step.Step.{Step}
use Rattle.promql_meaning.specs.Outcomes.{with_notes}
use Rattle.plan_agreement.specs.Agreements.{Overflows}

-- a step with the mark Overflow
abbrev pub Lost : Step → Type 0
Lost step = Overflows step.marks

or_left : (a b : Bool) → a ≡ true → (a || b) ≡ true
or_left true b e = refl
or_left false b e = absurd (cc)

or_right : (a b : Bool) → b ≡ true → (a || b) ≡ true
or_right true b e = refl
or_right false b e = e

module _ (unions : UnionHasMarks) where
  pub united_left : (a b : Marks) → Overflows a → Overflows (united a b)
  united_left a b h = unions a b Overflow ∙ or_left (has_mark a.fatal Overflow) (has_mark b.fatal Overflow) h

  pub united_right : (a b : Marks) → Overflows b → Overflows (united a b)
  united_right a b h = unions a b Overflow ∙ or_right (has_mark a.fatal Overflow) (has_mark b.fatal Overflow) h

  pub fatal_keeps : (marks : Marks) (fatal : List Mark) → Overflows marks → Overflows (with_fatal marks fatal)
  fatal_keeps marks fatal h = united_left marks (record { fatal = set_of mark_cmp fatal; notes = [] }) h

  pub notes_keep : (marks : Marks) (notes : List Note) → Overflows marks → Overflows (with_notes marks notes)
  notes_keep marks notes h = united_left marks (record { fatal = []; notes = set_of note_cmp notes }) h

  pub instants_keep : (marks : Marks) (steps : List StepAt) → Overflows marks → Overflows (marks_of_steps marks steps)
  instants_keep marks [] h = h
  instants_keep marks (s ∷ steps) h = instants_keep (united marks s.step.marks) steps (united_left marks s.step.marks h)
