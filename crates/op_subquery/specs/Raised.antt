-- The marks and notes of steps, each beside the last instant at which it was raised. (This project's own.)
use Rattle.std.specs.Prelude.{◌≡◌, ℤ, int_lt, List, [], ◌∷◌, filter, Option, None, Some, if◌then◌else◌}
use Rattle.std.specs.BTreeMap.{insert_entry, is_at}
use Rattle.std.specs.declared.cmp.Ordering.{Ordering}
use Rattle.std.specs.List.{list_any}
use Rattle.std.specs.List.Sorted.{IsStrictlySortedBy}
use Rattle.std.specs.Map.{keys_of, lookup}
use Rattle.step_table.specs.Orders.{mark_cmp, note_cmp}
use Rattle.step_table.specs.Timed.{StepAt}
use Rattle.step_table.specs.declared.marks.Mark.{Mark}
use Rattle.step_table.specs.declared.marks.Note.{Note}
use Rattle.ticks.specs.declared.moment.Ms.{Ms}

-- marks and notes, each beside an instant
pub record Raised : Type 0 where
  pub fatal : List (Mark × Ms)
  pub notes : List (Note × Ms)

abbrev pub or_else : Option Ms → Option Ms → Option Ms
or_else None other = other
or_else (Some t) other = Some t

-- the instant of a step that raises a mark
abbrev pub raised_at : {K : Type 0} → (K → K → Ordering) → (StepAt → List K) → K → StepAt → Option Ms
raised_at R marks k s = if list_any (is_at (R k)) (marks s) then Some s.at else None

-- the instant of the last step that does
abbrev pub last_raised : {K : Type 0} → (K → K → Ordering) → (StepAt → List K) → K → List StepAt → Option Ms
last_raised R marks k [] = None
last_raised R marks k (s ∷ steps) = or_else (last_raised R marks k steps) (raised_at R marks k s)

-- in the order of marks, each that a step raises beside the last instant at which one does
pub record AreLast {K : Type 0} (R : K → K → Ordering) (marks : StepAt → List K) (last : List (K × Ms)) (steps : List StepAt) : Type 0 where
  pub sorted : IsStrictlySortedBy R (keys_of last)
  pub each : (k : K) → lookup (is_at (R k)) last ≡ last_raised R marks k steps

abbrev pub fatal_in : StepAt → List Mark
fatal_in s = s.step.marks.fatal

abbrev pub notes_in : StepAt → List Note
notes_in s = s.step.marks.notes

-- what was raised is that of steps
pub record AreRaised (raised : Raised) (steps : List StepAt) : Type 0 where
  pub fatal : AreLast mark_cmp fatal_in raised.fatal steps
  pub notes : AreLast note_cmp notes_in raised.notes steps

-- marks that are raised at an instant
abbrev pub raised_all : {K : Type 0} → (K → K → Ordering) → List (K × Ms) → List K → Ms → List (K × Ms)
raised_all R last [] at = last
raised_all R last (k ∷ marks) at = raised_all R (insert_entry R last k at) marks at

-- without those whose last instant is no later than an edge
abbrev pub without_early : {K : Type 0} → ℤ → List (K × Ms) → List (K × Ms)
without_early {K} edge last = filter (λ (e : K × Ms). int_lt edge e.1.0) last
