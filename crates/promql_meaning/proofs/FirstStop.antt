-- The stop of an evaluation is that of the first instant at which it ends, and the notes of an answer are those of its instants.
use Rattle.std.proofs.Common.{◌≡◌, ◌∙◌, ℕ, ◌+◌, Bool, true, false, List, [], ◌∷◌, ◌++◌, length, refl, sym, ap, subst, arith, Option, None, Some}
use Rattle.std.specs.Prelude.{◌||◌}
use Rattle.std.specs.List.{list_any}
use Rattle.std.specs.Option.{option_or}
use Rattle.step_table.specs.Laws.{UnionHasNotes, has_note}
use Rattle.step_table.specs.Timed.{StepAt}
use Rattle.step_table.specs.Unions.{united}
use Rattle.step_table.specs.declared.marks.Marks.{Marks}
use Rattle.step_table.specs.declared.marks.Note.{Note}
use Rattle.promql_meaning.specs.declared.answer.Outcome.{Outcome}
use Rattle.promql_meaning.specs.Givens.{no_marks}
use Rattle.promql_meaning.specs.ResultLaws.{FirstStopIsFirst, IsFirstStop, NoStopIsNone, NoneStops, NotesStand, rows_in}
use Rattle.promql_meaning.specs.Results.{all_marks, first_stop, stop_at}

-- ---- the first stop

head_of : (s t : StepAt) (xs ys : List StepAt) → s ∷ xs ≡ t ∷ ys → s ≡ t
head_of s t xs ys e = cc

tail_of : (s t : StepAt) (xs ys : List StepAt) → s ∷ xs ≡ t ∷ ys → xs ≡ ys
tail_of s t xs ys e = cc

nothing_before : (earlier : ℕ) → NoneStops earlier []
nothing_before earlier [] t behind e = absurd (cc)
nothing_before earlier (x ∷ before) t behind e = absurd (cc)

-- one instant more that doesn't end the evaluation
one_before : (earlier : ℕ) (s : StepAt) (steps : List StepAt) → stop_at earlier s ≡ None → NoneStops (earlier + length s.step.table.rows) steps → NoneStops earlier (s ∷ steps)
one_before earlier s steps here none [] t behind e =
    let at_start : earlier + 0 ≡ earlier = omega arith in
    ap (λ n. stop_at n t) at_start ∙ ap (stop_at earlier) (sym (head_of s t steps behind e)) ∙ here
one_before earlier s steps here none (x ∷ before) t behind e =
    let more : earlier + (length x.step.table.rows + rows_in before) ≡ (earlier + length x.step.table.rows) + rows_in before = omega arith in
    let same : x ≡ s = sym (head_of s x steps (before ++ (t ∷ behind)) e) in
    ap (λ n. stop_at n t) more ∙ ap (λ (y : StepAt). stop_at ((earlier + length y.step.table.rows) + rows_in before) t) same ∙ none before t behind (tail_of s x steps (before ++ (t ∷ behind)) e)

-- what holds of all instants holds of the first and of those behind it
of_first : (earlier : ℕ) (s : StepAt) (steps : List StepAt) → NoneStops earlier (s ∷ steps) → stop_at earlier s ≡ None
of_first earlier s steps none =
    let at_start : earlier + 0 ≡ earlier = omega arith in
    subst (λ n. stop_at n s ≡ None) at_start (none [] s steps refl)

of_behind : (earlier : ℕ) (s : StepAt) (steps : List StepAt) → NoneStops earlier (s ∷ steps) → NoneStops (earlier + length s.step.table.rows) steps
of_behind earlier s steps none before t behind e =
    let more : earlier + (length s.step.table.rows + rows_in before) ≡ (earlier + length s.step.table.rows) + rows_in before = omega arith in
    subst (λ n. stop_at n t ≡ None) more (none (s ∷ before) t behind (ap (λ xs. s ∷ xs) e))

is_first : (earlier : ℕ) (steps : List StepAt) (o : Outcome) → first_stop earlier steps ≡ Some o → IsFirstStop earlier steps o
is_first earlier [] o e = absurd (cc)
is_first earlier (s ∷ steps) o e = by (stop_at earlier s) refl e (is_first (earlier + length s.step.table.rows) steps o)
  where
    by : (r : Option Outcome) → stop_at earlier s ≡ r → option_or r (first_stop (earlier + length s.step.table.rows) steps) ≡ Some o
        → (first_stop (earlier + length s.step.table.rows) steps ≡ Some o → IsFirstStop (earlier + length s.step.table.rows) steps o) → IsFirstStop earlier (s ∷ steps) o
    by (Some p) h is rest =
        let at_start : earlier + 0 ≡ earlier = omega arith in
        record { before = []; here = s; behind = steps; parts = refl; stops = ap (λ n. stop_at n s) at_start ∙ h ∙ is; none = nothing_before earlier }
    by None h is rest =
        let later = rest is in
        let more : earlier + (length s.step.table.rows + rows_in later.before) ≡ (earlier + length s.step.table.rows) + rows_in later.before = omega arith in
        record {
          before = s ∷ later.before;
          here = later.here;
          behind = later.behind;
          parts = ap (λ xs. s ∷ xs) later.parts;
          stops = ap (λ n. stop_at n later.here) more ∙ later.stops;
          none = one_before earlier s later.before h later.none;
        }

stops_first : (earlier : ℕ) (before : List StepAt) (here : StepAt) (behind : List StepAt) (o : Outcome) → NoneStops earlier before → stop_at (earlier + rows_in before) here ≡ Some o
    → first_stop earlier (before ++ (here ∷ behind)) ≡ Some o
stops_first earlier [] here behind o none h =
    let at_start : earlier + 0 ≡ earlier = omega arith in
    ap (λ r. option_or r (first_stop (earlier + length here.step.table.rows) behind)) (subst (λ n. stop_at n here ≡ Some o) at_start h)
stops_first earlier (s ∷ before) here behind o none h =
    let more : earlier + (length s.step.table.rows + rows_in before) ≡ (earlier + length s.step.table.rows) + rows_in before = omega arith in
    ap (λ r. option_or r (first_stop (earlier + length s.step.table.rows) (before ++ (here ∷ behind)))) (of_first earlier s before none)
    ∙ stops_first (earlier + length s.step.table.rows) before here behind o (of_behind earlier s before none) (subst (λ n. stop_at n here ≡ Some o) more h)

pub first_is_first : FirstStopIsFirst
first_is_first earlier steps o = (
  is_first earlier steps o,
  λ first. ap (first_stop earlier) first.parts ∙ stops_first earlier first.before first.here first.behind o first.none first.stops,
)

none_found : (earlier : ℕ) (steps : List StepAt) → first_stop earlier steps ≡ None → NoneStops earlier steps
none_found earlier [] e = nothing_before earlier
none_found earlier (s ∷ steps) e = by (stop_at earlier s) refl e (none_found (earlier + length s.step.table.rows) steps)
  where
    by : (r : Option Outcome) → stop_at earlier s ≡ r → option_or r (first_stop (earlier + length s.step.table.rows) steps) ≡ None
        → (first_stop (earlier + length s.step.table.rows) steps ≡ None → NoneStops (earlier + length s.step.table.rows) steps) → NoneStops earlier (s ∷ steps)
    by (Some p) h is rest = absurd (cc)
    by None h is rest = one_before earlier s steps h (rest is)

none_there : (earlier : ℕ) (steps : List StepAt) → NoneStops earlier steps → first_stop earlier steps ≡ None
none_there earlier [] none = refl
none_there earlier (s ∷ steps) none =
    ap (λ r. option_or r (first_stop (earlier + length s.step.table.rows) steps)) (of_first earlier s steps none) ∙ none_there (earlier + length s.step.table.rows) steps (of_behind earlier s steps none)

pub none_is_none : NoStopIsNone
none_is_none earlier steps = (none_found earlier steps, none_there earlier steps)

-- ---- notes

joined_tests : (a b c : Bool) → ((a || b) || c) ≡ (a || (b || c))
joined_tests true b c = refl
joined_tests false b c = refl

or_nothing : (a : Bool) → (a || false) ≡ a
or_nothing true = refl
or_nothing false = refl

module _ (has : UnionHasNotes) (note : Note) where
  noted : (marks : Marks) (steps : List StepAt) → has_note (all_marks marks steps).notes note ≡ (has_note marks.notes note || list_any (λ (s : StepAt). has_note s.step.marks.notes note) steps)
  noted marks [] = sym (or_nothing (has_note marks.notes note))
  noted marks (s ∷ steps) =
      noted (united marks s.step.marks) steps ∙ ap (λ b. b || list_any (λ (x : StepAt). has_note x.step.marks.notes note) steps) (has marks s.step.marks note)
      ∙ joined_tests (has_note marks.notes note) (has_note s.step.marks.notes note) (list_any (λ (x : StepAt). has_note x.step.marks.notes note) steps)

pub notes_stand : UnionHasNotes → NotesStand
notes_stand has instant e steps note = sym (noted has note no_marks steps)
