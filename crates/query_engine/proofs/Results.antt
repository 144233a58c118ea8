-- The result of a typed tree is what its text comes to, and is no refusal.
use Rattle.std.proofs.Common.{◌≡◌, ℕ, ◌+◌, Bool, true, false, List, [], ◌∷◌, length, Option, None, Some, subst, ap, ◌∙◌}
use Rattle.std.specs.Prelude.{nat_lt, Result, Ok, Err, IfOk, if◌then◌else◌, ⊤}
use Rattle.std.specs.Option.{option_or, unwrap_or}
use Rattle.promql_ast.specs.Edged.{edged}
use Rattle.promql_ast.specs.declared.tree.Expr.{Expr}
use Rattle.promql_meaning.specs.Meaning.{meaning_step}
use Rattle.promql_meaning.specs.Results.{first_stop, grid_times, judged, most_rows, result_of, stop_at}
use Rattle.step_table.specs.Timed.{StepAt, steps_over}
use Rattle.promql_meaning.specs.Selecting.{AllSeries, Asked, asked_over}
use Rattle.promql_meaning.specs.declared.answer.Answer.{Answer}
use Rattle.promql_meaning.specs.declared.answer.Outcome.{Outcome}
use Rattle.promql_meaning.specs.declared.answer.Outcome.TheVariants as outcome
use Rattle.promql_type.specs.Replacements.{Kept}
use Rattle.query_engine.specs.Evaluating.{ComesTo, IsRefused, StandsFor, answered}
use Rattle.step_table.specs.declared.marks.Mark.{Mark}
use Rattle.step_table.specs.declared.marks.Note.{Note}
use Rattle.step_table.specs.declared.step.Row.{Row}
use Rattle.ticks.specs.declared.grid.Grid.{Grid}
use Rattle.ticks.specs.declared.moment.Ms.{Ms}

pub comes_to : {E : Type 0} (text : List ℕ) (samples : AllSeries) (kept : Kept) (grid : Grid) (e tree : Expr) (instant closed : Bool) → StandsFor text kept e → tree ≡ edged closed e
    → (result : Result Outcome E) → IfOk result (λ o. o ≡ result_of (asked_over samples kept grid) tree grid instant) → IfOk result (ComesTo text samples grid instant closed)
comes_to text samples kept grid e tree instant closed stands edge (Ok o) is =
    answered kept e o stands (is ∙ ap (λ x. result_of (asked_over samples kept grid) x grid instant) edge)
comes_to text samples kept grid e tree instant closed stands edge (Err fault) is = tt

-- ---- no result is a refusal

abbrev IsNoRefusal : Option Outcome → Type 0
IsNoRefusal None = ⊤
IsNoRefusal (Some o) = IsRefused o → ⊥

stop_is_none : (earlier : ℕ) (at : Ms) (rows : List Row) (fatal : List Mark) (notes : List Note)
    → IsNoRefusal (stop_at earlier (record { at = at; step = record { table = record { rows = rows }; marks = record { fatal = fatal; notes = notes } } }))
stop_is_none earlier at rows [] notes =
    elim (nat_lt most_rows (earlier + length rows)) as (λ b. IsNoRefusal (if b then Some (outcome.TooManyRows at) else None)) [ true ↦ λ r. r | false ↦ tt ]
stop_is_none earlier at rows (mark ∷ marks) notes = λ r. r

either_is_none : (a b : Option Outcome) → IsNoRefusal a → IsNoRefusal b → IsNoRefusal (option_or a b)
either_is_none None b none others = others
either_is_none (Some o) b none others = none

first_is_none : (earlier : ℕ) (steps : List StepAt) → IsNoRefusal (first_stop earlier steps)
first_is_none earlier [] = tt
first_is_none earlier (s ∷ steps) =
    either_is_none (stop_at earlier s) (first_stop (earlier + length s.step.table.rows) steps) (stop_is_none earlier s.at s.step.table.rows s.step.marks.fatal s.step.marks.notes)
    (first_is_none (earlier + length s.step.table.rows) steps)

answer_is_none : (o : Option Outcome) (answer : Answer) → IsNoRefusal o → IsRefused (unwrap_or o (outcome.Answer answer)) → ⊥
answer_is_none None answer none r = r
answer_is_none (Some o) answer none r = none r

judged_is_none : (instant : Bool) (e : Expr) (steps : List StepAt) → IsRefused (judged instant e steps) → ⊥
judged_is_none instant e steps = answer_is_none (first_stop 0 steps) _ (first_is_none 0 steps)

pub not_refused : {E : Type 0} (X : Type 0) (asked : Asked) (e : Expr) (grid : Grid) (instant : Bool) (result : Result Outcome E) → IfOk result (λ o. o ≡ result_of asked e grid instant)
    → IfOk result (λ o. IsRefused o → X)
not_refused X asked e grid instant (Ok o) is = λ r. absurd (judged_is_none instant e (steps_over (meaning_step asked e) (grid_times grid)) (subst IsRefused is r))
not_refused X asked e grid instant (Err fault) is = tt
