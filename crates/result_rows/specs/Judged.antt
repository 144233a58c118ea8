-- What is collected of all steps of an expression is its result. (Prometheus querying.)
use Rattle.std.specs.Prelude.{◌≡◌, Bool, List, ◌++◌, Some}
use Rattle.promql_ast.specs.declared.tree.Expr.{Expr}
use Rattle.promql_meaning.specs.declared.answer.Outcome.{Outcome}
use Rattle.promql_meaning.specs.declared.answer.Outcome.TheVariants as outcome
use Rattle.promql_meaning.specs.Results.{first_stop, gives_scalar, judged, order_asked}
use Rattle.result_rows.specs.Taken.{HasTaken, Kept, ordered_answer}
use Rattle.step_table.specs.Timed.{StepAt}

-- where all steps were taken, it is their answer
abbrev pub CollectedIsJudged : Type 0
CollectedIsJudged =
    (instant : Bool) (e : Expr) (kept : Kept) (steps : List StepAt) → HasTaken kept steps →
    outcome.Answer (ordered_answer (gives_scalar e) (order_asked instant e) steps) ≡ judged instant e steps

-- where a step ends the evaluation, it is that outcome, whatever steps come behind
abbrev pub StoppedIsJudged : Type 0
StoppedIsJudged =
    (instant : Bool) (e : Expr) (steps behind : List StepAt) (o : Outcome) → first_stop 0 steps ≡ Some o → o ≡ judged instant e (steps ++ behind)
