-- The text of an outcome that is no answer. (This project's own; those of failed matches are after Prometheus'.)
use Rattle.std.specs.Prelude.{ℕ, List, [], ◌++◌, codes, decimal}
use Rattle.label_set.specs.LabelText.{labels_text}
use Rattle.promql_ast.specs.Refusals.{name_of, place_of}
use Rattle.promql_ast.specs.declared.refusal.QueryRefusal.{QueryRefusal}
use Rattle.promql_ast.specs.declared.refusal.QueryRefusal.TheVariants.{UnknownFunction, RefusedFunction}
use Rattle.promql_meaning.specs.declared.answer.Outcome.{Outcome}
use Rattle.promql_meaning.specs.declared.answer.Outcome.TheVariants as outcome
use Rattle.step_table.specs.declared.marks.Mark.{Mark}
use Rattle.step_table.specs.declared.marks.Mark.TheVariants.{Overflow, Irrational, SameLabelset, DuplicateOneSide, ImplicitManyToOne, DuplicateResult, OutOfCalendar}

-- the function that a refusal names, with a blank before it; other refusals name none
abbrev pub function_text : QueryRefusal → List ℕ
function_text (UnknownFunction at function) = codes " " ++ function
function_text (RefusedFunction at function) = codes " " ++ function
function_text _ = []

-- `<Name> at <place>`, or `<Name> <function> at <place>`
abbrev pub refused_text : QueryRefusal → List ℕ
refused_text refusal = name_of refusal ++ (function_text refusal ++ (codes " at " ++ decimal (place_of refusal)))

-- the text of a mark
abbrev pub mark_text : Mark → List ℕ
mark_text Overflow = codes "overflow"
mark_text Irrational = codes "irrational result"
mark_text (SameLabelset labels) = codes "vector cannot contain metrics with the same labelset: " ++ labels_text labels
mark_text (DuplicateOneSide labels) = codes "found duplicate series for the match group " ++ labels_text labels
mark_text (ImplicitManyToOne labels) = codes "many-to-one matching must be explicit for " ++ labels_text labels
mark_text (DuplicateResult labels) = codes "multiple matches for labels " ++ labels_text labels
mark_text OutOfCalendar = codes "time outside the calendar"

-- the text of an outcome that is no answer; an answer has none
abbrev pub outcome_text : Outcome → List ℕ
outcome_text (outcome.Answer answer) = []
outcome_text (outcome.Refused refusal) = refused_text refusal
outcome_text (outcome.Failed at mark) = mark_text mark
outcome_text (outcome.TooManyRows at) = codes "too many rows"
