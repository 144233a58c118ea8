-- Durations, ranges, offsets and `@` times: `number_duration_literal`, `positive_duration_expr`, `offset_expr` and
-- `step_invariant_expr` of Prometheus' grammar. The limits are this project's own.
use Rattle.std.specs.Prelude.{ℕ, zero, suc, Bool, false, ◌&&◌, nat_lt, if◌then◌else◌, unsigned_abs, List, [], ◌∷◌, drop, Option, Some, None, Result, Ok, Err}
use Rattle.frac_text.specs.Times.{milliseconds_of, time_limit}
use Rattle.promql_ast.specs.declared.refusal.QueryRefusal.{QueryRefusal}
use Rattle.promql_ast.specs.declared.refusal.QueryRefusal.TheVariants.{BadDuration, DurationRange}
use Rattle.promql_ast.specs.declared.tree.Fixed.{Fixed}
use Rattle.promql_ast.specs.declared.tree.Fixed.TheVariants as fixed
use Rattle.promql_parts.specs.declared.lexeme.Lexeme.{Lexeme}
use Rattle.promql_parts.specs.declared.lexeme.LexemeKind.{LexemeKind}
use Rattle.promql_parts.specs.declared.lexeme.LexemeKind.TheVariants as kinds
use Rattle.promql_parts.specs.declared.lexeme.Sign.TheVariants.{LeftParen, RightParen, RightBracket, Colon, Plus, Minus}
use Rattle.promql_lex.specs.declared.word.Word.TheVariants.{Start, End}
use Rattle.promql_parts.specs.declared.span.Brackets.{Brackets}
use Rattle.promql_parts.specs.declared.span.Brackets.TheVariants.{Range, Steps}
use Rattle.promql_parts.specs.Reads.{Read, ◌>>=◌, refused, refused_at, begins, after}
use Rattle.ticks.specs.declared.moment.Ms.{Ms}
use Rattle.ticks.specs.Durations.{hundred_years}
use Rattle.xfrac.specs.Fractions.{with_sign}

abbrev pub ms : Bool → ℕ → Ms
ms negative n = record { 0 = with_sign negative n }

abbrev pub up_to : ℕ → ℕ → ℕ → Result ℕ QueryRefusal
up_to at most n = if nat_lt most n then Err (DurationRange at) else Ok n

-- seconds are a whole number of milliseconds
abbrev pub seconds_up_to : ℕ → ℕ → Option ℕ → Result ℕ QueryRefusal
seconds_up_to at most None = Err (BadDuration at)
seconds_up_to at most (Some n) = up_to at most n

-- the milliseconds of a duration, which are at most a hundred years, or of a number of seconds, which are at most `most`
abbrev pub amount_kind : ℕ → Lexeme → LexemeKind → Result ℕ QueryRefusal
amount_kind most l (kinds.Duration duration) = up_to l.at hundred_years (unsigned_abs duration.0)
amount_kind most l (kinds.Number value) = seconds_up_to l.at most (milliseconds_of value)
amount_kind most l _ = Err (refused l)

abbrev pub amount_at : ℕ → ℕ → List Lexeme → Read ℕ
amount_at most end [] = Err (refused_at end [])
amount_at most end (l ∷ ls) = amount_kind most l l.kind >>= λ n. Ok (n, ls)

abbrev pub positive : ℕ → ℕ → Result Ms QueryRefusal
positive at zero = Err (BadDuration at)
positive at (suc n) = Ok (ms false (suc n))

-- a range or a step, which is positive
abbrev pub length_at : ℕ → List Lexeme → Read Ms
length_at end [] = Err (refused_at end [])
length_at end (l ∷ ls) = (amount_kind hundred_years l l.kind >>= positive l.at) >>= λ length. Ok (length, ls)

abbrev pub minute : Ms
minute = ms false 60000

-- the step of a subquery, from behind its colon; without one it is a minute
unfoldable pub step_at : ℕ → Ms → List Lexeme → Read Brackets
step_at end range ls =
    if begins RightBracket ls then Ok (Steps range minute, drop 1 ls) else (do
      step ← length_at end ls
      rest ← after end RightBracket step.1
      Ok (Steps range step.0, rest))

-- behind the range: the end of it, where `plain` tells that it may be a range selector's, or a colon
abbrev pub range_behind : Bool → ℕ → Ms → List Lexeme → Read Brackets
range_behind plain end range ls =
    if (plain && begins RightBracket ls) then Ok (Range range, drop 1 ls)
    else (after end Colon ls >>= λ rest. step_at end range rest)

-- the brackets of a range selector or a subquery, from behind the opening one
unfoldable pub brackets_at : Bool → ℕ → List Lexeme → Read Brackets
brackets_at plain end ls = length_at end ls >>= λ range. range_behind plain end range.0 range.1

-- a sign in front, which may be left out: whether it is a minus
abbrev pub is_minus : List Lexeme → Bool
is_minus ls = begins Minus ls

abbrev pub unsigned : List Lexeme → List Lexeme
unsigned ls = if begins Minus ls then drop 1 ls else if begins Plus ls then drop 1 ls else ls

unfoldable pub signed_at : ℕ → ℕ → List Lexeme → Read Ms
signed_at most end ls = amount_at most end (unsigned ls) >>= λ n. Ok (ms (is_minus ls) n.0, n.1)

-- what stands behind `offset`
abbrev pub offset_at : ℕ → List Lexeme → Read Ms
offset_at end ls = signed_at hundred_years end ls

-- the start or the end of the grid: `at_modifier_preprocessors`
abbrev pub preprocessor : LexemeKind → Option Fixed
preprocessor (kinds.Word Start spelling) = Some fixed.Start
preprocessor (kinds.Word End spelling) = Some fixed.End
preprocessor _ = None

abbrev pub preprocessor_at : List Lexeme → Option Fixed
preprocessor_at [] = None
preprocessor_at (l ∷ ls) = preprocessor l.kind

-- empty parentheses
unfoldable pub called_at : ℕ → Fixed → List Lexeme → Read Fixed
called_at end time ls = do
  inside ← after end LeftParen ls
  rest ← after end RightParen inside
  Ok (time, rest)

unfoldable pub instant_at : ℕ → List Lexeme → Read Fixed
instant_at end ls = signed_at time_limit end ls >>= λ time. Ok (fixed.At time.0, time.1)

abbrev pub when_kind : ℕ → Option Fixed → List Lexeme → Read Fixed
when_kind end None ls = instant_at end ls
when_kind end (Some time) ls = called_at end time (drop 1 ls)

-- what stands behind `@`
abbrev pub when_at : ℕ → List Lexeme → Read Fixed
when_at end ls = when_kind end (preprocessor_at ls) ls
