-- When the outcome of an evaluation is what a script expects of it, line by line, and the first reason why it isn't. (The rules of
-- promqltest; the order of the reasons and the meaning of several `expect` lines are this project's own.)
use Rattle.std.specs.Prelude.{◌≡◌, ◌<◌, ℕ, Bool, true, false, if◌then◌else◌, not, ◌&&◌, ◌||◌, List, [], length, bytes_eq, Option, None, Some, IsTrue}
use Rattle.std.specs.List.{AllByRecursion, list_all, list_any}
use Rattle.std.specs.Str.{is_utf8}
use Rattle.match_rule.specs.Patterns.{passes_at}
use Rattle.promql_meaning.specs.declared.answer.Answer.{Answer}
use Rattle.promql_meaning.specs.declared.answer.Outcome.{Outcome}
use Rattle.promql_meaning.specs.declared.answer.Outcome.TheVariants as outcome
use Rattle.promql_meaning.specs.declared.answer.ResultSeries.{ResultSeries}
use Rattle.script_read.specs.Lines.{is_empty}
use Rattle.script_read.specs.declared.script.Command.{Command}
use Rattle.script_read.specs.declared.script.Expectations.{Expectations}
use Rattle.script_read.specs.declared.script.Expected.{Expected}
use Rattle.script_read.specs.declared.script.Expected.TheVariants.{Scalar, Rows}
use Rattle.script_read.specs.declared.script.Script.{Script}
use Rattle.script_read.specs.declared.script.Wanted.{Wanted}
use Rattle.script_read.specs.declared.script.Wanted.TheVariants.{Any, Msg, Regex}
use Rattle.script_read.specs.declared.script.What.{What}
use Rattle.script_read.specs.declared.script.What.TheVariants.{Eval}
use Rattle.script_check.specs.NoteTexts.{texts_of}
use Rattle.script_check.specs.OutcomeTexts.{outcome_text}
use Rattle.script_check.specs.Series.{Agrees, are_near, extra_reason, misplaced, missing_reason, placed_reason, scalar_in, scalar_reason, value_reason}
use Rattle.script_check.specs.declared.verdict.Reason.{Reason}
use Rattle.script_check.specs.declared.verdict.Reason.TheVariants.{NoFailure, Unexpected, FailureText, NoWarning, Warned, NoInfo, Informed, NotScalar, NotVector}
use Rattle.script_check.specs.declared.verdict.Verdict.{Verdict}
use Rattle.script_check.specs.declared.verdict.Verdict.TheVariants.{Pass, Fail}

-- search patterns, each with the flag whether it has to match a whole text, under their numbers
abbrev pub PatternList : Type 0
PatternList = List (Bool × List ℕ)

-- the reason of a line that doesn't hold
abbrev pub unless : Bool → Reason → Option Reason
unless holds reason = if holds then None else Some reason

-- the first reason, if there is one, and else a later one
abbrev pub first_reason : Option Reason → Option Reason → Option Reason
first_reason (Some reason) later = Some reason
first_reason None later = later

-- ---- failures

abbrev pub is_answer : Outcome → Bool
is_answer (outcome.Answer answer) = true
is_answer _ = false

-- `expect fail` holds of every outcome but an answer; where no such line stands, the outcome has to be an answer
abbrev pub failure_holds : Expectations → Outcome → Bool
failure_holds e o = if is_answer o then is_empty e.fail else not (is_empty e.fail)

abbrev pub failure_reason : Expectations → Outcome → Option Reason
failure_reason e o = unless (failure_holds e o) (if is_answer o then NoFailure else Unexpected)

-- A text is what a line wants: it is anything, or it equals the text of `msg:`, or the pattern of `regex:` is found in it. Only
-- text in UTF-8 is searched, which labels and names are.
abbrev pub meets : PatternList → List ℕ → Wanted → Bool
meets kept text Any = true
meets kept text (Msg message) = bytes_eq text message
meets kept text (Regex id) = is_utf8 text && passes_at kept id.0 text

-- the text of the outcome is what each `expect fail` wants
abbrev pub failure_text_holds : PatternList → Expectations → Outcome → Bool
failure_text_holds kept e o = list_all (meets kept (outcome_text o)) e.fail

-- ---- warnings and info notes

-- the texts of an outcome's warnings, or else of its info notes; only an answer has notes
abbrev pub notes_in : Bool → Outcome → List (List ℕ)
notes_in warnings (outcome.Answer answer) = texts_of warnings answer.notes
notes_in warnings _ = []

-- each line `expect warn`, or `expect info`, holds: one of the notes is what it wants
abbrev pub noted_holds : PatternList → List Wanted → List (List ℕ) → Bool
noted_holds kept lines notes = list_all (λ line. list_any (λ note. meets kept note line) notes) lines

-- `no_warn`, or `no_info`, holds where there is no note; beside lines that want notes each note has to be what one of them wants
abbrev pub silence_holds : PatternList → List Wanted → Bool → List (List ℕ) → Bool
silence_holds kept lines none notes =
    (not none || is_empty notes) && (is_empty lines || list_all (λ note. list_any (meets kept note) lines) notes)

abbrev pub no_note : Bool → Reason
no_note warnings = if warnings then NoWarning else NoInfo

abbrev pub some_note : Bool → Reason
some_note warnings = if warnings then Warned else Informed

-- a line wants nothing of a text but that there is one
abbrev pub is_bare : Wanted → Bool
is_bare Any = true
is_bare _ = false

-- the reason of such lines alone, of which there are some
abbrev pub bare_reason : Bool → Bool → Bool → Option Reason
bare_reason warnings none noted = if noted then unless (not none) (some_note warnings) else Some (no_note warnings)

-- the first reason among the lines on warnings, or else on info notes
abbrev pub notes_reason : PatternList → Bool → List Wanted → Bool → List (List ℕ) → Option Reason
notes_reason kept warnings lines none notes =
    first_reason (unless (noted_holds kept lines notes) (no_note warnings)) (unless (silence_holds kept lines none notes) (some_note warnings))

-- ---- results

-- an answer is a scalar; in a range it is the series without labels
abbrev pub is_scalar : Bool → Answer → Bool
is_scalar instant answer = instant && answer.scalar

-- the first reason among the series: one that is missing, one that isn't expected, a value, and the order where that counts
abbrev pub series_reason : Bool → List ResultSeries → List ResultSeries → Option Reason
series_reason ordered wanted got =
    first_reason (missing_reason wanted got) (first_reason (extra_reason wanted got) (first_reason (value_reason wanted got) (placed_reason ordered wanted got)))

-- the first reason in the result of an answer: it is of another kind, or of its series
abbrev pub answer_reason : Bool → Bool → Expected → Answer → Option Reason
answer_reason instant ordered (Scalar value) answer = if is_scalar instant answer then scalar_reason value (scalar_in answer.series) else Some NotScalar
answer_reason instant ordered (Rows rows) answer = if is_scalar instant answer then Some NotVector else series_reason ordered rows answer.series

-- only the result of an answer is judged
abbrev pub result_reason : Expectations → Bool → Outcome → Option Reason
result_reason e instant (outcome.Answer answer) = answer_reason instant e.ordered e.result answer
result_reason e instant _ = None

-- ---- the verdict

-- The first reason why an outcome isn't what is expected, by this list: failure, the failure's text, the lines on warnings, the
-- lines on info notes, and the result.
abbrev pub reason_of : PatternList → Expectations → Bool → Outcome → Option Reason
reason_of kept e instant o =
    first_reason (failure_reason e o)
    (first_reason (unless (failure_text_holds kept e o) FailureText)
    (first_reason (notes_reason kept true e.warn e.no_warn (notes_in true o))
    (first_reason (notes_reason kept false e.info e.no_info (notes_in false o))
    (result_reason e instant o))))

abbrev pub verdict_by : Option Reason → Verdict
verdict_by None = Pass
verdict_by (Some reason) = Fail reason

abbrev pub verdict_of : PatternList → Expectations → Bool → Outcome → Verdict
verdict_of kept e instant o = verdict_by (reason_of kept e instant o)

-- ---- what a pass says

-- a result is as expected: a scalar is near the expected one, and a vector or matrix has the expected series in which, where
-- that counts, they stand in the order of the lines
abbrev pub IsAsExpected : Bool → Bool → Expected → Answer → Type 0
IsAsExpected instant ordered (Scalar value) answer = (is_scalar instant answer ≡ true) × IsTrue (are_near (Some value) (scalar_in answer.series))
IsAsExpected instant ordered (Rows rows) answer =
    (is_scalar instant answer ≡ false) × Agrees rows answer.series × (ordered ≡ true → misplaced rows answer.series ≡ None)

abbrev pub ResultHolds : Expectations → Bool → Outcome → Type 0
ResultHolds e instant (outcome.Answer answer) = IsAsExpected instant e.ordered e.result answer
ResultHolds e instant _ = Unit {0}

-- each expectation of an evaluation holds
pub record Holds (kept : PatternList) (e : Expectations) (instant : Bool) (o : Outcome) : Type 0 where
  pub failure : IsTrue (failure_holds e o)
  pub failure_text : IsTrue (failure_text_holds kept e o)
  pub warn : IsTrue (noted_holds kept e.warn (notes_in true o))
  pub no_warn : IsTrue (silence_holds kept e.warn e.no_warn (notes_in true o))
  pub info : IsTrue (noted_holds kept e.info (notes_in false o))
  pub no_info : IsTrue (silence_holds kept e.info e.no_info (notes_in false o))
  pub result : ResultHolds e instant o

-- no line `expect` stands at an evaluation
pub record IsUnmarked (e : Expectations) : Type 0 where
  pub fail : e.fail ≡ []
  pub warn : e.warn ≡ []
  pub no_warn : e.no_warn ≡ false
  pub info : e.info ≡ []
  pub no_info : e.no_info ≡ false
  pub ordered : e.ordered ≡ false

-- an outcome is an answer whose result is as expected
abbrev pub IsExpectedAnswer : Bool → Expected → Outcome → Type 0
IsExpectedAnswer instant expected (outcome.Answer answer) = IsAsExpected instant false expected answer
IsExpectedAnswer instant expected _ = ⊥

-- ---- search patterns

-- the pattern that a line names is kept
abbrev pub IsKept : PatternList → Wanted → Type 0
IsKept kept Any = Unit {0}
IsKept kept (Msg message) = Unit {0}
IsKept kept (Regex id) = id.0 < length kept

abbrev pub AreKept : PatternList → List Wanted → Type 0
AreKept kept lines = AllByRecursion (IsKept kept) lines

-- the patterns that an evaluation's lines name are kept
pub record HasPatterns (kept : PatternList) (e : Expectations) : Type 0 where
  pub fail : AreKept kept e.fail
  pub warn : AreKept kept e.warn
  pub info : AreKept kept e.info

-- the patterns that a command's lines name are kept
abbrev pub HasItsPatterns : PatternList → What → Type 0
HasItsPatterns kept (Eval grid instant text e) = HasPatterns kept e
HasItsPatterns kept _ = Unit {0}

-- the patterns that a script's lines name are kept
abbrev pub KeepsPatterns : PatternList → Script → Type 0
KeepsPatterns kept script = AllByRecursion (λ (command : Command). HasItsPatterns kept command.what) script.commands
