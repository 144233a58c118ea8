-- A verdict is a pass exactly where each expectation holds.
use Rattle.std.proofs.Common.{◌≡◌, Bool, true, false, List, [], ◌∷◌, Option, None, Some, refl, sym, ap, subst, IsTrue}
use Rattle.std.specs.Prelude.{if◌then◌else◌, not}
use Rattle.promql_meaning.specs.declared.answer.Answer.{Answer}
use Rattle.promql_meaning.specs.declared.answer.Outcome.{Outcome}
use Rattle.promql_meaning.specs.declared.answer.Outcome.TheVariants as outcome
use Rattle.script_read.specs.Lines.{is_empty}
use Rattle.script_read.specs.declared.script.Expectations.{Expectations}
use Rattle.script_read.specs.declared.script.Expected.{Expected}
use Rattle.script_read.specs.declared.script.Expected.TheVariants.{Scalar, Rows}
use Rattle.script_read.specs.declared.script.Wanted.{Wanted}
use Rattle.script_check.specs.Series.{Agrees, are_near, misplaced, scalar_in, scalar_reason}
use Rattle.script_check.specs.Verdicts.{Holds, IsAsExpected, IsExpectedAnswer, IsUnmarked, PatternList, ResultHolds, answer_reason, failure_holds, failure_reason, failure_text_holds, first_reason, is_answer, is_scalar, no_note, noted_holds, notes_in, notes_reason, reason_of, result_reason, series_reason, silence_holds, some_note, unless, verdict_by, verdict_of}
use Rattle.script_check.specs.declared.verdict.Reason.{Reason}
use Rattle.script_check.specs.declared.verdict.Reason.TheVariants.{NoFailure, Unexpected, FailureText, NotScalar, NotVector}
use Rattle.script_check.specs.declared.verdict.Verdict.TheVariants.{Pass}
use Rattle.script_check.proofs.Agreements.{first_none, near_scalar, near_scalar_if, none_first, series_agree, series_agree_if}

passed : (r : Option Reason) → verdict_by r ≡ Pass → r ≡ None
passed None h = refl
passed (Some reason) h = absurd (cc)

held : (b : Bool) (r : Reason) → unless b r ≡ None → IsTrue b
held true r h = refl
held false r h = absurd (cc)

no_unless : (b : Bool) (r : Reason) → IsTrue b → unless b r ≡ None
no_unless b r h = rw h refl

-- ---- results

as_expected : (instant ordered : Bool) (expected : Expected) (answer : Answer) → answer_reason instant ordered expected answer ≡ None → IsAsExpected instant ordered expected answer
as_expected instant ordered (Scalar value) answer h =
    elim (is_scalar instant answer) as (λ b. (if b then scalar_reason value (scalar_in answer.series) else Some NotScalar) ≡ None → (b ≡ true) × IsTrue (are_near (Some value) (scalar_in answer.series))) [
      | true ↦ λ e. (refl, near_scalar value (scalar_in answer.series) e)
      | false ↦ λ e. absurd (cc)
    ] h
as_expected instant ordered (Rows rows) answer h =
    elim (is_scalar instant answer) as (λ b. (if b then Some NotVector else series_reason ordered rows answer.series) ≡ None
    → (b ≡ false) × Agrees rows answer.series × (ordered ≡ true → misplaced rows answer.series ≡ None)) [
      | true ↦ λ e. absurd (cc)
      | false ↦ λ e. let agree = series_agree rows answer.series ordered e in (refl, agree.0, agree.1)
    ] h

as_expected_if : (instant ordered : Bool) (expected : Expected) (answer : Answer) → IsAsExpected instant ordered expected answer → answer_reason instant ordered expected answer ≡ None
as_expected_if instant ordered (Scalar value) answer h = rw h.0 (near_scalar_if value (scalar_in answer.series) h.1)
as_expected_if instant ordered (Rows rows) answer h = rw h.0 (series_agree_if rows answer.series ordered h.1 h.2)

result_holds : (e : Expectations) (instant : Bool) (o : Outcome) → result_reason e instant o ≡ None → ResultHolds e instant o
result_holds e instant (outcome.Answer answer) h = as_expected instant e.ordered e.result answer h
result_holds e instant (outcome.Refused refusal) h = tt
result_holds e instant (outcome.Failed at mark) h = tt
result_holds e instant (outcome.TooManyRows at) h = tt

result_holds_if : (e : Expectations) (instant : Bool) (o : Outcome) → ResultHolds e instant o → result_reason e instant o ≡ None
result_holds_if e instant (outcome.Answer answer) h = as_expected_if instant e.ordered e.result answer h
result_holds_if e instant (outcome.Refused refusal) h = refl
result_holds_if e instant (outcome.Failed at mark) h = refl
result_holds_if e instant (outcome.TooManyRows at) h = refl

-- what is as expected in order is so without it
without_order : (instant ordered : Bool) (expected : Expected) (answer : Answer) → IsAsExpected instant ordered expected answer → IsAsExpected instant false expected answer
without_order instant ordered (Scalar value) answer h = h
without_order instant ordered (Rows rows) answer h = (h.0, h.1, λ e. absurd (cc))

-- ---- lines

module _ (kept : PatternList) (e : Expectations) (instant : Bool) (o : Outcome) where
  abbrev notes : Bool → List Wanted → Bool → Option Reason
  notes warnings lines none = notes_reason kept warnings lines none (notes_in warnings o)

  abbrev behind_infos : Option Reason
  behind_infos = result_reason e instant o

  abbrev behind_warnings : Option Reason
  behind_warnings = first_reason (notes false e.info e.no_info) behind_infos

  abbrev behind_text : Option Reason
  behind_text = first_reason (notes true e.warn e.no_warn) behind_warnings

  abbrev behind_failure : Option Reason
  behind_failure = first_reason (unless (failure_text_holds kept e o) FailureText) behind_text

  noted : (warnings : Bool) (lines : List Wanted) (none : Bool) → notes warnings lines none ≡ None → IsTrue (noted_holds kept lines (notes_in warnings o)) × IsTrue (silence_holds kept lines none (notes_in warnings o))
  noted warnings lines none h =
      let both = none_first (unless (noted_holds kept lines (notes_in warnings o)) (no_note warnings)) (unless (silence_holds kept lines none (notes_in warnings o)) (some_note warnings)) h in
      (held (noted_holds kept lines (notes_in warnings o)) (no_note warnings) both.0, held (silence_holds kept lines none (notes_in warnings o)) (some_note warnings) both.1)

  noted_if : (warnings : Bool) (lines : List Wanted) (none : Bool) → IsTrue (noted_holds kept lines (notes_in warnings o)) → IsTrue (silence_holds kept lines none (notes_in warnings o)) → notes warnings lines none ≡ None
  noted_if warnings lines none h k =
      first_none (unless (noted_holds kept lines (notes_in warnings o)) (no_note warnings)) (unless (silence_holds kept lines none (notes_in warnings o)) (some_note warnings))
      (no_unless (noted_holds kept lines (notes_in warnings o)) (no_note warnings) h) (no_unless (silence_holds kept lines none (notes_in warnings o)) (some_note warnings) k)

  pub lines_hold : verdict_of kept e instant o ≡ Pass → Holds kept e instant o
  lines_hold h =
      let a = none_first (failure_reason e o) behind_failure (passed (reason_of kept e instant o) h) in
      let b = none_first (unless (failure_text_holds kept e o) FailureText) behind_text a.1 in
      let c = none_first (notes true e.warn e.no_warn) behind_warnings b.1 in
      let d = none_first (notes false e.info e.no_info) behind_infos c.1 in
      let warnings = noted true e.warn e.no_warn c.0 in
      let infos = noted false e.info e.no_info d.0 in
      record {
        failure = held (failure_holds e o) (if is_answer o then NoFailure else Unexpected) a.0;
        failure_text = held (failure_text_holds kept e o) FailureText b.0;
        warn = warnings.0;
        no_warn = warnings.1;
        info = infos.0;
        no_info = infos.1;
        result = result_holds e instant o d.1;
      }

  pub lines_hold_if : Holds kept e instant o → verdict_of kept e instant o ≡ Pass
  lines_hold_if h =
      ap verdict_by
      (first_none (failure_reason e o) behind_failure (no_unless (failure_holds e o) (if is_answer o then NoFailure else Unexpected) h.failure)
      (first_none (unless (failure_text_holds kept e o) FailureText) behind_text (no_unless (failure_text_holds kept e o) FailureText h.failure_text)
      (first_none (notes true e.warn e.no_warn) behind_warnings (noted_if true e.warn e.no_warn h.warn h.no_warn)
      (first_none (notes false e.info e.no_info) behind_infos (noted_if false e.info e.no_info h.info h.no_info) (result_holds_if e instant o h.result)))))

-- ---- lines that aren't there

no_line : (lines : List Wanted) → lines ≡ [] → IsTrue (not (is_empty lines)) → ⊥
no_line [] h k = absurd (cc)
no_line (line ∷ lines) h k = absurd (cc)

unmarked_answer : (instant : Bool) (e : Expectations) (o : Outcome) → IsUnmarked e → IsTrue (failure_holds e o) → ResultHolds e instant o → IsExpectedAnswer instant e.result o
unmarked_answer instant e (outcome.Answer answer) u f h = without_order instant e.ordered e.result answer h
unmarked_answer instant e (outcome.Refused refusal) u f h = absurd (no_line e.fail u.fail f)
unmarked_answer instant e (outcome.Failed at mark) u f h = absurd (no_line e.fail u.fail f)
unmarked_answer instant e (outcome.TooManyRows at) u f h = absurd (no_line e.fail u.fail f)

pub unmarked : (kept : PatternList) (e : Expectations) (instant : Bool) (o : Outcome) → IsUnmarked e → verdict_of kept e instant o ≡ Pass → IsExpectedAnswer instant e.result o
unmarked kept e instant o u h = let lines = lines_hold kept e instant o h in unmarked_answer instant e o u lines.failure lines.result

answer_holds : (kept : PatternList) (e : Expectations) (instant : Bool) (o : Outcome) → IsUnmarked e → IsExpectedAnswer instant e.result o → Holds kept e instant o
answer_holds kept e instant (outcome.Answer answer) u h = record {
  failure = rw u.fail refl;
  failure_text = rw u.fail refl;
  warn = rw u.warn refl;
  no_warn = rw (u.warn, u.no_warn) refl;
  info = rw u.info refl;
  no_info = rw (u.info, u.no_info) refl;
  result = subst (λ (b : Bool). IsAsExpected instant b e.result answer) (sym u.ordered) h;
}
answer_holds kept e instant (outcome.Refused refusal) u h = absurd h
answer_holds kept e instant (outcome.Failed at mark) u h = absurd h
answer_holds kept e instant (outcome.TooManyRows at) u h = absurd h

pub unmarked_if : (kept : PatternList) (e : Expectations) (instant : Bool) (o : Outcome) → IsUnmarked e → IsExpectedAnswer instant e.result o → verdict_of kept e instant o ≡ Pass
unmarked_if kept e instant o u h = lines_hold_if kept e instant o (answer_holds kept e instant o u h)

-- ---- the order of the lines

unordered_result : (e : Expectations) (instant : Bool) (o : Outcome) → ResultHolds e instant o → ResultHolds (record e { ordered = false }) instant o
unordered_result e instant (outcome.Answer answer) h = without_order instant e.ordered e.result answer h
unordered_result e instant (outcome.Refused refusal) h = tt
unordered_result e instant (outcome.Failed at mark) h = tt
unordered_result e instant (outcome.TooManyRows at) h = tt

pub unordered : (kept : PatternList) (e : Expectations) (instant : Bool) (o : Outcome) → verdict_of kept e instant o ≡ Pass → verdict_of kept (record e { ordered = false }) instant o ≡ Pass
unordered kept e instant o h =
    let lines = lines_hold kept e instant o h in
    lines_hold_if kept (record e { ordered = false }) instant o (record {
      failure = go o lines.failure;
      failure_text = lines.failure_text;
      warn = lines.warn;
      no_warn = lines.no_warn;
      info = lines.info;
      no_info = lines.no_info;
      result = unordered_result e instant o lines.result;
    })
  where
    go : (p : Outcome) → IsTrue (failure_holds e p) → IsTrue (failure_holds (record e { ordered = false }) p)
    go p f = f
