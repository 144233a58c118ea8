-- The lines of a report: one for each verdict. (promqltest; the texts are this project's own.)
use Rattle.std.specs.Prelude.{ℕ, Bool, true, false, not, List, [], ◌++◌, Option, None, Some, codes, decimal, count_by}
use Rattle.std.specs.Fmt.{signed_decimal}
use Rattle.std.specs.List.{flat_map}
use Rattle.frac_text.specs.Spellings.{spelling}
use Rattle.label_set.specs.LabelText.{labels_text}
use Rattle.ticks.specs.declared.moment.Ms.{Ms}
use Rattle.xfrac.specs.declared.value.XFrac.{XFrac}
use Rattle.script_check.specs.declared.verdict.Reason.{Reason}
use Rattle.script_check.specs.declared.verdict.Reason.TheVariants.{NoFailure, Unexpected, FailureText, NoWarning, Warned, NoInfo, Informed, NotScalar, NotVector, Missing, Extra, Differs, ScalarDiffers, Order}
use Rattle.script_check.specs.declared.verdict.Verdict.{Verdict}
use Rattle.script_check.specs.declared.verdict.Verdict.TheVariants.{Pass, Fail}
use Rattle.test_runner.specs.Verdicts.{Judged}

-- a value, or that there is none
abbrev pub value_text : Option XFrac → List ℕ
value_text None = codes "nothing"
value_text (Some value) = spelling value

-- which value was expected, and which is there instead
abbrev pub values_text : Option XFrac → Option XFrac → List ℕ
values_text wanted got = codes " expected " ++ (value_text wanted ++ (codes " got " ++ value_text got))

-- the time of a value, in milliseconds; at an instant it isn't told
abbrev pub time_text : Bool → Ms → List ℕ
time_text true at = []
time_text false at = codes " at " ++ signed_decimal at.0

-- the text of a reason, with that of the outcome where there is no answer
abbrev pub reason_text : Bool → List ℕ → Reason → List ℕ
reason_text instant outcome NoFailure = codes "expected a failure"
reason_text instant outcome Unexpected = codes "unexpected " ++ outcome
reason_text instant outcome FailureText = codes "failure text " ++ outcome
reason_text instant outcome NoWarning = codes "expected a warning"
reason_text instant outcome Warned = codes "expected no warning"
reason_text instant outcome NoInfo = codes "expected an info"
reason_text instant outcome Informed = codes "expected no info"
reason_text instant outcome NotScalar = codes "expected a scalar"
reason_text instant outcome NotVector = codes "expected a vector"
reason_text instant outcome (Missing labels) = codes "missing " ++ labels_text labels
reason_text instant outcome (Extra labels) = codes "unexpected series " ++ labels_text labels
reason_text instant outcome (Differs labels at wanted got) = labels_text labels ++ (time_text instant at ++ values_text wanted got)
reason_text instant outcome (ScalarDiffers wanted got) = codes "scalar" ++ values_text (Some wanted) got
reason_text instant outcome (Order labels) = codes "order at " ++ labels_text labels

-- `<word> <path>:<line>`, and what stands behind it
abbrev pub placed : List ℕ → List ℕ → ℕ → List ℕ → List ℕ
placed word path line behind = word ++ (codes " " ++ (path ++ (codes ":" ++ (decimal line ++ behind))))

-- the line of a verdict
abbrev pub line_of : List ℕ → ℕ → Bool → List ℕ → Verdict → List ℕ
line_of path line instant outcome Pass = placed (codes "PASS") path line (codes "\n")
line_of path line instant outcome (Fail reason) = placed (codes "FAIL") path line (codes " " ++ (reason_text instant outcome reason ++ codes "\n"))

abbrev pub verdict_text : List ℕ → Judged → List ℕ
verdict_text path judged = line_of path judged.line judged.instant judged.outcome judged.verdict

-- the lines of verdicts
abbrev pub lines_text : List ℕ → List Judged → List ℕ
lines_text path verdicts = flat_map (verdict_text path) verdicts

abbrev pub is_pass : Verdict → Bool
is_pass Pass = true
is_pass (Fail reason) = false

abbrev pub has_passed : Judged → Bool
has_passed judged = is_pass judged.verdict

abbrev pub passed_in : List Judged → ℕ
passed_in verdicts = count_by has_passed verdicts

abbrev pub failed_in : List Judged → ℕ
failed_in verdicts = count_by (λ judged. not (has_passed judged)) verdicts
