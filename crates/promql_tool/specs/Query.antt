-- What `query` prints. (After promtool; the texts are this project's own.)
use Rattle.std.specs.Prelude.{ℕ, Bool, true, false, if◌then◌else◌, List, [], ◌∷◌, ◌++◌, Option, None, Some, Ok, codes, map, IsSorted, IsPermutation}
use Rattle.std.specs.Cmp.Lexicographic.{slice_cmp}
use Rattle.std.specs.Fmt.{signed_decimal}
use Rattle.std.specs.List.{flat_map}
use Rattle.std.specs.Ordering.{nat_cmp}
use Rattle.frac_text.specs.Spellings.{spelling}
use Rattle.label_set.specs.LabelText.{labels_text}
use Rattle.promql_meaning.specs.declared.answer.Answer.{Answer}
use Rattle.promql_meaning.specs.declared.answer.Outcome.{Outcome}
use Rattle.promql_meaning.specs.declared.answer.Outcome.TheVariants as outcome
use Rattle.promql_meaning.specs.declared.answer.Point.{Point}
use Rattle.promql_meaning.specs.declared.answer.ResultSeries.{ResultSeries}
use Rattle.script_check.specs.NoteTexts.{is_warning, note_text}
use Rattle.script_check.specs.OutcomeTexts.{outcome_text}
use Rattle.script_read.specs.Outcomes.{PatternList}
use Rattle.script_read.specs.Series.{LabelList}
use Rattle.script_read.specs.declared.script.Script.{Script}
use Rattle.step_table.specs.declared.marks.Note.{Note}
use Rattle.test_runner.specs.Running.{IsAnswerOver}
use Rattle.ticks.specs.declared.grid.Grid.{Grid}
use Rattle.ticks.specs.declared.moment.Ms.{Ms}
use Rattle.promql_tool.specs.Chosen.{Terms}
use Rattle.promql_tool.specs.Reading.{IsReadAs, IsRefusedFor}
use Rattle.promql_tool.specs.Texts.{Report, fault_report, refusal_report}
use Rattle.promql_tool.specs.declared.fault.Refusal.{Refusal}

-- a value and its time, in milliseconds
abbrev pub point_text : Point → List ℕ
point_text point = codes " " ++ (spelling point.value ++ (codes "@" ++ signed_decimal point.at.0))

-- the name of a series: its labels, or that it is a scalar
abbrev pub series_name : Bool → LabelList → List ℕ
series_name true labels = codes "scalar"
series_name false labels = labels_text labels

-- the line of a series, with all its points
abbrev pub series_text : Bool → ResultSeries → List ℕ
series_text scalar series = series_name scalar series.labels ++ (flat_map point_text series.points ++ codes "\n")

-- the lines of series, in their order
abbrev pub all_series_text : Bool → List ResultSeries → List ℕ
all_series_text scalar [] = codes "empty\n"
all_series_text scalar (one ∷ more) = flat_map (series_text scalar) (one ∷ more)

-- the kind of a note
abbrev pub note_kind : Note → List ℕ
note_kind note = if is_warning note then codes "warning: " else codes "info: "

-- the line of a note
abbrev pub note_line : Note → List ℕ
note_line note = note_kind note ++ (note_text note ++ codes "\n")

-- the notes of an outcome, of which only an answer has any
abbrev pub notes_in : Outcome → List Note
notes_in (outcome.Answer answer) = answer.notes
notes_in _ = []

-- the lines of notes, in the order of their bytes
pub record AreNoteLines (notes : List Note) (lines : List (List ℕ)) : Type 0 where
  pub same : IsPermutation (map note_line notes) lines
  pub rise : IsSorted (slice_cmp nat_cmp) lines

-- `FAILED at <ms> `, at the first instant that fails
abbrev pub failed_at : Ms → List ℕ
failed_at at = codes "FAILED at " ++ (signed_decimal at.0 ++ codes " ")

-- what stands before the text of an outcome that is no answer
abbrev pub outcome_head : Outcome → List ℕ
outcome_head (outcome.Answer answer) = []
outcome_head (outcome.Refused refusal) = codes "REFUSED "
outcome_head (outcome.Failed at mark) = failed_at at
outcome_head (outcome.TooManyRows at) = failed_at at

-- the line of an outcome that is no answer
abbrev pub failure_text : Outcome → List ℕ
failure_text got = outcome_head got ++ (outcome_text got ++ codes "\n")

-- the series of an answer, and then its notes, which have these lines
abbrev pub answer_text : Answer → List (List ℕ) → List ℕ
answer_text answer notes = all_series_text answer.scalar answer.series ++ flat_map (λ (line : List ℕ). line) notes

-- the report of an outcome, where its notes have these lines
abbrev pub outcome_report : Outcome → List (List ℕ) → Report
outcome_report (outcome.Answer answer) notes = record { text = answer_text answer notes; status = 0 }
outcome_report got notes = record { text = failure_text got; status = 1 }

-- The report of an expression over a file's samples, under these terms. That a fetch of a path finds bytes, or none, is said by `found`.
pub data Queried (terms : Terms) (found : List ℕ → Option (List ℕ) → Type 0) (file expr : List ℕ) (grid : Grid) (instant : Bool) : Report → Type 0 where
  gone : found file None → Queried terms found file expr grid instant (fault_report file)
  refused : (bytes : List ℕ) (refusal : Refusal) → found file (Some bytes) → IsRefusedFor terms bytes refusal → Queried terms found file expr grid instant (refusal_report file refusal)
  answered : (bytes : List ℕ) (kept : PatternList) (script : Script) (got : Outcome) (notes : List (List ℕ)) → found file (Some bytes) → IsReadAs kept bytes (Ok script)
      → IsAnswerOver terms.declared script expr grid instant terms.closed got → AreNoteLines (notes_in got) notes → Queried terms found file expr grid instant (outcome_report got notes)
