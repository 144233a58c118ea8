-- What a query comes to, and its report.
use Rattle.std.proofs.Common.{◌≡◌, ℕ, Bool, List, [], ◌∷◌, Option, Some, Result, Ok, Err, IfOk, OnErr, refl, sym, subst, ap, arith, ◌∙◌}
use Rattle.std.proofs.lemmas.Result.{IfOk-weaker}
use Rattle.edge_io.specs.Written.{appended, WroteFront}
use Rattle.edge_io.specs.declared.sink.SinkFail.{SinkFail}
use Rattle.promql_meaning.specs.declared.answer.Outcome.{Outcome}
use Rattle.promql_meaning.specs.declared.answer.Outcome.TheVariants as outcome
use Rattle.script_read.specs.Outcomes.{PatternList}
use Rattle.script_read.specs.declared.script.Script.{Script}
use Rattle.ticks.specs.declared.grid.Grid.{Grid}
use Rattle.promql_tool.specs.Boxes.{or_cut}
use Rattle.promql_tool.specs.Chosen.{Terms}
use Rattle.promql_tool.specs.Ended.{EndsFiles, ran, stopped as ended}
use Rattle.promql_tool.specs.Ends.{IsOneOf, Reports}
use Rattle.promql_tool.specs.Query.{AreNoteLines, Queried, answered, gone, notes_in, outcome_report, refused}
use Rattle.promql_tool.specs.Reading.{IsReadAs}
use Rattle.promql_tool.specs.Found.{Just}
use Rattle.promql_tool.specs.Runs.{AnswersFile, AnswersScript, Ends, FileAnswers, IsCutReport, Nothing, Partly, ReportsAnswered, ReportsQuery, ScriptAnswers, stop_report}
use Rattle.promql_tool.specs.Texts.{Report}
use Rattle.promql_tool.specs.declared.fault.Stop.{Stop}
use Rattle.promql_tool.specs.declared.fault.Stop.TheVariants as stop
use Rattle.promql_tool.specs.declared.print.Status.{Status}
use Rattle.promql_tool.specs.declared.query.Answered.{Answered}
use Rattle.promql_tool.specs.declared.query.Answered.TheVariants as end
use Rattle.promql_tool.proofs.Judging.{loads_refused}
use Rattle.promql_tool.proofs.Mapped.{answers_so, just, stops_so}

-- the report of an outcome is of status 0 or 1
outcome_status : (got : Outcome) (notes : List (List ℕ)) → IsOneOf (0 ∷ 1 ∷ []) (outcome_report got notes).status
outcome_status (outcome.Answer answer) notes = refl
outcome_status (outcome.Refused refusal) notes = refl
outcome_status (outcome.Failed at mark) notes = refl
outcome_status (outcome.TooManyRows at) notes = refl

module _ (terms : Terms) (path expr : List ℕ) (grid : Grid) (instant : Bool) (idle : Type 0) where
  -- what is answered over a script, as what is answered over its bytes
  over_script : (kept : PatternList) (bytes : List ℕ) (script : Script) → IsReadAs kept bytes (Ok script) → (got : Answered) → AnswersScript terms script expr grid instant idle got → AnswersFile terms (Just bytes) path expr grid instant idle got
  over_script kept bytes script is_read (end.Outcome got) h = record { bytes = bytes; is_found = refl; kept = kept; script = script; is_read = is_read; over = h }
  over_script kept bytes script is_read (end.Stopped stop.Gone) h = absurd h
  over_script kept bytes script is_read (end.Stopped (stop.Refused why)) h = ((bytes, refl, loads_refused kept bytes script is_read terms why h.0), h.1)

  pub script_answered : (E : Type 0) (kept : PatternList) (bytes : List ℕ) (script : Script) (r : Result Answered E) → IsReadAs kept bytes (Ok script) → IfOk r (AnswersScript terms script expr grid instant idle)
      → IfOk r (AnswersFile terms (Just bytes) path expr grid instant idle)
  script_answered E kept bytes script r is_read h =
      IfOk-weaker r (AnswersScript terms script expr grid instant idle) (AnswersFile terms (Just bytes) path expr grid instant idle) (over_script kept bytes script is_read) h

  module _ (found : List ℕ → Option (List ℕ) → Type 0) where
    over_bytes : (bytes : List ℕ) → found path (Some bytes) → (got : Answered) → AnswersFile terms (Just bytes) path expr grid instant idle got → AnswersFile terms found path expr grid instant idle got
    over_bytes bytes is_found (end.Outcome got) h = record { bytes = h.bytes; is_found = just found path bytes is_found (Some h.bytes) h.is_found; kept = h.kept; script = h.script; is_read = h.is_read; over = h.over }
    over_bytes bytes is_found (end.Stopped stop) h = (stops_so (Just bytes) found path (just found path bytes is_found) terms stop h.0, h.1)

    pub bytes_answered : (E : Type 0) (bytes : List ℕ) (r : Result Answered E) → found path (Some bytes) → IfOk r (AnswersFile terms (Just bytes) path expr grid instant idle) → IfOk r (AnswersFile terms found path expr grid instant idle)
    bytes_answered E bytes r is_found h = IfOk-weaker r (AnswersFile terms (Just bytes) path expr grid instant idle) (AnswersFile terms found path expr grid instant idle) (over_bytes bytes is_found) h

    -- the report of an outcome is of status 0 or 1
    outcome_rests : (got : Outcome) (notes : List (List ℕ)) → IsOneOf (3 ∷ 6 ∷ []) (outcome_report got notes).status → idle
    outcome_rests (outcome.Answer answer) notes h = absurd (cc)
    outcome_rests (outcome.Refused refusal) notes h = absurd (cc)
    outcome_rests (outcome.Failed at mark) notes h = absurd (cc)
    outcome_rests (outcome.TooManyRows at) notes h = absurd (cc)

    report_is : (got : Answered) (report : Report) → AnswersFile terms found path expr grid instant idle got → ReportsAnswered path got report → ReportsQuery terms found path expr grid instant idle report
    report_is (end.Outcome got) report h r = subst (ReportsQuery terms found path expr grid instant idle) (sym r.2)
        (record { is = answered h.bytes h.kept h.script got r.0 h.is_found h.is_read h.over r.1; rests = outcome_rests got r.0 })
    report_is (end.Stopped stop.Gone) report h r = subst (ReportsQuery terms found path expr grid instant idle) (sym r) (record { is = gone h.0; rests = λ _. h.1 })
    report_is (end.Stopped (stop.Refused why)) report h r = subst (ReportsQuery terms found path expr grid instant idle) (sym r) (record { is = refused h.0.0 why h.0.1 h.0.2; rests = λ _. h.1 })

    module _ (before now : Option (List ℕ)) (got : Answered) (h : AnswersFile terms found path expr grid instant idle got) where
      cut_is : IsCutReport (ReportsAnswered path got) before now → IsCutReport (Queried terms found path expr grid instant) before now
      cut_is (Nothing same) = Nothing same
      cut_is (Partly report r front) = Partly report (report_is got report h r).is front

      pub query_ends : (r : Result Status SinkFail) → Ends (ReportsAnswered path got) (IsCutReport (ReportsAnswered path got) before now) before now r
          → Ends (ReportsQuery terms found path expr grid instant idle) (IsCutReport (Queried terms found path expr grid instant) before now) before now r
      query_ends (Ok status) e = (e.0, report_is got e.0 h e.1, e.2)
      query_ends (Err cause) e = cut_is e

-- ---- whatever engines gave

module _ (terms : Terms) (path : List ℕ) (idle : Type 0) where
  script_so : (kept : PatternList) (bytes : List ℕ) (script : Script) → IsReadAs kept bytes (Ok script) → (got : Answered) → ScriptAnswers terms script idle got → FileAnswers terms (Just bytes) path idle got
  script_so kept bytes script is_read (end.Outcome got) h = (bytes, refl, kept, script, record { is_read = is_read; series = h.0; taken = h.1 })
  script_so kept bytes script is_read (end.Stopped stop.Gone) h = absurd h
  script_so kept bytes script is_read (end.Stopped (stop.Refused why)) h = ((bytes, refl, loads_refused kept bytes script is_read terms why h.0), h.1)

  pub script_came : (E : Type 0) (kept : PatternList) (bytes : List ℕ) (script : Script) (r : Result Answered E) → IsReadAs kept bytes (Ok script) → IfOk r (ScriptAnswers terms script idle) → IfOk r (FileAnswers terms (Just bytes) path idle)
  script_came E kept bytes script r is_read h = IfOk-weaker r (ScriptAnswers terms script idle) (FileAnswers terms (Just bytes) path idle) (script_so kept bytes script is_read) h

  -- bytes are there
  not_gone : (bytes : List ℕ) (got : Answered) (P : Type 0) → FileAnswers terms (Just bytes) path idle got → got ≡ end.Stopped stop.Gone → P
  not_gone bytes (end.Outcome got) P h is = absurd (cc)
  not_gone bytes (end.Stopped stop.Gone) P h is = let none = h.0 in absurd (cc)
  not_gone bytes (end.Stopped (stop.Refused why)) P h is = absurd (cc)

  pub never_gone : (E : Type 0) (bytes : List ℕ) (r : Result Answered E) (P : Type 0) → IfOk r (FileAnswers terms (Just bytes) path idle) → IfOk r (λ got. got ≡ end.Stopped stop.Gone → P)
  never_gone E bytes r P h = IfOk-weaker r (FileAnswers terms (Just bytes) path idle) (λ got. got ≡ end.Stopped stop.Gone → P) (λ got. not_gone bytes got P) h

  module _ (found : List ℕ → Option (List ℕ) → Type 0) where
    pub bytes_came : (E : Type 0) (bytes : List ℕ) (r : Result Answered E) → found path (Some bytes) → IfOk r (FileAnswers terms (Just bytes) path idle) → IfOk r (FileAnswers terms found path idle)
    bytes_came E bytes r is_found h = IfOk-weaker r (FileAnswers terms (Just bytes) path idle) (FileAnswers terms found path idle) (answers_so (Just bytes) found path (just found path bytes is_found) terms idle) h

    -- what was printed of it
    came_so : (got : Answered) (before now : Option (List ℕ)) (status : ℕ) (report : Report) → FileAnswers terms found path idle got → ReportsAnswered path got report → Reports before now status report
        → EndsFiles terms found (path ∷ []) idle now status
    came_so (end.Outcome got) before now status report h r e =
        ran (h, tt) (subst (IsOneOf (0 ∷ 1 ∷ [])) (sym (e.status_is ∙ ap (λ (x : Report). x.status) r.2)) (outcome_status got r.0))
    came_so (end.Stopped stop) before now status report h r e =
        ended [] path [] stop refl tt h.0 (before, e.text_is ∙ ap (λ (x : Report). appended before x.text) r) (λ _. h.1) (e.status_is ∙ ap (λ (x : Report). x.status) r)

    pub answered_came : (got : Answered) (Cut : Type 0) (before now : Option (List ℕ)) (r : Result Status SinkFail) → FileAnswers terms found path idle got → Ends (ReportsAnswered path got) Cut before now r
        → IfOk (or_cut r) (λ status. EndsFiles terms found (path ∷ []) idle now status.0)
    answered_came got Cut before now (Ok status) h e = came_so got before now status.0 e.0 h e.1 e.2
    answered_came got Cut before now (Err cause) h e = tt

module _ (path : List ℕ) (before now : Option (List ℕ)) where
  -- an outcome was printed
  pub outcome_printed : (got : Outcome) (notes : List (List ℕ)) (r : Result Status SinkFail) → AreNoteLines (notes_in got) notes
      → IfOk r (λ status. (status.0 ≡ (outcome_report got notes).status) × (now ≡ appended before (outcome_report got notes).text)) → OnErr r (WroteFront before now (outcome_report got notes).text)
      → Ends (ReportsAnswered path (end.Outcome got)) (IsCutReport (ReportsAnswered path (end.Outcome got)) before now) before now r
  outcome_printed got notes (Ok status) are ok err = (outcome_report got notes, (notes, are, refl), record { status_is = ok.0; text_is = ok.1 })
  outcome_printed got notes (Err cause) are ok err = Partly (outcome_report got notes) (notes, are, refl) err

  -- a file that isn't run was printed
  pub stop_printed : (stop : Stop) (r : Result Status SinkFail) → IfOk r (λ status. (status.0 ≡ (stop_report path stop).status) × (now ≡ appended before (stop_report path stop).text))
      → OnErr r (WroteFront before now (stop_report path stop).text) → Ends (ReportsAnswered path (end.Stopped stop)) (IsCutReport (ReportsAnswered path (end.Stopped stop)) before now) before now r
  stop_printed stop (Ok status) ok err = (stop_report path stop, refl, record { status_is = ok.0; text_is = ok.1 })
  stop_printed stop (Err cause) ok err = Partly (stop_report path stop) refl err

-- ---- which files are gone

-- the report of an outcome isn't that of a file that is gone
outcome_told : (got : Outcome) (notes : List (List ℕ)) (P : Type 0) → (outcome_report got notes).status ≡ 3 → P
outcome_told (outcome.Answer answer) notes P h = absurd (omega (arith, h))
outcome_told (outcome.Refused refusal) notes P h = absurd (omega (arith, h))
outcome_told (outcome.Failed at mark) notes P h = absurd (omega (arith, h))
outcome_told (outcome.TooManyRows at) notes P h = absurd (omega (arith, h))

-- status 3 is that of a file that is gone
pub gone_alone : (path : List ℕ) (got : Answered) (Cut P : Type 0) (before now : Option (List ℕ)) (r : Result Status SinkFail) → (got ≡ end.Stopped stop.Gone → P) → Ends (ReportsAnswered path got) Cut before now r
    → IfOk (or_cut r) (λ status. status.0 ≡ 3 → P)
gone_alone path got Cut P before now (Err cause) h e = tt
gone_alone path (end.Outcome got) Cut P before now (Ok status) h e = λ three. outcome_told got e.1.0 P (sym (ap (λ (r : Report). r.status) e.1.2) ∙ sym e.2.status_is ∙ three)
gone_alone path (end.Stopped stop.Gone) Cut P before now (Ok status) h e = λ three. h refl
gone_alone path (end.Stopped (stop.Refused why)) Cut P before now (Ok status) h e = λ three.
    let six : status.0 ≡ 6 = e.2.status_is ∙ ap (λ (r : Report). r.status) e.1 in
    absurd (omega (arith, six, three))
