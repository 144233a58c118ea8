-- A run over files, as far as it came.
use Rattle.std.proofs.Common.{◌≡◌, ◌<◌, ℕ, ◌+◌, true, false, take, drop, get_or, length, List, [], ◌∷◌, ◌++◌, Option, Result, Ok, Err, IfOk, OnErr, refl, sym, ap, subst, ◌∙◌, append_assoc, append-nil, arith}
use Rattle.std.specs.Prelude.{◌==◌, if◌then◌else◌}
use Rattle.std.specs.List.{AllByRecursion}
use Rattle.std.proofs.lemmas.List.{append_cancel_right, map-append, take-append-drop, take_more}
use Rattle.std.proofs.lemmas.List.Concat.{flat_map-append}
use Rattle.std.proofs.lemmas.List.Sums.{sum_by-append}
use Rattle.edge_io.specs.Fetches.{Fetches}
use Rattle.edge_io.specs.Written.{appended, WroteFront}
use Rattle.edge_io.specs.declared.sink.SinkFail.{SinkFail}
use Rattle.edge_io.specs.declared.sink.SinkFail.TheVariants as sinks
use Rattle.test_runner.specs.Lines.{failed_in, lines_text, passed_in}
use Rattle.test_runner.specs.Verdicts.{Judged}
use Rattle.promql_tool.specs.Boxes.{cut_by, or_cut}
use Rattle.promql_tool.specs.Chosen.{Terms}
use Rattle.promql_tool.specs.Ended.{EndsFiles, ran, stopped as ended}
use Rattle.promql_tool.specs.Files.{All, Begins, IsJudged, JudgedFile, Last, Sees, all, all_failed, all_passed, files_text, gone, judged, last_text, last_status, refused, report_of, running, waiting}
use Rattle.promql_tool.specs.Runs.{Early, Ends, HasJudged, HoldsScript, IsCutFile, IsCutFiles, IsStoppedFile, IsStoppedFiles, Late, ReportsFiles, Running, Standing, Stops, Unmoved, Unwritten, last_at, stop_report}
use Rattle.promql_tool.specs.Reached.{AreJudged, ReachesFiles, StopsAt, WroteTheir, paths_of, status_of, up_to, whole}
use Rattle.promql_tool.specs.Ends.{IsOneOf}
use Rattle.promql_tool.specs.Texts.{Report, totals_text}
use Rattle.promql_tool.specs.declared.fault.Cut.{Cut}
use Rattle.promql_tool.specs.declared.fault.Cut.TheVariants as cut
use Rattle.promql_tool.specs.declared.fault.Stop.{Stop}
use Rattle.promql_tool.specs.declared.fault.Stop.TheVariants as stop
use Rattle.promql_tool.specs.declared.print.Status.{Status}
use Rattle.test_runner.specs.declared.totals.Totals.{Totals}
use Rattle.edge_io.specs.Fronts.{appended-appended, appended-nil, front_last}

-- What stands before the next file: the files that were judged, what was written of them, and what is known of the later ones.
pub record RunSoFar (terms : Terms) (found : List ℕ → Option (List ℕ) → Type 0) (paths left : List (List ℕ)) (before now : Option (List ℕ)) (idle : Type 0) (passed failed : ℕ) : Type 0 where
  pub files : List JudgedFile
  pub sees : (more : List JudgedFile) (last : Last) → Sees terms found left more last → Sees terms found paths (files ++ more) last
  pub begins : (text : List ℕ) → Begins terms found left text → Begins terms found paths (files_text files ++ text)
  pub written : now ≡ appended before (files_text files)
  pub rests : passed + failed ≡ 0 → idle
  pub names : paths_of files ++ left ≡ paths
  pub are : AreJudged terms found files
  pub passed_is : passed ≡ all_passed files
  pub failed_is : failed ≡ all_failed files

-- no file has no verdict
none_counted : (files : List JudgedFile) (passed failed : ℕ) → passed ≡ all_passed files → failed ≡ all_failed files → files ≡ [] → passed + failed ≡ 0
none_counted files passed failed p f none =
    let np : all_passed files ≡ 0 = ap all_passed none in
    let nf : all_failed files ≡ 0 = ap all_failed none in
    omega (arith, p, f, np, nf)

judged_too : {terms : Terms} {found : List ℕ → Option (List ℕ) → Type 0} (files : List JudgedFile) (one : JudgedFile) → AreJudged terms found files → IsJudged terms found one.path one.verdicts → AreJudged terms found (files ++ one ∷ [])
judged_too [] one are is = (is, tt)
judged_too (first ∷ files) one are is = (are.0, judged_too files one are.1 is)

module _ (terms : Terms) (found : List ℕ → Option (List ℕ) → Type 0) (paths : List (List ℕ)) (before : Option (List ℕ)) where
  -- nothing was run yet
  pub none_run : (idle : Type 0) → idle → RunSoFar terms found paths paths before before idle 0 0
  none_run idle rests = record {
    files = [];
    sees = λ more last seen. seen;
    begins = λ text begun. begun;
    written = sym (appended-nil before);
    rests = λ _. rests;
    names = refl;
    are = tt;
    passed_is = refl;
    failed_is = refl;
  }

  module _ (path : List ℕ) (later : List (List ℕ)) (mid : Option (List ℕ)) (idle : Type 0) (passed failed : ℕ) (h : RunSoFar terms found paths (path ∷ later) before mid idle passed failed) where
    -- the lines of the files and of one more
    text_more : (verdicts : List Judged) → files_text (h.files ++ record { path = path; verdicts = verdicts } ∷ []) ≡ files_text h.files ++ lines_text path verdicts
    text_more verdicts =
        flat_map-append (λ (file : JudgedFile). lines_text file.path file.verdicts) h.files (record { path = path; verdicts = verdicts } ∷ [])
        ∙ ap (λ (l : List ℕ). files_text h.files ++ l) (append-nil (lines_text path verdicts))

    -- one more file was judged
    pub one_more : (now : Option (List ℕ)) (totals : Totals) (later_idle : Type 0) → HasJudged terms found path mid now totals → (totals.passed + totals.failed ≡ 0 → idle → later_idle)
        → RunSoFar terms found paths later before now later_idle (passed + totals.passed) (failed + totals.failed)
    one_more now totals later_idle j rests_on =
        let one : JudgedFile = record { path = path; verdicts = j.verdicts } in
        let files = h.files ++ one ∷ [] in
        record {
          files = files;
          sees = λ more last seen. subst (λ (all : List JudgedFile). Sees terms found paths all last) (sym (append_assoc h.files (one ∷ []) more))
              (h.sees (one ∷ more) last (judged path j.verdicts later more last j.judged seen));
          begins = λ text begun. subst (Begins terms found paths) (sym (append_assoc (files_text h.files) (lines_text path j.verdicts) text) ∙ ap (λ (l : List ℕ). l ++ text) (sym (text_more j.verdicts)))
              (h.begins (lines_text path j.verdicts ++ text) (judged path j.verdicts later text j.judged begun));
          written = j.written ∙ ap (λ (w : Option (List ℕ)). appended w (lines_text path j.verdicts)) h.written ∙ appended-appended before (files_text h.files) (lines_text path j.verdicts)
              ∙ ap (appended before) (sym (text_more j.verdicts));
          rests = λ none. rests_on (omega (arith, none)) (h.rests (omega (arith, none)));
          names = ap (λ (l : List (List ℕ)). l ++ later) (map-append (λ (file : JudgedFile). file.path) h.files (one ∷ [])) ∙ append_assoc (paths_of h.files) (path ∷ []) later ∙ h.names;
          are = judged_too h.files one h.are j.judged;
          passed_is = omega (arith, sum_by-append (λ (file : JudgedFile). passed_in file.verdicts) h.files (one ∷ []), h.passed_is, j.passed);
          failed_is = omega (arith, sum_by-append (λ (file : JudgedFile). failed_in file.verdicts) h.files (one ∷ []), h.failed_is, j.failed);
        }

    -- the next file was cut off
    pub next_cut : (now : Option (List ℕ)) → IsCutFile terms found path mid now → IsCutFiles terms found paths before now
    next_cut now (Unwritten same) =
        Early (files_text h.files ++ []) (h.begins [] (waiting (path ∷ later))) (record { front = files_text h.files; left = []; parts = refl; took = same ∙ h.written })
    next_cut now (Running verdicts is front) =
        Early (files_text h.files ++ lines_text path verdicts) (h.begins (lines_text path verdicts) (running path verdicts later is)) (front_last (files_text h.files) (lines_text path verdicts) h.written front)

    -- an engine stopped the next file
    pub next_stopped : (now : Option (List ℕ)) → IsStoppedFile terms found path mid now → IsStoppedFiles terms found paths before now
    next_stopped now (Unmoved same) = record {
      text = files_text h.files ++ [];
      begun = h.begins [] (waiting (path ∷ later));
      written = same ∙ h.written ∙ ap (appended before) (sym (append-nil (files_text h.files)));
    }
    next_stopped now (Standing verdicts is written) = record {
      text = files_text h.files ++ lines_text path verdicts;
      begun = h.begins (lines_text path verdicts) (running path verdicts later is);
      written = written ∙ ap (λ (w : Option (List ℕ)). appended w (lines_text path verdicts)) h.written ∙ appended-appended before (files_text h.files) (lines_text path verdicts);
    }

    -- the next file isn't run
    stop_seen : (stop : Stop) → Stops terms found path stop → Sees terms found (path ∷ later) [] (last_at path stop)
    stop_seen stop.Gone none = gone path later none
    stop_seen (stop.Refused refusal) why = refused path why.0 refusal later why.1 why.2

    all_seen : (stop : Stop) → Stops terms found path stop → Sees terms found paths h.files (last_at path stop)
    all_seen stop why = subst (λ (all : List JudgedFile). Sees terms found paths all (last_at path stop)) (append-nil h.files) (h.sees [] (last_at path stop) (stop_seen stop why))

    stop_text : (stop : Stop) → (stop_report path stop).text ≡ last_text h.files (last_at path stop)
    stop_text stop.Gone = refl
    stop_text (stop.Refused refusal) = refl

    stop_status : (stop : Stop) → (stop_report path stop).status ≡ last_status h.files (last_at path stop)
    stop_status stop.Gone = refl
    stop_status (stop.Refused refusal) = refl

    pub stop_printed : (stop : Stop) (now : Option (List ℕ)) (all_idle : Type 0) (r : Result Status SinkFail) → Stops terms found path stop → (idle → all_idle)
        → IfOk r (λ status. (status.0 ≡ (stop_report path stop).status) × (now ≡ appended mid (stop_report path stop).text)) → OnErr r (WroteFront mid now (stop_report path stop).text)
        → Ends (ReportsFiles terms found paths all_idle) (IsCutFiles terms found paths before now) before now r
    stop_printed stop now all_idle (Ok status) why rests ok err = (
      report_of h.files (last_at path stop),
      record { files = h.files; last = last_at path stop; seen = all_seen stop why; is = refl; rests = λ nothing. rests (h.rests (none_counted h.files passed failed h.passed_is h.failed_is nothing)) },
      record {
        status_is = ok.0 ∙ stop_status stop;
        text_is = ok.1 ∙ ap (λ (w : Option (List ℕ)). appended w (stop_report path stop).text) h.written ∙ appended-appended before (files_text h.files) (stop_report path stop).text
            ∙ ap (λ (l : List ℕ). appended before (files_text h.files ++ l)) (stop_text stop);
      },
    )
    stop_printed stop now all_idle (Err cause) why rests ok err =
        Late h.files (last_at path stop) (all_seen stop why) (front_last (files_text h.files) (last_text h.files (last_at path stop)) h.written (subst (WroteFront mid now) (stop_text stop) err))

  -- no file is left
  module _ (mid : Option (List ℕ)) (idle : Type 0) (passed failed : ℕ) (h : RunSoFar terms found paths [] before mid idle passed failed) where
    seen_all : Sees terms found paths h.files All
    seen_all = subst (λ (files : List JudgedFile). Sees terms found paths files All) (append-nil h.files) (h.sees [] All all)

    totals_are : totals_text passed failed ≡ last_text h.files All
    totals_are = ap (λ (n : ℕ). totals_text n failed) h.passed_is ∙ ap (totals_text (all_passed h.files)) h.failed_is

    status_are : (status : ℕ) → status ≡ (if failed == 0 then 0 else 1) → status ≡ last_status h.files All
    status_are status is = is ∙ ap (λ (n : ℕ). if n == 0 then 0 else 1) h.failed_is

    pub totals_printed : (now : Option (List ℕ)) (r : Result Status SinkFail)
        → IfOk r (λ status. (status.0 ≡ (if failed == 0 then 0 else 1)) × (now ≡ appended mid (totals_text passed failed))) → OnErr r (WroteFront mid now (totals_text passed failed))
        → Ends (ReportsFiles terms found paths idle) (IsCutFiles terms found paths before now) before now r
    totals_printed now (Ok status) ok err = (
      report_of h.files All,
      record { files = h.files; last = All; seen = seen_all; is = refl; rests = λ nothing. h.rests (none_counted h.files passed failed h.passed_is h.failed_is nothing) },
      record {
        status_is = status_are status.0 ok.0;
        text_is = ok.1 ∙ ap (λ (w : Option (List ℕ)). appended w (totals_text passed failed)) h.written ∙ appended-appended before (files_text h.files) (totals_text passed failed)
            ∙ ap (λ (l : List ℕ). appended before (files_text h.files ++ l)) totals_are;
      },
    )
    totals_printed now (Err cause) ok err =
        Late h.files All seen_all (front_last (files_text h.files) (last_text h.files All) h.written (subst (WroteFront mid now) totals_are err))

-- ---- how far a run came

module _ {terms : Terms} {found : List ℕ → Option (List ℕ) → Type 0} {paths left : List (List ℕ)} {before mid : Option (List ℕ)} {idle : Type 0} {passed failed : ℕ} (h : RunSoFar terms found paths left before mid idle passed failed) where
  wrote_behind : (now : Option (List ℕ)) (text : List ℕ) → now ≡ appended mid text → WroteTheir h.files before now
  wrote_behind now text is = record {
    more = text;
    is = is ∙ ap (λ (w : Option (List ℕ)). appended w text) h.written ∙ appended-appended before (files_text h.files) text;
  }

  wrote_same : (now : Option (List ℕ)) → now ≡ mid → WroteTheir h.files before now
  wrote_same now same = wrote_behind now [] (same ∙ sym (appended-nil mid))

cut_stops : (terms : Terms) (found : List ℕ → Option (List ℕ) → Type 0) (path : List ℕ) (cause : Cut) → StopsAt terms found path (status_of (Err cause))
cut_stops terms found path cut.Write = record { gone = λ e. absurd (cc); refused = λ e. absurd (cc); is = refl }
cut_stops terms found path cut.Memory = record { gone = λ e. absurd (cc); refused = λ e. absurd (cc); is = refl }
cut_stops terms found path (cut.Lost lost) = record { gone = λ e. absurd (cc); refused = λ e. absurd (cc); is = refl }

never_idle : (cause : Cut) (P : Type 0) → IsOneOf (3 ∷ 6 ∷ []) (status_of (Err cause)) → P
never_idle cut.Write P one = absurd (cc)
never_idle cut.Memory P one = absurd (cc)
never_idle (cut.Lost lost) P one = absurd (cc)

there_stops : (terms : Terms) (found : List ℕ → Option (List ℕ) → Type 0) (path : List ℕ) (end : Stop) (status : ℕ) → Stops terms found path end → status ≡ (stop_report path end).status → StopsAt terms found path status
there_stops terms found path stop.Gone status why is = record { gone = λ _. why; refused = λ six. absurd (omega (arith, is, six)); is = subst (IsOneOf (3 ∷ 4 ∷ 5 ∷ 6 ∷ 7 ∷ [])) (sym is) refl }
there_stops terms found path (stop.Refused refusal) status why is =
    record { gone = λ three. absurd (omega (arith, is, three)); refused = λ _. (why.0, refusal, why.1, why.2); is = subst (IsOneOf (3 ∷ 4 ∷ 5 ∷ 6 ∷ 7 ∷ [])) (sym is) refl }

totals_of : (failed : ℕ) (r : Result Status SinkFail) (P : Status → Type 0) → IfOk r (λ status. (status.0 ≡ (if failed == 0 then 0 else 1)) × P status) → IsOneOf (0 ∷ 1 ∷ 4 ∷ 7 ∷ []) (status_of (or_cut r))
totals_of failed (Ok status) P ok = subst (IsOneOf (0 ∷ 1 ∷ 4 ∷ 7 ∷ [])) (sym ok.0) (elim (failed == 0) as (λ b. IsOneOf (0 ∷ 1 ∷ 4 ∷ 7 ∷ []) (if b then 0 else 1)) [ true ↦ refl | false ↦ refl ])
totals_of failed (Err sinks.Failed) P ok = refl
totals_of failed (Err sinks.Memory) P ok = refl

module _ (L : Type 0) (fetch : L → List ℕ → L → Type 0) (library_before library_now : L) (terms : Terms) (found : List ℕ → Option (List ℕ) → Type 0) (paths : List (List ℕ)) (before mid : Option (List ℕ)) (idle : Type 0) (passed failed : ℕ) where
  module _ (i : ℕ) (path : List ℕ) (h : RunSoFar terms found paths (path ∷ drop (i + 1) paths) before mid idle passed failed) (fetched : Fetches fetch (take (i + 1) paths) library_before library_now) where
    fetched_so : Fetches fetch (paths_of h.files ++ path ∷ []) library_before library_now
    fetched_so = subst (λ (ps : List (List ℕ)). Fetches fetch ps library_before library_now)
        (append_cancel_right (take (i + 1) paths) (paths_of h.files ++ path ∷ []) (drop (i + 1) paths) (take-append-drop (i + 1) paths ∙ sym (append_assoc (paths_of h.files) (path ∷ []) (drop (i + 1) paths) ∙ h.names))) fetched

    -- the next file was cut off
    pub cut_reaches : (now : Option (List ℕ)) (all_idle : Type 0) (cause : Cut) → IsCutFile terms found path mid now → ReachesFiles fetch terms found paths library_before library_now before now all_idle (status_of (Err cause))
    cut_reaches now all_idle cause cut = up_to h.files path (drop (i + 1) paths) h.names h.are fetched_so (wrote cut) (cut_stops terms found path cause) (λ one. never_idle cause _ one)
      where
        wrote : IsCutFile terms found path mid now → WroteTheir h.files before now
        wrote (Unwritten same) = wrote_same h now same
        wrote (Running verdicts is front) = wrote_behind h now front.front front.took

    -- the next file isn't run
    pub stop_reaches : (end : Stop) (now : Option (List ℕ)) (all_idle : Type 0) (r : Result Status SinkFail) → Stops terms found path end → (idle → all_idle)
        → IfOk r (λ status. (status.0 ≡ (stop_report path end).status) × (now ≡ appended mid (stop_report path end).text)) → OnErr r (WroteFront mid now (stop_report path end).text)
        → ReachesFiles fetch terms found paths library_before library_now before now all_idle (status_of (or_cut r))
    stop_reaches end now all_idle (Ok status) why rests ok err =
        up_to h.files path (drop (i + 1) paths) h.names h.are fetched_so (wrote_behind h now _ ok.1) (there_stops terms found path end status.0 why ok.0) (λ one none. rests (h.rests (omega (arith, h.passed_is, h.failed_is, none))))
    stop_reaches end now all_idle (Err cause) why rests ok err =
        up_to h.files path (drop (i + 1) paths) h.names h.are fetched_so (wrote_behind h now err.front err.took) (cut_stops terms found path (cut_by cause)) (λ one. never_idle (cut_by cause) _ one)

  -- no file is left
  pub totals_reach : (h : RunSoFar terms found paths [] before mid idle passed failed) → Fetches fetch paths library_before library_now → (now : Option (List ℕ)) (all_idle : Type 0) (r : Result Status SinkFail)
      → IfOk r (λ status. (status.0 ≡ (if failed == 0 then 0 else 1)) × (now ≡ appended mid (totals_text passed failed))) → OnErr r (WroteFront mid now (totals_text passed failed))
      → ReachesFiles fetch terms found paths library_before library_now before now all_idle (status_of (or_cut r))
  totals_reach h fetched now all_idle r ok err =
      whole h.files (sym (append-nil (paths_of h.files)) ∙ h.names) h.are fetched (wrote r ok err) (totals_of failed r (λ _. now ≡ appended mid (totals_text passed failed)) ok)
    where
      wrote : (s : Result Status SinkFail) → IfOk s (λ status. (status.0 ≡ (if failed == 0 then 0 else 1)) × (now ≡ appended mid (totals_text passed failed))) → OnErr s (WroteFront mid now (totals_text passed failed)) → WroteTheir h.files before now
      wrote (Ok status) good bad = wrote_behind h now (totals_text passed failed) good.1
      wrote (Err cause) good bad = wrote_behind h now bad.front bad.took

-- ---- how a run ended, whatever engines gave

-- what was printed, where a write that fails cuts the run off
pub ends_cut : (IsSuch : Report → Type 0) (IsCut : Type 0) (before now : Option (List ℕ)) (r : Result Status SinkFail) → Ends IsSuch IsCut before now r → Ends IsSuch IsCut before now (or_cut r)
ends_cut IsSuch IsCut before now (Ok status) e = e
ends_cut IsSuch IsCut before now (Err cause) e = e

-- so many files in front hold scripts, and nothing was evaluated where there is none
pub record RanSoFar (terms : Terms) (found : List ℕ → Option (List ℕ) → Type 0) (done : List (List ℕ)) (idle : Type 0) : Type 0 where
  pub hold : AllByRecursion (HoldsScript terms found) done
  pub rests : done ≡ [] → idle

all_more : (P : List ℕ → Type 0) (paths : List (List ℕ)) (path : List ℕ) → AllByRecursion P paths → P path → AllByRecursion P (paths ++ path ∷ [])
all_more P [] path each one = (one, tt)
all_more P (first ∷ paths) path each one = (each.0, all_more P paths path each.1 one)

not_none : (paths : List (List ℕ)) (path : List ℕ) (P : Type 0) → paths ++ path ∷ [] ≡ [] → P
not_none [] path P e = absurd (cc)
not_none (first ∷ paths) path P e = absurd (cc)

module _ (terms : Terms) (found : List ℕ → Option (List ℕ) → Type 0) where
  pub none_ran : (idle : Type 0) → idle → RanSoFar terms found [] idle
  none_ran idle rests = record { hold = tt; rests = λ _. rests }

  -- one file more
  pub one_ran : (paths : List (List ℕ)) (i : ℕ) (one path : List ℕ) (idle later_idle : Type 0) → i < length paths → path ≡ one → one ≡ get_or paths i one → RanSoFar terms found (take i paths) idle → HoldsScript terms found path
      → RanSoFar terms found (take (i + 1) paths) later_idle
  one_ran paths i one path idle later_idle lt names is h holds =
      let next : take (i + 1) paths ≡ take i paths ++ path ∷ [] = take_more paths i one lt ∙ ap (λ (p : List ℕ). take i paths ++ p ∷ []) (sym (names ∙ is)) in
      subst (λ (done : List (List ℕ)). RanSoFar terms found done later_idle) (sym next)
      (record { hold = all_more (HoldsScript terms found) (take i paths) path h.hold holds; rests = λ none. not_none (take i paths) path later_idle none })

  -- the file whose turn it is isn't run
  pub stop_ends : (done : List (List ℕ)) (path : List ℕ) (later paths : List (List ℕ)) (stop : Stop) (mid now : Option (List ℕ)) (idle all_idle : Type 0) (r : Result Status SinkFail) → done ++ path ∷ later ≡ paths → RanSoFar terms found done idle
      → Stops terms found path stop → (idle → all_idle) → IfOk r (λ status. (status.0 ≡ (stop_report path stop).status) × (now ≡ appended mid (stop_report path stop).text))
      → IfOk (or_cut r) (λ status. EndsFiles terms found paths all_idle now status.0)
  stop_ends done path later paths stop mid now idle all_idle (Ok status) parts h why rests ok = ended done path later stop parts h.hold why (mid, ok.1) (λ none. rests (h.rests none)) ok.0
  stop_ends done path later paths stop mid now idle all_idle (Err cause) parts h why rests ok = tt

  -- no file is left
  pub totals_end : (paths : List (List ℕ)) (failed : ℕ) (mid_idle idle : Type 0) (now : Option (List ℕ)) (P : Status → Type 0) (r : Result Status SinkFail) → RanSoFar terms found paths mid_idle
      → IfOk r (λ status. (status.0 ≡ (if failed == 0 then 0 else 1)) × P status) → IfOk (or_cut r) (λ status. EndsFiles terms found paths idle now status.0)
  totals_end paths failed mid_idle idle now P (Ok status) h ok = ran h.hold
      (subst (IsOneOf (0 ∷ 1 ∷ [])) (sym ok.0) (elim (failed == 0) as (λ b. IsOneOf (0 ∷ 1 ∷ []) (if b then 0 else 1)) [ true ↦ refl | false ↦ refl ]))
  totals_end paths failed mid_idle idle now P (Err cause) h ok = tt
