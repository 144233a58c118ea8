-- What a fetch finds in two senses: what is said of a file in one of them holds in the other.
use Rattle.std.proofs.Common.{◌≡◌, ℕ, List, Option, None, Some, Result, Ok, Err, IfOk, OnErr, refl, sym, subst}
use Rattle.std.proofs.lemmas.Result.{IfOk-weaker}
use Rattle.test_runner.specs.Verdicts.{Judged}
use Rattle.promql_tool.specs.Boxes.{IfLost}
use Rattle.promql_tool.specs.Chosen.{Terms}
use Rattle.promql_tool.specs.Files.{Gone, IsJudged, IsRunning, JudgedFile, Last, Sees, all, gone, judged, refused}
use Rattle.promql_tool.specs.Found.{Just}
use Rattle.promql_tool.specs.Runs.{ComesTo, FileAnswers, FileEnds, HoldsScript, IsCutFile, IsStoppedFile, Running, Standing, Stops, Unmoved, Unwritten}
use Rattle.promql_tool.specs.declared.fault.Cut.{Cut}
use Rattle.promql_tool.specs.declared.fault.Cut.TheVariants as cut
use Rattle.promql_tool.specs.declared.fault.Stop.{Stop}
use Rattle.promql_tool.specs.declared.fault.Stop.TheVariants as stop
use Rattle.promql_tool.specs.declared.judge.FileEnd.{FileEnd}
use Rattle.promql_tool.specs.declared.judge.FileEnd.TheVariants as ended
use Rattle.promql_tool.specs.declared.query.Answered.{Answered}
use Rattle.promql_tool.specs.declared.query.Answered.TheVariants as answered

-- at one path
module _ (f g : List ℕ → Option (List ℕ) → Type 0) (path : List ℕ) (to : (x : Option (List ℕ)) → f path x → g path x) where
  pub judged_so : (terms : Terms) (verdicts : List Judged) → IsJudged terms f path verdicts → IsJudged terms g path verdicts
  judged_so terms verdicts h = record { bytes = h.bytes; is_found = to (Some h.bytes) h.is_found; kept = h.kept; script = h.script; is_run = h.is_run; are = h.are }

  pub running_so : (terms : Terms) (verdicts : List Judged) → IsRunning terms f path verdicts → IsRunning terms g path verdicts
  running_so terms verdicts h = record { bytes = h.bytes; is_found = to (Some h.bytes) h.is_found; kept = h.kept; script = h.script; is_run = h.is_run; done = h.done; left = h.left; parts = h.parts; are = h.are }

  pub stops_so : (terms : Terms) (stop : Stop) → Stops terms f path stop → Stops terms g path stop
  stops_so terms stop.Gone h = to None h
  stops_so terms (stop.Refused refusal) h = (h.0, to (Some h.0) h.1, h.2)

  pub comes_so : (terms : Terms) (before now : Option (List ℕ)) (idle : Type 0) (end : FileEnd) → ComesTo terms f path before now idle end → ComesTo terms g path before now idle end
  comes_so terms before now idle (ended.Judged totals) h = record { verdicts = h.verdicts; judged = judged_so terms h.verdicts h.judged; written = h.written; passed = h.passed; failed = h.failed }
  comes_so terms before now idle (ended.Stopped stop) h = (stops_so terms stop h.0, h.1, h.2)

  pub cut_so : (terms : Terms) (before now : Option (List ℕ)) → IsCutFile terms f path before now → IsCutFile terms g path before now
  cut_so terms before now (Unwritten h) = Unwritten h
  cut_so terms before now (Running verdicts h front) = Running verdicts (running_so terms verdicts h) front

  -- whatever engines gave
  holds_so : (terms : Terms) → HoldsScript terms f path → HoldsScript terms g path
  holds_so terms h = (h.0, to (Some h.0) h.1, h.2, h.3, h.4)

  pub ends_so : (terms : Terms) (before now : Option (List ℕ)) (idle : Type 0) (end : FileEnd) → FileEnds terms f path before now idle end → FileEnds terms g path before now idle end
  ends_so terms before now idle (ended.Judged totals) h = holds_so terms h
  ends_so terms before now idle (ended.Stopped stop) h = (stops_so terms stop h.0, h.1, h.2)

  pub answers_so : (terms : Terms) (idle : Type 0) (got : Answered) → FileAnswers terms f path idle got → FileAnswers terms g path idle got
  answers_so terms idle (answered.Outcome got) h = holds_so terms h
  answers_so terms idle (answered.Stopped stop) h = (stops_so terms stop h.0, h.1)

  pub stopped_so : (terms : Terms) (before now : Option (List ℕ)) → IsStoppedFile terms f path before now → IsStoppedFile terms g path before now
  stopped_so terms before now (Unmoved h) = Unmoved h
  stopped_so terms before now (Standing verdicts h written) = Standing verdicts (running_so terms verdicts h) written

-- the bytes that were found
pub just : (f : List ℕ → Option (List ℕ) → Type 0) (path bytes : List ℕ) → f path (Some bytes) → (x : Option (List ℕ)) → Just bytes path x → f path x
just f path bytes found x is = subst (f path) (sym is) found

-- at each path, where nothing is found only at the end
module _ (f g : List ℕ → Option (List ℕ) → Type 0) (some : (path bytes : List ℕ) → f path (Some bytes) → g path (Some bytes)) where
  judged_too : (terms : Terms) (path : List ℕ) (verdicts : List Judged) → IsJudged terms f path verdicts → IsJudged terms g path verdicts
  judged_too terms path verdicts h = record { bytes = h.bytes; is_found = some path h.bytes h.is_found; kept = h.kept; script = h.script; is_run = h.is_run; are = h.are }

  pub sees_so : (terms : Terms) (paths : List (List ℕ)) (files : List JudgedFile) (last : Last) → ((path : List ℕ) → f path None → last ≡ Gone path → g path None) → Sees terms f paths files last → Sees terms g paths files last
  sees_so terms paths files last none all = all
  sees_so terms paths files last none (gone path later h) = gone path later (none path h refl)
  sees_so terms paths files last none (refused path bytes refusal later h why) = refused path bytes refusal later (some path bytes h) why
  sees_so terms paths files last none (judged path verdicts later more end h seen) = judged path verdicts later more end (judged_too terms path verdicts h) (sees_so terms later more end none seen)

-- the same of what was answered
module _ (E : Type 0) (terms : Terms) (f : List ℕ → Option (List ℕ) → Type 0) (path bytes : List ℕ) (found : f path (Some bytes)) (before now : Option (List ℕ)) (r : Result FileEnd E) where
  pub bytes_came : (idle : Type 0) → IfOk r (ComesTo terms (Just bytes) path before now idle) → IfOk r (ComesTo terms f path before now idle)
  bytes_came idle h = IfOk-weaker r (ComesTo terms (Just bytes) path before now idle) (ComesTo terms f path before now idle) (comes_so (Just bytes) f path (just f path bytes found) terms before now idle) h

  pub bytes_ended : (idle : Type 0) → IfOk r (FileEnds terms (Just bytes) path before now idle) → IfOk r (FileEnds terms f path before now idle)
  bytes_ended idle h = IfOk-weaker r (FileEnds terms (Just bytes) path before now idle) (FileEnds terms f path before now idle) (ends_so (Just bytes) f path (just f path bytes found) terms before now idle) h

  pub bytes_cut : OnErr r (IsCutFile terms (Just bytes) path before now) → OnErr r (IsCutFile terms f path before now)
  bytes_cut h = on_err_too r h
    where
      on_err_too : (r : Result FileEnd E) → OnErr r (IsCutFile terms (Just bytes) path before now) → OnErr r (IsCutFile terms f path before now)
      on_err_too (Ok end) h = tt
      on_err_too (Err e) h = cut_so (Just bytes) f path (just f path bytes found) terms before now h

pub bytes_stopped : (terms : Terms) (f : List ℕ → Option (List ℕ) → Type 0) (path bytes : List ℕ) (found : f path (Some bytes)) (before now : Option (List ℕ)) (r : Result FileEnd Cut)
    → IfLost r (λ _. IsStoppedFile terms (Just bytes) path before now) → IfLost r (λ _. IsStoppedFile terms f path before now)
bytes_stopped terms f path bytes found before now (Ok end) h = tt
bytes_stopped terms f path bytes found before now (Err cut.Write) h = tt
bytes_stopped terms f path bytes found before now (Err cut.Memory) h = tt
bytes_stopped terms f path bytes found before now (Err (cut.Lost lost)) h = stopped_so (Just bytes) f path (just f path bytes found) terms before now h
