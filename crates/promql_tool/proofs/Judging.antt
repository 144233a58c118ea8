-- What a script and bytes come to.
use Rattle.std.proofs.Common.{◌≡◌, ℕ, List, [], Option, Result, Ok, Err, IfErr, IfOk, OnErr, refl, ap, append-nil}
use Rattle.edge_io.specs.Written.{appended, WroteFront}
use Rattle.sample_store.specs.Samples.{AllSeries}
use Rattle.script_read.specs.Outcomes.{PatternList}
use Rattle.script_read.specs.declared.script.Script.{Script}
use Rattle.test_runner.specs.Boxes.{StoppedAt}
use Rattle.test_runner.specs.Lines.{lines_text}
use Rattle.test_runner.specs.Loads.{samples_left}
use Rattle.test_runner.specs.Running.{WasCut}
use Rattle.test_runner.specs.declared.fault.RunnerFault.{RunnerFault}
use Rattle.promql_tool.specs.Boxes.{IfLost}
use Rattle.promql_tool.specs.Chosen.{Terms}
use Rattle.promql_tool.specs.Reading.{IsReadAs, IsRefusedFor, beyond, unloaded}
use Rattle.promql_tool.specs.Found.{Just}
use Rattle.promql_tool.specs.Runs.{ComesTo, Cut, FileEnds, IsCutFile, IsCutScript, IsStoppedFile, IsStoppedScript, Midway, RefusesLoads, Running, ScriptComesTo, ScriptEnds, Standing, Unbegun, Unmoved, Unrun, Unwritten}
use Rattle.promql_tool.specs.declared.fault.Cut.{Cut as Cutting}
use Rattle.promql_tool.specs.declared.fault.Cut.TheVariants as cut
use Rattle.promql_tool.specs.declared.fault.Refusal.{Refusal}
use Rattle.promql_tool.specs.declared.fault.Refusal.TheVariants as refusal
use Rattle.promql_tool.specs.declared.fault.Stop.TheVariants as stop
use Rattle.promql_tool.specs.declared.judge.FileEnd.{FileEnd}
use Rattle.promql_tool.specs.declared.judge.FileEnd.TheVariants as ended

module _ (S : Type 0) (written : S → Option (List ℕ)) (old new : S) (P Q R : Type 0) (terms : Terms) (kept : PatternList) (path : List ℕ) (script : Script) where
  -- a run that was cut off: nothing was run where the loads are refused
  pub script_cut : (r : Result AllSeries RunnerFault) → samples_left terms.declared script ≡ r
      → IfErr r (λ _. (new ≡ old) × P × Q × R) → WasCut terms.closed terms.declared kept path script (written old) (written new) → IsCutScript terms kept path script (written old) (written new)
  script_cut (Ok series) taken untouched cut = Cut series taken cut
  script_cut (Err fault) refused untouched cut = Unrun (ap written untouched.0)

  -- a run that an engine stopped
  pub script_stopped : (r : Result AllSeries RunnerFault) → samples_left terms.declared script ≡ r
      → IfErr r (λ _. (new ≡ old) × P × Q × R) → StoppedAt terms.closed kept path terms.declared script (written old) (written new) → IsStoppedScript terms kept path script (written old) (written new)
  script_stopped (Ok series) taken untouched stopped = Midway series taken stopped
  script_stopped (Err fault) refused untouched stopped = Unbegun (ap written untouched.0)

-- lines that stand whole are a front of themselves
pub whole_front : (before now : Option (List ℕ)) (text : List ℕ) → now ≡ appended before text → WroteFront before now text
whole_front before now text is = record { front = text; left = []; parts = append-nil text; took = is }

-- so a run that an engine stopped was cut off
pub stopped_cut : (terms : Terms) (kept : PatternList) (path : List ℕ) (script : Script) (before now : Option (List ℕ)) → IsStoppedScript terms kept path script before now → IsCutScript terms kept path script before now
stopped_cut terms kept path script before now (Unbegun same) = Unrun same
stopped_cut terms kept path script before now (Midway series taken s) =
    Cut series taken (record { done = s.done; left = s.left; parts = s.parts; verdicts = s.verdicts; are = s.are; front = whole_front before now (lines_text path s.verdicts) s.written })

module _ (kept : PatternList) (bytes : List ℕ) (script : Script) (is_read : IsReadAs kept bytes (Ok script)) (terms : Terms) where
  -- loads that are refused
  pub loads_refused : (refused : Refusal) → RefusesLoads terms script refused → IsRefusedFor terms bytes refused
  loads_refused (refusal.Script refused) h = absurd h
  loads_refused (refusal.Range line) h = beyond kept script line is_read h
  loads_refused (refusal.Load refused) h = unloaded kept script refused is_read h

  module _ (path : List ℕ) (before now : Option (List ℕ)) where
    come : (idle : Type 0) (end : FileEnd) → ScriptComesTo terms kept path script before now idle end → ComesTo terms (Just bytes) path before now idle end
    come idle (ended.Judged totals) h = record {
      verdicts = h.0.verdicts;
      judged = record { bytes = bytes; is_found = refl; kept = kept; script = script; is_run = record { is_read = is_read; series = h.1; taken = h.2 }; are = h.0.are };
      written = h.0.written;
      passed = h.0.passed;
      failed = h.0.failed;
    }
    come idle (ended.Stopped stop.Gone) h = absurd h
    come idle (ended.Stopped (stop.Refused refused)) h = ((bytes, refl, loads_refused refused h.0), h.1, h.2)

    pub bytes_come : (E : Type 0) (idle : Type 0) (r : Result FileEnd E) → IfOk r (ScriptComesTo terms kept path script before now idle) → IfOk r (ComesTo terms (Just bytes) path before now idle)
    bytes_come E idle (Ok end) h = come idle end h
    bytes_come E idle (Err e) h = tt

    -- whatever engines gave
    end_so : (idle : Type 0) (end : FileEnd) → ScriptEnds terms script before now idle end → FileEnds terms (Just bytes) path before now idle end
    end_so idle (ended.Judged totals) h = (bytes, refl, kept, script, record { is_read = is_read; series = h.0; taken = h.1 })
    end_so idle (ended.Stopped stop.Gone) h = absurd h
    end_so idle (ended.Stopped (stop.Refused refused)) h = ((bytes, refl, loads_refused refused h.0), h.1, h.2)

    pub bytes_end : (E : Type 0) (idle : Type 0) (r : Result FileEnd E) → IfOk r (ScriptEnds terms script before now idle) → IfOk r (FileEnds terms (Just bytes) path before now idle)
    bytes_end E idle (Ok end) h = end_so idle end h
    bytes_end E idle (Err e) h = tt

    cut_off : IsCutScript terms kept path script before now → IsCutFile terms (Just bytes) path before now
    cut_off (Unrun h) = Unwritten h
    cut_off (Cut series taken cut) =
        Running cut.verdicts
        (record { bytes = bytes; is_found = refl; kept = kept; script = script; is_run = record { is_read = is_read; series = series; taken = taken }; done = cut.done; left = cut.left; parts = cut.parts; are = cut.are })
        cut.front

    pub bytes_cut : (E : Type 0) (r : Result FileEnd E) → OnErr r (IsCutScript terms kept path script before now) → OnErr r (IsCutFile terms (Just bytes) path before now)
    bytes_cut E (Ok end) h = tt
    bytes_cut E (Err e) h = cut_off h

    stop_off : IsStoppedScript terms kept path script before now → IsStoppedFile terms (Just bytes) path before now
    stop_off (Unbegun h) = Unmoved h
    stop_off (Midway series taken s) =
        Standing s.verdicts
        (record { bytes = bytes; is_found = refl; kept = kept; script = script; is_run = record { is_read = is_read; series = series; taken = taken }; done = s.done; left = s.left; parts = s.parts; are = s.are })
        s.written

    pub bytes_stopped : (r : Result FileEnd Cutting) → IfLost r (λ _. IsStoppedScript terms kept path script before now) → IfLost r (λ _. IsStoppedFile terms (Just bytes) path before now)
    bytes_stopped (Ok end) h = tt
    bytes_stopped (Err cut.Write) h = tt
    bytes_stopped (Err cut.Memory) h = tt
    bytes_stopped (Err (cut.Lost lost)) h = stop_off h
