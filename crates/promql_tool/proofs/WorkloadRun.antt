-- A run over one text, and of a workload.
use Rattle.std.proofs.Common.{◌≡◌, ℕ, List, [], ◌∷◌, ◌++◌, Option, Result, Ok, Err, refl, sym, ap, subst, ◌∙◌, append-nil}
use Rattle.edge_io.specs.Written.{appended, WroteFront}
use Rattle.promql_tool.specs.Boxes.{IfLost}
use Rattle.promql_tool.specs.Chosen.{Terms}
use Rattle.promql_tool.specs.Files.{report_of, waiting}
use Rattle.promql_tool.specs.Found.{Just}
use Rattle.promql_tool.specs.Report.{workload_report}
use Rattle.promql_tool.specs.Runs.{Almost, Begun, Early, Ends, IsCutFiles, IsCutWorkload, IsStoppedFiles, IsStoppedWorkload, Late, ReportsFiles, ReportsWorkload}
use Rattle.promql_tool.specs.declared.fault.Cut.{Cut}
use Rattle.promql_tool.specs.declared.fault.Cut.TheVariants as cut
use Rattle.promql_tool.specs.Texts.{Report}
use Rattle.promql_tool.specs.Workload.{loaded_text, workload_path, workload_text}
use Rattle.promql_tool.specs.declared.print.Status.{Status}
use Rattle.edge_io.specs.Fronts.{appended-appended, front_last}

module _ (terms : Terms) (series : ℕ) (before mid now : Option (List ℕ)) (idle : Type 0) (loaded : mid ≡ appended before (loaded_text series)) where
  -- what stands behind the line of how much is loaded
  pub behind_loaded : (r : Result Status Cut)
      → Ends (ReportsFiles terms (Just (workload_text series)) (workload_path ∷ []) idle) (IsCutFiles terms (Just (workload_text series)) (workload_path ∷ []) mid now) mid now r
      → Ends (ReportsWorkload terms series idle) (IsCutWorkload terms series before now) before now r
  behind_loaded (Ok status) e =
      let f = e.1 in (
        workload_report series f.files f.last,
        record { files = f.files; last = f.last; seen = f.seen; is = refl; rests = f.rests },
        record {
          status_is = e.2.status_is ∙ ap (λ (x : Report). x.status) f.is;
          text_is = e.2.text_is ∙ ap (λ (w : Option (List ℕ)). appended w e.0.text) loaded ∙ appended-appended before (loaded_text series) e.0.text
              ∙ ap (λ (x : Report). appended before (loaded_text series ++ x.text)) f.is;
        },
      )
  behind_loaded (Err cause) (Early text begun front) = Begun text begun (front_last (loaded_text series) text loaded front)
  behind_loaded (Err cause) (Late files last seen front) = Almost files last seen (front_last (loaded_text series) (report_of files last).text loaded front)

  stop_behind : IsStoppedFiles terms (Just (workload_text series)) (workload_path ∷ []) mid now → IsStoppedWorkload terms series before now
  stop_behind s = record {
    text = s.text;
    begun = s.begun;
    written = s.written ∙ ap (λ (w : Option (List ℕ)). appended w s.text) loaded ∙ appended-appended before (loaded_text series) s.text;
  }

  -- an engine stopped it
  pub stopped_behind : (r : Result Status Cut) → IfLost r (λ _. IsStoppedFiles terms (Just (workload_text series)) (workload_path ∷ []) mid now) → IfLost r (λ _. IsStoppedWorkload terms series before now)
  stopped_behind (Ok status) s = tt
  stopped_behind (Err cut.Write) s = tt
  stopped_behind (Err cut.Memory) s = tt
  stopped_behind (Err (cut.Lost lost)) s = stop_behind s

-- the line of how much is loaded was cut off
pub loaded_cut : (terms : Terms) (series : ℕ) (before now : Option (List ℕ)) → WroteFront before now (loaded_text series) → IsCutWorkload terms series before now
loaded_cut terms series before now front = Begun [] (waiting (workload_path ∷ [])) (subst (WroteFront before now) (sym (append-nil (loaded_text series))) front)
