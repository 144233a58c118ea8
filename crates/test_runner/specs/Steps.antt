-- How one evaluation ends.
use Rattle.std.specs.Prelude.{◌≡◌, ℕ, Bool, List, Option, if◌then◌else◌}
use Rattle.edge_io.specs.Written.{appended, WroteFront}
use Rattle.sample_store.specs.Samples.{AllSeries}
use Rattle.script_check.specs.Verdicts.{PatternList}
use Rattle.test_runner.specs.Lines.{has_passed, verdict_text}
use Rattle.test_runner.specs.Verdicts.{IsJudgement, Judged}
use Rattle.test_runner.specs.declared.evaluation.Evaluation.{Evaluation}
use Rattle.test_runner.specs.declared.totals.Totals.{Totals}

-- an evaluation is judged over series
abbrev pub IsJudgementOn : PatternList → AllSeries → Evaluation → Judged → Type 0
IsJudgementOn kept series asked judged = IsJudgement asked.options.now.closed kept series asked.line asked.text.now asked.grid.now asked.instant asked.expected.now judged

-- A text is the line of such a verdict, which is a pass or not.
pub record IsLine (path : List ℕ) (IsSuch : Judged → Type 0) (text : List ℕ) (passed : Bool) : Type 0 where
  pub judged : Judged
  pub such : IsSuch judged
  pub told : text ≡ verdict_text path judged
  pub decided : passed ≡ has_passed judged

-- The line of such a verdict was written.
pub record WroteLine (path : List ℕ) (IsSuch : Judged → Type 0) (before now : Option (List ℕ)) (passed : Bool) : Type 0 where
  pub text : List ℕ
  pub is_line : IsLine path IsSuch text passed
  pub written : now ≡ appended before text

-- It was written and is counted: as a pass, or as a fail.
pub record WroteCounted (path : List ℕ) (IsSuch : Judged → Type 0) (before now : Option (List ℕ)) (totals : Totals) : Type 0 where
  pub passed : Bool
  pub line : WroteLine path IsSuch before now passed
  pub some : totals.passed ≡ (if passed then 1 else 0)
  pub none : totals.failed ≡ (if passed then 0 else 1)

-- Nothing was written, or a front of the line of such a verdict.
pub data WroteLess (path : List ℕ) (IsSuch : Judged → Type 0) (before now : Option (List ℕ)) : Type 0 where
  nothing : now ≡ before → WroteLess path IsSuch before now
  partly : (text : List ℕ) (passed : Bool) → IsLine path IsSuch text passed → WroteFront before now text → WroteLess path IsSuch before now
