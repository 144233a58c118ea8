-- What is seen of an engine that tells nothing of what it holds. (This project's own.)
use Rattle.std.specs.Prelude.{◌≡◌, ℕ, false, List, ◌∷◌, Option, None, Some}
use Rattle.std.specs.Ordering.{int_eq}
use Rattle.edge_io.specs.Causes.{counted}
use Rattle.engine_local.specs.Local.{Local, seen_of}
use Rattle.remote_api.specs.Seen.{EngineSeen}
use Rattle.remote_api.specs.declared.frame.Stray.{Stray}
use Rattle.remote_api.specs.declared.frame.Stray.TheVariants.{OutOfStep}
use Rattle.step_table.specs.declared.cells.StepCells.{StepCells}

-- it has the asks of an engine that would tell, and faults and strays of its own
abbrev pub seen_untold : Local → ℕ → ℕ → Option Stray → EngineSeen
seen_untold e faults strays stray = record (seen_of e) { holding = None; faults = faults; strays = strays; stray = stray; sound = false }

-- the first step stands at another instant, and this stray is counted and told
pub record IsLate (old new : List StepCells) (before now : ℕ) (stray : Option Stray) : Type 0 where
  pub step : StepCells
  pub late : StepCells
  pub rest : List StepCells
  pub was : old ≡ step ∷ rest
  pub is : new ≡ late ∷ rest
  pub other : int_eq step.at.0 late.at.0 ≡ false
  pub counts : now ≡ counted before
  pub told : stray ≡ Some (OutOfStep (Some step.at) (Some late.at))
