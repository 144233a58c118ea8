-- Which files are run, and why others are refused: a file is a script or it isn't, and the loads of a script may refuse it.
-- (This project's own.)
use Rattle.std.specs.Prelude.{◌≡◌, ℕ, List, [], Result, Ok, Err}
use Rattle.match_rule.specs.Gains.{Gains}
use Rattle.sample_store.specs.Samples.{AllSeries}
use Rattle.script_read.specs.Expects.{Gathers, RefusesOnLine}
use Rattle.script_read.specs.Lines.{lines_of}
use Rattle.script_read.specs.Outcomes.{PatternList}
use Rattle.script_read.specs.Reading.{reading}
use Rattle.script_read.specs.Views.{script_seen}
use Rattle.script_read.specs.declared.fault.ReadFault.TheVariants as read
use Rattle.script_read.specs.declared.script.Script.{Script}
use Rattle.script_read.specs.declared.script.ScriptRefusal.{ScriptRefusal}
use Rattle.test_runner.specs.Loads.{samples_left}
use Rattle.test_runner.specs.declared.fault.LoadRefusal.{LoadRefusal}
use Rattle.test_runner.specs.declared.fault.RunnerFault.TheVariants as runner
use Rattle.promql_tool.specs.Chosen.{Terms}
use Rattle.promql_tool.specs.declared.fault.Refusal.{Refusal}
use Rattle.promql_tool.specs.declared.fault.Refusal.TheVariants.{Script as NoScript, Range, Load}

-- bytes say this script, or are refused so, where these search patterns are kept
abbrev pub IsSaid : PatternList → List ℕ → Result Script ScriptRefusal → Type 0
IsSaid kept bytes (Ok script) = reading kept bytes ≡ Ok (script_seen script)
IsSaid kept bytes (Err refused) = (reading kept bytes ≡ Err (read.Refused refused)) × RefusesOnLine kept (lines_of bytes) (read.Refused refused)

-- Bytes are read as this. Their search patterns are kept, and no others: whether the crate `regex` takes a pattern is a
-- relation, and so is what bytes are read as.
pub record IsReadAs (kept : PatternList) (bytes : List ℕ) (said : Result Script ScriptRefusal) : Type 0 where
  pub gathers : Gathers (lines_of bytes) [] kept
  pub gains : Gains [] kept
  pub says : IsSaid kept bytes said

-- bytes hold this script, and its loads are taken under these terms
pub record IsRunnable (terms : Terms) (kept : PatternList) (bytes : List ℕ) (script : Script) : Type 0 where
  pub is_read : IsReadAs kept bytes (Ok script)
  pub series : AllSeries
  pub taken : samples_left terms.declared script ≡ Ok series

-- why bytes are refused: they hold no script, a number of its loads is outside the limits, or a load is refused
pub data IsRefusedFor (terms : Terms) (bytes : List ℕ) : Refusal → Type 0 where
  unread : (kept : PatternList) (refused : ScriptRefusal) → IsReadAs kept bytes (Err refused) → IsRefusedFor terms bytes (NoScript refused)
  beyond : (kept : PatternList) (script : Script) (line : ℕ) → IsReadAs kept bytes (Ok script) → samples_left terms.declared script ≡ Err (runner.Range line) → IsRefusedFor terms bytes (Range line)
  unloaded : (kept : PatternList) (script : Script) (refused : LoadRefusal) → IsReadAs kept bytes (Ok script) → samples_left terms.declared script ≡ Err (runner.Refused refused) → IsRefusedFor terms bytes (Load refused)

-- bytes hold no script that is run
abbrev pub IsNoScript : Terms → List ℕ → Type 0
IsNoScript terms bytes = (kept : PatternList) (script : Script) → IsRunnable terms kept bytes script → ⊥
