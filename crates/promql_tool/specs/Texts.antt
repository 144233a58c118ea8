-- The last lines of a report, and the status of the program. (This project's own.)
use Rattle.std.specs.Prelude.{ℕ, ◌+◌, List, [], ◌++◌, Option, None, Some, codes, decimal}
use Rattle.std.specs.Fmt.{signed_decimal}
use Rattle.remote_api.specs.declared.frame.Stray.{Stray}
use Rattle.remote_api.specs.declared.frame.Stray.TheVariants as stray
use Rattle.script_read.specs.Refusals.{line_of, name_of}
use Rattle.test_runner.specs.Lines.{placed}
use Rattle.test_runner.specs.declared.fault.LoadRefusal.{LoadRefusal}
use Rattle.test_runner.specs.declared.fault.LoadRefusal.TheVariants.{Conflict, TooManySamples, TooManySeries, Unplaced}
use Rattle.ticks.specs.declared.moment.Ms.{Ms}
use Rattle.promql_tool.specs.declared.fault.Lost.{Lost}
use Rattle.promql_tool.specs.declared.fault.Refusal.{Refusal}
use Rattle.promql_tool.specs.declared.fault.Refusal.TheVariants.{Script, Range, Load}

-- what is printed, and the status of the program
pub record Report : Type 0 where
  pub text : List ℕ
  pub status : ℕ

abbrev pub usage : List ℕ
usage = codes "usage: promqltest [options] FILE.. or query [options] FILE EXPR\n"

abbrev pub usage_report : Report
usage_report = record { text = usage; status = 2 }

-- how many evaluations pass and fail
abbrev pub totals_text : ℕ → ℕ → List ℕ
totals_text passed failed = codes "passed " ++ (decimal passed ++ (codes " failed " ++ (decimal failed ++ codes "\n")))

-- a file that isn't there
abbrev pub fault_text : List ℕ → List ℕ
fault_text path = codes "FAULT read " ++ (path ++ codes "\n")

abbrev pub fault_report : List ℕ → Report
fault_report path = record { text = fault_text path; status = 3 }

-- the line of a refusal
abbrev pub load_line : LoadRefusal → ℕ
load_line (Conflict line kept given) = line
load_line (Unplaced line) = line
load_line (TooManySamples line) = line
load_line (TooManySeries line) = line

abbrev pub refused_line : Refusal → ℕ
refused_line (Script refused) = line_of refused
refused_line (Range line) = line
refused_line (Load refused) = load_line refused

-- the name of a refusal
abbrev pub load_name : LoadRefusal → List ℕ
load_name (Conflict line kept given) = codes "Conflict"
load_name (Unplaced line) = codes "Unplaced"
load_name (TooManySamples line) = codes "TooManySamples"
load_name (TooManySeries line) = codes "TooManySeries"

abbrev pub refusal_name : Refusal → List ℕ
refusal_name (Script refused) = name_of refused
refusal_name (Range line) = codes "NumberRange"
refusal_name (Load refused) = load_name refused

-- a file that is refused
abbrev pub refusal_text : List ℕ → Refusal → List ℕ
refusal_text path refused = placed (codes "REFUSED") path (refused_line refused) (codes " " ++ (refusal_name refused ++ codes "\n"))

abbrev pub refusal_report : List ℕ → Refusal → Report
refusal_report path refused = record { text = refusal_text path refused; status = 6 }

-- an instant, in milliseconds, or that there is none
abbrev pub instant_text : Option Ms → List ℕ
instant_text None = codes "end"
instant_text (Some at) = signed_decimal at.0

-- which instant was expected, and which was given
abbrev pub step_text : Option Ms → Option Ms → List ℕ
step_text expected got = codes " expected " ++ (instant_text expected ++ (codes " got " ++ instant_text got))

-- at which instant a cell was of another kind than was asked, or its labels stood twice
abbrev pub cell_text : Ms → List ℕ
cell_text at = codes " cell at " ++ signed_decimal at.0

-- what is told of an engine that was lost: what it gave last that was refused, if it didn't fail
abbrev pub stray_text : Option Stray → List ℕ
stray_text None = []
stray_text (Some (stray.OutOfStep expected got)) = step_text expected got
stray_text (Some (stray.WrongCell at)) = cell_text at

-- an engine that was lost, counted from 1
abbrev pub lost_text : Lost → List ℕ
lost_text lost = codes "FAULT engine " ++ (decimal (lost.engine + 1) ++ (stray_text lost.stray ++ codes "\n"))
