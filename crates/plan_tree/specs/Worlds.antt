-- The world that a tree is evaluated in: the samples of a store, and what gathers over engines give. (This project's own.)
use Rattle.std.specs.Prelude.{◌≡◌, ℕ, ℤ, [], Option, Some}
use Rattle.promql_meaning.specs.Givens.{barren, no_marks}
use Rattle.sample_store.specs.Samples.{AllSeries}
use Rattle.step_batch.specs.LentWindows.{WindowsAt}
use Rattle.step_table.specs.WellFormed.{AreSets}
use Rattle.step_table.specs.declared.step.Step.{Step}

-- what a gather gives at an instant: a step, or the windows there
pub record Gathered : Type 0 where
  pub step : Step
  pub windows : WindowsAt

-- no windows at an instant
abbrev pub no_windows : ℤ → WindowsAt
no_windows t = record { at = record { 0 = t }; rows = []; marks = no_marks }

-- nothing at an instant
abbrev pub none_given : ℤ → Gathered
none_given t = record { step = barren no_marks; windows = no_windows t }

-- the marks and notes of what is given are sets
pub record HasSets (given : Gathered) : Type 0 where
  pub step : AreSets given.step.marks
  pub windows : AreSets given.windows.marks

-- what the gather at a place gives at an instant
abbrev pub Gathers : Type 0
Gathers = ℕ → ℤ → Gathered

pub record World : Type 0 where
  pub samples : AllSeries
  pub gathers : Gathers

abbrev pub world : AllSeries → Gathers → World
world samples gathers = record { samples = samples; gathers = gathers }

-- gathers that give nothing
abbrev pub no_gathers : Gathers
no_gathers place t = none_given t

-- the world of a tree without gathers
abbrev pub over : AllSeries → World
over samples = world samples no_gathers

-- the marks and notes of what gathers give are sets
abbrev pub HaveSets : Gathers → Type 0
HaveSets gathers = (place : ℕ) (t : ℤ) → HasSets (gathers place t)

-- what was taken of the gather at a place, at an instant, if it was taken yet
abbrev pub Taken : Type 0
Taken = ℕ → ℤ → Option Gathered

-- all that was taken before was taken by now
abbrev pub IsGrown : (before now : Taken) → Type 0
IsGrown before now = (place : ℕ) (t : ℤ) (given : Gathered) → before place t ≡ Some given → now place t ≡ Some given

-- gathers that may be those of the engines, as far as what they give was taken
pub record ArePossible (taken : Taken) (gathers : Gathers) : Type 0 where
  pub gave : (place : ℕ) (t : ℤ) (given : Gathered) → taken place t ≡ Some given → gathers place t ≡ given
  pub sets : HaveSets gathers
