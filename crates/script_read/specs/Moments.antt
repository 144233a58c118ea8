-- The instants that an evaluation of a script takes. (promqltest format.)
use Rattle.std.specs.Prelude.{ℕ, ◌<◌, ◌+ℤ◌, ◌*ℤ◌, pos, if◌then◌else◌, Result, Ok, Err}
use Rattle.ticks.specs.Moments.{Moments, is_grid, places}
use Rattle.ticks.specs.declared.moment.Ms.{Ms}
use Rattle.script_read.specs.declared.fault.LineFault.{LineFault}
use Rattle.script_read.specs.declared.fault.LineFault.TheVariants.{Malformed}

-- a grid that is taken
abbrev pub grid_taken : Moments → Result Moments LineFault
grid_taken m = if is_grid m then Ok m else Err Malformed

-- a place of a grid, counted from 0
abbrev pub FitsGrid : Moments → ℕ → Type 0
FitsGrid m place = place < places m

-- its instant
abbrev pub point_at : Moments → ℕ → Ms
point_at m place = record { 0 = m.start.0 +ℤ pos place *ℤ m.step.0 }
