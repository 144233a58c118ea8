-- The instants of an evaluation. (Prometheus' instant and range queries: one instant, or a start, an end and a step. The limits
-- are this project's own.)
use Rattle.std.specs.Prelude.{ℕ, Bool, ◌&&◌, ◌^◌, int_le, nat_le, neg_ℤ, pos}
use Rattle.ticks.specs.Grids.{step_count}
use Rattle.ticks.specs.declared.grid.Grid.{Grid}
use Rattle.ticks.specs.declared.moment.Ms.{Ms}

-- a start, an end and a step, or one instant
pub record Moments : Type 0 where
  pub start : Ms
  pub end : Ms
  pub step : Ms
  pub instant : Bool

-- those of a grid
abbrev pub moments_in : Grid → Bool → Moments
moments_in grid instant = record { start = grid.start; end = grid.end; step = grid.step; instant = instant }

-- how many instants these are
abbrev pub places : Moments → ℕ
places m = step_count m.start.0 m.end.0 m.step.0

-- the start is not after the end, neither is further from 0 than 10^14 ms, the step is at least a millisecond, and there are
-- at most 11,000 instants
abbrev pub is_grid : Moments → Bool
is_grid m =
    int_le (neg_ℤ (pos (10 ^ 14))) m.start.0 && (int_le m.start.0 m.end.0 && (int_le m.end.0 (pos (10 ^ 14)) && (int_le (pos 1) m.step.0
    && nat_le (places m) 11000)))
