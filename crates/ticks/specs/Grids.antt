-- Grids of instants, as a range query of Prometheus' HTTP API asks for them. The limits are this project's own.
use Rattle.std.specs.Prelude.{ℕ, ℤ, pos, neg_ℤ, ◌-ℤ◌, ◌≡◌, ◌≤ℤ◌, ◌<◌, ◌+◌, ◌+ℤ◌, ◌*ℤ◌, ◌/◌, ◌^◌, unsigned_abs}
use Rattle.ticks.specs.Steps.{IsMultiple}

-- the start is not after the end, neither is further from 0 than 10^14 ms, and the step is at least a millisecond
pub record IsInRange (start end step : ℤ) : Type 0 where
  pub first : neg_ℤ (pos (10 ^ 14)) ≤ℤ start
  pub ordered : start ≤ℤ end
  pub last : end ≤ℤ pos (10 ^ 14)
  pub forward : pos 1 ≤ℤ step

-- the start and every step after it, up to the end: how many instants these are
abbrev pub step_count : ℤ → ℤ → ℤ → ℕ
step_count start end step = unsigned_abs (end -ℤ start) / unsigned_abs step + 1

-- the instants of a grid: whole steps from the start, up to the end
pub record IsOnGrid (start end step t : ℤ) : Type 0 where
  pub from_start : start ≤ℤ t
  pub to_end : t ≤ℤ end
  pub on_step : IsMultiple step (t -ℤ start)

-- the start and `k` steps, for some `k` below the number of instants
abbrev pub IsNumbered : ℤ → ℤ → ℤ → ℤ → Type 0
IsNumbered start end step t = (k : ℕ) × (k < step_count start end step) × (t ≡ start +ℤ pos k *ℤ step)
