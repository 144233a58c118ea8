-- Whole numbers of steps. This is this project's own.
use Rattle.std.specs.Prelude.{◌≡◌, ◌^◌, ℤ, pos, neg_ℤ, ◌+ℤ◌, ◌-ℤ◌, ◌*ℤ◌, ◌<ℤ◌, ◌≤ℤ◌}

-- a whole number of steps
abbrev pub IsMultiple : ℤ → ℤ → Type 0
IsMultiple step distance = (k : ℤ) × (distance ≡ k *ℤ step)

-- a number whose distance to another such one fits 64 bits with a sign
pub record IsReach (n : ℤ) : Type 0 where
  pub low : neg_ℤ (pos (2 ^ 61)) ≤ℤ n
  pub high : n ≤ℤ pos (2 ^ 61)

-- the way from `low` to the least number above it that is whole steps from the base
pub record IsNeed (base step low need : ℤ) : Type 0 where
  pub on_step : IsMultiple step ((low +ℤ need) -ℤ base)
  pub some : pos 0 <ℤ need
  pub short : need ≤ℤ step
  pub least : (u : ℤ) → IsMultiple step (u -ℤ base) → low <ℤ u → (low +ℤ need) ≤ℤ u

-- the least number above `low` that is whole steps from the base
pub record IsStepAfter (base step low at : ℤ) : Type 0 where
  pub on_step : IsMultiple step (at -ℤ base)
  pub above : low <ℤ at
  pub least : (u : ℤ) → IsMultiple step (u -ℤ base) → low <ℤ u → at ≤ℤ u

-- no number above `low` and not above `high` is whole steps from the base
pub record HasNoStep (base step low high : ℤ) : Type 0 where
  pub none : (u : ℤ) → IsMultiple step (u -ℤ base) → low <ℤ u → u ≤ℤ high → ⊥
