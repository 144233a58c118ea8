-- When a fault may be answered. This is this project's own.
use Rattle.std.specs.Prelude.{◌≡◌, ◌⊎◌, ℕ, ◌+◌, ◌-◌, ◌^◌, ◌≤◌, min}

-- a count with one more, which stands still at its type's end
abbrev pub counted : ℕ → ℕ
counted count = min (count + 1) (2 ^ 64 - 1)

-- a count has risen, or stands at its type's end
abbrev pub Rose : ℕ → ℕ → Type 0
Rose before now = counted before ≤ now

-- a count stands, or has counted one
abbrev pub CountsAtMostOne : ℕ → ℕ → Type 0
CountsAtMostOne before now = (now ≡ before) ⊎ (now ≡ counted before)

-- a count never falls, and where the fault was answered it rose
pub record HasCause (before now : ℕ) (failed : Type 0) : Type 0 where
  pub later : before ≤ now
  pub rose : failed → Rose before now
