-- How many instants are computed at once. (This project's own.)
use Rattle.std.specs.Prelude.{◌<◌, ◌≤◌, ℕ}

-- at least one, and at most 1,024
abbrev pub IsBatch : ℕ → Type 0
IsBatch batch = (0 < batch) × (batch ≤ 1024)
