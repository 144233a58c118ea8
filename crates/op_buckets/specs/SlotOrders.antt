-- The order of a step's slots, as their numbers. (This project's own.)
use Rattle.std.specs.Prelude.{◌≡◌, ◌==◌, ℕ, suc, List, [], ◌∷◌, length, map, if◌then◌else◌}
use Rattle.std.specs.List.{range_with_len}
use Rattle.op_buckets.specs.declared.order.SlotKey.{SlotKey}

-- the slots that are sorted, in their order
abbrev pub slots_in : List SlotKey → List ℕ
slots_in keys = map (λ (key : SlotKey). key.slot) keys

-- how often a number stands in a list
abbrev pub times : ℕ → List ℕ → ℕ
times k [] = 0
times k (n ∷ numbers) = if k == n then suc (times k numbers) else times k numbers

-- each number below their count stands once, and no other
abbrev pub IsOrder : List ℕ → Type 0
IsOrder numbers = (k : ℕ) → times k numbers ≡ times k (range_with_len 0 (length numbers))
