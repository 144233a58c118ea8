-- How hexadecimal numbers begin. (PromQL's literals.)
use Rattle.std.specs.Prelude.{ℕ, Bool, false, ◌==◌, ◌&&◌, ◌||◌, List, [], ◌∷◌}

-- `0x` or `0X`
abbrev pub is_hexadecimal : List ℕ → Bool
is_hexadecimal [] = false
is_hexadecimal (first ∷ []) = false
is_hexadecimal (first ∷ (second ∷ rest)) = first == 48 && (second == 120 || second == 88)
