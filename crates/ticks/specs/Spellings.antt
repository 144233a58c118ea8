-- The one spelling of a duration that is written. It is this project's own: of the spellings that PromQL takes, the one
-- in which each unit has its greatest count.
use Rattle.std.specs.Prelude.{ℕ, zero, suc, ◌/◌, ◌%◌, ℤ, pos, negsuc, List, [], ◌∷◌, ◌++◌, nat_lt, decimal, codes, if◌then◌else◌}
use Rattle.ticks.specs.declared.unit.Unit.{Unit}
use Rattle.ticks.specs.Units.{milliseconds_in, name_of, units}

-- the greatest count of the unit, unless that is 0
abbrev pub part : Unit → ℕ → List ℕ
part unit n = if nat_lt n (milliseconds_in unit) then [] else decimal (n / milliseconds_in unit) ++ name_of unit

-- each unit in turn, of what those before it leave
abbrev pub parts : List Unit → ℕ → List ℕ
parts [] n = []
parts (unit ∷ shorter) n = part unit n ++ parts shorter (n % milliseconds_in unit)

-- a negative duration has a minus sign
abbrev pub sign : ℤ → List ℕ
sign (pos n) = []
sign (negsuc n) = codes "-"

-- the spelling of so many milliseconds
abbrev pub spelling : ℤ → List ℕ
spelling (pos zero) = codes "0s"
spelling (pos (suc n)) = parts units (suc n)
spelling (negsuc n) = codes "-" ++ parts units (suc n)
