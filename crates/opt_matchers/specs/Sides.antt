-- The sides of an operator. (This project's own.)
use Rattle.std.specs.Prelude.{Bool, false, List, [], ◌∷◌, Option, None, Some}
use Rattle.label_set.specs.declared.rules.Rule.{Rule}
use Rattle.opt_matchers.specs.Handing.{Operand, is_one_name}
use Rattle.opt_matchers.specs.declared.handing.Side.{Side}

abbrev pub operand_of : Side → Operand
operand_of side = record { at = side.at; rules = side.rules.now; moment = side.moment }

-- whether exactly one rule is on the metric's name and names it, where one was met already that names it or not
abbrev pub names_behind : Option Bool → List Rule → Bool
names_behind None rules = is_one_name rules
names_behind (Some named) [] = named
names_behind (Some named) (rule ∷ rules) = false
