-- Of all refusals of a tree the one with the least place is answered, and of those at one place the one with the least
-- number. This order is this project's own.
use Rattle.std.specs.Prelude.{◌≡◌, Bool, false, ◌&&◌, ◌||◌, ◌==◌, nat_lt, if◌then◌else◌, List, [], ◌∷◌, Option, Some, None, Contains, MatchOption}
use Rattle.std.specs.List.{AllByRecursion}
use Rattle.promql_ast.specs.declared.refusal.QueryRefusal.{QueryRefusal}
use Rattle.promql_ast.specs.Refusals.{place_of, number_of}

abbrev pub comes_first : QueryRefusal → QueryRefusal → Bool
comes_first a b = nat_lt (place_of a) (place_of b) || place_of a == place_of b && nat_lt (number_of a) (number_of b)

abbrev pub lesser : Option QueryRefusal → Option QueryRefusal → Option QueryRefusal
lesser None b = b
lesser (Some a) None = Some a
lesser (Some a) (Some b) = if comes_first b a then Some b else Some a

-- the one of several refusals that is answered
abbrev pub least : List QueryRefusal → Option QueryRefusal
least [] = None
least (r ∷ rs) = lesser (Some r) (least rs)

-- one of several refusals, before which none of them comes: none has a lesser place, or its place and a lesser number
pub record IsFirst (rs : List QueryRefusal) (r : QueryRefusal) : Type 0 where
  pub among : Contains rs r
  pub none_before : AllByRecursion (λ q. comes_first q r ≡ false) rs

-- the one that is answered is such a one, and there is none only where there are no refusals
abbrev pub LeastIsFirst : Type 0
LeastIsFirst = (rs : List QueryRefusal) → MatchOption (least rs) (rs ≡ []) (IsFirst rs)
