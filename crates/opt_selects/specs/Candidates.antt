-- The places of selectors in rows, each under the number of one of its rules, so that few are asked whether they are a base. (This
-- project's own.)
use Rattle.std.specs.Prelude.{◌≡◌, ◌≢◌, ℕ, ◌<◌, ◌%◌, ◌==◌, Bool, true, false, ◌&&◌, nat_lt, List, [], ◌∷◌, ◌++◌, length, get_or, set, Option, None, Some, slice_get, if◌then◌else◌}
use Rattle.std.specs.List.{list_any}
use Rattle.opt_selects.specs.RuleKeys.{own_keys}
use Rattle.opt_selects.specs.declared.candidates.Placed.{Placed}
use Rattle.opt_selects.specs.declared.found.Found.{Found}

-- the row that a number falls into
abbrev pub row_of : List (List Placed) → ℕ → List Placed
row_of rows key = get_or rows (key % length rows) []

-- one more place under a number
abbrev pub put_under : List (List Placed) → ℕ → ℕ → List (List Placed)
put_under rows key place = set rows (key % length rows) (row_of rows key ++ record { key = key; place = place } ∷ [])

-- a place stands under a number in a row
abbrev pub is_placed : List Placed → ℕ → ℕ → Bool
is_placed row key place = list_any (λ (s : Placed). s.key == key && s.place == place) row

-- a place stands under one of some numbers
abbrev pub is_under : List (List Placed) → List ℕ → ℕ → Bool
is_under rows keys place = list_any (λ key. is_placed (row_of rows key) key place) keys

abbrev pub passes : {X : Type 0} → (X → Bool) → Option X → Bool
passes p None = false
passes p (Some x) = p x

-- whether what stands at a place passes
abbrev pub passes_at : {X : Type 0} → (X → Bool) → List X → ℕ → Bool
passes_at p xs place = passes p (slice_get xs place)

-- the least of a bound and of those places under a number in a row that pass
abbrev pub least_of : (ℕ → Bool) → ℕ → List Placed → ℕ → ℕ
least_of p key [] bound = bound
least_of p key (s ∷ row) bound = least_of p key row (if s.key == key && nat_lt s.place bound && p s.place then s.place else bound)

-- the least of a bound and of those places under some numbers that pass
abbrev pub least_under : (ℕ → Bool) → List (List Placed) → List ℕ → ℕ → ℕ
least_under p rows [] bound = bound
least_under p rows (key ∷ keys) bound = least_under p rows keys (least_of p key (row_of rows key) bound)

-- each of the first so many selectors stands under the number of one of its rules, if it has any
abbrev pub AreUnder : List Found → List (List Placed) → ℕ → Type 0
AreUnder found rows many =
    (place : ℕ) (a : Found) → place < many → slice_get found place ≡ Some a → own_keys a ≢ [] → is_under rows (own_keys a) place ≡ true
