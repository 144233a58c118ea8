-- The lines of the blocks of a file are lines of the file.
use Rattle.std.proofs.Common.{◌<◌, ◌⊎◌, inl, inr, ℕ, zero, suc, Bool, true, false, cond, List, [], ◌∷◌, length, get_or, arith}
use Rattle.std.specs.List.{Contains, onto_first, slice_split}
use Rattle.std.proofs.lemmas.List.Elements.{Contains-append_left, Contains-append_right, Contains-append_cases}

module _ {X : Type 0} where
  -- what stands in a part stands in the list
  abbrev pub AreWithin : List X → List (List X) → Type 0
  AreWithin xs [] = Unit {0}
  AreWithin xs (part ∷ parts) = ((x : X) → Contains part x → Contains xs x) × AreWithin xs parts

  grows : (xs ys : List X) (parts : List (List X)) → ((x : X) → Contains xs x → Contains ys x) → AreWithin xs parts → AreWithin ys parts
  grows xs ys [] more h = tt
  grows xs ys (part ∷ parts) more h = (λ x at. more x (h.0 x at), grows xs ys parts more h.1)

  pub behind : (x : X) (xs : List X) (y : X) → Contains xs y → Contains (x ∷ xs) y
  behind x xs y at = Contains-append_right (x ∷ []) xs y at

  first_or : (x : X) (xs part : List X) (y : X) → ((z : X) → Contains part z → Contains xs z) → Contains (x ∷ []) y ⊎ Contains part y → Contains (x ∷ xs) y
  first_or x xs part y h (inl at) = Contains-append_left (x ∷ []) xs y at
  first_or x xs part y h (inr at) = behind x xs y (h y at)

  onto_within : (x : X) (xs : List X) (parts : List (List X)) → AreWithin xs parts → AreWithin (x ∷ xs) (onto_first x parts)
  onto_within x xs [] h = (λ y at. Contains-append_left (x ∷ []) xs y at, tt)
  onto_within x xs (part ∷ parts) h = (λ y at. first_or x xs part y h.0 (Contains-append_cases (x ∷ []) part y at), grows xs (x ∷ xs) parts (behind x xs) h.1)

  pub parts_within : (p : X → Bool) (xs : List X) → AreWithin xs (slice_split p xs)
  parts_within p [] = (λ y at. at, tt)
  parts_within p (x ∷ xs) =
      elim (p x) as (λ b. AreWithin (x ∷ xs) (cond b ([] ∷ slice_split p xs) (onto_first x (slice_split p xs)))) [
        | true ↦ (λ y at. absurd (omega (arith, at.1)), grows xs (x ∷ xs) (slice_split p xs) (behind x xs) (parts_within p xs))
        | false ↦ onto_within x xs (slice_split p xs) (parts_within p xs)
      ]

  -- a part by its place
  pub within_at : (xs : List X) (parts : List (List X)) (i : ℕ) (d : List X) (x : X) → AreWithin xs parts → i < length parts → Contains (get_or parts i d) x → Contains xs x
  within_at xs [] i d x h lt at = absurd (omega arith)
  within_at xs (part ∷ parts) zero d x h lt at = h.0 x at
  within_at xs (part ∷ parts) (suc i) d x h lt at = within_at xs parts i d x h.1 (omega arith) at
