-- How a list is parted at the elements that pass.
use Rattle.std.proofs.Common.{◌≡◌, ℕ, ◌+◌, Bool, true, false, List, ◌∷◌, [], length, take, drop, arith, ap, ◌∙◌, refl, subst, Option, Some, None, position, cond, map}
use Rattle.std.specs.List.{slice_split, onto_first, position_or_len}
use Rattle.std.proofs.lemmas.Option.{cond_some}
use Rattle.std.proofs.lemmas.Bool.{ltb-true, ltb-false}
use Rattle.std.proofs.lemmas.List.Sums.{fails_before_first}
use Rattle.std.proofs.lemmas.List.Splits.{slice_split_first, slice_split_none}
use Rattle.std.proofs.Math.Dec.{ltb}
use Rattle.std.proofs.Common.{Bor}
use Rattle.script_read.specs.Lines.{Numbered, numbered_from, is_line_feed}

module _ {X : Type 0} (p : X → Bool) (xs : List X) (d : X) where
  pub split_at_position : (i : ℕ) → position p xs ≡ Some i → slice_split p xs ≡ take i xs ∷ slice_split p (drop (i + 1) xs)
  split_at_position i h =
      let both = cond_some (ltb (position_or_len p xs) (length xs)) (position_or_len p xs) i h in
      subst (λ j. slice_split p xs ≡ take j xs ∷ slice_split p (drop (j + 1) xs)) both.1
      (slice_split_first p xs d (ltb-true (position_or_len p xs) (length xs) both.0))

  not_within : (b : Bool) (n : ℕ) → cond b (Some n) None ≡ None → b ≡ false
  not_within true n h = absurd (cc)
  not_within false n h = refl

  pub split_nowhere : position p xs ≡ None → slice_split p xs ≡ xs ∷ []
  split_nowhere h =
      let none = ltb-false (position_or_len p xs) (length xs) (not_within (ltb (position_or_len p xs) (length xs)) (position_or_len p xs) h) in
      slice_split_none p xs (λ k e lt. fails_before_first p xs k e (omega (arith, none)))

-- the lines of what is left of a file, where something is
abbrev pub numbered_left : ℕ → Option (Bor (List ℕ)) → List Numbered
numbered_left n None = []
numbered_left n (Some text) = numbered_from n (slice_split is_line_feed text.now)

abbrev pub length_left : Option (Bor (List ℕ)) → ℕ
length_left None = 0
length_left (Some text) = length text.now + 1

-- parting what a function gives
module _ {X Y : Type 0} (f : X → Y) (p : Y → Bool) where
  onto_first-map : (x : X) (parts : List (List X)) → onto_first (f x) (map (map f) parts) ≡ map (map f) (onto_first x parts)
  onto_first-map x [] = refl
  onto_first-map x (part ∷ parts) = refl

  pub slice_split-map : (xs : List X) → slice_split p (map f xs) ≡ map (map f) (slice_split (λ x. p (f x)) xs)
  slice_split-map [] = refl
  slice_split-map (x ∷ xs) =
      elim (p (f x)) as (λ b. cond b ([] ∷ slice_split p (map f xs)) (onto_first (f x) (slice_split p (map f xs)))
      ≡ map (map f) (cond b ([] ∷ slice_split (λ y. p (f y)) xs) (onto_first x (slice_split (λ y. p (f y)) xs)))) [
        | true ↦ ap (λ l. [] ∷ l) (slice_split-map xs)
        | false ↦ ap (onto_first (f x)) (slice_split-map xs) ∙ onto_first-map x (slice_split (λ y. p (f y)) xs)
      ]
