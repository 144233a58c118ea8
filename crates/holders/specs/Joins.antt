-- What holds of each item of joined lists, for proofs.
use Rattle.std.proofs.Common.{List, [], ◌∷◌, ◌++◌}
use Rattle.std.specs.List.{AllByRecursion}

module _ {X : Type 0} (P : X → Type 0) where
  pub front_of : (xs ys : List X) → AllByRecursion P (xs ++ ys) → AllByRecursion P xs
  front_of [] ys all = tt
  front_of (x ∷ xs) ys all = (all.0, front_of xs ys all.1)

  pub back_of : (xs ys : List X) → AllByRecursion P (xs ++ ys) → AllByRecursion P ys
  back_of [] ys all = all
  back_of (x ∷ xs) ys all = back_of xs ys all.1

  pub both_of : (xs ys : List X) → AllByRecursion P xs → AllByRecursion P ys → AllByRecursion P (xs ++ ys)
  both_of [] ys all others = others
  both_of (x ∷ xs) ys all others = (all.0, both_of xs ys all.1 others)
