-- What is left of a list behind a place: the item there, and those behind it.
use Rattle.std.proofs.Common.{◌≡◌, ◌∙◌, ℕ, ◌+◌, ◌<◌, List, ◌∷◌, length, get_or, drop, ap, sym, subst, add-one, drop-cons}
use Rattle.std.specs.List.{AllByRecursion}

module _ {X : Type 0} where
  pub drop_at : (xs : List X) (i : ℕ) (d : X) → i < length xs → drop i xs ≡ get_or xs i d ∷ drop (i + 1) xs
  drop_at xs i d w = rw add-one (drop-cons xs i d w)

  pub drop_item : (xs : List X) (i : ℕ) (x : X) → i < length xs → x ≡ get_or xs i x → drop i xs ≡ x ∷ drop (i + 1) xs
  drop_item xs i x w is = drop_at xs i x w ∙ ap (λ y. y ∷ drop (i + 1) xs) (sym is)

  -- what holds of all that are left holds of the next one and of those behind it
  pub next_holds : (P : X → Type 0) (xs : List X) (i : ℕ) (d : X) → i < length xs → AllByRecursion P (drop i xs) → P (get_or xs i d) × AllByRecursion P (drop (i + 1) xs)
  next_holds P xs i d w all = subst (AllByRecursion P) (drop_at xs i d w) all

  pub item_holds : (P : X → Type 0) (xs : List X) (i : ℕ) (x : X) → i < length xs → x ≡ get_or xs i x → AllByRecursion P (drop i xs) → P x × AllByRecursion P (drop (i + 1) xs)
  item_holds P xs i x w is all = subst (AllByRecursion P) (drop_item xs i x w is) all
