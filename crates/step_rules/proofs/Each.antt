-- What is made of each of a list, or of some, one further.
use Rattle.std.proofs.Common.{◌≡◌, ◌∙◌, ℕ, ◌+◌, ◌<◌, List, [], ◌∷◌, ◌++◌, length, get_or, drop, map, ap, sym, refl, Option, None, Some, append_assoc}
use Rattle.std.specs.List.{cons_option, filter_map}
use Rattle.std.specs.Option.{option_to_list}
use Rattle.std.proofs.lemmas.List.{map-append}
use Rattle.step_rules.specs.Rests.{drop_item}

put_first : {Y : Type 0} (o : Option Y) (ys : List Y) → option_to_list o ++ ys ≡ cons_option o ys
put_first None ys = refl
put_first (Some y) ys = refl

module _ {X Y : Type 0} where
  pub mapped_more : (f : X → Y) (xs : List X) (i : ℕ) (x : X) (y : Y) (old new all : List Y) → i < length xs → x ≡ get_or xs i x → new ≡ old ++ y ∷ [] → y ≡ f x
      → old ++ map f (drop i xs) ≡ all → new ++ map f (drop (i + 1) xs) ≡ all
  mapped_more f xs i x y old new all w is made value told =
      let rest = map f (drop (i + 1) xs) in
      ap (λ ys. ys ++ rest) made ∙ append_assoc old (y ∷ []) rest ∙ ap (λ z. old ++ (z ∷ rest)) value ∙ ap (λ ys. old ++ map f ys) (sym (drop_item xs i x w is)) ∙ told

  pub filtered_more : (f : X → Option Y) (xs : List X) (i : ℕ) (x : X) (o : Option Y) (old new all : List Y) → i < length xs → x ≡ get_or xs i x → new ≡ old ++ option_to_list o → o ≡ f x
      → old ++ filter_map f (drop i xs) ≡ all → new ++ filter_map f (drop (i + 1) xs) ≡ all
  filtered_more f xs i x o old new all w is made value told =
      let rest = filter_map f (drop (i + 1) xs) in
      ap (λ ys. ys ++ rest) made ∙ append_assoc old (option_to_list o) rest ∙ ap (λ ys. old ++ ys) (put_first o rest) ∙ ap (λ p. old ++ cons_option p rest) value
      ∙ ap (λ ys. old ++ filter_map f ys) (sym (drop_item xs i x w is)) ∙ told

  -- what is held of those that were taken, and those that are to come
  pub held_more : (f : X → Y) (old new : List X) (x : X) (y : Y) (left rest all : List Y) → left ≡ y ∷ rest → new ≡ old ++ x ∷ [] → f x ≡ y → map f old ++ left ≡ all → map f new ++ rest ≡ all
  held_more f old new x y left rest all front made value told =
      ap (λ xs. map f xs ++ rest) made ∙ ap (λ ys. ys ++ rest) (map-append f old (x ∷ [])) ∙ append_assoc (map f old) (f x ∷ []) rest ∙ ap (λ z. map f old ++ (z ∷ rest)) value
      ∙ sym (ap (λ ys. map f old ++ ys) front) ∙ told
