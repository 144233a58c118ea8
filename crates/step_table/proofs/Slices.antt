-- What a loop over a slice has made so far, where each item gives something or nothing.
use Rattle.std.proofs.Common.{◌≡◌, ◌∙◌, ℕ, zero, suc, ◌+◌, ◌<◌, List, [], ◌∷◌, ◌++◌, length, take, get_or, refl, sym, ap, add-one, append_assoc, append-nil, Some, None, Option, arith}
use Rattle.std.specs.List.{filter_map}
use Rattle.std.specs.Option.{option_to_list}

module _ {A B : Type 0} (f : A → Option B) where
  filter_map_first : (x : A) (xs : List A) → filter_map f (x ∷ xs) ≡ option_to_list (f x) ++ filter_map f xs
  filter_map_first x xs = by (f x) refl
    where
      by : (o : Option B) → f x ≡ o → filter_map f (x ∷ xs) ≡ option_to_list (f x) ++ filter_map f xs
      by None e = rw e refl
      by (Some y) e = rw e refl

  more_by : (xs : List A) (i : ℕ) (x : A) → i < length xs → x ≡ get_or xs i x → filter_map f (take (suc i) xs) ≡ filter_map f (take i xs) ++ option_to_list (f x)
  more_by [] i x l e = absurd (omega arith)
  more_by (y ∷ xs) zero x l e = filter_map_first y [] ∙ append-nil (option_to_list (f y)) ∙ ap (λ z. option_to_list (f z)) (sym e)
  more_by (y ∷ xs) (suc i) x l e =
      filter_map_first y (take (suc i) xs) ∙ ap (λ r. option_to_list (f y) ++ r) (more_by xs i x (omega arith) e)
      ∙ sym (append_assoc (option_to_list (f y)) (filter_map f (take i xs)) (option_to_list (f x))) ∙ ap (λ r. r ++ option_to_list (f x)) (sym (filter_map_first y (take i xs)))

  more : (xs : List A) (i : ℕ) (x : A) → i < length xs → x ≡ get_or xs i x → filter_map f (take (i + 1) xs) ≡ filter_map f (take i xs) ++ option_to_list (f x)
  more xs i x l e = rw add-one (more_by xs i x l e)

  pub one_skipped : (xs : List A) (i : ℕ) (x : A) (made : List B) → i < length xs → x ≡ get_or xs i x → made ≡ filter_map f (take i xs) → None ≡ f x → made ≡ filter_map f (take (i + 1) xs)
  one_skipped xs i x made l e is none = is ∙ sym (append-nil (filter_map f (take i xs))) ∙ ap (λ o. filter_map f (take i xs) ++ option_to_list o) none ∙ sym (more xs i x l e)

  pub one_more : (xs : List A) (i : ℕ) (x : A) (made new : List B) (y : B) → i < length xs → x ≡ get_or xs i x → made ≡ filter_map f (take i xs) → Some y ≡ f x → new ≡ made ++ y ∷ [] → new ≡ filter_map f (take (i + 1) xs)
  one_more xs i x made new y l e is some made' = made' ∙ ap (λ m. m ++ y ∷ []) is ∙ ap (λ o. filter_map f (take i xs) ++ option_to_list o) some ∙ sym (more xs i x l e)
