-- What a hasher was fed of a list, and of one item more.
use Rattle.std.proofs.Common.{◌≡◌, ◌∙◌, ◌<◌, ℕ, ◌+◌, List, [], ◌∷◌, ◌++◌, length, take, get_or, ap, sym}
use Rattle.std.specs.List.{flat_map, fold}
use Rattle.std.proofs.lemmas.List.{take_more, flat_map_more}
use Rattle.std.proofs.lemmas.List.Sums.{fold-append}

module _ {S X : Type 0} (write : S → List ℕ → S) (F : X → List (List ℕ)) where
  step : (s : S) (xs : List X) (i : ℕ) (x : X) → i < length xs → x ≡ get_or xs i x → fold write s (flat_map F (take (i + 1) xs)) ≡ fold write (fold write s (flat_map F (take i xs))) (F x)
  step s xs i x within at =
      ap (λ ys. fold write s (flat_map F ys)) (take_more xs i x within ∙ ap (λ y. take i xs ++ y ∷ []) (sym at))
      ∙ ap (fold write s) (sym (flat_map_more F [] (take i xs) x))
      ∙ fold-append write s (flat_map F (take i xs)) (F x)

  pub fed_more : (s now next : S) (xs : List X) (i : ℕ) (x : X) → i < length xs → x ≡ get_or xs i x → now ≡ fold write s (flat_map F (take i xs)) → next ≡ fold write now (F x)
      → next ≡ fold write s (flat_map F (take (i + 1) xs))
  fed_more s now next xs i x within at e f = f ∙ ap (λ t. fold write t (F x)) e ∙ sym (step s xs i x within at)

-- two feeds in a row
pub fed_both : {S : Type 0} (write : S → List ℕ → S) (s now next : S) (first second : List (List ℕ)) → now ≡ fold write s first → next ≡ fold write now second → next ≡ fold write s (first ++ second)
fed_both write s now next first second e f = f ∙ ap (λ t. fold write t second) e ∙ sym (fold-append write s first second)
