-- A fold that takes any two items in either order doesn't depend on the order of its list.
use Rattle.std.proofs.Common.{◌≡◌, ◌∙◌, ℕ, zero, suc, ◌<◌, List, [], ◌∷◌, length, get_or, set, fold, refl, ap, arith}
use Rattle.std.specs.List.{All, swap}
use Rattle.std.specs.List.Sorted.{IsPermutation}
use Rattle.std.proofs.lemmas.List.Sorted.{IsPermutation-keeps, IsPermutation-swap, All-permutation}
use Rattle.std.proofs.lemmas.List.Elements.{All-head, All-tail, All-get_or}

-- items and results of a kind, a step that keeps the kind, and two steps in either order
pub record IsOrderless {A B : Type 0} (P : A → Type 0) (Q : B → Type 0) (f : B → A → B) : Type 0 where
  pub keeps : (b : B) (x : A) → Q b → P x → Q (f b x)
  pub either : (b : B) (x y : A) → Q b → P x → P y → f (f b x) y ≡ f (f b y) x

module _ {A B : Type 0} (P : A → Type 0) (Q : B → Type 0) (f : B → A → B) (o : IsOrderless P Q f) where
  -- the first item changes places with a later one
  front : (zs : List A) (j : ℕ) (x d : A) (b : B) → j < length zs → Q b → P x → All P zs →
      fold f (f b (get_or zs j d)) (set zs j x) ≡ fold f (f b x) zs
  front [] j x d b l q p all = absurd (omega arith)
  front (z ∷ zs) zero x d b l q p all = ap (λ r. fold f r zs) (o.either b z x q (All-head P z zs all) p)
  front (z ∷ zs) (suc j) x d b l q p all =
      let pz = All-head P z zs all in
      let rest = All-tail P z zs all in
      let py : P (get_or zs j d) = All-get_or P zs j d (omega arith) rest in
      ap (λ r. fold f r (set zs j x)) (o.either b (get_or zs j d) z q py pz)
      ∙ (front zs j x d (f b z) (omega arith) (o.keeps b z q pz) p rest ∙ ap (λ r. fold f r zs) (o.either b z x q pz p))

  swapped : (xs : List A) (i j : ℕ) (d : A) (b : B) → i < length xs → j < length xs → Q b → All P xs →
      fold f b (set (set xs i (get_or xs j d)) j (get_or xs i d)) ≡ fold f b xs
  swapped [] i j d b li lj q all = absurd (omega arith)
  swapped (x ∷ xs) zero zero d b li lj q all = refl
  swapped (x ∷ xs) zero (suc j) d b li lj q all = front xs j x d b (omega arith) q (All-head P x xs all) (All-tail P x xs all)
  swapped (x ∷ xs) (suc i) zero d b li lj q all = front xs i x d b (omega arith) q (All-head P x xs all) (All-tail P x xs all)
  swapped (x ∷ xs) (suc i) (suc j) d b li lj q all =
      swapped xs i j d (f b x) (omega arith) (omega arith) (o.keeps b x q (All-head P x xs all)) (All-tail P x xs all)

  after_swap : (xs : List A) (i j : ℕ) (b : B) → i < length xs → j < length xs → Q b → All P xs → fold f b (swap xs i j) ≡ fold f b xs
  after_swap [] i j b li lj q all = refl
  after_swap (x ∷ xs) i j b li lj q all = swapped (x ∷ xs) i j x b li lj q all

  pub fold-permutation : (xs ys : List A) (b : B) → Q b → All P xs → IsPermutation xs ys → fold f b ys ≡ fold f b xs
  fold-permutation xs ys b q all moved =
      (IsPermutation-keeps xs (λ l. All P l × (fold f b l ≡ fold f b xs)) (all, refl)
      (λ l i j li lj h. (All-permutation P l (swap l i j) (IsPermutation-swap l (swap l i j) i j li lj refl) h.0, after_swap l i j b li lj q h.0 ∙ h.1))
      ys moved).1

  -- the first item taken last
  pub fold-last : (xs : List A) (x : A) (b : B) → Q b → P x → All P xs → fold f (f b x) xs ≡ f (fold f b xs) x
  fold-last [] x b q p all = refl
  fold-last (y ∷ ys) x b q p all =
      let py = All-head P y ys all in
      ap (λ r. fold f r ys) (o.either b x y q p py) ∙ fold-last ys x (f b y) (o.keeps b y q py) p (All-tail P y ys all)
