-- Steps that are fed one after another.
use Rattle.std.proofs.Common.{◌≡◌, ◌∙◌, ◌+◌, ◌<◌, ℕ, zero, suc, arith, List, [], ◌∷◌, ◌++◌, length, slice_get, take, map, sym, ap, Some}
use Rattle.step_put.specs.Feeding.{some_here}

-- ---- what is made

-- one more
made_more : {A B : Type 0} (f : A → B) (xs : List A) (i : ℕ) (x : A) → slice_get xs i ≡ Some x → map f (take (i + 1) xs) ≡ map f (take i xs) ++ f x ∷ []
made_more f [] i x e = absurd (cc)
made_more {B = B} f (y ∷ xs) zero x e = let same : y ≡ x = cc in ap (λ z. f z ∷ []) same
made_more {B = B} f (y ∷ xs) (suc i) x e = let n : suc i + 1 ≡ suc (i + 1) = omega arith in rw n (ap (λ (r : List B). f y ∷ r) (made_more f xs i x e))

pub lent_more : {A B : Type 0} (f : A → B) (xs : List A) (old new : List B) (i : ℕ) → i < length xs → old ≡ map f (take i xs) → ((x : A) → slice_get xs i ≡ Some x → new ≡ old ++ f x ∷ []) → new ≡ map f (take (i + 1) xs)
lent_more {B = B} f xs old new i l o n =
    let x = some_here xs i l in
    n x.0 x.1 ∙ ap (λ (w : List B). w ++ f x.0 ∷ []) o ∙ sym (made_more f xs i x.0 x.1)
