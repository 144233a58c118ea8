-- A place that is written twice.
use Rattle.std.proofs.Common.{◌≡◌, ◌∙◌, ℕ, zero, suc, List, [], ◌∷◌, Some, ap, refl, slice_get, slice_set}
use Rattle.std.proofs.lemmas.List.{set-set}

pub replaced_twice : {X : Type 0} (old mid new : List X) (i : ℕ) (blank x y : X) → mid ≡ slice_set old i blank → new ≡ slice_set mid i x → x ≡ y → new ≡ slice_set old i y
replaced_twice old mid new i blank x y e f g = f ∙ ap (λ l. slice_set l i x) e ∙ set-set old i blank x ∙ ap (slice_set old i) g

set_itself : {X : Type 0} (xs : List X) (i : ℕ) (x : X) → slice_get xs i ≡ Some x → slice_set xs i x ≡ xs
set_itself [] i x e = refl
set_itself (y ∷ xs) zero x e = cc
set_itself (y ∷ xs) (suc i) x e = ap (λ l. y ∷ l) (set_itself xs i x e)

pub put_back : {X : Type 0} (old mid new : List X) (i : ℕ) (blank x y : X) → mid ≡ slice_set old i blank → new ≡ slice_set mid i x → x ≡ y → slice_get old i ≡ Some y → new ≡ old
put_back old mid new i blank x y e f g was = replaced_twice old mid new i blank x y e f g ∙ set_itself old i y was
