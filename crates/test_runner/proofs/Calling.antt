-- A call of one engine out of a list.
use Rattle.std.proofs.Common.{◌≡◌, ◌∙◌, ℕ, zero, suc, ◌<◌, List, [], ◌∷◌, get_or, length, map, slice_get, slice_set, Some, refl, sym, ap, subst, arith}
use Rattle.std.proofs.lemmas.List.{map-set}
use Rattle.std.proofs.lemmas.Option.{slice_get_read}
use Rattle.exchange.specs.Calls.{IsCalled}
use Rattle.remote_api.specs.Seen.{EngineSeen}

some_same : {X : Type 0} (a b : X) → Some a ≡ Some b → a ≡ b
some_same a b e = cc

get_map : {X Y : Type 0} (f : X → Y) (xs : List X) (i : ℕ) (x : X) → slice_get xs i ≡ Some x → slice_get (map f xs) i ≡ Some (f x)
get_map f [] i x e = absurd (cc)
get_map f (y ∷ xs) zero x e = ap (λ z. Some (f z)) (some_same y x e)
get_map f (y ∷ xs) (suc i) x e = get_map f xs i x e

get_within : {X : Type 0} (xs : List X) (i : ℕ) (x : X) → slice_get xs i ≡ Some x → i < length xs
get_within [] i x e = absurd (cc)
get_within (y ∷ xs) zero x e = omega arith
get_within (y ∷ xs) (suc i) x e = let l : i < length xs = get_within xs i x e in omega arith

get_set_same : {X : Type 0} (xs : List X) (i : ℕ) (w : X) → i < length xs → slice_get (slice_set xs i w) i ≡ Some w
get_set_same [] i w h = absurd (omega arith)
get_set_same (x ∷ xs) zero w h = refl
get_set_same (x ∷ xs) (suc i) w h = get_set_same xs i w (omega arith)

get_set_other : {X : Type 0} (xs : List X) (i j : ℕ) (w : X) → (j ≡ i → ⊥) → slice_get (slice_set xs i w) j ≡ slice_get xs j
get_set_other [] i j w h = refl
get_set_other (x ∷ xs) zero zero w h = absurd (h refl)
get_set_other (x ∷ xs) zero (suc j) w h = refl
get_set_other (x ∷ xs) (suc i) zero w h = refl
get_set_other (x ∷ xs) (suc i) (suc j) w h = get_set_other xs i j w (λ e. h (ap suc e))

-- what is known of the engine at a place is known of its box
pub known_of : {B : Type 0} (f : B → EngineSeen) (P : EngineSeen → Type 0) (bs : List B) (i : ℕ) (b : B) → i < length bs → b ≡ get_or bs i b → ((e : EngineSeen) → slice_get (map f bs) i ≡ Some e → P e) → P (f (get_or bs i b))
known_of f P bs i b l e h = subst (λ x. P (f x)) e (h (f b) (get_map f bs i b (slice_get_read bs (length bs) i b refl l e)))

pub called_one : {B : Type 0} (f : B → EngineSeen) (bs : List B) (i : ℕ) (R : EngineSeen → EngineSeen → Type 0) (b c : B) → i < length bs → b ≡ get_or bs i b → R (f (get_or bs i b)) (f c) → IsCalled i R (map f bs) (map f (slice_set bs i c))
called_one f bs i R b c l e h =
    let here : slice_get (map f bs) i ≡ Some (f b) = get_map f bs i b (slice_get_read bs (length bs) i b refl l e) in
    record {
      others = λ k n. ap (λ l. slice_get l k) (map-set f bs i c) ∙ get_set_other (map f bs) i k (f c) n;
      one = λ x at. (f c, ap (λ l. slice_get l i) (map-set f bs i c) ∙ get_set_same (map f bs) i (f c) (get_within (map f bs) i x at), subst (λ z. R z (f c)) (ap f (sym e) ∙ some_same (f b) x (sym here ∙ at)) h);
    }

pub map_length : {B : Type 0} (f : B → EngineSeen) (cs bs : List B) → length cs ≡ length bs → length (map f cs) ≡ length (map f bs)
map_length f [] [] l = refl
map_length f [] (b ∷ bs) l = absurd (omega (arith, l))
map_length f (c ∷ cs) [] l = absurd (omega (arith, l))
map_length f (c ∷ cs) (b ∷ bs) l = ap suc (map_length f cs bs (omega (arith, l)))
