-- The least of refusals in several parts.
use Rattle.std.proofs.Common.{◌≡◌, ℕ, refl, ap, ◌∙◌, sym, List, [], ◌∷◌, ◌++◌, arith, Bool, true, false, true≢false}
use Rattle.std.proofs.lemmas.Bool.{false≢true}
use Rattle.std.specs.Prelude.{Option, Some, None, nat_lt, ◌==◌, ◌&&◌, ◌||◌}
use Rattle.promql_ast.specs.declared.refusal.QueryRefusal.{QueryRefusal}
use Rattle.promql_ast.specs.Refusals.{place_of, number_of}
use Rattle.promql_type.specs.Refusals.{comes_first, lesser, least}

abbrev pub first : ℕ → ℕ → ℕ → ℕ → Bool
first p n q m = nat_lt p q || p == q && nat_lt n m

both_first : (p n q m r k : ℕ) → first p n q m ≡ true → first q m r k ≡ true → first p n r k ≡ true
both_first p n q m r k pq qr = grind arith

pub none_first : (p n q m r k : ℕ) → first p n q m ≡ false → first q m r k ≡ false → first p n r k ≡ false
none_first p n q m r k pq qr = grind arith

pub is_lesser : (a b : QueryRefusal) → comes_first b a ≡ true → lesser (Some a) (Some b) ≡ Some b
is_lesser a b is = rw is refl

pub is_no_lesser : (a b : QueryRefusal) → comes_first b a ≡ false → lesser (Some a) (Some b) ≡ Some a
is_no_lesser a b is = rw is refl

-- the three ways in which two of three refusals are compared
three : (a b c : QueryRefusal) (ba cb ca : Bool) → comes_first b a ≡ ba → comes_first c b ≡ cb → comes_first c a ≡ ca
    → (ba ≡ true → cb ≡ true → ca ≡ true) → (ba ≡ false → cb ≡ false → ca ≡ false)
    → lesser (lesser (Some a) (Some b)) (Some c) ≡ lesser (Some a) (lesser (Some b) (Some c))
three a b c true true true ba cb ca up down =
    ap (λ x. lesser x (Some c)) (is_lesser a b ba) ∙ is_lesser b c cb ∙ sym (ap (lesser (Some a)) (is_lesser b c cb) ∙ is_lesser a c ca)
three a b c true true false ba cb ca up down = absurd (false≢true (up refl refl))
three a b c true false last ba cb ca up down =
    ap (λ x. lesser x (Some c)) (is_lesser a b ba) ∙ is_no_lesser b c cb ∙ sym (ap (lesser (Some a)) (is_no_lesser b c cb) ∙ is_lesser a b ba)
three a b c false true last ba cb ca up down =
    ap (λ x. lesser x (Some c)) (is_no_lesser a b ba) ∙ sym (ap (lesser (Some a)) (is_lesser b c cb))
three a b c false false true ba cb ca up down = absurd (true≢false (down refl refl))
three a b c false false false ba cb ca up down =
    ap (λ x. lesser x (Some c)) (is_no_lesser a b ba) ∙ is_no_lesser a c ca ∙ sym (ap (lesser (Some a)) (is_no_lesser b c cb) ∙ is_no_lesser a b ba)

pub last_none : (a : Option QueryRefusal) → lesser a None ≡ a
last_none None = refl
last_none (Some a) = refl

pub lesser_assoc : (a b c : Option QueryRefusal) → lesser (lesser a b) c ≡ lesser a (lesser b c)
lesser_assoc None b c = refl
lesser_assoc (Some a) None c = refl
lesser_assoc (Some a) (Some b) None = last_none (lesser (Some a) (Some b))
lesser_assoc (Some a) (Some b) (Some c) =
    three a b c _ _ _ refl refl refl
    (λ ba cb. both_first (place_of c) (number_of c) (place_of b) (number_of b) (place_of a) (number_of a) cb ba)
    (λ ba cb. none_first (place_of c) (number_of c) (place_of b) (number_of b) (place_of a) (number_of a) cb ba)

pub least_append : (xs ys : List QueryRefusal) → least (xs ++ ys) ≡ lesser (least xs) (least ys)
least_append [] ys = refl
least_append (r ∷ rs) ys = ap (lesser (Some r)) (least_append rs ys) ∙ sym (lesser_assoc (Some r) (least rs) (least ys))
