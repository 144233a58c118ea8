-- The totals of lists, over any common denominator.
use Rattle.std.proofs.Common.{◌≡◌, ℕ, ◌+◌, ◌*◌, ◌/◌, ◌<◌, refl, sym, subst, ap, ◌∙◌, arith, List, [], ◌∷◌, ◌++◌, Bool, true, false, ◌||◌, length-append, Some, None, is_some}
use Prim.Native.Nat.{◌∣◌}
use Rattle.std.specs.Prelude.{sum_by, if◌then◌else◌}
use Rattle.std.specs.List.{All}
use Rattle.std.proofs.lemmas.List.Elements.{All-head, All-tail}
use Rattle.std.proofs.lemmas.List.Sums.{sum_by-cons, sum_by-append}
use Rattle.std.proofs.lemmas.List.Folds.{list_any-append}
use Rattle.std.proofs.Math.Nat.{mul-div_cancel', mul-div_cancel_left, div_self}
use Rattle.xfrac.specs.Divisors.{lcm}
use Rattle.xfrac.specs.Kinds.{is_not_a_number, is_positive_infinity, is_negative_infinity}
use Rattle.xfrac.specs.Sums.{Totals, totals, joined, denominator_of, part_above, part_below, above_over, below_over, multiple_of}
use Rattle.xfrac.specs.declared.value.XFrac.{XFrac}
use Rattle.xfrac.proofs.Multiples.{lcm-one, HasPositive, Divides, multiple_positive, positive_from_multiple, all_divide_multiple, multiple-append, dvd-lcm_left, dvd-lcm_right}

-- a quotient of a multiple of a multiple
quotient_split : (d m n : ℕ) → 0 < d → d ∣ m → m ∣ n → n / d ≡ m / d * (n / m)
quotient_split d m n p h k =
    let e : d * (m / d) ≡ m = mul-div_cancel' d h in
    let f : m * (n / m) ≡ n = mul-div_cancel' m k in
    let g : d * (m / d * (n / m)) ≡ n = regroup d (m / d) (n / m) m n e f in
    subst (λ x. x / d ≡ m / d * (n / m)) g (mul-div_cancel_left (m / d * (n / m)) p)
  where
    regroup : (d u v m n : ℕ) → d * u ≡ m → m * v ≡ n → d * (u * v) ≡ n
    regroup d u v m n e f =
        let h : d * (u * v) ≡ (d * u) * v = omega arith in h ∙ ap (λ z. z * v) e ∙ f

-- a sum over a multiple of a common denominator
sum_scaled : (p : XFrac → ℕ) (m n : ℕ) → m ∣ n → (xs : List XFrac) → All HasPositive xs → All (Divides m) xs → sum_by (λ x. p x * (n / denominator_of x)) xs ≡ sum_by (λ x. p x * (m / denominator_of x)) xs * (n / m)
sum_scaled p m n k [] h d = omega arith
sum_scaled p m n k (x ∷ xs) h d =
    let rest : sum_by (λ x. p x * (n / denominator_of x)) xs ≡ sum_by (λ x. p x * (m / denominator_of x)) xs * (n / m) = sum_scaled p m n k xs (All-tail HasPositive x xs h) (All-tail (Divides m) x xs d) in
    let here : n / denominator_of x ≡ m / denominator_of x * (n / m) = quotient_split (denominator_of x) m n (All-head HasPositive x xs h) (All-head (Divides m) x xs d) k in
    sum_by-cons (λ x. p x * (n / denominator_of x)) x xs
    ∙ step (p x) (n / denominator_of x) (m / denominator_of x) (n / m) _ _ here rest
    ∙ ap (λ z. z * (n / m)) (sym (sum_by-cons (λ x. p x * (m / denominator_of x)) x xs))
  where
    step : (a u v k s t : ℕ) → u ≡ v * k → s ≡ t * k → a * u + s ≡ (a * v + t) * k
    step a u v k s t e f =
        let g : a * (v * k) + t * k ≡ (a * v + t) * k = omega arith in
        ap (λ z. a * z + s) e ∙ ap (λ z. a * (v * k) + z) f ∙ g

sum_joined : (p : XFrac → ℕ) (xs ys : List XFrac) → All HasPositive xs → All HasPositive ys → (let m = lcm (multiple_of xs) (multiple_of ys) in sum_by (λ x. p x * (m / denominator_of x)) (xs ++ ys) ≡ sum_by (λ x. p x * (multiple_of xs / denominator_of x)) xs * (m / multiple_of xs) + sum_by (λ x. p x * (multiple_of ys / denominator_of x)) ys * (m / multiple_of ys))
sum_joined p xs ys h k =
    let m : ℕ = lcm (multiple_of xs) (multiple_of ys) in
    let l = sum_scaled p (multiple_of xs) m (dvd-lcm_left (multiple_of xs) (multiple_of ys) (multiple_positive ys k)) xs h (all_divide_multiple xs h) in
    let r = sum_scaled p (multiple_of ys) m (dvd-lcm_right (multiple_of xs) (multiple_of ys)) ys k (all_divide_multiple ys k) in
    sum_by-append (λ x. p x * (m / denominator_of x)) xs ys
    ∙ ap (λ z. z + sum_by (λ x. p x * (m / denominator_of x)) ys) l
    ∙ ap (λ z. sum_by (λ x. p x * (multiple_of xs / denominator_of x)) xs * (m / multiple_of xs) + z) r

pub same_totals : {m m' a a' b b' c c' : ℕ} {p p' n n' v v' : Bool} → m ≡ m' → a ≡ a' → b ≡ b' → p ≡ p' → n ≡ n' → v ≡ v' → c ≡ c' → ◌≡◌ {A = Totals} (record { multiple = m; above = a; below = b; has_positive_infinity = p; has_negative_infinity = n; has_nan = v; count = c }) (record { multiple = m'; above = a'; below = b'; has_positive_infinity = p'; has_negative_infinity = n'; has_nan = v'; count = c' })
same_totals e f g h i j k = cc

-- the totals of two lists together
pub totals-append : (xs ys : List XFrac) → All HasPositive xs → All HasPositive ys → totals (xs ++ ys) ≡ joined (totals xs) (totals ys)
unfolding totals
totals-append xs ys h k =
    let e : multiple_of (xs ++ ys) ≡ lcm (multiple_of xs) (multiple_of ys) = multiple-append xs ys h k in
    same_totals
    e
    (ap (λ m. sum_by (above_over m) (xs ++ ys)) e ∙ sum_joined part_above xs ys h k)
    (ap (λ m. sum_by (below_over m) (xs ++ ys)) e ∙ sum_joined part_below xs ys h k)
    (list_any-append is_positive_infinity xs ys)
    (list_any-append is_negative_infinity xs ys)
    (list_any-append is_not_a_number xs ys)
    (length-append xs ys)

or_false : (b : Bool) → (b || false) ≡ b
or_false true = refl
or_false false = refl

-- the totals of one number
pub totals-single : (x : XFrac) → HasPositive x → totals (x ∷ []) ≡ record { multiple = denominator_of x; above = part_above x; below = part_below x; has_positive_infinity = is_positive_infinity x; has_negative_infinity = is_negative_infinity x; has_nan = is_not_a_number x; count = 1 }
unfolding totals
totals-single x h =
    let e : lcm (denominator_of x) 1 ≡ denominator_of x = lcm-one (denominator_of x) in
    same_totals e (part (part_above x) _ _ h e) (part (part_below x) _ _ h e) (or_false _) (or_false _) (or_false _) refl
  where
    part : (p m d : ℕ) → 0 < d → m ≡ d → 0 + p * (m / d) ≡ p
    part p m d h e =
        let f : m / d ≡ 1 = ap (λ z. z / d) e ∙ div_self h in
        ap (λ z. 0 + p * z) f ∙ omega arith

-- what joining two lists' totals gives
pub joined_totals : (xs ys : List XFrac) (a b : Totals) → a ≡ totals xs → b ≡ totals ys → 0 < a.multiple → 0 < b.multiple → joined a b ≡ totals (xs ++ ys)
unfolding totals
joined_totals xs ys a b e f h k =
    let p : 0 < multiple_of xs = subst (λ t. 0 < t.multiple) e h in
    let q : 0 < multiple_of ys = subst (λ t. 0 < t.multiple) f k in
    ap (λ t. joined t b) e ∙ ap (λ t. joined (totals xs) t) f ∙ sym (totals-append xs ys (positive_from_multiple xs p) (positive_from_multiple ys q))

pub some_from_choice : {A : Type 0} (b : Bool) (x y : A) → Some x ≡ (if b then Some y else None) → (b ≡ true) × (x ≡ y)
some_from_choice true x y e = (refl, cc)
some_from_choice false x y e = absurd (cc)

pub none_from_choice : {A : Type 0} (b : Bool) (y : A) → None ≡ (if b then Some y else None) → b ≡ false
none_from_choice true y e = absurd (cc)
none_from_choice false y e = refl

pub is_some_choice : {A : Type 0} (b : Bool) (y : A) → is_some (if b then Some y else None) ≡ b
is_some_choice true y = refl
is_some_choice false y = refl
