-- The least common multiple, of two numbers and of the denominators of a list.
use Rattle.std.proofs.Common.{◌≡◌, ℕ, ◌*◌, ◌/◌, ◌<◌, zero, suc, sym, subst, ap, ◌∙◌, arith, List, [], ◌∷◌, ◌++◌}
use Prim.Native.Nat.{◌∣◌}
use Rattle.std.specs.Int.{IsGcd}
use Rattle.std.specs.List.{All}
use Rattle.std.specs.List.Sorted.{IsPermutation}
use Rattle.std.proofs.lemmas.List.Elements.{All-nil, All-cons, All-head, All-tail, All-append, All-weaker}
use Rattle.std.proofs.lemmas.List.Sorted.{All-permutation, IsPermutation-sym}
use Rattle.std.proofs.Math.Nat.{zero-div, div-one, div-mul_cancel, dvd-mul_left, dvd-mul_right, mul-dvd-mul_left, dvd_trans, dvd_antisymm, one-dvd, eq_of_mul-eq-mul_right, mul-div_cancel'}
use Rattle.std.proofs.lemmas.Nat.Gcd.{IsGcd-swap, dvd_refl}
use Rattle.xfrac.specs.Divisors.{gcd, lcm}
use Rattle.xfrac.specs.Sums.{denominator_of, multiple_of}
use Rattle.xfrac.specs.declared.value.XFrac.{XFrac}
use Rattle.xfrac.specs.Reduced.{IsGcd-one}
use Rattle.xfrac.specs.Gcds.{product_positive, gcd-is, gcd_positive, gcd-unique, reduced_apart, positive_quotient, dvd_other_factor}

-- a * b / g with either factor divided
pub lcm-is : (a b : ℕ) → 0 < b → lcm a b ≡ a * (b / gcd a b)
unfolding lcm
lcm-is a b h =
    let g : ℕ = gcd a b in
    let l : a / g * g ≡ a = div-mul_cancel g (gcd-is a b h).0 in
    let r : b / g * g ≡ b = div-mul_cancel g (gcd-is a b h).1 in
    turned a b g (a / g) (b / g) l r
  where
    turned : (a b g x y : ℕ) → x * g ≡ a → y * g ≡ b → x * b ≡ a * y
    turned a b g x y l r =
        let m : x * (y * g) ≡ (x * g) * y = omega arith in
        ap (λ z. x * z) (sym r) ∙ m ∙ ap (λ z. z * y) l

pub lcm-one : (a : ℕ) → lcm a 1 ≡ a
unfolding lcm
lcm-one a =
    let e : gcd a 1 ≡ 1 = gcd-unique a 1 1 (omega arith) (IsGcd-one a) in
    ap (λ g. a / g * 1) e ∙ ap (λ z. z * 1) (div-one a) ∙ omega arith

pub one-lcm : (b : ℕ) → 0 < b → lcm 1 b ≡ b
one-lcm b h =
    let e : gcd 1 b ≡ 1 = gcd-unique 1 b 1 h (IsGcd-swap b 1 1 (IsGcd-one b)) in
    lcm-is 1 b h ∙ ap (λ g. 1 * (b / g)) e ∙ ap (λ z. 1 * z) (div-one b) ∙ omega arith

pub lcm-same : (a : ℕ) → 0 < a → lcm a a ≡ a
unfolding lcm
lcm-same a h =
    let e : gcd a a ≡ a = gcd-unique a a a h (dvd_refl a, dvd_refl a, λ d left right. left) in
    ap (λ g. a / g * a) e ∙ div-mul_cancel a (dvd_refl a)

pub dvd-lcm_left : (a b : ℕ) → 0 < b → a ∣ lcm a b
dvd-lcm_left a b h = subst (λ z. a ∣ z) (sym (lcm-is a b h)) (dvd-mul_right a (b / gcd a b))

pub dvd-lcm_right : (a b : ℕ) → b ∣ lcm a b
unfolding lcm
dvd-lcm_right a b = dvd-mul_left b (a / gcd a b)

pub lcm-dvd : (a b n : ℕ) → 0 < a → 0 < b → a ∣ n → b ∣ n → lcm a b ∣ n
lcm-dvd a b n pa pb ha hb =
    let g : ℕ = gcd a b in
    let is : IsGcd a b g = gcd-is a b pb in
    let pg : 0 < g = gcd_positive a b pb in
    let l : a / g * g ≡ a = div-mul_cancel g is.0 in
    let r : b / g * g ≡ b = div-mul_cancel g is.1 in
    let x : a * (n / a) ≡ n = mul-div_cancel' a ha in
    let y : b * (n / b) ≡ n = mul-div_cancel' b hb in
    let e : a / g * (n / a) ≡ b / g * (n / b) = eq_of_mul-eq-mul_right g pg _ _ (cancelled a b g n (a / g) (b / g) (n / a) (n / b) l r x y) in
    let d : b / g ∣ a / g * (n / a) = subst (λ z. b / g ∣ z) (sym e) (dvd-mul_right (b / g) (n / b)) in
    let k : b / g ∣ n / a = dvd_other_factor (b / g) (a / g) (n / a) (IsGcd-swap (a / g) (b / g) 1 (reduced_apart a b g pg is)) d in
    subst (λ z. z ∣ n) (sym (lcm-is a b pb)) (subst (λ z. a * (b / g) ∣ z) x (mul-dvd-mul_left (b / g) a k))
  where
    cancelled : (a b g n u v x y : ℕ) → u * g ≡ a → v * g ≡ b → a * x ≡ n → b * y ≡ n → u * x * g ≡ v * y * g
    cancelled a b g n u v x y l r p q =
        let f : u * g * x ≡ v * g * y = ap (λ z. z * x) l ∙ p ∙ sym q ∙ ap (λ z. z * y) (sym r) in
        omega arith

pub lcm_positive : (a b : ℕ) → 0 < a → 0 < b → 0 < lcm a b
unfolding lcm
lcm_positive a b pa pb = product_positive (a / gcd a b) b (positive_quotient a (gcd a b) (gcd-is a b pb).0 pa) pb

-- a least common multiple above 0 is of numbers above 0
pub positive_from_lcm : (a b : ℕ) → 0 < lcm a b → (0 < a) × (0 < b)
unfolding lcm
positive_from_lcm zero b h =
    let e : 0 / gcd 0 b * b ≡ 0 * b = ap (λ z. z * b) (zero-div (gcd 0 b)) in absurd (omega (arith, e))
positive_from_lcm (suc a) zero h = absurd (omega arith)
positive_from_lcm (suc a) (suc b) h = (omega arith, omega arith)

abbrev pub HasPositive : XFrac → Type 0
HasPositive x = 0 < denominator_of x

abbrev pub Divides : ℕ → XFrac → Type 0
Divides n x = denominator_of x ∣ n

pub multiple_positive : (xs : List XFrac) → All HasPositive xs → 0 < multiple_of xs
multiple_positive [] h = omega arith
multiple_positive (x ∷ xs) h =
    lcm_positive (denominator_of x) (multiple_of xs) (All-head HasPositive x xs h) (multiple_positive xs (All-tail HasPositive x xs h))

pub positive_from_multiple : (xs : List XFrac) → 0 < multiple_of xs → All HasPositive xs
positive_from_multiple [] h = All-nil HasPositive
positive_from_multiple (x ∷ xs) h =
    let both : (0 < denominator_of x) × (0 < multiple_of xs) = positive_from_lcm (denominator_of x) (multiple_of xs) h in
    All-cons HasPositive x xs both.0 (positive_from_multiple xs both.1)

Divides-along : (m n : ℕ) → m ∣ n → (xs : List XFrac) → All (Divides m) xs → All (Divides n) xs
Divides-along m n h xs k = All-weaker (Divides m) (Divides n) (λ x d. dvd_trans (denominator_of x) d h) xs k

-- each denominator divides the common multiple
pub all_divide_multiple : (xs : List XFrac) → All HasPositive xs → All (Divides (multiple_of xs)) xs
all_divide_multiple [] h = All-nil (Divides 1)
all_divide_multiple (x ∷ xs) h =
    let rest : All HasPositive xs = All-tail HasPositive x xs h in
    All-cons
    (Divides (multiple_of (x ∷ xs)))
    x
    xs
    (dvd-lcm_left (denominator_of x) (multiple_of xs) (multiple_positive xs rest))
    (Divides-along (multiple_of xs) (multiple_of (x ∷ xs)) (dvd-lcm_right (denominator_of x) (multiple_of xs)) xs (all_divide_multiple xs rest))

-- it divides what they all divide
pub multiple-dvd : (xs : List XFrac) (n : ℕ) → All HasPositive xs → All (Divides n) xs → multiple_of xs ∣ n
multiple-dvd [] n h k = one-dvd n
multiple-dvd (x ∷ xs) n h k =
    let rest : All HasPositive xs = All-tail HasPositive x xs h in
    lcm-dvd (denominator_of x) (multiple_of xs) n (All-head HasPositive x xs h) (multiple_positive xs rest) (All-head (Divides n) x xs k) (multiple-dvd xs n rest (All-tail (Divides n) x xs k))

pub multiple-append : (xs ys : List XFrac) → All HasPositive xs → All HasPositive ys → multiple_of (xs ++ ys) ≡ lcm (multiple_of xs) (multiple_of ys)
multiple-append xs ys h k =
    let m : ℕ = lcm (multiple_of xs) (multiple_of ys) in
    let both : All HasPositive (xs ++ ys) = All-append HasPositive xs ys h k in
    let up : multiple_of (xs ++ ys) ∣ m =
    multiple-dvd (xs ++ ys) m both
    (All-append (Divides m) xs ys
    (Divides-along (multiple_of xs) m (dvd-lcm_left (multiple_of xs) (multiple_of ys) (multiple_positive ys k)) xs (all_divide_multiple xs h))
    (Divides-along (multiple_of ys) m (dvd-lcm_right (multiple_of xs) (multiple_of ys)) ys (all_divide_multiple ys k))) in
    let all : All (Divides (multiple_of (xs ++ ys))) (xs ++ ys) = all_divide_multiple (xs ++ ys) both in
    let down : m ∣ multiple_of (xs ++ ys) =
    lcm-dvd (multiple_of xs) (multiple_of ys) (multiple_of (xs ++ ys)) (multiple_positive xs h) (multiple_positive ys k)
    (multiple-dvd xs (multiple_of (xs ++ ys)) h (All-front (Divides (multiple_of (xs ++ ys))) xs ys all))
    (multiple-dvd ys (multiple_of (xs ++ ys)) k (All-back (Divides (multiple_of (xs ++ ys))) xs ys all)) in
    dvd_antisymm up down
  where
    All-front : (P : XFrac → Type 0) (xs ys : List XFrac) → All P (xs ++ ys) → All P xs
    All-front P [] ys h = All-nil P
    All-front P (x ∷ xs) ys h = All-cons P x xs (All-head P x (xs ++ ys) h) (All-front P xs ys (All-tail P x (xs ++ ys) h))

    All-back : (P : XFrac → Type 0) (xs ys : List XFrac) → All P (xs ++ ys) → All P ys
    All-back P [] ys h = h
    All-back P (x ∷ xs) ys h = All-back P xs ys (All-tail P x (xs ++ ys) h)

pub multiple-permutation : (xs ys : List XFrac) → All HasPositive xs → IsPermutation xs ys → multiple_of ys ≡ multiple_of xs
multiple-permutation xs ys h p =
    let k : All HasPositive ys = All-permutation HasPositive xs ys p h in
    dvd_antisymm
    (multiple-dvd ys (multiple_of xs) k (All-permutation (Divides (multiple_of xs)) xs ys p (all_divide_multiple xs h)))
    (multiple-dvd xs (multiple_of ys) h (All-permutation (Divides (multiple_of ys)) ys xs (IsPermutation-sym xs ys p) (all_divide_multiple ys k)))

-- the cases in which no divisor is sought
pub lcm_cases : (a b : ℕ) → 0 < a → 0 < b → (a ≡ b → lcm a b ≡ a) × (b ≡ 1 → lcm a b ≡ a) × (a ≡ 1 → lcm a b ≡ b)
lcm_cases a b h k = (
  λ e. subst (λ z. lcm a z ≡ a) e (lcm-same a h),
  λ e. subst (λ z. lcm a z ≡ a) (sym e) (lcm-one a),
  λ e. subst (λ z. lcm z b ≡ b) (sym e) (one-lcm b k),
)
