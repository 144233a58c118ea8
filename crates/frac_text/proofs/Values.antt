-- Values of digits, by steps.
use Rattle.std.proofs.Common.{◌≡◌, ℕ, ◌+◌, ◌-◌, ◌*◌, ◌/◌, ◌^◌, ◌<◌, ◌≤◌, sym, subst, ap, ◌∙◌, arith, None, List, [], ◌∷◌, ◌++◌, length, take, drop, get_or, true, length-append, length-take, length-drop, take-append-drop}
use Rattle.std.specs.Prelude.{pos, Option}
use Rattle.std.specs.Char.{is_ascii_digit}
use Rattle.std.proofs.Math.Nat.{pow-suc, eq_of_mul-eq-mul_right, mul-le-mul_left, mul-lt-mul_of_pos_right, pow-le-pow_right, le-mul_of_pos_right}
use Rattle.std.proofs.lemmas.Nat.{pow-add}
use Rattle.xfrac.specs.Divisors.{gcd}
use Rattle.xfrac.specs.Fractions.{limit}
use Rattle.xfrac.specs.Forming.{formed}
use Rattle.frac_text.specs.declared.value.Rest.{Rest}
use Rattle.frac_text.specs.Digits.{digits_in, number}
use Rattle.frac_text.specs.Scales.{IsRest, IsScaled}
use Rattle.frac_text.proofs.Lowest.{scaled_same, beyond, formed_same, formed_above, formed_beyond}
use Rattle.frac_text.proofs.Numbers.{ten_positive, number-append, number-cons, digits_drop, digits_parted}
use Rattle.xfrac.specs.Gcds.{product_positive}

digit_step : (c n d s k : ℕ) → n * k ≡ s * d → (c * d + n) * (k * 10) ≡ (c * k + s) * (10 * d)
digit_step c n d s k e =
    let f : n * k * 10 ≡ s * d * 10 = ap (λ z. z * 10) e in
    omega arith

-- one more digit before a rest
pub fraction_step : (rest : Rest) (c : ℕ) (ds : List ℕ) (r : Option Rest) → is_ascii_digit c ≡ true → IsRest rest (number ds) (10 ^ length ds)
    → IsScaled r ((c - 48) * rest.d + rest.n) (10 * rest.d) → IsScaled r (number (c ∷ ds)) (10 ^ length (c ∷ ds))
fraction_step rest c ds r digit is next =
    let below = is.below in
    let long : 10 ^ length (c ∷ ds) ≡ 10 ^ length ds * 10 = pow-suc 10 (length ds) in
    let same : ((c - 48) * rest.d + rest.n) * 10 ^ length (c ∷ ds) ≡ number (c ∷ ds) * (10 * rest.d) =
    ap (λ z. ((c - 48) * rest.d + rest.n) * z) long ∙ digit_step (c - 48) rest.n rest.d (number ds) (10 ^ length ds) is.equal
    ∙ ap (λ z. z * (10 * rest.d)) (sym (number-cons c ds digit)) in
    scaled_same ((c - 48) * rest.d + rest.n) (10 * rest.d) (number (c ∷ ds)) (10 ^ length (c ∷ ds)) (omega (arith, below)) (ten_positive (length (c ∷ ds))) same r next

front_moves : (a x y c p q r : ℕ) → c ≡ a * q + y → r ≡ p * q → (a * q + y) * r ≡ c * p * q
front_moves a x y c p q r e f =
    let g : (a * q + y) * r ≡ c * r = ap (λ z. z * r) (sym e) in
    let h : c * r ≡ c * (p * q) = ap (λ z. c * z) f in
    g ∙ h ∙ omega arith

-- digits before those whose ratio has too great a denominator don't help
pub fraction_beyond : (xs ys : List ℕ) → limit < 10 ^ length ys / gcd (number ys) (10 ^ length ys) → limit < 10 ^ length (xs ++ ys) / gcd (number (xs ++ ys)) (10 ^ length (xs ++ ys))
fraction_beyond xs ys out =
    let long : 10 ^ length (xs ++ ys) ≡ 10 ^ length xs * 10 ^ length ys = ap (λ k. 10 ^ k) (length-append xs ys) ∙ pow-add 10 (length xs) (length ys) in
    beyond (number ys) (10 ^ length ys) (number (xs ++ ys)) (10 ^ length (xs ++ ys)) (number xs) (10 ^ length xs) (ten_positive (length ys)) (ten_positive (length (xs ++ ys)))
    (front_moves (number xs) 0 (number ys) (number (xs ++ ys)) (10 ^ length xs) (10 ^ length ys) (10 ^ length (xs ++ ys)) (number-append xs ys) long) out

-- ---- more zeros before a rest

zero_step : (n d m e k : ℕ) → n * (d * k) ≡ m * e → n * (d * (k * 10)) ≡ m * (10 * e)
zero_step n d m e k f =
    let g : n * (d * k) * 10 ≡ m * e * 10 = ap (λ z. z * 10) f in
    omega arith

pub lowered_step : (rest lower : Rest) (k : ℕ) (r : Option Rest) → 0 < rest.d → IsRest lower rest.n (rest.d * 10 ^ k) → IsScaled r (0 * lower.d + lower.n) (10 * lower.d)
    → IsScaled r rest.n (rest.d * 10 ^ (k + 1))
lowered_step rest lower k r h is next =
    let below = is.below in
    let long : 10 ^ (k + 1) ≡ 10 ^ k * 10 = pow-add 10 k 1 in
    let turn : (0 * lower.d + lower.n) * (rest.d * (10 ^ k * 10)) ≡ rest.n * (10 * lower.d) = omega (arith, zero_step lower.n rest.d rest.n lower.d (10 ^ k) is.equal) in
    let same : (0 * lower.d + lower.n) * (rest.d * 10 ^ (k + 1)) ≡ rest.n * (10 * lower.d) = ap (λ z. (0 * lower.d + lower.n) * (rest.d * z)) long ∙ turn in
    scaled_same (0 * lower.d + lower.n) (10 * lower.d) rest.n (rest.d * 10 ^ (k + 1)) (omega (arith, below)) (product_positive rest.d (10 ^ (k + 1)) h (ten_positive (k + 1))) same r next

pub lowered_beyond : (rest : Rest) (k j : ℕ) → 0 < rest.d → k ≤ j → limit < rest.d * 10 ^ k / gcd rest.n (rest.d * 10 ^ k) → limit < rest.d * 10 ^ j / gcd rest.n (rest.d * 10 ^ j)
lowered_beyond rest k j h le out =
    let e : (j - k) + k ≡ j = omega arith in
    let long : 10 ^ j ≡ 10 ^ (j - k) * 10 ^ k = ap (λ z. 10 ^ z) (sym e) ∙ pow-add 10 (j - k) k in
    beyond rest.n (rest.d * 10 ^ k) rest.n (rest.d * 10 ^ j) 0 (10 ^ (j - k)) (product_positive rest.d (10 ^ k) h (ten_positive k)) (product_positive rest.d (10 ^ j) h (ten_positive j))
    (ap (λ z. (0 * (rest.d * 10 ^ k) + rest.n) * (rest.d * z)) long ∙ omega arith) out

-- ---- the whole

-- a number's digits are parted so that those of the rest, with zeros before them, are as many as the places
pub record IsParted (all front back : List ℕ) (places : ℕ) : Type 0 where
  pub sum : number all ≡ number front * 10 ^ places + number back
  pub few : length back ≤ places

pub parted : (all : List ℕ) (front back : List ℕ) (places count : ℕ) → all ≡ front ++ back → length back + count ≡ length all → count ≡ length all - places → length front ≡ count → IsParted all front back places
parted all front back places count is long wholes short =
    record { sum = ap number is ∙ number-append front back ∙ by_front front (omega arith); few = omega arith }
  where
    by_front : (xs : List ℕ) → (length xs ≡ length all - places) → number xs * 10 ^ length back + number back ≡ number xs * 10 ^ places + number back
    by_front [] none = omega arith
    by_front (x ∷ xs) some =
        let same : length back ≡ places = omega arith in
        ap (λ k. number (x ∷ xs) * 10 ^ k + number back) same

pub whole_outside : (all front back : List ℕ) (places : ℕ) → IsParted all front back places → limit < number front → formed (pos (number all)) (10 ^ places) ≡ None
whole_outside all front back places is out =
    let more : limit * 10 ^ places < number front * 10 ^ places = mul-lt-mul_of_pos_right out (ten_positive places) in
    formed_above (number all) (10 ^ places) (ten_positive places) (omega (arith, is.sum, more))

pub rest_outside : (all front back : List ℕ) (places : ℕ) → IsParted all front back places → limit < 10 ^ length back / gcd (number back) (10 ^ length back) → formed (pos (number all)) (10 ^ places) ≡ None
rest_outside all front back places is out =
    let few = is.few in
    let e : (places - length back) + length back ≡ places = omega arith in
    let long : 10 ^ places ≡ 10 ^ (places - length back) * 10 ^ length back = ap (λ z. 10 ^ z) (sym e) ∙ pow-add 10 (places - length back) (length back) in
    formed_beyond (number all) (10 ^ places) (beyond (number back) (10 ^ length back) (number all) (10 ^ places) (number front * 10 ^ (places - length back)) (10 ^ (places - length back)) (ten_positive (length back)) (ten_positive places)
    (spread (number front) (10 ^ (places - length back)) (10 ^ length back) (number back) (number all) (10 ^ places) is.sum long) out)
  where
    spread : (f t b s c e : ℕ) → c ≡ f * e + s → e ≡ t * b → (f * t * b + s) * e ≡ c * t * b
    spread f t b s c e l m =
        let g : f * e ≡ f * (t * b) = ap (λ z. f * z) m in
        let h : f * t * b + s ≡ c = omega arith in
        ap (λ z. z * e) h ∙ ap (λ z. c * z) m ∙ omega arith

pub lower_outside : (all front back : List ℕ) (places t : ℕ) (rest : Rest) → IsParted all front back places → length back + t ≡ places → IsRest rest (number back) (10 ^ length back)
    → limit < rest.d * 10 ^ t / gcd rest.n (rest.d * 10 ^ t) → formed (pos (number all)) (10 ^ places) ≡ None
lower_outside all front back places t rest is zeros r out =
    let below = r.below in
    let long : 10 ^ places ≡ 10 ^ length back * 10 ^ t = ap (λ z. 10 ^ z) (sym zeros) ∙ pow-add 10 (length back) t in
    formed_beyond (number all) (10 ^ places) (beyond rest.n (rest.d * 10 ^ t) (number all) (10 ^ places) (number front) 1 (product_positive rest.d (10 ^ t) (omega (arith, below)) (ten_positive t)) (ten_positive places)
    (spread (number front) rest.n rest.d (10 ^ t) (10 ^ length back) (number back) (number all) (10 ^ places) is.sum r.equal long) out)
  where
    spread : (f n d t b s c e : ℕ) → c ≡ f * e + s → n * b ≡ s * d → e ≡ b * t → (f * (d * t) + n) * e ≡ c * 1 * (d * t)
    spread f n d t b s c e l r m =
        let g : n * e ≡ n * (b * t) = ap (λ z. n * z) m in
        let h : n * b * t ≡ s * d * t = ap (λ z. z * t) r in
        let k : c * (d * t) ≡ (f * e + s) * (d * t) = ap (λ z. z * (d * t)) l in
        omega arith

pub joined_value : (all front back : List ℕ) (places t : ℕ) (rest lower : Rest) → IsParted all front back places → length back + t ≡ places → IsRest rest (number back) (10 ^ length back)
    → IsRest lower rest.n (rest.d * 10 ^ t) → formed (pos (number front * lower.d + lower.n)) lower.d ≡ formed (pos (number all)) (10 ^ places)
joined_value all front back places t rest lower is zeros r l =
    let below = r.below in
    let under = l.below in
    let long : 10 ^ places ≡ 10 ^ length back * 10 ^ t = ap (λ z. 10 ^ z) (sym zeros) ∙ pow-add 10 (length back) t in
    sym (formed_same (number front * lower.d + lower.n) lower.d (number all) (10 ^ places) (omega (arith, under)) (ten_positive places)
    (spread (number front) rest.n rest.d lower.n lower.d (10 ^ t) (10 ^ length back) (number back) (number all) (10 ^ places) (omega (arith, below)) is.sum r.equal l.equal long))
  where
    spread : (f n d m g t b s c e : ℕ) → 0 < d → c ≡ f * e + s → n * b ≡ s * d → m * (d * t) ≡ n * g → e ≡ b * t → (f * g + m) * e ≡ c * g
    spread f n d m g t b s c e h l r k long =
        let u : m * (d * t) * b ≡ n * g * b = ap (λ z. z * b) k in
        let v : n * b * g ≡ s * d * g = ap (λ z. z * g) r in
        let w : m * e ≡ m * (b * t) = ap (λ z. m * z) long in
        let x : (m * (b * t)) * d ≡ (s * g) * d = omega arith in
        let y : m * (b * t) ≡ s * g = eq_of_mul-eq-mul_right d h (m * (b * t)) (s * g) x in
        let z : c * g ≡ (f * e + s) * g = ap (λ z. z * g) l in
        omega arith

pub value_up : (n up down k : ℕ) → down + k ≡ up → formed (pos (n * 10 ^ k)) 1 ≡ formed (pos (n * 10 ^ up)) (10 ^ down)
value_up n up down k e =
    let long : 10 ^ up ≡ 10 ^ down * 10 ^ k = ap (λ z. 10 ^ z) (sym e) ∙ pow-add 10 down k in
    sym (formed_same (n * 10 ^ k) 1 (n * 10 ^ up) (10 ^ down) (omega arith) (ten_positive down) (sym (ap (λ z. n * z * 1) long ∙ omega arith)))

pub value_down : (n up down k : ℕ) → up + k ≡ down → formed (pos n) (10 ^ k) ≡ formed (pos (n * 10 ^ up)) (10 ^ down)
value_down n up down k e =
    let long : 10 ^ down ≡ 10 ^ up * 10 ^ k = ap (λ z. 10 ^ z) (sym e) ∙ pow-add 10 up k in
    sym (formed_same n (10 ^ k) (n * 10 ^ up) (10 ^ down) (ten_positive k) (ten_positive down) (ap (λ z. n * z) long ∙ omega arith))

pub raised_step : (n more k : ℕ) → more ≡ n * 10 ^ k → more * 10 ≡ n * 10 ^ (k + 1)
raised_step n more k e =
    let long : 10 ^ (k + 1) ≡ 10 ^ k * 10 = pow-add 10 k 1 in
    ap (λ z. z * 10) e ∙ omega arith ∙ sym (ap (λ z. n * z) long)

pub raised_more : (n k j : ℕ) → k ≤ j → n * 10 ^ k ≤ n * 10 ^ j
raised_more n k j le = mul-le-mul_left n (pow-le-pow_right {n = 10} (omega arith) le)

pub whole_beyond : (n places : ℕ) → limit < n → formed (pos (n * 10 ^ places)) 1 ≡ None
whole_beyond n places out =
    let more : n ≤ n * 10 ^ places = le-mul_of_pos_right n (ten_positive places) in
    formed_above (n * 10 ^ places) 1 (omega arith) (omega (arith, more))

pub raised_beyond : (n : ℕ) → limit < n → formed (pos n) 1 ≡ None
raised_beyond n out = formed_above n 1 (omega arith) (omega arith)

-- one more digit of a text, from the right
pub fraction_more : (text : List ℕ) (place i digit : ℕ) (rest : Rest) (r : Option Rest) → i + 1 ≡ place → i < length text → is_ascii_digit (get_or text i 0) ≡ true → digit ≡ get_or text i 0 - 48
    → IsRest rest (number (digits_in (drop place text))) (10 ^ length (digits_in (drop place text))) → IsScaled r (digit * rest.d + rest.n) (10 * rest.d)
    → IsScaled r (number (digits_in (drop i text))) (10 ^ length (digits_in (drop i text)))
fraction_more text place i digit rest r here lt is worth was next =
    let was' : IsRest rest (number (digits_in (drop (i + 1) text))) (10 ^ length (digits_in (drop (i + 1) text))) =
    subst (λ k. IsRest rest (number (digits_in (drop k text))) (10 ^ length (digits_in (drop k text)))) (sym here) was in
    let next' : IsScaled r ((get_or text i 0 - 48) * rest.d + rest.n) (10 * rest.d) = subst (λ k. IsScaled r (k * rest.d + rest.n) (10 * rest.d)) worth next in
    subst (λ ds. IsScaled r (number ds) (10 ^ length ds)) (sym (digits_drop text i lt is)) (fraction_step rest (get_or text i 0) (digits_in (drop (i + 1) text)) r is was' next')

pub fraction_outside : (text : List ℕ) (i : ℕ) → limit < 10 ^ length (digits_in (drop i text)) / gcd (number (digits_in (drop i text))) (10 ^ length (digits_in (drop i text)))
    → limit < 10 ^ length (digits_in text) / gcd (number (digits_in text)) (10 ^ length (digits_in text))
fraction_outside text i out =
    subst (λ ds. limit < 10 ^ length ds / gcd (number ds) (10 ^ length ds)) (sym (digits_parted text i)) (fraction_beyond (digits_in (take i text)) (digits_in (drop i text)) out)

-- the digits of a text, parted after so many
pub parts_length : (all : List ℕ) (wholes : ℕ) → wholes ≤ length all → length (drop wholes all) + wholes ≡ length all
parts_length all wholes le = simp length-drop (omega arith)

pub text_parted : (all front back : List ℕ) (wholes places : ℕ) → front ≡ take wholes all → back ≡ drop wholes all → wholes ≡ length all - places → IsParted all front back places
text_parted all front back wholes places e f is =
    let some : wholes ≤ length all = omega arith in
    let short : length (take wholes all) ≡ wholes = simp length-take (omega arith) in
    parted all front back places wholes (sym (take-append-drop wholes all) ∙ ap (λ x. x ++ drop wholes all) (sym e) ∙ ap (λ y. front ++ y) (sym f))
    (ap (λ y. length y + wholes) f ∙ parts_length all wholes some) is (ap length e ∙ short)
