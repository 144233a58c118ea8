-- The numbers of digits, from either end.
use Rattle.std.proofs.Common.{◌≡◌, ℕ, refl, ◌+◌, ◌-◌, ◌*◌, ◌^◌, ◌<◌, ◌≤◌, sym, ap, ◌∙◌, arith, false, true, cond, List, [], ◌∷◌, ◌++◌, length, take, drop, get_or, add-one, take-append-drop, drop-cons}
use Rattle.std.specs.Char.{digit_value, is_ascii_digit}
use Rattle.std.specs.Str.Parse.{digits_value_after}
use Rattle.std.proofs.Math.Nat.{one-le-pow, pow-suc}
use Rattle.std.proofs.lemmas.Bool.{cond-false, cond-true, le-ltb, lt-ltb}
use Rattle.std.proofs.lemmas.Bool.Decides.{nat_tests}
use Rattle.std.proofs.lemmas.List.Elements.{filter-append}
use Rattle.frac_text.specs.Digits.{digits_in, number}

pub ten_positive : (k : ℕ) → 0 < 10 ^ k
ten_positive k = one-le-pow k 10 (omega arith)

pub digit_range : (c : ℕ) → is_ascii_digit c ≡ true → (48 ≤ c) × (c ≤ 57)
digit_range c h = grind (arith, nat_tests)

pub digit_worth : (c : ℕ) → is_ascii_digit c ≡ true → digit_value c ≡ c - 48
digit_worth c h =
    let range = digit_range c h in
    let low : 48 ≤ c = range.0 in
    let high : c ≤ 57 = range.1 in
    cond-false _ _ _ (le-ltb c 48 low) ∙ cond-true _ _ _ (lt-ltb c 58 (omega arith))

-- the digits before others count by a power of ten
value_after : (n : ℕ) (ds : List ℕ) → digits_value_after 10 n ds ≡ n * 10 ^ length ds + number ds
value_after n [] = omega arith
value_after n (c ∷ cs) =
    let left : digits_value_after 10 (n * 10 + digit_value c) cs ≡ (n * 10 + digit_value c) * 10 ^ length cs + number cs = value_after (n * 10 + digit_value c) cs in
    let right : digits_value_after 10 (0 * 10 + digit_value c) cs ≡ (0 * 10 + digit_value c) * 10 ^ length cs + number cs = value_after (0 * 10 + digit_value c) cs in
    let long : n * 10 ^ length (c ∷ cs) ≡ n * (10 ^ length cs * 10) = ap (λ z. n * z) (pow-suc 10 (length cs)) in
    omega arith

value-append : (n : ℕ) (xs ys : List ℕ) → digits_value_after 10 n (xs ++ ys) ≡ digits_value_after 10 (digits_value_after 10 n xs) ys
value-append n [] ys = refl
value-append n (x ∷ xs) ys = value-append (n * 10 + digit_value x) xs ys

pub number-append : (xs ys : List ℕ) → number (xs ++ ys) ≡ number xs * 10 ^ length ys + number ys
number-append xs ys = value-append 0 xs ys ∙ value_after (number xs) ys

pub number-cons : (c : ℕ) (ds : List ℕ) → is_ascii_digit c ≡ true → number (c ∷ ds) ≡ (c - 48) * 10 ^ length ds + number ds
number-cons c ds digit =
    let worth : 0 * 10 + digit_value c ≡ c - 48 = omega (arith, digit_worth c digit) in
    value_after (0 * 10 + digit_value c) ds ∙ ap (λ z. z * 10 ^ length ds + number ds) worth

pub number_push : (xs : List ℕ) (c : ℕ) → is_ascii_digit c ≡ true → number (xs ++ (c ∷ [])) ≡ number xs * 10 + (c - 48)
number_push xs c digit = number-append xs (c ∷ []) ∙ (let one = number-cons c [] digit in omega arith)

pub digits_parted : (text : List ℕ) (i : ℕ) → digits_in text ≡ digits_in (take i text) ++ digits_in (drop i text)
digits_parted text i = ap digits_in (sym (take-append-drop i text)) ∙ filter-append is_ascii_digit (take i text) (drop i text)

-- one more digit from the right
pub digits_drop : (text : List ℕ) (i : ℕ) → i < length text → is_ascii_digit (get_or text i 0) ≡ true → digits_in (drop i text) ≡ get_or text i 0 ∷ digits_in (drop (i + 1) text)
digits_drop text i lt digit =
    let e : drop i text ≡ get_or text i 0 ∷ drop (i + 1) text = rw add-one (drop-cons text i 0 lt) in
    ap digits_in e ∙ ap (λ b. cond b (get_or text i 0 ∷ digits_in (drop (i + 1) text)) (digits_in (drop (i + 1) text))) digit

pub digits_drop_other : (text : List ℕ) (i : ℕ) → i < length text → is_ascii_digit (get_or text i 0) ≡ false → digits_in (drop i text) ≡ digits_in (drop (i + 1) text)
digits_drop_other text i lt other =
    let e : drop i text ≡ get_or text i 0 ∷ drop (i + 1) text = rw add-one (drop-cons text i 0 lt) in
    ap digits_in e ∙ ap (λ b. cond b (get_or text i 0 ∷ digits_in (drop (i + 1) text)) (digits_in (drop (i + 1) text))) other
