-- Digits of a base, read from the left.
use Rattle.std.proofs.Common.{◌≡◌, ℕ, ◌+◌, ◌*◌, ◌<◌, ◌≤◌, refl, sym, subst, ap, ◌∙◌, arith, Bool, true, false, cond, List, [], ◌∷◌, ◌++◌, length, take, drop, get_or, take-append-drop, append-nil}
use Rattle.std.specs.Char.{digit_value}
use Rattle.std.specs.List.{filter}
use Rattle.std.specs.Str.Parse.{digits_value}
use Rattle.std.proofs.Math.Seq.{take-append_seam}
use Rattle.std.proofs.lemmas.Int.Digits.{digits_value_push}
use Rattle.std.proofs.lemmas.Str.Parse.{digits_value-take-le}
use Rattle.std.proofs.lemmas.List.Elements.{filter_more, filter-append}
use Rattle.frac_text.specs.declared.digits.Base.{Base}
use Rattle.frac_text.specs.declared.digits.Base.TheVariants.{Ten, Sixteen}
use Rattle.frac_text.specs.Digits.{is_digit, radix, number_in}

radix_positive : (base : Base) → 1 ≤ radix base
radix_positive Ten = omega arith
radix_positive Sixteen = omega arith

pub digit_more : (base : Base) (text : List ℕ) (i value digit next : ℕ) → i < length text → is_digit base (get_or text i 0) ≡ true → digit ≡ digit_value (get_or text i 0) → next ≡ value * radix base + digit
    → value ≡ number_in base (take i text) → next ≡ number_in base (take (i + 1) text)
digit_more base text i value digit next lt some worth is was =
    let more : filter (is_digit base) (take (i + 1) text) ≡ filter (is_digit base) (take i text) ++ (get_or text i 0 ∷ []) =
    filter_more (is_digit base) text i 0 lt ∙ ap (λ b. filter (is_digit base) (take i text) ++ cond b (get_or text i 0 ∷ []) []) some in
    is ∙ ap (λ d. value * radix base + d) worth ∙ ap (λ v. v * radix base + digit_value (get_or text i 0)) was
    ∙ sym (ap (digits_value (radix base)) more ∙ digits_value_push (radix base) (filter (is_digit base) (take i text)) (get_or text i 0))

pub digit_none : (base : Base) (text : List ℕ) (i value : ℕ) → i < length text → is_digit base (get_or text i 0) ≡ false
    → value ≡ number_in base (take i text) → value ≡ number_in base (take (i + 1) text)
digit_none base text i value lt other was =
    let more : filter (is_digit base) (take (i + 1) text) ≡ filter (is_digit base) (take i text) ++ [] =
    filter_more (is_digit base) text i 0 lt ∙ ap (λ b. filter (is_digit base) (take i text) ++ cond b (get_or text i 0 ∷ []) []) other in
    was ∙ sym (ap (digits_value (radix base)) (more ∙ append-nil (filter (is_digit base) (take i text))))

-- a front of the digits stands for no more than they all do
pub digits_front : (base : Base) (text : List ℕ) (i : ℕ) → number_in base (take i text) ≤ number_in base text
digits_front base text i =
    let xs : List ℕ = filter (is_digit base) (take i text) in
    let ys : List ℕ = filter (is_digit base) (drop i text) in
    let whole : filter (is_digit base) text ≡ xs ++ ys = ap (filter (is_digit base)) (sym (take-append-drop i text)) ∙ filter-append (is_digit base) (take i text) (drop i text) in
    let less = digits_value-take-le (radix base) (xs ++ ys) (length xs) (radix_positive base) in
    subst (λ z. digits_value (radix base) z ≤ number_in base text) (take-append_seam xs ys) (subst (λ z. digits_value (radix base) (take (length xs) (xs ++ ys)) ≤ digits_value (radix base) z) (sym whole) less)

pub not_true : (b : Bool) → (b ≡ true → ⊥) → b ≡ false
not_true true other = absurd (other refl)
not_true false other = refl
