-- Long division, digit by digit.
use Rattle.std.proofs.Common.{◌≡◌, ℕ, zero, suc, ◌+◌, ◌-◌, ◌*◌, ◌/◌, ◌%◌, ◌^◌, ◌<◌, refl, sym, ap, ◌∙◌, arith, List, [], ◌∷◌, ◌++◌, append_assoc, append-nil, eq-eqb, ◌⊎◌, inl, inr}
use Rattle.std.proofs.lemmas.Nat.{pow-add, mul-mod_first}
use Rattle.std.proofs.lemmas.Bool.{cond-true, cond-false, ne_eqb}
use Rattle.frac_text.specs.Spellings.{places}

pub places_none : (k r d : ℕ) → r ≡ 0 → places k r d ≡ []
unfolding places
places_none zero r d none = refl
places_none (suc k) r d none = cond-true _ _ _ (eq-eqb r 0 none)

pub places_zero : (k r d : ℕ) → k ≡ 0 → places k r d ≡ []
unfolding places
places_zero zero r d none = refl
places_zero (suc k) r d none = absurd (omega arith)

pub places_more : (k j r d : ℕ) → k ≡ suc j → (r ≡ 0 → ⊥) → places k r d ≡ (48 + r * 10 / d) ∷ places j (r * 10 % d) d
unfolding places
places_more zero j r d is some = absurd (omega arith)
places_more (suc k) j r d is some =
    let same : k ≡ j = omega arith in
    cond-false _ _ _ (ne_eqb r 0 some) ∙ ap (λ x. (48 + r * 10 / d) ∷ places x (r * 10 % d) d) same

-- one more digit of the text
pub places_step : (text all : List ℕ) (k r d byte : ℕ) → k < 100 → (r ≡ 0 → ⊥) → byte ≡ 48 + r * 10 / d → text ++ places (100 - k) r d ≡ all
    → (text ++ (byte ∷ [])) ++ places (100 - (k + 1)) (r * 10 % d) d ≡ all
places_step text all k r d byte small some is was =
    let left : 100 - k ≡ suc (100 - (k + 1)) = omega arith in
    append_assoc text (byte ∷ []) (places (100 - (k + 1)) (r * 10 % d) d) ∙ ap (λ b. text ++ (b ∷ places (100 - (k + 1)) (r * 10 % d) d)) is
    ∙ ap (λ x. text ++ x) (sym (places_more (100 - k) (100 - (k + 1)) r d left some)) ∙ was

pub ends_step : (r d k left : ℕ) → left ≡ r * 10 ^ k % d → left * 10 % d ≡ r * 10 ^ (k + 1) % d
ends_step r d k left is =
    let long : r * 10 ^ (k + 1) ≡ r * 10 ^ k * 10 = ap (λ z. r * z) (pow-add 10 k 1) ∙ omega arith in
    ap (λ z. z * 10 % d) is ∙ mul-mod_first (r * 10 ^ k) 10 d ∙ sym (ap (λ z. z % d) long)

pub ends_at : (r d k left : ℕ) → k ≡ 100 → left ≡ r * 10 ^ k % d → left ≡ r * 10 ^ 100 % d
ends_at r d k left e is = is ∙ ap (λ j. r * 10 ^ j % d) e

pub places_done : (text all : List ℕ) (k r d : ℕ) → (r ≡ 0) ⊎ (k ≡ 100) → text ++ places (100 - k) r d ≡ all → text ≡ all
places_done text all k r d (inl none) was = sym (append-nil text) ∙ ap (λ x. text ++ x) (sym (places_none (100 - k) r d none)) ∙ was
places_done text all k r d (inr full) was = sym (append-nil text) ∙ ap (λ x. text ++ x) (sym (places_zero (100 - k) r d (omega arith))) ∙ was
