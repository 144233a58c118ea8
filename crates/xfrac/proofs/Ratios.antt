-- The order of two ratios by whole parts and rests.
use Rattle.std.proofs.Common.{◌≡◌, ℕ, ◌+◌, ◌*◌, ◌/◌, ◌%◌, ◌<◌, ◌≤◌, ◌↔◌, sym, subst, arith}
use Rattle.std.proofs.Math.Nat.{mul-lt-mul_of_pos_right, mul-le-mul_right}
use Rattle.std.proofs.lemmas.Nat.{div-add-mod', mod_below}

lower_whole_part : (p q b r d s : ℕ) → r < b → 0 < d → p < q → (p * b + r) * d < (q * d + s) * b
lower_whole_part p q b r d s rest positive less =
    let l : p * b + r < (p + 1) * b = omega arith in
    let m : (p * b + r) * d < (p + 1) * b * d = mul-lt-mul_of_pos_right l positive in
    let n : (p + 1) * (b * d) ≤ q * (b * d) = mul-le-mul_right (b * d) (omega arith) in
    omega arith

-- a smaller whole part makes a smaller ratio
pub less_by_whole_parts : (a b c d : ℕ) → 0 < b → 0 < d → a / b < c / d → a * d < c * b
less_by_whole_parts a b c d left right less =
    let h : (a / b * b + a % b) * d < (c / d * d + c % d) * b = lower_whole_part (a / b) (c / d) b (a % b) d (c % d) (mod_below a b left) right less in
    subst (λ x. x * d < c * b) (div-add-mod' a b) (subst (λ y. (a / b * b + a % b) * d < y * b) (div-add-mod' c d) h)

same_whole_part : (p b r d s : ℕ) → ((p * b + r) * d < (p * d + s) * b) ↔ (d * r < b * s)
same_whole_part p b r d s = (λ h. omega arith, λ h. omega arith)

-- where the whole parts are equal the reciprocals of the rests decide
pub less_by_rests : (a b c d : ℕ) → a / b ≡ c / d → (a * d < c * b) ↔ (d * (a % b) < b * (c % d))
less_by_rests a b c d same =
    let f : a / b * d + c % d ≡ c = subst (λ q. q * d + c % d ≡ c) (sym same) (div-add-mod' c d) in
    subst
    (λ x. (x * d < c * b) ↔ (d * (a % b) < b * (c % d)))
    (div-add-mod' a b)
    (subst
    (λ y. ((a / b * b + a % b) * d < y * b) ↔ (d * (a % b) < b * (c % d)))
    f
    (same_whole_part (a / b) b (a % b) d (c % d)))
