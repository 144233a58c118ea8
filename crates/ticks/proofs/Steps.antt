-- The least of the numbers that are whole steps from a base.
use Rattle.std.proofs.Common.{◌≡◌, ℕ, zero, suc, ◌+◌, ◌*◌, ◌<◌, ◌≤◌, sym, ap, ◌∙◌, arith}
use Rattle.std.specs.Prelude.{◌/◌, ◌%◌, ℤ, pos, negsuc, ◌+ℤ◌, ◌-ℤ◌, ◌*ℤ◌, ◌<ℤ◌, ◌≤ℤ◌}
use Rattle.std.proofs.lemmas.Int.{ints}
use Rattle.std.proofs.lemmas.Nat.{div-add-mod'}
use Rattle.std.proofs.Math.Nat.{mod-lt}
use Rattle.std.specs.Int.{int_rem_euclid}
use Rattle.ticks.specs.Steps.{IsNeed}

abbrev quotient : ℤ → ℕ → ℤ
quotient (pos a) n = pos (a / n)
quotient (negsuc a) n = negsuc (a / n)

-- how a number falls into whole steps and a rest
quotient-rem : (z : ℤ) (n : ℕ) → 0 < n → z ≡ quotient z n *ℤ pos n +ℤ int_rem_euclid z (pos n)
quotient-rem (pos a) n h = ap pos (sym (div-add-mod' a n))
quotient-rem (negsuc a) n h =
    let e : a / n * n + a % n ≡ a = div-add-mod' a n in
    let b : a % n < n = mod-lt a h in
    omega (arith, ints, e, b)

one-more : (q : ℤ) (n : ℕ) → (k : ℤ) × (k *ℤ pos n ≡ q *ℤ pos n +ℤ pos n)
one-more (pos a) n = (pos (suc a), omega (arith, ints))
one-more (negsuc zero) n = (pos 0, omega (arith, ints))
one-more (negsuc (suc a)) n = (negsuc a, omega (arith, ints))

-- one number of steps is not above another, or at least a step above it
data Steps (a b n : ℕ) : Type 0 where
  not-above : b * n ≤ a * n → Steps a b n
  above : a * n + n ≤ b * n → Steps a b n

suc-steps : (a b n : ℕ) → Steps a b n → Steps (suc a) (suc b) n
suc-steps a b n (not-above h) = not-above (omega (arith, h))
suc-steps a b n (above h) = above (omega (arith, h))

steps : (a b n : ℕ) → Steps a b n
steps a zero n = not-above (omega arith)
steps zero (suc b) n = above (omega arith)
steps (suc a) (suc b) n = suc-steps a b n (steps a b n)

up-to : (base low : ℤ) (a b n r : ℕ) → Steps a b n → low ≡ base +ℤ pos (a * n + r) → (u : ℤ) → u ≡ base +ℤ pos (b * n) → low <ℤ u → (low +ℤ pos n) ≤ℤ (u +ℤ pos r)
up-to base low a b n r (not-above g) e u m h = absurd (omega (arith, ints, g, e, m, h))
up-to base low a b n r (above g) e u m h = omega (arith, ints, g, e, m, h)

below-up-to : (base low : ℤ) (a b n r : ℕ) → Steps b a n → low +ℤ pos (suc a * n) ≡ base +ℤ pos r → (u : ℤ) → u +ℤ pos (suc b * n) ≡ base → low <ℤ u
    → (low +ℤ pos n) ≤ℤ (u +ℤ pos r)
below-up-to base low a b n r (not-above g) e u m h = absurd (omega (arith, ints, g, e, m, h))
below-up-to base low a b n r (above g) e u m h = omega (arith, ints, g, e, m, h)

least-by : (base low q k : ℤ) (n r : ℕ) → low -ℤ base ≡ q *ℤ pos n +ℤ pos r → (u : ℤ) → u -ℤ base ≡ k *ℤ pos n → low <ℤ u
    → (low +ℤ pos n) ≤ℤ (u +ℤ pos r)
least-by base low (pos a) (pos b) n r e u m h = up-to base low a b n r (steps a b n) (omega (arith, ints, e)) u (omega (arith, ints, m)) h
least-by base low (pos a) (negsuc b) n r e u m h = absurd (omega (arith, ints, e, m, h))
least-by base low (negsuc a) (pos b) n r e u m h = omega (arith, ints, e, m, h)
least-by base low (negsuc a) (negsuc b) n r e u m h = below-up-to base low a b n r (steps b a n) (omega (arith, ints, e)) u (omega (arith, ints, m)) h

need_of : (base low : ℤ) (n : ℕ) (rem need : ℤ) → 0 < n → rem ≡ int_rem_euclid (low -ℤ base) (pos n) → pos 0 ≤ℤ rem → rem <ℤ pos n → need ≡ pos n -ℤ rem
    → IsNeed base (pos n) low need
need_of base low n (pos r) need h e a b f =
    let q = quotient (low -ℤ base) n in
    let d : low -ℤ base ≡ q *ℤ pos n +ℤ pos r = quotient-rem (low -ℤ base) n h ∙ ap (λ z. q *ℤ pos n +ℤ z) (sym e) in
    let k = one-more q n in
    record {
      on_step = (k.0, (let s : (low +ℤ need) -ℤ base ≡ q *ℤ pos n +ℤ pos n = omega (arith, ints, d, f) in s ∙ sym k.1));
      some = omega (arith, ints, b, f);
      short = omega (arith, ints, f);
      least = λ u m l. let g = least-by base low q m.0 n r d u m.1 l in omega (arith, ints, g, f);
    }
need_of base low n (negsuc r) need h e a b f = absurd (omega (arith, ints, a))

pub need_after : (base low step rem need : ℤ) → pos 0 <ℤ step → rem ≡ int_rem_euclid (low -ℤ base) step → pos 0 ≤ℤ rem → rem <ℤ step
    → need ≡ step -ℤ rem → IsNeed base step low need
need_after base low (pos n) rem need h e a b f = need_of base low n rem need (omega (arith, ints, h)) e a b f
need_after base low (negsuc n) rem need h e a b f = absurd (omega (arith, ints, h))
