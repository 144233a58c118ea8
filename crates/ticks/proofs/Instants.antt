-- The instants of a grid by their numbers.
use Rattle.std.proofs.Common.{◌≡◌, ℕ, suc, ◌+◌, ◌*◌, ◌/◌, ◌<◌, ◌≤◌, refl, sym, subst, ap, arith}
use Rattle.std.specs.Prelude.{ℤ, pos, negsuc, ◌+ℤ◌, ◌-ℤ◌, ◌*ℤ◌, ◌≤ℤ◌, ◌↔◌, unsigned_abs}
use Rattle.std.proofs.lemmas.Int.{ints}
use Rattle.std.proofs.lemmas.Nat.{le-div}
use Rattle.std.proofs.Math.Nat.{div-mul-le_self, mul-le-mul_right}
use Rattle.ticks.specs.Grids.{IsInRange, IsNumbered, IsOnGrid, step_count}

module _ (start end : ℤ) (n d : ℕ) (some : 0 < n) (span : end -ℤ start ≡ pos d) where
  count-is : step_count start end (pos n) ≡ d / n + 1
  count-is = ap (λ z. unsigned_abs z / n + 1) span

  numbered_by : (t k : ℤ) → start ≤ℤ t → t ≤ℤ end → t -ℤ start ≡ k *ℤ pos n → IsNumbered start end (pos n) t
  numbered_by t (pos j) from to e =
      let within : j * n ≤ d = omega (arith, ints, e, to, span) in
      let below : j ≤ d / n = le-div j d n some within in
      (j, (let b : j < d / n + 1 = omega arith in subst (λ m. j < m) (sym count-is) b), omega (arith, ints, e))
  numbered_by t (negsuc j) from to e = absurd (let f : (t -ℤ start) +ℤ pos (suc j * n) ≡ pos 0 = omega (arith, ints, e) in omega (arith, ints, f, from))

  pub numbered : (t : ℤ) → IsOnGrid start end (pos n) t → IsNumbered start end (pos n) t
  numbered t on = numbered_by t on.on_step.0 on.from_start on.to_end on.on_step.1

  pub on_grid : (t : ℤ) → IsNumbered start end (pos n) t → IsOnGrid start end (pos n) t
  on_grid t (k, below, e) =
      let few : k < d / n + 1 = subst (λ m. k < m) count-is below in
      let less : k * n ≤ d / n * n = mul-le-mul_right n (let l : k ≤ d / n = omega arith in l) in
      let all : d / n * n ≤ d = div-mul-le_self d n in
      record { from_start = omega (arith, ints, e); to_end = omega (arith, ints, e, span, less, all); on_step = (pos k, omega (arith, ints, e)) }

by_span : (start end s : ℤ) (n : ℕ) → s ≡ end -ℤ start → 0 < n → start ≤ℤ end → (t : ℤ) → IsOnGrid start end (pos n) t ↔ IsNumbered start end (pos n) t
by_span start end (pos d) n e some ordered t = (numbered start end n d some (sym e) t, on_grid start end n d some (sym e) t)
by_span start end (negsuc d) n e some ordered t = absurd (omega (arith, ints, e, ordered))

-- the instants of a grid are its start and whole steps after it, numbered from 0
pub instants-numbered : (start end step : ℤ) → IsInRange start end step → (t : ℤ) → IsOnGrid start end step t ↔ IsNumbered start end step t
instants-numbered start end (pos n) r t = by_span start end (end -ℤ start) n refl (omega (arith, ints, r.forward)) r.ordered t
instants-numbered start end (negsuc n) r t = absurd (omega (arith, ints, r.forward))
