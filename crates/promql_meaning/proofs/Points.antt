-- The points of a subquery are the multiples of its step in its range.
use Rattle.std.proofs.Common.{◌≡◌, ◌∙◌, ℕ, zero, suc, ◌+◌, ◌-◌, ◌*◌, ◌/◌, ◌<◌, ◌≤◌, true, false, [], ◌∷◌, length, refl, sym, ap, subst, arith, add-one, inl, inr}
use Rattle.std.specs.Prelude.{◌%◌, Bool, ℤ, pos, negsuc, ◌+ℤ◌, ◌-ℤ◌, ◌*ℤ◌, ◌<ℤ◌, ◌≤ℤ◌, int_lt, unsigned_abs, if◌then◌else◌}
use Rattle.std.specs.Int.{int_rem_euclid}
use Rattle.std.specs.List.{AllByRecursion, Contains}
use Rattle.std.proofs.lemmas.Bool.{cases_lt}
use Rattle.std.proofs.lemmas.Int.{ints}
use Rattle.std.proofs.lemmas.List.Elements.{All-contains, All-from_recursion}
use Rattle.std.proofs.lemmas.Nat.{div-add-mod', le-div}
use Rattle.std.proofs.Math.Nat.{div-mul-le_self, mod-lt, mul-le-mul_right}
use Rattle.ticks.specs.Edges.{IsFrom, before, from-later, later-from}
use Rattle.ticks.specs.Steps.{IsMultiple}
use Rattle.promql_meaning.specs.Laws.{IsMultipleIn, MultiplesAreAll}
use Rattle.promql_meaning.specs.Subqueries.{first_multiple, instants, instants_up_to, multiple_after, multiples}

-- ---- multiples

next_multiple : (k : ℤ) (s : ℕ) → IsMultiple (pos s) ((k *ℤ pos s) +ℤ pos s)
next_multiple (pos j) s = (pos (suc j), (let e : pos (j * s) +ℤ pos s ≡ pos (suc j * s) = omega (arith, ints) in e))
next_multiple (negsuc zero) s = (pos 0, omega (arith, ints))
next_multiple (negsuc (suc j)) s = (negsuc j, omega (arith, ints))

pub after_is_multiple : (edge : ℤ) (s : ℕ) → 0 < s → IsMultiple (pos s) (multiple_after (pos s) edge)
after_is_multiple (pos a) s some =
    let parts : a / s * s + a % s ≡ a = div-add-mod' a s in
    let less : a % s < s = mod-lt a some in
    (pos (suc (a / s)), omega (arith, ints, parts, less))
after_is_multiple (negsuc a) s some =
    let parts : a / s * s + a % s ≡ a = div-add-mod' a s in
    let less : a % s < s = mod-lt a some in
    by (a / s) parts less
  where
    by : (q : ℕ) → q * s + a % s ≡ a → a % s < s → IsMultiple (pos s) (multiple_after (pos s) (negsuc a))
    by zero parts less = (pos 0, omega (arith, ints, parts, less))
    by (suc q) parts less = (negsuc q, omega (arith, ints, parts, less))

pub rem_in : (z : ℤ) (s : ℕ) → 0 < s → (pos 0 ≤ℤ int_rem_euclid z (pos s)) × (int_rem_euclid z (pos s) <ℤ pos s)
rem_in (pos a) s some = let b : a % s < s = mod-lt a some in (omega (arith, ints), omega (arith, ints, b))
rem_in (negsuc a) s some = let b : a % s < s = mod-lt a some in (omega (arith, ints, b), omega (arith, ints, b))

-- the first multiple of a range is behind its edge, or on it where it is closed
pub first_from : (closed : Bool) (edge : ℤ) (s : ℕ) → 0 < s → IsFrom closed edge (first_multiple closed (pos s) edge)
first_from closed edge s some =
    let r = rem_in (before closed edge) s some in
    let r1 : int_rem_euclid (before closed edge) (pos s) <ℤ pos s = r.1 in
    later-from closed edge (first_multiple closed (pos s) edge) (omega (arith, ints, r1))

-- later times are behind it too
from-on : (closed : Bool) (edge t u : ℤ) → IsFrom closed edge t → t ≤ℤ u → IsFrom closed edge u
from-on closed edge t u is le = let h = from-later closed edge t is in later-from closed edge u (omega (arith, ints, h, le))

-- ---- what instants are there

there : (first : ℤ) (s n k : ℕ) → k < n → Contains (instants first (pos s) n) (first +ℤ pos (k * s))
there first s zero k less = absurd (omega (arith, less))
there first s (suc n) zero less = subst (Contains (first ∷ instants (first +ℤ pos s) (pos s) n)) (let e : first ≡ first +ℤ pos (0 * s) = omega (arith, ints) in e) (0, omega arith, refl)
there first s (suc n) (suc k) less =
    let later = there (first +ℤ pos s) s n k (omega (arith, less)) in
    let e : (first +ℤ pos s) +ℤ pos (k * s) ≡ first +ℤ pos (suc k * s) = omega (arith, ints) in
    subst (Contains (first ∷ instants (first +ℤ pos s) (pos s) n)) e (suc later.0, (let l : later.0 < length (instants (first +ℤ pos s) (pos s) n) = later.1 in omega (arith, l)), later.2)

module _ (closed : Bool) (edge m : ℤ) (s : ℕ) where
  all_in : (first : ℤ) (n : ℕ) → IsFrom closed edge first → (first +ℤ pos (n * s)) ≤ℤ m → IsMultiple (pos s) first → AllByRecursion (IsMultipleIn closed edge m (pos s)) (instants first (pos s) (suc n))
  all_in first zero behind last is = (record { from_edge = behind; up_to = omega (arith, ints, last); multiple = is }, tt)
  all_in first (suc n) behind last (k, is) = (
    record { from_edge = behind; up_to = omega (arith, ints, last); multiple = (k, is) },
    all_in (first +ℤ pos s) n (from-on closed edge first (first +ℤ pos s) behind (omega (arith, ints))) (omega (arith, ints, last)) (subst (λ z. IsMultiple (pos s) (z +ℤ pos s)) (sym is) (next_multiple k s)),
  )

  pub all_up_to : (first : ℤ) → 0 < s → IsFrom closed edge first → IsMultiple (pos s) first → AllByRecursion (IsMultipleIn closed edge m (pos s)) (instants_up_to first m (pos s))
  all_up_to first some behind is =
      elim (int_lt m first) as (λ b. int_lt m first ≡ b → AllByRecursion (IsMultipleIn closed edge m (pos s)) (if b then [] else instants first (pos s) (unsigned_abs (m -ℤ first) / s + 1))) [
        | true ↦ λ h. tt
        | false ↦ λ h.
            let span : pos (unsigned_abs (m -ℤ first)) ≡ m -ℤ first = omega (arith, ints, h) in
            let within : unsigned_abs (m -ℤ first) / s * s ≤ unsigned_abs (m -ℤ first) = div-mul-le_self (unsigned_abs (m -ℤ first)) s in
            subst (λ c. AllByRecursion (IsMultipleIn closed edge m (pos s)) (instants first (pos s) c)) (sym (add-one (unsigned_abs (m -ℤ first) / s))) (all_in first (unsigned_abs (m -ℤ first) / s) behind (omega (arith, ints, within, span)) is)
      ] refl

-- ---- each multiple is there

-- of two multiples the one that is more than a step below the other's next one is whole steps behind it
ahead : (s : ℕ) (j k u first : ℤ) → u ≡ j *ℤ pos s → first ≡ k *ℤ pos s → (first -ℤ pos s) <ℤ u → (i : ℕ) × (u ≡ first +ℤ pos (i * s))
ahead s (pos j) (pos k) u first e f less =
    elim (cases_lt j k) [
      | inl below ↦ let more : suc j * s ≤ k * s = mul-le-mul_right s (let l : suc j ≤ k = omega (arith, below) in l) in absurd (omega (arith, ints, e, f, less, more))
      | inr above ↦
          let i : ℕ = j - k in
          let is : j ≡ k + i = omega (arith, above) in
          (i, (let g : j * s ≡ k * s + i * s = ap (λ z. z * s) is ∙ (let d : (k + i) * s ≡ k * s + i * s = omega arith in d) in omega (arith, ints, e, f, g)))
    ]
ahead s (pos j) (negsuc k) u first e f less = (j + suc k, omega (arith, ints, e, f))
ahead s (negsuc j) (pos k) u first e f less = absurd (omega (arith, ints, e, f, less))
ahead s (negsuc j) (negsuc k) u first e f less =
    elim (cases_lt k j) [
      | inl below ↦ let more : suc k * s ≤ j * s = mul-le-mul_right s (let l : suc k ≤ j = omega (arith, below) in l) in absurd (omega (arith, ints, e, f, less, more))
      | inr above ↦
          let i : ℕ = k - j in
          let is : k ≡ j + i = omega (arith, above) in
          (i, (let g : k * s ≡ j * s + i * s = ap (λ z. z * s) is ∙ (let d : (j + i) * s ≡ j * s + i * s = omega arith in d) in omega (arith, ints, e, f, g)))
    ]

each_there : (closed : Bool) (edge m u first : ℤ) (s : ℕ) → 0 < s → first ≤ℤ (before closed edge +ℤ pos s) → IsMultiple (pos s) first → IsMultipleIn closed edge m (pos s) u → Contains (instants_up_to first m (pos s)) u
each_there closed edge m u first s some near (k, f) is =
    let a = ahead s is.multiple.0 k u first is.multiple.1 f (let b = from-later closed edge u is.from_edge in omega (arith, ints, near, b)) in
    let up : u ≤ℤ m = is.up_to in
    let e : u ≡ first +ℤ pos (a.0 * s) = a.1 in
    elim (int_lt m first) as (λ b. int_lt m first ≡ b → Contains (if b then [] else instants first (pos s) (unsigned_abs (m -ℤ first) / s + 1)) u) [
      | true ↦ λ h. absurd (omega (arith, ints, h, up, e))
      | false ↦ λ h.
          let within : a.0 * s ≤ unsigned_abs (m -ℤ first) = omega (arith, ints, h, up, e) in
          let below : a.0 ≤ unsigned_abs (m -ℤ first) / s = le-div a.0 (unsigned_abs (m -ℤ first)) s some within in
          subst (Contains (instants first (pos s) (unsigned_abs (m -ℤ first) / s + 1))) (sym e) (there first s (unsigned_abs (m -ℤ first) / s + 1) a.0 (omega (arith, below)))
    ] refl

pub points_all : MultiplesAreAll
points_all closed m range (pos s) u positive =
    let some : 0 < s = omega (arith, ints, positive) in
    let edge : ℤ = m -ℤ range in
    let rem = rem_in (before closed edge) s some in
    let r0 : pos 0 ≤ℤ int_rem_euclid (before closed edge) (pos s) = rem.0 in
    let is : IsMultiple (pos s) (first_multiple closed (pos s) edge) = after_is_multiple (before closed edge) s some in (
      λ inside. All-contains (IsMultipleIn closed edge m (pos s)) (multiples closed m range (pos s)) u (All-from_recursion (IsMultipleIn closed edge m (pos s)) (multiples closed m range (pos s)) (all_up_to closed edge m s (first_multiple closed (pos s) edge) some (first_from closed edge s some) is)) inside,
      λ wanted. each_there closed edge m u (first_multiple closed (pos s) edge) s some (omega (arith, ints, r0)) is wanted,
    )
points_all closed m range (negsuc s) u positive = absurd (omega (arith, ints, positive))
