-- The left edge of a window: the times of a window are those behind its left edge, up to its moment; where it is closed on the
-- left, the edge itself too. (Prometheus querying: ranges are open on the left from Prometheus 3 on, and were closed before.)
use Rattle.std.specs.Prelude.{◌≡◌, Bool, true, false, ℤ, pos, ◌-ℤ◌, ◌<ℤ◌, ◌≤ℤ◌, int_lt, int_le, ◌↔◌, ◌⊎◌, refl}
use Rattle.std.proofs.Common.{arith}
use Rattle.std.proofs.lemmas.Int.{ints}

-- a time is behind a left edge, or on it where the window is closed
abbrev pub IsFrom : Bool → ℤ → ℤ → Type 0
IsFrom false edge t = edge <ℤ t
IsFrom true edge t = edge ≤ℤ t

-- the same as a test
abbrev pub is_from : Bool → ℤ → ℤ → Bool
is_from false edge t = int_lt edge t
is_from true edge t = int_le edge t

-- a time of the window that begins at an edge and ends at a moment
pub record IsBetween (closed : Bool) (edge moment t : ℤ) : Type 0 where
  pub from_edge : IsFrom closed edge t
  pub to_moment : t ≤ℤ moment

-- the last millisecond that is before a window
abbrev pub before : Bool → ℤ → ℤ
before false edge = edge
before true edge = edge -ℤ pos 1

-- the times of a closed window are those of the open one, and its left edge
abbrev pub ClosedHasItsEdge : Type 0
ClosedHasItsEdge = (edge moment t : ℤ) → edge ≤ℤ moment → IsBetween true edge moment t ↔ (IsBetween false edge moment t ⊎ (t ≡ edge))

-- a time is in a window exactly where it is later than the last one before it
pub from-later : (closed : Bool) (edge t : ℤ) → IsFrom closed edge t → before closed edge <ℤ t
from-later false edge t h = h
from-later true edge t h = omega (arith, ints, h)

pub later-from : (closed : Bool) (edge t : ℤ) → before closed edge <ℤ t → IsFrom closed edge t
later-from false edge t h = h
later-from true edge t h = omega (arith, ints, h)

-- what is in a window isn't before its edge
pub from-edge : (closed : Bool) (edge t : ℤ) → IsFrom closed edge t → edge ≤ℤ t
from-edge false edge t h = omega (arith, ints, h)
from-edge true edge t h = h

-- the last time before a window is its edge or a millisecond before
pub before-near : (closed : Bool) (edge : ℤ) → ((edge -ℤ pos 1) ≤ℤ before closed edge) × (before closed edge ≤ℤ edge)
before-near false edge = (omega (arith, ints), omega (arith, ints))
before-near true edge = (omega (arith, ints), omega (arith, ints))

-- the test says what it is a test of
pub is_from-later : (closed : Bool) (edge t : ℤ) → is_from closed edge t ≡ int_lt (before closed edge) t
is_from-later false edge t = refl
is_from-later true edge t =
    elim (int_lt (edge -ℤ pos 1) t) as (λ b. int_lt (edge -ℤ pos 1) t ≡ b → int_le edge t ≡ b) [ true ↦ λ h. grind (arith, ints, h) | false ↦ λ h. grind (arith, ints, h) ] refl
