-- What a window that is closed on the left has more than the open one.
use Rattle.std.proofs.Common.{◌≡◌, arith, true, false, inl, inr}
use Rattle.std.specs.Prelude.{ℤ, ◌<ℤ◌, ◌≤ℤ◌, ◌⊎◌}
use Rattle.std.proofs.lemmas.Int.{ints, by_lt_z}
use Rattle.ticks.specs.Edges.{ClosedHasItsEdge, IsBetween}

module _ (edge moment t : ℤ) (ordered : edge ≤ℤ moment) where
  open_or_edge : IsBetween true edge moment t → IsBetween false edge moment t ⊎ (t ≡ edge)
  open_or_edge w = by_lt_z edge t
      (λ behind. inl (record { from_edge = behind; to_moment = w.to_moment }))
      (λ h. let from : edge ≤ℤ t = w.from_edge in inr (omega (arith, ints, h, from)))

  closed_of : IsBetween false edge moment t ⊎ (t ≡ edge) → IsBetween true edge moment t
  closed_of (inl w) = let from : edge <ℤ t = w.from_edge in record { from_edge = omega (arith, ints, from); to_moment = w.to_moment }
  closed_of (inr e) = record { from_edge = omega (arith, ints, e); to_moment = omega (arith, ints, e, ordered) }

pub edge-added : ClosedHasItsEdge
edge-added edge moment t ordered = (open_or_edge edge moment t ordered, closed_of edge moment t ordered)
