-- The sample on the left edge of a closed window.
use Rattle.std.proofs.Common.{◌≡◌, true, false, [], ◌∷◌, ◌++◌, map, refl, sym, arith}
use Rattle.std.specs.Prelude.{ℤ, ◌<ℤ◌, ◌≤ℤ◌, int_lt, int_le}
use Rattle.std.specs.Cmp.{int_ranked}
use Rattle.std.specs.List.{AllByRecursion}
use Rattle.std.specs.List.Sorted.{IsStrictlySortedBy}
use Rattle.std.specs.Ordering.{int_cmp}
use Rattle.std.specs.declared.cmp.Ordering.TheVariants.{Less}
use Rattle.std.proofs.lemmas.Int.{ints, by_lt_z}
use Rattle.ticks.specs.declared.moment.Ms.{Ms}
use Rattle.xfrac.specs.declared.value.Held.{Held}
use Rattle.promql_meaning.specs.LeftEdges.{AreRising, ClosedHasTheEdge, at_time}
use Rattle.promql_meaning.specs.Selecting.{Samples, between}

under : (a b : ℤ) → a <ℤ b → int_lt a b ≡ true
under a b h = grind (arith, ints, h)

not_under : (a b : ℤ) → b ≤ℤ a → int_lt a b ≡ false
not_under a b h = grind (arith, ints, h)

up_to : (a b : ℤ) → a ≤ℤ b → int_le a b ≡ true
up_to a b h = grind (arith, ints, h)

not_up_to : (a b : ℤ) → b <ℤ a → int_le a b ≡ false
not_up_to a b h = grind (arith, ints, h)

abbrev AreLater : ℤ → Samples → Type 0
AreLater a samples = AllByRecursion (λ z. int_cmp a z ≡ Less) (map (λ (s : Ms × Held). s.0.0) samples)

module _ (edge m : ℤ) where
  later : (a : ℤ) (s : Ms × Held) → edge ≤ℤ a → int_cmp a s.0.0 ≡ Less → edge <ℤ s.0.0
  later a s le less = let h : a <ℤ s.0.0 = int_ranked a s.0.0 Less (sym less) in omega (arith, ints, le, h)

  -- later samples aren't on the edge
  none_at : (a : ℤ) (samples : Samples) → edge ≤ℤ a → AreLater a samples → at_time edge samples ≡ []
  none_at a [] le all = refl
  none_at a (s ∷ samples) le all =
      let behind : edge <ℤ s.0.0 = later a s le all.0 in
      rw (up_to edge s.0.0 (omega (arith, ints, behind)), not_up_to s.0.0 edge behind) (none_at a samples le all.1)

  -- and are in both windows, or in none
  same : (a : ℤ) (samples : Samples) → edge ≤ℤ a → AreLater a samples → between true edge m samples ≡ between false edge m samples
  same a [] le all = refl
  same a (s ∷ samples) le all =
      let behind : edge <ℤ s.0.0 = later a s le all.0 in
      rw (up_to edge s.0.0 (omega (arith, ints, behind)), under edge s.0.0 behind, same a samples le all.1) refl

  behind_edge : (s : Ms × Held) (samples : Samples) → edge <ℤ s.0.0 → AreLater s.0.0 samples
      → between true edge m (s ∷ samples) ≡ at_time edge (s ∷ samples) ++ between false edge m (s ∷ samples)
  behind_edge s samples behind all =
      let le : edge ≤ℤ s.0.0 = omega (arith, ints, behind) in
      rw (up_to edge s.0.0 le, under edge s.0.0 behind, not_up_to s.0.0 edge behind, none_at s.0.0 samples le all, same s.0.0 samples le all) refl

  on_edge : (s : Ms × Held) (samples : Samples) → s.0.0 ≡ edge → edge ≤ℤ m → AreLater s.0.0 samples
      → between true edge m (s ∷ samples) ≡ at_time edge (s ∷ samples) ++ between false edge m (s ∷ samples)
  on_edge s samples is ordered all =
      let le : edge ≤ℤ s.0.0 = omega (arith, ints, is) in
      let back : s.0.0 ≤ℤ edge = omega (arith, ints, is) in
      let end : s.0.0 ≤ℤ m = omega (arith, ints, is, ordered) in
      rw (up_to edge s.0.0 le, up_to s.0.0 m end, up_to s.0.0 edge back, not_under edge s.0.0 back, none_at s.0.0 samples le all, same s.0.0 samples le all) refl

  earlier : (s : Ms × Held) (samples : Samples) → s.0.0 <ℤ edge → between true edge m samples ≡ at_time edge samples ++ between false edge m samples
      → between true edge m (s ∷ samples) ≡ at_time edge (s ∷ samples) ++ between false edge m (s ∷ samples)
  earlier s samples below rest =
      rw (not_up_to edge s.0.0 below, not_under edge s.0.0 (omega (arith, ints, below))) rest

  pub edge_first : (samples : Samples) → edge ≤ℤ m → AreRising samples → between true edge m samples ≡ at_time edge samples ++ between false edge m samples
  unfolding IsStrictlySortedBy
  edge_first [] ordered rising = refl
  edge_first (s ∷ samples) ordered rising =
      by_lt_z s.0.0 edge
      (λ below. earlier s samples below (edge_first samples ordered rising.1))
      (λ from. by_lt_z edge s.0.0
      (λ behind. behind_edge s samples behind rising.0)
      (λ back. on_edge s samples (omega (arith, ints, from, back)) ordered rising.0))

pub has_the_edge : ClosedHasTheEdge
has_the_edge edge m samples ordered rising = edge_first edge m samples ordered rising
