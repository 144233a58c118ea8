-- What a window that is closed on the left has more than the open one.
use Rattle.std.specs.Prelude.{◌≡◌, true, false, ◌++◌, map, ℤ, ◌≤ℤ◌}
use Rattle.std.specs.List.Sorted.{IsStrictlySortedBy}
use Rattle.std.specs.Ordering.{int_cmp}
use Rattle.ticks.specs.declared.moment.Ms.{Ms}
use Rattle.xfrac.specs.declared.value.Held.{Held}
use Rattle.promql_meaning.specs.Selecting.{Samples, between}

-- the times of samples rise
abbrev pub AreRising : Samples → Type 0
AreRising samples = IsStrictlySortedBy int_cmp (map (λ (s : Ms × Held). s.0.0) samples)

-- the sample at a time, if there is one: neither earlier nor later
abbrev pub at_time : ℤ → Samples → Samples
at_time t samples = between true t t samples

-- the samples of a closed window are the one on its left edge and then those of the open window
abbrev pub ClosedHasTheEdge : Type 0
ClosedHasTheEdge =
    (edge m : ℤ) (samples : Samples) → edge ≤ℤ m → AreRising samples → between true edge m samples ≡ at_time edge samples ++ between false edge m samples
