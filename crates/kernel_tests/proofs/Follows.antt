-- Instants that rise behind a time rise.
use Rattle.std.proofs.Common.{List, [], ◌∷◌}
use Rattle.std.specs.Prelude.{ℤ}
use Rattle.step_batch.specs.LentWindows.{TimesRise}
use Rattle.ticks.specs.declared.moment.Ms.{Ms}
use Rattle.kernel_tests.specs.Instants.{RiseFrom}

pub rise_rises : (last : ℤ) (at : List Ms) → RiseFrom last at → TimesRise at
rise_rises last [] h = tt
rise_rises last (t ∷ []) h = tt
rise_rises last (t ∷ u ∷ at) h = (h.2.0, rise_rises t.0 (u ∷ at) h.2)
