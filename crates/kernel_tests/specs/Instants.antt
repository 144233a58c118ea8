-- Instants of rows, which rise and are near 0.
use Rattle.std.specs.Prelude.{ℤ, pos, neg_ℤ, ◌<ℤ◌, ◌≤ℤ◌, List, [], ◌∷◌, ⊤}
use Rattle.ticks.specs.declared.moment.Ms.{Ms}

pub record IsNear (t : ℤ) : Type 0 where
  pub low : neg_ℤ (pos 1000000000000000) ≤ℤ t
  pub high : t ≤ℤ pos 1000000000000000

-- instants rise behind a time, near 0
abbrev pub RiseFrom : ℤ → List Ms → Type 0
RiseFrom last [] = ⊤
RiseFrom last (t ∷ at) = (last <ℤ t.0) × IsNear t.0 × RiseFrom t.0 at
