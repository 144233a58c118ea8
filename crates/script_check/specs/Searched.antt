-- Patterns that were searched.
use Rattle.std.specs.Prelude.{◌≡◌, Bool, true, false, List, slice_index_or}
use Rattle.label_set.specs.declared.rules.PatternId.{PatternId}
use Rattle.script_read.specs.declared.script.Wanted.{Wanted}
use Rattle.script_read.specs.declared.script.Wanted.TheVariants.{Regex}

-- something holds of each line that searches with a marked pattern
pub record HoldsWhereMarked (holds : Wanted → Bool) (marks : List Bool) : Type 0 where
  pub each : (id : PatternId) → slice_index_or marks id.0 false ≡ true → holds (Regex id) ≡ true
