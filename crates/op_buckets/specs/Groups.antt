-- The histograms of labels that are fed. (This project's own.)
use Rattle.std.specs.Prelude.{ℕ, List}
use Rattle.step_table.specs.Groups.{Names}

-- the labels of histograms, those that were fed, one for each bucket, and the place of each among the former
pub record Grouped : Type 0 where
  pub groups : List Names
  pub fed : List Names
  pub places : List ℕ
