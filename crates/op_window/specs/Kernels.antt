-- What clauses see of a kernel.
use Rattle.std.specs.Prelude.{ℕ, List}
use Rattle.func_table.specs.declared.table.Window.{Window}
use Rattle.series_marks.specs.Reads.{Reached}
use Rattle.step_batch.specs.Lent.{Lent}
use Rattle.step_table.specs.Groups.{Names}
use Rattle.ticks.specs.declared.moment.Ms.{Ms}
use Rattle.ticks.specs.declared.walk.WalkMoment.{WalkMoment}
use Rattle.op_window.specs.Sliding.{Walked}

-- a function of the windows of series, which end at a moment and have a range; where it has come to in each series, under which
-- labels, and what it has reached; the labels that were fed last, and what is lent
pub record Kernel : Type 0 where
  pub series : List ℕ
  pub f : Window
  pub moment : WalkMoment
  pub range : Ms
  pub walked : Walked
  pub reached : Reached
  pub named : List Names
  pub buffer : Lent
