-- What a kernel may be fed, and how far it then is.
use Rattle.std.specs.Prelude.{◌≡◌, ◌<ℤ◌, pos, List, [], ◌∷◌}
use Rattle.op_window.specs.Kernels.{Kernel}
use Rattle.op_window.specs.Rules.{AreFramed, AreTimes, HasScalars, frame_at}
use Rattle.op_window.specs.Sliding.{walked_of}
use Rattle.sample_store.specs.Samples.{AllSeries}
use Rattle.series_marks.specs.Reaches.{AreThere, Follow, IsReached, reach_all}
use Rattle.step_batch.specs.Lent.{Lent}
use Rattle.step_batch.specs.LentWindows.{TimesRise, WindowsAt}
use Rattle.ticks.specs.Walks.{HasTimes, IsTime, moment_at}
use Rattle.ticks.specs.declared.moment.Ms.{Ms}

-- its series are in the store, with their labels and samples as they were in each feed before; the instants rise, and the moments don't fall
pub record CanFeedStore (kernel : Kernel) (store : AllSeries) (at : List Ms) (arg : Lent) : Type 0 where
  pub there : AreThere store kernel.series
  pub walked : kernel.walked ≡ walked_of kernel.moment.closed kernel.range.0 kernel.reached store kernel.series
  pub range : pos 0 <ℤ kernel.range.0
  pub reached : IsReached kernel.moment.closed kernel.range.0 kernel.reached
  pub follow : Follow kernel.range.0 kernel.reached kernel.moment at
  pub instants : TimesRise at
  pub times : AreTimes at
  pub scalars : HasScalars kernel.f at arg

-- how far it is behind some instants
pub record HasReached (old new : Kernel) (store : AllSeries) (at : List Ms) : Type 0 where
  pub reached : new.reached ≡ reach_all old.range.0 old.reached old.moment at
  pub walked : new.walked ≡ walked_of old.moment.closed old.range.0 new.reached store old.series
  pub edge : IsReached old.moment.closed old.range.0 new.reached

-- windows of the one instant, whose samples lie in the window that ends at its moment
pub record CanFeedWindows (kernel : Kernel) (windows : WindowsAt) (at : List Ms) (arg : Lent) : Type 0 where
  pub instant : at ≡ windows.at ∷ []
  pub time : IsTime windows.at.0
  pub ends : HasTimes (moment_at kernel.moment windows.at.0) kernel.range.0
  pub within : AreFramed (frame_at kernel.moment kernel.range windows.at) windows.rows
  pub scalars : HasScalars kernel.f at arg
