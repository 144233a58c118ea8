-- The window that a walk's moment and a range stand for. (This project's own.)
use Rattle.std.specs.Prelude.{◌≡◌, []}
use Rattle.promql_ast.specs.declared.tree.Selector.{Selector}
use Rattle.promql_meaning.specs.Selecting.{asked_over}
use Rattle.promql_meaning.specs.WalkMoments.{IsMomentOf}
use Rattle.ticks.specs.declared.grid.Grid.{Grid}
use Rattle.ticks.specs.declared.moment.Ms.{Ms}
use Rattle.ticks.specs.declared.walk.WalkMoment.{WalkMoment}

-- that of a range selector, in a query over a grid
pub record IsWindow (span : Grid) (selector : Selector) (range : Ms) (moment : WalkMoment) (long : Ms) : Type 0 where
  pub range_is : long ≡ range
  pub moment_is : IsMomentOf (asked_over [] [] span) selector.moment moment
  pub closed : moment.closed ≡ selector.moment.closed
