-- The sums that a line through points is fitted by, as the points come. (This project's own.)
use Rattle.std.specs.Prelude.{List}
use Rattle.xfrac.specs.declared.value.XFrac.{XFrac}
use Rattle.window_fn.specs.declared.slopes.Sums.{Sums}
use Rattle.window_fn.specs.Slopes.{products, squares}
use Rattle.window_fn.specs.Totals.{HasRoom, IsSumOf, IsSumOfAnswers}

-- the sums of x, y, x * y and x * x of these points
pub record AreSumsOf (sums : Sums) (xs ys : List XFrac) : Type 0 where
  pub x : IsSumOf sums.x xs
  pub y : IsSumOf sums.y ys
  pub xy : IsSumOfAnswers sums.xy (products xs ys)
  pub xx : IsSumOfAnswers sums.xx (squares xs)

pub record HaveRoom (sums : Sums) : Type 0 where
  pub x : HasRoom sums.x
  pub y : HasRoom sums.y
  pub xy : HasRoom sums.xy
  pub xx : HasRoom sums.xx
