-- How high a tree is, which falls in each of its parts.
use Rattle.std.proofs.Common.{ℕ, ◌+◌}
use Rattle.plan_tree.specs.Shapes.{BinaryOf, ClampOf, GatherOf, InstantsOf, OnceOf, PointsOf, SelectOf, SeriesOf, Shape, UnaryOf, WindowsOf}

abbrev pub height : Shape → ℕ
height (InstantsOf one) = 0
height (SelectOf series moment stamped) = 0
height (SeriesOf series f moment range scalar) = height scalar + 1
height (UnaryOf one rows) = height rows + 1
height (BinaryOf one rows beside) = height rows + height beside + 1
height (ClampOf one rows low high) = height rows + height low + height high + 1
height (PointsOf f walk moment range step inner scalar) = height inner + height scalar + 1
height (OnceOf first child) = height child + 1
height (GatherOf place) = 0
height (WindowsOf place f moment range rules scalar) = height scalar + 1
