-- Trees over the gathers of an exchange, at the instants of a grid. (This project's own.)
use Rattle.std.specs.Prelude.{◌≡◌, ℤ, pos, false, List, None}
use Rattle.exchange.specs.Exchanging.{Exchanging}
use Rattle.op_labels.specs.Rules.{Kept}
use Rattle.plan_tree.specs.Asking.{HaveRequests}
use Rattle.plan_tree.specs.Nodes.{MayStart, shape_of}
use Rattle.plan_tree.specs.Shapes.{AreDistinct, IsFit, StaysInTimes, places_of}
use Rattle.plan_tree.specs.declared.node.Node.{Node}
use Rattle.sample_store.specs.Samples.{AllSeries}
use Rattle.ticks.specs.Listed.{IsListed}
use Rattle.ticks.specs.Walks.{IsInstant}
use Rattle.ticks.specs.declared.grid.Grid.{Grid as Instants}
use Rattle.ticks.specs.declared.moment.Ms.{Ms}
use Rattle.ticks.specs.declared.walk.Walk.{Walk, Grid}
use Rattle.ticks.specs.declared.walk.WalkMoment.{WalkMoment}
use Rattle.gather_tree_tests.specs.Fitting.{AreFitting, IsNearby}

-- the instant itself, as the moment of a subquery, which reaches back 20 milliseconds by steps of 5
abbrev pub at_once : WalkMoment
at_once = record { fixed = None; offset = record { 0 = pos 0 }; closed = false }

abbrev pub reach : Ms
reach = record { 0 = pos 20 }

abbrev pub stride : Ms
stride = record { 0 = pos 5 }

-- A tree that was fed nothing, whose gathers stand for requests at the instants of a walk, each for one of its own. It may be fed the
-- instants of a grid over each store.
pub record IsGrown (g : Instants) (tree : Node) (x : Exchanging) : Type 0 where
  pub walk : Walk
  pub nearby : IsNearby walk
  pub fitting : AreFitting walk x
  pub requests : (times : List Ms) → IsListed (Grid g) times → HaveRequests x.requests times tree
  pub can : (store : AllSeries) (kept : Kept) → MayStart store kept tree
  pub fit : (store : AllSeries) → IsFit store (shape_of tree)
  pub stays : (t : ℤ) → IsInstant (Grid g) t → StaysInTimes (shape_of tree) t
  pub apart : AreDistinct (places_of (shape_of tree))
