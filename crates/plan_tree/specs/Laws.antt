-- What builders of trees rely on. (This project's own.)
use Rattle.std.specs.Prelude.{◌≡◌, ◌<◌, ◌≤◌, ℤ, List, [], length, take, Option, None, Some, IsTrue}
use Rattle.op_labels.specs.Rules.{Kept}
use Rattle.remote_api.specs.Seen.{EngineSeen}
use Rattle.sample_store.specs.Samples.{AllSeries}
use Rattle.series_marks.specs.Reads.{AreRising}
use Rattle.step_kernels.specs.Laws.{HasOneRow}
use Rattle.step_table.specs.WellFormed.{AreSets}
use Rattle.ticks.specs.Listed.{IsListed}
use Rattle.ticks.specs.Walks.{IsInstant, LeadsToTimes}
use Rattle.ticks.specs.Works.{Counts}
use Rattle.ticks.specs.declared.moment.Ms.{Ms}
use Rattle.ticks.specs.declared.walk.Walk.{Walk}
use Rattle.plan_tree.specs.Chains.{Chain, IsComing, IsReady}
use Rattle.plan_tree.specs.Feeds.{fed_on}
use Rattle.plan_tree.specs.Nodes.{MayStart, shape_of}
use Rattle.plan_tree.specs.Shapes.{IsFit, Shape, StaysInTimes, is_scalar, is_single, places_of, rule}
use Rattle.plan_tree.specs.Spending.{Cost, HasLists, HasSpent, IsAlong, IsAtMost, IsBound, IsFresh, MayRead}
use Rattle.plan_tree.specs.Worlds.{HaveSets, World, no_gathers}
use Rattle.plan_tree.specs.declared.tree.Tree.{Tree}
use Rattle.plan_tree.specs.declared.turns.Fed.{Fed}

abbrev pub ScalarsHaveOneRow : Type 0
ScalarsHaveOneRow = (w : World) (kept : Kept) (shape : Shape) (t : ℤ) → IsTrue (is_scalar shape) → HasOneRow (rule w kept shape t)

abbrev pub MarksAreSets : Type 0
MarksAreSets = (w : World) (kept : Kept) (shape : Shape) (t : ℤ) → HaveSets w.gathers → AreSets (rule w kept shape t).marks

-- the instants of a tree's turns from its first one on are the first ones of its walk, and all of them once there is none left
abbrev pub TurnsAreTheWalk : Type 0
TurnsAreTheWalk = (walk : Walk) (times at : List Ms) → IsListed walk times → Chain walk None at → (at ≡ take (length at) times) × (IsComing walk (fed_on None at) None → at ≡ times)

-- a tree whose subqueries' walks lead to times has a bound, and only one
abbrev pub EachTreeHasOneBound : Type 0
EachTreeHasOneBound =
    (store : AllSeries) (times : List Ms) (shape : Shape) → HasLists shape → (most : Cost) × IsBound store times shape most × ((other : Cost) → IsBound store times shape other → other ≡ most)

-- what the leaves of a tree may have read when it was fed the first instants of a walk is within the bound over the whole walk
abbrev pub SpendingIsBounded : Type 0
SpendingIsBounded =
    (store : AllSeries) (walk : Walk) (fed : Option Fed) (shape : Shape) (read most : Cost) (times : List Ms) →
    AreRising store → IsFit store shape → IsAlong walk fed → MayRead store fed shape read → IsListed walk times → IsBound store times shape most → IsAtMost read most

-- a tree that was fed nothing has spent nothing
abbrev pub FreshTreesBegin : Type 0
FreshTreesBegin = (store : AllSeries) (tree : Tree) (now : Counts) → tree.fed ≡ None → IsFresh tree.node → HasSpent store tree now now

-- a tree without gathers, which was fed nothing, may go on whatever engines there are
abbrev pub PlainTreesBegin : Type 0
PlainTreesBegin =
    (store : AllSeries) (kept : Kept) (es : List EngineSeen) (tree : Tree) (times : List Ms) (most : Cost) →
    tree.asking ≡ None → tree.exchange.places ≡ [] → tree.fed ≡ None → places_of (shape_of tree.node) ≡ [] → MayStart store kept tree.node → IsFit store (shape_of tree.node) →
    ((t : ℤ) → IsInstant tree.walk t → StaysInTimes (shape_of tree.node) t) → LeadsToTimes tree.walk → IsListed tree.walk times → IsBound store times (shape_of tree.node) most →
    0 < tree.batch → (IsTrue (is_single (shape_of tree.node)) → tree.batch ≤ 1) → IsReady store kept (Some no_gathers) es tree
