-- What a tree spends: the samples that its leaves fetch, and the times that their searches look at. A leaf goes forward in its
-- series, so that what it has read is told by what it was fed. A gather reads nothing of the store. (This project's own.)
use Rattle.std.specs.Prelude.{◌≡◌, ◌+◌, ◌≤◌, ◌≤ℤ◌, ℕ, ℤ, List, [], ◌∷◌, Option, None, Some, Result, IfOk, OnOk, ⊤}
use Rattle.promql_meaning.specs.Selecting.{lookback}
use Rattle.sample_store.specs.Samples.{AllSeries}
use Rattle.series_marks.specs.Reaches.{fetched_bound, probed_bound, reads_of, searches_of}
use Rattle.ticks.specs.Listed.{IsListed}
use Rattle.ticks.specs.Walks.{LeadsToTimes}
use Rattle.ticks.specs.Works.{Counts}
use Rattle.ticks.specs.declared.moment.Ms.{Ms}
use Rattle.ticks.specs.declared.walk.Walk.{Walk}
use Rattle.ticks.specs.declared.walk.WalkMoment.{WalkMoment}
use Rattle.plan_tree.specs.declared.node.Node.{Node}
use Rattle.plan_tree.specs.declared.node.Node.TheVariants as node
use Rattle.plan_tree.specs.declared.tree.Tree.{Tree}
use Rattle.plan_tree.specs.declared.turns.Fed.{Fed}
use Rattle.plan_tree.specs.Chains.{Chain}
use Rattle.plan_tree.specs.Feeds.{fed_on, once, reached_of}
use Rattle.plan_tree.specs.Nodes.{shape_of}
use Rattle.plan_tree.specs.Shapes.{BinaryOf, ClampOf, GatherOf, InstantsOf, OnceOf, PointsOf, SelectOf, SeriesOf, Shape, UnaryOf, WindowsOf}

-- ---- costs

-- how many samples are fetched, and how many times are looked at
pub record Cost : Type 0 where
  pub fetched : ℕ
  pub probed : ℕ

abbrev pub nothing : Cost
nothing = record { fetched = 0; probed = 0 }

abbrev pub both : Cost → Cost → Cost
both a b = record { fetched = a.fetched + b.fetched; probed = a.probed + b.probed }

pub record IsAtMost (a b : Cost) : Type 0 where
  pub fetched : a.fetched ≤ b.fetched
  pub probed : a.probed ≤ b.probed

-- a cost is that of two parts together
abbrev pub IsSum : (Cost → Type 0) → (Cost → Type 0) → Cost → Type 0
IsSum P Q all = (a : Cost) × (b : Cost) × P a × Q b × (all ≡ both a b)

-- ---- the bound

-- of a leaf that is asked at some instants: the samples in the span from the left edge of the first instant's window to the last moment,
-- and for each series one more where none stands at the span's right end; and 64 times for each series
abbrev pub leaf_bound : ℤ → AllSeries → List ℕ → WalkMoment → List Ms → Cost
leaf_bound back store series moment at = record { fetched = fetched_bound back store series moment at; probed = probed_bound series }

-- the one instant of a tree that is fed no other, if it is asked at all
abbrev pub once_at : Ms → List Ms → List Ms
once_at first [] = []
once_at first (t ∷ at) = first ∷ []

-- the bound of a tree that is asked at some instants: the sum over its leaves, where a subquery's inner tree is asked at the instants of
-- its walk, and a tree that is fed one instant alone at that one
abbrev pub IsBound : AllSeries → List Ms → Shape → Cost → Type 0
IsBound store at (InstantsOf one) = λ most. most ≡ nothing
IsBound store at (SelectOf series moment stamped) = λ most. most ≡ leaf_bound lookback store series moment at
IsBound store at (SeriesOf series f moment range scalar) = IsSum (IsBound store at scalar) (λ most. most ≡ leaf_bound range.0 store series moment at)
IsBound store at (UnaryOf one rows) = IsBound store at rows
IsBound store at (BinaryOf one rows beside) = IsSum (IsBound store at rows) (IsBound store at beside)
IsBound store at (ClampOf one rows low high) = IsSum (IsBound store at rows) (IsSum (IsBound store at low) (IsBound store at high))
IsBound store at (PointsOf f walk moment range step inner scalar) =
    λ most. (times : List Ms) × IsListed walk times × IsSum (IsBound store at scalar) (IsBound store times inner) most
IsBound store at (OnceOf first child) = IsBound store (once_at first at) child
IsBound store at (GatherOf place) = λ most. most ≡ nothing
IsBound store at (WindowsOf place f moment range rules scalar) = IsBound store at scalar

-- the walks of all subqueries lead to times, so that each has one list
abbrev pub HasLists : Shape → Type 0
HasLists (InstantsOf one) = ⊤
HasLists (SelectOf series moment stamped) = ⊤
HasLists (SeriesOf series f moment range scalar) = HasLists scalar
HasLists (UnaryOf one rows) = HasLists rows
HasLists (BinaryOf one rows beside) = HasLists rows × HasLists beside
HasLists (ClampOf one rows low high) = HasLists rows × HasLists low × HasLists high
HasLists (PointsOf f walk moment range step inner scalar) = LeadsToTimes walk × HasLists inner × HasLists scalar
HasLists (OnceOf first child) = HasLists child
HasLists (GatherOf place) = ⊤
HasLists (WindowsOf place f moment range rules scalar) = HasLists scalar

-- ---- counters

-- counters rise by at most a cost
pub record RisesBy (before after : Counts) (most : Cost) : Type 0 where
  pub fetched : after.fetched ≤ before.fetched + most.fetched
  pub probed : after.probed ≤ before.probed + most.probed
  pub tested : after.tested ≡ before.tested

-- from a start on the counters rose by at most the bound over the whole walk
abbrev pub IsWithinBound : AllSeries → Walk → Shape → (start now : Counts) → Type 0
IsWithinBound store walk shape start now = (times : List Ms) (most : Cost) → IsListed walk times → IsBound store times shape most → RisesBy start now most

-- ---- what was read

-- what a leaf has read of its series, whose windows reach back by a length, when it was fed so
abbrev pub leaf_read : ℤ → AllSeries → List ℕ → WalkMoment → Option Fed → Cost
leaf_read back store series moment fed =
    record { fetched = reads_of (reached_of back moment fed) store series; probed = searches_of (reached_of back moment fed) series }

-- what was fed are the first instants of a walk
abbrev pub IsAlong : Walk → Option Fed → Type 0
IsAlong walk fed = (at : List Ms) × Chain walk None at × (fed ≡ fed_on None at)

-- what the leaves of a tree have read when it was fed so; a subquery's inner tree was fed the first instants of its own walk, and a tree
-- that is fed one instant alone was fed that one
abbrev pub HasRead : AllSeries → Option Fed → Node → Cost → Type 0
HasRead store fed (node.Instants kernel none) = λ read. read ≡ nothing
HasRead store fed (node.Select kernel) = λ read. read ≡ leaf_read lookback store kernel.series kernel.moment fed
HasRead store fed (node.Series' kernel p scalar) = IsSum (HasRead store fed scalar) (λ read. read ≡ leaf_read kernel.range.0 store kernel.series kernel.moment fed)
HasRead store fed (node.Unary' kernel p rows) = HasRead store fed rows
HasRead store fed (node.Binary' kernel p rows q beside) = IsSum (HasRead store fed rows) (HasRead store fed beside)
HasRead store fed (node.Clamp' kernel p rows q low r high) = IsSum (HasRead store fed rows) (IsSum (HasRead store fed low) (HasRead store fed high))
HasRead store fed (node.Points' kernel inner_fed p inner q scalar) =
    λ read. IsAlong kernel.walk inner_fed × IsSum (HasRead store fed scalar) (HasRead store inner_fed inner) read
HasRead store fed (node.Once' first steps p child) = HasRead store (once first fed) child
HasRead store fed (node.Gather place) = λ read. read ≡ nothing
HasRead store fed (node.Windows' kernel place passed p scalar) = HasRead store fed scalar

-- what was spent since a tree's first instant
pub record HasSpent (store : AllSeries) (tree : Tree) (start now : Counts) : Type 0 where
  pub along : IsAlong tree.walk tree.fed
  pub read : Cost
  pub has : HasRead store tree.fed tree.node read
  pub rises : RisesBy start now read

-- a tree that was fed nothing, and whose subqueries have fed nothing to their inner trees
abbrev pub IsFresh : Node → Type 0
IsFresh (node.Instants kernel none) = ⊤
IsFresh (node.Select kernel) = ⊤
IsFresh (node.Series' kernel p scalar) = IsFresh scalar
IsFresh (node.Unary' kernel p rows) = IsFresh rows
IsFresh (node.Binary' kernel p rows q beside) = IsFresh rows × IsFresh beside
IsFresh (node.Clamp' kernel p rows q low r high) = IsFresh rows × IsFresh low × IsFresh high
IsFresh (node.Points' kernel inner_fed p inner q scalar) = (inner_fed ≡ None) × IsFresh inner × IsFresh scalar
IsFresh (node.Once' first steps p child) = IsFresh child
IsFresh (node.Gather place) = ⊤
IsFresh (node.Windows' kernel place passed p scalar) = IsFresh scalar

-- ---- what may have been read by then, where memory ran out too

-- the same was fed, or less, or nothing
abbrev pub IsUpTo : Option Fed → Option Fed → Type 0
IsUpTo None fed = ⊤
IsUpTo (Some own) None = ⊥
IsUpTo (Some own) (Some fed) = (own.first ≡ fed.first) × (own.last.0 ≤ℤ fed.last.0)

abbrev pub LeafMayRead : ℤ → AllSeries → List ℕ → WalkMoment → Option Fed → Cost → Type 0
LeafMayRead back store series moment fed read = (own : Option Fed) × IsUpTo own fed × (read ≡ leaf_read back store series moment own)

-- what the leaves of a tree of a shape may have read when it was fed so, or less
abbrev pub MayRead : AllSeries → Option Fed → Shape → Cost → Type 0
MayRead store fed (InstantsOf one) = λ read. read ≡ nothing
MayRead store fed (SelectOf series moment stamped) = LeafMayRead lookback store series moment fed
MayRead store fed (SeriesOf series f moment range scalar) = IsSum (MayRead store fed scalar) (LeafMayRead range.0 store series moment fed)
MayRead store fed (UnaryOf one rows) = MayRead store fed rows
MayRead store fed (BinaryOf one rows beside) = IsSum (MayRead store fed rows) (MayRead store fed beside)
MayRead store fed (ClampOf one rows low high) = IsSum (MayRead store fed rows) (IsSum (MayRead store fed low) (MayRead store fed high))
MayRead store fed (PointsOf f walk moment range step inner scalar) =
    λ read. (inner_fed : Option Fed) × IsAlong walk inner_fed × IsSum (MayRead store fed scalar) (MayRead store inner_fed inner) read
MayRead store fed (OnceOf first child) = MayRead store (once first fed) child
MayRead store fed (GatherOf place) = λ read. read ≡ nothing
MayRead store fed (WindowsOf place f moment range rules scalar) = MayRead store fed scalar

-- ---- a feed

-- counters rise by at most what was read more: one such rise behind another is one again
pub record RisesFrom (before after : Counts) (was now : Cost) : Type 0 where
  pub fetched : after.fetched + was.fetched ≤ before.fetched + now.fetched
  pub probed : after.probed + was.probed ≤ before.probed + now.probed
  pub tested : after.tested ≡ before.tested

-- counters rise by at most what was read more, up to what may have been read by then
pub record Spends (May : Cost → Type 0) (before after : Counts) (was : Cost) : Type 0 where
  pub now : Cost
  pub rises : RisesFrom before after was now
  pub may : May now

-- on any answer a feed, from what was fed to what is fed by then, raises the counters by at most what the leaves may have read more;
-- where it is made, that is what they have read
abbrev pub FeedSpends : {A E : Type 0} → AllSeries → (from to : Option Fed) → Result A E → (old new : Node) → (before after : Counts) → Type 0
FeedSpends store from to result old new before after =
    (was : Cost) → HasRead store from old was → (spent : Spends (MayRead store to (shape_of old)) before after was) × OnOk result (HasRead store to new spent.now)

-- the same of the inner tree of a subquery, which answers what it was fed by then, the first instants of its walk
abbrev pub FillSpends : {E : Type 0} → AllSeries → Walk → (from : Option Fed) → Result (Option Fed) E → (old new : Node) → (before after : Counts) → Type 0
FillSpends store walk from result old new before after =
    (was : Cost) → IsAlong walk from → HasRead store from old was → (to : Option Fed) × IsAlong walk to × (spent : Spends (MayRead store to (shape_of old)) before after was)
    × IfOk result (λ fed. (fed ≡ to) × HasRead store fed new spent.now)
