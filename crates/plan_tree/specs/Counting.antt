-- How many samples the leaves of a tree were given, to the last one, so that the counter of no part is lost. (This project's own.)
use Rattle.std.specs.Prelude.{◌≡◌, ◌+◌, ℕ, List, Option, None, Some}
use Rattle.promql_meaning.specs.Selecting.{lookback}
use Rattle.sample_store.specs.Samples.{AllSeries}
use Rattle.series_marks.specs.Picks.{picks_of}
use Rattle.series_marks.specs.Reaches.{reads_of}
use Rattle.ticks.specs.Walks.{moment_at}
use Rattle.ticks.specs.declared.walk.WalkMoment.{WalkMoment}
use Rattle.plan_tree.specs.declared.node.Node.{Node}
use Rattle.plan_tree.specs.declared.node.Node.TheVariants as node
use Rattle.plan_tree.specs.declared.turns.Fed.{Fed}
use Rattle.plan_tree.specs.Feeds.{once, reached_of}
use Rattle.plan_tree.specs.Spending.{IsFresh}

-- how many samples a leaf of newest rows was given when it was fed so
abbrev pub leaf_picked : AllSeries → List ℕ → WalkMoment → Option Fed → ℕ
leaf_picked store series moment None = 0
leaf_picked store series moment (Some fed) = picks_of (moment_at moment fed.first.0) (reached_of lookback moment (Some fed)) store series

-- how many samples the leaves of a tree were given, to the last one, when it was fed so: a leaf of newest rows those that it goes over behind
-- its first moment, and what it found there; a leaf of windows those behind the left edge of its first window; a subquery's inner tree
-- was fed the first instants of its own walk, and a tree that is fed one instant alone that one
abbrev pub fetched_by : AllSeries → Option Fed → Node → ℕ
fetched_by store fed (node.Instants kernel none) = 0
fetched_by store fed (node.Select kernel) = leaf_picked store kernel.series kernel.moment fed
fetched_by store fed (node.Series' kernel p scalar) = fetched_by store fed scalar + reads_of (reached_of kernel.range.0 kernel.moment fed) store kernel.series
fetched_by store fed (node.Unary' kernel p rows) = fetched_by store fed rows
fetched_by store fed (node.Binary' kernel p rows q beside) = fetched_by store fed rows + fetched_by store fed beside
fetched_by store fed (node.Clamp' kernel p rows q low r high) = fetched_by store fed rows + (fetched_by store fed low + fetched_by store fed high)
fetched_by store fed (node.Points' kernel inner_fed p inner q scalar) = fetched_by store fed scalar + fetched_by store inner_fed inner
fetched_by store fed (node.Once' first steps p child) = fetched_by store (once first fed) child
fetched_by store fed (node.Gather place) = 0
fetched_by store fed (node.Windows' kernel place passed p scalar) = fetched_by store fed scalar

-- a tree that was fed nothing was given nothing
abbrev pub FreshTreesHaveFetchedNothing : Type 0
FreshTreesHaveFetchedNothing = (store : AllSeries) (tree : Node) → IsFresh tree → fetched_by store None tree ≡ 0
