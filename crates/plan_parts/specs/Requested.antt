-- The requests that an exchange has for the gathers of a part, and what is known of these. (This project's own.)
use Rattle.std.specs.Prelude.{◌≡◌, ◌++◌, ◌<◌, ◌≤◌, ℕ, ℤ, List, [], length, slice_get, Some, Contains, IsTrue}
use Rattle.exchange.specs.Asked.{MayRequest}
use Rattle.exchange.specs.declared.request.Request.{Request}
use Rattle.logical_plan.specs.Gathers.{gathered, given_over, windows_of}
use Rattle.op_labels.specs.Rules.{Kept}
use Rattle.plan_serving.specs.Asking.{is_served_part}
use Rattle.plan_tree.specs.Shapes.{AreDistinct}
use Rattle.plan_tree.specs.Worlds.{Gathered, Gathers}
use Rattle.promql_meaning.specs.Selecting.{AllSeries, Asked, asked_over}
use Rattle.promql_meaning.specs.declared.given.Given.{Given}
use Rattle.promql_meaning.specs.declared.given.Given.TheVariants as given
use Rattle.promql_meaning.specs.declared.given.Windows.{Windows}
use Rattle.step_table.specs.declared.cells.PartKind.{PartKind}
use Rattle.step_table.specs.declared.cells.PartKind.TheVariants as part
use Rattle.ticks.specs.declared.grid.Grid.{Grid}

-- a query over a store, while engines hold samples too
abbrev pub asked_with : AllSeries → Kept → Grid → List AllSeries → Asked
asked_with samples kept span engines = record (asked_over samples kept span) { engines = engines }

-- requests were added behind others
pub record AreAdded (before now : List Request) : Type 0 where
  pub more : List Request
  pub is : now ≡ before ++ more

-- each request that was added is of some kind
abbrev pub EachAdded : (Request → Type 0) → (before now : List Request) → Type 0
EachAdded Is before now = (k : ℕ) (r : Request) → slice_get now k ≡ Some r → length before ≤ k → Is r

-- each of these may be made
abbrev pub MayMake : Grid → Kept → (before now : List Request) → Type 0
MayMake span kept = EachAdded (MayRequest span kept)

-- each gather of a tree stands for a request that was added, and no two for one
pub record HaveOwn (before now : List Request) (places : List ℕ) : Type 0 where
  pub behind : (k : ℕ) → Contains places k → length before ≤ k
  pub within : (k : ℕ) → Contains places k → k < length now
  pub apart : AreDistinct places

-- what a gather of a tree gives, as one of a plan does: a step as a vector, and windows at the moment and of the range of a range vector
abbrev pub given_by : PartKind → Windows → Gathered → Given
given_by part.Rows none g = given.Vector g.step
given_by part.Windows none g = given.Windows (record none { rules = []; rows = g.windows.rows; marks = g.windows.marks })
given_by (part.Partial f by) none g = given.Vector g.step

-- gathers give what those of a plan do for these requests
abbrev pub AreMeant : Asked → List Request → Gathers → Type 0
AreMeant asked requests gathers =
    (k : ℕ) (r : Request) (t : ℤ) → slice_get requests k ≡ Some r → IsTrue (is_served_part r.part.kind r.part.expr)
    → gathered asked r.part.expr r.part.kind r.engines t ≡ given_by r.part.kind (windows_of (given_over asked r.part.expr t [])) (gathers k t)
