-- What a tree lends, and when it may go on. (This project's own.)
use Rattle.std.specs.Prelude.{◌≡◌, ◌<◌, ℕ, ℤ, pos, List, [], ◌∷◌, length, slice_get, Option, None, Some, ⊤}
use Rattle.exchange.specs.declared.place.Place.{Place}
use Rattle.label_set.specs.declared.rules.Relabel.{Relabel}
use Rattle.label_set.specs.declared.rules.Relabel.TheVariants.{Filter}
use Rattle.label_set.specs.declared.rules.Rule.{Rule}
use Rattle.op_labels.specs.Rules.{HasPatterns, IsFilter, IsMadeBy, Kept, Relabelling}
use Rattle.op_select.specs.Newest.{AreNamed, marks_of}
use Rattle.op_select.specs.declared.select.Select.{Select}
use Rattle.op_window.specs.Kernels.{Kernel}
use Rattle.op_window.specs.Rules.{AreFramed, frame_at}
use Rattle.op_window.specs.Sliding.{walked_of}
use Rattle.promql_meaning.specs.Selecting.{lookback}
use Rattle.sample_store.specs.Samples.{AllSeries}
use Rattle.series_marks.specs.Reaches.{IsReached}
use Rattle.step_batch.specs.Lent.{Lent, stages}
use Rattle.step_batch.specs.LentWindows.{WindowsAt}
use Rattle.step_kernels.specs.Binaries.{binary_lent, binary_rule}
use Rattle.step_kernels.specs.Unaries.{CanFeedUnary, unary_lent, unary_rule}
use Rattle.step_table.specs.Groups.{Names}
use Rattle.step_table.specs.Timed.{steps_over}
use Rattle.subquery_rows.specs.Rings.{IsNextAfter, Ring, Stands}
use Rattle.ticks.specs.Walks.{HasTimes, IsTime, moment_at}
use Rattle.ticks.specs.declared.moment.Ms.{Ms}
use Rattle.ticks.specs.declared.walk.Walk.{Walk}
use Rattle.plan_tree.specs.declared.node.Node.{Node}
use Rattle.plan_tree.specs.declared.node.Node.TheVariants as node
use Rattle.plan_tree.specs.declared.turns.Fed.{Fed}
use Rattle.plan_tree.specs.Feeds.{last_of, once, reached_of}
use Rattle.plan_tree.specs.Shapes.{BinaryOf, ClampOf, GatherOf, InstantsOf, OnceOf, PointsOf, SelectOf, SeriesOf, Shape, UnaryOf, WindowsOf, rule}
use Rattle.plan_tree.specs.Worlds.{Gathers, World, no_windows, world}

-- ---- what it is made of

-- the rules of a filter
abbrev pub rules_in : Relabel → List Rule
rules_in (Filter rules) = rules
rules_in rule = []

-- those of the filter that windows pass, if there is one
abbrev pub rules_of : Option Relabelling → Option (List Rule)
rules_of None = None
rules_of (Some passed) = Some (rules_in passed.rule)

abbrev pub shape_of : Node → Shape
shape_of (node.Instants kernel none) = InstantsOf kernel.rule
shape_of (node.Select kernel) = SelectOf kernel.series kernel.moment kernel.stamped
shape_of (node.Series' kernel p scalar) = SeriesOf kernel.series kernel.f kernel.moment kernel.range (shape_of scalar)
shape_of (node.Unary' kernel p rows) = UnaryOf (unary_rule kernel) (shape_of rows)
shape_of (node.Binary' kernel p rows q beside) = BinaryOf (binary_rule kernel) (shape_of rows) (shape_of beside)
shape_of (node.Clamp' kernel p rows q low r high) = ClampOf kernel.rule (shape_of rows) (shape_of low) (shape_of high)
shape_of (node.Points' kernel fed p inner q scalar) =
    PointsOf kernel.f kernel.walk kernel.points.moment kernel.points.range kernel.points.step (shape_of inner) (shape_of scalar)
shape_of (node.Once' first steps p child) = OnceOf first (shape_of child)
shape_of (node.Gather place) = GatherOf place
shape_of (node.Windows' kernel place passed p scalar) = WindowsOf place kernel.f kernel.moment kernel.range (rules_of passed) (shape_of scalar)

-- ---- what it lends

-- what the gather at a place lends, if there is one
abbrev pub lent_of : Option Place → Lent
lent_of None = record { labels = []; steps = [] }
lent_of (Some place) = place.gather.lent

-- and the windows that it lends
abbrev pub windows_of : Option Place → WindowsAt
windows_of None = no_windows (pos 0)
windows_of (Some place) = place.gather.windows

abbrev pub windows_at : List Place → ℕ → WindowsAt
windows_at places place = windows_of (slice_get places place)

-- what is lent of the instants that were fed last; a gather's step is lent at its place
abbrev pub lent_by : List Place → Node → Lent
lent_by places (node.Instants kernel none) = kernel.lent
lent_by places (node.Select kernel) = kernel.buffer
lent_by places (node.Series' kernel p scalar) = kernel.buffer
lent_by places (node.Unary' kernel p rows) = unary_lent kernel
lent_by places (node.Binary' kernel p rows q beside) = binary_lent kernel
lent_by places (node.Clamp' kernel p rows q low r high) = kernel.lent
lent_by places (node.Points' kernel fed p inner q scalar) = kernel.buffer
lent_by places (node.Once' first steps p child) = steps
lent_by places (node.Gather place) = lent_of (slice_get places place)
lent_by places (node.Windows' kernel place passed p scalar) = kernel.buffer

-- there is a gather at its place
abbrev pub IsThere : List Place → Node → Type 0
IsThere places (node.Instants kernel none) = ⊤
IsThere places (node.Select kernel) = ⊤
IsThere places (node.Series' kernel p scalar) = ⊤
IsThere places (node.Unary' kernel p rows) = ⊤
IsThere places (node.Binary' kernel p rows q beside) = ⊤
IsThere places (node.Clamp' kernel p rows q low r high) = ⊤
IsThere places (node.Points' kernel fed p inner q scalar) = ⊤
IsThere places (node.Once' first steps p child) = ⊤
IsThere places (node.Gather place) = place < length places
IsThere places (node.Windows' kernel place passed p scalar) = ⊤

-- ---- going on

-- the marks of a selector stand where what was fed has brought them, and its labels are named
pub record SelectGoes (store : AllSeries) (fed : Option Fed) (kernel : Select) : Type 0 where
  pub marks : kernel.marks ≡ marks_of kernel.reached store kernel.series
  pub labels : AreNamed kernel.reached kernel.buffer.labels store kernel.series
  pub reached : kernel.reached ≡ reached_of lookback kernel.moment fed
  pub edge : IsReached kernel.moment.closed lookback kernel.reached

-- the windows of series stand where what was fed has brought them
pub record SeriesGoes (store : AllSeries) (fed : Option Fed) (kernel : Kernel) : Type 0 where
  pub walked : kernel.walked ≡ walked_of kernel.moment.closed kernel.range.0 kernel.reached store kernel.series
  pub reached : kernel.reached ≡ reached_of kernel.range.0 kernel.moment fed
  pub edge : IsReached kernel.moment.closed kernel.range.0 kernel.reached

-- a subquery was fed what its inner tree gives, of which the next instant is behind those that the tree was fed, and has given its
-- own steps up to the last one
pub record PointsGo (w : World) (kept : Kept) (fed : Option Fed) (kernel : Ring) (inner_fed : Option Fed) (inner : Shape) : Type 0 where
  pub outer : Walk
  pub stands : Stands kernel outer (rule w kept inner) (last_of fed)
  pub next : IsNextAfter kernel.walk (last_of inner_fed) kernel.next

-- once it was fed, a tree that is fed one instant alone lends its step, under labels that have their places
abbrev pub IsRepeated : World → Kept → Ms → Shape → Lent → List Names → Option Fed → Type 0
IsRepeated w kept first shape lent labels None = ⊤
IsRepeated w kept first shape lent labels (Some fed) = (stages lent ≡ steps_over (rule w kept shape) (first ∷ [])) × (labels ≡ lent.labels)

-- a rule is a filter that windows can be fed to
pub record CanFilter (kept : Kept) (passed : Relabelling) : Type 0 where
  pub made : IsMadeBy kept passed
  pub patterns : HasPatterns kept passed.rule
  pub filter : IsFilter passed.rule

-- so is the one that windows pass, if there is one
abbrev pub CanPass : Kept → Option Relabelling → Type 0
CanPass kept None = ⊤
CanPass kept (Some passed) = CanFilter kept passed

-- windows of an instant lie in the window of a kernel that ends at its moment
pub record AreGiven (kernel : Kernel) (windows : WindowsAt) : Type 0 where
  pub time : IsTime windows.at.0
  pub ends : HasTimes (moment_at kernel.moment windows.at.0) kernel.range.0
  pub within : AreFramed (frame_at kernel.moment kernel.range windows.at) windows.rows

-- each kernel stands where what was fed has brought it; what a gather has come to is said beside it
abbrev pub CanGo : World → Kept → List Place → Option Fed → Node → Type 0
CanGo w kept places fed (node.Instants kernel none) = ⊤
CanGo w kept places fed (node.Select kernel) = SelectGoes w.samples fed kernel
CanGo w kept places fed (node.Series' kernel p scalar) = SeriesGoes w.samples fed kernel × CanGo w kept places fed scalar
CanGo w kept places fed (node.Unary' kernel p rows) = CanFeedUnary kept kernel × CanGo w kept places fed rows
CanGo w kept places fed (node.Binary' kernel p rows q beside) = CanGo w kept places fed rows × CanGo w kept places fed beside
CanGo w kept places fed (node.Clamp' kernel p rows q low r high) = CanGo w kept places fed rows × CanGo w kept places fed low × CanGo w kept places fed high
CanGo w kept places fed (node.Points' kernel inner_fed p inner q scalar) =
    PointsGo w kept fed kernel inner_fed (shape_of inner) × CanGo w kept places inner_fed inner × CanGo w kept places fed scalar
CanGo w kept places fed (node.Once' first steps p child) =
    CanGo w kept places (once first fed) child × IsRepeated w kept first (shape_of child) (lent_by places child) steps.labels fed
CanGo w kept places fed (node.Gather place) = ⊤
CanGo w kept places fed (node.Windows' kernel place passed p scalar) = CanPass kept passed × CanGo w kept places fed scalar

-- a tree that was fed nothing may be fed over a store, whatever gathers give and wherever they stand
abbrev pub MayStart : AllSeries → Kept → Node → Type 0
MayStart store kept tree = (gathers : Gathers) (places : List Place) → CanGo (world store gathers) kept places None tree
