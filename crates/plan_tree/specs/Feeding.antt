-- When a tree may be fed, and what a feed makes of it and of the engines behind its gathers. (This project's own.)
use Rattle.std.specs.Prelude.{◌≡◌, ◌<◌, ℕ, ℤ, List, [], ◌∷◌, length, slice_get, Option, Some, Result, OnOk, IsTrue}
use Rattle.std.specs.List.{AllByRecursion}
use Rattle.exchange.specs.Calls.{Each, Grows, HasSameAsks}
use Rattle.exchange.specs.Faults.{Faulted}
use Rattle.exchange.specs.declared.fault.RunFault.{RunFault}
use Rattle.exchange.specs.declared.place.Place.{Place}
use Rattle.op_labels.specs.Rules.{Kept}
use Rattle.remote_api.specs.Seen.{EngineSeen, KeepsStrays}
use Rattle.sample_store.specs.Samples.{AllSeries}
use Rattle.step_batch.specs.Lent.{Lent, stages}
use Rattle.step_table.specs.Timed.{steps_over}
use Rattle.subquery_rows.specs.Rings.{IsAsked, IsNextAfter, Ring, Stands}
use Rattle.ticks.specs.Listed.{IsListed}
use Rattle.ticks.specs.Walks.{IsInstant}
use Rattle.ticks.specs.declared.moment.Ms.{Ms}
use Rattle.ticks.specs.declared.walk.Walk.{Walk}
use Rattle.plan_tree.specs.declared.node.Node.{Node}
use Rattle.plan_tree.specs.declared.turns.Fed.{Fed}
use Rattle.plan_tree.specs.Feeds.{Goes, fed_on, last_of, once}
use Rattle.plan_tree.specs.Gathering.{AreDue, HaveCome, Instants, IsOut}
use Rattle.plan_tree.specs.Nodes.{CanGo, IsRepeated, lent_by, shape_of}
use Rattle.plan_tree.specs.Shapes.{AreDistinct, HasPlace, IsFit, Shape, StaysInTimes, is_single, places_of, rule}
use Rattle.plan_tree.specs.Worlds.{ArePossible, Gathers, IsGrown, Taken, World, world}

-- ---- before

-- a tree goes on from what it was fed: in each world that may be that of the engines its kernels stand where this has brought them,
-- its gathers have come to it, and no two of them are one
pub record GoesOn (store : AllSeries) (kept : Kept) (es : List EngineSeen) (places : List Place) (times : List Ms) (fed : Option Fed) (tree : Node) : Type 0 where
  pub all : Instants
  pub known : Option Gathers
  pub taken : Taken
  pub out : IsOut all known taken kept es places
  pub can : (gathers : Gathers) → ArePossible taken gathers → CanGo (world store gathers) kept places fed tree
  pub come : HaveCome all places times fed tree
  pub fit : IsFit store (shape_of tree)
  pub apart : AreDistinct (places_of (shape_of tree))

-- a tree may be fed instants, one at least, which rise behind those that were fed; where there is a subquery or a gather, one alone,
-- the next one
pub record CanFeed (store : AllSeries) (kept : Kept) (es : List EngineSeen) (places : List Place) (fed : Option Fed) (at : List Ms) (tree : Node) : Type 0 where
  pub times : List Ms
  pub goes_on : GoesOn store kept es places times fed tree
  pub due : AreDue times fed at
  pub goes : Goes fed at
  pub stays : AllByRecursion (λ (t : Ms). StaysInTimes (shape_of tree) t.0) at
  pub single : IsTrue (is_single (shape_of tree)) → length at ≡ 1
  pub some : 0 < length at

-- a subquery is asked for an outer instant, and its inner tree may go on
pub record CanFill (store : AllSeries) (kept : Kept) (es : List EngineSeen) (places : List Place) (fed : Option Fed) (kernel : Ring) (t : Ms) (inner : Node) : Type 0 where
  pub times : List Ms
  pub listed : IsListed kernel.walk times
  pub goes_on : GoesOn store kept es places times fed inner
  pub outer : Walk
  pub last : Option Ms
  pub asked : (gathers : Gathers) → ArePossible goes_on.taken gathers → IsAsked kernel outer (rule (world store gathers) kept (shape_of inner)) last t
  pub next : IsNextAfter kernel.walk (last_of fed) kernel.next
  pub stays : (u : ℤ) → IsInstant kernel.walk u → StaysInTimes (shape_of inner) u

-- a tree that is fed one instant alone was fed it, or may be
pub record CanRepeat (store : AllSeries) (kept : Kept) (es : List EngineSeen) (places : List Place) (first : Ms) (fed : Option Fed) (steps : Lent) (child : Node) : Type 0 where
  pub goes_on : GoesOn store kept es places (first ∷ []) (once first fed) child
  pub repeated : (gathers : Gathers) → ArePossible goes_on.taken gathers → IsRepeated (world store gathers) kept first (shape_of child) (lent_by places child) steps.labels fed
  pub stays : StaysInTimes (shape_of child) first.0

-- a tree lends the steps that it means at some instants, in some world
pub record IsLending (places : List Place) (at : List Ms) (tree : Node) : Type 0 where
  pub w : World
  pub kept : Kept
  pub steps : stages (lent_by places tree) ≡ steps_over (rule w kept (shape_of tree)) at

-- ---- afterwards

-- what was taken has grown, all gathers of the exchange stand, and in each world that may be that of the engines a tree of a shape has
-- come to what was fed, and lends the steps that it means at some instants
pub record HasMade (store : AllSeries) (kept : Kept) (es : List EngineSeen) (places : List Place) (all : Instants) (known : Option Gathers) (before : Taken) (times : List Ms) (to : Option Fed) (at : List Ms) (shape : Shape) (new : Node) : Type 0 where
  pub taken : Taken
  pub grown : IsGrown before taken
  pub out : IsOut all known taken kept es places
  pub lent : (gathers : Gathers) → ArePossible taken gathers → stages (lent_by places new) ≡ steps_over (rule (world store gathers) kept shape) at
  pub can : (gathers : Gathers) → ArePossible taken gathers → CanGo (world store gathers) kept places to new
  pub come : HaveCome all places times to new

abbrev pub HasFed : (store : AllSeries) (kept : Kept) (es fs : List EngineSeen) (places now : List Place) (fed : Option Fed) (at : List Ms) (old new : Node) → Type 0
HasFed store kept es fs places now fed at old new =
    (c : CanFeed store kept es places fed at old) → HasMade store kept fs now c.goes_on.all c.goes_on.known c.goes_on.taken c.times (fed_on fed at) at (shape_of old) new

-- a subquery has all that its window at an outer instant wants, and its inner tree has come to what it was fed by then
pub record HasFilled (store : AllSeries) (kept : Kept) (es : List EngineSeen) (places : List Place) (all : Instants) (known : Option Gathers) (before : Taken) (times : List Ms) (to : Option Fed) (kernel ring : Ring) (t : Ms) (old new : Node) : Type 0 where
  pub taken : Taken
  pub grown : IsGrown before taken
  pub out : IsOut all known taken kept es places
  pub stands : (gathers : Gathers) → ArePossible taken gathers → (outer : Walk) (last : Option Ms) → IsAsked kernel outer (rule (world store gathers) kept (shape_of old)) last t → Stands ring outer (rule (world store gathers) kept (shape_of old)) last
  pub can : (gathers : Gathers) → ArePossible taken gathers → CanGo (world store gathers) kept places to new
  pub come : HaveCome all places times to new

-- ---- engines

-- what calls have made of the engines: there are as many, none holds anything else, faults haven't fallen, and a fault is answered only
-- of an engine that has failed or strayed; where none is answered, none has strayed
pub record HasGone {T : Type 0} (result : Result T RunFault) (es fs : List EngineSeen) : Type 0 where
  pub many : length fs ≡ length es
  pub grown : Each Grows es fs
  pub calm : OnOk result (Each KeepsStrays es fs)
  pub fault : Faulted result es fs

-- and where no fault is answered, none has been asked either
pub record HasRun {T : Type 0} (result : Result T RunFault) (es fs : List EngineSeen) : Type 0 where
  pub gone : HasGone result es fs
  pub asked : OnOk result (Each HasSameAsks es fs)

-- the gathers of others than a tree are as they were
abbrev pub OthersStay : Shape → (places now : List Place) → Type 0
OthersStay shape places now = (k : ℕ) → (HasPlace shape k → ⊥) → slice_get now k ≡ slice_get places k
